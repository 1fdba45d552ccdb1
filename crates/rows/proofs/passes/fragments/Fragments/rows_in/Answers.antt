-- `Fragments::rows_in` meets its contract: the test is the definition's, and where it fails the sum is below the cap.
use mathlib.Core.Path.{◌≡◌, refl, sym, ◌∙◌}
use mathlib.Core.Bool.{false}
use Rattle.rows.specs.passes.Passes.{fragments_wrong}
use Rattle.rows.proofs.passes.Counts.{fragments-test}
use Rattle.rows.proofs.passes.Finishing.{sum-uncapped}
use Rattle.rows.proofs.passes.fragments.Fragments.rows_in.Goals as goal

pub returns-then-fragment_wrong-self : goal.returns-then-fragment_wrong-self
returns-then-fragment_wrong-self c =
    let test = rw (c.fragment_wrong.ensures, c.sum_up_to-rows.ensures, c.any_above.ensures) at c.if-fragment_wrong-self.true in
    (refl, sym (fragments-test c.args.cells c.args.self.now.size c.args.self.now.counts.now c.args.self.now.built.now) ∙ test)

pub returns : goal.returns
returns c =
    let test = rw (c.fragment_wrong.ensures, c.sum_up_to-rows.ensures, c.any_above.ensures) at c.if-fragment_wrong-self.false in
    let right : fragments_wrong c.args.cells c.args.self.now.size c.args.self.now.counts.now c.args.self.now.built.now ≡ false = sym (fragments-test c.args.cells c.args.self.now.size c.args.self.now.counts.now c.args.self.now.built.now) ∙ test in
    (c.sum_up_to-rows.ensures ∙ sum-uncapped _ _ _ _ right, right)
