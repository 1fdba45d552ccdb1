-- One more for a key: at its place, or nowhere.
use mathlib.Core.Path.{refl, sym, ◌∙◌}
use native.Mathlib.Omega.{arith}
use lib.ListN.{take, length-take}
use lib.Seq.{get_or-take}
use Rattle.rows.proofs.passes.Tallies.{bump-there, bump-missing}
use Rattle.rows.proofs.passes.multiplicity.LoopTable.bump.Goals as goal

pub returns-then-self-at : goal.returns-then-self-at
returns-then-self-at c = let t = c.args.self.now in
    (refl, refl, bump-there (take t.len t.keys) t.counts c.args.x c.lower-at.result (c.lower-at.ensures.1 c.requires.1) (omega arith) (get_or-take t.len t.keys c.lower-at.result 0 (omega arith) ∙ c.if-self-at.true))

pub returns-else-self-at : goal.returns-else-self-at
returns-else-self-at c = let t = c.args.self.now in
    (refl, refl, bump-missing (take t.len t.keys) t.counts c.args.x c.lower-at.result (c.lower-at.ensures.1 c.requires.1) (λ h e. c.if-self-at.false (sym (get_or-take t.len t.keys c.lower-at.result 0 (omega arith)) ∙ e)))

pub returns-else-at-self : goal.returns-else-at-self
returns-else-at-self c = let t = c.args.self.now in
    (refl, refl, bump-missing (take t.len t.keys) t.counts c.args.x c.lower-at.result (c.lower-at.ensures.1 c.requires.1) (λ h. absurd (omega (arith, h, length-take t.len t.keys))))
