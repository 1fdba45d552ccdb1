-- `Fragments::any_above` meets its contract.
use mathlib.Core.Path.{sym, ◌∙◌}
use lib.Dec.{ltb}
use Rattle.std.proofs.Common.{rules, tests}
use Rattle.std.proofs.lemmas.Iterator.{YieldsList-from_slice}
use Rattle.std.proofs.lemmas.Iterator.Search.{any_from_yields_List}
use Rattle.rows.proofs.passes.Counts.{above-list_any}
use Rattle.rows.proofs.passes.fragments.Fragments.any_above.Goals as goal

pub returns : goal.returns
returns c = any_from_yields_List (ltb c.args.self.now.size) _ _ _ c.any.ensures.ran (YieldsList-from_slice c.args.self.now.counts.now cc) (λ x b q k. search (rules, tests))
    ∙ sym (above-list_any c.args.self.now.size c.args.self.now.counts.now)
