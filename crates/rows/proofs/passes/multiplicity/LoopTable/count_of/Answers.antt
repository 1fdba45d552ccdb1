-- The count at the place of a key.
use mathlib.Core.Path.{◌∙◌}
use lib.ListN.{take}
use Rattle.rows.proofs.passes.Tallies.{count-found}
use Rattle.rows.proofs.passes.multiplicity.LoopTable.count_of.Goals as goal

pub returns : goal.returns
returns c = λ o s count t. c.item_or.ensures ∙ count-found (take c.args.self.now.len c.args.self.now.keys) c.args.self.now.counts c.args.x c.lower.result o (c.lower.ensures.1 o) s count t
