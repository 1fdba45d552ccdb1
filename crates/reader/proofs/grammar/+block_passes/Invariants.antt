-- `grammar::block` and `grammar::passes` meet their contracts: the rows left fall from call to call.
use mathlib.Core.Path.{◌≡◌}
use mathlib.Core.Option.{none}
use Prim.Native.Nat.{◌<◌, ◌≤◌, ◌+◌, ◌-◌, ◌*◌, ◌/◌}
use lib.ListN.{length}
use Rattle.theory_readings.specs.Readings.{all_rows}
use Rattle.reader.specs.Rows.{word_in}
use Rattle.reader.specs.KeptKinds.{KeptKinds}
use Rattle.reader.specs.ways.Parts.{PartRead, told_wrong}
use Rattle.reader.proofs.PartLaws.{PassesFrom}
use Rattle.reader.proofs.grammar.+block_passes.Given as goal

abbrev pub decreases-block : goal.decreases-block
decreases-block l = 2 * (length l.lent.now.cells.now / 49 - l.row)

abbrev pub decreases-passes : goal.decreases-passes
decreases-passes l = 2 * (length l.lent.now.cells.now / 49 - (l.row + 1)) + 1

abbrev pub invariant-passes-loop-next : goal.invariant-passes-loop-next
invariant-passes-loop-next l =
    (length l.kinds ≡ length l.initial.kinds) × KeptKinds l.lent.profile l.lent.cells.now l.lent.table.now l.kinds × (l.row < l.at) × (l.at ≤ length l.lent.cells.now / 49) × (1 ≤ l.count) × (l.count ≤ l.at)
    × ((r : PartRead) → PassesFrom (all_rows l.lent.cells.now) (word_in l.lent.profile l.lent.cells.now) l.row l.at l.left l.flag (l.count - 1) (told_wrong l.so_far) r → PassesFrom (all_rows l.lent.cells.now) (word_in l.lent.profile l.lent.cells.now) l.row (l.row + 1) l.left l.flag 0 none r)

abbrev pub decreases-passes-loop-next : goal.decreases-passes-loop-next
decreases-passes-loop-next l = length l.lent.cells.now / 49 - l.at
