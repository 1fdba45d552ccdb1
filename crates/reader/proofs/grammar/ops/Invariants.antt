-- `grammar::ops` meets its contract: what is right from a row on is right from the first.
use mathlib.Core.Path.{◌≡◌}
use Prim.Native.Nat.{◌≤◌, ◌-◌, ◌/◌}
use lib.ListN.{length}
use Rattle.theory_readings.specs.Readings.{all_rows}
use Rattle.reader.specs.Rows.{word_in}
use Rattle.reader.specs.KeptKinds.{KeptKinds}
use Rattle.reader.specs.ways.Parts.{PartRead, OpsRight}
use Rattle.reader.proofs.grammar.ops.Given as goal

abbrev pub invariant-loop-at : goal.invariant-loop-at
invariant-loop-at l =
    (length l.kinds ≡ length l.initial.kinds) × KeptKinds l.lent.profile l.lent.cells.now l.lent.table.now l.kinds × (l.row ≤ l.at) × (l.at ≤ length l.lent.cells.now / 49)
    × ((r : PartRead) → OpsRight (all_rows l.lent.cells.now) (word_in l.lent.profile l.lent.cells.now) l.at l.flag r → OpsRight (all_rows l.lent.cells.now) (word_in l.lent.profile l.lent.cells.now) l.row l.flag r)

abbrev pub decreases-loop-at : goal.decreases-loop-at
decreases-loop-at l = length l.lent.cells.now / 49 - l.at
