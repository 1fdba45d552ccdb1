-- `trace::halts` meets its contract.
use mathlib.Core.Path.{◌≡◌}
use Prim.Native.Nat.{◌≤◌, ◌/◌}
use lib.ListN.{length}
use Rattle.theory_readings.specs.Readings.{Block}
use Rattle.theory_readings.specs.ways.Parser.{after_halt}
use Rattle.reader.specs.Rows.{word_in}
use Rattle.reader.specs.ways.FromRow.{rows_from}
use Rattle.reader.specs.KeptKinds.{KeptKinds}
use Rattle.reader.proofs.trace.halts.Given as goal

abbrev pub invariant-loop-at : goal.invariant-loop-at
invariant-loop-at l =
    (length l.kinds ≡ length l.initial.kinds) × KeptKinds l.lent.profile l.lent.cells.now l.lent.table.now l.kinds × (l.from ≤ l.at) × (l.at ≤ length l.lent.cells.now / 49)
    × ((b : Block) → after_halt b (rows_from (word_in l.lent.profile l.lent.cells.now) l.from) ≡ after_halt b (rows_from (word_in l.lent.profile l.lent.cells.now) l.at))
