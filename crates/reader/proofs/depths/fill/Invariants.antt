-- `depths::fill` meets its contract.
use mathlib.Core.Path.{◌≡◌}
use mathlib.Core.List.{◌++◌}
use Prim.Native.Nat.{◌≤◌, ◌/◌}
use lib.ListN.{length, take, drop}
use Rattle.theory_readings.specs.ways.Parser.{levels}
use Rattle.reader.specs.Rows.{word_in}
use Rattle.reader.proofs.depths.fill.Given as goal

abbrev pub invariant-loop-at : goal.invariant-loop-at
invariant-loop-at l =
    (l.at ≤ length l.lent.cells.now / 49) × (l.opened ≤ l.at) × (length l.depths ≡ length l.initial.depths) × (drop (length l.lent.cells.now / 49) l.depths ≡ drop (length l.lent.cells.now / 49) l.initial.depths)
    × (take l.at l.depths ++ levels l.opened (drop l.at (word_in l.lent.profile l.lent.cells.now)) ≡ levels 0 (word_in l.lent.profile l.lent.cells.now))
