-- `lengths::rows_bytes` meets its contract. The loop's invariant: the lines of the rows passed are counted.
use mathlib.Core.Path.{◌≡◌}
use lib.ListN.{length}
use Rattle.dump.specs.ways.Places.{lines_to}
use Rattle.dump.proofs.lengths.rows_bytes.Given as goal

abbrev pub invariant-loop-row : goal.invariant-loop-row
invariant-loop-row l = l.bytes ≡ length (lines_to l.cells l.row)
