-- `lengths::changes_bytes` meets its contract. The loop's invariant: the lines of the columns passed are counted.
use mathlib.Core.Path.{◌≡◌}
use lib.ListN.{length}
use Rattle.dump.specs.ways.Places.{changes_to}
use Rattle.dump.proofs.lengths.changes_bytes.Given as goal

abbrev pub invariant-loop-column : goal.invariant-loop-column
invariant-loop-column l = l.bytes ≡ length (changes_to l.row.cells.now l.row.row l.column)
