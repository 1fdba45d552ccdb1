-- `change::count_starts` meets its contract.
use mathlib.Core.Path.{◌≡◌}
use Prim.Native.Nat.{◌+◌, ◌/◌, ◌≤◌}
use lib.ListN.{length}
use Rattle.theory_indexes.specs.ways.IndexScan.{starts}
use Rattle.reader.specs.Rows.{word_in}
use Rattle.reader.specs.ways.FromRow.{rows_from}
use Rattle.index.proofs.change.count_starts.Given as goal

abbrev pub invariant-loop-at : goal.invariant-loop-at
invariant-loop-at l =
    (l.at ≤ length l.lent.cells.now / 49) × (l.count ≤ l.at) × (l.count + starts (rows_from (word_in l.lent.profile l.lent.cells.now) l.at) ≡ starts (rows_from (word_in l.lent.profile l.lent.cells.now) 0))
