-- `read_rows::count_rows` meets its contract. The loop's invariant: the first rows are read, and they are few enough.
use Prim.Native.Nat.{◌≤◌}
use lib.ListN.{length}
use Rattle.dump.proofs.RowsLaws.{RowsTo}
use Rattle.dump.proofs.read_rows.count_rows.Given as goal

abbrev pub invariant-loop-rest : goal.invariant-loop-rest
invariant-loop-rest l = RowsTo l.text l.row l.number l.rest × (l.number ≤ 16777216)

abbrev pub decreases-loop-rest : goal.decreases-loop-rest
decreases-loop-rest l = length l.rest
