-- `read_rows::after_changes` meets its contract. The loop's invariant: the values of the first columns are read.
use Prim.Native.Nat.{◌-◌}
use Rattle.dump.proofs.RowLaws.{RowTo}
use Rattle.dump.proofs.read_rows.after_changes.Given as goal

abbrev pub invariant-loop-line : goal.invariant-loop-line
invariant-loop-line l = RowTo l.text l.initial.row l.row l.column l.rest

abbrev pub decreases-loop-line : goal.decreases-loop-line
decreases-loop-line l = 49 - l.column
