-- `cases::count_right`: at most each case so far came out right.
use Rattle.std.proofs.Common.{◌≤◌}
use Rattle.vectors_replay.proofs.cases.count_right.Given as goal

abbrev pub invariant-loop-k : goal.invariant-loop-k
invariant-loop-k g l = goal.F-IsAlwaysCallable g l.is_right × (l.right ≤ l.k)
