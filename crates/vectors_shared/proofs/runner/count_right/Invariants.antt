-- `runner::count_right`: at most each vector so far came out right.
use Rattle.std.proofs.Common.{◌≤◌}
use Rattle.vectors_shared.proofs.runner.count_right.Given as goal

abbrev pub invariant-loop-k : goal.invariant-loop-k
invariant-loop-k g l = goal.F-IsAlwaysCallable g l.vector × (l.right ≤ l.k)
