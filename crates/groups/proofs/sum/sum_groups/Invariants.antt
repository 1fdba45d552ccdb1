-- `sum::sum_groups` meets its contract. The loop's invariant: the sum is that of batches `from` to k, and the rest is to come.
use mathlib.Core.Path.{◌≡◌}
use mathlib.Core.Bool.{◌||◌}
use Prim.Native.Nat.{◌+◌, ◌-◌, ◌*◌, ◌≤◌}
use Rattle.groups.specs.GroupsLeft.{counts, sum_groups, any_above8}
use Rattle.groups.proofs.sum.sum_groups.Given as goal

abbrev pub invariant-loop-k : goal.invariant-loop-k
invariant-loop-k l = (l.k - l.from ≤ l.to - l.from) × (l.sum.groups ≤ 4294967296 * (l.k - l.from)) × (sum_groups l.rounded (counts l.batches (l.first + l.from) (l.to - l.from)) ≡ l.sum.groups + sum_groups l.rounded (counts l.batches (l.first + l.k) (l.to - l.k))) × (any_above8 (counts l.batches (l.first + l.from) (l.to - l.from)) ≡ (l.sum.above8 || any_above8 (counts l.batches (l.first + l.k) (l.to - l.k))))
