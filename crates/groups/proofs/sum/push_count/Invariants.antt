-- `sum::push_count` meets its contract. The loop's invariant: `sum` of the k lowest digits are PUSH, and `rest` has the others.
use mathlib.Core.Path.{◌≡◌}
use Prim.Native.Nat.{◌+◌, ◌-◌, ◌≤◌}
use Rattle.groups.specs.GroupsLeft.{pushes}
use Rattle.groups.proofs.sum.push_count.Given as goal

abbrev pub invariant-loop-k : goal.invariant-loop-k
invariant-loop-k l = (l.sum ≤ l._k) × (pushes l.push l.n l.group ≡ l.sum + pushes l.push (l.n - l._k) l.rest)
