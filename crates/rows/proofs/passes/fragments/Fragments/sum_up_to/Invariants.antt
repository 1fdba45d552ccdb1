-- `Fragments::sum_up_to` meets its contract. The loop's invariant: with the counts that are left, the sum comes to the same.
use mathlib.Core.Path.{◌≡◌}
use Prim.Native.Nat.{◌+◌, ◌≤◌, min}
use lib.ListN.{drop}
use Rattle.rows.specs.passes.Passes.{sum_of}
use Rattle.rows.proofs.passes.fragments.Fragments.sum_up_to.Given as goal

abbrev pub invariant-loop-count : goal.invariant-loop-count
invariant-loop-count l = (l.sum ≤ l.cap) × (min l.cap (l.sum + sum_of (drop l.count-index l.self.counts.now)) ≡ min l.cap (sum_of l.self.counts.now))
