-- Row by row, a flagged END counts at the address behind it.
use mathlib.Core.Path.{◌≡◌}
use Prim.Native.Nat.{ℕ, ◌+◌, ◌≤◌}
use lib.ListN.{take, get_or}
use Rattle.rows.specs.ways.LoopCounts.{ends_in, Tallied}
use Rattle.rows.proofs.passes.multiplicity.LoopTable.count_ends.Given as goal

abbrev pub invariant-loop-i : goal.invariant-loop-i
invariant-loop-i l = (l.self.len ≡ l.initial.self.len) × (l.self.keys ≡ l.initial.self.keys) × ((p : ℕ) → get_or l.self.counts p 0 ≤ l.i)
    × Tallied (take l.initial.self.len l.initial.self.keys) l.self.counts (ends_in l.profile (l.i + 1) l.buffer)
