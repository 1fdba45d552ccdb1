-- Keys are taken while there are LOOP rows before the last row and room for them.
use mathlib.Core.Path.{◌≡◌}
use Prim.Native.Nat.{◌+◌, ◌≤◌}
use lib.ListN.{length, take}
use Rattle.rows.specs.ways.LoopCounts.{Held}
use Rattle.rows.proofs.passes.multiplicity.LoopTable.gather.Given as goal

abbrev pub invariant-loop-next : goal.invariant-loop-next
invariant-loop-next l = (l.self.len ≤ 4096) × (l.self.len + l.from ≤ l.next) × (length l.self.keys ≡ 4096) × Held l.profile l.buffer l.from l.next (take l.self.len l.self.keys)
