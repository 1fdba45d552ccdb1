-- Chunk by chunk, what is asked from a row on is what is asked of all.
use mathlib.Core.Path.{◌≡◌}
use Prim.Native.Nat.{◌-◌, ◌≤◌}
use Rattle.rows.specs.ways.LoopCounts.{ends_in, lacks_from}
use Rattle.rows.proofs.passes.multiplicity.any_by_tables.Given as goal

abbrev pub invariant-loop-from : goal.invariant-loop-from
invariant-loop-from l = (l.from ≤ l.rows) × (lacks_from l.profile (ends_in l.profile l.rows l.buffer) l.rows l.from l.buffer ≡ lacks_from l.profile (ends_in l.profile l.rows l.buffer) l.rows 0 l.buffer)

abbrev pub decreases-loop-from : goal.decreases-loop-from
decreases-loop-from l = l.rows - l.from
