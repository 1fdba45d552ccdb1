-- Chunk by chunk, the buffer with the counts from a row on is that of the whole pass.
use mathlib.Core.Path.{◌≡◌}
use Prim.Native.Nat.{◌-◌, ◌≤◌}
use Rattle.rows.specs.ways.LoopCounts.{ends_in, counted_from, Alike}
use Rattle.rows.proofs.passes.multiplicity.write_by_tables.Given as goal

abbrev pub invariant-loop-from : goal.invariant-loop-from
invariant-loop-from l = (l.from ≤ l.rows) × Alike l.buffer l.initial.buffer × (counted_from l.profile (ends_in l.profile l.rows l.initial.buffer) l.rows l.from l.buffer ≡ counted_from l.profile (ends_in l.profile l.rows l.initial.buffer) l.rows 0 l.initial.buffer)

abbrev pub decreases-loop-from : goal.decreases-loop-from
decreases-loop-from l = l.rows - l.from
