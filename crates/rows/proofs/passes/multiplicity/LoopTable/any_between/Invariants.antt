-- The LOOP rows taken are asked one after another.
use mathlib.Core.Path.{◌≡◌}
use Rattle.rows.specs.ways.LoopCounts.{ends_in, lacks_from}
use Rattle.rows.proofs.passes.multiplicity.LoopTable.any_between.Given as goal

abbrev pub invariant-loop-i : goal.invariant-loop-i
invariant-loop-i l = lacks_from l.profile (ends_in l.profile l.rows l.buffer) l.rows l.i l.buffer ≡ lacks_from l.profile (ends_in l.profile l.rows l.buffer) l.rows l.from l.buffer
