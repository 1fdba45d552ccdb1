-- The LOOP rows taken get their counts one after another.
use mathlib.Core.Path.{◌≡◌}
use Rattle.rows.specs.ways.LoopCounts.{ends_in, counted_from, Alike}
use Rattle.rows.proofs.passes.multiplicity.LoopTable.write_between.Given as goal

abbrev pub invariant-loop-i : goal.invariant-loop-i
invariant-loop-i l = Alike l.buffer l.initial.buffer × (counted_from l.profile (ends_in l.profile l.rows l.initial.buffer) l.rows l.i l.buffer ≡ counted_from l.profile (ends_in l.profile l.rows l.initial.buffer) l.rows l.from l.initial.buffer)
