-- Part by part, the buffer with the counts from a row on is that of the whole pass.
use mathlib.Core.Path.{refl, sym, ◌∙◌}
use native.Mathlib.Omega.{arith}
use Rattle.rows.specs.ways.LoopCounts.{ends_in, counted_from}
use Rattle.rows.proofs.passes.RowCells.{alike_refl, alike-trans}
use Rattle.rows.proofs.passes.Written.{counted-first, counted-last, counted-on}
use Rattle.rows.proofs.passes.multiplicity.write_by_tables.Goals as goal

pub loop-from-init : goal.loop-from-init
loop-from-init c = (omega arith, alike_refl _, refl)

pub write_between-requires : goal.write_between-requires
write_between-requires c = let f = c.fill-next.ensures in
    record { from_le_next = (omega arith, omega arith, omega arith, omega (arith, c.loop-from.invariant.1.size), omega arith); table = f.3 }

pub loop-from-preserved : goal.loop-from-preserved
loop-from-preserved c = (omega arith, alike-trans c.write_between.new.buffer c.loop-from.buffer c.args.buffer.now c.write_between.ensures.0 c.loop-from.invariant.1, counted-on c.args.profile c.args.rows c.loop-from.from c.fill-next.result c.loop-from.buffer c.write_between.new.buffer c.args.buffer.now (counted_from c.args.profile (ends_in c.args.profile c.args.rows c.args.buffer.now) c.args.rows 0 c.args.buffer.now) c.loop-from.invariant.1 c.write_between.ensures.1 c.loop-from.invariant.2)

pub shape_of-buffer : goal.shape_of-buffer
shape_of-buffer c = c.loop-from.invariant.1.size

pub returns : goal.returns
returns c = sym (counted-last c.args.profile (ends_in c.args.profile c.args.rows c.args.buffer.now) c.args.rows c.loop-from.from c.loop-from.buffer (omega arith) (omega arith)) ∙ c.loop-from.invariant.2 ∙ sym (counted-first c.args.profile c.args.rows c.args.buffer.now)
