-- `finish::finish_rows` meets its contract: each pass on what the one before left.
use native.Mathlib.Omega.{arith}
use lib.ListN.{length}
use Rattle.rows.specs.ways.Finisher.{other_passes}
use Rattle.rows.proofs.passes.Finishing.{ready-for, tall-at}
use Rattle.rows.proofs.passes.finish.finish_rows.Goals as goal

pub invert_helpers-requires : goal.invert_helpers-requires
invert_helpers-requires c = let f = ready-for (length c.args.buffer.now) c.args.fragments.now.size _ _ _ _ c.requires.rows_value c.requires.built_value c.requires.counts_value in
    omega arith

pub last_built-requires : goal.last_built-requires
last_built-requires c = let f = ready-for (length c.args.buffer.now) c.args.fragments.now.size _ _ _ _ c.requires.rows_value c.requires.built_value c.requires.counts_value in
    (f.some, f.in_built)

pub push_halt-requires : goal.push_halt-requires
push_halt-requires c = let f = ready-for (length c.args.buffer.now) c.args.fragments.now.size _ _ _ _ c.requires.rows_value c.requires.built_value c.requires.counts_value in
    (omega arith, omega arith)

pub overflow_add-rows : goal.overflow_add-rows
overflow_add-rows c = let f = ready-for (length c.args.buffer.now) c.args.fragments.now.size _ _ _ _ c.requires.rows_value c.requires.built_value c.requires.counts_value in
    omega arith

pub pad-requires : goal.pad-requires
pad-requires c = let f = ready-for (length c.args.buffer.now) c.args.fragments.now.size _ _ _ _ c.requires.rows_value c.requires.built_value c.requires.counts_value in
    (omega arith, omega arith, tall-at c.args.height (length c.args.buffer.now) _ f.tall (omega arith))

pub returns : goal.returns
unfolding other_passes
returns c = let f = ready-for (length c.args.buffer.now) c.args.fragments.now.size _ _ _ _ c.requires.rows_value c.requires.built_value c.requires.counts_value in
    rw (c.pad.ensures, c.push_halt.ensures, c.invert_helpers.ensures, c.fixup_rows.ensures, c.last_built.ensures.0, f.sum)
