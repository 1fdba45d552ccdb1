-- `fixup::fixup_rows` meets its contract.
use Prim.Native.Nat.{◌-◌}
use native.Mathlib.Omega.{arith}
use lib.ListN.{length}
use Rattle.rows.specs.passes.Passes.{built_of, sum_of}
use Rattle.rows.proofs.passes.Counts.{fits}
use Rattle.rows.proofs.passes.FirstRows.{first-then-later}
use Rattle.rows.proofs.passes.fixup.fixup_rows.Goals as goal

pub write_first_stack-requires : goal.write_first_stack-requires
write_first_stack-requires c = let f = fits (length c.args.buffer.now) c.args.fragments.now.size c.args.fragments.now.counts.now c.args.fragments.now.built.now c.requires.0 c.requires.1 c.requires.2 in
    omega arith

pub write_later_rows-requires : goal.write_later_rows-requires
write_later_rows-requires c = let f = fits (length c.args.buffer.now) c.args.fragments.now.size c.args.fragments.now.counts.now c.args.fragments.now.built.now c.requires.0 c.requires.1 c.requires.2 in
    (f.some, f.in_rows, omega arith, f.in_built)

pub returns : goal.returns
returns c = let n = sum_of c.args.fragments.now.counts.now in
    let f = fits (length c.args.buffer.now) c.args.fragments.now.size c.args.fragments.now.counts.now c.args.fragments.now.built.now c.requires.0 c.requires.1 c.requires.2 in
    rw (c.write_later_rows.ensures, c.write_first_stack.ensures)
    (first-then-later n c.args.fragments.now.size c.args.buffer.now c.args.first_stack_top (built_of (length c.args.fragments.now.counts.now - 1) c.args.fragments.now.built.now) f.rows f.some f.in_buffer)
