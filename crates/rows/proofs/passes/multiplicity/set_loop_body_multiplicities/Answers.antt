-- `multiplicity::set_loop_body_multiplicities` meets its contract.
use lib.ListN.{length}
use Rattle.rows.proofs.passes.Finishing.{held}
use Rattle.rows.proofs.passes.multiplicity.set_loop_body_multiplicities.Goals as goal

pub write_multiplicities-requires : goal.write_multiplicities-requires
write_multiplicities-requires c = let fits = held (length c.args.buffer.now) c.args.rows (rw (c.buffer_wrong.ensures, c.fewer_rows.ensures) at c.if-buffer_wrong-fewer_rows.false) in
    (fits.in_buffer, fits.few)
