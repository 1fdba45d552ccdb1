-- `halt::stack_of` meets its contract.
use Rattle.rows.specs.records.Built.{stack_cells}
use Rattle.rows.proofs.records.Windows.{first-19}
use Rattle.rows.proofs.passes.halt.stack_of.Goals as goal

pub returns : goal.returns
unfolding stack_cells
returns c = rw c.copy_from_slice.ensures.after (first-19 c.args.cells.now c.requires)
