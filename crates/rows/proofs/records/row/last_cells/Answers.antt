-- `row::last_cells` meets its contract.
use Rattle.field.specs.Cells.{cell_at, reduced}
use Rattle.rows.specs.records.Built.{stack_cells, read_stack}
use Rattle.rows.proofs.records.row.last_cells.Goals as goal

pub returns : goal.returns
unfolding cell_at read_stack reduced stack_cells
returns c = rw c.read-k.ensures
