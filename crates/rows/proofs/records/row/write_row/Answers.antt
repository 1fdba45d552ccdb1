-- `row::write_row` meets its contract.
use Rattle.rows.proofs.records.Rooms.{cells-in-two}
use Rattle.rows.proofs.records.row.write_row.Goals as goal

pub returns : goal.returns
returns c = rw (cells-in-two c.args.system c.args.d c.args.stack, ← c.first_cells.ensures, ← c.last_cells.ensures) c.put_cells.ensures
