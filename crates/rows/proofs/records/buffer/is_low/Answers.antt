-- `buffer::is_low` meets its contract.
use Rattle.rows.proofs.passes.RowCells.{low-opcode}
use Rattle.rows.proofs.records.buffer.is_low.Goals as goal

pub returns : goal.returns
returns c = rw c.cell.ensures (low-opcode c.args.buffer.now c.args.i)
