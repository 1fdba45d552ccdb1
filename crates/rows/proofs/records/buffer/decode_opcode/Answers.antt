-- The opcode of a row from the buffer's bit cells.
use mathlib.Core.Path.{sym}
use Rattle.rows.proofs.passes.RowCells.{opcode-cells, opcode-past}
use Rattle.rows.proofs.records.buffer.decode_opcode.Goals as goal

pub returns-then-buffer-i : goal.returns-then-buffer-i
returns-then-buffer-i c = opcode-past c.args.buffer.now c.args.i c.if-buffer-i.true

pub returns : goal.returns
returns c = rw (c.cell.ensures, c.cell-2.ensures, c.cell-3.ensures, c.cell-4.ensures, c.cell-5.ensures, c.cell-6.ensures, c.cell-7.ensures) (sym (opcode-cells c.args.buffer.now c.args.i))
