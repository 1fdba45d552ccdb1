-- `token::are_bits` meets its contract.
use mathlib.Core.Path.{sym}
use borrow.Author.Rules.{rules}
use Rattle.reader.proofs.CellTokens.{bits_of}
use Rattle.reader.proofs.token.are_bits.Goals as goal

pub returns : goal.returns
returns c = rw (c.cell.ensures, c.cell-2.ensures, c.cell-3.ensures, c.cell-4.ensures, c.cell-5.ensures, c.cell-6.ensures, c.cell-7.ensures, c.cell-8.ensures)
    (sym (bits_of c.args.cells.now c.args.row (search rules)))
