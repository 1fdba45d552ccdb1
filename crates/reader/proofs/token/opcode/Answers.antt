-- `token::opcode` meets its contract.
use mathlib.Core.Path.{◌∙◌, sym}
use native.Mathlib.Omega.{arith}
use borrow.Author.Rules.{rules}
use Rattle.reader.proofs.CellTokens.{opcode-of, opcode-below}
use Rattle.reader.proofs.token.opcode.Goals as goal

pub overflow_cast-result : goal.overflow_cast-result
overflow_cast-result c = omega (arith, c.decode_opcode.ensures, opcode-below c.args.cells.now c.args.row)

pub returns : goal.returns
returns c = c.decode_opcode.ensures ∙ sym (opcode-of c.args.cells.now c.args.row (search rules))
