-- `token::op` meets its contract.
use Rattle.reader.proofs.CellTokens.{op-no}
use borrow.Enum.Refused.{opened}
use Rattle.reader.proofs.token.op.Goals as goal

pub returns-in-Span : goal.returns-in-Span
returns-in-Span c = op-no c.args.control (opened c.in-Span.in-Span-own.keys2)
