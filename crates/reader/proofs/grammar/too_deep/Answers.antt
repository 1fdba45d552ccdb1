-- `grammar::too_deep` meets its contract.
use borrow.Enum.Refused.{opened}
use Rattle.reader.proofs.PartLaws.{deep-start, deep-no}
use Rattle.reader.proofs.grammar.too_deep.Goals as goal

pub returns-in-Span : goal.returns-in-Span
returns-in-Span c = deep-start c.args.kind _ c.in-Span.in-Span-own.keys1

pub returns-in-Op : goal.returns-in-Op
returns-in-Op c = deep-no c.args.kind _ (opened c.in-Op.in-Op-own.keys2)
