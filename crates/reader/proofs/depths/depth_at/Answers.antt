-- `depths::depth_at` meets its contract.
use borrow.Enum.Refused.{opened}
use Rattle.reader.proofs.LevelLaws.{level-start, level-same}
use Rattle.reader.proofs.depths.depth_at.Goals as goal

pub returns-in-Span : goal.returns-in-Span
returns-in-Span c = level-start c.args.kind _ c.in-Span.in-Span-own.keys1

pub returns-in-Op : goal.returns-in-Op
returns-in-Op c = level-same c.args.kind _ (opened c.in-Op.in-Op-own.keys2)
