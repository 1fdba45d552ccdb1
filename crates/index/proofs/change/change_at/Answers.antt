-- `change::change_at` meets its contract.
use Rattle.index.proofs.ChangeLaws.{begins-by, ends_by, stays_by}
use Rattle.index.proofs.change.change_at.Goals as goal

pub returns-in-Span : goal.returns-in-Span
returns-in-Span c = begins-by _ _ (c.kept_kind-kind.ensures c.requires) c.in-Span.in-Span-own.keys1

pub returns-in-End : goal.returns-in-End
returns-in-End c = ends_by _ _ (c.kept_kind-kind.ensures c.requires) c.in-End.is

pub returns-in-Op : goal.returns-in-Op
returns-in-Op c = stays_by _ _ (c.kept_kind-kind.ensures c.requires) c.in-Op.in-Op-own.keys3
