-- `kept::kept_kind` meets its contract.
use mathlib.Core.Path.{◌∙◌}
use borrow.Author.Rules.{rules}
use Rattle.reader.proofs.kept.kept_kind.Goals as goal

pub returns-then-number-ge-UNKNOWN : goal.returns-then-number-ge-UNKNOWN
returns-then-number-ge-UNKNOWN c = λ kept. c.row_kind.ensures

pub returns : goal.returns
returns c = λ kept. c.kind_numbered.ensures ∙ c.kept_number-number.ensures _ kept (search rules)
