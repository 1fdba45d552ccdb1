-- `kept::table_of` meets its contract.
use mathlib.Core.Path.{◌∙◌}
use borrow.Author.Rules.{rules}
use Rattle.reader.proofs.KindLaws.{table_none, table_more, table-all}
use Rattle.reader.proofs.kept.table_of.Goals as goal

pub loop-code-init : goal.loop-code-init
loop-code-init c = table_none _

pub loop-code-preserved : goal.loop-code-preserved
loop-code-preserved c = table_more _ c.loop-code.table c.loop-code.code c.kind_number.result c.loop-code.invariant (search rules) (c.kind_number.ensures ∙ c.kind_of_code-kind.ensures)

pub returns : goal.returns
returns c = table-all _ c.loop-code.table c.loop-code.code c.loop-code.invariant (search rules)
