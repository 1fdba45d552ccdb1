-- `kept::table_for` meets its contract.
use Rattle.reader.proofs.KindLaws.{table-unknown}
use Rattle.reader.proofs.kept.table_for.Goals as goal

pub returns-then-rows-le-FEW_ROWS : goal.returns-then-rows-le-FEW_ROWS
returns-then-rows-le-FEW_ROWS c = table-unknown _
