-- `trace::validate` meets its contract.
use Rattle.reader.proofs.KindLaws.{kinds-none}
use Rattle.reader.proofs.trace.validate.Goals as goal

pub tell_trace-requires : goal.tell_trace-requires
tell_trace-requires c = kinds-none _ _ _ 0 c.table_for-table.ensures
