-- `trace::validate_keeping` meets its contract.
use Rattle.reader.proofs.KindLaws.{kinds-unknown}
use Rattle.reader.proofs.trace.validate_keeping.Goals as goal

pub tell_trace-requires : goal.tell_trace-requires
tell_trace-requires c = kinds-unknown _ _ _ _ c.table_for.ensures c.forget.ensures
