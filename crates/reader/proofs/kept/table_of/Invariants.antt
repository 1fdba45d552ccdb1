-- `kept::table_of` meets its contract.
use Rattle.reader.proofs.KindLaws.{TableTo}
use Rattle.reader.proofs.kept.table_of.Given as goal

abbrev pub invariant-loop-code : goal.invariant-loop-code
invariant-loop-code l = TableTo l.profile l.table l.code
