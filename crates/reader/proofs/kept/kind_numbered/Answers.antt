-- `kept::kind_numbered` meets its contract: each arm by the number that it knows.
use Rattle.reader.specs.KeptKinds.{kind_numbered}
use Rattle.reader.proofs.KindLaws.{numbered-rest}
use Rattle.reader.proofs.kept.kind_numbered.Goals as goal

pub returns-in_default : goal.returns-in_default
unfolding kind_numbered
returns-in_default c = numbered-rest c.args.number c.in_default.in_default-own.rest
