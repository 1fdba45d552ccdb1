-- `depths::open_behind` meets its contract.
use Rattle.reader.proofs.LevelLaws.{behind-same}
use borrow.Enum.Refused.{opened}
use Rattle.reader.proofs.depths.open_behind.Goals as goal

pub returns-in_default : goal.returns-in_default
returns-in_default c = behind-same c.args.kind _ (opened c.in_default.in_default-own.keys2)
