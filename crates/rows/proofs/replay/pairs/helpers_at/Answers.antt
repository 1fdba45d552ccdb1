-- `pairs::helpers_at` meets its contract.
use Rattle.rows.proofs.replay.PairRecords.{no-helpers}
use Rattle.rows.proofs.replay.pairs.helpers_at.Goals as goal

pub returns-then-item_or-eq18 : goal.returns-then-item_or-eq18
returns-then-item_or-eq18 c = no-helpers c.args.c.now (rw c.item_or.ensures at c.if-item_or-eq18.true)
