-- `pairs::put_behind` meets its contract.
use Rattle.rows.proofs.replay.PairSteps.{row-behind}
use Rattle.rows.proofs.replay.pairs.put_behind.Goals as goal

pub returns : goal.returns
returns c = row-behind _ _ _ _ _ _ _ _ c.system_before.ensures c.first_cells-first.ensures c.stack_before-last.ensures c.put_cells.ensures
