-- `pairs::system_before` meets its contract.
use Rattle.rows.proofs.replay.PairRecords.{system_built}
use Rattle.rows.proofs.replay.pairs.system_before.Goals as goal

pub returns : goal.returns
returns c = λ state e.
    rw (c.item_or-2.ensures, c.word_at.ensures)
    (system_built c.args.c.now c.clk_behind.result (rw c.item_or.ensures at c.clk_behind.ensures) state e)
