-- `pairs::is_pair` meets its contract.
use Rattle.rows.proofs.replay.PairRecords.{a_pair}
use Rattle.rows.proofs.replay.pairs.is_pair.Goals as goal

pub returns : goal.returns
returns c e = a_pair c.args.s.now c.args.c.now c.args.forest
    (rw c.item_or-depth.ensures at c.if-depth.false)
    (rw (c.item_or.ensures, c.item_or-2.ensures) at c.if-item_or.false)
    (rw (c.item_or-3.ensures, c.item_or-4.ensures, c.item_or-5.ensures) at e)
