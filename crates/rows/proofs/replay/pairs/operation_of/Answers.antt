-- `pairs::operation_of` meets its contract.
use Rattle.rows.proofs.replay.PairRecords.{stores}
use Rattle.rows.proofs.replay.pairs.operation_of.Goals as goal

pub returns : goal.returns
returns c = stores c.args.s.now c.in_ok-id.id c.in_ok-index.index c.in_ok-op.op
    (rw (c.item_or.ensures, c.item_or-2.ensures, c.item_or-3.ensures) at c.if-item_or.false)
    (rw c.item_or-4.ensures at c.in_ok-id.ensures 3)
    (rw c.item_or-5.ensures at c.in_ok-index.ensures 5)
    (rw c.item_or-6.ensures at c.in_ok-op.ensures 6)
    (rw c.names_nothing.ensures at c.if-names_nothing.false)
