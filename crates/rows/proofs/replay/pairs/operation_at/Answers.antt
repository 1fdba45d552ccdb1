-- `pairs::operation_at` meets its contract.
use borrow.Author.Rules.{rules}
use Rattle.rows.specs.records.Lent.{lent_forest}
use Rattle.rows.proofs.replay.PairRecords.{operation-in}
use Rattle.rows.proofs.replay.pairs.operation_at.Goals as goal

pub returns : goal.returns
returns c = operation-in (lent_forest c.args.forest.now) c.args.push c.args.stored.id c.args.stored.index c.args.stored.op
    c.slot_block-block.result c.in_ok-cells.cells c.item_or.result
    (rw c.if-kind_at-ne2.false at c.kind_at.ensures) c.slot_block-block.ensures c.item_or.ensures c.if-forest-i.false (search rules)
