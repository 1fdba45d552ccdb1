-- `LentForest::node_at` meets its contract: the node is the one of what the slot holds.
use Prim.Native.Nat.{◌*◌}
use Rattle.groups.specs.Words.{word_at}
use Rattle.rows.proofs.records.Slots.{node-by-kind}
use Rattle.rows.proofs.records.forest.LentForest.node_at.Goals as goal

pub returns-in_err-node : goal.returns-in_err-node
returns-in_err-node c =
    rw (c.from_residual.ensures, node-by-kind _ _ _ _ c.kind_at-kind.ensures, ← c.item_or.ensures, ← c.item_or-2.ensures, ← c.slot_block.ensures)
    (c.in_err-node.ensures (word_at c.args.self.now.digests.now (4 * c.args.id.0)))

pub returns : goal.returns
returns c =
    rw (c.word_at-digest.ensures, node-by-kind _ _ _ _ c.kind_at-kind.ensures, ← c.item_or.ensures, ← c.item_or-2.ensures, ← c.slot_block.ensures)
    (c.in_ok-node.ensures (word_at c.args.self.now.digests.now (4 * c.args.id.0)))
