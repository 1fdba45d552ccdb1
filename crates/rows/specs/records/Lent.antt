-- The lent slices of a forest and of the queues.
use Rattle.rows.specs.declared.records.forest.LentForest.{LentForest}
use Rattle.rows.specs.declared.records.address_state.LentQueues.{LentQueues}
use Rattle.rows.specs.records.Forests.{Forest, forest}
use Rattle.rows.specs.records.Addresses.{Queues, queues}

-- the forest that is lent
abbrev pub lent_forest : LentForest → Forest
lent_forest f = forest f.nodes.now f.digests.now f.batches.records.now f.batches.groups.now f.ops.now

-- the queues that are lent
abbrev pub lent_queues : LentQueues → Queues
lent_queues q = queues q.addresses.now q.parents.now q.ends.now
