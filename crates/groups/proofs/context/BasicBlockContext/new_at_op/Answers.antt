-- `BasicBlockContext::new_at_op` meets its contract.
use Rattle.groups.proofs.Contexts.{in-batch}
use Rattle.groups.proofs.context.BasicBlockContext.new_at_op.Goals as goal

pub in_group-requires : goal.in_group-requires
in_group-requires c = in-batch c.args.batches.now.records.now c.args.block c.args.index c.in-Some.batch.num_ops c.args.op _ _ c.starts_at-starts.ensures c.in-Some-op_idx_in_batch_to_group.ensures
