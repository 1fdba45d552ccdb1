-- `group::op_idx_in_batch_to_group` meets its contract. The loop's invariant: what is looked for is not before group `group`.
use mathlib.Core.Path.{◌≡◌}
use lib.ListN.{drop}
use Rattle.groups.specs.GroupOfOperation.{group_of, group_from}
use Rattle.groups.proofs.group.op_idx_in_batch_to_group.Given as goal

abbrev pub invariant-loop-group : goal.invariant-loop-group
invariant-loop-group l = group_of l.starts l.num_ops l.op ≡ group_from (drop l.group l.starts) l.num_ops l.op l.group
