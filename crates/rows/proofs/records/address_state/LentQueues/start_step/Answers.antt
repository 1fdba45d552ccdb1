-- `LentQueues::start_step` meets its contract. The positions after a start fit, since the entries lie in their queues.
use native.Mathlib.Omega.{arith}
use Rattle.rows.proofs.records.EndQueue.{entry-within}
use Rattle.rows.proofs.records.address_state.LentQueues.start_step.Goals as goal

pub overflow_add-result : goal.overflow_add-result
overflow_add-result c = omega (arith, entry-within 20 _ _ _ (c.in-Some.ensures 20))

pub overflow_add-result-2 : goal.overflow_add-result-2
overflow_add-result-2 c = omega (arith, entry-within 21 _ _ _ (c.in-Some-entry_at.ensures 21))
