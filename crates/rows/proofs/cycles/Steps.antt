-- What the answers of a start and of an END say of the queues' entries, and what refused helpers say.
use mathlib.Core.Bool.{Bool, true, false}
use mathlib.Core.List.{List}
use mathlib.Core.Path.{◌≡◌, refl}
use Prim.Native.Nat.{ℕ, ◌+◌, ◌*◌, ◌/◌}
use lib.Dec.{ltb}
use lib.ListN.{length}
use Rattle.std.specs.Prelude.{Result, Ok, Err}
use Rattle.field.specs.Cells.{cell_at}
use Rattle.groups.specs.Answer.{Answer, accepted, refused, and_then, pick}
use Rattle.groups.specs.Helpers.{all_below, read_registers, u32_values, helpers_of, helpers_of_cells, helpers_answer}
use Rattle.groups.specs.Refusals.{number_of, told}
use Rattle.groups.specs.declared.helpers.OperationHelperRegisters.{OperationHelperRegisters}
use Rattle.groups.specs.declared.helpers.UserOpHelpers.{UserOpHelpers}
use Rattle.groups.specs.declared.refusal.Refusal.{Refusal}
use Rattle.rows.specs.declared.records.address_state.DecoderState.{DecoderState}
use Rattle.rows.specs.declared.records.address_state.Positions.{Positions}
use Rattle.rows.specs.declared.records.address_state.NodeEndData.{NodeEndData}
use Rattle.rows.specs.records.Addresses.{started_at, after_start, end_at, after_end, moved_to, start_answer, start_state, end_answer, end_state}
use Rattle.rows.proofs.records.EndQueue.{ended_with, end-moved}

-- of any look-up that a start goes by
module _ (at : Positions) (state moved : DecoderState) (answer : Result Positions Refusal) where
  told-refused : (found : Answer DecoderState) → told answer ≡ and_then found (λ _. accepted (after_start at)) → (refusal : Refusal) → answer ≡ Err refusal → found ≡ refused (number_of refusal)
  told-refused (accepted entry) e refusal h =
      let a : refused (number_of refusal) ≡ accepted (after_start at) = rw h at e in
      cc
  told-refused (refused m) e refusal h =
      let a : ◌≡◌ {A = Answer Positions} (refused (number_of refusal)) (refused m) = rw h at e in
      cc

  told_moved : (found : Answer DecoderState) → told answer ≡ and_then found (λ _. accepted (after_start at)) → moved ≡ moved_to found state → (next : Positions) → answer ≡ Ok next → (found ≡ accepted moved) × (next ≡ after_start at)
  told_moved (accepted entry) e s next h =
      let a : accepted next ≡ accepted (after_start at) = rw h at e in
      ((cc), (cc))
  told_moved (refused m) e s next h =
      let a : accepted next ≡ refused m = rw h at e in
      ((cc), (cc))

module _ (addresses parents : List ℕ) (at : Positions) (state moved : DecoderState) (answer : Result Positions Refusal) (step : (told answer ≡ start_answer addresses parents at) × (moved ≡ start_state addresses parents at state)) where
  -- a refused start: the queues' refusal
  pub start-refused : (refusal : Refusal) → answer ≡ Err refusal → started_at addresses parents at ≡ refused (number_of refusal)
  unfolding start_answer start_state
  start-refused refusal h = told-refused at state moved answer (started_at addresses parents at) step.0 refusal h

  -- an accepted start: the state after it is what the queues hold, and both positions moved on
  pub start-moved : (next : Positions) → answer ≡ Ok next → (started_at addresses parents at ≡ accepted moved) × (next ≡ after_start at)
  unfolding start_answer start_state
  start-moved next h = told_moved at state moved answer (started_at addresses parents at) step.0 step.1 next h

-- of any look-up that an END goes by
told-end-refused : (at : Positions) (answer : Result (ℕ × Positions) Refusal) (whole : Bool) (entry : NodeEndData) → told answer ≡ and_then (pick whole (accepted entry) (refused 22)) (λ x. accepted (x.ended_node_addr, after_end at)) → (refusal : Refusal) → answer ≡ Err refusal → pick whole (accepted entry) (refused 22) ≡ refused 22
told-end-refused at answer true entry e refusal h =
    let a : ◌≡◌ {A = Answer (ℕ × Positions)} (refused (number_of refusal)) (accepted (entry.ended_node_addr, after_end at)) = rw h at e in
    cc
told-end-refused at answer false entry e refusal h = refl

module _ (ends : List ℕ) (at : Positions) (state moved : DecoderState) (answer : Result (ℕ × Positions) Refusal) (step : (told answer ≡ end_answer ends at) × (moved ≡ end_state ends at state)) where
  -- a refused END: the queue is used up
  pub end_refused : (refusal : Refusal) → answer ≡ Err refusal → end_at ends at.ends ≡ refused 22
  unfolding end_answer end_at
  end_refused refusal h =
      told-end-refused at answer (ltb at.ends (length ends / 3))
      (record {
        ended_node_addr = cell_at ends (3 * at.ends);
        prev_addr = cell_at ends (3 * at.ends + 1);
        prev_parent_addr = cell_at ends (3 * at.ends + 2);
      })
      step.0 refusal h

  -- an accepted END: its address and the state after it are the queue's entry, and the queue's position moved on
  pub end_moved : (addr : ℕ) (next : Positions) → answer ≡ Ok (addr, next) → (end_at ends at.ends ≡ accepted (ended_with addr moved)) × (next ≡ after_end at)
  end_moved addr next h =
      let a : ◌≡◌ {A = Answer (ℕ × Positions)} (accepted (addr, next)) (end_answer ends at) = rw h at step.0 in
      end-moved ends at next state moved addr a step.1

-- of any test that the helpers go by
told-nine : (fits : Bool) (helpers : UserOpHelpers) (n : ℕ) → refused n ≡ pick fits (accepted helpers) (refused 9) → pick fits (accepted helpers) (refused 9) ≡ refused 9
told-nine true helpers n e = cc
told-nine false helpers n e = refl

-- refused helpers: the number is 9
pub helpers-refused : (r : OperationHelperRegisters) (answer : Result UserOpHelpers Refusal) → told answer ≡ helpers_answer r → (refusal : Refusal) → answer ≡ Err refusal → helpers_answer r ≡ refused 9
unfolding helpers_answer helpers_of_cells
helpers-refused r answer step refusal e =
    told-nine (all_below 4294967296 (u32_values (read_registers r))) (helpers_of (read_registers r)) (number_of refusal) (rw e at step)
