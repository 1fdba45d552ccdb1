-- The address state (current and parent address) as a small machine that three kinds of row move: a start, an END and a RESPAN. The
-- queues that it is moved by are lent: block addresses, parent addresses, and three cells an END.
use Rattle.std.specs.Prelude.{List, ℕ, ◌+◌, ◌*◌, ◌/◌, ◌%◌, ltb, length}
use Rattle.field.specs.Modulus.{P}
use Rattle.field.specs.Cells.{read, cell_at}
use Rattle.groups.specs.Answer.{Answer, accepted, refused, and_then, pick}
use Rattle.groups.specs.Constants.{address_queue_empty, parent_queue_empty, end_queue_empty}
use Rattle.rows.specs.declared.records.address_state.DecoderState.{DecoderState}
use Rattle.rows.specs.declared.records.address_state.Positions.{Positions}
use Rattle.rows.specs.declared.records.address_state.NodeEndData.{NodeEndData}

-- an address state as it comes in (N2)
unfoldable pub read_state : DecoderState → DecoderState
read_state state = record { current_addr = read state.current_addr; parent_addr = read state.parent_addr }

-- the three lent queues
pub record Queues : Type 0 where
  pub addresses : List ℕ
  pub parents : List ℕ
  pub ends : List ℕ

abbrev pub queues : (addresses parents ends : List ℕ) → Queues
queues addresses parents ends = record { addresses = addresses; parents = parents; ends = ends }

-- the entry of a queue of single cells at a position, or the refusal of an empty queue
unfoldable pub entry_at : (refusal : ℕ) → (queue : List ℕ) → ℕ → Answer ℕ
entry_at refusal queue at = pick (ltb at (length queue)) (accepted (cell_at queue at)) (refused refusal)

-- "20, 21 (current and parent address from their queues)"
unfoldable pub started_at : (addresses parents : List ℕ) → Positions → Answer DecoderState
started_at addresses parents at =
    and_then (entry_at address_queue_empty addresses at.addresses) (λ current.
    and_then (entry_at parent_queue_empty parents at.parents) (λ parent.
    accepted (record { current_addr = current; parent_addr = parent })))

-- the positions after a start
abbrev pub after_start : Positions → Positions
after_start at = record { addresses = at.addresses + 1; parents = at.parents + 1; ends = at.ends }

-- Refusal 22: "end queue empty"; an entry is the address that ends, and the current and parent address after it
unfoldable pub end_at : (ends : List ℕ) → ℕ → Answer NodeEndData
end_at ends at =
    pick (ltb at (length ends / 3))
    (accepted (record {
      ended_node_addr = cell_at ends (3 * at);
      prev_addr = cell_at ends (3 * at + 1);
      prev_parent_addr = cell_at ends (3 * at + 2);
    }))
    (refused end_queue_empty)

-- "The queue's entry then sets current and parent address."
abbrev pub state_after_end : NodeEndData → DecoderState
state_after_end entry = record { current_addr = entry.prev_addr; parent_addr = entry.prev_parent_addr }

-- the positions after an END
abbrev pub after_end : Positions → Positions
after_end at = record { addresses = at.addresses; parents = at.parents; ends = at.ends + 1 }

-- "RESPAN: current address, which then grows by the step modulo p"
unfoldable pub respan_step : (step : ℕ) → DecoderState → DecoderState
respan_step step state =
    record { current_addr = (state.current_addr + step) % P; parent_addr = state.parent_addr }

-- the state after a step: where it leads, and as it was on a refusal
abbrev pub moved_to : Answer DecoderState → DecoderState → DecoderState
moved_to (accepted moved) state = moved
moved_to (refused n) state = state

-- a start answers 20, 21, or the positions after it
unfoldable pub start_answer : (addresses parents : List ℕ) → Positions → Answer Positions
start_answer addresses parents at = and_then (started_at addresses parents at) (λ _. accepted (after_start at))

-- the state after a start
unfoldable pub start_state : (addresses parents : List ℕ) → Positions → DecoderState → DecoderState
start_state addresses parents at state = moved_to (started_at addresses parents at) state

-- an END answers 22, or the address that ended and the positions after it
unfoldable pub end_answer : (ends : List ℕ) → Positions → Answer (ℕ × Positions)
end_answer ends at =
    and_then (end_at ends at.ends) (λ entry. accepted (entry.ended_node_addr, after_end at))

-- the state after an END
unfoldable pub end_state : (ends : List ℕ) → Positions → DecoderState → DecoderState
end_state ends at state =
    moved_to (and_then (end_at ends at.ends) (λ entry. accepted (state_after_end entry))) state
