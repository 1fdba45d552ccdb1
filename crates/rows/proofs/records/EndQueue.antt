-- Positions in the queues.
use mathlib.Core.Path.{◌≡◌, refl, sym, ap}
use mathlib.Core.Bool.{Bool, true, false}
use mathlib.Core.List.{List}
use Prim.Native.Nat.{ℕ, ◌<◌}
use borrow.Author.Tests.{ltb-true}
use lib.ListN.{length}
use Rattle.groups.specs.Answer.{Answer, accepted, refused, values, and_then, pick}
use Rattle.rows.specs.declared.records.address_state.NodeEndData.{NodeEndData}
use Rattle.rows.specs.declared.records.address_state.DecoderState.{DecoderState}
use Rattle.rows.specs.declared.records.address_state.Positions.{Positions}
use Rattle.rows.specs.records.Addresses.{entry_at, end_at, state_after_end, after_end, moved_to, end_answer, end_state}

-- what is accepted under a test passed it
passed : {A : Type 0} (x y : A) (n : ℕ) (t : Bool) → pick t (accepted x) (refused n) ≡ accepted y → t ≡ true
passed x y n true e = refl
passed x y n false e = cc

-- an entry that is found lies in the queue
pub entry-within : (refusal : ℕ) (queue : List ℕ) (at address : ℕ) → accepted address ≡ entry_at refusal queue at → at < length queue
unfolding entry_at
entry-within refusal queue at address e = ltb-true _ _ (passed _ _ _ _ (sym e))

-- the entry of the end queue that gave an address and a state
abbrev pub ended_with : ℕ → DecoderState → NodeEndData
ended_with addr state =
    record { ended_node_addr = addr; prev_addr = state.current_addr; prev_parent_addr = state.parent_addr }

-- of any look-up that an END goes by
end-told : (at next : Positions) (state moved : DecoderState) (addr : ℕ) (found : Answer NodeEndData) → ◌≡◌ {A = Answer (ℕ × Positions)} (accepted (addr, next)) (and_then found (λ x. accepted (x.ended_node_addr, after_end at)))
    → moved ≡ moved_to (and_then found (λ x. accepted (state_after_end x))) state → (found ≡ accepted (ended_with addr moved)) × (next ≡ after_end at)
end-told at next state moved addr (accepted entry) a s =
    let b : addr ≡ entry.ended_node_addr = ap (λ (x : Answer (ℕ × Positions)). (values (0, at) x).0) a in
    let n : next ≡ after_end at = ap (λ (x : Answer (ℕ × Positions)). (values (0, at) x).1) a in
    let c : moved.current_addr ≡ entry.prev_addr = ap (λ (x : DecoderState). x.current_addr) s in
    let p : moved.parent_addr ≡ entry.prev_parent_addr = ap (λ (x : DecoderState). x.parent_addr) s in
    (rw (b, c, p), n)
end-told at next state moved addr (refused m) a s = ((cc), (cc))

-- an accepted END: its address and the state after it are the queue's entry, and the queue's position moved on
pub end-moved : (ends : List ℕ) (at next : Positions) (state moved : DecoderState) (addr : ℕ) → ◌≡◌ {A = Answer (ℕ × Positions)} (accepted (addr, next)) (end_answer ends at) → moved ≡ end_state ends at state
    → (end_at ends at.ends ≡ accepted (ended_with addr moved)) × (next ≡ after_end at)
unfolding end_answer end_state
end-moved ends at next state moved addr a s = end-told at next state moved addr (end_at ends at.ends) a s
