-- What the look-ups, the contexts of a block's groups and the helpers find in lent cells is what they find in the reduced ones.
use mathlib.Core.Path.{◌≡◌, refl, ap}
use mathlib.Core.List.{List}
use Prim.Native.Nat.{ℕ, ◌+◌, ◌*◌, ◌%◌}
use native.Mathlib.Omega.{arith}
use Rattle.field.specs.Modulus.{P}
use Rattle.field.specs.Cells.{reduced}
use Rattle.field.proofs.CellLaws.{length-reduced, cell-reduced, read_twice}
use Rattle.groups.specs.Answer.{Answer, accepted, refused, and_then}
use Rattle.groups.specs.Words.{word_at, read_word, read_quad}
use Rattle.groups.specs.Batches.{is_batch, batch_at, record_of}
use Rattle.groups.specs.Contexts.{consumed, op_context, context_in_group, context_at_op, context_at_batch_start}
use Rattle.groups.specs.Helpers.{read_registers, helpers_of_cells, helpers_answer}
use Rattle.groups.specs.declared.word.Word.{Word}
use Rattle.groups.specs.declared.word.QuadFelt.{QuadFelt}
use Rattle.groups.specs.declared.batch.BasicBlockNode.{BasicBlockNode}
use Rattle.groups.specs.declared.batch.OpBatch.{OpBatch}
use Rattle.groups.specs.declared.group.OpPlace.{OpPlace}
use Rattle.groups.specs.declared.helpers.OperationHelperRegisters.{OperationHelperRegisters}
use Rattle.groups.specs.declared.helpers.OperationHelperRegisters.TheVariants.{Eq, U32Split, Eqz, Expacc, FriExt2Fold4, U32Add, U32Add3, U32Sub, U32Mul, U32Madd, U32Div, U32Assert2, HPerm, MerklePath, HornerEvalBase, HornerEvalExt, LogDeferred, Empty}
use Rattle.rows.specs.declared.records.address_state.Positions.{Positions}
use Rattle.rows.specs.declared.records.address_state.DecoderState.{DecoderState}
use Rattle.rows.specs.records.Forests.{is_slot, node_at, digest_at}
use Rattle.rows.specs.records.Addresses.{read_state, entry_at, started_at, end_at, state_after_end, moved_to, start_answer, start_state, end_answer, end_state, respan_step}

-- WORDS

pub word-reduced : (cells : List ℕ) (i : ℕ) → word_at (reduced cells) i ≡ word_at cells i
unfolding word_at
word-reduced cells i = rw (cell-reduced cells i, cell-reduced cells (i + 1), cell-reduced cells (i + 2), cell-reduced cells (i + 3))

pub word-twice : (w : Word) → read_word (read_word w) ≡ read_word w
word-twice w = rw (read_twice w.0, read_twice w.1, read_twice w.2, read_twice w.3)

pub quad-twice : (q : QuadFelt) → read_quad (read_quad q) ≡ read_quad q
quad-twice q = rw (read_twice q.0, read_twice q.1)

-- NODES AND BATCHES

slot-reduced : (nodes digests : List ℕ) (id : ℕ) → is_slot nodes (reduced digests) id ≡ is_slot nodes digests id
unfolding is_slot
slot-reduced nodes digests id = rw (length-reduced digests)

pub node-reduced : (nodes digests : List ℕ) (id : ℕ) → node_at nodes (reduced digests) id ≡ node_at nodes digests id
unfolding node_at
node-reduced nodes digests id = rw (slot-reduced nodes digests id, word-reduced digests (4 * id))

pub digest-reduced : (nodes digests : List ℕ) (id : ℕ) → digest_at nodes (reduced digests) id ≡ digest_at nodes digests id
unfolding digest_at
digest-reduced nodes digests id = rw (slot-reduced nodes digests id, word-reduced digests (4 * id))

pub batch-reduced : (batches groups : List ℕ) (block : BasicBlockNode) (index : ℕ) → batch_at batches (reduced groups) block index ≡ batch_at batches groups block index
unfolding batch_at is_batch
batch-reduced batches groups block index =
    rw (length-reduced groups, word-reduced groups (8 * record_of block index), word-reduced groups (8 * record_of block index + 4))

-- CONTEXTS

consumed-reduced : (push : ℕ) (block : BasicBlockNode) (batches groups : List ℕ) (index : ℕ) (place : OpPlace) →
    consumed push block batches (reduced groups) index place ≡ consumed push block batches groups index place
unfolding consumed
consumed-reduced push block batches groups index place = rw (cell-reduced groups (8 * record_of block index + place.group))

in-group-reduced : (push : ℕ) (block : BasicBlockNode) (batches groups : List ℕ) (index : ℕ) (batch : OpBatch) (place : OpPlace) →
    context_in_group push block batches (reduced groups) index batch place ≡ context_in_group push block batches groups index batch place
unfolding context_in_group op_context
in-group-reduced push block batches groups index batch place =
    rw (consumed-reduced push block batches groups index place, cell-reduced groups (8 * record_of block index + place.group))

-- at an operation
pub op-context-reduced : (push : ℕ) (block : BasicBlockNode) (batches groups : List ℕ) (index op : ℕ) →
    context_at_op push block batches (reduced groups) index op ≡ context_at_op push block batches groups index op
unfolding context_at_op
op-context-reduced push block batches groups index op =
    rw (batch-reduced batches groups block index) (simp (in-group-reduced push block batches groups index))

-- at the start of a batch
pub batch-context-reduced : (block : BasicBlockNode) (batches groups : List ℕ) (index : ℕ) → context_at_batch_start block batches (reduced groups) index ≡ context_at_batch_start block batches groups index
unfolding context_at_batch_start
batch-context-reduced block batches groups index = rw (batch-reduced batches groups block index)

-- HELPERS

registers-twice : (r : OperationHelperRegisters) → read_registers (read_registers r) ≡ read_registers r
unfolding read_registers
registers-twice (Eq second first) = rw (read_twice second, read_twice first)
registers-twice (U32Split lo hi) = rw (read_twice lo, read_twice hi)
registers-twice (Eqz top) = rw (read_twice top)
registers-twice (Expacc val) = rw (read_twice val)
registers-twice (FriExt2Fold4 ev es x inv) = rw (quad-twice ev, quad-twice es, read_twice x, read_twice inv)
registers-twice (U32Add sum carry) = rw (read_twice sum, read_twice carry)
registers-twice (U32Add3 sum carry) = rw (read_twice sum, read_twice carry)
registers-twice (U32Sub difference) = rw (read_twice difference)
registers-twice (U32Mul lo hi) = rw (read_twice lo, read_twice hi)
registers-twice (U32Madd lo hi) = rw (read_twice lo, read_twice hi)
registers-twice (U32Div quotient remainder diff) = rw (read_twice quotient, read_twice remainder, read_twice diff)
registers-twice (U32Assert2 first second) = rw (read_twice first, read_twice second)
registers-twice (HPerm addr) = rw (read_twice addr)
registers-twice (MerklePath addr) = rw (read_twice addr)
registers-twice (HornerEvalBase alpha tmp0 tmp1) = rw (quad-twice alpha, quad-twice tmp0, quad-twice tmp1)
registers-twice (HornerEvalExt alpha acc) = rw (quad-twice alpha, quad-twice acc)
registers-twice (LogDeferred addr root) = rw (read_twice addr, word-twice root)
registers-twice Empty = refl

-- the helpers of a register set
pub helpers-reduced : (r : OperationHelperRegisters) → helpers_answer (read_registers r) ≡ helpers_answer r
unfolding helpers_answer
helpers-reduced r = ap helpers_of_cells (registers-twice r)

-- QUEUES

entry-reduced : (n : ℕ) (queue : List ℕ) (at : ℕ) → entry_at n (reduced queue) at ≡ entry_at n queue at
unfolding entry_at
entry-reduced n queue at = rw (length-reduced queue, cell-reduced queue at)

pub started-reduced : (addresses parents : List ℕ) (at : Positions) → started_at (reduced addresses) (reduced parents) at ≡ started_at addresses parents at
unfolding started_at
started-reduced addresses parents at = rw (entry-reduced 20 addresses at.addresses, entry-reduced 21 parents at.parents)

pub ended-reduced : (ends : List ℕ) (at : ℕ) → end_at (reduced ends) at ≡ end_at ends at
unfolding end_at
ended-reduced ends at =
    rw (length-reduced ends, cell-reduced ends (3 * at), cell-reduced ends (3 * at + 1), cell-reduced ends (3 * at + 2))

-- THE STEPS OF THE ADDRESS STATE

-- the two replay steps: the queues may be read, and where the lent state is read too, the state left is the same, once read (a refused step leaves
-- it as it was); the answer does not depend on the state
pub start-step-reduced : (addresses parents : List ℕ) (at : Positions) (state : DecoderState) →
    (start_answer (reduced addresses) (reduced parents) at ≡ start_answer addresses parents at) × (start_state (reduced addresses) (reduced parents) at state ≡ start_state addresses parents at state)
unfolding start_answer start_state
start-step-reduced addresses parents at state = rw (started-reduced addresses parents at) (refl, refl)

pub end-step-reduced : (ends : List ℕ) (at : Positions) (state : DecoderState) →
    (end_answer (reduced ends) at ≡ end_answer ends at) × (end_state (reduced ends) at state ≡ end_state ends at state)
unfolding end_answer end_state
end-step-reduced ends at state = rw (ended-reduced ends at.ends) (refl, refl)

state-twice : (s : DecoderState) → read_state (read_state s) ≡ read_state s
unfolding read_state
state-twice s = rw (read_twice s.current_addr, read_twice s.parent_addr)

moved-to-read : (found : Answer DecoderState) (state : DecoderState) → read_state (moved_to found (read_state state)) ≡ read_state (moved_to found state)
moved-to-read (accepted moved) state = refl
moved-to-read (refused n) state = state-twice state

pub start-step-read : (addresses parents : List ℕ) (at : Positions) (state : DecoderState) → read_state (start_state addresses parents at (read_state state)) ≡ read_state (start_state addresses parents at state)
unfolding start_state
start-step-read addresses parents at state = moved-to-read (started_at addresses parents at) state

pub end-step-read : (ends : List ℕ) (at : Positions) (state : DecoderState) → read_state (end_state ends at (read_state state)) ≡ read_state (end_state ends at state)
unfolding end_state
end-step-read ends at state = moved-to-read (and_then (end_at ends at.ends) (λ entry. accepted (state_after_end entry))) state

-- a current address that grows by the step
pub grown : (x step : ℕ) → (x % P + step) % P ≡ (x + step) % P
grown x step = omega arith

-- RESPAN
pub respan-step-read : (step : ℕ) (state : DecoderState) → read_state (respan_step step (read_state state)) ≡ read_state (respan_step step state)
unfolding respan_step read_state
respan-step-read step state = rw (grown state.current_addr step, read_twice state.parent_addr)
