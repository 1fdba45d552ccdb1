-- What a cycle leaves of the address state: each address is as it was, or is below p, since it comes from a queue, which is read, or grows modulo p.
use mathlib.Core.Path.{◌≡◌, refl, ap}
use mathlib.Core.Bool.{Bool, true, false, not, ◌||◌}
use mathlib.Core.List.{List}
use mathlib.Core.Logic.{◌⊎◌, inl, inr}
use Prim.Native.Nat.{ℕ, ◌+◌, ◌*◌, ◌/◌, ◌%◌}
use lib.Dec.{leb, ltb, eqb}
use lib.ListN.{length}
use Rattle.field.specs.Modulus.{P}
use Rattle.field.specs.Cells.{cell_at}
use Rattle.field.proofs.CellLaws.{cell_below, read_small, read_twice}
use Rattle.groups.specs.Answer.{Answer, accepted, refused, and_then, pick}
use Rattle.groups.specs.Batches.{batch_at}
use Rattle.groups.specs.Flags.{batch_flags}
use Rattle.groups.specs.Contexts.{context_at_op, context_at_batch_start}
use Rattle.groups.specs.Helpers.{helpers_answer}
use Rattle.groups.specs.declared.helpers.OperationHelperRegisters.{OperationHelperRegisters}
use Rattle.rows.specs.declared.records.ids.MastNodeId.{MastNodeId}
use Rattle.rows.specs.declared.records.profile.Profile.{Profile}
use Rattle.rows.specs.declared.records.forest.MastNode.{MastNode}
use Rattle.rows.specs.declared.records.address_state.DecoderState.{DecoderState}
use Rattle.rows.specs.declared.records.address_state.Positions.{Positions}
use Rattle.rows.specs.declared.records.address_state.NodeEndData.{NodeEndData}
use Rattle.rows.specs.declared.records.state.SystemState.{SystemState}
use Rattle.rows.specs.declared.records.state.StackState.{StackState}
use Rattle.rows.specs.declared.records.continuation.Continuation.{Continuation}
use Rattle.rows.specs.declared.records.continuation.Captured.{Captured}
use Rattle.rows.specs.declared.records.continuation.Used.{Used}
use Rattle.rows.specs.declared.cycles.made.MadeRow.{MadeRow}
use Rattle.rows.specs.declared.cycles.made.Finish.{Finish}
use Rattle.rows.specs.declared.cycles.scan.Scan.{Scan}
use Rattle.rows.specs.declared.cycles.tracer.CoreTraceGenerationTracer.{CoreTraceGenerationTracer}
use Rattle.rows.specs.records.Forests.{Forest, node_at, digest_at, opcode_at, block_of}
use Rattle.rows.specs.records.Addresses.{Queues, read_state, entry_at, started_at, end_at, after_start, state_after_end, respan_step}
use Rattle.rows.specs.declared.records.address_state.Cursor.{Cursor}
use Rattle.rows.specs.cycles.Made.{cursor, callee_of, info_of, condition_of, start_block, start_two, start_one, start_dyn, start_dyncall, start_kind, start_node, entry_kind, made_end, body_of, made_repeat, finish_loop, operation_made, resumed, made_respan, made}
use Rattle.rows.specs.records.Cells.{fragment_wrong}
use Rattle.rows.specs.cycles.Scans.{scan_of}
use Rattle.rows.specs.cycles.Cycles.{continuation_of, refuse_if, cycle_with, cycle, tracer_after}

-- an address state that reading leaves as it is: both addresses are below p
abbrev pub IsRead : DecoderState → Type 0
IsRead s = read_state s ≡ s

pub read_is : (s : DecoderState) → IsRead (read_state s)
unfolding read_state
read_is s = rw (read_twice s.current_addr, read_twice s.parent_addr)

abbrev pub IsCell : ℕ → Type 0
IsCell x = x % P ≡ x

cell-is : (l : List ℕ) (i : ℕ) → IsCell (cell_at l i)
cell-is l i = read_small (cell_at l i) (cell_below l i)

-- the addresses of such a state
pub current-is : (s : DecoderState) → IsRead s → IsCell s.current_addr
unfolding read_state
current-is s e = ap (λ (x : DecoderState). x.current_addr) e

pub parent_is : (s : DecoderState) → IsRead s → IsCell s.parent_addr
unfolding read_state
parent_is s e = ap (λ (x : DecoderState). x.parent_addr) e

of-cells : (b a : ℕ) → IsCell b → IsCell a → IsRead (record { current_addr = b; parent_addr = a })
unfolding read_state
of-cells b a h k = rw (h, k)

-- each address is the one before or is below p: what changed is below p, and what is not set is as it was given
pub record Moved (before after : DecoderState) : Type 0 where
  pub current : (after.current_addr ≡ before.current_addr) ⊎ IsCell after.current_addr
  pub parent : (after.parent_addr ≡ before.parent_addr) ⊎ IsCell after.parent_addr

pub unmoved : (s : DecoderState) → Moved s s
unmoved s = record { current = inl refl; parent = inl refl }

-- where both are set
moved-read : (s t : DecoderState) → IsRead t → Moved s t
moved-read s t e = record { current = inr (current-is t e); parent = inr (parent_is t e) }

respan-moved : (step : ℕ) (s : DecoderState) → Moved s (respan_step step s)
unfolding respan_step
respan-moved step s = record { current = inr (read_twice (s.current_addr + step)); parent = inl refl }

kept-cell : (x y : ℕ) → (y ≡ x) ⊎ IsCell y → IsCell x → IsCell y
kept-cell x y (inl e) h = rw e h
kept-cell x y (inr k) h = k

-- below p before, below p after
pub read-moved : (s t : DecoderState) → Moved s t → IsRead s → IsRead t
read-moved s t m e =
    of-cells t.current_addr t.parent_addr (kept-cell s.current_addr t.current_addr m.current (current-is s e))
    (kept-cell s.parent_addr t.parent_addr m.parent (parent_is s e))

-- ANSWERS

-- what holds of an answer's values where it accepts
abbrev pub Gives : {A : Type 0} → (A → Type 0) → Answer A → Type 0
Gives Q (accepted x) = Q x
Gives Q (refused n) = Unit {0}

then-gives : {A B : Type 0} (Q : A → Type 0) (R : B → Type 0) (a : Answer A) (f : A → Answer B) → Gives Q a → ((x : A) → Q x → Gives R (f x)) → Gives R (and_then a f)
then-gives Q R (accepted x) f h k = k x h
then-gives Q R (refused n) f h k = tt

-- where nothing need be known of the first answer
pub next-gives : {A B : Type 0} (R : B → Type 0) (a : Answer A) (f : A → Answer B) → ((x : A) → Gives R (f x)) → Gives R (and_then a f)
next-gives R (accepted x) f k = k x
next-gives R (refused n) f k = tt

pick_gives : {A : Type 0} (Q : A → Type 0) (t : Bool) (x y : Answer A) → Gives Q x → Gives Q y → Gives Q (pick t x y)
pick_gives Q true x y h k = h
pick_gives Q false x y h k = k

-- QUEUES

entry-is : (n : ℕ) (queue : List ℕ) (at : ℕ) → Gives IsCell (entry_at n queue at)
unfolding entry_at
entry-is n queue at = pick_gives IsCell (ltb at (length queue)) (accepted (cell_at queue at)) (refused n) (cell-is queue at) tt

pub started-read : (addresses parents : List ℕ) (at : Positions) → Gives IsRead (started_at addresses parents at)
unfolding started_at
started-read addresses parents at =
    then-gives IsCell IsRead (entry_at 20 addresses at.addresses) _ (entry-is 20 addresses at.addresses) (λ b h.
    then-gives IsCell IsRead (entry_at 21 parents at.parents) _ (entry-is 21 parents at.parents) (λ a k. of-cells b a h k))

abbrev pub EndsRead : NodeEndData → Type 0
EndsRead entry = IsRead (state_after_end entry)

pub ended-read : (ends : List ℕ) (at : ℕ) → Gives EndsRead (end_at ends at)
unfolding end_at
ended-read ends at =
    pick_gives EndsRead (ltb at (length ends / 3)) _ (refused 22) (of-cells (cell_at ends (3 * at + 1)) (cell_at ends (3 * at + 2)) (cell-is ends (3 * at + 1)) (cell-is ends (3 * at + 2))) tt

-- ROWS

-- a row behind an address state
abbrev pub RowMoved : DecoderState → MadeRow → Type 0
RowMoved s m = Moved s m.state

kind-moves : (nodes digests batches groups : List ℕ) (p : Profile) (node : MastNode) (captured : Captured) (s : DecoderState) (here : Cursor) → Moved s here.state →
    Gives (RowMoved s) (start_kind nodes digests batches groups p node captured here)
unfolding start_kind start_block start_two start_one start_dyn start_dyncall
kind-moves nodes digests batches groups p (MastNode.Block block) captured s here e =
    next-gives (RowMoved s) (batch_at batches groups block 0) _ (λ batch. next-gives (RowMoved s) (batch_flags block.total) _ (λ flags. e))
kind-moves nodes digests batches groups p (MastNode.Join a b) captured s here e =
    next-gives (RowMoved s) (digest_at nodes digests a.0) _ (λ x. next-gives (RowMoved s) (digest_at nodes digests b.0) _ (λ y. e))
kind-moves nodes digests batches groups p (MastNode.Split a b) captured s here e =
    next-gives (RowMoved s) (digest_at nodes digests a.0) _ (λ x. next-gives (RowMoved s) (digest_at nodes digests b.0) _ (λ y. e))
kind-moves nodes digests batches groups p (MastNode.Loop a) captured s here e = next-gives (RowMoved s) (digest_at nodes digests a.0) _ (λ x. e)
kind-moves nodes digests batches groups p (MastNode.Call a) captured s here e = next-gives (RowMoved s) (digest_at nodes digests a.0) _ (λ x. e)
kind-moves nodes digests batches groups p (MastNode.Syscall a) captured s here e = tt
kind-moves nodes digests batches groups p MastNode.Dyn captured s here e = next-gives (RowMoved s) (callee_of captured.dyn_callee_hash) _ (λ x. e)
kind-moves nodes digests batches groups p MastNode.Dyncall captured s here e =
    next-gives (RowMoved s) (callee_of captured.dyn_callee_hash) _ (λ x. next-gives (RowMoved s) (info_of captured.ctx_info) _ (λ y. e))
kind-moves nodes digests batches groups p MastNode.External captured s here e = tt

finished-moves : (nodes digests ends : List ℕ) (end : ℕ) (id : MastNodeId) (finish : Finish) (flag : Bool) (used : Used) (here : Cursor) →
    Gives (RowMoved here.state) (made_end nodes digests ends end id finish flag used here)
unfolding made_end
finished-moves nodes digests ends end id finish flag used here =
    next-gives (RowMoved here.state) (node_at nodes digests id.0) _ (λ entry.
    next-gives (RowMoved here.state) (entry_kind finish entry.node) _ (λ kind.
    then-gives EndsRead (RowMoved here.state) (end_at ends here.at.ends) _ (ended-read ends here.at.ends) (λ ended h. moved-read here.state (state_after_end ended) h)))

repeated-moves : (nodes digests : List ℕ) (repeat : ℕ) (id : MastNodeId) (here : Cursor) → Gives (RowMoved here.state) (made_repeat nodes digests repeat id here)
unfolding made_repeat
repeated-moves nodes digests repeat id here =
    next-gives (RowMoved here.state) (node_at nodes digests id.0) _ (λ entry.
    next-gives (RowMoved here.state) (body_of entry.node) _ (λ body.
    next-gives (RowMoved here.state) (digest_at nodes digests body.0) _ (λ digest. unmoved here.state)))

resumed-moves : (f : Forest) (push : ℕ) (id : MastNodeId) (index op : ℕ) (registers : OperationHelperRegisters) (here : Cursor) →
    Gives (RowMoved here.state) (resumed f push id index op registers here)
unfolding resumed operation_made
resumed-moves f push id index op registers here =
    next-gives (RowMoved here.state) (node_at f.nodes f.digests id.0) _ (λ entry.
    next-gives (RowMoved here.state) (block_of entry.node) _ (λ block.
    next-gives (RowMoved here.state) (batch_at f.batches f.groups block index) _ (λ batch.
    next-gives (RowMoved here.state) (opcode_at f.ops batch op) _ (λ opcode.
    next-gives (RowMoved here.state) (context_at_op push block f.batches f.groups index op) _ (λ found.
    next-gives (RowMoved here.state) (helpers_answer registers) _ (λ helpers. unmoved here.state))))))

respanned-moves : (nodes digests batches groups : List ℕ) (opcode step : ℕ) (id : MastNodeId) (index : ℕ) (here : Cursor) →
    Gives (RowMoved here.state) (made_respan nodes digests batches groups opcode step id index here)
unfolding made_respan
respanned-moves nodes digests batches groups opcode step id index here =
    next-gives (RowMoved here.state) (node_at nodes digests id.0) _ (λ entry.
    next-gives (RowMoved here.state) (block_of entry.node) _ (λ block.
    next-gives (RowMoved here.state) (context_at_batch_start block batches groups index) _ (λ found. respan-moved step here.state)))

-- what a continuation makes leaves each address as it was, or below p
pub made-moves : (f : Forest) (q : Queues) (p : Profile) (registers : OperationHelperRegisters) (c : Continuation) (flag : Bool) (captured : Captured) (here : Cursor) →
    Gives (RowMoved here.state) (made f q p registers c flag captured here)
unfolding made start_node finish_loop
made-moves f q p registers (Continuation.StartNode id) flag captured here =
    then-gives IsRead (RowMoved here.state) (started_at q.addresses q.parents here.at) _ (started-read q.addresses q.parents here.at) (λ state h.
    next-gives (RowMoved here.state) (node_at f.nodes f.digests id.0) _ (λ entry.
    kind-moves f.nodes f.digests f.batches f.groups p entry.node captured here.state (cursor state (after_start here.at)) (moved-read here.state state h)))
made-moves f q p registers (Continuation.FinishJoin id) flag captured here = finished-moves _ _ _ _ id _ flag _ here
made-moves f q p registers (Continuation.FinishSplit id) flag captured here = finished-moves _ _ _ _ id _ flag _ here
made-moves f q p registers (Continuation.FinishLoop id) flag captured here =
    next-gives (RowMoved here.state) (condition_of captured.finish_loop_condition) _ (λ again.
    pick_gives (RowMoved here.state) again _ _ (repeated-moves f.nodes f.digests p.repeat id here) (finished-moves f.nodes f.digests q.ends p.end id Finish.Loop flag Used.Condition here))
made-moves f q p registers (Continuation.FinishCall id) flag captured here = finished-moves _ _ _ _ id _ flag _ here
made-moves f q p registers (Continuation.FinishDyn id) flag captured here = finished-moves _ _ _ _ id _ flag _ here
made-moves f q p registers (Continuation.ResumeBasicBlock id index op) flag captured here = resumed-moves f p.push id index op registers here
made-moves f q p registers (Continuation.Respan id index) flag captured here =
    respanned-moves f.nodes f.digests f.batches f.groups p.respan p.step id index here
made-moves f q p registers (Continuation.FinishBasicBlock id) flag captured here = finished-moves _ _ _ _ id _ flag _ here
made-moves f q p registers Continuation.EnterForest flag captured here = tt

-- A CYCLE

pub if-gives : {A : Type 0} (Q : A → Type 0) (t : Bool) (n : ℕ) (a : Answer A) → Gives Q a → Gives Q (refuse_if t n a)
if-gives Q true n a h = tt
if-gives Q false n a h = h

pub cycle-with-moves : (scan : Scan) (p : Profile) (f : Forest) (q : Queues) (stack : StackState) (registers : OperationHelperRegisters) (cells : ℕ) (t : CoreTraceGenerationTracer) →
    Gives (RowMoved t.decoder_state) (cycle_with scan p f q stack registers cells t)
unfolding cycle_with
cycle-with-moves scan p f q stack registers cells t =
    let Q : MadeRow → Type 0 = RowMoved t.decoder_state in
    if-gives Q (not (eqb t.refusal 0)) t.refusal _ (next-gives Q (continuation_of t.continuation) _ (λ c.
    if-gives Q scan.big 1 _ (if-gives Q scan.profile_wrong 2 _ (if-gives Q (scan.too_large || fragment_wrong cells t.row_write_index) 11 _
    (if-gives Q (ltb stack.stack_depth 16) 10 _
    (then-gives Q Q (made f q p registers c t.is_loop_body t.captured (cursor t.decoder_state t.at)) _
    (made-moves f q p registers c t.is_loop_body t.captured (cursor t.decoder_state t.at)) (λ m h.
    if-gives Q (leb (cells / 49) t.row_write_index) 24 (accepted m) h)))))))

pub after-moves : (system : SystemState) (stack : StackState) (t : CoreTraceGenerationTracer) (a : Answer MadeRow) → Gives (RowMoved t.decoder_state) a → Moved t.decoder_state (tracer_after system stack t a).decoder_state
unfolding tracer_after
after-moves system stack t (accepted m) h = h
after-moves system stack t (refused n) h = unmoved t.decoder_state

-- a cycle on any tracer, accepted or refused
pub cycle-moves : (p : Profile) (f : Forest) (q : Queues) (system : SystemState) (stack : StackState) (registers : OperationHelperRegisters) (cells : ℕ) (t : CoreTraceGenerationTracer) →
    Moved t.decoder_state (tracer_after system stack t (cycle p f q stack registers cells t)).decoder_state
unfolding cycle
cycle-moves p f q system stack registers cells t =
    after-moves system stack t _ (cycle-with-moves (scan_of p f.nodes f.batches f.ops) p f q stack registers cells t)

-- so it leaves an address state below p where it was
pub cycle-read : (p : Profile) (f : Forest) (q : Queues) (system : SystemState) (stack : StackState) (registers : OperationHelperRegisters) (cells : ℕ) (t : CoreTraceGenerationTracer) → IsRead t.decoder_state →
    IsRead (tracer_after system stack t (cycle p f q stack registers cells t)).decoder_state
cycle-read p f q system stack registers cells t e = read-moved t.decoder_state _ (cycle-moves p f q system stack registers cells t) e
