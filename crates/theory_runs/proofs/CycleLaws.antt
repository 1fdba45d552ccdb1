-- What a cycle that wrote a row says of that row's decoder part, of the address state and positions after it, and of the captured values
-- that it used up, by what it did.
use mathlib.Core.Path.{◌≡◌, refl}
use mathlib.Core.Bool.{Bool, true, false}
use Prim.Native.Nat.{ℕ}
use native.Mathlib.Omega.{arith}
use Rattle.groups.specs.Answer.{accepted, pick}
use Rattle.groups.specs.Batches.{batch_at}
use Rattle.groups.specs.Flags.{batch_flags}
use Rattle.groups.specs.Contexts.{context_at_op, context_at_batch_start}
use Rattle.groups.specs.Helpers.{helpers_answer}
use Rattle.groups.specs.declared.word.Word.{Word}
use Rattle.groups.specs.declared.batch.BasicBlockNode.{BasicBlockNode}
use Rattle.groups.specs.declared.batch.OpBatch.{OpBatch}
use Rattle.groups.specs.declared.helpers.OperationHelperRegisters.{OperationHelperRegisters}
use Rattle.groups.proofs.Answers.{then-accepted}
use Rattle.rows.specs.declared.records.ids.MastNodeId.{MastNodeId}
use Rattle.rows.specs.declared.records.profile.Profile.{Profile}
use Rattle.rows.specs.declared.records.forest.MastNode.{MastNode}
use Rattle.rows.specs.declared.records.forest.NodeEntry.{NodeEntry}
use Rattle.rows.specs.declared.records.address_state.DecoderState.{DecoderState}
use Rattle.rows.specs.declared.records.address_state.Positions.{Positions}
use Rattle.rows.specs.declared.records.decoder_row.DecoderRow.{DecoderRow}
use Rattle.rows.specs.declared.records.decoder_row.EndBlockStackEntryKind.{EndBlockStackEntryKind}
use Rattle.rows.specs.declared.records.continuation.Continuation.{Continuation}
use Rattle.rows.specs.declared.records.continuation.Captured.{Captured}
use Rattle.rows.specs.declared.records.continuation.Used.{Used}
use Rattle.rows.specs.declared.cycles.made.MadeRow.{MadeRow}
use Rattle.rows.specs.declared.cycles.made.Finish.{Finish}
use Rattle.rows.specs.records.Forests.{Forest, node_at, digest_at, opcode_at, block_of}
use Rattle.rows.specs.records.Addresses.{Queues, started_at, after_start, end_at, state_after_end, after_end, respan_step}
use Rattle.rows.specs.records.DecoderRows.{zero_word, control_flow, basic_block_batch, operation, bit, flag_word}
use Rattle.rows.specs.declared.records.address_state.Cursor.{Cursor}
use Rattle.rows.specs.cycles.Made.{cursor, made_with, made_row, start_block, start_two, start_one, callee_of, info_of, condition_of, start_dyn, start_dyncall, start_kind, start_node, entry_kind, made_end, body_of, made_repeat, finish_loop, operation_made, resumed, made_respan, made}
use Rattle.theory_readings.specs.Tokens.{OneChild, Kind, opcode_of_kind}
use Rattle.theory_runs.specs.Happened.{Ending, Did, InForce, start_of, operation_at, finish_of, did_by, used_by, positions_after}

-- the address state after what a cycle did
unfoldable pub state_after : Profile → Did → DecoderState → DecoderState
state_after p (Did.started kind id b a) state = record { current_addr = b; parent_addr = a }
state_after p (Did.operated id i j opcode) state = state
state_after p (Did.respanned id i) state = respan_step p.step state
state_after p (Did.repeated id) state = state
state_after p (Did.finished ending id flag b a g) state = record { current_addr = a; parent_addr = g }
state_after p Did.nothing state = state

-- a LOOP row has the count 0
unfoldable pub NoCount : Kind → DecoderRow → Type 0
NoCount Kind.span row = Unit {0}
NoCount Kind.join row = Unit {0}
NoCount Kind.loop row = row.group_count ≡ 0
NoCount (Kind.one kind) row = Unit {0}

-- every kind but SYSCALL, whose start is refused (N8)
unfoldable pub NotSyscall : Kind → Type 0
NotSyscall Kind.span = Unit {0}
NotSyscall Kind.join = Unit {0}
NotSyscall Kind.loop = Unit {0}
NotSyscall (Kind.one OneChild.split) = Unit {0}
NotSyscall (Kind.one OneChild.call) = Unit {0}
NotSyscall (Kind.one OneChild.syscall) = ⊥
NotSyscall (Kind.one OneChild.dyn) = Unit {0}
NotSyscall (Kind.one OneChild.dyncall) = Unit {0}

-- the decoder part of a row: its address, opcode and in_span, and of an END its flag
pub record Part (row : DecoderRow) (addr opcode inside : ℕ) : Type 0 where
  pub addr_is : row.addr ≡ addr
  pub opcode_is : row.opcode ≡ opcode
  pub inside_is : row.in_basic_block ≡ inside

-- the row of what a cycle did
unfoldable pub RowBy : Profile → Did → DecoderState → DecoderRow → Type 0
RowBy p (Did.started kind id b a) state row = Part row a (opcode_of_kind p kind) 0 × NoCount kind row × NotSyscall kind
RowBy p (Did.operated id i j opcode) state row = Part row state.current_addr opcode 1
RowBy p (Did.respanned id i) state row = Part row state.current_addr p.respan 0
RowBy p (Did.repeated id) state row = Part row state.current_addr p.repeat 0
RowBy p (Did.finished ending id flag b a g) state row = Part row b p.end 0 × (row.hasher_state_second_word.0 ≡ bit flag)
RowBy p Did.nothing state row = ⊥

pub record Law (p : Profile) (d : Did) (state : DecoderState) (at : Positions) (m : MadeRow) : Type 0 where
  pub used_is : m.used ≡ used_by d
  pub at_is : m.at ≡ positions_after d at
  pub state_is : m.state ≡ state_after p d state
  pub row_is : RowBy p d state m.row

-- a row that is made at once
law-of : (p : Profile) (d : Did) (state : DecoderState) (at : Positions) (m : MadeRow) (row : DecoderRow) (here : Cursor) (used : Used) {following : ℕ} → made_with row here used following ≡ accepted m →
    used ≡ used_by d → here.at ≡ positions_after d at → here.state ≡ state_after p d state → RowBy p d state row → Law p d state at m
law-of p d state at m row here used {following} e f g h k =
    let i : ◌≡◌ {A = MadeRow} m (record { row = row; state = here.state; at = here.at; used = used; following = following }) = cc in
    rw i (record { used_is = f; at_is = g; state_is = h; row_is = k })

same : (row : DecoderRow) → Part row row.addr row.opcode row.in_basic_block
same row = record { addr_is = refl; opcode_is = refl; inside_is = refl }

module _ (f : Forest) (q : Queues) (p : Profile) (registers : OperationHelperRegisters) where
  module _ (id : ℕ) (captured : Captured) (b a : ℕ) (at : Positions) (before : DecoderState) (m : MadeRow) where
    abbrev here : Cursor
    here = cursor (record { current_addr = b; parent_addr = a }) (after_start at)

    -- a start row of a control kind
    control-law : (opcode : ℕ) (kind : Kind) (first second : Word) (used : Used) → opcode ≡ opcode_of_kind p kind → used ≡ used_by (Did.started kind id b a) →
        ((row : DecoderRow) → row.group_count ≡ 0 → NoCount kind row) → NotSyscall kind → made_row (control_flow opcode first second a) here used ≡ accepted m → Law p (Did.started kind id b a) before at m
    unfolding state_after positions_after RowBy control_flow
    control-law opcode kind first second used o u n k e =
        law-of p (Did.started kind id b a) before at m (control_flow opcode first second a) here used e u refl refl
        (rw (← o) (same (control_flow opcode first second a)), n (control_flow opcode first second a) refl, k)

    two-law : (opcode : ℕ) (kind : Kind) (x y : MastNodeId) → opcode ≡ opcode_of_kind p kind → Used.Nothing ≡ used_by (Did.started kind id b a) →
        ((row : DecoderRow) → row.group_count ≡ 0 → NoCount kind row) → NotSyscall kind → start_two f.nodes f.digests opcode x y here ≡ accepted m → Law p (Did.started kind id b a) before at m
    unfolding start_two
    two-law opcode kind x y o u n k e =
        let (v, e1, e2) = then-accepted (digest_at f.nodes f.digests x.0) _ m e in
        let (w, e3, e4) = then-accepted (digest_at f.nodes f.digests y.0) _ m e2 in
        control-law opcode kind v w Used.Nothing o u n k e4

    one-law : (opcode : ℕ) (kind : Kind) (x : MastNodeId) → opcode ≡ opcode_of_kind p kind → Used.Nothing ≡ used_by (Did.started kind id b a) →
        ((row : DecoderRow) → row.group_count ≡ 0 → NoCount kind row) → NotSyscall kind → start_one f.nodes f.digests opcode x here ≡ accepted m → Law p (Did.started kind id b a) before at m
    unfolding start_one
    one-law opcode kind x o u n k e =
        let (v, e1, e2) = then-accepted (digest_at f.nodes f.digests x.0) _ m e in
        control-law opcode kind v zero_word Used.Nothing o u n k e2

    start-law : (node : MastNode) → start_kind f.nodes f.digests f.batches f.groups p node captured here ≡ accepted m → Law p (start_of node id b a) before at m
    unfolding start_kind start_of start_block start_dyn start_dyncall opcode_of_kind used_by NoCount NotSyscall basic_block_batch RowBy state_after positions_after
    start-law (MastNode.Block block) e =
        let (batch, e1, e2) = then-accepted (batch_at f.batches f.groups block 0) _ m e in
        let (flags, e3, e4) = then-accepted (batch_flags block.total) _ m e2 in
        law-of p (Did.started Kind.span id b a) before at m (basic_block_batch p.span batch a block.total flags) here Used.Nothing e4 refl refl refl
        (same (basic_block_batch p.span batch a block.total flags), tt, tt)
    start-law (MastNode.Join x y) e = two-law p.join Kind.join x y refl refl (λ row z. tt) tt e
    start-law (MastNode.Split x y) e = two-law p.split (Kind.one OneChild.split) x y refl refl (λ row z. tt) tt e
    start-law (MastNode.Loop x) e = one-law p.loop_op Kind.loop x refl refl (λ row z. z) tt e
    start-law (MastNode.Call x) e = one-law p.call (Kind.one OneChild.call) x refl refl (λ row z. tt) tt e
    start-law (MastNode.Syscall x) e = let z : ◌≡◌ {A = ℕ} 0 1 = cc in absurd (omega arith)
    start-law MastNode.Dyn e =
        let (word, e1, e2) = then-accepted (callee_of captured.dyn_callee_hash) _ m e in
        control-law p.dyn_op (Kind.one OneChild.dyn) word zero_word Used.Callee refl refl (λ row z. tt) tt e2
    start-law MastNode.Dyncall e =
        let (word, e1, e2) = then-accepted (callee_of captured.dyn_callee_hash) _ m e in
        let (info, e3, e4) = then-accepted (info_of captured.ctx_info) _ m e2 in
        control-law p.dyncall (Kind.one OneChild.dyncall) word (info.stack_depth, info.next_overflow_addr, 0, 0) Used.CalleeAndInfo refl refl (λ row z. tt) tt e4
    start-law MastNode.External e = let z : ◌≡◌ {A = ℕ} 0 1 = cc in absurd (omega arith)

  -- an END row's fifth h cell is its flag
  flag_cell : (flag : Bool) (kind : EndBlockStackEntryKind) → (flag_word flag kind).0 ≡ bit flag
  flag_cell flag EndBlockStackEntryKind.Continuation = refl
  flag_cell flag EndBlockStackEntryKind.LoopContinuation = refl
  flag_cell flag EndBlockStackEntryKind.CallerFrame = refl

  -- what is in force, and the place of a cycle
  module _ (v : InForce) (state : DecoderState) (m : MadeRow) where
    finish-law : (id : MastNodeId) (finish : Finish) (ending : Ending) (used : Used) →
        ((x y z : ℕ) → used ≡ used_by (Did.finished ending id.0 v.is_loop_body x y z)) →
        made_end f.nodes f.digests q.ends p.end id finish v.is_loop_body used (cursor state v.at) ≡ accepted m →
        Law p (finish_of q v ending id.0) state v.at m
    unfolding made_end finish_of state_after positions_after RowBy control_flow
    finish-law id finish ending used u e =
        let (entry, e1, e2) = then-accepted (node_at f.nodes f.digests id.0) _ m e in
        let (kind, e3, e4) = then-accepted (entry_kind finish entry.node) _ m e2 in
        let (x, e5, e6) = then-accepted (end_at q.ends v.at.ends) _ m e4 in
        let row : DecoderRow = control_flow p.end entry.digest (flag_word v.is_loop_body kind) x.ended_node_addr in
        rw e5 (law-of p (Did.finished ending id.0 v.is_loop_body x.ended_node_addr x.prev_addr x.prev_parent_addr) state v.at m row
        (cursor (state_after_end x) (after_end v.at)) used e6 (u x.ended_node_addr x.prev_addr x.prev_parent_addr) refl refl (same row, flag_cell v.is_loop_body kind))

    repeat-law : (id : MastNodeId) → made_repeat f.nodes f.digests p.repeat id (cursor state v.at) ≡ accepted m → Law p (Did.repeated id.0) state v.at m
    unfolding made_repeat state_after positions_after RowBy control_flow used_by
    repeat-law id e =
        let (entry, e1, e2) = then-accepted (node_at f.nodes f.digests id.0) _ m e in
        let (body, e3, e4) = then-accepted (body_of entry.node) _ m e2 in
        let (digest, e5, e6) = then-accepted (digest_at f.nodes f.digests body.0) _ m e4 in
        let row : DecoderRow = control_flow p.repeat digest (1, 0, 0, 0) state.current_addr in
        law-of p (Did.repeated id.0) state v.at m row (cursor state v.at) Used.Condition e6 refl refl refl (same row)

    loop-law : (id : MastNodeId) (again : Bool) →
        pick again (made_repeat f.nodes f.digests p.repeat id (cursor state v.at)) (made_end f.nodes f.digests q.ends p.end id Finish.Loop v.is_loop_body Used.Condition (cursor state v.at)) ≡ accepted m →
        Law p (pick again (Did.repeated id.0) (finish_of q v Ending.FinishLoop id.0)) state v.at m
    unfolding used_by
    loop-law id true e = repeat-law id e
    loop-law id false e = finish-law id Finish.Loop Ending.FinishLoop Used.Condition (λ x y z. refl) e

    started-law : (id : MastNodeId) (s : DecoderState) (entry : NodeEntry) → started_at q.addresses q.parents v.at ≡ accepted s → node_at f.nodes f.digests id.0 ≡ accepted entry →
        start_kind f.nodes f.digests f.batches f.groups p entry.node v.captured (cursor s (after_start v.at)) ≡ accepted m → Law p (did_by q f v (Continuation.StartNode id)) state v.at m
    unfolding did_by
    started-law id s entry e1 e2 e3 = rw (e1, e2) (start-law id.0 v.captured s.current_addr s.parent_addr v.at state m entry.node e3)

    operated-law : (id : MastNodeId) (index op : ℕ) (entry : NodeEntry) (block : BasicBlockNode) (batch : OpBatch) (opcode : ℕ) → node_at f.nodes f.digests id.0 ≡ accepted entry → block_of entry.node ≡ accepted block →
        batch_at f.batches f.groups block index ≡ accepted batch → opcode_at f.ops batch op ≡ accepted opcode → Law p (Did.operated id.0 index op opcode) state v.at m →
        Law p (did_by q f v (Continuation.ResumeBasicBlock id index op)) state v.at m
    unfolding did_by operation_at
    operated-law id index op entry block batch opcode e1 e2 e3 e4 h = rw (e1, e2, e3, e4) h

    condition-law : (id : MastNodeId) (again : Bool) → condition_of v.captured.finish_loop_condition ≡ accepted again →
        Law p (pick again (Did.repeated id.0) (finish_of q v Ending.FinishLoop id.0)) state v.at m → Law p (did_by q f v (Continuation.FinishLoop id)) state v.at m
    unfolding did_by
    condition-law id again e h = rw e h

    -- the law of each continuation
    pub made-law : (continuation : Continuation) → made f q p registers continuation v.is_loop_body v.captured (cursor state v.at) ≡ accepted m → Law p (did_by q f v continuation) state v.at m
    unfolding made did_by start_node finish_loop resumed operation_made made_respan used_by operation_at operation basic_block_batch RowBy state_after positions_after
    made-law (Continuation.StartNode id) e =
        let (s, e1, e2) = then-accepted (started_at q.addresses q.parents v.at) _ m e in
        let (entry, e3, e4) = then-accepted (node_at f.nodes f.digests id.0) _ m e2 in
        started-law id s entry e1 e3 e4
    made-law (Continuation.FinishJoin id) e = finish-law id Finish.Any Ending.FinishJoin Used.Nothing (λ x y z. refl) e
    made-law (Continuation.FinishSplit id) e = finish-law id Finish.Any Ending.FinishSplit Used.Nothing (λ x y z. refl) e
    made-law (Continuation.FinishLoop id) e =
        let (again, e1, e2) = then-accepted (condition_of v.captured.finish_loop_condition) _ m e in
        condition-law id again e1 (loop-law id again e2)
    made-law (Continuation.FinishCall id) e = finish-law id Finish.Call Ending.FinishCall Used.Nothing (λ x y z. refl) e
    made-law (Continuation.FinishDyn id) e = finish-law id Finish.Dyn Ending.FinishDyn Used.Nothing (λ x y z. refl) e
    made-law (Continuation.ResumeBasicBlock id index op) e =
        let (entry, e1, e2) = then-accepted (node_at f.nodes f.digests id.0) _ m e in
        let (block, e3, e4) = then-accepted (block_of entry.node) _ m e2 in
        let (batch, e5, e6) = then-accepted (batch_at f.batches f.groups block index) _ m e4 in
        let (opcode, e7, e8) = then-accepted (opcode_at f.ops batch op) _ m e6 in
        let (found, e9, e10) = then-accepted (context_at_op p.push block f.batches f.groups index op) _ m e8 in
        let (helpers, e11, e12) = then-accepted (helpers_answer registers) _ m e10 in
        let row : DecoderRow = operation opcode state.current_addr state.parent_addr found.place.index found.context.current_op_group found.context.group_count_in_block helpers in
        operated-law id index op entry block batch opcode e1 e3 e5 e7 (law-of p (Did.operated id.0 index op opcode) state v.at m row (cursor state v.at) Used.Nothing e12 refl refl refl (same row))
    made-law (Continuation.Respan id index) e =
        let (entry, e1, e2) = then-accepted (node_at f.nodes f.digests id.0) _ m e in
        let (block, e3, e4) = then-accepted (block_of entry.node) _ m e2 in
        let (found, e5, e6) = then-accepted (context_at_batch_start block f.batches f.groups index) _ m e4 in
        let row : DecoderRow = basic_block_batch p.respan found.batch state.current_addr found.context.group_count_in_block found.flags in
        law-of p (Did.respanned id.0 index) state v.at m row (cursor (respan_step p.step state) v.at) Used.Nothing e6 refl refl refl (same row)
    made-law (Continuation.FinishBasicBlock id) e = finish-law id Finish.Block Ending.FinishBasicBlock Used.Nothing (λ x y z. refl) e
    made-law Continuation.EnterForest e = let z : ◌≡◌ {A = ℕ} 0 1 = cc in absurd (omega arith)
