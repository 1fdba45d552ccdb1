-- Document 01, "Entry: one cycle": what each continuation makes, with its own refusals in their order. A row's decoder part, the address
-- state and positions after it, and which captured values it used up. No system or stack state and no fragment goes in.
use Rattle.std.specs.Prelude.{Bool, Option, Some, None, List, ℕ}
use Rattle.groups.specs.Answer.{Answer, accepted, refused, and_then, pick}
use Rattle.groups.specs.Constants.{wrong_node_kind, stored_absent, syscall_start}
use Rattle.groups.specs.Batches.{batch_at}
use Rattle.groups.specs.Flags.{batch_flags}
use Rattle.groups.specs.Contexts.{context_at_op, context_at_batch_start}
use Rattle.groups.specs.Helpers.{helpers_answer}
use Rattle.groups.specs.declared.word.Word.{Word}
use Rattle.groups.specs.declared.batch.BasicBlockNode.{BasicBlockNode}
use Rattle.groups.specs.declared.context.OpContext.{OpContext}
use Rattle.groups.specs.declared.helpers.OperationHelperRegisters.{OperationHelperRegisters}
use Rattle.rows.specs.declared.records.ids.MastNodeId.{MastNodeId}
use Rattle.rows.specs.declared.records.profile.Profile.{Profile}
use Rattle.rows.specs.declared.records.forest.MastNode.{MastNode}
use Rattle.rows.specs.declared.records.address_state.DecoderState.{DecoderState}
use Rattle.rows.specs.declared.records.address_state.Positions.{Positions}
use Rattle.rows.specs.declared.records.address_state.Cursor.{Cursor}
use Rattle.rows.specs.declared.records.decoder_row.DecoderRow.{DecoderRow}
use Rattle.rows.specs.declared.records.decoder_row.EndBlockStackEntryKind.{EndBlockStackEntryKind}
use Rattle.rows.specs.declared.records.continuation.Continuation.{Continuation}
use Rattle.rows.specs.declared.records.continuation.Captured.{Captured}
use Rattle.rows.specs.declared.records.continuation.ExecutionContextInfo.{ExecutionContextInfo}
use Rattle.rows.specs.declared.records.continuation.Used.{Used}
use Rattle.rows.specs.declared.cycles.made.MadeRow.{MadeRow}
use Rattle.rows.specs.declared.cycles.made.Finish.{Finish}
use Rattle.rows.specs.records.Forests.{Forest, node_at, digest_at, opcode_at, block_of}
use Rattle.rows.specs.records.Addresses.{Queues, started_at, after_start, end_at, state_after_end, after_end, respan_step}
use Rattle.rows.specs.records.DecoderRows.{zero_word, control_flow, basic_block_batch, operation, flag_word}

-- where a cycle stands: the address state and the queue positions
abbrev pub cursor : DecoderState → Positions → Cursor
cursor state at = record { state = state; at = at }

-- a row, and how many operations follow in its operation's group (N7)
abbrev pub made_with : DecoderRow → Cursor → Used → (following : ℕ) → Answer MadeRow
made_with row here used following = accepted (record { row = row; state = here.state; at = here.at; used = used; following = following })

-- "For other continuations it is 0" (N7)
abbrev pub made_row : DecoderRow → Cursor → Used → Answer MadeRow
made_row row here used = made_with row here used 0

-- Block: "5 if it has no batch, 7". SPAN carries the parent address and the block total
unfoldable pub start_block : (batches groups : List ℕ) → (span : ℕ) → BasicBlockNode → Cursor → Answer MadeRow
start_block batches groups span block here =
    and_then (batch_at batches groups block 0) (λ batch.
    and_then (batch_flags block.total) (λ flags.
    made_row (basic_block_batch span batch here.state.parent_addr block.total flags) here Used.Nothing))

-- Join, Split: "3 for each child, first child first"; "two child digests"
unfoldable pub start_two : (nodes digests : List ℕ) → (opcode : ℕ) → (first second : MastNodeId) → Cursor → Answer MadeRow
start_two nodes digests opcode first second here =
    and_then (digest_at nodes digests first.0) (λ a.
    and_then (digest_at nodes digests second.0) (λ b.
    made_row (control_flow opcode a b here.state.parent_addr) here Used.Nothing))

-- Loop, Call: 3 for the child; "LOOP, CALL, SYSCALL one" (SYSCALL rows are only read since N8)
unfoldable pub start_one : (nodes digests : List ℕ) → (opcode : ℕ) → (child : MastNodeId) → Cursor → Answer MadeRow
start_one nodes digests opcode child here =
    and_then (digest_at nodes digests child.0) (λ a.
    made_row (control_flow opcode a zero_word here.state.parent_addr) here Used.Nothing)

-- a captured value, or "23 .. a captured value absent"
abbrev pub callee_of : Option Word → Answer Word
callee_of (Some word) = accepted word
callee_of None = refused stored_absent

abbrev pub info_of : Option ExecutionContextInfo → Answer ExecutionContextInfo
info_of (Some info) = accepted info
info_of None = refused stored_absent

abbrev pub condition_of : Option Bool → Answer Bool
condition_of (Some again) = accepted again
condition_of None = refused stored_absent

-- Dyn: "23 for the callee word"; "DYN the callee word"
unfoldable pub start_dyn : (opcode : ℕ) → Option Word → Cursor → Answer MadeRow
start_dyn opcode callee here =
    and_then (callee_of callee) (λ word.
    made_row (control_flow opcode word zero_word here.state.parent_addr) here Used.Callee)

-- Dyn: "23 for the callee word, then for DYNCALL's context info"; "DYNCALL that, then depth, next overflow address"
unfoldable pub start_dyncall : (opcode : ℕ) → Option Word → Option ExecutionContextInfo → Cursor → Answer MadeRow
start_dyncall opcode callee info here =
    and_then (callee_of callee) (λ word.
    and_then (info_of info) (λ context.
    made_row
    (control_flow opcode word (context.stack_depth, context.next_overflow_addr, 0, 0) here.state.parent_addr)
    here
    Used.CalleeAndInfo))

-- "4 (`External`), then by kind"; "It refuses with 31 at StartNode of a SYSCALL node, after check 4 and before the child's digest" (N8)
unfoldable pub start_kind : (nodes digests batches groups : List ℕ) → Profile → MastNode → Captured → Cursor → Answer MadeRow
start_kind nodes digests batches groups p (MastNode.Block block) captured here = start_block batches groups p.span block here
start_kind nodes digests batches groups p (MastNode.Join a b) captured here = start_two nodes digests p.join a b here
start_kind nodes digests batches groups p (MastNode.Split a b) captured here = start_two nodes digests p.split a b here
start_kind nodes digests batches groups p (MastNode.Loop a) captured here = start_one nodes digests p.loop_op a here
start_kind nodes digests batches groups p (MastNode.Call a) captured here = start_one nodes digests p.call a here
start_kind nodes digests batches groups p (MastNode.Syscall a) captured here = refused syscall_start
start_kind nodes digests batches groups p MastNode.Dyn captured here = start_dyn p.dyn_op captured.dyn_callee_hash here
start_kind nodes digests batches groups p MastNode.Dyncall captured here =
    start_dyncall p.dyncall captured.dyn_callee_hash captured.ctx_info here
start_kind nodes digests batches groups p MastNode.External captured here = refused wrong_node_kind

-- "StartNode: 20, 21 (current and parent address from their queues), then 3, 4 (`External`), then by kind."
unfoldable pub start_node : (nodes digests batches groups addresses parents : List ℕ) → Profile → MastNodeId → Captured → Cursor → Answer MadeRow
start_node nodes digests batches groups addresses parents p id captured here =
    and_then (started_at addresses parents here.at) (λ state.
    and_then (node_at nodes digests id.0) (λ entry.
    start_kind nodes digests batches groups p entry.node captured (cursor state (after_start here.at))))

-- the END of a call: "FinishCall and DYNCALL's FinishDyn set restores-caller"
unfoldable pub call_kind : MastNode → Answer EndBlockStackEntryKind
call_kind (MastNode.Block block) = refused wrong_node_kind
call_kind (MastNode.Join a b) = refused wrong_node_kind
call_kind (MastNode.Split a b) = refused wrong_node_kind
call_kind (MastNode.Loop a) = refused wrong_node_kind
call_kind (MastNode.Call a) = accepted EndBlockStackEntryKind.CallerFrame
call_kind (MastNode.Syscall a) = accepted EndBlockStackEntryKind.CallerFrame
call_kind MastNode.Dyn = refused wrong_node_kind
call_kind MastNode.Dyncall = refused wrong_node_kind
call_kind MastNode.External = refused wrong_node_kind

unfoldable pub dyn_kind : MastNode → Answer EndBlockStackEntryKind
dyn_kind (MastNode.Block block) = refused wrong_node_kind
dyn_kind (MastNode.Join a b) = refused wrong_node_kind
dyn_kind (MastNode.Split a b) = refused wrong_node_kind
dyn_kind (MastNode.Loop a) = refused wrong_node_kind
dyn_kind (MastNode.Call a) = refused wrong_node_kind
dyn_kind (MastNode.Syscall a) = refused wrong_node_kind
dyn_kind MastNode.Dyn = accepted EndBlockStackEntryKind.Continuation
dyn_kind MastNode.Dyncall = accepted EndBlockStackEntryKind.CallerFrame
dyn_kind MastNode.External = refused wrong_node_kind

unfoldable pub block_kind : MastNode → Answer EndBlockStackEntryKind
block_kind node = and_then (block_of node) (λ block. accepted EndBlockStackEntryKind.Continuation)

-- how an END is marked, by its continuation: "FinishLoop sets is-loop"; 4 for another kind of node
unfoldable pub entry_kind : Finish → MastNode → Answer EndBlockStackEntryKind
entry_kind Finish.Any node = accepted EndBlockStackEntryKind.Continuation
entry_kind Finish.Loop node = accepted EndBlockStackEntryKind.LoopContinuation
entry_kind Finish.Call node = call_kind node
entry_kind Finish.Dyn node = dyn_kind node
entry_kind Finish.Block node = block_kind node

-- "FinishJoin, FinishSplit: 3, 22." "FinishCall, FinishDyn, FinishBasicBlock: 3, 4, 22."
-- "END: ended address, node digest, then loop-body flag, is-loop, restores-caller, 0."
unfoldable pub made_end : (nodes digests ends : List ℕ) → (end : ℕ) → MastNodeId → Finish → (is_loop_body : Bool) → Used → Cursor → Answer MadeRow
made_end nodes digests ends end id finish is_loop_body used here =
    and_then (node_at nodes digests id.0) (λ entry.
    and_then (entry_kind finish entry.node) (λ kind.
    and_then (end_at ends here.at.ends) (λ ended.
    made_row
    (control_flow end entry.digest (flag_word is_loop_body kind) ended.ended_node_addr)
    (cursor (state_after_end ended) (after_end here.at))
    used)))

-- the body of a loop, or 4
unfoldable pub body_of : MastNode → Answer MastNodeId
body_of (MastNode.Block block) = refused wrong_node_kind
body_of (MastNode.Join a b) = refused wrong_node_kind
body_of (MastNode.Split a b) = refused wrong_node_kind
body_of (MastNode.Loop body) = accepted body
body_of (MastNode.Call a) = refused wrong_node_kind
body_of (MastNode.Syscall a) = refused wrong_node_kind
body_of MastNode.Dyn = refused wrong_node_kind
body_of MastNode.Dyncall = refused wrong_node_kind
body_of MastNode.External = refused wrong_node_kind

-- "Condition one: 3, 4, and a REPEAT row." "REPEAT: current address, body digest, then 1."
unfoldable pub made_repeat : (nodes digests : List ℕ) → (repeat : ℕ) → MastNodeId → Cursor → Answer MadeRow
made_repeat nodes digests repeat id here =
    and_then (node_at nodes digests id.0) (λ entry.
    and_then (body_of entry.node) (λ body.
    and_then (digest_at nodes digests body.0) (λ digest.
    made_row (control_flow repeat digest (1, 0, 0, 0) here.state.current_addr) here Used.Condition)))

-- "FinishLoop: 23 if no condition. Condition one: 3, 4, and a REPEAT row. Else: 3, 22, and an END row."
unfoldable pub finish_loop : (nodes digests ends : List ℕ) → Profile → MastNodeId → Option Bool → (is_loop_body : Bool) → Cursor → Answer MadeRow
finish_loop nodes digests ends p id condition is_loop_body here =
    and_then (condition_of condition) (λ again.
    pick again (made_repeat nodes digests p.repeat id here)
    (made_end nodes digests ends p.end id Finish.Loop is_loop_body Used.Condition here))

-- an operation's row in its context, or 9
unfoldable pub operation_made : (opcode : ℕ) → OpContext → OperationHelperRegisters → Cursor → Answer MadeRow
operation_made opcode found registers here =
    and_then (helpers_answer registers) (λ helpers.
    made_with
    (operation opcode here.state.current_addr here.state.parent_addr found.place.index
    found.context.current_op_group found.context.group_count_in_block helpers)
    here
    Used.Nothing
    found.place.following)

-- "ResumeBasicBlock: 3, 4, 5, 6, 8, 9."
unfoldable pub resumed : Forest → (push : ℕ) → MastNodeId → (index op : ℕ) → OperationHelperRegisters → Cursor → Answer MadeRow
resumed f push id index op registers here =
    and_then (node_at f.nodes f.digests id.0) (λ entry.
    and_then (block_of entry.node) (λ block.
    and_then (batch_at f.batches f.groups block index) (λ batch.
    and_then (opcode_at f.ops batch op) (λ opcode.
    and_then (context_at_op push block f.batches f.groups index op) (λ found.
    operation_made opcode found registers here)))))

-- "Respan: 3, 4, 5, 7." "RESPAN: current address, which then grows by the step modulo p."
unfoldable pub made_respan : (nodes digests batches groups : List ℕ) → (opcode step : ℕ) → MastNodeId → (index : ℕ) → Cursor → Answer MadeRow
made_respan nodes digests batches groups opcode step id index here =
    and_then (node_at nodes digests id.0) (λ entry.
    and_then (block_of entry.node) (λ block.
    and_then (context_at_batch_start block batches groups index) (λ found.
    made_row
    (basic_block_batch opcode found.batch here.state.current_addr found.context.group_count_in_block found.flags)
    (cursor (respan_step step here.state) here.at)
    Used.Nothing)))

-- what a continuation makes. "EnterForest: 4."
unfoldable pub made : Forest → Queues → Profile → OperationHelperRegisters → Continuation → (is_loop_body : Bool) → Captured → Cursor → Answer MadeRow
made f q p registers (Continuation.StartNode id) is_loop_body captured here =
    start_node f.nodes f.digests f.batches f.groups q.addresses q.parents p id captured here
made f q p registers (Continuation.FinishJoin id) is_loop_body captured here =
    made_end f.nodes f.digests q.ends p.end id Finish.Any is_loop_body Used.Nothing here
made f q p registers (Continuation.FinishSplit id) is_loop_body captured here =
    made_end f.nodes f.digests q.ends p.end id Finish.Any is_loop_body Used.Nothing here
made f q p registers (Continuation.FinishLoop id) is_loop_body captured here =
    finish_loop f.nodes f.digests q.ends p id captured.finish_loop_condition is_loop_body here
made f q p registers (Continuation.FinishCall id) is_loop_body captured here =
    made_end f.nodes f.digests q.ends p.end id Finish.Call is_loop_body Used.Nothing here
made f q p registers (Continuation.FinishDyn id) is_loop_body captured here =
    made_end f.nodes f.digests q.ends p.end id Finish.Dyn is_loop_body Used.Nothing here
made f q p registers (Continuation.ResumeBasicBlock id index op) is_loop_body captured here =
    resumed f p.push id index op registers here
made f q p registers (Continuation.Respan id index) is_loop_body captured here =
    made_respan f.nodes f.digests f.batches f.groups p.respan p.step id index here
made f q p registers (Continuation.FinishBasicBlock id) is_loop_body captured here =
    made_end f.nodes f.digests q.ends p.end id Finish.Block is_loop_body Used.Nothing here
made f q p registers Continuation.EnterForest is_loop_body captured here = refused wrong_node_kind
