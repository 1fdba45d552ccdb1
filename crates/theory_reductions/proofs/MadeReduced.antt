-- What a continuation makes of forest, queues, helper registers, captured values and address state as they come in is, once read, what it makes of
-- them read: the same number, and rows that differ in no reduced cell.
use Rattle.std.specs.Prelude.{Option, Some, None}
use Rattle.groups.specs.declared.word.Word.{Word}
use Rattle.rows.specs.declared.records.continuation.ExecutionContextInfo.{ExecutionContextInfo}
use mathlib.Core.Path.{◌≡◌, refl, ap₂}
use mathlib.Core.Bool.{Bool, true, false}
use mathlib.Core.List.{List}
use Prim.Native.Nat.{ℕ}
use Rattle.field.specs.Cells.{reduced}
use Rattle.field.proofs.CellLaws.{read_twice}
use Rattle.groups.specs.Answer.{Answer, accepted, refused, and_then, pick}
use Rattle.groups.specs.Batches.{batch_at}
use Rattle.groups.specs.Contexts.{context_at_op, context_at_batch_start}
use Rattle.groups.specs.Helpers.{read_registers, helpers_answer}
use Rattle.groups.specs.declared.helpers.OperationHelperRegisters.{OperationHelperRegisters}
use Rattle.rows.specs.declared.records.ids.MastNodeId.{MastNodeId}
use Rattle.rows.specs.declared.records.profile.Profile.{Profile}
use Rattle.rows.specs.declared.records.forest.MastNode.{MastNode}
use Rattle.rows.specs.declared.records.continuation.Continuation.{Continuation}
use Rattle.rows.specs.declared.records.continuation.Captured.{Captured}
use Rattle.rows.specs.declared.records.continuation.Used.{Used}
use Rattle.rows.specs.declared.cycles.made.MadeRow.{MadeRow}
use Rattle.rows.specs.declared.cycles.made.Finish.{Finish}
use Rattle.rows.specs.records.Forests.{Forest, node_at, digest_at, opcode_at, block_of}
use Rattle.rows.specs.records.Addresses.{Queues, read_state, started_at, respan_step}
use Rattle.rows.specs.records.Captured.{read_callee, read_info, read_captured}
use Rattle.rows.specs.records.DecoderRows.{control_flow, basic_block_batch, operation}
use Rattle.rows.specs.declared.records.address_state.Cursor.{Cursor}
use Rattle.rows.specs.cycles.Made.{condition_of, start_block, start_two, start_one, start_dyn, start_dyncall, start_kind, start_node, made_end, body_of, made_repeat, finish_loop, operation_made, resumed, made_respan, made}
use Rattle.theory_reductions.specs.Inputs.{read_forest, read_queues}
use Rattle.theory_reductions.specs.ways.ReadSteps.{read_cursor, read_row, read_made, read_answer}
use Rattle.theory_reductions.proofs.LentReduced.{word-twice, node-reduced, digest-reduced, batch-reduced, op-context-reduced, batch-context-reduced, helpers-reduced, started-reduced, ended-reduced, grown}

-- WHAT IS LENT

then_same : {A B : Type 0} (a : Answer A) (f g : A → Answer B) → ((x : A) → f x ≡ g x) → and_then a f ≡ and_then a g
then_same (accepted x) f g h = h x
then_same (refused n) f g h = refl

two_lent : (nodes digests : List ℕ) (opcode : ℕ) (a b : MastNodeId) (here : Cursor) → start_two nodes (reduced digests) opcode a b here ≡ start_two nodes digests opcode a b here
unfolding start_two
two_lent nodes digests opcode a b here = rw (digest-reduced nodes digests a.0, digest-reduced nodes digests b.0)

one_lent : (nodes digests : List ℕ) (opcode : ℕ) (a : MastNodeId) (here : Cursor) → start_one nodes (reduced digests) opcode a here ≡ start_one nodes digests opcode a here
unfolding start_one
one_lent nodes digests opcode a here = rw (digest-reduced nodes digests a.0)

kind-lent : (nodes digests batches groups : List ℕ) (p : Profile) (node : MastNode) (captured : Captured) (here : Cursor) →
    start_kind nodes (reduced digests) batches (reduced groups) p node captured here ≡ start_kind nodes digests batches groups p node captured here
unfolding start_kind start_block
kind-lent nodes digests batches groups p (MastNode.Block block) captured here = rw (batch-reduced batches groups block 0)
kind-lent nodes digests batches groups p (MastNode.Join a b) captured here = two_lent nodes digests p.join a b here
kind-lent nodes digests batches groups p (MastNode.Split a b) captured here = two_lent nodes digests p.split a b here
kind-lent nodes digests batches groups p (MastNode.Loop a) captured here = one_lent nodes digests p.loop_op a here
kind-lent nodes digests batches groups p (MastNode.Call a) captured here = one_lent nodes digests p.call a here
kind-lent nodes digests batches groups p (MastNode.Syscall a) captured here = refl
kind-lent nodes digests batches groups p MastNode.Dyn captured here = refl
kind-lent nodes digests batches groups p MastNode.Dyncall captured here = refl
kind-lent nodes digests batches groups p MastNode.External captured here = refl

finished-lent : (nodes digests ends : List ℕ) (end : ℕ) (id : MastNodeId) (finish : Finish) (flag : Bool) (used : Used) (here : Cursor) →
    made_end nodes (reduced digests) (reduced ends) end id finish flag used here ≡ made_end nodes digests ends end id finish flag used here
unfolding made_end
finished-lent nodes digests ends end id finish flag used here = rw (node-reduced nodes digests id.0, ended-reduced ends here.at.ends)

repeated-lent : (nodes digests : List ℕ) (repeat : ℕ) (id : MastNodeId) (here : Cursor) → made_repeat nodes (reduced digests) repeat id here ≡ made_repeat nodes digests repeat id here
unfolding made_repeat
repeated-lent nodes digests repeat id here =
    rw (node-reduced nodes digests id.0) (then_same (node_at nodes digests id.0) _ _ (λ entry.
    then_same (body_of entry.node) _ _ (λ body. rw (digest-reduced nodes digests body.0))))

loop-lent : (nodes digests ends : List ℕ) (p : Profile) (id : MastNodeId) (again : Bool) (flag : Bool) (here : Cursor) →
    pick again (made_repeat nodes (reduced digests) p.repeat id here) (made_end nodes (reduced digests) (reduced ends) p.end id Finish.Loop flag Used.Condition here)
    ≡ pick again (made_repeat nodes digests p.repeat id here) (made_end nodes digests ends p.end id Finish.Loop flag Used.Condition here)
loop-lent nodes digests ends p id again flag here =
    ap₂ (λ x y. pick again x y) (repeated-lent nodes digests p.repeat id here) (finished-lent nodes digests ends p.end id Finish.Loop flag Used.Condition here)

-- digests, groups and queues are looked up as cells, and helper registers are read
pub made-lent : (f : Forest) (q : Queues) (p : Profile) (registers : OperationHelperRegisters) (c : Continuation) (flag : Bool) (captured : Captured) (here : Cursor) →
    made (read_forest f) (read_queues q) p (read_registers registers) c flag captured here ≡ made f q p registers c flag captured here
unfolding made start_node finish_loop resumed made_respan operation_made read_forest read_queues
made-lent f q p registers (Continuation.StartNode id) flag captured here =
    rw (started-reduced q.addresses q.parents here.at, node-reduced f.nodes f.digests id.0)
    (then_same (started_at q.addresses q.parents here.at) _ _ (λ state.
    then_same (node_at f.nodes f.digests id.0) _ _ (λ entry.
    kind-lent f.nodes f.digests f.batches f.groups p entry.node captured _)))
made-lent f q p registers (Continuation.FinishJoin id) flag captured here = finished-lent f.nodes f.digests q.ends p.end id Finish.Any flag Used.Nothing here
made-lent f q p registers (Continuation.FinishSplit id) flag captured here = finished-lent f.nodes f.digests q.ends p.end id Finish.Any flag Used.Nothing here
made-lent f q p registers (Continuation.FinishLoop id) flag captured here =
    then_same (condition_of captured.finish_loop_condition) _ _ (λ again. loop-lent f.nodes f.digests q.ends p id again flag here)
made-lent f q p registers (Continuation.FinishCall id) flag captured here = finished-lent f.nodes f.digests q.ends p.end id Finish.Call flag Used.Nothing here
made-lent f q p registers (Continuation.FinishDyn id) flag captured here = finished-lent f.nodes f.digests q.ends p.end id Finish.Dyn flag Used.Nothing here
made-lent f q p registers (Continuation.ResumeBasicBlock id index op) flag captured here =
    rw (node-reduced f.nodes f.digests id.0, helpers-reduced registers)
    (then_same (node_at f.nodes f.digests id.0) _ _ (λ entry.
    then_same (block_of entry.node) _ _ (λ block.
    rw (batch-reduced f.batches f.groups block index, op-context-reduced p.push block f.batches f.groups index op))))
made-lent f q p registers (Continuation.Respan id index) flag captured here =
    rw (node-reduced f.nodes f.digests id.0)
    (then_same (node_at f.nodes f.digests id.0) _ _ (λ entry.
    then_same (block_of entry.node) _ _ (λ block. rw (batch-context-reduced block f.batches f.groups index))))
made-lent f q p registers (Continuation.FinishBasicBlock id) flag captured here = finished-lent f.nodes f.digests q.ends p.end id Finish.Block flag Used.Nothing here
made-lent f q p registers Continuation.EnterForest flag captured here = refl

-- CAPTURED VALUES AND ADDRESS STATE

-- two answers that are the same once read
abbrev pub Same : Answer MadeRow → Answer MadeRow → Type 0
Same a b = read_answer read_made a ≡ read_answer read_made b

pub then-alike : {A : Type 0} (a : Answer A) (f g : A → Answer MadeRow) → ((x : A) → Same (f x) (g x)) → Same (and_then a f) (and_then a g)
then-alike (accepted x) f g h = h x
then-alike (refused n) f g h = refl

pick-alike : (t : Bool) (a b c d : Answer MadeRow) → Same a c → Same b d → Same (pick t a b) (pick t c d)
pick-alike true a b c d h k = h
pick-alike false a b c d h k = k

dyn-alike : (opcode : ℕ) (callee : Option Word) (here : Cursor) → Same (start_dyn opcode (read_callee callee) here) (start_dyn opcode callee here)
unfolding start_dyn read_made read_row control_flow
dyn-alike opcode None here = refl
dyn-alike opcode (Some word) here = rw (word-twice word)

dyncall-alike : (opcode : ℕ) (callee : Option Word) (info : Option ExecutionContextInfo) (here : Cursor) →
    Same (start_dyncall opcode (read_callee callee) (read_info info) here) (start_dyncall opcode callee info here)
unfolding start_dyncall read_made read_row control_flow
dyncall-alike opcode None info here = refl
dyncall-alike opcode (Some word) None here = refl
dyncall-alike opcode (Some word) (Some context) here = rw (word-twice word, read_twice context.next_overflow_addr)

kind-alike : (nodes digests batches groups : List ℕ) (p : Profile) (node : MastNode) (captured : Captured) (here : Cursor) →
    Same (start_kind nodes digests batches groups p node (read_captured captured) here) (start_kind nodes digests batches groups p node captured here)
unfolding start_kind read_captured
kind-alike nodes digests batches groups p (MastNode.Block block) captured here = refl
kind-alike nodes digests batches groups p (MastNode.Join a b) captured here = refl
kind-alike nodes digests batches groups p (MastNode.Split a b) captured here = refl
kind-alike nodes digests batches groups p (MastNode.Loop a) captured here = refl
kind-alike nodes digests batches groups p (MastNode.Call a) captured here = refl
kind-alike nodes digests batches groups p (MastNode.Syscall a) captured here = refl
kind-alike nodes digests batches groups p MastNode.Dyn captured here = dyn-alike p.dyn_op captured.dyn_callee_hash here
kind-alike nodes digests batches groups p MastNode.Dyncall captured here = dyncall-alike p.dyncall captured.dyn_callee_hash captured.ctx_info here
kind-alike nodes digests batches groups p MastNode.External captured here = refl

finished-alike : (nodes digests ends : List ℕ) (end : ℕ) (id : MastNodeId) (finish : Finish) (flag : Bool) (used : Used) (here : Cursor) →
    Same (made_end nodes digests ends end id finish flag used (read_cursor here)) (made_end nodes digests ends end id finish flag used here)
unfolding made_end
finished-alike nodes digests ends end id finish flag used here = refl

repeated-alike : (nodes digests : List ℕ) (repeat : ℕ) (id : MastNodeId) (here : Cursor) →
    Same (made_repeat nodes digests repeat id (read_cursor here)) (made_repeat nodes digests repeat id here)
unfolding made_repeat read_made read_row control_flow read_state
repeated-alike nodes digests repeat id here =
    then-alike (node_at nodes digests id.0) _ _ (λ entry.
    then-alike (body_of entry.node) _ _ (λ body.
    then-alike (digest_at nodes digests body.0) _ _ (λ digest.
    rw (read_twice here.state.current_addr, read_twice here.state.parent_addr))))

resumed-alike : (f : Forest) (push : ℕ) (id : MastNodeId) (index op : ℕ) (registers : OperationHelperRegisters) (here : Cursor) →
    Same (resumed f push id index op registers (read_cursor here)) (resumed f push id index op registers here)
unfolding resumed operation_made read_made read_row operation read_state
resumed-alike f push id index op registers here =
    then-alike (node_at f.nodes f.digests id.0) _ _ (λ entry.
    then-alike (block_of entry.node) _ _ (λ block.
    then-alike (batch_at f.batches f.groups block index) _ _ (λ batch.
    then-alike (opcode_at f.ops batch op) _ _ (λ opcode.
    then-alike (context_at_op push block f.batches f.groups index op) _ _ (λ found.
    then-alike (helpers_answer registers) _ _ (λ helpers.
    rw (read_twice here.state.current_addr, read_twice here.state.parent_addr)))))))

respanned-alike : (nodes digests batches groups : List ℕ) (opcode step : ℕ) (id : MastNodeId) (index : ℕ) (here : Cursor) →
    Same (made_respan nodes digests batches groups opcode step id index (read_cursor here)) (made_respan nodes digests batches groups opcode step id index here)
unfolding made_respan read_made read_row basic_block_batch respan_step read_state
respanned-alike nodes digests batches groups opcode step id index here =
    then-alike (node_at nodes digests id.0) _ _ (λ entry.
    then-alike (block_of entry.node) _ _ (λ block.
    then-alike (context_at_batch_start block batches groups index) _ _ (λ found.
    rw (read_twice here.state.current_addr, read_twice here.state.parent_addr, grown here.state.current_addr step))))

pub made-given : (f : Forest) (q : Queues) (p : Profile) (registers : OperationHelperRegisters) (c : Continuation) (flag : Bool) (captured : Captured) (here : Cursor) →
    Same (made f q p registers c flag (read_captured captured) (read_cursor here)) (made f q p registers c flag captured here)
unfolding made start_node finish_loop read_captured
made-given f q p registers (Continuation.StartNode id) flag captured here =
    then-alike (started_at q.addresses q.parents here.at) _ _ (λ state.
    then-alike (node_at f.nodes f.digests id.0) _ _ (λ entry.
    kind-alike f.nodes f.digests f.batches f.groups p entry.node captured _))
made-given f q p registers (Continuation.FinishJoin id) flag captured here = finished-alike f.nodes f.digests q.ends p.end id Finish.Any flag Used.Nothing here
made-given f q p registers (Continuation.FinishSplit id) flag captured here = finished-alike f.nodes f.digests q.ends p.end id Finish.Any flag Used.Nothing here
made-given f q p registers (Continuation.FinishLoop id) flag captured here =
    then-alike (condition_of captured.finish_loop_condition) _ _ (λ again.
    pick-alike again _ _ _ _ (repeated-alike f.nodes f.digests p.repeat id here) (finished-alike f.nodes f.digests q.ends p.end id Finish.Loop flag Used.Condition here))
made-given f q p registers (Continuation.FinishCall id) flag captured here = finished-alike f.nodes f.digests q.ends p.end id Finish.Call flag Used.Nothing here
made-given f q p registers (Continuation.FinishDyn id) flag captured here = finished-alike f.nodes f.digests q.ends p.end id Finish.Dyn flag Used.Nothing here
made-given f q p registers (Continuation.ResumeBasicBlock id index op) flag captured here = resumed-alike f p.push id index op registers here
made-given f q p registers (Continuation.Respan id index) flag captured here =
    respanned-alike f.nodes f.digests f.batches f.groups p.respan p.step id index here
made-given f q p registers (Continuation.FinishBasicBlock id) flag captured here = finished-alike f.nodes f.digests q.ends p.end id Finish.Block flag Used.Nothing here
made-given f q p registers Continuation.EnterForest flag captured here = refl
