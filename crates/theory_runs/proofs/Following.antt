-- Change request N7 at a cycle: what its answer says of the operations that follow, by its continuation.
use Rattle.std.specs.Prelude.{Some}
use mathlib.Core.Path.{◌≡◌, ◌∙◌, refl, sym, ap}
use mathlib.Core.Bool.{Bool, true, false}
use mathlib.Core.List.{List}
use Prim.Native.Nat.{ℕ, ◌+◌, ◌*◌, ◌≤◌}
use borrow.Author.Tests.{leb-true, le-leb}
use lib.Dec.{leb, ltb}
use lib.ListN.{length}
use Rattle.groups.specs.Answer.{Answer, accepted, refused, and_then, pick}
use Rattle.groups.specs.Batches.{record_of, batch_of, is_batch, batch_at, starts_at}
use Rattle.groups.specs.Flags.{batch_flags}
use Rattle.groups.specs.GroupOfOperation.{group_of, place_of_op}
use Rattle.groups.specs.Contexts.{too_large, sum_before, consumed, op_context, context_in_group, context_at_op, context_at_batch_start}
use Rattle.groups.specs.Helpers.{helpers_answer}
use Rattle.groups.specs.declared.batch.BasicBlockNode.{BasicBlockNode}
use Rattle.groups.specs.declared.batch.OpBatch.{OpBatch}
use Rattle.groups.specs.declared.group.OpPlace.{OpPlace}
use Rattle.groups.specs.declared.context.OpContext.{OpContext}
use Rattle.groups.specs.declared.helpers.OperationHelperRegisters.{OperationHelperRegisters}
use Rattle.groups.proofs.Answers.{then-accepted, held, passed}
use Rattle.groups.proofs.OneGroup.{both, neither}
use Rattle.rows.specs.declared.records.ids.MastNodeId.{MastNodeId}
use Rattle.rows.specs.declared.records.profile.Profile.{Profile}
use Rattle.rows.specs.declared.records.forest.MastNode.{MastNode}
use Rattle.rows.specs.declared.records.state.StackState.{StackState}
use Rattle.rows.specs.declared.records.continuation.Continuation.{Continuation}
use Rattle.rows.specs.declared.records.continuation.Captured.{Captured}
use Rattle.rows.specs.declared.records.continuation.Used.{Used}
use Rattle.rows.specs.declared.cycles.made.MadeRow.{MadeRow}
use Rattle.rows.specs.declared.cycles.made.Finish.{Finish}
use Rattle.rows.specs.declared.cycles.tracer.CoreTraceGenerationTracer.{CoreTraceGenerationTracer}
use Rattle.rows.specs.records.Forests.{Forest, node_at, digest_at, opcode_at, block_of}
use Rattle.rows.specs.records.Addresses.{Queues, started_at, end_at}
use Rattle.rows.specs.declared.records.address_state.Cursor.{Cursor}
use Rattle.rows.specs.cycles.Made.{cursor, callee_of, info_of, condition_of, entry_kind, body_of, start_block, start_two, start_one, start_dyn, start_dyncall, start_kind, start_node, made_end, made_repeat, finish_loop, operation_made, resumed, made_respan, made}
use Rattle.rows.specs.cycles.Cycles.{cycle, following_of}
use Rattle.theory_runs.specs.Following.{FollowingBy, ToldOfNode}
use Rattle.theory_runs.proofs.Answers.{accepted-came}

-- THE PLACE BY THE BATCH RECORDS ALONE

module _ (push : ℕ) (block : BasicBlockNode) (batches groups : List ℕ) (index op : ℕ) where
  -- a batch that is found is whole in the slice
  batch-found : (batch : OpBatch) → batch_at batches groups block index ≡ accepted batch →
      (12 * record_of block index + 12 ≤ length batches) × (batch ≡ batch_of batches groups (record_of block index))
  unfolding batch_at is_batch
  batch-found batch e =
      let (t, is) = held (is_batch batches groups block index) 5 (accepted (batch_of batches groups (record_of block index))) batch e in
      let lent = (both (ltb index block.batches) _ t).1 in
      (leb-true _ _ (both (leb (12 * record_of block index + 12) (length batches)) _ lent).0, cc)

  place-told : (batch : OpBatch) (place : OpPlace) → 12 * record_of block index + 12 ≤ length batches → batch ≡ batch_of batches groups (record_of block index) →
      group_of (starts_at batches block index) batch.num_ops op ≡ accepted place → ltb 8 batch.group_count ≡ false → place_of_op batches (record_of block index) op ≡ accepted place
  unfolding starts_at place_of_op
  place-told batch place whole is found few = rw (le-leb (12 * record_of block index + 12) (length batches) whole, rw is at found, rw is at few)

  -- where the group context is found, the batch records alone tell the same place
  pub context-place : (found : OpContext) → context_at_op push block batches groups index op ≡ accepted found → place_of_op batches (record_of block index) op ≡ accepted found.place
  unfolding context_at_op context_in_group op_context too_large
  context-place found e =
      let (batch, e1, e2) = then-accepted (batch_at batches groups block index) _ found e in
      let (place, e3, e4) = then-accepted (group_of (starts_at batches block index) batch.num_ops op) _ found e2 in
      let (e5, e6) = passed (ltb block.total (consumed push block batches groups index place)) 8 _ found e4 in
      let (e7, e8) = passed (too_large block batch (sum_before batches block index).above8) 11 _ found e6 in
      let (whole, b) = batch-found batch e1 in
      let few = (neither (ltb 8 batch.group_count) _ (neither (ltb 4096 block.batches) _ e7).1).0 in
      let is : place ≡ found.place = cc in
      place-told batch place whole b e3 few ∙ ap accepted is

-- THE CYCLE

-- an answer has 0 where all that it goes on to has
then-none : {A : Type 0} (a : Answer A) (next : A → Answer MadeRow) → ((x : A) → following_of (next x) ≡ 0) → following_of (and_then a next) ≡ 0
then-none (accepted x) next h = h x
then-none (refused n) next h = refl

pick-none : (t : Bool) (x y : Answer MadeRow) → following_of x ≡ 0 → following_of y ≡ 0 → following_of (pick t x y) ≡ 0
pick-none true x y h k = h
pick-none false x y h k = k

none_of : (a : Answer MadeRow) (m : MadeRow) → following_of a ≡ 0 → a ≡ accepted m → m.following ≡ 0
none_of a m h e = rw e at h

module _ (f : Forest) (q : Queues) (p : Profile) (registers : OperationHelperRegisters) (is_loop_body : Bool) (captured : Captured) where
  two_none : (opcode : ℕ) (x y : MastNodeId) (here : Cursor) → following_of (start_two f.nodes f.digests opcode x y here) ≡ 0
  unfolding start_two
  two_none opcode x y here = then-none (digest_at f.nodes f.digests x.0) _ (λ a. then-none (digest_at f.nodes f.digests y.0) _ (λ b. refl))

  one_none : (opcode : ℕ) (x : MastNodeId) (here : Cursor) → following_of (start_one f.nodes f.digests opcode x here) ≡ 0
  unfolding start_one
  one_none opcode x here = then-none (digest_at f.nodes f.digests x.0) _ (λ a. refl)

  start_none : (node : MastNode) (here : Cursor) → following_of (start_kind f.nodes f.digests f.batches f.groups p node captured here) ≡ 0
  unfolding start_kind start_block start_dyn start_dyncall
  start_none (MastNode.Block block) here = then-none (batch_at f.batches f.groups block 0) _ (λ batch. then-none (batch_flags block.total) _ (λ flags. refl))
  start_none (MastNode.Join x y) here = two_none p.join x y here
  start_none (MastNode.Split x y) here = two_none p.split x y here
  start_none (MastNode.Loop x) here = one_none p.loop_op x here
  start_none (MastNode.Call x) here = one_none p.call x here
  start_none (MastNode.Syscall x) here = refl
  start_none MastNode.Dyn here = then-none (callee_of captured.dyn_callee_hash) _ (λ word. refl)
  start_none MastNode.Dyncall here = then-none (callee_of captured.dyn_callee_hash) _ (λ word. then-none (info_of captured.ctx_info) _ (λ info. refl))
  start_none MastNode.External here = refl

  end_none : (id : MastNodeId) (finish : Finish) (used : Used) (here : Cursor) → following_of (made_end f.nodes f.digests q.ends p.end id finish is_loop_body used here) ≡ 0
  unfolding made_end
  end_none id finish used here =
      then-none (node_at f.nodes f.digests id.0) _ (λ entry.
      then-none (entry_kind finish entry.node) _ (λ kind.
      then-none (end_at q.ends here.at.ends) _ (λ ended. refl)))

  repeat-none : (id : MastNodeId) (here : Cursor) → following_of (made_repeat f.nodes f.digests p.repeat id here) ≡ 0
  unfolding made_repeat
  repeat-none id here =
      then-none (node_at f.nodes f.digests id.0) _ (λ entry.
      then-none (body_of entry.node) _ (λ body.
      then-none (digest_at f.nodes f.digests body.0) _ (λ digest. refl)))

  loop-none : (id : MastNodeId) (here : Cursor) → following_of (finish_loop f.nodes f.digests q.ends p id captured.finish_loop_condition is_loop_body here) ≡ 0
  unfolding finish_loop
  loop-none id here =
      then-none (condition_of captured.finish_loop_condition) _ (λ again. pick-none again _ _ (repeat-none id here) (end_none id Finish.Loop Used.Condition here))

  node-none : (id : MastNodeId) (here : Cursor) → following_of (start_node f.nodes f.digests f.batches f.groups q.addresses q.parents p id captured here) ≡ 0
  unfolding start_node
  node-none id here =
      then-none (started_at q.addresses q.parents here.at) _ (λ state.
      then-none (node_at f.nodes f.digests id.0) _ (λ entry. start_none entry.node _))

  respan-none : (id : MastNodeId) (index : ℕ) (here : Cursor) → following_of (made_respan f.nodes f.digests f.batches f.groups p.respan p.step id index here) ≡ 0
  unfolding made_respan
  respan-none id index here =
      then-none (node_at f.nodes f.digests id.0) _ (λ entry.
      then-none (block_of entry.node) _ (λ block.
      then-none (context_at_batch_start block f.batches f.groups index) _ (λ found. refl)))

  resumed-told : (id : MastNodeId) (index op : ℕ) (here : Cursor) (m : MadeRow) → resumed f p.push id index op registers here ≡ accepted m → ToldOfNode f id.0 index op m.following
  unfolding resumed operation_made
  resumed-told id index op here m e =
      let (entry, e1, e2) = then-accepted (node_at f.nodes f.digests id.0) _ m e in
      let (block, e3, e4) = then-accepted (block_of entry.node) _ m e2 in
      let (batch, e5, e6) = then-accepted (batch_at f.batches f.groups block index) _ m e4 in
      let (opcode, e7, e8) = then-accepted (opcode_at f.ops batch op) _ m e6 in
      let (found, e9, e10) = then-accepted (context_at_op p.push block f.batches f.groups index op) _ m e8 in
      let (helpers, e11, e12) = then-accepted (helpers_answer registers) _ m e10 in
      record {
        entry = entry;
        a_node = e1;
        block = block;
        a_block = e3;
        place = found.place;
        told = context-place p.push block f.batches f.groups index op found e9;
        same = sym (ap following_of e12);
      }

  made-following : (continuation : Continuation) (here : Cursor) (m : MadeRow) → made f q p registers continuation is_loop_body captured here ≡ accepted m → FollowingBy f continuation m.following
  unfolding made FollowingBy
  made-following (Continuation.StartNode id) here m e = none_of _ m (node-none id here) e
  made-following (Continuation.FinishJoin id) here m e = none_of _ m (end_none id Finish.Any Used.Nothing here) e
  made-following (Continuation.FinishSplit id) here m e = none_of _ m (end_none id Finish.Any Used.Nothing here) e
  made-following (Continuation.FinishLoop id) here m e = none_of _ m (loop-none id here) e
  made-following (Continuation.FinishCall id) here m e = none_of _ m (end_none id Finish.Call Used.Nothing here) e
  made-following (Continuation.FinishDyn id) here m e = none_of _ m (end_none id Finish.Dyn Used.Nothing here) e
  made-following (Continuation.ResumeBasicBlock id index op) here m e = resumed-told id index op here m e
  made-following (Continuation.Respan id index) here m e = none_of _ m (respan-none id index here) e
  made-following (Continuation.FinishBasicBlock id) here m e = none_of _ m (end_none id Finish.Block Used.Nothing here) e
  made-following Continuation.EnterForest here m e = none_of _ m refl e

module _ (p : Profile) (f : Forest) (q : Queues) (stack : StackState) (registers : OperationHelperRegisters) (cells : ℕ) (t : CoreTraceGenerationTracer) where
  -- of a cycle that is not refused
  pub following-by : (continuation : Continuation) (m : MadeRow) → t.continuation ≡ Some continuation → cycle p f q stack registers cells t ≡ accepted m →
      FollowingBy f continuation (following_of (cycle p f q stack registers cells t))
  following-by continuation m s e =
      let c = accepted-came p f q stack registers cells t m e in
      let same : c.continuation ≡ continuation = cc in
      rw (e, ← same) (made-following f q p registers t.is_loop_body t.captured c.continuation (cursor t.decoder_state t.at) m c.made_is)
