-- Of inputs below p, and numbers of 32 bits, every cell of a made row is below p.
use Rattle.std.specs.Prelude.{Option, Some, None}
use mathlib.Core.Path.{◌≡◌, refl, subst}
use mathlib.Core.Bool.{Bool, true, false}
use mathlib.Core.List.{◌++◌}
use Prim.Native.Nat.{ℕ, ◌+◌, ◌<◌}
use native.Mathlib.Omega.{arith}
use Rattle.field.specs.Modulus.{P}
use Rattle.field.proofs.CellLaws.{read_below}
use Rattle.groups.specs.Answer.{accepted}
use Rattle.groups.specs.Batches.{batch_at}
use Rattle.groups.specs.Contexts.{context_at_op, context_at_batch_start}
use Rattle.groups.specs.Flags.{batch_flags}
use Rattle.groups.specs.Helpers.{helpers_answer}
use Rattle.groups.specs.declared.word.Word.{Word}
use Rattle.groups.specs.declared.batch.OpBatch.{OpBatch}
use Rattle.groups.specs.declared.context.OpContext.{OpContext}
use Rattle.groups.specs.declared.flags.BatchFlags.{BatchFlags}
use Rattle.groups.specs.declared.helpers.OperationHelperRegisters.{OperationHelperRegisters}
use Rattle.groups.specs.declared.batch.BasicBlockNode.{BasicBlockNode}
use Rattle.groups.proofs.Answers.{never, then-accepted}
use Rattle.rows.specs.declared.records.ids.MastNodeId.{MastNodeId}
use Rattle.rows.specs.declared.records.profile.Profile.{Profile}
use Rattle.rows.specs.declared.records.decoder_row.EndBlockStackEntryKind.{EndBlockStackEntryKind}
use Rattle.rows.specs.declared.records.continuation.Continuation.{Continuation}
use Rattle.rows.specs.declared.records.continuation.Captured.{Captured}
use Rattle.rows.specs.declared.records.continuation.ExecutionContextInfo.{ExecutionContextInfo}
use Rattle.rows.specs.declared.records.continuation.Used.{Used}
use Rattle.rows.specs.declared.records.forest.MastNode.{MastNode}
use Rattle.rows.specs.declared.records.decoder_row.DecoderRow.{DecoderRow}
use Rattle.rows.specs.records.Forests.{Forest, node_at, digest_at, opcode_at, block_of}
use Rattle.rows.specs.records.Addresses.{Queues, started_at, after_start, end_at, state_after_end, after_end, respan_step}
use Rattle.rows.specs.records.DecoderRows.{zero_word, word_cells, control_flow, basic_block_batch, operation, flag_word}
use Rattle.rows.specs.declared.cycles.made.MadeRow.{MadeRow}
use Rattle.rows.specs.declared.cycles.made.Finish.{Finish}
use Rattle.rows.specs.declared.records.address_state.Cursor.{Cursor}
use Rattle.rows.specs.cycles.Made.{made_with, start_block, start_two, start_one, start_dyn, callee_of, info_of, start_dyncall, start_kind, cursor, start_node, entry_kind, made_end, body_of, made_repeat, condition_of, finish_loop, operation_made, resumed, made_respan, made}
use Rattle.theory_reductions.specs.Below.{Below}
use Rattle.theory_before_n2.specs.BeforeN2.{callee_cells, info_cells, depth_in, Narrow32}
use Rattle.theory_before_n2.proofs.SameCells.{below_both}
use Rattle.theory_before_n2.proofs.FoundBelow.{RowBelow, either, below-digest, below-node, below-helpers, FlagsBelow, below-flags, BatchBelow, below-batch, OpBelow, below-op, below-start, StateBelow, below-entries, below_end}

-- WHAT A CYCLE MAKES

-- a made row, and the address state after it
pub record MadeBelow (m : MadeRow) : Type 0 where
  pub row : RowBelow m.row
  pub state : StateBelow m.state

below-made : (row : DecoderRow) (here : Cursor) (used : Used) (m : MadeRow) {following : ℕ} → RowBelow row → StateBelow here.state → made_with row here used following ≡ accepted m → MadeBelow m
below-made row here used m {following} r s e =
    let is : record { row = row; state = here.state; at = here.at; used = used; following = following } ≡ m = cc in
    subst MadeBelow is (record { row = r; state = s })

-- a row of an address and two words
pub below-control : (opcode : ℕ) (first second : Word) (addr : ℕ)
    → Below (word_cells first) → Below (word_cells second) → addr < P → RowBelow (control_flow opcode first second addr)
unfolding control_flow
below-control opcode first second addr f s a = record {
  addr = a;
  first = f;
  second = s;
  in_block = omega arith;
  count = omega arith;
  index = omega arith;
  flags = omega arith;
}

-- a row of a batch
below-group : (opcode : ℕ) (batch : OpBatch) (addr count : ℕ) (flags : BatchFlags)
    → BatchBelow batch → addr < P → count < P → FlagsBelow flags → RowBelow (basic_block_batch opcode batch addr count flags)
unfolding basic_block_batch
below-group opcode batch addr count flags b a c f = record {
  addr = a;
  first = b.low;
  second = b.high;
  in_block = omega arith;
  count = c;
  index = omega arith;
  flags = f;
}

pub below_none : Below (word_cells zero_word)
unfolding Below
below_none = omega arith

below-callee : (callee : Option Word) (w : Word) → Below (callee_cells callee) → callee_of callee ≡ accepted w → Below (word_cells w)
below-callee None w h e = never 23 w e
below-callee (Some word) w h e = let is : word ≡ w = cc in subst (λ (v : Word). Below (word_cells v)) is h

below-one-word : Below (word_cells (1, 0, 0, 0))
unfolding Below
below-one-word = omega arith

below-flag : (is_loop_body : Bool) (kind : EndBlockStackEntryKind) → Below (word_cells (flag_word is_loop_body kind))
unfolding Below
below-flag true EndBlockStackEntryKind.Continuation = omega arith
below-flag true EndBlockStackEntryKind.LoopContinuation = omega arith
below-flag true EndBlockStackEntryKind.CallerFrame = omega arith
below-flag false EndBlockStackEntryKind.Continuation = omega arith
below-flag false EndBlockStackEntryKind.LoopContinuation = omega arith
below-flag false EndBlockStackEntryKind.CallerFrame = omega arith

below-info : (info : Option ExecutionContextInfo) (x : ExecutionContextInfo)
    → Below (info_cells info) → depth_in info < P → info_of info ≡ accepted x → Below (word_cells (x.stack_depth, x.next_overflow_addr, 0, 0))
unfolding Below
below-info None x h d e = never 23 x e
below-info (Some info) x h d e =
    let is : info ≡ x = cc in
    let a : x.stack_depth < P = subst (λ (v : ExecutionContextInfo). v.stack_depth < P) is d in
    let b : x.next_overflow_addr < P = subst (λ (v : ExecutionContextInfo). v.next_overflow_addr < P) is h.0 in
    (a, (b, omega arith))

module _ (f : Forest) (q : Queues) (p : Profile) (registers : OperationHelperRegisters) (captured : Captured)
    (narrow : Narrow32 f captured) (cells : Below (callee_cells captured.dyn_callee_hash ++ info_cells captured.ctx_info)) where
  word : Below (callee_cells captured.dyn_callee_hash)
  word = (below_both (callee_cells captured.dyn_callee_hash) (info_cells captured.ctx_info) cells).0

  address : Below (info_cells captured.ctx_info)
  address = (below_both (callee_cells captured.dyn_callee_hash) (info_cells captured.ctx_info) cells).1

  below-block : (block : BasicBlockNode) (here : Cursor) (m : MadeRow)
      → block.total < P → StateBelow here.state → start_block f.batches f.groups p.span block here ≡ accepted m → MadeBelow m
  unfolding start_block
  below-block block here m t s e =
      let a = then-accepted (batch_at f.batches f.groups block 0) _ m e in
      let b = then-accepted (batch_flags block.total) _ m a.2 in
      below-made _ here Used.Nothing m
      (below-group p.span a.0 here.state.parent_addr block.total b.0 (below-batch f.batches f.groups block 0 a.0 a.1) s.1 t
      (below-flags block.total b.0 b.1))
      s b.2

  below_two : (opcode : ℕ) (first second : MastNodeId) (here : Cursor) (m : MadeRow)
      → StateBelow here.state → start_two f.nodes f.digests opcode first second here ≡ accepted m → MadeBelow m
  unfolding start_two
  below_two opcode first second here m s e =
      let a = then-accepted (digest_at f.nodes f.digests first.0) _ m e in
      let b = then-accepted (digest_at f.nodes f.digests second.0) _ m a.2 in
      below-made _ here Used.Nothing m
      (below-control opcode a.0 b.0 here.state.parent_addr
      (below-digest f.nodes f.digests first.0 a.0 a.1)
      (below-digest f.nodes f.digests second.0 b.0 b.1) s.1)
      s b.2

  below_one : (opcode : ℕ) (child : MastNodeId) (here : Cursor) (m : MadeRow)
      → StateBelow here.state → start_one f.nodes f.digests opcode child here ≡ accepted m → MadeBelow m
  unfolding start_one
  below_one opcode child here m s e =
      let a = then-accepted (digest_at f.nodes f.digests child.0) _ m e in
      below-made _ here Used.Nothing m
      (below-control opcode a.0 zero_word here.state.parent_addr (below-digest f.nodes f.digests child.0 a.0 a.1) below_none s.1)
      s a.2

  below-dyn : (opcode : ℕ) (here : Cursor) (m : MadeRow) → StateBelow here.state → start_dyn opcode captured.dyn_callee_hash here ≡ accepted m → MadeBelow m
  unfolding start_dyn
  below-dyn opcode here m s e =
      let a = then-accepted (callee_of captured.dyn_callee_hash) _ m e in
      below-made _ here Used.Callee m
      (below-control opcode a.0 zero_word here.state.parent_addr (below-callee captured.dyn_callee_hash a.0 word a.1) below_none s.1)
      s a.2

  below-dyncall : (opcode : ℕ) (here : Cursor) (m : MadeRow)
      → StateBelow here.state → start_dyncall opcode captured.dyn_callee_hash captured.ctx_info here ≡ accepted m → MadeBelow m
  unfolding start_dyncall
  below-dyncall opcode here m s e =
      let a = then-accepted (callee_of captured.dyn_callee_hash) _ m e in
      let b = then-accepted (info_of captured.ctx_info) _ m a.2 in
      below-made _ here Used.CalleeAndInfo m
      (below-control opcode a.0 (b.0.stack_depth, b.0.next_overflow_addr, 0, 0) here.state.parent_addr
      (below-callee captured.dyn_callee_hash a.0 word a.1)
      (below-info captured.ctx_info b.0 address narrow.depth b.1)
      s.1)
      s b.2

  below-kind : (node : MastNode) (here : Cursor) (m : MadeRow)
      → ((block : BasicBlockNode) → block_of node ≡ accepted block → block.total < P) → StateBelow here.state
      → start_kind f.nodes f.digests f.batches f.groups p node captured here ≡ accepted m → MadeBelow m
  unfolding start_kind block_of
  below-kind (MastNode.Block block) here m t s e = below-block block here m (t block refl) s e
  below-kind (MastNode.Join a b) here m t s e = below_two p.join a b here m s e
  below-kind (MastNode.Split a b) here m t s e = below_two p.split a b here m s e
  below-kind (MastNode.Loop a) here m t s e = below_one p.loop_op a here m s e
  below-kind (MastNode.Call a) here m t s e = below_one p.call a here m s e
  below-kind (MastNode.Syscall a) here m t s e = never 31 m e
  below-kind MastNode.Dyn here m t s e = below-dyn p.dyn_op here m s e
  below-kind MastNode.Dyncall here m t s e = below-dyncall p.dyncall here m s e
  below-kind MastNode.External here m t s e = never 4 m e

  -- StartNode
  below-started : (id : MastNodeId) (here : Cursor) (m : MadeRow)
      → start_node f.nodes f.digests f.batches f.groups q.addresses q.parents p id captured here ≡ accepted m → MadeBelow m
  unfolding start_node
  below-started id here m e =
      let a = then-accepted (started_at q.addresses q.parents here.at) _ m e in
      let b = then-accepted (node_at f.nodes f.digests id.0) _ m a.2 in
      let n = below-node f.nodes f.digests id.0 b.0 narrow.nodes b.1 in
      below-kind b.0.node (cursor a.0 (after_start here.at)) m n.total
      (below-entries q.addresses q.parents here.at a.0 a.1) b.2

  -- END
  below-finished : (id : MastNodeId) (finish : Finish) (is_loop_body : Bool) (used : Used) (here : Cursor) (m : MadeRow)
      → made_end f.nodes f.digests q.ends p.end id finish is_loop_body used here ≡ accepted m → MadeBelow m
  unfolding made_end
  below-finished id finish is_loop_body used here m e =
      let a = then-accepted (node_at f.nodes f.digests id.0) _ m e in
      let b = then-accepted (entry_kind finish a.0.node) _ m a.2 in
      let c = then-accepted (end_at q.ends here.at.ends) _ m b.2 in
      let n = below-node f.nodes f.digests id.0 a.0 narrow.nodes a.1 in
      let d = below_end q.ends here.at.ends c.0 c.1 in
      below-made _ (cursor (state_after_end c.0) (after_end here.at)) used m
      (below-control p.end a.0.digest (flag_word is_loop_body b.0) c.0.ended_node_addr n.digest (below-flag is_loop_body b.0) d.0)
      (d.1, d.2) c.2

  -- REPEAT
  below-repeated : (id : MastNodeId) (here : Cursor) (m : MadeRow) → StateBelow here.state
      → made_repeat f.nodes f.digests p.repeat id here ≡ accepted m → MadeBelow m
  unfolding made_repeat
  below-repeated id here m s e =
      let a = then-accepted (node_at f.nodes f.digests id.0) _ m e in
      let b = then-accepted (body_of a.0.node) _ m a.2 in
      let c = then-accepted (digest_at f.nodes f.digests b.0.0) _ m b.2 in
      below-made _ here Used.Condition m
      (below-control p.repeat c.0 (1, 0, 0, 0) here.state.current_addr
      (below-digest f.nodes f.digests b.0.0 c.0 c.1) below-one-word s.0)
      s c.2

  below-loop : (id : MastNodeId) (is_loop_body : Bool) (here : Cursor) (m : MadeRow) → StateBelow here.state
      → finish_loop f.nodes f.digests q.ends p id captured.finish_loop_condition is_loop_body here ≡ accepted m → MadeBelow m
  unfolding finish_loop
  below-loop id is_loop_body here m s e =
      let a = then-accepted (condition_of captured.finish_loop_condition) _ m e in
      either a.0 _ _ m a.2 (below-repeated id here m s) (below-finished id Finish.Loop is_loop_body Used.Condition here m)

  -- an operation
  below-operation : (opcode : ℕ) (found : OpContext) (here : Cursor) (m : MadeRow) → OpBelow found → StateBelow here.state
      → operation_made opcode found registers here ≡ accepted m → MadeBelow m
  unfolding operation_made operation Below
  below-operation opcode found here m o s e =
      let a = then-accepted (helpers_answer registers) _ m e in
      let h = below-helpers registers a.0 a.1 in
      below-made _ here Used.Nothing m
      (record {
        addr = s.0;
        first = (o.group, (s.1, (h.0, (h.1.0, tt))));
        second = (h.1.1.0, (h.1.1.1.0, (h.1.1.1.1.0, (h.1.1.1.1.1.0, tt))));
        in_block = omega arith;
        count = o.count;
        index = o.index;
        flags = omega arith;
      })
      s a.2

  below-resumed : (id : MastNodeId) (index op : ℕ) (here : Cursor) (m : MadeRow) → StateBelow here.state
      → resumed f p.push id index op registers here ≡ accepted m → MadeBelow m
  unfolding resumed
  below-resumed id index op here m s e =
      let a = then-accepted (node_at f.nodes f.digests id.0) _ m e in
      let b = then-accepted (block_of a.0.node) _ m a.2 in
      let c = then-accepted (batch_at f.batches f.groups b.0 index) _ m b.2 in
      let d = then-accepted (opcode_at f.ops c.0 op) _ m c.2 in
      let g = then-accepted (context_at_op p.push b.0 f.batches f.groups index op) _ m d.2 in
      let n = below-node f.nodes f.digests id.0 a.0 narrow.nodes a.1 in
      below-operation d.0 g.0 here m
      (below-op p.push b.0 f.batches f.groups index op g.0 (n.total b.0 b.1) g.1) s g.2

  -- RESPAN
  below-respanned : (id : MastNodeId) (index : ℕ) (here : Cursor) (m : MadeRow) → StateBelow here.state
      → made_respan f.nodes f.digests f.batches f.groups p.respan p.step id index here ≡ accepted m → MadeBelow m
  unfolding made_respan respan_step
  below-respanned id index here m s e =
      let a = then-accepted (node_at f.nodes f.digests id.0) _ m e in
      let b = then-accepted (block_of a.0.node) _ m a.2 in
      let c = then-accepted (context_at_batch_start b.0 f.batches f.groups index) _ m b.2 in
      let n = below-start b.0 f.batches f.groups index c.0 c.1 in
      below-made _ (cursor (respan_step p.step here.state) here.at) Used.Nothing m
      (below-group p.respan c.0.batch here.state.current_addr c.0.context.group_count_in_block c.0.flags
      n.batch s.0 n.count n.flags)
      (read_below (here.state.current_addr + p.step), s.1) c.2

  -- every cell of a made row is below p, and the addresses after it
  pub made-below : (continuation : Continuation) (is_loop_body : Bool) (here : Cursor) (m : MadeRow) → StateBelow here.state
      → made f q p registers continuation is_loop_body captured here ≡ accepted m → MadeBelow m
  unfolding made
  made-below (Continuation.StartNode id) is_loop_body here m s e = below-started id here m e
  made-below (Continuation.FinishJoin id) is_loop_body here m s e = below-finished id Finish.Any is_loop_body Used.Nothing here m e
  made-below (Continuation.FinishSplit id) is_loop_body here m s e = below-finished id Finish.Any is_loop_body Used.Nothing here m e
  made-below (Continuation.FinishLoop id) is_loop_body here m s e = below-loop id is_loop_body here m s e
  made-below (Continuation.FinishCall id) is_loop_body here m s e = below-finished id Finish.Call is_loop_body Used.Nothing here m e
  made-below (Continuation.FinishDyn id) is_loop_body here m s e = below-finished id Finish.Dyn is_loop_body Used.Nothing here m e
  made-below (Continuation.ResumeBasicBlock id index op) is_loop_body here m s e = below-resumed id index op here m s e
  made-below (Continuation.Respan id index) is_loop_body here m s e = below-respanned id index here m s e
  made-below (Continuation.FinishBasicBlock id) is_loop_body here m s e = below-finished id Finish.Block is_loop_body Used.Nothing here m e
  made-below Continuation.EnterForest is_loop_body here m s e = never 4 m e
