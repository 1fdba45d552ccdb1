-- What an answer that is accepted comes from, and that no cycle refuses with the number 0.
use Rattle.std.specs.Prelude.{Option, Some, None}
use Rattle.rows.specs.declared.records.continuation.ExecutionContextInfo.{ExecutionContextInfo}
use mathlib.Core.Path.{◌≡◌, refl}
use mathlib.Core.Bool.{Bool, true, false, not, ◌&&◌, ◌||◌}
use mathlib.Core.List.{List, [], ◌∷◌}
use Prim.Native.Nat.{ℕ, zero, suc, ◌+◌, ◌-◌, ◌*◌, ◌/◌}
use native.Mathlib.Omega.{arith}
use borrow.Author.Tests.{eqb-true, eqb-false, not-false}
use lib.Dec.{leb, ltb, eqb}
use lib.ListN.{length, get_or}
use Rattle.groups.specs.Answer.{Answer, accepted, refused, and_then, pick, refusal}
use Rattle.groups.specs.Batches.{is_batch, batch_at, starts_at}
use Rattle.groups.specs.Flags.{flags_up_to8, batch_flags}
use Rattle.groups.specs.GroupOfOperation.{following_ops, falling, place_in, group_from, group_of}
use Rattle.groups.specs.Contexts.{too_large, sum_before, sum_from, consumed, context_in_group, context_at_op, context_at_batch_start}
use Rattle.groups.specs.Helpers.{all_below, read_registers, u32_values, helpers_of_cells, helpers_answer}
use Rattle.groups.specs.declared.word.Word.{Word}
use Rattle.groups.specs.declared.batch.OpBatch.{OpBatch}
use Rattle.groups.specs.declared.helpers.OperationHelperRegisters.{OperationHelperRegisters}
use Rattle.groups.specs.declared.batch.BasicBlockNode.{BasicBlockNode}
use Rattle.groups.proofs.Answers.{then-accepted}
use Rattle.rows.specs.declared.records.ids.MastNodeId.{MastNodeId}
use Rattle.rows.specs.declared.records.profile.Profile.{Profile}
use Rattle.rows.specs.declared.records.forest.MastNode.{MastNode}
use Rattle.rows.specs.declared.records.address_state.Positions.{Positions}
use Rattle.rows.specs.declared.records.continuation.Continuation.{Continuation}
use Rattle.rows.specs.declared.records.continuation.Captured.{Captured}
use Rattle.rows.specs.declared.records.continuation.Used.{Used}
use Rattle.rows.specs.declared.cycles.made.MadeRow.{MadeRow}
use Rattle.rows.specs.declared.cycles.made.Finish.{Finish}
use Rattle.rows.specs.declared.cycles.scan.Scan.{Scan}
use Rattle.rows.specs.declared.records.state.StackState.{StackState}
use Rattle.rows.specs.declared.cycles.tracer.CoreTraceGenerationTracer.{CoreTraceGenerationTracer}
use Rattle.rows.specs.records.Forests.{Forest, is_slot, node_of, node_at, digest_at, opcode_at, block_of}
use Rattle.rows.specs.records.Addresses.{Queues, entry_at, started_at, after_start, end_at}
use Rattle.rows.specs.records.Profiles.{profile_wrong}
use Rattle.rows.specs.cycles.Scans.{any_big_opcode, forest_too_large, scan_of}
use Rattle.rows.specs.records.Cells.{fragment_wrong}
use Rattle.rows.specs.declared.records.address_state.Cursor.{Cursor}
use Rattle.rows.specs.cycles.Made.{cursor, callee_of, info_of, condition_of, start_block, start_two, start_one, start_dyn, start_dyncall, start_kind, start_node, call_kind, dyn_kind, block_kind, entry_kind, made_end, body_of, made_repeat, finish_loop, operation_made, resumed, made_respan, made}
use Rattle.rows.specs.cycles.Cycles.{continuation_of, refuse_if, cycle_with, cycle}
use Rattle.theory_reductions.proofs.Accepted.{unrefused}

-- no refusal with the number 0
unfoldable pub Numbered : {A : Type 0} → Answer A → Type 0
Numbered (accepted x) = Unit {0}
Numbered (refused zero) = ⊥
Numbered (refused (suc n)) = Unit {0}

pub accepted-of : {A : Type 0} (a : Answer A) → Numbered a → refusal a ≡ 0 → (x : A) × (a ≡ accepted x)
unfolding Numbered
accepted-of (accepted x) h e = (x, refl)
accepted-of (refused zero) h e = absurd h
accepted-of (refused (suc n)) h e = absurd (omega arith)

pub then-numbered : {A B : Type 0} (a : Answer A) (f : A → Answer B) → Numbered a → ((x : A) → Numbered (f x)) → Numbered (and_then a f)
unfolding Numbered
then-numbered (accepted x) f h k = k x
then-numbered (refused zero) f h k = absurd h
then-numbered (refused (suc n)) f h k = tt

pub pick-numbered : {A : Type 0} (t : Bool) (a b : Answer A) → Numbered a → Numbered b → Numbered (pick t a b)
pick-numbered true a b h k = h
pick-numbered false a b h k = k

pub if-numbered : {A : Type 0} (t : Bool) (n : ℕ) (a : Answer A) → Numbered a → Numbered (refuse_if t (suc n) a)
unfolding Numbered
if-numbered true n a h = tt
if-numbered false n a h = h

-- the look-ups
entry-numbered : (n : ℕ) (queue : List ℕ) (at : ℕ) → Numbered (entry_at (suc n) queue at)
unfolding entry_at Numbered
entry-numbered n queue at = pick-numbered (ltb at (length queue)) _ _ tt tt

started-numbered : (addresses parents : List ℕ) (at : Positions) → Numbered (started_at addresses parents at)
unfolding started_at Numbered
started-numbered addresses parents at =
    then-numbered (entry_at 20 addresses at.addresses) _ (entry-numbered 19 addresses at.addresses) (λ x.
    then-numbered (entry_at 21 parents at.parents) _ (entry-numbered 20 parents at.parents) (λ y. tt))

end-numbered : (ends : List ℕ) (at : ℕ) → Numbered (end_at ends at)
unfolding end_at Numbered
end-numbered ends at = pick-numbered (ltb at (length ends / 3)) _ _ tt tt

of-numbered : (kind first second : ℕ) (block : BasicBlockNode) (digest : Word) → Numbered (node_of kind first second block digest)
unfolding node_of Numbered
of-numbered kind first second block digest =
    pick-numbered (eqb kind 2) _ _ tt (pick-numbered (eqb kind 3) _ _ tt (pick-numbered (eqb kind 4) _ _ tt
    (pick-numbered (eqb kind 5) _ _ tt (pick-numbered (eqb kind 6) _ _ tt (pick-numbered (eqb kind 7) _ _ tt
    (pick-numbered (eqb kind 8) _ _ tt (pick-numbered (eqb kind 9) _ _ tt (pick-numbered (eqb kind 10) _ _ tt tt))))))))

node-numbered : (nodes digests : List ℕ) (id : ℕ) → Numbered (node_at nodes digests id)
unfolding node_at Numbered
node-numbered nodes digests id = pick-numbered (is_slot nodes digests id) _ _ (of-numbered _ _ _ _ _) tt

digest-numbered : (nodes digests : List ℕ) (id : ℕ) → Numbered (digest_at nodes digests id)
unfolding digest_at Numbered
digest-numbered nodes digests id =
    pick-numbered (is_slot nodes digests id && (ltb 0 (get_or nodes (6 * id) 0) && leb (get_or nodes (6 * id) 0) 10)) _ _ tt tt

opcode-numbered : (ops : List ℕ) (batch : OpBatch) (op : ℕ) → Numbered (opcode_at ops batch op)
unfolding opcode_at Numbered
opcode-numbered ops batch op = pick-numbered (ltb op batch.num_ops && ltb (batch.first_op + op) (length ops)) _ _ tt tt

-- what a node is asked for: a block, a body, and that it is a call or a dynamic one
asked-numbered : (node : MastNode) → Numbered (block_of node) × Numbered (body_of node) × Numbered (call_kind node) × Numbered (dyn_kind node)
unfolding block_of body_of call_kind dyn_kind Numbered
asked-numbered (MastNode.Block block) = (tt, tt, tt, tt)
asked-numbered (MastNode.Join a b) = (tt, tt, tt, tt)
asked-numbered (MastNode.Split a b) = (tt, tt, tt, tt)
asked-numbered (MastNode.Loop a) = (tt, tt, tt, tt)
asked-numbered (MastNode.Call a) = (tt, tt, tt, tt)
asked-numbered (MastNode.Syscall a) = (tt, tt, tt, tt)
asked-numbered MastNode.Dyn = (tt, tt, tt, tt)
asked-numbered MastNode.Dyncall = (tt, tt, tt, tt)
asked-numbered MastNode.External = (tt, tt, tt, tt)

kind-numbered : (finish : Finish) (node : MastNode) → Numbered (entry_kind finish node)
unfolding entry_kind block_kind Numbered
kind-numbered Finish.Any node = tt
kind-numbered Finish.Loop node = tt
kind-numbered Finish.Call node = (asked-numbered node).2
kind-numbered Finish.Dyn node = (asked-numbered node).3
kind-numbered Finish.Block node = then-numbered (block_of node) _ (asked-numbered node).0 (λ x. tt)

callee-numbered : (word : Option Word) → Numbered (callee_of word)
unfolding Numbered
callee-numbered (Some word) = tt
callee-numbered None = tt

info-numbered : (info : Option ExecutionContextInfo) → Numbered (info_of info)
unfolding Numbered
info-numbered (Some info) = tt
info-numbered None = tt

condition-numbered : (condition : Option Bool) → Numbered (condition_of condition)
unfolding Numbered
condition-numbered (Some again) = tt
condition-numbered None = tt

-- groups and helpers
batch-numbered : (batches groups : List ℕ) (block : BasicBlockNode) (index : ℕ) → Numbered (batch_at batches groups block index)
unfolding batch_at Numbered
batch-numbered batches groups block index = pick-numbered (is_batch batches groups block index) _ _ tt tt

flags-numbered : (count : ℕ) → Numbered (batch_flags count)
unfolding batch_flags flags_up_to8 Numbered
flags-numbered count =
    let c : ℕ = pick (leb 8 count) 8 count in
    pick-numbered (eqb c 8) _ _ tt (pick-numbered (eqb c 4) _ _ tt (pick-numbered (eqb c 2) _ _ tt (pick-numbered (eqb c 1) _ _ tt tt)))

place-numbered : (group index following : ℕ) → Numbered (place_in group index following)
unfolding place_in Numbered
place-numbered group index following = pick-numbered (leb index 8) _ _ tt tt

from-numbered : (starts : List ℕ) (ops op g : ℕ) → Numbered (group_from starts ops op g)
unfolding group_from Numbered
from-numbered [] ops op g = tt
from-numbered (start ∷ []) ops op g = tt
from-numbered (start ∷ next ∷ starts) ops op g =
    pick-numbered (leb start op && ltb op next) _ (group_from (next ∷ starts) ops op (g + 1)) (place-numbered g (op - start) (following_ops next ops op)) (from-numbered (next ∷ starts) ops op (g + 1))

group-numbered : (starts : List ℕ) (ops op : ℕ) → Numbered (group_of starts ops op)
unfolding group_of Numbered
group-numbered starts ops op = pick-numbered (leb ops op || falling starts) _ (group_from starts ops op 0) tt (from-numbered starts ops op 0)

context-numbered : (push : ℕ) (block : BasicBlockNode) (batches groups : List ℕ) (index op : ℕ) → Numbered (context_at_op push block batches groups index op)
unfolding context_at_op context_in_group Numbered
context-numbered push block batches groups index op =
    then-numbered (batch_at batches groups block index) _ (batch-numbered batches groups block index) (λ batch.
    then-numbered (group_of (starts_at batches block index) batch.num_ops op) _ (group-numbered _ _ op) (λ cursor.
    pick-numbered (ltb block.total (consumed push block batches groups index cursor)) _ _ tt
    (pick-numbered (too_large block batch (sum_before batches block index).above8) _ _ tt tt)))

start-numbered : (block : BasicBlockNode) (batches groups : List ℕ) (index : ℕ) → Numbered (context_at_batch_start block batches groups index)
unfolding context_at_batch_start Numbered
start-numbered block batches groups index =
    then-numbered (batch_at batches groups block index) _ (batch-numbered batches groups block index) (λ batch.
    then-numbered (batch_flags (sum_from batches block index).groups) _ (flags-numbered (sum_from batches block index).groups) (λ flags.
    pick-numbered (too_large block batch (sum_from batches block index).above8) _ _ tt tt))

helpers-numbered : (registers : OperationHelperRegisters) → Numbered (helpers_answer registers)
unfolding helpers_answer helpers_of_cells Numbered
helpers-numbered registers =
    pick-numbered (all_below 4294967296 (u32_values (read_registers registers))) _ _ tt tt

-- what a continuation makes
module _ (f : Forest) (q : Queues) (p : Profile) (registers : OperationHelperRegisters) (flag : Bool) (captured : Captured) where
  kinds-numbered : (node : MastNode) (here : Cursor) → Numbered (start_kind f.nodes f.digests f.batches f.groups p node captured here)
  unfolding start_kind start_block start_two start_one start_dyn start_dyncall Numbered
  kinds-numbered (MastNode.Block block) here =
      then-numbered (batch_at f.batches f.groups block 0) _ (batch-numbered _ _ block 0) (λ batch.
      then-numbered (batch_flags block.total) _ (flags-numbered block.total) (λ flags. tt))
  kinds-numbered (MastNode.Join a b) here =
      then-numbered (digest_at f.nodes f.digests a.0) _ (digest-numbered _ _ a.0) (λ x.
      then-numbered (digest_at f.nodes f.digests b.0) _ (digest-numbered _ _ b.0) (λ y. tt))
  kinds-numbered (MastNode.Split a b) here =
      then-numbered (digest_at f.nodes f.digests a.0) _ (digest-numbered _ _ a.0) (λ x.
      then-numbered (digest_at f.nodes f.digests b.0) _ (digest-numbered _ _ b.0) (λ y. tt))
  kinds-numbered (MastNode.Loop a) here = then-numbered (digest_at f.nodes f.digests a.0) _ (digest-numbered _ _ a.0) (λ x. tt)
  kinds-numbered (MastNode.Call a) here = then-numbered (digest_at f.nodes f.digests a.0) _ (digest-numbered _ _ a.0) (λ x. tt)
  kinds-numbered (MastNode.Syscall a) here = tt
  kinds-numbered MastNode.Dyn here = then-numbered (callee_of captured.dyn_callee_hash) _ (callee-numbered captured.dyn_callee_hash) (λ x. tt)
  kinds-numbered MastNode.Dyncall here =
      then-numbered (callee_of captured.dyn_callee_hash) _ (callee-numbered captured.dyn_callee_hash) (λ x.
      then-numbered (info_of captured.ctx_info) _ (info-numbered captured.ctx_info) (λ y. tt))
  kinds-numbered MastNode.External here = tt

  finished-numbered : (end : ℕ) (id : MastNodeId) (finish : Finish) (used : Used) (here : Cursor) → Numbered (made_end f.nodes f.digests q.ends end id finish flag used here)
  unfolding made_end Numbered
  finished-numbered end id finish used here =
      then-numbered (node_at f.nodes f.digests id.0) _ (node-numbered _ _ id.0) (λ entry.
      then-numbered (entry_kind finish entry.node) _ (kind-numbered finish entry.node) (λ kind.
      then-numbered (end_at q.ends here.at.ends) _ (end-numbered q.ends here.at.ends) (λ ended. tt)))

  repeated-numbered : (repeat : ℕ) (id : MastNodeId) (here : Cursor) → Numbered (made_repeat f.nodes f.digests repeat id here)
  unfolding made_repeat Numbered
  repeated-numbered repeat id here =
      then-numbered (node_at f.nodes f.digests id.0) _ (node-numbered _ _ id.0) (λ entry.
      then-numbered (body_of entry.node) _ (asked-numbered entry.node).1 (λ body.
      then-numbered (digest_at f.nodes f.digests body.0) _ (digest-numbered _ _ body.0) (λ digest. tt)))

  made-numbered : (continuation : Continuation) (here : Cursor) → Numbered (made f q p registers continuation flag captured here)
  unfolding made start_node finish_loop resumed operation_made made_respan Numbered
  made-numbered (Continuation.StartNode id) here =
      then-numbered (started_at q.addresses q.parents here.at) _ (started-numbered q.addresses q.parents here.at) (λ s.
      then-numbered (node_at f.nodes f.digests id.0) _ (node-numbered _ _ id.0) (λ entry. kinds-numbered entry.node (cursor s (after_start here.at))))
  made-numbered (Continuation.FinishJoin id) here = finished-numbered p.end id Finish.Any Used.Nothing here
  made-numbered (Continuation.FinishSplit id) here = finished-numbered p.end id Finish.Any Used.Nothing here
  made-numbered (Continuation.FinishLoop id) here =
      then-numbered (condition_of captured.finish_loop_condition) _ (condition-numbered captured.finish_loop_condition) (λ again.
      pick-numbered again _ _ (repeated-numbered p.repeat id here) (finished-numbered p.end id Finish.Loop Used.Condition here))
  made-numbered (Continuation.FinishCall id) here = finished-numbered p.end id Finish.Call Used.Nothing here
  made-numbered (Continuation.FinishDyn id) here = finished-numbered p.end id Finish.Dyn Used.Nothing here
  made-numbered (Continuation.ResumeBasicBlock id index op) here =
      then-numbered (node_at f.nodes f.digests id.0) _ (node-numbered _ _ id.0) (λ entry.
      then-numbered (block_of entry.node) _ (asked-numbered entry.node).0 (λ block.
      then-numbered (batch_at f.batches f.groups block index) _ (batch-numbered _ _ block index) (λ batch.
      then-numbered (opcode_at f.ops batch op) _ (opcode-numbered f.ops batch op) (λ opcode.
      then-numbered (context_at_op p.push block f.batches f.groups index op) _ (context-numbered p.push block _ _ index op) (λ found.
      then-numbered (helpers_answer registers) _ (helpers-numbered registers) (λ helpers. tt))))))
  made-numbered (Continuation.Respan id index) here =
      then-numbered (node_at f.nodes f.digests id.0) _ (node-numbered _ _ id.0) (λ entry.
      then-numbered (block_of entry.node) _ (asked-numbered entry.node).0 (λ block.
      then-numbered (context_at_batch_start block f.batches f.groups index) _ (start-numbered block _ _ index) (λ found. tt)))
  made-numbered (Continuation.FinishBasicBlock id) here = finished-numbered p.end id Finish.Block Used.Nothing here
  made-numbered Continuation.EnterForest here = tt

-- a cycle
kept-numbered : {A : Type 0} (t : Bool) (n : ℕ) (a : Answer A) → eqb n 0 ≡ t → Numbered a → Numbered (refuse_if (not t) n a)
unfolding Numbered
kept-numbered true n a e h = h
kept-numbered false zero a e h = absurd (eqb-false 0 0 e refl)
kept-numbered false (suc n) a e h = tt

continuation-numbered : (stored : Option Continuation) → Numbered (continuation_of stored)
unfolding Numbered
continuation-numbered (Some continuation) = tt
continuation-numbered None = tt

module _ (p : Profile) (f : Forest) (q : Queues) (stack : StackState) (registers : OperationHelperRegisters) (cells : ℕ) (t : CoreTraceGenerationTracer) where
  pub cycle-with-numbered : (scan : Scan) → Numbered (cycle_with scan p f q stack registers cells t)
  unfolding cycle_with Numbered
  cycle-with-numbered scan =
      kept-numbered (eqb t.refusal 0) t.refusal _ refl
      (then-numbered (continuation_of t.continuation) _ (continuation-numbered t.continuation) (λ continuation.
      if-numbered scan.big 0 _ (if-numbered scan.profile_wrong 1 _
      (if-numbered (scan.too_large || fragment_wrong cells t.row_write_index) 10 _ (if-numbered (ltb stack.stack_depth 16) 9 _
      (then-numbered (made f q p registers continuation t.is_loop_body t.captured (cursor t.decoder_state t.at)) _
      (made-numbered f q p registers t.is_loop_body t.captured continuation (cursor t.decoder_state t.at)) (λ row.
      if-numbered (leb (cells / 49) t.row_write_index) 23 (accepted row) tt)))))))

  cycle-numbered : Numbered (cycle p f q stack registers cells t)
  unfolding cycle
  cycle-numbered = cycle-with-numbered (scan_of p f.nodes f.batches f.ops)

  -- what a cycle that is not refused comes from
  pub record Came (m : MadeRow) : Type 0 where
    pub answer : cycle p f q stack registers cells t ≡ accepted m
    pub continuation : Continuation
    pub kept : t.refusal ≡ 0
    pub stored_is : t.continuation ≡ Some continuation
    pub small : any_big_opcode f.ops ≡ false
    pub profile_right : profile_wrong p ≡ false
    pub lengths_right : (forest_too_large f.nodes f.batches || fragment_wrong cells t.row_write_index) ≡ false
    pub deep : ltb stack.stack_depth 16 ≡ false
    pub made_is : made f q p registers continuation t.is_loop_body t.captured (cursor t.decoder_state t.at) ≡ accepted m
    pub room : leb (cells / 49) t.row_write_index ≡ false

  stored_of : (stored : Option Continuation) (continuation : Continuation) → continuation_of stored ≡ accepted continuation → stored ≡ Some continuation
  stored_of (Some x) continuation e = cc
  stored_of None continuation e = let z : ◌≡◌ {A = ℕ} 0 1 = cc in absurd (omega arith)

  pub accepted-came : (m : MadeRow) → cycle p f q stack registers cells t ≡ accepted m → Came m
  unfolding cycle cycle_with scan_of
  accepted-came m e =
      let (e1, e2) = unrefused (not (eqb t.refusal 0)) t.refusal _ m e in
      let (continuation, e3, e4) = then-accepted (continuation_of t.continuation) _ m e2 in
      let (e5, e6) = unrefused (any_big_opcode f.ops) 1 _ m e4 in
      let (e7, e8) = unrefused (profile_wrong p) 2 _ m e6 in
      let (e9, e10) = unrefused (forest_too_large f.nodes f.batches || fragment_wrong cells t.row_write_index) 11 _ m e8 in
      let (e11, e12) = unrefused (ltb stack.stack_depth 16) 10 _ m e10 in
      let (row, e13, e14) = then-accepted (made f q p registers continuation t.is_loop_body t.captured (cursor t.decoder_state t.at)) _ m e12 in
      let (e15, e16) = unrefused (leb (cells / 49) t.row_write_index) 24 (accepted row) m e14 in
      let e17 : row ≡ m = cc in
      record {
        answer = e;
        continuation = continuation;
        kept = eqb-true t.refusal 0 (not-false (eqb t.refusal 0) e1);
        stored_is = stored_of t.continuation continuation e3;
        small = e5;
        profile_right = e7;
        lengths_right = e9;
        deep = e11;
        made_is = rw e17 at e13;
        room = e15;
      }

  pub came : refusal (cycle p f q stack registers cells t) ≡ 0 → (m : MadeRow) × Came m
  came e = let (m, k) = accepted-of (cycle p f q stack registers cells t) cycle-numbered e in (m, accepted-came m k)
