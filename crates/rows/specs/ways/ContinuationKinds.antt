-- The kinds of continuation: `made` has a clause for each continuation, and each clause is that of the continuation's kind (`made-by-kind`).
use Rattle.std.specs.Prelude.{ℕ, Bool}
use Rattle.groups.specs.Answer.{Answer, refused}
use Rattle.groups.specs.Constants.{wrong_node_kind}
use Rattle.groups.specs.declared.helpers.OperationHelperRegisters.{OperationHelperRegisters}
use Rattle.rows.specs.declared.records.profile.Profile.{Profile}
use Rattle.rows.specs.declared.records.continuation.Continuation.{Continuation}
use Rattle.rows.specs.declared.records.continuation.Captured.{Captured}
use Rattle.rows.specs.declared.records.continuation.Used.{Used}
use Rattle.rows.specs.declared.cycles.made.MadeRow.{MadeRow}
use Rattle.rows.specs.declared.cycles.made.Finish.{Finish}
use Rattle.rows.specs.declared.records.address_state.Cursor.{Cursor}
use Rattle.rows.specs.declared.records.ids.MastNodeId.{MastNodeId}
use Rattle.rows.specs.records.Forests.{Forest}
use Rattle.rows.specs.records.Addresses.{Queues}
use Rattle.rows.specs.cycles.Made.{start_node, made_end, finish_loop, resumed, made_respan}

-- a start, the END of a node, a loop's REPEAT or END, an operation of a batch, a RESPAN, one that makes nothing
pub data ContinuationKind : Type 0 where
  starts : MastNodeId → ContinuationKind
  ends : MastNodeId → Finish → ContinuationKind
  loop_pass : MastNodeId → ContinuationKind
  operation : MastNodeId → (index : ℕ) → (op : ℕ) → ContinuationKind
  respans : MastNodeId → (index : ℕ) → ContinuationKind
  makes_nothing : ContinuationKind

-- the kind of a continuation
abbrev pub continuation_kind : Continuation → ContinuationKind
continuation_kind (Continuation.StartNode id) = starts id
continuation_kind (Continuation.FinishJoin id) = ends id Finish.Any
continuation_kind (Continuation.FinishSplit id) = ends id Finish.Any
continuation_kind (Continuation.FinishLoop id) = loop_pass id
continuation_kind (Continuation.FinishCall id) = ends id Finish.Call
continuation_kind (Continuation.FinishDyn id) = ends id Finish.Dyn
continuation_kind (Continuation.ResumeBasicBlock id index op) = operation id index op
continuation_kind (Continuation.Respan id index) = respans id index
continuation_kind (Continuation.FinishBasicBlock id) = ends id Finish.Block
continuation_kind Continuation.EnterForest = makes_nothing

-- what is made of a kind
abbrev pub made_of_kind : Forest → Queues → Profile → OperationHelperRegisters → ContinuationKind → (is_loop_body : Bool) → Captured → Cursor → Answer MadeRow
made_of_kind f q p registers (starts id) is_loop_body captured here =
    start_node f.nodes f.digests f.batches f.groups q.addresses q.parents p id captured here
made_of_kind f q p registers (ends id finish) is_loop_body captured here =
    made_end f.nodes f.digests q.ends p.end id finish is_loop_body Used.Nothing here
made_of_kind f q p registers (loop_pass id) is_loop_body captured here =
    finish_loop f.nodes f.digests q.ends p id captured.finish_loop_condition is_loop_body here
made_of_kind f q p registers (operation id index op) is_loop_body captured here =
    resumed f p.push id index op registers here
made_of_kind f q p registers (respans id index) is_loop_body captured here =
    made_respan f.nodes f.digests f.batches f.groups p.respan p.step id index here
made_of_kind f q p registers makes_nothing is_loop_body captured here = refused wrong_node_kind
