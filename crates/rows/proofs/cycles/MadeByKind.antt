-- What a continuation makes is what its kind makes.
use mathlib.Core.Bool.{Bool}
use mathlib.Core.Path.{◌≡◌, refl}
use Rattle.groups.specs.declared.helpers.OperationHelperRegisters.{OperationHelperRegisters}
use Rattle.rows.specs.declared.records.profile.Profile.{Profile}
use Rattle.rows.specs.declared.records.continuation.Continuation.{Continuation}
use Rattle.rows.specs.declared.records.continuation.Captured.{Captured}
use Rattle.rows.specs.records.Forests.{Forest}
use Rattle.rows.specs.records.Addresses.{Queues}
use Rattle.rows.specs.declared.records.address_state.Cursor.{Cursor}
use Rattle.rows.specs.cycles.Made.{made}
use Rattle.rows.specs.ways.ContinuationKinds.{continuation_kind, made_of_kind}

pub made-by-kind : (f : Forest) (q : Queues) (p : Profile) (registers : OperationHelperRegisters) (continuation : Continuation) (is_loop_body : Bool) (captured : Captured) (here : Cursor) →
    made_of_kind f q p registers (continuation_kind continuation) is_loop_body captured here ≡ made f q p registers continuation is_loop_body captured here
unfolding made
made-by-kind f q p registers (Continuation.StartNode id) is_loop_body captured here = refl
made-by-kind f q p registers (Continuation.FinishJoin id) is_loop_body captured here = refl
made-by-kind f q p registers (Continuation.FinishSplit id) is_loop_body captured here = refl
made-by-kind f q p registers (Continuation.FinishLoop id) is_loop_body captured here = refl
made-by-kind f q p registers (Continuation.FinishCall id) is_loop_body captured here = refl
made-by-kind f q p registers (Continuation.FinishDyn id) is_loop_body captured here = refl
made-by-kind f q p registers (Continuation.ResumeBasicBlock id index op) is_loop_body captured here = refl
made-by-kind f q p registers (Continuation.Respan id index) is_loop_body captured here = refl
made-by-kind f q p registers (Continuation.FinishBasicBlock id) is_loop_body captured here = refl
made-by-kind f q p registers Continuation.EnterForest is_loop_body captured here = refl
