-- The rows that a replay answers are the rows written, refused or not: at most 2^24, so that the count that the passes take is this number.
use mathlib.Core.Path.{◌≡◌}
use mathlib.Core.Bool.{Bool, true, false}
use mathlib.Core.List.{List}
use Prim.Native.Nat.{ℕ, zero, suc, ◌/◌, ◌%◌}
use native.Mathlib.Omega.{arith}
use lib.Dec.{eqb}
use lib.ListN.{length}
use Rattle.groups.specs.Answer.{Answer, accepted, refused, pick}
use Rattle.rows.specs.declared.records.address_state.DecoderState.{DecoderState}
use Rattle.rows.specs.declared.records.address_state.Positions.{Positions}
use Rattle.rows.specs.declared.cycles.tracer.CoreTraceGenerationTracer.{CoreTraceGenerationTracer}
use Rattle.rows.specs.records.CallRecords.{RecordedCall, stores, finishes, call_in, record_at}
use Rattle.rows.specs.cycles.Cycles.{fresh, keeping, final_state}
use Rattle.rows.specs.replay.Calls.{Setting, forest_of, refusing, call_done, through, ending, told, replayed}
use Rattle.rows.proofs.cycles.RowCounts.{FewRows, storing-few, cycle-with-few, count-handed}

kept-few : (n : ℕ) (t : CoreTraceGenerationTracer) (none : Bool) → FewRows t → FewRows (pick none (keeping n t) t)
kept-few n t true few = few
kept-few n t false few = few

refusing-few : (n : ℕ) (t : CoreTraceGenerationTracer) → FewRows t → FewRows (refusing n t)
unfolding refusing
refusing-few n t few = kept-few n t (eqb t.refusal 0) few

call-few : (s : Setting) (t : CoreTraceGenerationTracer) (call : Answer RecordedCall) → FewRows t → FewRows (call_done s t call)
unfolding call_done
call-few s t (refused n) few = refusing-few n t few
call-few s t (accepted (stores values)) few = storing-few t values few
call-few s t (accepted (finishes k system stack registers)) few =
    cycle-with-few s.scan s.profile (forest_of s k) s.queues system stack registers s.cells t few

through-few : (s : Setting) (records : List ℕ) (t : CoreTraceGenerationTracer) (n : ℕ) → FewRows t → FewRows (through s records t n)
unfolding through
through-few s records t zero few = few
through-few s records t (suc k) few = call-few s (through s records t k) (call_in (record_at records k)) (through-few s records t k few)

whole-few : (t : CoreTraceGenerationTracer) (whole : Bool) → FewRows t → FewRows (pick whole t (refusing 11 t))
whole-few t true few = few
whole-few t false few = refusing-few 11 t few

ending-few : (numbers : ℕ) (t : CoreTraceGenerationTracer) → FewRows t → FewRows (ending numbers t)
unfolding ending
ending-few numbers t few = whole-few t (eqb (numbers % 32) 0) few

-- for every list of records
pub replayed-rows : (s : Setting) (state : DecoderState) (at : Positions) (records : List ℕ) →
    (replayed s state at records).rows ≡ (final_state (ending (length records) (through s records (fresh state at) (length records / 32)))).num_rows_written
unfolding replayed told fresh
replayed-rows s state at records =
    count-handed _ (ending-few (length records) _ (through-few s records (fresh state at) (length records / 32) (omega arith)))
