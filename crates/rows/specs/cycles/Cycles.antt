-- Document 01, "Entry: one cycle": storing, finishing and the final state.
use Rattle.std.specs.Prelude.{Option, Some, None, Bool, true, false, not, ◌||◌, List, ◌++◌, ℕ, ◌+◌, ◌/◌, min, leb, ltb, eqb}
use Rattle.groups.specs.Answer.{Answer, accepted, refused, and_then, pick}
use Rattle.groups.specs.Constants.{row_width, big_opcode, bad_profile, low_depth, bad_length, stored_absent, no_row_left}
use Rattle.groups.specs.declared.helpers.OperationHelperRegisters.{OperationHelperRegisters}
use Rattle.rows.specs.declared.records.profile.Profile.{Profile}
use Rattle.rows.specs.declared.records.address_state.DecoderState.{DecoderState}
use Rattle.rows.specs.declared.records.address_state.Positions.{Positions}
use Rattle.rows.specs.declared.records.state.SystemState.{SystemState}
use Rattle.rows.specs.declared.records.state.StackState.{StackState}
use Rattle.rows.specs.declared.records.state.SystemCols.{SystemCols}
use Rattle.rows.specs.declared.records.state.StackCols.{StackCols}
use Rattle.rows.specs.declared.records.continuation.Continuation.{Continuation}
use Rattle.rows.specs.declared.records.continuation.Captured.{Captured}
use Rattle.rows.specs.declared.records.continuation.StoredValues.{StoredValues}
use Rattle.rows.specs.declared.records.continuation.Used.{Used}
use Rattle.rows.specs.declared.cycles.made.MadeRow.{MadeRow}
use Rattle.rows.specs.declared.cycles.scan.Scan.{Scan}
use Rattle.rows.specs.declared.cycles.tracer.CoreTraceGenerationTracer.{CoreTraceGenerationTracer}
use Rattle.rows.specs.declared.cycles.tracer.TracerFinalState.{TracerFinalState}
use Rattle.rows.specs.declared.cycles.tracer.FragmentEnd.{FragmentEnd}
use Rattle.rows.specs.records.Forests.{Forest}
use Rattle.rows.specs.records.Addresses.{Queues, read_state}
use Rattle.rows.specs.records.Captured.{read_captured}
use Rattle.rows.specs.records.Built.{built_system, built_stack, no_system, no_stack, read_system, read_stack, system_cells, stack_cells}
use Rattle.rows.specs.cycles.Made.{cursor, made}
use Rattle.rows.specs.records.Cells.{row_cells, put_row}
use Rattle.rows.specs.cycles.Scans.{scan_of}
use Rattle.rows.specs.records.Cells.{fragment_wrong}

-- "a fresh tracer (nothing stored, no refusal, no row)"; the addresses are read (N2)
unfoldable pub fresh : DecoderState → Positions → CoreTraceGenerationTracer
fresh state at = record {
  refusal = 0;
  row_write_index = 0;
  continuation = None;
  is_loop_body = false;
  captured = record { finish_loop_condition = None; dyn_callee_hash = None; ctx_info = None };
  decoder_state = read_state state;
  at = at;
  system_cols = no_system;
  stack_cols = no_stack;
}

-- "Storing replaces all of them and checks none."; the cells among them are read (N2)
abbrev pub storing_of : CoreTraceGenerationTracer → StoredValues → CoreTraceGenerationTracer
storing_of t values = record {
  refusal = t.refusal;
  row_write_index = t.row_write_index;
  continuation = Some values.continuation;
  is_loop_body = values.is_loop_body;
  captured = read_captured values.captured;
  decoder_state = t.decoder_state;
  at = t.at;
  system_cols = t.system_cols;
  stack_cols = t.stack_cols;
}

-- "The tracer keeps a refusal's number; storing, later cycles and the final state then answer it and change nothing."
unfoldable pub stored_in : CoreTraceGenerationTracer → StoredValues → CoreTraceGenerationTracer
stored_in t values = pick (eqb t.refusal 0) (storing_of t values) t

-- "23 if nothing is stored"
abbrev pub continuation_of : Option Continuation → Answer Continuation
continuation_of (Some continuation) = accepted continuation
continuation_of None = refused stored_absent

-- a refusal that holds is answered, and else what follows
abbrev pub refuse_if : {A : Type 0} → Bool → ℕ → Answer A → Answer A
refuse_if true n rest = refused n
refuse_if false n rest = rest

-- "A finish checks in order: the kept refusal, 23 if nothing is stored, 1, 2, 11, 10, the continuation's own as below, 24." `cells` is
-- the length of the fragment; the scan's answer is given
unfoldable pub cycle_with : Scan → Profile → Forest → Queues → StackState → OperationHelperRegisters → (cells : ℕ) → CoreTraceGenerationTracer → Answer MadeRow
cycle_with scan p f q stack registers cells t =
    refuse_if (not (eqb t.refusal 0)) t.refusal
    (and_then (continuation_of t.continuation) (λ continuation.
    refuse_if scan.big big_opcode
    (refuse_if scan.profile_wrong bad_profile
    (refuse_if (scan.too_large || fragment_wrong cells t.row_write_index) bad_length
    (refuse_if (ltb stack.stack_depth 16) low_depth
    (and_then (made f q p registers continuation t.is_loop_body t.captured (cursor t.decoder_state t.at)) (λ row.
    refuse_if (leb (cells / row_width) t.row_write_index) no_row_left
    (accepted row))))))))

unfoldable pub cycle : Profile → Forest → Queues → StackState → OperationHelperRegisters → (cells : ℕ) → CoreTraceGenerationTracer → Answer MadeRow
cycle p f q stack registers cells t = cycle_with (scan_of p f.nodes f.batches f.ops) p f q stack registers cells t

-- "A second finish without a store reuses the continuation, without the condition, word or info already used."
unfoldable pub left_after : Used → Captured → Captured
left_after Used.Nothing captured = captured
left_after Used.Condition captured =
    record { finish_loop_condition = None; dyn_callee_hash = captured.dyn_callee_hash; ctx_info = captured.ctx_info }
left_after Used.Callee captured =
    record { finish_loop_condition = captured.finish_loop_condition; dyn_callee_hash = None; ctx_info = captured.ctx_info }
left_after Used.CalleeAndInfo captured =
    record { finish_loop_condition = captured.finish_loop_condition; dyn_callee_hash = None; ctx_info = None }

-- the tracer with a refusal's number, else unchanged
abbrev pub keeping : ℕ → CoreTraceGenerationTracer → CoreTraceGenerationTracer
keeping n t = record {
  refusal = n;
  row_write_index = t.row_write_index;
  continuation = t.continuation;
  is_loop_body = t.is_loop_body;
  captured = t.captured;
  decoder_state = t.decoder_state;
  at = t.at;
  system_cols = t.system_cols;
  stack_cols = t.stack_cols;
}

-- the tracer after a finish: one row more, and the cells built for the next
unfoldable pub tracer_after : SystemState → StackState → CoreTraceGenerationTracer → Answer MadeRow → CoreTraceGenerationTracer
tracer_after system stack t (refused n) = keeping n t
tracer_after system stack t (accepted m) = record {
  refusal = 0;
  row_write_index = t.row_write_index + 1;
  continuation = t.continuation;
  is_loop_body = t.is_loop_body;
  captured = left_after m.used t.captured;
  decoder_state = m.state;
  at = m.at;
  system_cols = built_system system;
  stack_cols = built_stack stack;
}

-- N7: "the cycle's answer for ResumeBasicBlock carries it. For other continuations it is 0", as on a refusal
abbrev pub following_of : Answer MadeRow → ℕ
following_of (accepted m) = m.following
following_of (refused n) = 0

-- "System and stack cells of a row are those built at the previous row of its fragment, zero in its first."
unfoldable pub last_system : CoreTraceGenerationTracer → SystemCols
last_system t = pick (eqb t.row_write_index 0) no_system t.system_cols

unfoldable pub last_stack : CoreTraceGenerationTracer → StackCols
last_stack t = pick (eqb t.row_write_index 0) no_stack t.stack_cols

-- the fragment after a finish
unfoldable pub fragment_after : List ℕ → CoreTraceGenerationTracer → Answer MadeRow → List ℕ
fragment_after fragment t (refused n) = fragment
fragment_after fragment t (accepted m) = put_row fragment t.row_write_index (row_cells (last_system t) m.row (last_stack t))

-- "Else the final state is the last built cells (zeros without rows) and the row count."
unfoldable pub final_state : CoreTraceGenerationTracer → TracerFinalState
final_state t =
    pick (eqb t.refusal 0)
    (record { refusal = 0; last_system_cols = read_system (last_system t); last_stack_cols = read_stack (last_stack t); num_rows_written = t.row_write_index })
    (record { refusal = t.refusal; last_system_cols = no_system; last_stack_cols = no_stack; num_rows_written = 0 })

-- "its final states' row counts and last built cells": what the passes take of a fragment. A count is of 32 bits; one that does not fit, which
-- no calls make (`counts-are-rows`), becomes the largest, and that is more rows than any buffer has (11)
unfoldable pub for_passes : TracerFinalState → FragmentEnd
for_passes final = record {
  count = min 4294967295 final.num_rows_written;
  built = system_cells final.last_system_cols ++ stack_cells final.last_stack_cols;
}
