-- "Inputs that were answered get the same cells as before." (N2) Cycles and replay: where the cells that it is handed are below p, each definition
-- that N2 changed is the one from before, clause by clause. What it cites is meant as it stands now, since what N2 changed there has a theorem of its own;
-- `made` is N8's, which refuses the start of a SYSCALL node.
-- A finish that was answered had such cells (`answered-cycle`), so it is answered the same (`answered-the-same`). What a fresh tracer and a storing are
-- given was tested by the finish that follows, where one did.
use Rattle.std.specs.Prelude.{Option, Some, None}
use Rattle.groups.specs.declared.word.Word.{Word}
use Rattle.rows.specs.declared.records.continuation.ExecutionContextInfo.{ExecutionContextInfo}
use mathlib.Core.Path.{◌≡◌, ◌∙◌, refl, ap}
use mathlib.Core.Bool.{false, not, ◌||◌, or-false}
use mathlib.Core.List.{List, [], ◌∷◌, ◌++◌}
use mathlib.Core.Logic.{◌↔◌}
use Prim.Native.Nat.{ℕ, ◌/◌, ◌<◌}
use lib.Dec.{eqb}
use lib.ListN.{length}
use Rattle.field.specs.Modulus.{P}
use Rattle.field.specs.Bounds.{any_from}
use Rattle.field.proofs.CellLaws.{read_small}
use Rattle.groups.specs.Answer.{accepted, pick}
use Rattle.groups.specs.declared.helpers.OperationHelperRegisters.{OperationHelperRegisters}
use Rattle.groups.proofs.Answers.{then-accepted}
use Rattle.rows.specs.declared.records.profile.Profile.{Profile}
use Rattle.rows.specs.declared.records.address_state.DecoderState.{DecoderState}
use Rattle.rows.specs.declared.records.address_state.Positions.{Positions}
use Rattle.rows.specs.declared.records.state.SystemState.{SystemState}
use Rattle.rows.specs.declared.records.state.StackState.{StackState}
use Rattle.rows.specs.declared.records.state.SystemCols.{SystemCols}
use Rattle.rows.specs.declared.records.state.StackCols.{StackCols}
use Rattle.rows.specs.declared.records.continuation.Captured.{Captured}
use Rattle.rows.specs.declared.records.continuation.StoredValues.{StoredValues}
use Rattle.rows.specs.records.Forests.{Forest}
use Rattle.rows.specs.records.Addresses.{Queues, read_state}
use Rattle.rows.specs.records.Captured.{read_callee, read_info, read_captured}
use Rattle.rows.specs.records.Built.{no_system, no_stack, read_system, read_stack, cells16, system_cells, stack_cells}
use Rattle.rows.specs.records.CallRecords.{finishes}
use Rattle.rows.proofs.records.Windows.{all-16}
use Rattle.rows.specs.declared.cycles.made.MadeRow.{MadeRow}
use Rattle.rows.specs.declared.cycles.scan.Scan.{Scan}
use Rattle.rows.specs.declared.cycles.tracer.CoreTraceGenerationTracer.{CoreTraceGenerationTracer}
use Rattle.rows.specs.cycles.Scans.{any_big_opcode, any_long_block, any_large_batch, forest_too_large, scan_of}
use Rattle.rows.specs.cycles.Cycles.{fresh, storing_of, continuation_of, cycle_with, cycle, tracer_after, last_system, last_stack, fragment_after, final_state}
use Rattle.rows.specs.replay.Calls.{Setting, setting, forest_of, call_done, call_written, scanned}
use Rattle.rows.specs.replay.SingleCalls.{single_done, single_written}
use Rattle.rows.proofs.passes.Checks.{neither}
use Rattle.theory_reductions.specs.Below.{Below}
use Rattle.theory_before_n2.specs.BeforeN2.{LentBelow, lent_big, callee_cells, info_cells, cycle_cells, cycle_big, scan_of_before, cycle_with_before, cycle_before}
use Rattle.theory_reductions.proofs.Accepted.{unrefused}
use Rattle.theory_reductions.proofs.CyclesReduced.{last-system, last-stack}
use Rattle.theory_before_n2.proofs.SameCells.{below_both, below_of, of-below, same-read_word, same-read16}

-- REFUSAL 1

-- for cells below p the test of what is lent comes to that of the opcodes
big-is : (f : Forest) (q : Queues) → LentBelow f q → lent_big f q ≡ any_big_opcode f.ops
unfolding lent_big any_big_opcode
big-is f q h =
    rw (
      of-below f.digests h.digests,
      of-below f.groups h.groups,
      of-below q.addresses h.addresses,
      of-below q.parents h.parents,
      of-below q.ends h.ends,
      or-false,
    )

-- the test of what is lent: cells below p, and opcodes, which refusal 1 is still asked of
pub tested-lent_big : (f : Forest) (q : Queues) → (lent_big f q ≡ false) ↔ (LentBelow f q × (any_big_opcode f.ops ≡ false))
unfolding lent_big any_big_opcode
tested-lent_big f q = (there, back)
  where
    there : lent_big f q ≡ false → LentBelow f q × (any_big_opcode f.ops ≡ false)
    there e =
        let ends = any_from P q.parents || any_from P q.ends in
        let queues = any_from P q.addresses || ends in
        let (a, e1) = neither (any_from P f.digests) (any_from P f.groups || (any_from 128 f.ops || queues)) e in
        let (b, e2) = neither (any_from P f.groups) (any_from 128 f.ops || queues) e1 in
        let (c, e3) = neither (any_from 128 f.ops) queues e2 in
        let (d, e4) = neither (any_from P q.addresses) ends e3 in
        let (g, h) = neither (any_from P q.parents) (any_from P q.ends) e4 in (
          record {
            digests = below_of f.digests a;
            groups = below_of f.groups b;
            addresses = below_of q.addresses d;
            parents = below_of q.parents g;
            ends = below_of q.ends h;
          },
          c,
        )

    back : LentBelow f q × (any_big_opcode f.ops ≡ false) → lent_big f q ≡ false
    back h = big-is f q h.0 ∙ h.1

-- the test of what a cycle is handed
pub tested-cycle_big : (system : SystemState) (stack : StackState) (registers : OperationHelperRegisters) (t : CoreTraceGenerationTracer)
    → (cycle_big system stack registers t ≡ false) ↔ Below (cycle_cells system stack registers t)
unfolding cycle_big
tested-cycle_big system stack registers t = (below_of (cycle_cells system stack registers t), of-below (cycle_cells system stack registers t))

-- THE SCAN

-- too large a forest: now of two of its slices
pub same-forest_too_large : (f : Forest)
    → forest_too_large f.nodes f.batches ≡ (any_long_block f.nodes (length f.nodes / 6) || any_large_batch f.batches (length f.batches / 12))
unfolding forest_too_large
same-forest_too_large f = refl

-- what a scan finds
pub same-scan_of : (p : Profile) (f : Forest) (q : Queues) → LentBelow f q → scan_of p f.nodes f.batches f.ops ≡ scan_of_before p f q
unfolding scan_of scan_of_before
same-scan_of p f q h = rw (big-is f q h)

-- A CYCLE

-- a fresh tracer
pub same-fresh : (state : DecoderState) (at : Positions) → state.current_addr < P → state.parent_addr < P → fresh state at ≡ record {
  refusal = 0;
  row_write_index = 0;
  continuation = None;
  is_loop_body = false;
  captured = record { finish_loop_condition = None; dyn_callee_hash = None; ctx_info = None };
  decoder_state = state;
  at = at;
  system_cols = no_system;
  stack_cols = no_stack;
}
unfolding fresh read_state
same-fresh state at h k = rw (read_small state.current_addr h, read_small state.parent_addr k)

-- a callee word and an info of cells below p are read as themselves
same-read_callee : (callee : Option Word) → Below (callee_cells callee) → read_callee callee ≡ callee
same-read_callee None h = refl
same-read_callee (Some word) h = rw (same-read_word word h)

same-read_info : (info : Option ExecutionContextInfo) → Below (info_cells info) → read_info info ≡ info
unfolding Below
same-read_info None h = refl
same-read_info (Some info) h = rw (read_small info.next_overflow_addr h.0)

-- and so are captured values
pub same-read_captured : (c : Captured) → Below (callee_cells c.dyn_callee_hash ++ info_cells c.ctx_info) → read_captured c ≡ c
unfolding read_captured
same-read_captured c h =
    let (a, b) = below_both (callee_cells c.dyn_callee_hash) (info_cells c.ctx_info) h in
    rw (same-read_callee c.dyn_callee_hash a, same-read_info c.ctx_info b)

-- a storing
pub same-storing : (t : CoreTraceGenerationTracer) (values : StoredValues)
    → Below (callee_cells values.captured.dyn_callee_hash ++ info_cells values.captured.ctx_info) → storing_of t values ≡ record {
      refusal = t.refusal;
      row_write_index = t.row_write_index;
      continuation = Some values.continuation;
      is_loop_body = values.is_loop_body;
      captured = values.captured;
      decoder_state = t.decoder_state;
      at = t.at;
      system_cols = t.system_cols;
      stack_cols = t.stack_cols;
    }
same-storing t values h = rw (same-read_captured values.captured h)

-- a finish, what the scan found being given: refusal 1 of what it is handed is not answered
pub same-cycle_with : (scan : Scan) (p : Profile) (f : Forest) (q : Queues)
    (system : SystemState) (stack : StackState) (registers : OperationHelperRegisters) (cells : ℕ) (t : CoreTraceGenerationTracer)
    → Below (cycle_cells system stack registers t)
    → cycle_with scan p f q stack registers cells t ≡ cycle_with_before scan p f q system stack registers cells t
unfolding cycle_with cycle_with_before
same-cycle_with scan p f q system stack registers cells t h =
    rw ((tested-cycle_big system stack registers t).1 h, or-false)

-- a finish: nor is refusal 1 of what is lent
pub same-cycle : (p : Profile) (f : Forest) (q : Queues)
    (system : SystemState) (stack : StackState) (registers : OperationHelperRegisters) (cells : ℕ) (t : CoreTraceGenerationTracer)
    → LentBelow f q → Below (cycle_cells system stack registers t)
    → cycle p f q stack registers cells t ≡ cycle_before p f q system stack registers cells t
unfolding cycle cycle_before
same-cycle p f q system stack registers cells t lent h =
    ap (λ (scan : Scan). cycle_with scan p f q stack registers cells t) (same-scan_of p f q lent)
    ∙ same-cycle_with (scan_of_before p f q) p f q system stack registers cells t h

-- a finish that was answered had been handed cells below p
pub answered-cycle_with : (scan : Scan) (p : Profile) (f : Forest) (q : Queues)
    (system : SystemState) (stack : StackState) (registers : OperationHelperRegisters) (cells : ℕ) (t : CoreTraceGenerationTracer) (m : MadeRow)
    → cycle_with_before scan p f q system stack registers cells t ≡ accepted m → (scan.big ≡ false) × Below (cycle_cells system stack registers t)
unfolding cycle_with_before
answered-cycle_with scan p f q system stack registers cells t m e =
    let a = unrefused (not (eqb t.refusal 0)) t.refusal _ m e in
    let b = then-accepted (continuation_of t.continuation) _ m a.1 in
    let c = unrefused (scan.big || cycle_big system stack registers t) 1 _ m b.2 in
    let d = neither scan.big (cycle_big system stack registers t) c.0 in
    (d.0, (tested-cycle_big system stack registers t).0 d.1)

-- and so had what was lent
pub answered-cycle : (p : Profile) (f : Forest) (q : Queues)
    (system : SystemState) (stack : StackState) (registers : OperationHelperRegisters) (cells : ℕ) (t : CoreTraceGenerationTracer) (m : MadeRow)
    → cycle_before p f q system stack registers cells t ≡ accepted m → LentBelow f q × Below (cycle_cells system stack registers t)
unfolding cycle_before scan_of_before
answered-cycle p f q system stack registers cells t m e =
    let a = answered-cycle_with (scan_of_before p f q) p f q system stack registers cells t m e in
    (((tested-lent_big f q).0 a.0).0, a.1)

-- so a finish that was answered is answered the same
pub answered-the-same : (p : Profile) (f : Forest) (q : Queues)
    (system : SystemState) (stack : StackState) (registers : OperationHelperRegisters) (cells : ℕ) (t : CoreTraceGenerationTracer) (m : MadeRow)
    → cycle_before p f q system stack registers cells t ≡ accepted m → cycle p f q stack registers cells t ≡ accepted m
answered-the-same p f q system stack registers cells t m e =
    let a = answered-cycle p f q system stack registers cells t m e in
    same-cycle p f q system stack registers cells t a.0 a.1 ∙ e

-- built cells below p are read as themselves, in the first row too, where they are 0
same-read_system : (system : SystemCols) → Below (system_cells system) → read_system system ≡ system
unfolding read_system system_cells Below
same-read_system system h = rw (read_small system.clk h.0, read_small system.ctx h.1.0, same-read_word system.fn_hash h.1.1)

same-read_stack : (stack : StackCols) → length stack.top ≡ 16 → Below (stack_cells stack) → read_stack stack ≡ stack
unfolding read_stack stack_cells Below
same-read_stack stack l h =
    let (a, b) = below_both (cells16 stack.top) (stack.b0 ∷ stack.b1 ∷ stack.h0 ∷ []) h in
    rw (same-read16 stack.top a, all-16 stack.top l, read_small stack.b0 b.0, read_small stack.b1 b.1.0, read_small stack.h0 b.1.1.0)

same-last_system : (t : CoreTraceGenerationTracer) → Below (system_cells t.system_cols) → read_system (last_system t) ≡ last_system t
unfolding last_system
same-last_system t h = last-system t (eqb t.row_write_index 0) ∙ ap (λ (x : SystemCols). pick (eqb t.row_write_index 0) no_system x) (same-read_system t.system_cols h)

same-last_stack : (t : CoreTraceGenerationTracer) → length t.stack_cols.top ≡ 16 → Below (stack_cells t.stack_cols) → read_stack (last_stack t) ≡ last_stack t
unfolding last_stack
same-last_stack t l h = last-stack t (eqb t.row_write_index 0) ∙ ap (λ (x : StackCols). pick (eqb t.row_write_index 0) no_stack x) (same-read_stack t.stack_cols l h)

-- the final state; the stack top is an array of 16
pub same-final_state : (t : CoreTraceGenerationTracer) → length t.stack_cols.top ≡ 16 → Below (system_cells t.system_cols ++ stack_cells t.stack_cols) → final_state t ≡
    pick (eqb t.refusal 0)
    (record { refusal = 0; last_system_cols = last_system t; last_stack_cols = last_stack t; num_rows_written = t.row_write_index })
    (record { refusal = t.refusal; last_system_cols = no_system; last_stack_cols = no_stack; num_rows_written = 0 })
unfolding final_state
same-final_state t l h =
    let (a, b) = below_both (system_cells t.system_cols) (stack_cells t.stack_cols) h in
    rw (same-last_system t a, same-last_stack t l b)

-- REPLAY

-- a call that is a finish; the other clauses are as they were
pub same-call_done : (s : Setting) (t : CoreTraceGenerationTracer) (k : ℕ)
    (system : SystemState) (stack : StackState) (registers : OperationHelperRegisters)
    → Below (cycle_cells system stack registers t) → call_done s t (accepted (finishes k system stack registers)) ≡
    tracer_after system stack t (cycle_with_before s.scan s.profile (forest_of s k) s.queues system stack registers s.cells t)
unfolding call_done
same-call_done s t k system stack registers h =
    ap (tracer_after system stack t) (same-cycle_with s.scan s.profile (forest_of s k) s.queues system stack registers s.cells t h)

-- and what it writes
pub same-call_written : (s : Setting) (t : CoreTraceGenerationTracer) (k : ℕ)
    (system : SystemState) (stack : StackState) (registers : OperationHelperRegisters) (fragment : List ℕ)
    → Below (cycle_cells system stack registers t) → call_written s t (accepted (finishes k system stack registers)) fragment ≡
    fragment_after fragment t (cycle_with_before s.scan s.profile (forest_of s k) s.queues system stack registers s.cells t)
unfolding call_written
same-call_written s t k system stack registers fragment h =
    ap (fragment_after fragment t) (same-cycle_with s.scan s.profile (forest_of s k) s.queues system stack registers s.cells t h)

-- what all calls share
pub same-scanned : (p : Profile) (f : Forest) (directory : List ℕ) (q : Queues) (cells : ℕ)
    → LentBelow f q → scanned p f directory q cells ≡ setting (scan_of_before p f q) p f directory q cells
unfolding scanned
same-scanned p f directory q cells h = rw (same-scan_of p f q h)

-- a finish of a list of calls that are made one by one
pub same-single_done : (s : Setting) (t : CoreTraceGenerationTracer) (k : ℕ)
    (system : SystemState) (stack : StackState) (registers : OperationHelperRegisters)
    → LentBelow (forest_of s k) s.queues → Below (cycle_cells system stack registers t)
    → single_done s t (accepted (finishes k system stack registers)) ≡
    tracer_after system stack t (cycle_before s.profile (forest_of s k) s.queues system stack registers s.cells t)
unfolding single_done
same-single_done s t k system stack registers lent h =
    ap (tracer_after system stack t) (same-cycle s.profile (forest_of s k) s.queues system stack registers s.cells t lent h)

-- and what it writes
pub same-single_written : (s : Setting) (t : CoreTraceGenerationTracer) (k : ℕ)
    (system : SystemState) (stack : StackState) (registers : OperationHelperRegisters) (fragment : List ℕ)
    → LentBelow (forest_of s k) s.queues → Below (cycle_cells system stack registers t)
    → single_written s t (accepted (finishes k system stack registers)) fragment ≡
    fragment_after fragment t (cycle_before s.profile (forest_of s k) s.queues system stack registers s.cells t)
unfolding single_written
same-single_written s t k system stack registers fragment lent h =
    ap (fragment_after fragment t) (same-cycle s.profile (forest_of s k) s.queues system stack registers s.cells t lent h)
