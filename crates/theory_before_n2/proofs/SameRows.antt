-- "Inputs that were answered get the same cells as before." (N2) What a finish that was answered writes and builds: the cells of its row and the cells
-- built for the next, none of them reduced. Premise: the numbers of 32 bits that go into the row are below p.
use mathlib.Core.Path.{◌≡◌, ◌∙◌, ap}
use mathlib.Core.Bool.{Bool, true, false, not, ◌||◌}
use mathlib.Core.List.{List, [], ◌∷◌, ◌++◌}
use Prim.Native.Nat.{ℕ, ◌+◌, ◌-◌, ◌/◌}
use native.Mathlib.Omega.{arith}
use lib.Dec.{leb, ltb, eqb}
use Rattle.groups.specs.Answer.{accepted, pick}
use Rattle.groups.specs.declared.helpers.OperationHelperRegisters.{OperationHelperRegisters}
use Rattle.groups.proofs.Answers.{then-accepted}
use Rattle.rows.specs.declared.records.profile.Profile.{Profile}
use Rattle.rows.specs.declared.records.state.SystemState.{SystemState}
use Rattle.rows.specs.declared.records.state.StackState.{StackState}
use Rattle.rows.specs.declared.records.continuation.Continuation.{Continuation}
use Rattle.rows.specs.records.Forests.{Forest}
use Rattle.rows.specs.records.Addresses.{Queues}
use Rattle.rows.specs.records.DecoderRows.{word_cells, decoder_cells}
use Rattle.rows.specs.records.Built.{built_system, built_stack, no_system, no_stack, reversed16, cells16, system_cells, stack_cells}
use Rattle.rows.specs.records.Cells.{fragment_wrong, put_row}
use Rattle.rows.specs.declared.cycles.made.MadeRow.{MadeRow}
use Rattle.rows.specs.declared.cycles.tracer.CoreTraceGenerationTracer.{CoreTraceGenerationTracer}
use Rattle.rows.specs.cycles.Made.{cursor, made}
use Rattle.rows.specs.cycles.Cycles.{continuation_of, cycle, last_system, last_stack, fragment_after}
use Rattle.theory_reductions.specs.Below.{Below}
use Rattle.theory_before_n2.specs.BeforeN2.{callee_cells, info_cells, state_cells, tracer_cells, fixed_cells, register_cells, cycle_cells, cycle_big, cycle_with_before, cycle_before, scan_of_before, Narrow32}
use Rattle.theory_reductions.proofs.CellsBelow.{below_app}
use Rattle.theory_reductions.proofs.Accepted.{unrefused}
use Rattle.theory_before_n2.proofs.SameCells.{below_both, same-built_system, same-built_stack, same-row_cells}
use Rattle.theory_before_n2.proofs.SameCycles.{answered-cycle, answered-the-same}
use Rattle.theory_before_n2.proofs.FoundBelow.{StateBelow, below-decoder}
use Rattle.theory_before_n2.proofs.MadeBelow.{made-below}

-- the cells that a finish is handed, by what they are
record HandedBelow (system : SystemState) (stack : StackState) (t : CoreTraceGenerationTracer) : Type 0 where
  word : Below (word_cells system.fn_hash)
  top : Below (stack.overflow_addr ∷ cells16 stack.stack_top)
  state : StateBelow t.decoder_state
  built_system_below : Below (system_cells t.system_cols)
  built_stack_below : Below (stack_cells t.stack_cols)
  captured : Below (callee_cells t.captured.dyn_callee_hash ++ info_cells t.captured.ctx_info)

by_parts : (system : SystemState) (stack : StackState) (registers : OperationHelperRegisters) (t : CoreTraceGenerationTracer)
    → Below (cycle_cells system stack registers t) → HandedBelow system stack t
unfolding cycle_cells fixed_cells state_cells tracer_cells Below
by_parts system stack registers t h =
    let callee = callee_cells t.captured.dyn_callee_hash in
    let info = info_cells t.captured.ctx_info in
    let (fixed, i) = below_both (fixed_cells system stack t ++ register_cells registers ++ callee) info h in
    let (rest, c) = below_both (fixed_cells system stack t ++ register_cells registers) callee fixed in
    let a = (below_both (fixed_cells system stack t) (register_cells registers) rest).0 in
    let (states, tracer) = below_both (state_cells system stack) (tracer_cells t.decoder_state t.system_cols t.stack_cols) a in
    let (w, o) = below_both (word_cells system.fn_hash) (stack.overflow_addr ∷ cells16 stack.stack_top) states in
    let (s, k) = below_both ((t.decoder_state.current_addr ∷ t.decoder_state.parent_addr ∷ []) ++ system_cells t.system_cols) (stack_cells t.stack_cols) tracer in
    record {
      word = w;
      top = o;
      state = (s.0, s.1.0);
      built_system_below = s.1.1;
      built_stack_below = k;
      captured = below_app callee info c i;
    }

-- an answered finish made its row
record WasMade (p : Profile) (f : Forest) (q : Queues) (registers : OperationHelperRegisters) (t : CoreTraceGenerationTracer) (m : MadeRow) : Type 0 where
  continuation : Continuation
  is : made f q p registers continuation t.is_loop_body t.captured (cursor t.decoder_state t.at) ≡ accepted m

was-made : (p : Profile) (f : Forest) (q : Queues)
    (system : SystemState) (stack : StackState) (registers : OperationHelperRegisters) (cells : ℕ) (t : CoreTraceGenerationTracer) (m : MadeRow)
    → cycle_before p f q system stack registers cells t ≡ accepted m → WasMade p f q registers t m
unfolding cycle_before cycle_with_before
was-made p f q system stack registers cells t m e =
    let scan = scan_of_before p f q in
    let a = unrefused (not (eqb t.refusal 0)) t.refusal _ m e in
    let b = then-accepted (continuation_of t.continuation) _ m a.1 in
    let c = unrefused (scan.big || cycle_big system stack registers t) 1 _ m b.2 in
    let d = unrefused scan.profile_wrong 2 _ m c.1 in
    let g = unrefused (scan.too_large || fragment_wrong cells t.row_write_index) 11 _ m d.1 in
    let h = unrefused (ltb stack.stack_depth 16) 10 _ m g.1 in
    let i = then-accepted (made f q p registers b.0 t.is_loop_body t.captured (cursor t.decoder_state t.at)) _ m h.1 in
    let j = unrefused (leb (cells / 49) t.row_write_index) 24 (accepted i.0) m i.2 in
    record { continuation = b.0; is = i.1 ∙ j.1 }

-- "zero in its first"
last-system-below : (t : CoreTraceGenerationTracer) → Below (system_cells t.system_cols) → Below (system_cells (last_system t))
unfolding last_system no_system system_cells Below
last-system-below t h = by (eqb t.row_write_index 0)
  where
    by : (b : Bool) → Below (system_cells (pick b no_system t.system_cols))
    by true = omega arith
    by false = h

last-stack-below : (t : CoreTraceGenerationTracer) → Below (stack_cells t.stack_cols) → Below (stack_cells (last_stack t))
unfolding last_stack no_stack stack_cells Below
last-stack-below t h = by (eqb t.row_write_index 0)
  where
    by : (b : Bool) → Below (stack_cells (pick b no_stack t.stack_cols))
    by true = omega arith
    by false = h

-- the row: its system, decoder and stack cells as they are
pub same-written : (p : Profile) (f : Forest) (q : Queues)
    (system : SystemState) (stack : StackState) (registers : OperationHelperRegisters) (t : CoreTraceGenerationTracer) (m : MadeRow) (fragment : List ℕ) (cells : ℕ)
    → Narrow32 f t.captured → cycle_before p f q system stack registers cells t ≡ accepted m
    → fragment_after fragment t (cycle p f q stack registers cells t) ≡ put_row fragment t.row_write_index (system_cells (last_system t) ++ decoder_cells m.row ++ stack_cells (last_stack t))
unfolding fragment_after
same-written p f q system stack registers t m fragment cells narrow e =
    let h = by_parts system stack registers t (answered-cycle p f q system stack registers cells t m e).1 in
    let w = was-made p f q system stack registers cells t m e in
    let b = made-below f q p registers t.captured narrow h.captured w.continuation t.is_loop_body (cursor t.decoder_state t.at) m h.state w.is in
    let row = below-decoder m.row b.row in
    let all = below_app (system_cells (last_system t) ++ decoder_cells m.row) (stack_cells (last_stack t))
    (below_app (system_cells (last_system t)) (decoder_cells m.row) (last-system-below t h.built_system_below) row)
    (last-stack-below t h.built_stack_below) in
    rw (answered-the-same p f q system stack registers cells t m e) (ap (put_row fragment t.row_write_index) (same-row_cells (last_system t) m.row (last_stack t) all))

-- the cells built for the next row, as they were handed
pub same-built : (p : Profile) (f : Forest) (q : Queues)
    (system : SystemState) (stack : StackState) (registers : OperationHelperRegisters) (cells : ℕ) (t : CoreTraceGenerationTracer) (m : MadeRow)
    → cycle_before p f q system stack registers cells t ≡ accepted m
    → (built_system system ≡ record { clk = system.clk.0 + 1; ctx = system.ctx.0; fn_hash = system.fn_hash })
    × (built_stack stack ≡ record { top = reversed16 stack.stack_top; b0 = stack.stack_depth; b1 = stack.overflow_addr; h0 = stack.stack_depth - 16 })
same-built p f q system stack registers cells t m e =
    let h = by_parts system stack registers t (answered-cycle p f q system stack registers cells t m e).1 in
    (same-built_system system h.word, same-built_stack stack h.top)
