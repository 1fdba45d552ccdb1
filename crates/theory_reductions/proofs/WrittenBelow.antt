-- "Every cell that a call writes is reduced; cells it does not write stay" (N2), of the tracer, the fragment, the final state and replay.
use mathlib.Core.Path.{◌≡◌, ◌∙◌, refl, ap}
use mathlib.Core.Bool.{Bool, true, false, not, ◌||◌}
use mathlib.Core.List.{List, ◌++◌}
use Prim.Native.Nat.{ℕ, zero, suc, ◌+◌, ◌-◌, ◌*◌, ◌/◌, ◌%◌, ◌<◌}
use native.Mathlib.Omega.{arith}
use borrow.Author.Tests.{leb-false, eq-eqb}
use lib.Dec.{leb, ltb, eqb}
use lib.ListN.{length, take, drop, length-take, length-drop, take-append-drop}
use lib.Seq.{take-add}
use Rattle.field.specs.Modulus.{P}
use Rattle.field.specs.Cells.{cell_at, reduced}
use Rattle.field.proofs.CellLaws.{read_twice, read_small}
use Rattle.groups.specs.Answer.{Answer, accepted, refused, pick}
use Rattle.groups.specs.declared.helpers.OperationHelperRegisters.{OperationHelperRegisters}
use Rattle.rows.specs.declared.records.profile.Profile.{Profile}
use Rattle.rows.specs.declared.records.address_state.DecoderState.{DecoderState}
use Rattle.rows.specs.declared.records.address_state.Positions.{Positions}
use Rattle.rows.specs.declared.records.state.SystemState.{SystemState}
use Rattle.rows.specs.declared.records.state.StackState.{StackState}
use Rattle.rows.specs.declared.records.continuation.Captured.{Captured}
use Rattle.rows.specs.declared.records.continuation.StoredValues.{StoredValues}
use Rattle.rows.specs.declared.records.continuation.Used.{Used}
use Rattle.rows.specs.declared.cycles.made.MadeRow.{MadeRow}
use Rattle.rows.specs.declared.cycles.scan.Scan.{Scan}
use Rattle.rows.specs.declared.cycles.tracer.CoreTraceGenerationTracer.{CoreTraceGenerationTracer}
use Rattle.rows.specs.declared.cycles.tracer.TracerFinalState.{TracerFinalState}
use Rattle.rows.specs.records.Forests.{Forest}
use Rattle.rows.specs.records.Addresses.{Queues}
use Rattle.rows.specs.records.Captured.{read_captured}
use Rattle.rows.specs.records.Built.{built_system, built_stack, no_system, no_stack, read_system, read_stack, system_cells, stack_cells}
use Rattle.rows.specs.records.DecoderRows.{decoder_cells}
use Rattle.rows.specs.records.Cells.{row_cells, put_row, fragment_wrong}
use Rattle.rows.specs.records.CallRecords.{RecordedCall, stores, finishes, call_in, record_at}
use Rattle.rows.specs.cycles.Made.{cursor, made}
use Rattle.rows.specs.cycles.Scans.{scan_of}
use Rattle.rows.specs.cycles.Cycles.{fresh, storing_of, stored_in, continuation_of, refuse_if, cycle_with, cycle, left_after, tracer_after, last_system, last_stack, fragment_after, final_state, for_passes}
use Rattle.rows.specs.replay.Calls.{Setting, forest_of, call_written, through, written, replayed, replayed_fragment}
use Rattle.theory_reductions.specs.Below.{Below}
use Rattle.theory_reductions.specs.Inputs.{read_tracer}
use Rattle.theory_reductions.specs.Left.{Kept}
use Rattle.theory_reductions.proofs.CellsBelow.{below-reduced}
use Rattle.theory_reductions.proofs.StatesRead.{Gives, IsRead, Moved, RowMoved, read_is, read-moved, if-gives, next-gives, cycle-with-moves, cycle-moves}
use Rattle.theory_reductions.proofs.CyclesReduced.{captured-twice}
use Rattle.theory_reductions.proofs.PassesKept.{stays, kept_trans, kept-app, all-written, pick-kept}

-- THE TRACER

-- a tracer whose cells are all below p: reading leaves it as it is
abbrev pub HoldsCells : CoreTraceGenerationTracer → Type 0
HoldsCells t = read_tracer t ≡ t

-- a fresh tracer, whatever address state it is made from
pub fresh-below : (state : DecoderState) (at : Positions) → HoldsCells (fresh state at)
unfolding read_tracer fresh read_captured read_system read_stack no_system no_stack cell_at
fresh-below state at = rw (read_is state)

-- the cells that a cycle builds; clk, ctx and depth are numbers of 32 bits
built-system-below : (s : SystemState) → s.clk.0 < 4294967296 → s.ctx.0 < 4294967296 → read_system (built_system s) ≡ built_system s
unfolding read_system built_system
built-system-below s h k =
    let e : (s.clk.0 + 1) % P ≡ s.clk.0 + 1 = read_small (s.clk.0 + 1) (omega arith) in
    let f : s.ctx.0 % P ≡ s.ctx.0 = read_small s.ctx.0 (omega arith) in
    rw (e, f) (simp read_twice)

built-stack-below : (k : StackState) → k.stack_depth < 4294967296 → read_stack (built_stack k) ≡ built_stack k
unfolding read_stack built_stack cell_at
built-stack-below k h =
    let e : k.stack_depth % P ≡ k.stack_depth = read_small k.stack_depth (omega arith) in
    let f : (k.stack_depth - 16) % P ≡ k.stack_depth - 16 = read_small (k.stack_depth - 16) (omega arith) in
    rw (e, f) (simp read_twice)

left_below : (u : Used) (c : Captured) → read_captured c ≡ c → read_captured (left_after u c) ≡ left_after u c
unfolding left_after read_captured
left_below Used.Nothing c e = e
left_below Used.Condition c e = rw (ap (λ (x : Captured). x.dyn_callee_hash) e, ap (λ (x : Captured). x.ctx_info) e)
left_below Used.Callee c e = rw (ap (λ (x : Captured). x.ctx_info) e)
left_below Used.CalleeAndInfo c e = refl

-- the parts of such a tracer
parts_held : (t : CoreTraceGenerationTracer) → HoldsCells t →
    (read_captured t.captured ≡ t.captured) × IsRead t.decoder_state × (read_system t.system_cols ≡ t.system_cols) × (read_stack t.stack_cols ≡ t.stack_cols)
unfolding read_tracer
parts_held t e = (
  ap (λ (x : CoreTraceGenerationTracer). x.captured) e,
  ap (λ (x : CoreTraceGenerationTracer). x.decoder_state) e,
  ap (λ (x : CoreTraceGenerationTracer). x.system_cols) e,
  ap (λ (x : CoreTraceGenerationTracer). x.stack_cols) e,
)

stored-held : (same : Bool) (t : CoreTraceGenerationTracer) (values : StoredValues) → HoldsCells t → HoldsCells (pick same (storing_of t values) t)
unfolding read_tracer
stored-held true t values e =
    let (c, s, y, k) = parts_held t e in
    rw (captured-twice values.captured, s, y, k)
stored-held false t values e = e

-- storing, whatever values it is given
pub storing-below : (t : CoreTraceGenerationTracer) (values : StoredValues) → HoldsCells t → HoldsCells (stored_in t values)
unfolding stored_in
storing-below t values e = stored-held (eqb t.refusal 0) t values e

after-held : (system : SystemState) (stack : StackState) (t : CoreTraceGenerationTracer) (a : Answer MadeRow) →
    system.clk.0 < 4294967296 → system.ctx.0 < 4294967296 → stack.stack_depth < 4294967296 → HoldsCells t → Gives (RowMoved t.decoder_state) a → HoldsCells (tracer_after system stack t a)
unfolding tracer_after read_tracer
after-held system stack t (accepted m) h k d e r =
    let c = left_below m.used t.captured (parts_held t e).0 in
    rw (c, read-moved t.decoder_state m.state r (parts_held t e).1, built-system-below system h k, built-stack-below stack d)
after-held system stack t (refused n) h k d e r =
    let (c, s, y, z) = parts_held t e in
    rw (c, s, y, z)

-- a cycle, whatever forest, queues, states and registers it is handed: so the tracers of a run hold cells below p from the first to the last
pub cycle-below : (p : Profile) (f : Forest) (q : Queues) (system : SystemState) (stack : StackState) (registers : OperationHelperRegisters) (cells : ℕ) (t : CoreTraceGenerationTracer) →
    system.clk.0 < 4294967296 → system.ctx.0 < 4294967296 → stack.stack_depth < 4294967296 → HoldsCells t → HoldsCells (tracer_after system stack t (cycle p f q stack registers cells t))
unfolding cycle
cycle-below p f q system stack registers cells t h k d e =
    after-held system stack t _ h k d e (cycle-with-moves (scan_of p f.nodes f.batches f.ops) p f q stack registers cells t)

-- what an accepted cycle sets on any tracer, also one that somebody else made: the built cells are below p, and so is each address that it moved
pub record SetsCells (t after : CoreTraceGenerationTracer) : Type 0 where
  pub system_below : read_system after.system_cols ≡ after.system_cols
  pub stack_below : read_stack after.stack_cols ≡ after.stack_cols
  pub addresses : Moved t.decoder_state after.decoder_state

pub cycle-sets : (p : Profile) (f : Forest) (q : Queues) (system : SystemState) (stack : StackState) (registers : OperationHelperRegisters) (cells : ℕ) (t : CoreTraceGenerationTracer) (m : MadeRow) →
    system.clk.0 < 4294967296 → system.ctx.0 < 4294967296 → stack.stack_depth < 4294967296 →
    cycle p f q stack registers cells t ≡ accepted m → SetsCells t (tracer_after system stack t (cycle p f q stack registers cells t))
unfolding tracer_after
cycle-sets p f q system stack registers cells t m h k d e =
    let moved = rw e at (cycle-moves p f q system stack registers cells t) in
    rw e (record { system_below = built-system-below system h k; stack_below = built-stack-below stack d; addresses = moved })

-- and a storing: the captured values
pub storing-sets : (t : CoreTraceGenerationTracer) (values : StoredValues) → t.refusal ≡ 0 → read_captured (stored_in t values).captured ≡ (stored_in t values).captured
unfolding stored_in
storing-sets t values e = rw (eq-eqb t.refusal 0 e) (captured-twice values.captured)

-- THE FINAL STATE

final-cells : (same : Bool) (t : CoreTraceGenerationTracer) →
    let final : TracerFinalState = pick same
    (record { refusal = 0; last_system_cols = read_system (last_system t); last_stack_cols = read_stack (last_stack t); num_rows_written = t.row_write_index })
    (record { refusal = t.refusal; last_system_cols = no_system; last_stack_cols = no_stack; num_rows_written = 0 }) in
    Below (for_passes final).built
unfolding for_passes system_cells stack_cells read_system read_stack no_system no_stack cell_at
final-cells true t = unfold reduced in below-reduced (system_cells (last_system t) ++ stack_cells (last_stack t))
final-cells false t = unfold reduced in below-reduced (system_cells no_system ++ stack_cells no_stack)

-- the 25 cells of a final state, of any tracer
pub final-below : (t : CoreTraceGenerationTracer) → Below (for_passes (final_state t)).built
unfolding final_state
final-below t = final-cells (eqb t.refusal 0) t

-- THE FRAGMENT

-- a row that is put where the fragment has it
put-kept : (b : List ℕ) (r : ℕ) (x : List ℕ) → length x ≡ 49 → r < length b / 49 → Below x → Kept b (put_row b r x)
unfolding put_row
put-kept b r x wide room low =
    let front : List ℕ = take (49 * r) b in
    let middle : List ℕ = take 49 (drop (49 * r) b) in
    let back : List ℕ = drop (49 * r + 49) b in
    let parts : (front ++ middle) ++ back ≡ b = rw (← (take-add (49 * r) 49 b)) (take-append-drop (49 * r + 49) b) in
    let e : length x ≡ length middle = simp (length-take, length-drop) (omega arith) in
    rw parts at (kept-app (front ++ middle) (front ++ x) back back (kept-app front front middle x (stays front) (all-written middle x e low)) (stays back))

row-wide : (t : CoreTraceGenerationTracer) (m : MadeRow) → length (row_cells (last_system t) m.row (last_stack t)) ≡ 49
unfolding row_cells reduced system_cells decoder_cells stack_cells
row-wide t m = refl

row_below : (t : CoreTraceGenerationTracer) (m : MadeRow) → Below (row_cells (last_system t) m.row (last_stack t))
unfolding row_cells
row_below t m = below-reduced _

-- an accepted cycle has a row left in the fragment
abbrev pub Room : (cells : ℕ) → CoreTraceGenerationTracer → MadeRow → Type 0
Room cells t m = t.row_write_index < cells / 49

has_room : (cells : ℕ) (t : CoreTraceGenerationTracer) (full : Bool) (m : MadeRow) → leb (cells / 49) t.row_write_index ≡ full → Gives (Room cells t) (refuse_if full 24 (accepted m))
has_room cells t true m e = tt
has_room cells t false m e = leb-false (cells / 49) t.row_write_index e

pub room-left : (scan : Scan) (p : Profile) (f : Forest) (q : Queues) (stack : StackState) (registers : OperationHelperRegisters) (cells : ℕ) (t : CoreTraceGenerationTracer) →
    Gives (Room cells t) (cycle_with scan p f q stack registers cells t)
unfolding cycle_with
room-left scan p f q stack registers cells t =
    if-gives (Room cells t) (not (eqb t.refusal 0)) t.refusal _ (next-gives (Room cells t) (continuation_of t.continuation) _ (λ c.
    if-gives (Room cells t) scan.big 1 _ (if-gives (Room cells t) scan.profile_wrong 2 _
    (if-gives (Room cells t) (scan.too_large || fragment_wrong cells t.row_write_index) 11 _
    (if-gives (Room cells t) (ltb stack.stack_depth 16) 10 _
    (next-gives (Room cells t) (made f q p registers c t.is_loop_body t.captured (cursor t.decoder_state t.at)) _ (λ m.
    has_room cells t (leb (cells / 49) t.row_write_index) m refl)))))))

pub after_kept : (fragment : List ℕ) (cells : ℕ) (t : CoreTraceGenerationTracer) (a : Answer MadeRow) → length fragment ≡ cells → Gives (Room cells t) a → Kept fragment (fragment_after fragment t a)
unfolding fragment_after
after_kept fragment cells t (accepted m) e room = put-kept fragment t.row_write_index _ (row-wide t m) (rw e room) (row_below t m)
after_kept fragment cells t (refused n) e room = stays fragment

-- a cycle, whatever it is handed and whatever its tracer holds
pub cycle-kept : (p : Profile) (f : Forest) (q : Queues) (stack : StackState) (registers : OperationHelperRegisters) (fragment : List ℕ) (t : CoreTraceGenerationTracer) →
    Kept fragment (fragment_after fragment t (cycle p f q stack registers (length fragment) t))
unfolding cycle
cycle-kept p f q stack registers fragment t =
    after_kept fragment (length fragment) t _ refl (room-left (scan_of p f.nodes f.batches f.ops) p f q stack registers (length fragment) t)

-- REPLAY

call_kept : (s : Setting) (t : CoreTraceGenerationTracer) (a : Answer RecordedCall) (fragment : List ℕ) → length fragment ≡ s.cells → Kept fragment (call_written s t a fragment)
unfolding call_written
call_kept s t (refused n) fragment e = stays fragment
call_kept s t (accepted (stores values)) fragment e = stays fragment
call_kept s t (accepted (finishes k system stack registers)) fragment e =
    after_kept fragment s.cells t _ e (room-left s.scan s.profile (forest_of s k) s.queues stack registers s.cells t)

calls-kept : (s : Setting) (records : List ℕ) (t : CoreTraceGenerationTracer) (fragment : List ℕ) (n : ℕ) → length fragment ≡ s.cells → Kept fragment (written s records t fragment n)
unfolding written
calls-kept s records t fragment zero e = stays fragment
calls-kept s records t fragment (suc k) e =
    let h = calls-kept s records t fragment k e in
    kept_trans fragment (written s records t fragment k) _ h (call_kept s (through s records t k) (call_in (record_at records k)) (written s records t fragment k) (h.size ∙ e))

-- a replay over a fragment of the setting's length
pub replay-kept : (s : Setting) (state : DecoderState) (at : Positions) (records fragment : List ℕ) → length fragment ≡ s.cells → Kept fragment (replayed_fragment s state at records fragment)
unfolding replayed_fragment
replay-kept s state at records fragment e =
    pick-kept (eqb (replayed s state at records).refusal 0) fragment _ (calls-kept s records (fresh state at) fragment (length records / 32) e)
