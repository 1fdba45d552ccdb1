-- "everywhere a cell comes in" (N2), of storing, the cycle and the final state: what comes of inputs as they are lent and handed over is what comes of
-- them read. Numbers, rows and final states are equal; the tracers are equal once read, since a cycle leaves fields that it does not set as they
-- were.
use Rattle.std.specs.Prelude.{Option, Some, None}
use Rattle.groups.specs.declared.word.Word.{Word}
use Rattle.rows.specs.declared.records.continuation.ExecutionContextInfo.{ExecutionContextInfo}
use mathlib.Core.Path.{◌≡◌, ◌∙◌, refl, sym, ap, ap₂}
use mathlib.Core.Bool.{Bool, true, false, not, ◌||◌}
use mathlib.Core.List.{List}
use Prim.Native.Nat.{ℕ, ◌/◌}
use lib.Dec.{leb, ltb, eqb}
use lib.ListN.{length}
use Rattle.field.specs.Cells.{cell_at, reduced}
use Rattle.field.proofs.CellLaws.{read_twice, get_or-reduced}
use Rattle.groups.specs.Answer.{Answer, accepted, refused, and_then, pick, refusal}
use Rattle.groups.specs.Helpers.{read_registers}
use Rattle.groups.specs.declared.helpers.OperationHelperRegisters.{OperationHelperRegisters}
use Rattle.rows.specs.declared.records.profile.Profile.{Profile}
use Rattle.rows.specs.declared.records.address_state.DecoderState.{DecoderState}
use Rattle.rows.specs.declared.records.address_state.Positions.{Positions}
use Rattle.rows.specs.declared.records.state.SystemState.{SystemState}
use Rattle.rows.specs.declared.records.state.StackState.{StackState}
use Rattle.rows.specs.declared.records.state.SystemCols.{SystemCols}
use Rattle.rows.specs.declared.records.state.StackCols.{StackCols}
use Rattle.rows.specs.declared.records.decoder_row.DecoderRow.{DecoderRow}
use Rattle.rows.specs.declared.records.continuation.Captured.{Captured}
use Rattle.rows.specs.declared.records.continuation.StoredValues.{StoredValues}
use Rattle.rows.specs.declared.records.continuation.Used.{Used}
use Rattle.rows.specs.declared.cycles.made.MadeRow.{MadeRow}
use Rattle.rows.specs.declared.cycles.scan.Scan.{Scan}
use Rattle.rows.specs.declared.cycles.tracer.CoreTraceGenerationTracer.{CoreTraceGenerationTracer}
use Rattle.rows.specs.records.Forests.{Forest}
use Rattle.rows.specs.records.Addresses.{Queues, read_state}
use Rattle.rows.specs.records.Captured.{read_callee, read_info, read_captured}
use Rattle.rows.specs.records.Built.{built_system, built_stack, no_system, no_stack, read_system, read_stack, system_cells, stack_cells, read16, reversed16}
use Rattle.rows.specs.records.DecoderRows.{decoder_cells}
use Rattle.rows.specs.records.Cells.{row_cells, put_row, fragment_wrong}
use Rattle.rows.specs.cycles.Made.{cursor, made}
use Rattle.rows.specs.cycles.Scans.{scan_of}
use Rattle.rows.specs.cycles.Cycles.{fresh, storing_of, stored_in, continuation_of, refuse_if, cycle_with, cycle, left_after, tracer_after, following_of, last_system, last_stack, fragment_after, final_state}
use Rattle.theory_reductions.specs.Inputs.{read_forest, read_queues, read_system_state, read_stack_state, read_values, read_tracer}
use Rattle.theory_reductions.specs.ways.ReadSteps.{read_row, read_made, read_answer}
use Rattle.theory_reductions.proofs.LentReduced.{word-twice}
use Rattle.theory_reductions.proofs.StatesRead.{read_is}
use Rattle.theory_reductions.proofs.MadeReduced.{made-lent, made-given, Same, then-alike}

-- READING TWICE

callee_twice : (c : Option Word) → read_callee (read_callee c) ≡ read_callee c
callee_twice None = refl
callee_twice (Some word) = rw (word-twice word)

info-twice : (i : Option ExecutionContextInfo) → read_info (read_info i) ≡ read_info i
info-twice None = refl
info-twice (Some context) = rw (read_twice context.next_overflow_addr)

pub captured-twice : (c : Captured) → read_captured (read_captured c) ≡ read_captured c
unfolding read_captured
captured-twice c = rw (callee_twice c.dyn_callee_hash, info-twice c.ctx_info)

pub system-twice : (s : SystemCols) → read_system (read_system s) ≡ read_system s
unfolding read_system
system-twice s = rw (read_twice s.clk, read_twice s.ctx, word-twice s.fn_hash)

pub stack-twice : (k : StackCols) → read_stack (read_stack k) ≡ read_stack k
unfolding read_stack cell_at
stack-twice k = simp read_twice

-- THE CYCLE'S ANSWER

pub if-alike : (t : Bool) (n : ℕ) (a b : Answer MadeRow) → Same a b → Same (refuse_if t n a) (refuse_if t n b)
if-alike true n a b h = refl
if-alike false n a b h = h

-- 24 behind what is made
room-alike : (a b : Answer MadeRow) (t : Bool) → Same a b → Same (and_then a (λ row. refuse_if t 24 (accepted row))) (and_then b (λ row. refuse_if t 24 (accepted row)))
room-alike (accepted m) (accepted m') t h = if-alike t 24 (accepted m) (accepted m') h
room-alike (accepted m) (refused n) t h = cc
room-alike (refused n) (accepted m) t h = cc
room-alike (refused n) (refused n') t h = h

module _ (p : Profile) (f : Forest) (q : Queues) (stack : StackState) (registers : OperationHelperRegisters) (cells : ℕ) (t : CoreTraceGenerationTracer) where
  -- the same refusal, or a row that is the same once read
  pub cycle-with-reduced : (scan : Scan) → Same (cycle_with scan p (read_forest f) (read_queues q) (read_stack_state stack) (read_registers registers) cells (read_tracer t)) (cycle_with scan p f q stack registers cells t)
  unfolding cycle_with read_tracer read_stack_state
  cycle-with-reduced scan =
      if-alike (not (eqb t.refusal 0)) t.refusal _ _ (then-alike (continuation_of t.continuation) _ _ (λ c.
      if-alike scan.big 1 _ _ (if-alike scan.profile_wrong 2 _ _ (if-alike (scan.too_large || fragment_wrong cells t.row_write_index) 11 _ _
      (if-alike (ltb stack.stack_depth 16) 10 _ _
      (room-alike
      (made (read_forest f) (read_queues q) p (read_registers registers) c t.is_loop_body (read_captured t.captured) (cursor (read_state t.decoder_state) t.at))
      (made f q p registers c t.is_loop_body t.captured (cursor t.decoder_state t.at))
      (leb (cells / 49) t.row_write_index)
      (ap (read_answer read_made) (made-lent f q p registers c t.is_loop_body (read_captured t.captured) (cursor (read_state t.decoder_state) t.at))
      ∙ made-given f q p registers c t.is_loop_body t.captured (cursor t.decoder_state t.at))))))))

  pub cycle-reduced : Same (cycle p (read_forest f) (read_queues q) (read_stack_state stack) (read_registers registers) cells (read_tracer t)) (cycle p f q stack registers cells t)
  unfolding cycle read_forest
  cycle-reduced = cycle-with-reduced (scan_of p f.nodes f.batches f.ops)

-- THE NUMBER

pub same_number : (a b : Answer MadeRow) → Same a b → refusal a ≡ refusal b
same_number (accepted m) (accepted m') h = refl
same_number (accepted m) (refused n) h = cc
same_number (refused n) (accepted m) h = cc
same_number (refused n) (refused n') h = cc

-- THE ROW

-- a row's cells are reduced, so they are those of its parts read
row_read : (s : SystemCols) (d : DecoderRow) (k : StackCols) → row_cells (read_system s) (read_row d) (read_stack k) ≡ row_cells s d k
unfolding row_cells reduced system_cells decoder_cells stack_cells read_system read_row read_stack cell_at
row_read s d k = simp read_twice

pub last-system : (t : CoreTraceGenerationTracer) (none : Bool) → read_system (pick none no_system t.system_cols) ≡ pick none no_system (read_system t.system_cols)
unfolding read_system no_system
last-system t true = refl
last-system t false = refl

pub last-stack : (t : CoreTraceGenerationTracer) (none : Bool) → read_stack (pick none no_stack t.stack_cols) ≡ pick none no_stack (read_stack t.stack_cols)
unfolding read_stack no_stack cell_at
last-stack t true = refl
last-stack t false = refl

last-system-read : (t : CoreTraceGenerationTracer) → last_system (read_tracer t) ≡ read_system (last_system t)
unfolding last_system read_tracer
last-system-read t = sym (last-system t (eqb t.row_write_index 0))

last-stack-read : (t : CoreTraceGenerationTracer) → last_stack (read_tracer t) ≡ read_stack (last_stack t)
unfolding last_stack read_tracer
last-stack-read t = sym (last-stack t (eqb t.row_write_index 0))

-- the sides read, and a row that is the same once read
made_row_lem : (t : CoreTraceGenerationTracer) (m m' : MadeRow) → read_made m ≡ read_made m' → row_cells (last_system (read_tracer t)) m.row (last_stack (read_tracer t)) ≡ row_cells (last_system t) m'.row (last_stack t)
unfolding read_made
made_row_lem t m m' h =
    let e : read_row m.row ≡ read_row m'.row = ap (λ (x : MadeRow). x.row) h in
    ap₂ (λ x y. row_cells x m.row y) (last-system-read t) (last-stack-read t)
    ∙ sym (row_read (read_system (last_system t)) m.row (read_stack (last_stack t)))
    ∙ ap₂ (λ x y. row_cells x (read_row m.row) y) (system-twice (last_system t)) (stack-twice (last_stack t))
    ∙ ap (λ x. row_cells (read_system (last_system t)) x (read_stack (last_stack t))) e
    ∙ row_read (last_system t) m'.row (last_stack t)

pub same-fragment : (fragment : List ℕ) (t : CoreTraceGenerationTracer) (a b : Answer MadeRow) → Same a b → fragment_after fragment (read_tracer t) a ≡ fragment_after fragment t b
unfolding fragment_after read_tracer
same-fragment fragment t (accepted m) (accepted m') h = ap (put_row fragment t.row_write_index) (unfold read_tracer in made_row_lem t m m' (cc))
same-fragment fragment t (accepted m) (refused n) h = cc
same-fragment fragment t (refused n) (accepted m) h = cc
same-fragment fragment t (refused n) (refused n') h = refl

-- THE TRACER

built-system : (s : SystemState) → built_system (read_system_state s) ≡ built_system s
unfolding built_system read_system_state
built-system s = rw (word-twice s.fn_hash)

top-reduced : (t : List ℕ) → read16 (reversed16 (reduced t)) ≡ read16 (reversed16 t)
unfolding cell_at
top-reduced t = simp (get_or-reduced t) (unfold cell_at in simp read_twice)

built-stack : (k : StackState) → built_stack (read_stack_state k) ≡ built_stack k
unfolding built_stack read_stack_state
built-stack k = rw (top-reduced k.stack_top, read_twice k.overflow_addr)

left-read : (u : Used) (c : Captured) → read_captured (left_after u (read_captured c)) ≡ read_captured (left_after u c)
unfolding left_after read_captured
left-read Used.Nothing c = rw (callee_twice c.dyn_callee_hash, info-twice c.ctx_info)
left-read Used.Condition c = rw (callee_twice c.dyn_callee_hash, info-twice c.ctx_info)
left-read Used.Callee c = rw (info-twice c.ctx_info)
left-read Used.CalleeAndInfo c = refl

-- reading a tracer twice is reading it once
pub tracer-twice : (t : CoreTraceGenerationTracer) → read_tracer (read_tracer t) ≡ read_tracer t
unfolding read_tracer
tracer-twice t = rw (captured-twice t.captured, read_is t.decoder_state, system-twice t.system_cols, stack-twice t.stack_cols)

-- the parts of rows that are the same once read
parts_same : (m m' : MadeRow) → read_made m ≡ read_made m' → (read_state m.state ≡ read_state m'.state) × (m.at ≡ m'.at) × (m.used ≡ m'.used)
unfolding read_made
parts_same m m' e = (ap (λ (x : MadeRow). x.state) e, ap (λ (x : MadeRow). x.at) e, ap (λ (x : MadeRow). x.used) e)

pub same-tracer : (system : SystemState) (stack : StackState) (t : CoreTraceGenerationTracer) (a b : Answer MadeRow) → Same a b →
    read_tracer (tracer_after (read_system_state system) (read_stack_state stack) (read_tracer t) a) ≡ read_tracer (tracer_after system stack t b)
unfolding tracer_after read_tracer
same-tracer system stack t (accepted m) (accepted m') h =
    let e : read_made m ≡ read_made m' = cc in
    let (s, at, u) = parts_same m m' e in
    rw (built-system system, built-stack stack, s, at, left-read m.used t.captured, u)
same-tracer system stack t (accepted m) (refused n) h = cc
same-tracer system stack t (refused n) (accepted m) h = cc
same-tracer system stack t (refused n) (refused n') h =
    let e : n ≡ n' = cc in
    rw (e, captured-twice t.captured, read_is t.decoder_state, system-twice t.system_cols, stack-twice t.stack_cols)

pub read-following : (a : Answer MadeRow) → following_of (read_answer read_made a) ≡ following_of a
unfolding read_made
read-following (accepted m) = refl
read-following (refused n) = refl

-- THE CALLS

module _ (p : Profile) (f : Forest) (q : Queues) (system : SystemState) (stack : StackState) (registers : OperationHelperRegisters) (fragment : List ℕ) (t : CoreTraceGenerationTracer) where
  -- what a cycle answers, and what it answers of the inputs read
  abbrev here : Answer MadeRow
  here = cycle p f q stack registers (length fragment) t

  abbrev of-read : Answer MadeRow
  of-read = cycle p (read_forest f) (read_queues q) (read_stack_state stack) (read_registers registers) (length fragment) (read_tracer t)

  pub cycle-number : refusal of-read ≡ refusal here
  cycle-number = same_number of-read here (cycle-reduced p f q stack registers (length fragment) t)

  pub cycle-row : fragment_after fragment (read_tracer t) of-read ≡ fragment_after fragment t here
  cycle-row = same-fragment fragment t of-read here (cycle-reduced p f q stack registers (length fragment) t)

  pub cycle-following : following_of of-read ≡ following_of here
  cycle-following = sym (read-following of-read) ∙ ap following_of (cycle-reduced p f q stack registers (length fragment) t) ∙ read-following here

  pub cycle-tracer : read_tracer (tracer_after (read_system_state system) (read_stack_state stack) (read_tracer t) of-read) ≡ read_tracer (tracer_after system stack t here)
  cycle-tracer = same-tracer system stack t of-read here (cycle-reduced p f q stack registers (length fragment) t)

-- a fresh tracer
pub fresh-reduced : (state : DecoderState) (at : Positions) → fresh (read_state state) at ≡ fresh state at
unfolding fresh
fresh-reduced state at = rw (read_is state)

stored-alike : (same : Bool) (t : CoreTraceGenerationTracer) (values : StoredValues) →
    read_tracer (pick same (storing_of (read_tracer t) (read_values values)) (read_tracer t)) ≡ read_tracer (pick same (storing_of t values) t)
unfolding read_tracer read_values
stored-alike true t values = rw (captured-twice values.captured, captured-twice values.captured, read_is t.decoder_state, system-twice t.system_cols, stack-twice t.stack_cols)
stored-alike false t values = rw (captured-twice t.captured, read_is t.decoder_state, system-twice t.system_cols, stack-twice t.stack_cols)

-- storing
pub storing-reduced : (t : CoreTraceGenerationTracer) (values : StoredValues) → read_tracer (stored_in (read_tracer t) (read_values values)) ≡ read_tracer (stored_in t values)
unfolding stored_in
storing-reduced t values = unfold read_tracer in stored-alike (eqb t.refusal 0) t values

-- the final state
pub final-reduced : (t : CoreTraceGenerationTracer) → final_state (read_tracer t) ≡ final_state t
unfolding final_state
final-reduced t =
    rw (last-system-read t, last-stack-read t, system-twice (last_system t), stack-twice (last_stack t)) (unfold read_tracer in refl)
