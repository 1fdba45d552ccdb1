-- The rows that calls write are at most 2^24: a fragment of more is refused (11), and so is a row past its end (24). So their count fits 32
-- bits, and what `for_passes` hands over is the count itself.
use mathlib.Core.Path.{◌≡◌, refl}
use mathlib.Core.Bool.{Bool, true, false, not, ◌||◌}
use Prim.Native.Nat.{ℕ, ◌/◌, ◌%◌, ◌≤◌, ◌<◌}
use native.Mathlib.Omega.{arith}
use borrow.Author.Tests.{ltb-false, leb-false, lt-leb}
use lib.Dec.{leb, ltb, eqb}
use Rattle.groups.specs.Answer.{Answer, accepted, refused, and_then, pick}
use Rattle.groups.specs.declared.helpers.OperationHelperRegisters.{OperationHelperRegisters}
use Rattle.rows.specs.declared.records.profile.Profile.{Profile}
use Rattle.rows.specs.declared.records.state.SystemState.{SystemState}
use Rattle.rows.specs.declared.records.state.StackState.{StackState}
use Rattle.rows.specs.declared.records.continuation.StoredValues.{StoredValues}
use Rattle.rows.specs.declared.cycles.made.MadeRow.{MadeRow}
use Rattle.rows.specs.declared.cycles.scan.Scan.{Scan}
use Rattle.rows.specs.declared.cycles.tracer.CoreTraceGenerationTracer.{CoreTraceGenerationTracer}
use Rattle.rows.specs.declared.cycles.tracer.TracerFinalState.{TracerFinalState}
use Rattle.rows.specs.records.Forests.{Forest}
use Rattle.rows.specs.records.Addresses.{Queues}
use Rattle.rows.specs.records.Built.{no_system, no_stack, read_system, read_stack}
use Rattle.rows.specs.records.Cells.{fragment_wrong}
use Rattle.rows.specs.cycles.Scans.{scan_of}
use Rattle.rows.specs.cycles.Made.{cursor, made}
use Rattle.rows.specs.cycles.Cycles.{storing_of, stored_in, continuation_of, refuse_if, cycle_with, cycle, tracer_after, last_system, last_stack, final_state, for_passes}
use Rattle.rows.proofs.passes.Checks.{neither}

-- a fragment has at most 2^24 rows
abbrev pub FewRows : CoreTraceGenerationTracer → Type 0
FewRows t = t.row_write_index ≤ 16777216

-- ONE CYCLE

-- where a row is made, one more may be written
abbrev Room : (rows : ℕ) → Answer MadeRow → Type 0
Room rows (accepted m) = rows < 16777216
Room rows (refused n) = Unit {0}

room-if : (rows : ℕ) (test : Bool) (n : ℕ) (rest : Answer MadeRow) → (test ≡ false → Room rows rest) → Room rows (refuse_if test n rest)
room-if rows true n rest h = tt
room-if rows false n rest h = h refl

room-then : {A : Type 0} (rows : ℕ) (found : Answer A) (next : A → Answer MadeRow) → ((a : A) → Room rows (next a)) → Room rows (and_then found next)
room-then rows (accepted a) next h = h a
room-then rows (refused n) next h = tt

pub in-fragment : (large : Bool) (cells rows : ℕ) → (large || fragment_wrong cells rows) ≡ false → leb (cells / 49) rows ≡ false → rows < 16777216
unfolding fragment_wrong
in-fragment large cells rows e h =
    let lengths = (neither large _ e).1 in
    let most = (neither (ltb 16777216 (cells / 49)) _ (neither (ltb 0 (cells % 49)) _ lengths).1).0 in
    omega (arith, ltb-false 16777216 (cells / 49) most, leb-false (cells / 49) rows h)

room-left : (scan : Scan) (p : Profile) (f : Forest) (q : Queues) (stack : StackState) (registers : OperationHelperRegisters) (cells : ℕ) (t : CoreTraceGenerationTracer) →
    Room t.row_write_index (cycle_with scan p f q stack registers cells t)
unfolding cycle_with
room-left scan p f q stack registers cells t =
    let n : ℕ = t.row_write_index in
    room-if n (not (eqb t.refusal 0)) t.refusal _ (λ _. room-then n (continuation_of t.continuation) _ (λ c.
    room-if n scan.big 1 _ (λ _. room-if n scan.profile_wrong 2 _ (λ _.
    room-if n (scan.too_large || fragment_wrong cells n) 11 _ (λ e.
    room-if n (ltb stack.stack_depth 16) 10 _ (λ _.
    room-then n (made f q p registers c t.is_loop_body t.captured (cursor t.decoder_state t.at)) _ (λ m.
    room-if n (leb (cells / 49) n) 24 (accepted m) (λ h. in-fragment scan.too_large cells n e h))))))))

after-few : (system : SystemState) (stack : StackState) (t : CoreTraceGenerationTracer) (a : Answer MadeRow) → Room t.row_write_index a → FewRows t → FewRows (tracer_after system stack t a)
unfolding tracer_after
after-few system stack t (accepted m) room few = omega arith
after-few system stack t (refused n) room few = few

-- after an accepted cycle, whatever the tracer held
pub accepted-few : (p : Profile) (f : Forest) (q : Queues) (system : SystemState) (stack : StackState) (registers : OperationHelperRegisters) (cells : ℕ) (t : CoreTraceGenerationTracer) (m : MadeRow) →
    cycle p f q stack registers cells t ≡ accepted m → FewRows (tracer_after system stack t (cycle p f q stack registers cells t))
unfolding cycle tracer_after
accepted-few p f q system stack registers cells t m e =
    let room : t.row_write_index < 16777216 = rw e at (room-left (scan_of p f.nodes f.batches f.ops) p f q stack registers cells t) in
    rw e (omega arith)

-- after a cycle, accepted or not, where it was so before
pub cycle-with-few : (scan : Scan) (p : Profile) (f : Forest) (q : Queues) (system : SystemState) (stack : StackState) (registers : OperationHelperRegisters) (cells : ℕ) (t : CoreTraceGenerationTracer) →
    FewRows t → FewRows (tracer_after system stack t (cycle_with scan p f q stack registers cells t))
cycle-with-few scan p f q system stack registers cells t few = after-few system stack t _ (room-left scan p f q stack registers cells t) few

pub cycle-few : (p : Profile) (f : Forest) (q : Queues) (system : SystemState) (stack : StackState) (registers : OperationHelperRegisters) (cells : ℕ) (t : CoreTraceGenerationTracer) →
    FewRows t → FewRows (tracer_after system stack t (cycle p f q stack registers cells t))
unfolding cycle
cycle-few p f q system stack registers cells t few = cycle-with-few (scan_of p f.nodes f.batches f.ops) p f q system stack registers cells t few

-- A STORING

stored-few : (t : CoreTraceGenerationTracer) (values : StoredValues) (same : Bool) → FewRows t → FewRows (pick same (storing_of t values) t)
stored-few t values true few = few
stored-few t values false few = few

pub storing-few : (t : CoreTraceGenerationTracer) (values : StoredValues) → FewRows t → FewRows (stored_in t values)
unfolding stored_in
storing-few t values few = stored-few t values (eqb t.refusal 0) few

-- THE FINAL STATE

final-few : (t : CoreTraceGenerationTracer) (same : Bool) → FewRows t → (pick {A = TracerFinalState} same
    (record { refusal = 0; last_system_cols = read_system (last_system t); last_stack_cols = read_stack (last_stack t); num_rows_written = t.row_write_index })
    (record { refusal = t.refusal; last_system_cols = no_system; last_stack_cols = no_stack; num_rows_written = 0 })).num_rows_written ≤ 16777216
final-few t true few = few
final-few t false few = omega arith

-- what is handed over is the count itself
pub count-handed : (t : CoreTraceGenerationTracer) → FewRows t → (for_passes (final_state t)).count ≡ (final_state t).num_rows_written
unfolding for_passes final_state
count-handed t few = let h = final-few t (eqb t.refusal 0) few in omega arith

-- what is not too large has its row in the fragment, and that is one of 2^24
pub within_limits : (large : Bool) (cells rows : ℕ) → (large || fragment_wrong cells rows) ≡ false → rows < cells / 49 → (large ≡ false) × (rows < 16777216)
within_limits large cells rows e h = ((neither large _ e).0, in-fragment large cells rows e (lt-leb _ _ h))
