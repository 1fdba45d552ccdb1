-- A replay that accepts is its calls made one by one, each finish with its own forest's part scanned; one that refuses changes nothing.
use mathlib.Core.Path.{◌≡◌, refl, sym, ◌∙◌, ap}
use mathlib.Core.Bool.{Bool, true, false, not, ◌||◌}
use mathlib.Core.List.{List}
use Prim.Native.Nat.{ℕ, zero, suc, ◌/◌, ◌%◌}
use native.Mathlib.Omega.{arith}
use borrow.Author.Tests.{eqb-true, eq-eqb, ne_eqb}
use lib.Dec.{leb, ltb, eqb}
use lib.ListN.{length}
use Rattle.groups.specs.Answer.{Answer, accepted, refused, and_then, pick, refusal}
use Rattle.groups.specs.declared.helpers.OperationHelperRegisters.{OperationHelperRegisters}
use Rattle.rows.specs.declared.records.profile.Profile.{Profile}
use Rattle.rows.specs.declared.records.address_state.DecoderState.{DecoderState}
use Rattle.rows.specs.declared.records.address_state.Positions.{Positions}
use Rattle.rows.specs.declared.records.state.SystemState.{SystemState}
use Rattle.rows.specs.declared.records.state.StackState.{StackState}
use Rattle.rows.specs.declared.records.continuation.Continuation.{Continuation}
use Rattle.rows.specs.declared.cycles.made.MadeRow.{MadeRow}
use Rattle.rows.specs.declared.cycles.tracer.CoreTraceGenerationTracer.{CoreTraceGenerationTracer}
use Rattle.rows.specs.records.Forests.{Forest}
use Rattle.rows.specs.records.Addresses.{Queues}
use Rattle.rows.specs.records.Profiles.{profile_wrong}
use Rattle.rows.specs.cycles.Made.{cursor, made}
use Rattle.rows.specs.cycles.Scans.{any_big_opcode, forest_too_large, scan_of}
use Rattle.rows.specs.records.Cells.{fragment_wrong}
use Rattle.rows.specs.cycles.Cycles.{fresh, storing_of, stored_in, continuation_of, refuse_if, cycle_with, cycle, keeping, tracer_after, fragment_after}
use Rattle.rows.specs.replay.Calls.{Setting, directory_entry, forest_in, forest_of, refusing, call_done, call_written, through, written, ending, told, scanned, replayed, replayed_fragment}
use Rattle.rows.specs.records.CallRecords.{RecordedCall, stores, finishes, call_in, record_at}
use Rattle.rows.specs.replay.SingleCalls.{single_done, single_written, singly_through, singly_written}
use Rattle.rows.proofs.replay.CallSteps.{told-number}
use Rattle.rows.proofs.cycles.PartScans.{never, part-big, part-too-large}

-- THE CHECKS OF A FINISH

-- the scan's answers (`big`, `large`) among the checks of a finish
abbrev checks : (kept : Bool) (n : ℕ) → Answer Continuation → (big wrong large length : Bool) → (Continuation → Answer MadeRow) → Answer MadeRow
checks kept n found big wrong large length rest =
    refuse_if kept n (and_then found (λ continuation.
    refuse_if big 1 (refuse_if wrong 2 (refuse_if (large || length) 11 (rest continuation)))))

-- where nothing is refused, a scan that finds less answers the same
same-checks : (kept : Bool) (n : ℕ) (found : Answer Continuation) (big big' wrong large large' length : Bool) (rest : Continuation → Answer MadeRow) → (big' ≡ true → big ≡ true) → (large' ≡ true → large ≡ true) → refusal (checks kept n found big wrong large length rest) ≡ 0 → checks kept n found big wrong large length rest ≡ checks kept n found big' wrong large' length rest
same-checks true n found big big' wrong large large' length rest f g e = refl
same-checks false n (refused m) big big' wrong large large' length rest f g e = refl
same-checks false n (accepted x) true big' wrong large large' length rest f g e = absurd (omega arith)
same-checks false n (accepted x) false true wrong large large' length rest f g e = never (f refl)
same-checks false n (accepted x) false false true large large' length rest f g e = refl
same-checks false n (accepted x) false false false true large' length rest f g e = absurd (omega arith)
same-checks false n (accepted x) false false false false true length rest f g e = never (g refl)
same-checks false n (accepted x) false false false false false length rest f g e = refl

-- the number that a finish keeps
kept-number : (system : SystemState) (stack : StackState) (t : CoreTraceGenerationTracer) (a : Answer MadeRow) → (tracer_after system stack t a).refusal ≡ refusal a
unfolding tracer_after
kept-number system stack t (accepted m) = refl
kept-number system stack t (refused n) = refl

-- a number that was kept before is kept
number-stays : (same : Bool) (t u : CoreTraceGenerationTracer) → eqb t.refusal 0 ≡ same → (pick same u t).refusal ≡ 0 → t.refusal ≡ 0
number-stays true t u p e = eqb-true t.refusal 0 p
number-stays false t u p e = e

module _ (p : Profile) (f : Forest) (directory : List ℕ) (q : Queues) (cells : ℕ) where
  abbrev s : Setting
  s = scanned p f directory q cells

  -- a finish in a forest of the directory
  module _ (k : ℕ) (system : SystemState) (stack : StackState) (registers : OperationHelperRegisters) (t : CoreTraceGenerationTracer) where
    abbrev finish : Answer MadeRow
    finish = cycle_with s.scan p (forest_of s k) q stack registers cells t

    abbrev rest : Continuation → Answer MadeRow
    rest continuation =
        refuse_if (ltb stack.stack_depth 16) 10
        (and_then (made (forest_of s k) q p registers continuation t.is_loop_body t.captured (cursor t.decoder_state t.at)) (λ row.
        refuse_if (leb (cells / 49) t.row_write_index) 24
        (accepted row)))

    same-cycle : refusal finish ≡ 0 → finish ≡ cycle p (forest_of s k) q stack registers cells t
    unfolding scanned cycle_with cycle scan_of forest_of
    same-cycle =
        let w = directory_entry directory k in
        same-checks (not (eqb t.refusal 0)) t.refusal (continuation_of t.continuation)
        (any_big_opcode f.ops) (any_big_opcode (forest_in f w).ops) (profile_wrong p)
        (forest_too_large f.nodes f.batches) (forest_too_large (forest_in f w).nodes (forest_in f w).batches) (fragment_wrong cells t.row_write_index) rest
        (part-big f w) (part-too-large f w)

    kept-first : (same : Bool) → eqb t.refusal 0 ≡ same → refusal finish ≡ 0 → t.refusal ≡ 0
    unfolding cycle_with
    kept-first true h e = eqb-true t.refusal 0 h
    kept-first false h e = rw h at e

  before : (t : CoreTraceGenerationTracer) (a : Answer RecordedCall) → (call_done s t a).refusal ≡ 0 → t.refusal ≡ 0
  unfolding scanned call_done refusing stored_in
  before t (refused n) e = number-stays (eqb t.refusal 0) t (keeping n t) refl e
  before t (accepted (stores values)) e = number-stays (eqb t.refusal 0) t (storing_of t values) refl e
  before t (accepted (finishes k system stack registers)) e =
      kept-first k system stack registers t (eqb t.refusal 0) refl (sym (kept-number system stack t (finish k system stack registers t)) ∙ e)

  call-singly : (t : CoreTraceGenerationTracer) (a : Answer RecordedCall) → (call_done s t a).refusal ≡ 0 → (call_done s t a ≡ single_done s t a) × ((fragment : List ℕ) → call_written s t a fragment ≡ single_written s t a fragment)
  unfolding scanned call_done call_written single_done single_written
  call-singly t (refused n) e = (refl, λ fragment. refl)
  call-singly t (accepted (stores values)) e = (refl, λ fragment. refl)
  call-singly t (accepted (finishes k system stack registers)) e =
      let same = same-cycle k system stack registers t (sym (kept-number system stack t (finish k system stack registers t)) ∙ e) in
      (ap (tracer_after system stack t) same, λ fragment. ap (fragment_after fragment t) same)

  -- ALL CALLS

  step_through : (t u : CoreTraceGenerationTracer) (a : Answer RecordedCall) → t ≡ u → (call_done s t a).refusal ≡ 0 → call_done s t a ≡ single_done s u a
  step_through t u a same e = (call-singly t a e).0 ∙ ap (λ (x : CoreTraceGenerationTracer). single_done s x a) same

  step-written : (t u : CoreTraceGenerationTracer) (a : Answer RecordedCall) (fragment fragment' : List ℕ) → t ≡ u → fragment ≡ fragment' → (call_done s t a).refusal ≡ 0 → call_written s t a fragment ≡ single_written s u a fragment'
  step-written t u a fragment fragment' same same' e =
      (call-singly t a e).1 fragment ∙ ap (λ (x : CoreTraceGenerationTracer). single_written s x a fragment) same ∙ ap (single_written s u a) same'

  singly-through : (records : List ℕ) (t : CoreTraceGenerationTracer) (n : ℕ) → (through s records t n).refusal ≡ 0 → through s records t n ≡ singly_through s records t n
  unfolding through singly_through
  singly-through records t zero e = refl
  singly-through records t (suc k) e =
      step_through (through s records t k) (singly_through s records t k) (call_in (record_at records k))
      (singly-through records t k (before (through s records t k) (call_in (record_at records k)) e)) e

  singly-written : (records : List ℕ) (t : CoreTraceGenerationTracer) (fragment : List ℕ) (n : ℕ) → (through s records t n).refusal ≡ 0 → written s records t fragment n ≡ singly_written s records t fragment n
  unfolding through written singly_written
  singly-written records t fragment zero e = refl
  singly-written records t fragment (suc k) e =
      let h = before (through s records t k) (call_in (record_at records k)) e in
      step-written (through s records t k) (singly_through s records t k) (call_in (record_at records k)) (written s records t fragment k) (singly_written s records t fragment k)
      (singly-through records t k h) (singly-written records t fragment k h) e

ended-zero : (whole kept : Bool) (t : CoreTraceGenerationTracer) → (pick whole t (pick kept (keeping 11 t) t)).refusal ≡ 0 → pick whole t (pick kept (keeping 11 t) t) ≡ t
ended-zero true kept t e = refl
ended-zero false true t e = absurd (omega arith)
ended-zero false false t e = refl

ending-zero : (numbers : ℕ) (t : CoreTraceGenerationTracer) → (ending numbers t).refusal ≡ 0 → ending numbers t ≡ t
unfolding ending refusing
ending-zero numbers t = ended-zero (eqb (numbers % 32) 0) (eqb t.refusal 0) t

-- THE REPLAY

-- where a replay accepts, its answer and the fragment are those of the calls made one by one
pub replay-singly : (p : Profile) (f : Forest) (directory : List ℕ) (q : Queues) (cells : ℕ) (state : DecoderState) (at : Positions) (records : List ℕ) → (replayed (scanned p f directory q cells) state at records).refusal ≡ 0 → (replayed (scanned p f directory q cells) state at records ≡ told (singly_through (scanned p f directory q cells) records (fresh state at) (length records / 32))) × ((fragment : List ℕ) → replayed_fragment (scanned p f directory q cells) state at records fragment ≡ singly_written (scanned p f directory q cells) records (fresh state at) fragment (length records / 32))
unfolding replayed replayed_fragment
replay-singly p f directory q cells state at records e =
    let t = through (scanned p f directory q cells) records (fresh state at) (length records / 32) in
    let zero : (ending (length records) t).refusal ≡ 0 = sym (told-number (ending (length records) t)) ∙ e in
    let whole = ending-zero (length records) t zero in
    let none : t.refusal ≡ 0 = rw whole at zero in (
      ap told (whole ∙ singly-through p f directory q cells records (fresh state at) (length records / 32) none),
      λ fragment. rw (eq-eqb _ _ e) (singly-written p f directory q cells records (fresh state at) fragment (length records / 32) none),
    )

-- where it refuses, the fragment is as it was
pub refused-whole : (s : Setting) (state : DecoderState) (at : Positions) (records fragment : List ℕ) → ((replayed s state at records).refusal ≡ 0 → ⊥) → replayed_fragment s state at records fragment ≡ fragment
unfolding replayed_fragment
refused-whole s state at records fragment h = rw (ne_eqb _ _ h)
