-- A replay that accepts is a fragment of a run: its answer and its cells are those of the calls of its records, and none of them is refused.
use mathlib.Core.Path.{◌≡◌, refl, sym, ◌∙◌, ap, ap₂}
use mathlib.Core.Bool.{Bool, true, false}
use mathlib.Core.List.{List, [], ◌∷◌, ◌++◌}
use Prim.Native.Nat.{ℕ, zero, suc, ◌/◌}
use native.Mathlib.Omega.{arith}
use borrow.Author.Tests.{eqb-true, eq-eqb, leb-false}
use lib.Dec.{eqb}
use lib.ListN.{length}
use Rattle.groups.specs.Answer.{Answer, accepted, refused, pick, refusal}
use Rattle.rows.specs.declared.records.profile.Profile.{Profile}
use Rattle.rows.specs.declared.records.state.SystemState.{SystemState}
use Rattle.rows.specs.declared.records.state.StackState.{StackState}
use Rattle.rows.specs.declared.records.continuation.StoredValues.{StoredValues}
use Rattle.rows.specs.declared.cycles.made.MadeRow.{MadeRow}
use Rattle.rows.specs.declared.replay.calls.Replayed.{Replayed}
use Rattle.rows.specs.declared.cycles.tracer.CoreTraceGenerationTracer.{CoreTraceGenerationTracer}
use Rattle.rows.specs.records.Forests.{Forest}
use Rattle.rows.specs.records.Addresses.{Queues}
use Rattle.rows.specs.declared.records.address_state.Cursor.{Cursor}
use Rattle.rows.specs.cycles.Made.{cursor}
use Rattle.rows.specs.cycles.Cycles.{fresh, storing_of, stored_in, keeping, tracer_after, fragment_after, final_state, for_passes}
use Rattle.rows.specs.records.CallRecords as records
use Rattle.rows.specs.replay.Calls.{directory_entry, forest_in, forest_of, Setting, scanned, refusing, told, next_state, next_positions}
use Rattle.rows.specs.records.CallRecords.{stores, finishes, call_in, record_at}
use Rattle.rows.specs.replay.SingleCalls.{single_done, single_written, singly_through, singly_written}
use Rattle.rows.proofs.replay.CallSteps.{told-number}
use Rattle.rows.proofs.replay.ReplaySingly.{replay-singly}
use Rattle.rows.proofs.passes.RowLists.{length-put}
use Rattle.theory_runs.proofs.HandedCounts.{fragment-count}
use Rattle.theory_runs.specs.Calls.{Call, store, finish, Held, after, call_refusal, after_all, Accepted, opened, closed, cursor_of, AllAccepted, final_states, cells_of, counts_of, built_cells}
use Rattle.theory_runs.proofs.Answers.{came}
use Rattle.theory_runs.proofs.Folded.{row-wide}
use Rattle.theory_read_back.specs.ReplayedRuns.{Lent, call_of, calls_of, fragment_of, fragments_of, told_of, left_in, next_cursor, AllReplayed, counts_replayed, built_replayed, cells_replayed}

-- KEPT NUMBERS

stays : (same : Bool) (t u : CoreTraceGenerationTracer) → eqb t.refusal 0 ≡ same → (pick same u t).refusal ≡ 0 → t.refusal ≡ 0
stays true t u h e = eqb-true t.refusal 0 h
stays false t u h e = e

stored-kept : (t : CoreTraceGenerationTracer) (values : StoredValues) → (stored_in t values).refusal ≡ 0 → t.refusal ≡ 0
unfolding stored_in
stored-kept t values = stays (eqb t.refusal 0) t (storing_of t values) refl

kept-number : (system : SystemState) (stack : StackState) (t : CoreTraceGenerationTracer) (a : Answer MadeRow) → (tracer_after system stack t a).refusal ≡ refusal a
unfolding tracer_after
kept-number system stack t (accepted m) = refl
kept-number system stack t (refused n) = refl

-- a record that encodes nothing changes nothing where no number is kept
refused-by : (same : Bool) (n : ℕ) (t : CoreTraceGenerationTracer) → eqb t.refusal 0 ≡ same → (pick same (keeping n t) t).refusal ≡ 0 → pick same (keeping n t) t ≡ t
refused-by true n t h e = ap (λ (x : ℕ). keeping x t) (e ∙ sym (eqb-true t.refusal 0 h))
refused-by false n t h e = refl

none_kept : (n : ℕ) (t : CoreTraceGenerationTracer) → (refusing n t).refusal ≡ 0 → refusing n t ≡ t
unfolding refusing
none_kept n t = refused-by (eqb t.refusal 0) n t refl

module _ (p : Profile) (q : Queues) where
  number-after : (z : Held) (c : Call) → (after p q z c).tracer.refusal ≡ 0 → call_refusal p q z c ≡ 0
  unfolding after call_refusal
  number-after z (store values) e = stored-kept z.tracer values e
  number-after z (finish i) e = sym (kept-number i.system i.stack z.tracer _) ∙ e

  kept-before : (z : Held) (c : Call) → call_refusal p q z c ≡ 0 → z.tracer.refusal ≡ 0
  unfolding call_refusal
  kept-before z (store values) e = e
  kept-before z (finish i) e = (came p i.forest q i.stack i.registers (length z.cells) z.tracer e).1.kept

  kept-first : (calls : List Call) (z : Held) → (after_all p q calls z).tracer.refusal ≡ 0 → z.tracer.refusal ≡ 0
  unfolding after_all
  kept-first [] z e = e
  kept-first (c ∷ calls) z e = kept-before z c (number-after z c (kept-first calls (after p q z c) e))

  final-number : (t : CoreTraceGenerationTracer) → (final_state t).refusal ≡ t.refusal
  unfolding told
  final-number t = told-number t

  -- where no number is kept at the end, no call was refused
  pub none_refused : (calls : List Call) (z : Held) → (after_all p q calls z).tracer.refusal ≡ 0 → Accepted p q calls z
  unfolding after_all Accepted
  none_refused [] z e = final-number z.tracer ∙ e
  none_refused (c ∷ calls) z e = (number-after z c (kept-first calls (after p q z c) e), none_refused calls (after p q z c) e)

  after-append : (l m : List Call) (z : Held) → after_all p q (l ++ m) z ≡ after_all p q m (after_all p q l z)
  unfolding after_all
  after-append [] m z = refl
  after-append (c ∷ l) m z = after-append l m (after p q z c)

-- THE RECORDS, ONE BY ONE

abbrev held : CoreTraceGenerationTracer → List ℕ → Held
held t cells = record { tracer = t; cells = cells }

module _ (p : Profile) (f : Forest) (directory : List ℕ) (q : Queues) (size : ℕ) where
  abbrev s : Setting
  s = scanned p f directory q size

  pub single-before : (t : CoreTraceGenerationTracer) (a : Answer records.RecordedCall) → (single_done s t a).refusal ≡ 0 → t.refusal ≡ 0
  unfolding scanned single_done forest_of
  single-before t (refused n) e = rw (none_kept n t e) at e
  single-before t (accepted (stores values)) e = stored-kept t values e
  single-before t (accepted (finishes k system stack registers)) e =
      (came p (forest_in f (directory_entry directory k)) q stack registers size t (sym (kept-number system stack t _) ∙ e)).1.kept

  -- the cells of a fragment stay as many
  single-length : (t : CoreTraceGenerationTracer) (a : Answer records.RecordedCall) (cells : List ℕ) → length cells ≡ size → (single_done s t a).refusal ≡ 0 → length (single_written s t a cells) ≡ size
  unfolding scanned single_done single_written forest_of fragment_after
  single-length t (refused n) cells long e = long
  single-length t (accepted (stores values)) cells long e = long
  single-length t (accepted (finishes k system stack registers)) cells long e =
      let (m, c) = came p (forest_in f (directory_entry directory k)) q stack registers size t (sym (kept-number system stack t _) ∙ e) in
      rw c.answer (length-put cells t.row_write_index _ (row-wide t m) (omega (arith, leb-false (size / 49) t.row_write_index c.room)) ∙ long)

  -- tracer and fragment after the call of a record
  single-held : (t : CoreTraceGenerationTracer) (a : Answer records.RecordedCall) (cells : List ℕ) → length cells ≡ size → (single_done s t a).refusal ≡ 0 →
      after_all p q (call_of f directory a) (held t cells) ≡ held (single_done s t a) (single_written s t a cells)
  unfolding call_of after_all after scanned single_done single_written forest_of
  single-held t (refused n) cells long e = ap (λ (x : CoreTraceGenerationTracer). held x cells) (sym (none_kept n t e))
  single-held t (accepted (stores values)) cells long e = refl
  single-held t (accepted (finishes k system stack registers)) cells long e = rw long

  module _ (numbers : List ℕ) (t : CoreTraceGenerationTracer) (cells : List ℕ) (long : length cells ≡ size) where
    -- tracer and fragment after the first n records
    singly-held : (n : ℕ) → (singly_through s numbers t n).refusal ≡ 0 →
        (after_all p q (calls_of f directory numbers n) (held t cells) ≡ held (singly_through s numbers t n) (singly_written s numbers t cells n))
        × (length (singly_written s numbers t cells n) ≡ size)
    unfolding calls_of after_all singly_through singly_written
    singly-held zero e = (refl, long)
    singly-held (suc k) e =
        let a = call_in (record_at numbers k) in
        let u = singly_through s numbers t k in
        let v = singly_written s numbers t cells k in
        let (same, long') = singly-held k (single-before u a e) in (
          after-append p q (calls_of f directory numbers k) (call_of f directory a) (held t cells) ∙ ap (after_all p q (call_of f directory a)) same
              ∙ single-held u a v long' e,
          single-length u a v long' e,
        )

-- A FRAGMENT

told-state : (t : CoreTraceGenerationTracer) → t.refusal ≡ 0 → cursor (told t).state (told t).at ≡ cursor t.decoder_state t.at
unfolding told next_state next_positions
told-state t e = rw (eq-eqb t.refusal 0 e)

module _ (p : Profile) (f : Forest) (directory : List ℕ) (q : Queues) (here : Cursor) (l : Lent) (e : (told_of p f directory q here l).refusal ≡ 0) where
  abbrev end : Held
  end = closed p q here (fragment_of f directory l)

  -- what is answered and what is written, by what the calls of the records leave
  record AsCalls : Type 0 where
    answer_is : told_of p f directory q here l ≡ told end.tracer
    cells_are : left_in p f directory q here l ≡ end.cells
    kept : end.tracer.refusal ≡ 0

  -- no number is kept after the calls of the records made one by one
  pub singly-kept : (singly_through (scanned p f directory q (length l.cells)) l.numbers (fresh here.state here.at) (length l.numbers / 32)).refusal ≡ 0
  singly-kept =
      let size = length l.cells in
      let u = singly_through (scanned p f directory q size) l.numbers (fresh here.state here.at) (length l.numbers / 32) in
      let answered = (replay-singly p f directory q size here.state here.at l.numbers e).0 in
      sym (told-number u) ∙ ap (λ (x : Replayed). x.refusal) (sym answered) ∙ e

  as-calls : AsCalls
  as-calls =
      let size = length l.cells in
      let t = fresh here.state here.at in
      let n = length l.numbers / 32 in
      let u = singly_through (scanned p f directory q size) l.numbers t n in
      let (answered, wrote) = replay-singly p f directory q size here.state here.at l.numbers e in
      let same : end ≡ held u (singly_written (scanned p f directory q size) l.numbers t l.cells n) = (singly-held p f directory q size l.numbers t l.cells refl n singly-kept).0 in
      record {
        answer_is = rw same answered;
        cells_are = rw same (wrote l.cells);
        kept = rw same singly-kept;
      }

  pub fragment-accepted : Accepted p q (fragment_of f directory l).calls (opened p q here (fragment_of f directory l))
  fragment-accepted = none_refused p q (fragment_of f directory l).calls (opened p q here (fragment_of f directory l)) as-calls.kept

  pub fragment-place : next_cursor p f directory q here l ≡ cursor_of p q end
  fragment-place = rw as-calls.answer_is (told-state end.tracer as-calls.kept)

  fragment-counted : (told_of p f directory q here l).rows ≡ (for_passes (final_state end.tracer)).count
  unfolding told
  fragment-counted = ap (λ (x : Replayed). x.rows) as-calls.answer_is

  pub fragment-rows : (told_of p f directory q here l).rows ≡ (final_state end.tracer).num_rows_written
  fragment-rows = fragment-counted ∙ fragment-count p q here (fragment_of f directory l)

  pub fragment-built : (told_of p f directory q here l).built ≡ (for_passes (final_state end.tracer)).built
  unfolding told
  fragment-built = ap (λ (x : Replayed). x.built) as-calls.answer_is

  pub fragment-cells : left_in p f directory q here l ≡ end.cells
  fragment-cells = as-calls.cells_are

-- ALL FRAGMENTS

module _ (p : Profile) (f : Forest) (directory : List ℕ) (q : Queues) where
  -- no call of the records was refused
  pub replayed-accepted : (lents : List Lent) (here : Cursor) → AllReplayed p f directory q lents here → AllAccepted p q (fragments_of f directory lents) here
  unfolding AllReplayed fragments_of AllAccepted
  replayed-accepted [] here h = tt
  replayed-accepted (l ∷ lents) here h = (
    fragment-accepted p f directory q here l h.0,
    rw (fragment-place p f directory q here l h.0) at (replayed-accepted lents (next_cursor p f directory q here l) h.1),
  )

  -- the counts, built cells and fragments of the replays are those of the calls
  pub replayed-counts : (lents : List Lent) (here : Cursor) → AllReplayed p f directory q lents here → counts_replayed p f directory q lents here ≡ counts_of (final_states p q (fragments_of f directory lents) here)
  unfolding AllReplayed fragments_of counts_replayed final_states counts_of
  replayed-counts [] here h = refl
  replayed-counts (l ∷ lents) here h =
      ap₂ ◌∷◌ (fragment-counted p f directory q here l h.0)
      (replayed-counts lents (next_cursor p f directory q here l) h.1 ∙ ap (λ (x : Cursor). counts_of (final_states p q (fragments_of f directory lents) x)) (fragment-place p f directory q here l h.0))

  pub replayed-built : (lents : List Lent) (here : Cursor) → AllReplayed p f directory q lents here → built_replayed p f directory q lents here ≡ built_cells (final_states p q (fragments_of f directory lents) here)
  unfolding AllReplayed fragments_of built_replayed final_states built_cells
  replayed-built [] here h = refl
  replayed-built (l ∷ lents) here h =
      ap₂ ◌++◌ (fragment-built p f directory q here l h.0)
      (replayed-built lents (next_cursor p f directory q here l) h.1 ∙ ap (λ (x : Cursor). built_cells (final_states p q (fragments_of f directory lents) x)) (fragment-place p f directory q here l h.0))

  pub replayed-cells : (lents : List Lent) (here : Cursor) → AllReplayed p f directory q lents here → cells_replayed p f directory q lents here ≡ cells_of p q (fragments_of f directory lents) here
  unfolding AllReplayed fragments_of cells_replayed cells_of
  replayed-cells [] here h = refl
  replayed-cells (l ∷ lents) here h =
      ap₂ ◌++◌ (fragment-cells p f directory q here l h.0)
      (replayed-cells lents (next_cursor p f directory q here l) h.1 ∙ ap (λ (x : Cursor). cells_of p q (fragments_of f directory lents) x) (fragment-place p f directory q here l h.0))
