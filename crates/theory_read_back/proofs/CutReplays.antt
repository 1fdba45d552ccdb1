-- Change request N11 over replay: records that are cut by a size are their calls, cut by that size, and the same is written.
use mathlib.Core.Path.{◌≡◌, ◌∙◌, refl, sym, ap, ap₂}
use mathlib.Core.List.{List, [], ◌∷◌, ◌++◌, append_assoc, append-nil}
use Prim.Native.Nat.{ℕ, zero, suc, ◌+◌, ◌*◌, ◌/◌, ◌≤◌}
use native.Mathlib.Omega.{arith}
use lib.ListN.{length, take, drop, length-append, length-drop}
use lib.Seq.{take-append-le, drop-append-le, drop-append-add}
use Rattle.rows.specs.declared.records.profile.Profile.{Profile}
use Rattle.rows.specs.records.Forests.{Forest}
use Rattle.rows.specs.records.Addresses.{Queues}
use Rattle.rows.specs.records.CallRecords.{call_in, record_at}
use Rattle.rows.specs.declared.records.address_state.Cursor.{Cursor}
use Rattle.theory_runs.specs.SameCalls.{all_calls, Cut}
use Rattle.theory_runs.specs.Finished.{WrittenOf}
use Rattle.theory_runs.proofs.AnySize.{runs-cut}
use Rattle.theory_read_back.specs.ReplayedRuns.{Lent, all_numbers, call_of, calls_of, recorded_calls, fragments_of, next_cursor, AllReplayed, ReplayedRuns, records_nesting, ReplayCut, ReplayWrittenOf}
use Rattle.theory_read_back.proofs.RecordsAreCalls.{records-are-calls}
use Rattle.theory_read_back.proofs.ReplayedCalls.{replayed-accepted, replayed-counts, replayed-built, replayed-cells}
use Rattle.theory_read_back.proofs.Replays.{run-of-records}

-- RECORDS ONE AFTER ANOTHER

record-first : (a b : List ℕ) (k : ℕ) → 32 * k + 32 ≤ length a → record_at (a ++ b) k ≡ record_at a k
unfolding record_at
record-first a b k h =
    ap (take 32) (drop-append-le (32 * k) a b (omega arith)) ∙ take-append-le 32 (drop (32 * k) a) b (omega (arith, length-drop (32 * k) a))

record-behind : (a b : List ℕ) (n k : ℕ) → length a ≡ 32 * n → record_at (a ++ b) (n + k) ≡ record_at b k
unfolding record_at
record-behind a b n k h =
    let e : 32 * (n + k) ≡ length a + 32 * k = omega arith in
    ap (take 32) (ap (λ (i : ℕ). drop i (a ++ b)) e ∙ drop-append-add a b (32 * k))

module _ (f : Forest) (directory : List ℕ) where
  calls-first : (a b : List ℕ) (n : ℕ) → 32 * n ≤ length a → calls_of f directory (a ++ b) n ≡ calls_of f directory a n
  unfolding calls_of
  calls-first a b zero h = refl
  calls-first a b (suc k) h =
      ap₂ (λ x y. x ++ call_of f directory (call_in y)) (calls-first a b k (omega arith)) (record-first a b k (omega arith))

  calls-app : (a b : List ℕ) (n m : ℕ) → length a ≡ 32 * n → calls_of f directory (a ++ b) (n + m) ≡ calls_of f directory a n ++ calls_of f directory b m
  unfolding calls_of
  calls-app a b n zero h =
      let e : n + zero ≡ n = omega arith in
      ap (calls_of f directory (a ++ b)) e ∙ calls-first a b n (omega arith) ∙ sym (append-nil (calls_of f directory a n))
  calls-app a b n (suc k) h =
      let e : n + suc k ≡ suc (n + k) = omega arith in
      ap (calls_of f directory (a ++ b)) e
      ∙ ap₂ (λ x y. x ++ call_of f directory (call_in y)) (calls-app a b n k h) (record-behind a b n k h)
      ∙ append_assoc (calls_of f directory a n) (calls_of f directory b k) (call_of f directory (call_in (record_at b k)))

-- THE CALLS OF ALL RECORDS

module _ (p : Profile) (f : Forest) (directory : List ℕ) (q : Queues) where
  -- no cut stands inside a record, since a part of a record is refused
  records-calls : (lents : List Lent) (here : Cursor) → AllReplayed p f directory q lents here → all_calls (fragments_of f directory lents) ≡ recorded_calls f directory (all_numbers lents)
  unfolding AllReplayed fragments_of all_calls all_numbers
  records-calls [] here h = unfold calls_of in refl
  records-calls (l ∷ lents) here h =
      let a : List ℕ = l.numbers in
      let b : List ℕ = all_numbers lents in
      let whole = (records-are-calls p f directory q here l h.0).0 in
      let n : length a ≡ 32 * (length a / 32) = omega arith in
      let e : length (a ++ b) / 32 ≡ length a / 32 + length b / 32 = omega (arith, length-append a b) in
      ap (λ y. calls_of f directory a (length a / 32) ++ y) (records-calls lents (next_cursor p f directory q here l) h.1)
      ∙ sym (calls-app f directory a b (length a / 32) (length b / 32) n) ∙ ap (calls_of f directory (a ++ b)) (sym e)

  module _ (size : ℕ) (lents : List Lent) (here : Cursor) where
    pub records-cut : (numbers : List ℕ) → ReplayCut p f directory q numbers size lents here → Cut p q (recorded_calls f directory numbers) size (fragments_of f directory lents) here
    records-cut numbers cut = record {
      calls_are = records-calls lents here cut.replays ∙ ap (recorded_calls f directory) cut.records_are;
      accepted = replayed-accepted p f directory q lents here cut.replays;
      one_size = rw (replayed-counts p f directory q lents here cut.replays) at cut.one_size;
    }

    pub records-written : AllReplayed p f directory q lents here → (top : List ℕ) (height : ℕ) (cells : List ℕ) →
        ReplayWrittenOf p f directory q size lents here top height cells → WrittenOf p q size (fragments_of f directory lents) here top height cells
    records-written replays top height cells =
        rw (replayed-counts p f directory q lents here replays, replayed-built p f directory q lents here replays, replayed-cells p f directory q lents here replays)
        (λ written. written)

  -- a proper run whose records are cut by another size is one too, with the same nesting
  pub replay-runs-cut : (size size' : ℕ) (lents lents' : List Lent) (here : Cursor) (runs : ReplayedRuns p f directory q size lents here) → ReplayCut p f directory q (all_numbers lents) size' lents' here →
      (runs' : ReplayedRuns p f directory q size' lents' here) × (records_nesting p f directory q runs' ≡ records_nesting p f directory q runs)
  unfolding run-of-records
  replay-runs-cut size size' lents lents' here runs cut =
      let as-calls = records-cut size' lents' here (all_numbers lents) cut in
      let same-calls : all_calls (fragments_of f directory lents') ≡ all_calls (fragments_of f directory lents) = as-calls.calls_are ∙ sym (records-calls lents here runs.replays) in
      let (run', same) =
      runs-cut p q size size' (fragments_of f directory lents) (fragments_of f directory lents') here (run-of-records p f directory q size lents here runs)
      (record { calls_are = same-calls; accepted = as-calls.accepted; one_size = as-calls.one_size }) in (
        record {
          forest = run'.forest;
          root = run'.root;
          parent = run'.parent;
          own = run'.own;
          third = run'.third;
          proper = run'.proper;
          replays = cut.replays;
          loops_apart = run'.loops_apart;
          shallow = run'.shallow;
          one_size = cut.one_size;
        },
        same,
      )
