-- In a replay that accepts each record is a call, and no part of a record is left over.
use mathlib.Core.Path.{◌≡◌, refl, sym, ◌∙◌}
use mathlib.Core.Bool.{Bool, true, false}
use mathlib.Core.List.{List}
use Prim.Native.Nat.{ℕ, zero, suc, ◌/◌, ◌%◌}
use native.Mathlib.Omega.{arith}
use borrow.Author.Tests.{eqb-true, eqb-false}
use lib.Dec.{ltb, eqb}
use lib.ListN.{length, get_or, length-append}
use Rattle.groups.specs.Answer.{Answer, accepted, refused, pick}
use Rattle.groups.specs.Words.{word_at}
use Rattle.groups.specs.declared.word.Word.{Word}
use Rattle.rows.specs.declared.records.ids.MastNodeId.{MastNodeId}
use Rattle.rows.specs.declared.records.profile.Profile.{Profile}
use Rattle.rows.specs.declared.cycles.tracer.CoreTraceGenerationTracer.{CoreTraceGenerationTracer}
use Rattle.rows.specs.records.Forests.{Forest, node_id}
use Rattle.rows.specs.records.Addresses.{Queues}
use Rattle.rows.specs.declared.records.address_state.Cursor.{Cursor}
use Rattle.rows.specs.cycles.Cycles.{fresh, keeping}
use Rattle.rows.specs.records.CallRecords as records
use Rattle.rows.specs.replay.Calls.{scanned, refusing, through, ending, replayed}
use Rattle.rows.specs.records.CallRecords.{names_no_kind, of32, info_in, resume_in, respan_in, continuation_on, continuation_in, names_nothing, stored_in_record, system_in, few_cells, many_cells, registers_in, stores, finishes, finish_in, call_in, record_at}
use Rattle.rows.specs.replay.SingleCalls.{single_done, singly_through}
use Rattle.rows.proofs.replay.CallSteps.{told-number}
use Rattle.theory_runs.proofs.Answers.{Numbered, then-numbered, pick-numbered}
use Rattle.theory_read_back.specs.ReplayedRuns.{Lent, call_of, calls_of, fragment_of, told_of}
use Rattle.theory_read_back.proofs.ReplayedCalls.{single-before, singly-kept}

-- NO RECORD IS REFUSED WITH THE NUMBER 0

of32-numbered : (n x : ℕ) → Numbered (of32 (suc n) x)
unfolding of32 Numbered
of32-numbered n x = pick-numbered (ltb x 4294967296) (accepted x) (refused (suc n)) tt tt

info-numbered : (r : List ℕ) → Numbered (info_in r)
unfolding info_in Numbered
info-numbered r =
    pick-numbered (eqb (get_or r 12 0) 1) _ _ (then-numbered (of32 23 (get_or r 13 0)) _ (of32-numbered 22 (get_or r 13 0)) (λ depth. tt)) tt

resume-numbered : (r : List ℕ) (id : MastNodeId) → Numbered (resume_in r id)
unfolding resume_in Numbered
resume-numbered r id =
    then-numbered (of32 5 (get_or r 3 0)) _ (of32-numbered 4 (get_or r 3 0)) (λ index.
    then-numbered (of32 6 (get_or r 4 0)) _ (of32-numbered 5 (get_or r 4 0)) (λ op. tt))

respan-numbered : (r : List ℕ) (id : MastNodeId) → Numbered (respan_in r id)
unfolding respan_in Numbered
respan-numbered r id = then-numbered (of32 5 (get_or r 3 0)) _ (of32-numbered 4 (get_or r 3 0)) (λ index. tt)

on-numbered : (r : List ℕ) (kind : ℕ) (id : MastNodeId) → Numbered (continuation_on r kind id)
unfolding continuation_on Numbered
on-numbered r kind id =
    pick-numbered (eqb kind 1) _ _ tt
    (pick-numbered (eqb kind 2) _ _ tt
    (pick-numbered (eqb kind 3) _ _ tt
    (pick-numbered (eqb kind 4) _ _ tt
    (pick-numbered (eqb kind 5) _ _ tt
    (pick-numbered (eqb kind 6) _ _ tt
    (pick-numbered (eqb kind 7) _ _ (resume-numbered r id)
    (pick-numbered (eqb kind 8) _ _ (respan-numbered r id)
    (pick-numbered (eqb kind 9) _ _ tt tt))))))))

continuation-numbered : (r : List ℕ) → Numbered (continuation_in r)
unfolding continuation_in Numbered
continuation-numbered r =
    pick-numbered (names_no_kind (get_or r 1 0)) _ _ tt
    (pick-numbered (eqb (get_or r 1 0) 10) _ _ tt
    (then-numbered (of32 3 (get_or r 2 0)) _ (of32-numbered 2 (get_or r 2 0)) (λ id. on-numbered r (get_or r 1 0) (node_id id))))

stored-numbered : (r : List ℕ) → Numbered (stored_in_record r)
unfolding stored_in_record Numbered
stored-numbered r =
    then-numbered (continuation_in r) _ (continuation-numbered r) (λ continuation.
    then-numbered (info_in r) _ (info-numbered r) (λ info.
    pick-numbered (names_nothing r) _ _ tt tt))

few-numbered : (kind a b : ℕ) → Numbered (few_cells kind a b)
unfolding few_cells Numbered
few-numbered kind a b =
    pick-numbered (eqb kind 1) _ _ tt
    (pick-numbered (eqb kind 2) _ _ tt
    (pick-numbered (eqb kind 3) _ _ tt
    (pick-numbered (eqb kind 4) _ _ tt
    (pick-numbered (eqb kind 6) _ _ tt
    (pick-numbered (eqb kind 7) _ _ tt
    (pick-numbered (eqb kind 8) _ _ tt
    (pick-numbered (eqb kind 9) _ _ tt
    (pick-numbered (eqb kind 10) _ _ tt
    (pick-numbered (eqb kind 12) _ _ tt
    (pick-numbered (eqb kind 13) _ _ tt
    (pick-numbered (eqb kind 14) _ _ tt
    (pick-numbered (eqb kind 18) _ _ tt tt))))))))))))

many-numbered : (kind : ℕ) (a b : Word) → Numbered (many_cells kind a b)
unfolding many_cells Numbered
many-numbered kind a b =
    pick-numbered (eqb kind 5) _ _ tt
    (pick-numbered (eqb kind 11) _ _ tt
    (pick-numbered (eqb kind 15) _ _ tt
    (pick-numbered (eqb kind 16) _ _ tt
    (pick-numbered (eqb kind 17) _ _ tt (few-numbered kind a.0 a.1)))))

system-numbered : (r : List ℕ) → Numbered (system_in r)
unfolding system_in Numbered
system-numbered r =
    then-numbered (of32 23 (get_or r 2 0)) _ (of32-numbered 22 (get_or r 2 0)) (λ clk.
    then-numbered (of32 23 (get_or r 3 0)) _ (of32-numbered 22 (get_or r 3 0)) (λ ctx. tt))

finish-numbered : (r : List ℕ) → Numbered (finish_in r)
unfolding finish_in registers_in Numbered
finish-numbered r =
    then-numbered (system_in r) _ (system-numbered r) (λ system.
    then-numbered (of32 23 (get_or r 24 0)) _ (of32-numbered 22 (get_or r 24 0)) (λ depth.
    then-numbered (registers_in r) _ (many-numbered (get_or r 0 0) (word_at r 26) (word_at r 30)) (λ registers. tt)))

pub call-numbered : (r : List ℕ) → Numbered (call_in r)
unfolding call_in Numbered
call-numbered r =
    pick-numbered (eqb (get_or r 0 0) 0) _ _ (then-numbered (stored_in_record r) _ (stored-numbered r) (λ values. tt)) (finish-numbered r)

-- THE CALLS ARE AS MANY AS THE RECORDS

not-kept : (same : Bool) (n : ℕ) (t : CoreTraceGenerationTracer) → eqb t.refusal 0 ≡ same → (pick same (keeping (suc n) t) t).refusal ≡ 0 → ⊥
not-kept true n t h e = omega arith
not-kept false n t h e = eqb-false t.refusal 0 h e

module _ (p : Profile) (f : Forest) (directory : List ℕ) (q : Queues) (size : ℕ) where
  one-call : (t : CoreTraceGenerationTracer) (a : Answer records.RecordedCall) → Numbered a → (single_done (scanned p f directory q size) t a).refusal ≡ 0 → length (call_of f directory a) ≡ 1
  unfolding Numbered single_done refusing call_of
  one-call t (accepted (stores values)) h e = refl
  one-call t (accepted (finishes k system stack registers)) h e = refl
  one-call t (refused zero) h e = absurd h
  one-call t (refused (suc n)) h e = absurd (not-kept (eqb t.refusal 0) n t refl e)

  as_many : (numbers : List ℕ) (t : CoreTraceGenerationTracer) (n : ℕ) → (singly_through (scanned p f directory q size) numbers t n).refusal ≡ 0 → length (calls_of f directory numbers n) ≡ n
  unfolding singly_through calls_of
  as_many numbers t zero e = refl
  as_many numbers t (suc k) e =
      let a = call_in (record_at numbers k) in
      let u = singly_through (scanned p f directory q size) numbers t k in
      let before = as_many numbers t k (single-before p f directory q size u a e) in
      let one = one-call u a (call-numbered (record_at numbers k)) e in
      omega (arith, length-append (calls_of f directory numbers k) (call_of f directory a))

whole_by : (whole kept : Bool) (numbers : ℕ) (t : CoreTraceGenerationTracer) → eqb (numbers % 32) 0 ≡ whole → eqb t.refusal 0 ≡ kept → (pick whole t (pick kept (keeping 11 t) t)).refusal ≡ 0 → numbers % 32 ≡ 0
whole_by true kept numbers t h k e = eqb-true (numbers % 32) 0 h
whole_by false true numbers t h k e = absurd (omega arith)
whole_by false false numbers t h k e = absurd (eqb-false t.refusal 0 k e)

whole : (numbers : ℕ) (t : CoreTraceGenerationTracer) → (ending numbers t).refusal ≡ 0 → numbers % 32 ≡ 0
unfolding ending refusing
whole numbers t = whole_by (eqb (numbers % 32) 0) (eqb t.refusal 0) numbers t refl refl

module _ (p : Profile) (f : Forest) (directory : List ℕ) (q : Queues) (here : Cursor) (l : Lent) where
  pub records-are-calls : (told_of p f directory q here l).refusal ≡ 0 → (length l.numbers % 32 ≡ 0) × (length (fragment_of f directory l).calls ≡ length l.numbers / 32)
  unfolding replayed
  records-are-calls e =
      let size = length l.cells in
      let t = fresh here.state here.at in
      let n = length l.numbers / 32 in
      let u = through (scanned p f directory q size) l.numbers t n in (
        whole (length l.numbers) u (sym (told-number (ending (length l.numbers) u)) ∙ e),
        as_many p f directory q size l.numbers t n (singly-kept p f directory q here l e),
      )
