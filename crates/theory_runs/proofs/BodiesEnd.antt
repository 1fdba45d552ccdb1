-- Refusal 14, "LOOP without body END", is raised by no proper run.
use mathlib.Core.Path.{◌≡◌, ◌∙◌, refl, sym, ap, ap₂, fun_ext}
use mathlib.Core.Bool.{Bool, true, false, ◌&&◌, ◌||◌}
use mathlib.Core.List.{List, [], ◌∷◌}
use Prim.Native.Nat.{ℕ, ◌%◌, ◌<◌}
use native.Mathlib.Omega.{arith}
use borrow.Author.Tests.{eqb-true, ne_eqb}
use lib.Dec.{eqb}
use Rattle.field.specs.Modulus.{P}
use Rattle.groups.specs.Answer.{pick}
use Rattle.groups.specs.declared.batch.BasicBlockNode.{BasicBlockNode}
use Rattle.rows.specs.declared.records.profile.Profile.{Profile}
use Rattle.rows.specs.declared.records.address_state.DecoderState.{DecoderState}
use Rattle.rows.specs.records.Forests.{Forest}
use Rattle.rows.specs.records.Addresses.{Queues, respan_step, read_state}
use Rattle.rows.specs.records.Profiles.{opcodes, profile_wrong}
use Rattle.rows.specs.declared.records.address_state.Cursor.{Cursor}
use Rattle.rows.specs.records.Buffers.{addr_of, h4_of, opcode_of}
use Rattle.rows.specs.passes.Passes.{body_ends, any_without_body, loop_without_body}
use Rattle.theory_readings.specs.Tokens.{count_of}
use Rattle.theory_runs.specs.Calls.{Fragment}
use Rattle.theory_runs.specs.Happened.{Cycle, cycles_of}
use Rattle.theory_runs.specs.ProperRuns.{InBlock, Run, RunPasses}
use Rattle.theory_runs.specs.Written.{rows_run}
use Rattle.theory_runs.specs.Finished.{Runs}
use Rattle.theory_runs.proofs.CycleLaws.{state_after}
use Rattle.theory_runs.proofs.Opcodes.{apart-at}
use Rattle.theory_runs.proofs.Looks.{Mark, none, flag, count, Seen, seen, mark_of, look, looks, start_mark, laid_row, laid}
use Rattle.theory_runs.proofs.Spelled.{at}
use Rattle.theory_runs.proofs.Tallied.{behind, hits, Looped, Counts}
use Rattle.theory_runs.proofs.Counted.{passes_run, loops_run, loops_in, run-rest, whole-counts}
use Rattle.theory_runs.proofs.PassLooks.{ends-hits}
use Rattle.theory_runs.proofs.StartsReduced.{starts-reduced}
use Rattle.theory_runs.proofs.Folded.{AllFine, rows-laid}
use Rattle.theory_runs.proofs.TraceOfRun.{run-fine}

-- a LOOP row, not last, whose successor's address m takes to 0
unfoldable lacking_mark : (ℕ → ℕ) → Mark → List Seen → Bool
lacking_mark m none l = false
lacking_mark m (flag h) l = false
lacking_mark m (count c) [] = false
lacking_mark m (count c) (x ∷ l) = eqb (behind m 1 (x ∷ l)) 0

unfoldable lacking : (ℕ → ℕ) → List Seen → Bool
lacking m [] = false
lacking m (seen token addr mark ∷ l) = lacking_mark m mark l || lacking m l

module _ (p : Profile) (right : profile_wrong p ≡ false) (m : ℕ → ℕ) where
  row-lacking : (row next : List ℕ) (l : List Seen) (e f : Bool) → eqb (opcode_of row) p.end ≡ e → eqb (opcode_of row) p.loop_op ≡ f →
      (f && eqb (m (addr_of next)) 0) ≡ lacking_mark m (pick e (flag (h4_of row)) (pick f (count (count_of row)) none)) (look p next ∷ l)
  unfolding lacking_mark behind look opcodes
  row-lacking row next l true true i j =
      let k : eqb p.loop_op p.end ≡ false = apart-at p right 4 11 (omega arith) (omega arith) (λ z. omega arith) in
      let z : true ≡ false = sym i ∙ rw (eqb-true (opcode_of row) p.loop_op j) k in
      let z' : ◌≡◌ {A = ℕ} 0 1 = cc in absurd (omega arith)
  row-lacking row next l false true i j = refl
  row-lacking row next l true false i j = refl
  row-lacking row next l false false i j = refl

  last-lacking : (mark : Mark) → lacking_mark m mark [] ≡ false
  unfolding lacking_mark
  last-lacking none = refl
  last-lacking (flag h) = refl
  last-lacking (count c) = refl

  any-lacking : (rows : List (List ℕ)) → any_without_body p m rows ≡ lacking m (looks p rows)
  unfolding any_without_body lacking looks look mark_of
  any-lacking [] = refl
  any-lacking (row ∷ []) = sym (ap (λ x. x || false) (last-lacking (mark_of p row)))
  any-lacking (row ∷ next ∷ rows) =
      ap₂ (λ x y. x || y) (row-lacking row next (looks p rows) (eqb (opcode_of row) p.end) (eqb (opcode_of row) p.loop_op) refl refl) (any-lacking (next ∷ rows))

module _ (p : Profile) (m : ℕ → ℕ) where
  -- a node's first row carries its parent's address
  run-first : {f : Forest} {id : ℕ} {body : Bool} {a b g : ℕ} {cycles rest : List Cycle} (d : Run p f id body a b g cycles rest) (state : DecoderState) → lacking_mark m (count 0) (laid p cycles state) ≡ eqb (m (a % P)) 0
  unfolding lacking_mark behind laid laid_row
  run-first (Run.block holds d) state = refl
  run-first (Run.join holds d e) state = refl
  run-first (Run.one kind child d) state = refl
  run-first (Run.loop holds d) state = refl

  passes-first : {f : Forest} {id child : ℕ} {body : Bool} {a b g : ℕ} {cycles rest : List Cycle} (d : RunPasses p f id child body a b g cycles rest) (state : DecoderState) → lacking_mark m (count 0) (laid p cycles state) ≡ eqb (m (b % P)) 0
  passes-first (RunPasses.ended d) state = run-first d state
  passes-first (RunPasses.again d e) state = run-first d state

  some-passes : {f : Forest} {id child : ℕ} {body : Bool} {a b g : ℕ} {cycles rest : List Cycle} (d : RunPasses p f id child body a b g cycles rest) → 0 < passes_run p d
  unfolding passes_run
  some-passes (RunPasses.ended d) = omega arith
  some-passes (RunPasses.again d e) = omega arith

  block-lacking : {f : Forest} {id : ℕ} {block : BasicBlockNode} {index op : ℕ} {body : Bool} {a x g : ℕ} {cycles rest : List Cycle} (d : InBlock p f id block index op body a x g cycles rest) → lacking m (laid p cycles (at x a)) ≡ lacking m (laid p rest (at a g))
  unfolding lacking lacking_mark laid laid_row state_after respan_step
  block-lacking (InBlock.ended size most) = refl
  block-lacking (InBlock.operation opcode has is d) = block-lacking d
  block-lacking (InBlock.respan size more d) = block-lacking d

  mutual
    unfolding lacking lacking_mark laid laid_row state_after start_mark loops_run Counts

    run-lacking : {f : Forest} {id : ℕ} {body : Bool} {a b g : ℕ} {cycles rest : List Cycle} (d : Run p f id body a b g cycles rest) (state : DecoderState) (q : List Looped) → Counts m (loops_run p d q) →
        lacking m (laid p cycles state) ≡ lacking m (laid p rest (at a g))
    run-lacking (Run.block holds d) state q k = block-lacking d
    run-lacking (Run.join {a = a} {b = b} holds d e) state q k = run-lacking d (at b a) (loops_run p e q) k ∙ run-lacking e (at b a) q (run-rest p d m (loops_run p e q) k)
    run-lacking (Run.one {a = a} {b = b} kind child d) state q k = run-lacking d (at b a) q k
    run-lacking (Run.loop {a = a} {b = b} holds d) state q k =
        let n : eqb (m (b % P)) 0 ≡ false = ne_eqb (m (b % P)) 0 (λ z. omega (arith, k.0, some-passes d)) in
        ap₂ (λ x y. x || y) (passes-first d (at b a) ∙ n) (passes-lacking d q k.1)

    passes-lacking : {f : Forest} {id child : ℕ} {body : Bool} {a b g : ℕ} {cycles rest : List Cycle} (d : RunPasses p f id child body a b g cycles rest) (q : List Looped) → Counts m (loops_in p d q) →
        lacking m (laid p cycles (at b a)) ≡ lacking m (laid p rest (at a g))
    passes-lacking (RunPasses.ended {a = a} {b = b} d) q k = run-lacking d (at b a) q k
    passes-lacking (RunPasses.again {a = a} {b = b} d e) q k = run-lacking d (at b a) (loops_in p e q) k ∙ passes-lacking e q (run-rest p d m (loops_in p e q) k)

-- 14 does not hold of the rows of a proper run
pub bodies-end : (p : Profile) (q : Queues) (size : ℕ) (fragments : List Fragment) (here : Cursor) → profile_wrong p ≡ false → Runs p q size fragments here → loop_without_body p (rows_run p q fragments here) ≡ false
unfolding loop_without_body lacking laid AllFine
bodies-end p q size fragments here right runs =
    let rows : List (List ℕ) = rows_run p q fragments here in
    let cycles : List Cycle = cycles_of q fragments here.at in
    let shown : looks p rows ≡ laid p cycles (read_state here.state) = rows-laid p q fragments here runs.accepted (run-fine p q runs.proper tt) in
    let same : ◌≡◌ {A = ℕ → ℕ} (λ x. body_ends p x rows) (λ x. hits x (laid p cycles (read_state here.state))) = fun_ext (λ x. ends-hits p x rows ∙ ap (hits x) shown) in
    any-lacking p right (λ x. body_ends p x rows) rows ∙ ap₂ (λ m l. lacking m l) same shown
    ∙ run-lacking p (λ x. hits x (laid p cycles (read_state here.state))) runs.proper (read_state here.state) [] (whole-counts p runs.proper (read_state here.state) (rw (starts-reduced q fragments here.at) runs.loops_apart))
