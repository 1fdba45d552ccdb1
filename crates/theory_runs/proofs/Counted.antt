-- In a proper run each loop's count comes to its passes, and each flag is that of the nesting.
use mathlib.Core.Path.{◌≡◌, ◌∙◌, refl, sym, ap, ap₂}
use mathlib.Core.Bool.{Bool, false}
use mathlib.Core.List.{List, [], ◌∷◌}
use Prim.Native.Nat.{ℕ, suc, ◌+◌, ◌%◌}
use native.Mathlib.Omega.{arith}
use Rattle.field.specs.Modulus.{P}
use Rattle.field.specs.Cells.{reduced}
use Rattle.groups.specs.declared.batch.BasicBlockNode.{BasicBlockNode}
use Rattle.rows.specs.declared.records.profile.Profile.{Profile}
use Rattle.rows.specs.declared.records.address_state.DecoderState.{DecoderState}
use Rattle.rows.specs.records.Forests.{Forest}
use Rattle.rows.specs.records.Profiles.{two_equal}
use Rattle.rows.specs.records.Addresses.{respan_step}
use Rattle.rows.specs.records.DecoderRows.{bit}
use Rattle.theory_readings.specs.Readings.{Ask, passes_in, end_row_of, asks_of, asks_of_passes}
use Rattle.theory_runs.specs.Happened.{Cycle}
use Rattle.theory_runs.specs.ProperRuns.{with_loop, loop_starts, InBlock, Run, RunPasses, ops_from, tree_from, passes_from}
use Rattle.theory_runs.proofs.CycleLaws.{state_after}
use Rattle.theory_runs.proofs.Looks.{flag, start_mark, laid_row, laid}
use Rattle.theory_runs.proofs.Spelled.{at}
use Rattle.theory_runs.proofs.Tallied.{same, heads, if_flag, hits, behind, recount, counted, shows, shown, Looped, times, total, addresses, Counts, counts-ext, counts-total, flag-zero}

module _ (p : Profile) where
  -- the passes of a loop; the loops that ran in a node, in front of q
  unfoldable pub passes_run : {f : Forest} {id child : ℕ} {body : Bool} {a b g : ℕ} {cycles rest : List Cycle} → RunPasses p f id child body a b g cycles rest → ℕ
  passes_run (RunPasses.ended d) = 1
  passes_run (RunPasses.again d e) = suc (passes_run e)

  unfoldable mutual
    unfolding passes_run

    pub loops_run : {f : Forest} {id : ℕ} {body : Bool} {a b g : ℕ} {cycles rest : List Cycle} → Run p f id body a b g cycles rest → List Looped → List Looped
    loops_run (Run.block holds d) q = q
    loops_run (Run.join holds d e) q = loops_run d (loops_run e q)
    loops_run (Run.one kind child d) q = loops_run d q
    loops_run (Run.loop {b = b} holds d) q = (b % P, passes_run d) ∷ loops_in d q

    pub loops_in : {f : Forest} {id child : ℕ} {body : Bool} {a b g : ℕ} {cycles rest : List Cycle} → RunPasses p f id child body a b g cycles rest → List Looped → List Looped
    loops_in (RunPasses.ended d) q = loops_run d q
    loops_in (RunPasses.again d e) q = loops_run d (loops_in e q)

  -- they are those that the cycles start
  block-starts : {f : Forest} {id : ℕ} {block : BasicBlockNode} {index op : ℕ} {body : Bool} {a x g : ℕ} {cycles rest : List Cycle} → InBlock p f id block index op body a x g cycles rest → loop_starts cycles ≡ loop_starts rest
  unfolding loop_starts with_loop
  block-starts (InBlock.ended size most) = refl
  block-starts (InBlock.operation opcode has is d) = block-starts d
  block-starts (InBlock.respan size more d) = block-starts d

  mutual
    unfolding loops_run addresses loop_starts with_loop reduced

    run-starts : {f : Forest} {id : ℕ} {body : Bool} {a b g : ℕ} {cycles rest : List Cycle} (d : Run p f id body a b g cycles rest) (q : List Looped) → addresses q ≡ reduced (loop_starts rest) → addresses (loops_run d q) ≡ reduced (loop_starts cycles)
    run-starts (Run.block holds d) q e = e ∙ ap reduced (sym (block-starts d))
    run-starts (Run.join holds d k) q e = run-starts d _ (run-starts k q e)
    run-starts (Run.one kind child d) q e = run-starts d q e
    run-starts (Run.loop {b = b} holds d) q e = ap (λ y. b % P ∷ y) (passes-starts d q e)

    passes-starts : {f : Forest} {id child : ℕ} {body : Bool} {a b g : ℕ} {cycles rest : List Cycle} (d : RunPasses p f id child body a b g cycles rest) (q : List Looped) → addresses q ≡ reduced (loop_starts rest) → addresses (loops_in d q) ≡ reduced (loop_starts cycles)
    passes-starts (RunPasses.ended d) q e = run-starts d q e
    passes-starts (RunPasses.again d k) q e = run-starts d _ (passes-starts k q e)

  -- hits of an address are the total over its loops, the flag's share, and the hits of the rest
  abbrev share : Bool → ℕ → ℕ
  share body k = if_flag (flag (bit body)) k

  block-hits : {f : Forest} {id : ℕ} {block : BasicBlockNode} {index op : ℕ} {body : Bool} {a x g : ℕ} {cycles rest : List Cycle} (d : InBlock p f id block index op body a x g cycles rest) (i : ℕ) →
      hits i (laid p cycles (at x a)) ≡ share body (heads i (laid p rest (at a g))) + hits i (laid p rest (at a g))
  unfolding hits laid laid_row state_after respan_step if_flag
  block-hits (InBlock.ended size most) i = refl
  block-hits (InBlock.operation opcode has is d) i = omega (arith, block-hits d i)
  block-hits (InBlock.respan size more d) i = omega (arith, block-hits d i)

  mutual
    unfolding loops_run passes_run total times hits heads laid laid_row state_after start_mark if_flag

    run-hits : {f : Forest} {id : ℕ} {body : Bool} {a b g : ℕ} {cycles rest : List Cycle} (d : Run p f id body a b g cycles rest) (i : ℕ) (state : DecoderState) (q : List Looped) →
        hits i (laid p cycles state) + total i q ≡ total i (loops_run d q) + share body (heads i (laid p rest (at a g))) + hits i (laid p rest (at a g))
    run-hits (Run.block holds d) i state q = omega (arith, block-hits d i)
    run-hits (Run.join {a = a} {b = b} holds d e) i state q = omega (arith, run-hits d i (at b a) (loops_run e q), run-hits e i (at b a) q)
    run-hits (Run.one {a = a} {b = b} kind child d) i state q = omega (arith, run-hits d i (at b a) q)
    run-hits (Run.loop holds d) i state q = omega (arith, passes-hits d i q)

    passes-hits : {f : Forest} {id child : ℕ} {body : Bool} {a b g : ℕ} {cycles rest : List Cycle} (d : RunPasses p f id child body a b g cycles rest) (i : ℕ) (q : List Looped) →
        hits i (laid p cycles (at b a)) + total i q ≡ times (passes_run d) (same (b % P) i) + total i (loops_in d q) + share body (heads i (laid p rest (at a g))) + hits i (laid p rest (at a g))
    passes-hits (RunPasses.ended {a = a} {b = b} d) i q = omega (arith, run-hits d i (at b a) q)
    passes-hits (RunPasses.again {a = a} {b = b} d e) i q = omega (arith, run-hits d i (at b a) (loops_in e q), passes-hits e i q)

  -- in a run of the whole, with no two loops at one address, the hits of a loop's address are its passes
  pub whole-counts : {f : Forest} {id : ℕ} {body : Bool} {a b g : ℕ} {cycles : List Cycle} (d : Run p f id body a b g cycles []) (state : DecoderState) → two_equal (reduced (loop_starts cycles)) ≡ false →
      Counts (λ x. hits x (laid p cycles state)) (loops_run d [])
  unfolding total hits laid heads addresses loop_starts reduced
  whole-counts {body = body} d state h =
      counts-ext (λ x. 0 + total x (loops_run d [])) _ (loops_run d [])
      (λ x. omega (arith, run-hits d x state [], flag-zero body))
      (counts-total (loops_run d []) (rw (run-starts d [] refl) h))

  -- what is left of the loops behind a node
  mutual
    unfolding loops_run Counts

    pub run-rest : {f : Forest} {id : ℕ} {body : Bool} {a b g : ℕ} {cycles rest : List Cycle} (d : Run p f id body a b g cycles rest) (m : ℕ → ℕ) (q : List Looped) → Counts m (loops_run d q) → Counts m q
    run-rest (Run.block holds d) m q k = k
    run-rest (Run.join holds d e) m q k = run-rest e m q (run-rest d m _ k)
    run-rest (Run.one kind child d) m q k = run-rest d m q k
    run-rest (Run.loop holds d) m q k = passes-rest d m q k.1

    pub passes-rest : {f : Forest} {id child : ℕ} {body : Bool} {a b g : ℕ} {cycles rest : List Cycle} (d : RunPasses p f id child body a b g cycles rest) (m : ℕ → ℕ) (q : List Looped) → Counts m (loops_in d q) → Counts m q
    passes-rest (RunPasses.ended d) m q k = run-rest d m q k
    passes-rest (RunPasses.again d e) m q k = passes-rest e m q (run-rest d m _ k)

  -- a node's first row carries its parent's address
  run-behind : {f : Forest} {id : ℕ} {body : Bool} {a b g : ℕ} {cycles rest : List Cycle} (d : Run p f id body a b g cycles rest) (m : ℕ → ℕ) (c : ℕ) (state : DecoderState) → behind m c (laid p cycles state) ≡ m (a % P)
  unfolding behind laid laid_row
  run-behind (Run.block holds d) m c state = refl
  run-behind (Run.join holds d e) m c state = refl
  run-behind (Run.one kind child d) m c state = refl
  run-behind (Run.loop holds d) m c state = refl

  pub passes-behind : {f : Forest} {id child : ℕ} {body : Bool} {a b g : ℕ} {cycles rest : List Cycle} (d : RunPasses p f id child body a b g cycles rest) (m : ℕ → ℕ) (c : ℕ) (state : DecoderState) → behind m c (laid p cycles state) ≡ m (b % P)
  passes-behind (RunPasses.ended d) m c state = run-behind d m c state
  passes-behind (RunPasses.again d e) m c state = run-behind d m c state

  passes-read : {f : Forest} {id child : ℕ} {body : Bool} {a b g : ℕ} {cycles rest : List Cycle} (n : ℕ) (d : RunPasses p f id child body a b g cycles rest) → passes_in (passes_from p n d).0 ≡ passes_run d
  unfolding passes_in tree_from passes_run
  passes-read n (RunPasses.ended d) = refl
  passes-read n (RunPasses.again d e) = ap suc (passes-read (suc (tree_from p n d).1) e)

  -- the rows show what the reading of the nesting asks
  module _ (m : ℕ → ℕ) where
    abbrev pub showing : ℕ → List Cycle → DecoderState → List Ask
    showing n cycles state = shown n (counted m (laid p cycles state))

    block-shown : {f : Forest} {id : ℕ} {block : BasicBlockNode} {index op : ℕ} {body : Bool} {a x g : ℕ} {cycles rest : List Cycle} (n : ℕ) (d : InBlock p f id block index op body a x g cycles rest) →
        showing n cycles (at x a) ≡ Ask.flag (end_row_of (ops_from p n d).0) (bit body) ∷ showing (ops_from p n d).1 rest (at a g)
    unfolding shown shows counted recount laid laid_row state_after respan_step ops_from end_row_of
    block-shown n (InBlock.ended size most) = refl
    block-shown n (InBlock.operation opcode has is d) = block-shown (suc n) d
    block-shown n (InBlock.respan size more d) = block-shown (suc n) d

    mutual
      unfolding shown shows counted recount laid laid_row state_after start_mark tree_from asks_of loops_run Counts

      pub run-shown : {f : Forest} {id : ℕ} {body : Bool} {a b g : ℕ} {cycles rest : List Cycle} (n : ℕ) (state : DecoderState) (d : Run p f id body a b g cycles rest) (q : List Looped) → Counts m (loops_run d q) →
          showing n cycles state ≡ asks_of (bit body) (tree_from p n d).0 (showing (tree_from p n d).1 rest (at a g))
      run-shown n state (Run.block holds d) q k = block-shown (suc n) d
      run-shown n state (Run.join {a = a} {b = b} holds d e) q k =
          run-shown (suc n) (at b a) d (loops_run e q) k ∙ ap (asks_of 0 (tree_from p (suc n) d).0) (run-shown (tree_from p (suc n) d).1 (at b a) e q (run-rest d m _ k))
      run-shown n state (Run.one {a = a} {b = b} kind child d) q k = run-shown (suc n) (at b a) d q k
      run-shown n state (Run.loop {a = a} {b = b} holds d) q k =
          ap₂ (λ x y. Ask.count n x ∷ y) (passes-behind d m 0 (at b a) ∙ k.0 ∙ sym (passes-read (suc n) d)) (passes-shown (suc n) d q k.1)

      pub passes-shown : {f : Forest} {id child : ℕ} {body : Bool} {a b g : ℕ} {cycles rest : List Cycle} (n : ℕ) (d : RunPasses p f id child body a b g cycles rest) (q : List Looped) → Counts m (loops_in d q) →
          showing n cycles (at b a) ≡ asks_of_passes (bit body) (passes_from p n d).0 (showing (passes_from p n d).1 rest (at a g))
      passes-shown n (RunPasses.ended {a = a} {b = b} d) q k = run-shown n (at b a) d q k
      passes-shown n (RunPasses.again {a = a} {b = b} d e) q k =
          run-shown n (at b a) d (loops_in e q) k ∙ ap (asks_of 1 (tree_from p n d).0) (passes-shown (suc (tree_from p n d).1) e q (run-rest d m _ k))
