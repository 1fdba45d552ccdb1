-- The rows of a proper run spell the nesting that ran.
use mathlib.Core.Path.{◌≡◌, ◌∙◌, refl, ap}
use mathlib.Core.Bool.{Bool}
use mathlib.Core.List.{List, [], ◌∷◌, ◌++◌}
use Prim.Native.Nat.{ℕ, suc}
use Rattle.groups.specs.declared.batch.BasicBlockNode.{BasicBlockNode}
use Rattle.rows.specs.declared.records.profile.Profile.{Profile}
use Rattle.rows.specs.declared.records.address_state.DecoderState.{DecoderState}
use Rattle.rows.specs.records.Forests.{Forest}
use Rattle.rows.specs.records.Addresses.{respan_step}
use Rattle.theory_readings.specs.Tokens.{Kind, Token}
use Rattle.theory_readings.specs.Readings.{Row, numbered, spell_ops, spell, spell_passes}
use Rattle.theory_runs.specs.Happened.{Cycle}
use Rattle.theory_runs.specs.ProperRuns.{InBlock, Run, RunPasses, ops_from, tree_from, passes_from}
use Rattle.theory_runs.proofs.CycleLaws.{state_after}
use Rattle.theory_runs.proofs.Looks.{Seen, seen, laid_row, laid}

unfoldable pub tokens_in : List Seen → List Token
tokens_in [] = []
tokens_in (seen token addr mark ∷ l) = token ∷ tokens_in l

-- an address state
abbrev pub at : (current parent : ℕ) → DecoderState
at current parent = record { current_addr = current; parent_addr = parent }

module _ (p : Profile) (l : List Seen) where
  -- the rows from some cycles on, numbered from n, with l behind them
  abbrev pub rows_from : ℕ → List Cycle → DecoderState → List Row
  rows_from n cycles state = numbered n (tokens_in (laid p cycles state ++ l))

  block-spell : {f : Forest} {id : ℕ} {block : BasicBlockNode} {index op : ℕ} {body : Bool} {a x g : ℕ} {cycles rest : List Cycle} (n : ℕ) (d : InBlock p f id block index op body a x g cycles rest) →
      rows_from n cycles (at x a) ≡ spell_ops (ops_from p n d).0 (rows_from (ops_from p n d).1 rest (at a g))
  unfolding numbered tokens_in laid laid_row state_after respan_step ops_from spell_ops
  block-spell n (InBlock.ended size most) = refl
  block-spell n (InBlock.operation opcode has is d) = ap (λ y. (n, Token.op opcode) ∷ y) (block-spell (suc n) d)
  block-spell n (InBlock.respan size more d) = ap (λ y. (n, Token.respan) ∷ y) (block-spell (suc n) d)

  mutual
    unfolding numbered tokens_in laid laid_row state_after tree_from spell

    pub run-spell : {f : Forest} {id : ℕ} {body : Bool} {a b g : ℕ} {cycles rest : List Cycle} (n : ℕ) (state : DecoderState) (d : Run p f id body a b g cycles rest) →
        rows_from n cycles state ≡ spell (tree_from p n d).0 (rows_from (tree_from p n d).1 rest (at a g))
    run-spell n state (Run.block holds d) = ap (λ y. (n, Token.start Kind.span) ∷ y) (block-spell (suc n) d)
    run-spell n state (Run.join {a = a} {b = b} holds d e) =
        ap (λ y. (n, Token.start Kind.join) ∷ y) (run-spell (suc n) (at b a) d ∙ ap (spell (tree_from p (suc n) d).0) (run-spell (tree_from p (suc n) d).1 (at b a) e))
    run-spell n state (Run.one {a = a} {b = b} kind child d) = ap (λ y. (n, Token.start (Kind.one kind)) ∷ y) (run-spell (suc n) (at b a) d)
    run-spell n state (Run.loop holds d) = ap (λ y. (n, Token.start Kind.loop) ∷ y) (passes-spell (suc n) d)

    pub passes-spell : {f : Forest} {id child : ℕ} {body : Bool} {a b g : ℕ} {cycles rest : List Cycle} (n : ℕ) (d : RunPasses p f id child body a b g cycles rest) →
        rows_from n cycles (at b a) ≡ spell_passes (passes_from p n d).0 (rows_from (passes_from p n d).1 rest (at a g))
    passes-spell n (RunPasses.ended {a = a} {b = b} d) = run-spell n (at b a) d
    passes-spell n (RunPasses.again {a = a} {b = b} d e) =
        run-spell n (at b a) d ∙ ap (λ y. spell (tree_from p n d).0 (((tree_from p n d).1, Token.repeat) ∷ y)) (passes-spell (suc (tree_from p n d).1) e)
