-- The depths of a reading are those that one scan of the rows counts.
use mathlib.Core.Path.{◌≡◌, ◌∙◌, refl, sym, ap}
use mathlib.Core.List.{List, [], ◌∷◌}
use Prim.Native.Nat.{ℕ, suc, pred, ◌-◌}
use native.Mathlib.Omega.{arith}
use lib.ListN.{length, replicate}
use Rattle.rows.specs.declared.records.profile.Profile.{Profile}
use Rattle.theory_readings.specs.Tokens.{Token, start, repeat, end, halt, nothing, tokens_of}
use Rattle.theory_readings.specs.Readings.{Ops, Block, Passes, Row, spell_ops, spell, spell_passes, OnlyHalts, WordOf, depths_of_ops, depths_of, depths_of_passes, program_rows, depth_list, Reading}
use Rattle.theory_readings.specs.ways.Parser.{levels}
use Rattle.theory_readings.proofs.WordAnswers.{halts-only}
use Rattle.theory_readings.proofs.SpelledRows.{tokens, tokens-numbered, tokens_of-length, word-length}

levels-ops : (o : Ops) (c : ℕ) (r : List Row) → levels (suc c) (tokens (spell_ops o r)) ≡ depths_of_ops (suc c) o (levels c (tokens r))
unfolding levels tokens spell_ops depths_of_ops
levels-ops (Ops.ended e) c r = refl
levels-ops (Ops.op n k o) c r = ap (λ y. suc c ∷ y) (levels-ops o c r)
levels-ops (Ops.respan n o) c r = ap (λ y. suc c ∷ y) (levels-ops o c r)

mutual
  unfolding levels tokens spell depths_of

  pub levels-block : (b : Block) (c : ℕ) (r : List Row) → levels c (tokens (spell b r)) ≡ depths_of (suc c) b (levels c (tokens r))
  levels-block (Block.span n o) c r = ap (λ y. suc c ∷ y) (levels-ops o c r)
  levels-block (Block.join n a b e) c r = ap (λ y. suc c ∷ y) (levels-block a (suc c) _ ∙ ap (depths_of (suc (suc c)) a) (levels-block b (suc c) _))
  levels-block (Block.one k n a e) c r = ap (λ y. suc c ∷ y) (levels-block a (suc c) _)
  levels-block (Block.loop n p) c r = ap (λ y. suc c ∷ y) (levels-passes p c r)

  pub levels-passes : (p : Passes) (c : ℕ) (r : List Row) → levels (suc c) (tokens (spell_passes p r)) ≡ depths_of_passes (suc c) p (levels c (tokens r))
  levels-passes (Passes.ended b e) c r = levels-block b (suc c) _
  levels-passes (Passes.repeated b m p) c r = levels-block b (suc c) _ ∙ ap (λ y. depths_of (suc (suc c)) b (suc c ∷ y)) (levels-passes p c r)

-- HALT rows have 0
levels-halts : (h : List Row) → OnlyHalts h → levels 0 (tokens h) ≡ replicate (length h) 0
unfolding levels tokens OnlyHalts
levels-halts [] f = refl
levels-halts (x ∷ h) f = rw f.0 (ap (λ y. 0 ∷ y) (levels-halts h f.1))

pub word-depths : (w : List Token) (b : Block) → WordOf w b → depth_list (length w) b ≡ levels 0 w
unfolding WordOf depth_list
word-depths w b (rest, e, h) =
    let n : length w - program_rows b ≡ length rest = omega (arith, word-length w b rest e) in
    let x : levels 0 (tokens (spell b rest)) ≡ depths_of 1 b (levels 0 (tokens rest)) = levels-block b 0 rest in
    rw (n, ← (levels-halts rest (halts-only rest h)), ← x, ← e, tokens-numbered w 0) refl

-- the depth list of a reading, and its length
pub depths-counted : (p : Profile) (rows : List (List ℕ)) (b : Block) → Reading p rows b → depth_list (length rows) b ≡ levels 0 (tokens_of p rows)
unfolding Reading
depths-counted p rows b r = ap (λ n. depth_list n b) (sym (tokens_of-length p rows)) ∙ word-depths (tokens_of p rows) b r.0

pub levels-length : (w : List Token) (c : ℕ) → length (levels c w) ≡ length w
unfolding levels
levels-length [] c = refl
levels-length (start k ∷ w) c = ap suc (levels-length w (suc c))
levels-length (end ∷ w) c = ap suc (levels-length w (pred c))
levels-length (Token.op o ∷ w) c = ap suc (levels-length w c)
levels-length (Token.respan ∷ w) c = ap suc (levels-length w c)
levels-length (repeat ∷ w) c = ap suc (levels-length w c)
levels-length (halt ∷ w) c = ap suc (levels-length w c)
levels-length (nothing ∷ w) c = ap suc (levels-length w c)

pub depths-length : (p : Profile) (rows : List (List ℕ)) (b : Block) → Reading p rows b → length (depth_list (length rows) b) ≡ length rows
depths-length p rows b r = ap length (depths-counted p rows b r) ∙ levels-length (tokens_of p rows) 0 ∙ tokens_of-length p rows
