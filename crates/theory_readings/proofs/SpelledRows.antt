-- The rows that a tree spells: their tokens, and their number.
use mathlib.Core.Path.{◌≡◌, ◌∙◌, refl, sym, ap}
use mathlib.Core.List.{List, [], ◌∷◌, ◌++◌}
use Prim.Native.Nat.{ℕ, suc, ◌+◌}
use lib.ListN.{length, length-append}
use Rattle.rows.specs.declared.records.profile.Profile.{Profile}
use Rattle.theory_readings.specs.Tokens.{Kind, Token, start, repeat, end, tokens_of}
use Rattle.theory_readings.specs.Readings.{Ops, Block, Passes, Row, numbered, spell_ops, spell, spell_passes, program_rows}

-- the tokens of rows
unfoldable pub tokens : List Row → List Token
tokens [] = []
tokens (x ∷ r) = x.1 ∷ tokens r

pub tokens-numbered : (w : List Token) (n : ℕ) → tokens (numbered n w) ≡ w
unfolding tokens numbered
tokens-numbered [] n = refl
tokens-numbered (t ∷ w) n = ap (λ y. t ∷ y) (tokens-numbered w (suc n))

pub numbered-length : (w : List Token) (n : ℕ) → length (numbered n w) ≡ length w
unfolding numbered
numbered-length [] n = refl
numbered-length (t ∷ w) n = ap suc (numbered-length w (suc n))

pub tokens_of-length : (p : Profile) (rows : List (List ℕ)) → length (tokens_of p rows) ≡ length rows
unfolding tokens_of
tokens_of-length p [] = refl
tokens_of-length p (row ∷ rows) = ap suc (tokens_of-length p rows)

-- what a tree spells in front of two lists
pub spell_ops-append : (o : Ops) (x r : List Row) → spell_ops o (x ++ r) ≡ spell_ops o x ++ r
unfolding spell_ops
spell_ops-append (Ops.ended e) x r = refl
spell_ops-append (Ops.op n c o) x r = ap (λ y. (n, Token.op c) ∷ y) (spell_ops-append o x r)
spell_ops-append (Ops.respan n o) x r = ap (λ y. (n, Token.respan) ∷ y) (spell_ops-append o x r)

mutual
  unfolding spell

  pub spell-append : (b : Block) (x r : List Row) → spell b (x ++ r) ≡ spell b x ++ r
  spell-append (Block.span n o) x r = ap (λ y. (n, start Kind.span) ∷ y) (spell_ops-append o x r)
  spell-append (Block.join n a b e) x r =
      ap (λ y. (n, start Kind.join) ∷ y) (ap (spell a) (spell-append b ((e, end) ∷ x) r) ∙ spell-append a (spell b ((e, end) ∷ x)) r)
  spell-append (Block.one k n a e) x r = ap (λ y. (n, start (Kind.one k)) ∷ y) (spell-append a ((e, end) ∷ x) r)
  spell-append (Block.loop n p) x r = ap (λ y. (n, start Kind.loop) ∷ y) (spell_passes-append p x r)

  pub spell_passes-append : (p : Passes) (x r : List Row) → spell_passes p (x ++ r) ≡ spell_passes p x ++ r
  spell_passes-append (Passes.ended a e) x r = spell-append a ((e, end) ∷ x) r
  spell_passes-append (Passes.repeated a m p) x r =
      ap (λ y. spell a ((m, repeat) ∷ y)) (spell_passes-append p x r) ∙ spell-append a ((m, repeat) ∷ spell_passes p x) r

-- the rows of a word are the program's and the HALT rows
pub word-length : (w : List Token) (b : Block) (rest : List Row) → numbered 0 w ≡ spell b rest → length w ≡ program_rows b + length rest
unfolding program_rows
word-length w b rest e = sym (numbered-length w 0) ∙ ap length (e ∙ spell-append b [] rest) ∙ length-append (spell b []) rest
