-- One step of the scan that counts open blocks, and what the scan leaves.
use mathlib.Core.Path.{◌≡◌, ◌∙◌, refl, sym}
use mathlib.Core.List.{List, [], ◌∷◌, ◌++◌, append_assoc, append-nil}
use types.Run.{OneOf}
use Prim.Native.Nat.{ℕ, zero, suc, pred, ◌+◌, ◌-◌, ◌≤◌, ◌<◌}
use native.Mathlib.Omega.{arith}
use native.Mathlib.Numerals.{add-one}
use lib.ListN.{length, take, drop, set, drop_of_length-le}
use lib.Seq.{take-suc-set}
use Rattle.theory_readings.specs.Tokens.{Kind, Token, start, repeat, end, halt, nothing}
use Rattle.theory_readings.specs.ways.Parser.{levels}
use Rattle.reader.specs.Rows.{token_in, row_kind_of}
use Rattle.reader.specs.ways.Levels.{level_at, level_behind}
use Rattle.reader.specs.declared.token.RowKind.{RowKind}
use Rattle.reader.specs.declared.token.RowKind.TheVariants.{Span, Join, One, Loop, Op, Respan, Repeat, End, Halt, Nothing}
use Rattle.reader.proofs.RowTokens.{tag, among}

pub level-start : (k : RowKind) (c : ℕ) → OneOf (0 ∷ 1 ∷ 2 ∷ 3 ∷ []) (tag k) → c + 1 ≡ level_at k c
unfolding level_at
level-start Span c h = refl
level-start Join c h = refl
level-start One c h = refl
level-start Loop c h = refl
level-start Op c h = absurd (among 0 (1 ∷ 2 ∷ 3 ∷ []) 4 h)
level-start Respan c h = absurd (among 0 (1 ∷ 2 ∷ 3 ∷ []) 5 h)
level-start Repeat c h = absurd (among 0 (1 ∷ 2 ∷ 3 ∷ []) 6 h)
level-start End c h = absurd (among 0 (1 ∷ 2 ∷ 3 ∷ []) 7 h)
level-start Halt c h = absurd (among 0 (1 ∷ 2 ∷ 3 ∷ []) 8 h)
level-start Nothing c h = absurd (among 0 (1 ∷ 2 ∷ 3 ∷ []) 9 h)

pub level-same : (k : RowKind) (c : ℕ) → OneOf (4 ∷ 5 ∷ 6 ∷ 7 ∷ 8 ∷ 9 ∷ []) (tag k) → c ≡ level_at k c
unfolding level_at
level-same Span c h = absurd (among 4 (5 ∷ 6 ∷ 7 ∷ 8 ∷ 9 ∷ []) 0 h)
level-same Join c h = absurd (among 4 (5 ∷ 6 ∷ 7 ∷ 8 ∷ 9 ∷ []) 1 h)
level-same One c h = absurd (among 4 (5 ∷ 6 ∷ 7 ∷ 8 ∷ 9 ∷ []) 2 h)
level-same Loop c h = absurd (among 4 (5 ∷ 6 ∷ 7 ∷ 8 ∷ 9 ∷ []) 3 h)
level-same Op c h = refl
level-same Respan c h = refl
level-same Repeat c h = refl
level-same End c h = refl
level-same Halt c h = refl
level-same Nothing c h = refl

pub behind-same : (k : RowKind) (c : ℕ) → OneOf (0 ∷ 1 ∷ 2 ∷ 3 ∷ 4 ∷ 5 ∷ 6 ∷ 8 ∷ 9 ∷ []) (tag k) → c ≡ level_behind k c
unfolding level_behind
behind-same Span c h = refl
behind-same Join c h = refl
behind-same One c h = refl
behind-same Loop c h = refl
behind-same Op c h = refl
behind-same Respan c h = refl
behind-same Repeat c h = refl
behind-same End c h = absurd (among 0 (1 ∷ 2 ∷ 3 ∷ 4 ∷ 5 ∷ 6 ∷ 8 ∷ 9 ∷ []) 7 h)
behind-same Halt c h = refl
behind-same Nothing c h = refl

pub level-le : (k : RowKind) (c : ℕ) → level_at k c ≤ c + 1
unfolding level_at
level-le Span c = omega arith
level-le Join c = omega arith
level-le One c = omega arith
level-le Loop c = omega arith
level-le Op c = omega arith
level-le Respan c = omega arith
level-le Repeat c = omega arith
level-le End c = omega arith
level-le Halt c = omega arith
level-le Nothing c = omega arith

pub behind-le : (k : RowKind) (c : ℕ) → level_behind k c ≤ c
unfolding level_behind
behind-le Span c = omega arith
behind-le Join c = omega arith
behind-le One c = omega arith
behind-le Loop c = omega arith
behind-le Op c = omega arith
behind-le Respan c = omega arith
behind-le Repeat c = omega arith
behind-le End c = omega arith
behind-le Halt c = omega arith
behind-le Nothing c = omega arith

levels-cons : (t : Token) (w : List Token) (c : ℕ) → levels c (t ∷ w) ≡ level_at (row_kind_of t) c ∷ levels (level_behind (row_kind_of t) (level_at (row_kind_of t) c)) w
unfolding levels level_at level_behind row_kind_of
levels-cons (start Kind.span) w c = rw (add-one c)
levels-cons (start Kind.join) w c = rw (add-one c)
levels-cons (start Kind.loop) w c = rw (add-one c)
levels-cons (start (Kind.one k)) w c = rw (add-one c)
levels-cons (Token.op o) w c = refl
levels-cons Token.respan w c = refl
levels-cons repeat w c = refl
levels-cons end w c = let e : pred c ≡ c - 1 = omega arith in rw e
levels-cons halt w c = refl
levels-cons nothing w c = refl

drop_token : (w : List Token) (i : ℕ) → i < length w → drop i w ≡ token_in w i ∷ drop (suc i) w
unfolding token_in
drop_token [] i h = absurd (omega arith)
drop_token (t ∷ w) zero h = refl
drop_token (t ∷ w) (suc i) h = drop_token w i (omega arith)

module _ (w : List Token) (G : List ℕ) where
  pub scan_step : (at c : ℕ) (D : List ℕ) → at < length w → at < length D → take at D ++ levels c (drop at w) ≡ G
      → take (at + 1) (set D at (level_at (row_kind_of (token_in w at)) c)) ++ levels (level_behind (row_kind_of (token_in w at)) (level_at (row_kind_of (token_in w at)) c)) (drop (at + 1) w) ≡ G
  scan_step at c D i l h =
      let k : RowKind = row_kind_of (token_in w at) in
      rw (add-one at, take-suc-set D at (level_at k c) l, append_assoc) (rw (drop_token w at i, levels-cons (token_in w at) (drop (suc at) w) c) at h)

  pub scan-done : (at c : ℕ) (D : List ℕ) → length w ≤ at → take at D ++ levels c (drop at w) ≡ G → take at D ≡ G
  unfolding levels
  scan-done at c D i h = sym (append-nil (take at D)) ∙ (rw (drop_of_length-le w i) at h)
