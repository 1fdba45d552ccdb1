-- The rows of a block in a reading: its start row, its parts' rows one after another, its END row.
use mathlib.Core.Path.{◌≡◌, refl}
use mathlib.Core.List.{List, [], ◌∷◌}
use Prim.Native.Nat.{ℕ, suc, ◌≤◌, ◌<◌}
use native.Mathlib.Omega.{arith}
use Rattle.theory_readings.specs.Tokens.{Token, repeat, end}
use Rattle.theory_readings.specs.Readings.{Ops, Block, Passes, Row, numbered, spell_ops, spell, spell_passes, WordOf, end_row_of}
use Rattle.theory_indexes.specs.Indexes.{start_row, end_of_passes, end_of}

-- rows numbered one after another, from s on
unfoldable pub Consecutive : (s : ℕ) → List Row → Type 0
Consecutive s [] = Unit {0}
Consecutive s (x ∷ r) = (x.0 ≡ s) × Consecutive (suc s) r

-- the rows behind a SPAN, from s on
unfoldable pub SpansOps : (s : ℕ) → Ops → Type 0
SpansOps s (Ops.ended e) = e ≡ s
SpansOps s (Ops.op row c o) = SpansOps (suc s) o
SpansOps s (Ops.respan row o) = SpansOps (suc s) o

unfoldable mutual
  pub Spans : Block → Type 0
  Spans (Block.span row o) = SpansOps (suc row) o
  Spans (Block.join row a b e) = (start_row a ≡ suc row) × Spans a × (start_row b ≡ suc (end_of a)) × Spans b × (e ≡ suc (end_of b))
  Spans (Block.one k row a e) = (start_row a ≡ suc row) × Spans a × (e ≡ suc (end_of a))
  Spans (Block.loop row q) = SpansPasses row q

  -- the passes behind the LOOP or REPEAT row m
  pub SpansPasses : (m : ℕ) → Passes → Type 0
  SpansPasses m (Passes.ended a e) = (start_row a ≡ suc m) × Spans a × (e ≡ suc (end_of a))
  SpansPasses m (Passes.repeated a n q) = (start_row a ≡ suc m) × Spans a × (n ≡ suc (end_of a)) × SpansPasses n q

numbered-rows : (w : List Token) (n : ℕ) → Consecutive n (numbered n w)
unfolding Consecutive numbered
numbered-rows [] n = tt
numbered-rows (t ∷ w) n = (refl, numbered-rows w (suc n))

spans-ops : (o : Ops) (s : ℕ) (r : List Row) → Consecutive s (spell_ops o r) → SpansOps s o × Consecutive (suc (end_row_of o)) r
unfolding Consecutive SpansOps spell_ops end_row_of
spans-ops (Ops.ended e) s r (h, c) = (h, rw h c)
spans-ops (Ops.op row k o) s r (h, c) = spans-ops o (suc s) r c
spans-ops (Ops.respan row o) s r (h, c) = spans-ops o (suc s) r c

-- the END row behind a block's rows
behind : (e s : ℕ) (r : List Row) (x : Token) → Consecutive s ((e, x) ∷ r) → (e ≡ s) × Consecutive (suc e) r
unfolding Consecutive
behind e s r x (h, c) = (h, rw h c)

pub record Spanned (s : ℕ) (b : Block) (r : List Row) : Type 0 where
  pub first : start_row b ≡ s
  pub rows : Spans b
  pub more : Consecutive (suc (end_of b)) r

pub record PassesSpanned (m : ℕ) (q : Passes) (r : List Row) : Type 0 where
  pub rows : SpansPasses m q
  pub more : Consecutive (suc (end_of_passes q)) r

mutual
  unfolding Consecutive Spans spell spell_passes start_row end_of end_of_passes

  pub spans : (b : Block) (s : ℕ) (r : List Row) → Consecutive s (spell b r) → Spanned s b r
  spans (Block.span row o) s r (h, c) =
      let x = spans-ops o (suc s) r c in
      record { first = h; rows = rw h x.0; more = x.1 }
  spans (Block.join row a b e) s r (h, c) =
      let x = spans a (suc s) _ c in
      let y = spans b (suc (end_of a)) _ x.more in
      let z = behind e (suc (end_of b)) r end y.more in
      record { first = h; rows = (rw h x.first, x.rows, y.first, y.rows, z.0); more = z.1 }
  spans (Block.one k row a e) s r (h, c) =
      let x = spans a (suc s) _ c in
      let z = behind e (suc (end_of a)) r end x.more in
      record { first = h; rows = (rw h x.first, x.rows, z.0); more = z.1 }
  spans (Block.loop row q) s r (h, c) =
      let x = spans-passes q s r c in
      record { first = h; rows = rw h x.rows; more = x.more }

  pub spans-passes : (q : Passes) (m : ℕ) (r : List Row) → Consecutive (suc m) (spell_passes q r) → PassesSpanned m q r
  spans-passes (Passes.ended a e) m r c =
      let x = spans a (suc m) _ c in
      let z = behind e (suc (end_of a)) r end x.more in
      record { rows = (x.first, x.rows, z.0); more = z.1 }
  spans-passes (Passes.repeated a n q) m r c =
      let x = spans a (suc m) _ c in
      let z = behind n (suc (end_of a)) (spell_passes q r) repeat x.more in
      let y = spans-passes q n r z.1 in
      record { rows = (x.first, x.rows, z.0, y.rows); more = y.more }

-- a start row stands before its END row
pub ops-le : (o : Ops) (s : ℕ) → SpansOps s o → s ≤ end_row_of o
unfolding SpansOps end_row_of
ops-le (Ops.ended e) s h = omega arith
ops-le (Ops.op row c o) s h = omega (arith, ops-le o (suc s) h)
ops-le (Ops.respan row o) s h = omega (arith, ops-le o (suc s) h)

mutual
  unfolding Spans start_row end_of end_of_passes

  pub spans-lt : (b : Block) → Spans b → start_row b < end_of b
  spans-lt (Block.span row o) h = omega (arith, ops-le o (suc row) h)
  spans-lt (Block.join row a b e) (f, p, g, q, h) = omega (arith, spans-lt a p, spans-lt b q)
  spans-lt (Block.one k row a e) (f, p, h) = omega (arith, spans-lt a p)
  spans-lt (Block.loop row q) h = passes-lt q row h

  pub passes-lt : (q : Passes) (m : ℕ) → SpansPasses m q → m < end_of_passes q
  passes-lt (Passes.ended a e) m (f, p, h) = omega (arith, spans-lt a p)
  passes-lt (Passes.repeated a n q) m (f, p, h, g) = omega (arith, spans-lt a p, passes-lt q n g)

-- of a reading the rows are numbered from 0
pub word-spans : (w : List Token) (b : Block) → WordOf w b → (start_row b ≡ 0) × Spans b
unfolding WordOf
word-spans w b (rest, e, h) =
    let x = spans b 0 rest (rw e at (numbered-rows w 0)) in
    (x.first, x.rows)
