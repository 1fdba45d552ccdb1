-- Laws of the inversion of a column: its length, each of its cells, and one row more.
use mathlib.Core.Path.{◌≡◌, refl, sym, ap, ◌∙◌, subst}
use mathlib.Core.Bool.{Bool, true, false, ◌&&◌}
use mathlib.Core.List.{List, [], ◌∷◌}
use Prim.Native.Nat.{ℕ, zero, suc, ◌+◌, ◌*◌, ◌/◌, ◌%◌, ◌≤◌, ◌<◌, min}
use native.Mathlib.Nat.{mul-add-mod_self_right, mul-add-div_right, mod-eq_of_lt, div-eq_of_lt, div-add-mod', suc-add, add-suc, add-zero, zero-add, mul-le-mul_right}
use native.Mathlib.Decide.{ℕ_discrete, dec_lt}
use native.Mathlib.Omega.{arith}
use borrow.Author.Tests.{lt-ltb, le-ltb, eq-eqb, ne_eqb}
use lib.Dec.{ltb, eqb}
use lib.ListN.{length, get_or, set, length-set}
use lib.Seq.{ext_get_or, get_or-set_same, get_or-set_other}
use Rattle.field.specs.Inverse.{inverse_of}
use Rattle.field.specs.Column.{invert_if, in_column, invert_from, invert_column}
use Rattle.field.proofs.InverseLaws.{inverse-zero}

from-length : (l : List ℕ) (i n w c : ℕ) → length (invert_from l i n w c) ≡ length l
unfolding invert_from
from-length [] i n w c = refl
from-length (x ∷ xs) i n w c = ap suc (from-length xs (suc i) n w c)

pub column-length : (l : List ℕ) (n w c : ℕ) → length (invert_column l n w c) ≡ length l
unfolding invert_column
column-length l n w c = from-length l 0 n w c

if-zero : (t : Bool) → 0 ≡ invert_if t 0
if-zero true = sym inverse-zero
if-zero false = refl

from_cell : (l : List ℕ) (i n w c k : ℕ) → get_or (invert_from l i n w c) k 0 ≡ invert_if (in_column n w c (i + k)) (get_or l k 0)
unfolding invert_from
from_cell [] i n w c k = if-zero (in_column n w c (i + k))
from_cell (x ∷ xs) i n w c zero = ap (λ (m : ℕ). invert_if (in_column n w c m) x) (sym (add-zero i))
from_cell (x ∷ xs) i n w c (suc k) =
    from_cell xs (suc i) n w c k ∙ ap (λ (m : ℕ). invert_if (in_column n w c m) (get_or xs k 0)) (suc-add i k ∙ sym (add-suc i k))

-- each cell: its inverse in the column, else as it was (past the end both are 0)
pub column-cell : (l : List ℕ) (n w c k : ℕ) → get_or (invert_column l n w c) k 0 ≡ invert_if (in_column n w c k) (get_or l k 0)
unfolding invert_column
column-cell l n w c k = from_cell l 0 n w c k ∙ ap (λ (m : ℕ). invert_if (in_column n w c m) (get_or l k 0)) (zero-add k)

-- two inversions are equal where they agree on which cells stand in the column
agree : (l m : List ℕ) (n w c : ℕ) → length m ≡ length l → ((i : ℕ) → i < length l → get_or m i 0 ≡ invert_if (in_column n w c i) (get_or l i 0)) → m ≡ invert_column l n w c
agree l m n w c e h =
    ext_get_or 0 m (invert_column l n w c) (e ∙ sym (column-length l n w c))
    (λ i b. h i (subst (λ (k : ℕ). i < k) e b) ∙ sym (column-cell l n w c i))

-- where a row has no such column, nothing changes
pub column-outside : (l : List ℕ) (n w c : ℕ) → w ≤ c → l ≡ invert_column l n w c
unfolding in_column
column-outside l n w c h = agree l l n w c refl (λ i b. let e : ltb c w ≡ false = le-ltb c w h in rw e)

pub column-none : (l : List ℕ) (w c : ℕ) → l ≡ invert_column l 0 w c
unfolding in_column
column-none l w c = agree l l 0 w c refl (λ i b. none i (ltb c w))
  where
    none : (i : ℕ) (t : Bool) → get_or l i 0 ≡ invert_if (t && (ltb (i / w) 0 && eqb (i % w) c)) (get_or l i 0)
    none i true = let e : ltb (i / w) 0 ≡ false = le-ltb (i / w) 0 (omega arith) in rw e
    none i false = refl

module _ (w c : ℕ) (h : c < w) where
  -- the cell of row r in the column
  at_row : (r : ℕ) → (r * w + c) / w ≡ r
  at_row r = mul-add-div_right {m = w} (omega arith) r c ∙ (let e : c / w ≡ 0 = div-eq_of_lt h in omega (arith, e))

  at-column : (r : ℕ) → (r * w + c) % w ≡ c
  at-column r = mul-add-mod_self_right r w c ∙ mod-eq_of_lt h

  in-column : (n r : ℕ) → in_column n w c (r * w + c) ≡ ltb r n
  unfolding in_column
  in-column n r =
      let a : ltb c w ≡ true = lt-ltb c w h in
      let b : eqb ((r * w + c) % w) c ≡ true = eq-eqb ((r * w + c) % w) c (at-column r) in
      rw (a, b, at_row r) (and-true (ltb r n))
    where
      and-true : (t : Bool) → (t && true) ≡ t
      and-true true = refl
      and-true false = refl

  -- the first r and the first n rows have the same cells of the column where they agree on each cell at that place of its row
  same_test : (n r i : ℕ) → (i ≡ i / w * w + c → ltb (i / w) n ≡ ltb (i / w) r) → in_column n w c i ≡ in_column r w c i
  unfolding in_column
  same_test n r i f = go (ℕ_discrete (i % w) c)
    where
      and-false : (t : Bool) → (t && false) ≡ false
      and-false true = refl
      and-false false = refl

      go : Dec (i % w ≡ c) → (ltb c w && (ltb (i / w) n && eqb (i % w) c)) ≡ (ltb c w && (ltb (i / w) r && eqb (i % w) c))
      go (yes e) = let t : ltb (i / w) n ≡ ltb (i / w) r = f (sym (div-add-mod' i w) ∙ ap (λ (m : ℕ). i / w * w + m) e) in rw t
      go (no e) =
          let b : eqb (i % w) c ≡ false = ne_eqb (i % w) c e in
          rw b (ap (λ (t : Bool). ltb c w && t) (and-false (ltb (i / w) n) ∙ sym (and-false (ltb (i / w) r))))

  -- one row more
  pub column-more : (l : List ℕ) (r : ℕ) → r * w + c < length l → set (invert_column l r w c) (r * w + c) (inverse_of (get_or l (r * w + c) 0)) ≡ invert_column l (r + 1) w c
  column-more l r b =
      agree l (set m k v) (r + 1) w c (length-set m k v ∙ column-length l r w c) (λ i d. cell i (ℕ_discrete i k))
    where
      m : List ℕ
      m = invert_column l r w c

      k : ℕ
      k = r * w + c

      v : ℕ
      v = inverse_of (get_or l k 0)

      next : (a : ℕ) → (a ≡ r → ⊥) → ltb a (r + 1) ≡ ltb a r
      next a n = go (dec_lt a r)
        where
          go : Dec (a < r) → ltb a (r + 1) ≡ ltb a r
          go (yes g) = lt-ltb a (r + 1) (omega arith) ∙ sym (lt-ltb a r g)
          go (no g) = let z : ¬ (a ≡ r) = n in le-ltb a (r + 1) (omega (arith, z)) ∙ sym (le-ltb a r (omega arith))

      cell : (i : ℕ) → Dec (i ≡ k) → get_or (set m k v) i 0 ≡ invert_if (in_column (r + 1) w c i) (get_or l i 0)
      cell i (yes e) =
          ap (λ (j : ℕ). get_or (set m k v) j 0) e
          ∙ get_or-set_same m k v 0 (subst (λ (j : ℕ). k < j) (sym (column-length l r w c)) b)
          ∙ ap (λ (t : Bool). invert_if t (get_or l k 0)) (sym (in-column (r + 1) r ∙ lt-ltb r (r + 1) (omega arith)))
          ∙ ap (λ (j : ℕ). invert_if (in_column (r + 1) w c j) (get_or l j 0)) (sym e)
      cell i (no n) =
          get_or-set_other m k i v 0 n ∙ column-cell l r w c i
          ∙ ap (λ (t : Bool). invert_if t (get_or l i 0))
          (sym (same_test (r + 1) r i (λ e. next (i / w) (λ q. n (e ∙ ap (λ (j : ℕ). j * w + c) q)))))

  -- the cell of row r is not in the first r rows
  pub column-here : (l : List ℕ) (r : ℕ) → get_or (invert_column l r w c) (r * w + c) 0 ≡ get_or l (r * w + c) 0
  column-here l r =
      column-cell l r w c (r * w + c)
      ∙ ap (λ (t : Bool). invert_if t (get_or l (r * w + c) 0)) (in-column r r ∙ le-ltb r r (omega arith))

  -- rows that the buffer does not hold add nothing
  pub column-past : (l : List ℕ) (r n : ℕ) → r ≤ n → length l ≤ r * w + c → invert_column l r w c ≡ invert_column l n w c
  column-past l r n g b = agree l (invert_column l r w c) n w c (column-length l r w c) cell
    where
      below : (a : ℕ) → a * w + c < r * w + c → a < r
      below a d = let z : ¬ (r ≤ a) = λ q. (let m : r * w ≤ a * w = mul-le-mul_right w q in omega (arith, m, d)) in omega (arith, z)

      cell : (i : ℕ) → i < length l → get_or (invert_column l r w c) i 0 ≡ invert_if (in_column n w c i) (get_or l i 0)
      cell i d =
          column-cell l r w c i
          ∙ ap (λ (t : Bool). invert_if t (get_or l i 0))
          (sym (same_test n r i (λ e. both i (below (i / w) (subst (λ (j : ℕ). j < r * w + c) e (omega arith))))))
        where
          both : (i : ℕ) → i / w < r → ltb (i / w) n ≡ ltb (i / w) r
          both i q = lt-ltb (i / w) n (omega (arith, q, g)) ∙ sym (lt-ltb (i / w) r q)

  -- one row more of a buffer whose first r rows are done
  pub column-step : (l m : List ℕ) (r x : ℕ) → m ≡ invert_column l r w c → r * w + c < length l → x ≡ inverse_of (get_or m (r * w + c) 0) → set m (r * w + c) x ≡ invert_column l (r + 1) w c
  column-step l m r x e b v = rw (v, e, column-here l r) (column-more l r b)

  -- the rows that the buffer holds are done, or all
  pub column-end : (l m : List ℕ) (r n held : ℕ) → m ≡ invert_column l r w c → r ≡ min n held → length l ≤ held * w + c → m ≡ invert_column l n w c
  column-end l m r n held e a b = e ∙ by (dec_lt held n)
    where
      by : Dec (held < n) → invert_column l r w c ≡ invert_column l n w c
      by (yes h) = let q : r ≡ held = omega arith in rw q (column-past l held n (omega arith) b)
      by (no h) = let q : r ≡ n = omega arith in rw q

pub ruleset column_laws = (column-outside, column-none)
