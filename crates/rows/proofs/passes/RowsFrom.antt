-- The rows of a buffer one after another: the ENDs among the first ones, and what is decided from a row on.
use mathlib.Core.Path.{◌≡◌, refl, sym, ◌∙◌, ap}
use mathlib.Core.Bool.{true, false, ◌&&◌, ◌||◌}
use mathlib.Core.List.{List, [], ◌∷◌}
use Prim.Native.Nat.{ℕ, zero, suc, ◌+◌, ◌-◌, ◌*◌, ◌≤◌, ◌<◌}
use native.Mathlib.Omega.{arith}
use native.Mathlib.Numerals.{add-one}
use native.Mathlib.Decide.{dec_lt}
use lib.Dec.{eqb}
use lib.ListN.{set, take, drop}
use lib.Seq.{drop-drop}
use borrow.Author.Tests.{eq-eqb, ne_eqb}
use Rattle.groups.specs.Answer.{pick}
use Rattle.rows.specs.declared.records.profile.Profile.{Profile}
use Rattle.rows.specs.records.Buffers.{rows_of, buffer_row}
use Rattle.rows.specs.passes.Passes.{flagged_end, body_ends, with_counts, any_without_body, loop_without_body}
use Rattle.rows.specs.ways.LoopCounts.{rows_from, is_loop, next_addr, ends_in, lacks_from, Alike}
use Rattle.rows.proofs.passes.RowLists.{drop-rows}
use Rattle.rows.proofs.passes.RowCells.{cell-alike, flagged_alike}

-- THE ENDS AMONG THE FIRST ROWS

row-behind : (n : ℕ) (c : List ℕ) → buffer_row n (drop 49 c) ≡ buffer_row (suc n) c
unfolding buffer_row
row-behind n c = ap (take 49) (drop-rows n c)

-- whether row n is a flagged END with the address x behind it
end_at : Profile → (x n : ℕ) → List ℕ → ℕ
end_at p x n c = pick (flagged_end p (buffer_row n c) && eqb (next_addr n c) x) 1 0

end-behind : (p : Profile) (x n : ℕ) (c : List ℕ) → end_at p x n (drop 49 c) ≡ end_at p x (suc n) c
unfolding end_at
end-behind p x n c =
    let e : suc n + 1 ≡ suc (n + 1) = omega arith in
    rw (e, row-behind n c, row-behind (n + 1) c)

ends-cons : (p : Profile) (x n : ℕ) (c : List ℕ) → body_ends p x (rows_of (suc (suc n)) c) ≡ end_at p x 0 c + body_ends p x (rows_of (suc n) (drop 49 c))
unfolding body_ends rows_of end_at buffer_row
ends-cons p x n c = refl

pub ends-one : (p : Profile) (x : ℕ) (c : List ℕ) → ends_in p (0 + 1) c x ≡ 0
unfolding body_ends rows_of
ends-one p x c = refl

ends-suc : (p : Profile) (x n : ℕ) (c : List ℕ) → body_ends p x (rows_of (suc (suc n)) c) ≡ body_ends p x (rows_of (suc n) c) + end_at p x n c
ends-suc p x zero c = omega (arith, ends-cons p x 0 c, ends-one p x c, ends-one p x (drop 49 c))
ends-suc p x (suc n) c = omega (arith, ends-cons p x (suc n) c, ends-cons p x n c, ends-suc p x n (drop 49 c), end-behind p x n c)

-- one row more
pub ends_more : (p : Profile) (x i : ℕ) (c : List ℕ)
    → ends_in p (i + 1 + 1) c x ≡ ends_in p (i + 1) c x + pick (flagged_end p (buffer_row i c) && eqb (next_addr i c) x) 1 0
unfolding end_at
ends_more p x i c =
    let e : i + 1 + 1 ≡ suc (suc i) = omega arith in
    ap (λ n. ends_in p n c x) e ∙ ends-suc p x i c ∙ ap (λ n. ends_in p n c x + end_at p x i c) (sym (add-one i))

pub ends-alike : (p : Profile) (x n : ℕ) (a b : List ℕ) → Alike a b → ends_in p n a x ≡ ends_in p n b x
unfolding body_ends rows_of end_at
ends-alike p x zero a b g = refl
ends-alike p x (suc zero) a b g = refl
ends-alike p x (suc (suc n)) a b g =
    ends-suc p x n a
    ∙ rw (ends-alike p x (suc n) a b g, flagged_alike a b g n p, cell-alike a b g (n + 1) 6 (omega arith))
    (sym (ends-suc p x n b))

-- FROM A ROW ON

rows-cons : (rows i : ℕ) (c : List ℕ) → i < rows → rows_from rows i c ≡ buffer_row i c ∷ rows_from rows (i + 1) c
unfolding rows_from buffer_row rows_of
rows-cons rows i c h =
    let e : rows - i ≡ suc (rows - (i + 1)) = omega arith in
    let f : 49 * i + 49 ≡ 49 * (i + 1) = omega arith in
    rw (e, drop-drop 49 (49 * i) c, f)

rows_none : (rows i : ℕ) (c : List ℕ) → rows ≤ i → rows_from rows i c ≡ []
unfolding rows_from rows_of
rows_none rows i c h =
    let e : rows - i ≡ 0 = omega arith in
    rw e

module _ (p : Profile) (count : ℕ → ℕ) (rows i : ℕ) (c : List ℕ) where
  lacks-step : i + 1 < rows → lacks_from p count rows i c ≡ (is_loop p (buffer_row i c) && eqb (count (next_addr i c)) 0) || lacks_from p count rows (i + 1) c
  unfolding any_without_body
  lacks-step h = rw (rows-cons rows i c (omega arith), rows-cons rows (i + 1) c h)

  -- a LOOP row without body END, one with, and a row that is none
  pub lacks-yes : i + 1 < rows → is_loop p (buffer_row i c) ≡ true → count (next_addr i c) ≡ 0 → lacks_from p count rows i c ≡ true
  lacks-yes h l z = lacks-step h ∙ rw (l, eq-eqb (count (next_addr i c)) 0 z)

  pub lacks-no : i + 1 < rows → is_loop p (buffer_row i c) ≡ true → (count (next_addr i c) ≡ 0 → ⊥) → lacks_from p count rows i c ≡ lacks_from p count rows (i + 1) c
  lacks-no h l n = lacks-step h ∙ rw (l, ne_eqb (count (next_addr i c)) 0 n)

  pub lacks-skip : i + 1 < rows → is_loop p (buffer_row i c) ≡ false → lacks_from p count rows i c ≡ lacks_from p count rows (i + 1) c
  lacks-skip h l = lacks-step h ∙ rw l

  pub counts_step : i + 1 < rows
      → with_counts p count (rows_from rows i c) ≡ pick (is_loop p (buffer_row i c)) (set (buffer_row i c) 23 (count (next_addr i c))) (buffer_row i c) ∷ with_counts p count (rows_from rows (i + 1) c)
  unfolding with_counts
  counts_step h = rw (rows-cons rows i c (omega arith), rows-cons rows (i + 1) c h)

  lacks-at : rows ≤ i + 1 → Dec (i < rows) → lacks_from p count rows i c ≡ false
  unfolding any_without_body
  lacks-at h (yes l) = rw (rows-cons rows i c l, rows_none rows (i + 1) c h)
  lacks-at h (no n) = rw (rows_none rows i c (omega (arith, n)))

  -- the last row is not asked
  pub lacks-last : rows ≤ i + 1 → lacks_from p count rows i c ≡ false
  lacks-last h = lacks-at h (dec_lt i rows)

  counts-at : rows ≤ i + 1 → Dec (i < rows) → with_counts p count (rows_from rows i c) ≡ rows_from rows i c
  unfolding with_counts
  counts-at h (yes l) = rw (rows-cons rows i c l, rows_none rows (i + 1) c h)
  counts-at h (no n) = rw (rows_none rows i c (omega (arith, n)))

  -- the last row keeps its cells
  pub counts-last : rows ≤ i + 1 → with_counts p count (rows_from rows i c) ≡ rows_from rows i c
  counts-last h = counts-at h (dec_lt i rows)

pub rows-first : (rows : ℕ) (c : List ℕ) → rows_from rows 0 c ≡ rows_of rows c
unfolding rows_from
rows-first rows c =
    let e : rows - 0 ≡ rows = omega arith in
    ap (λ n. rows_of n c) e

pub lacks-first : (p : Profile) (rows : ℕ) (c : List ℕ) → loop_without_body p (rows_of rows c) ≡ lacks_from p (ends_in p rows c) rows 0 c
unfolding loop_without_body
lacks-first p rows c = rw (rows-first rows c)
