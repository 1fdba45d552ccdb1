-- Laws of a buffer as rows: what stands at a row, and a row put in its place.
use mathlib.Core.Path.{◌≡◌, ◌∙◌, refl, sym, ap, ap₂}
use mathlib.Core.List.{List, [], ◌∷◌, ◌++◌, append_assoc, append-nil}
use Prim.Native.Nat.{ℕ, zero, suc, ◌+◌, ◌*◌, ◌≤◌, ◌<◌}
use native.Mathlib.Omega.{arith}
use lib.ListN.{length, take, drop, get_or, set, length-append, length-take, length-drop, take-append-drop}
use lib.Seq.{take_at, drop_at, drop-drop, take-add, take-append-add, drop-append-add, get_or-take, get_or-drop}
use Rattle.rows.specs.records.Cells.{put_row}
use Rattle.rows.specs.records.Buffers.{rows_of, flat, on_rows, last_row}

-- each row has 49 cells
unfoldable pub Wide : List (List ℕ) → Type 0
Wide [] = Unit {0}
Wide (row ∷ rows) = (length row ≡ 49) × Wide rows

pub length-rows : (n : ℕ) (buffer : List ℕ) → length (rows_of n buffer) ≡ n
unfolding rows_of
length-rows zero buffer = refl
length-rows (suc n) buffer = ap suc (length-rows n (drop 49 buffer))

pub wide_rows : (n : ℕ) (buffer : List ℕ) → 49 * n ≤ length buffer → Wide (rows_of n buffer)
unfolding rows_of Wide
wide_rows zero buffer h = tt
wide_rows (suc n) buffer h =
    (length-take 49 buffer ∙ omega arith, wide_rows n (drop 49 buffer) (omega (arith, length-drop 49 buffer)))

pub flat_rows : (n : ℕ) (buffer : List ℕ) → flat (rows_of n buffer) ≡ take (49 * n) buffer
unfolding rows_of flat
flat_rows zero buffer = refl
flat_rows (suc n) buffer =
    let e : 49 + 49 * n ≡ 49 * suc n = omega arith in
    ap (λ y. take 49 buffer ++ y) (flat_rows n (drop 49 buffer)) ∙ sym (take-add 49 (49 * n) buffer) ∙ ap (λ k. take k buffer) e

-- the row in front is left out
module _ (row rest : List ℕ) (w : length row ≡ 49) where
  take_row : (n : ℕ) → take (49 * suc n) (row ++ rest) ≡ row ++ take (49 * n) rest
  take_row n =
      let e : 49 * suc n ≡ length row + 49 * n = omega arith in
      ap (λ k. take k (row ++ rest)) e ∙ take-append-add row rest (49 * n)

  drop-row : (n m : ℕ) → drop (49 * suc n + m) (row ++ rest) ≡ drop (49 * n + m) rest
  drop-row n m =
      let e : 49 * suc n + m ≡ length row + (49 * n + m) = omega arith in
      ap (λ k. drop k (row ++ rest)) e ∙ drop-append-add row rest (49 * n + m)

-- row i of rows one after another
pub row-at : (rows : List (List ℕ)) (rest : List ℕ) (i : ℕ) → Wide rows → i < length rows → take 49 (drop (49 * i) (flat rows ++ rest)) ≡ get_or rows i []
unfolding flat Wide
row-at [] rest i w h = absurd (omega arith)
row-at (row ∷ rows) rest zero w h = rw append_assoc (take_at row (flat rows ++ rest) 49 w.0)
row-at (row ∷ rows) rest (suc i) w h =
    let e : 49 * suc i ≡ 49 * suc i + 0 = omega arith in
    let f : 49 * i + 0 ≡ 49 * i = omega arith in
    rw (append_assoc, e, drop-row row (flat rows ++ rest) w.0 i 0, f) (row-at rows rest i w.1 (omega arith))

-- cells in the place of row i
pub put-set : (rows : List (List ℕ)) (rest : List ℕ) (i : ℕ) (cells : List ℕ) → Wide rows → i < length rows → put_row (flat rows ++ rest) i cells ≡ flat (set rows i cells) ++ rest
unfolding flat Wide put_row
put-set [] rest i cells w h = absurd (omega arith)
put-set (row ∷ rows) rest zero cells w h =
    rw (append_assoc row (flat rows) rest, drop_at row (flat rows ++ rest) 49 w.0, append_assoc cells (flat rows) rest)
put-set (row ∷ rows) rest (suc i) cells w h =
    rw (append_assoc row (flat rows) rest, take_row row (flat rows ++ rest) w.0 i, drop-row row (flat rows ++ rest) w.0 i 49)
    (simp append_assoc (ap (λ y. row ++ y) (simp append_assoc at (put-set rows rest i cells w.1 (omega arith)))))

pub length-flat : (rows : List (List ℕ)) → Wide rows → length (flat rows) ≡ 49 * length rows
unfolding flat Wide
length-flat [] w = refl
length-flat (row ∷ rows) w = length-append row (flat rows) ∙ omega (arith, w.0, length-flat rows w.1)

-- the rows in front are the buffer's first
pub rows-flat : (rows : List (List ℕ)) (rest : List ℕ) → Wide rows → rows_of (length rows) (flat rows ++ rest) ≡ rows
unfolding flat Wide rows_of
rows-flat [] rest w = refl
rows-flat (row ∷ rows) rest w =
    rw (append_assoc row (flat rows) rest, take_at row (flat rows ++ rest) 49 w.0, drop_at row (flat rows ++ rest) 49 w.0, rows-flat rows rest w.1)

pub drop-flat : (rows : List (List ℕ)) (rest : List ℕ) → Wide rows → drop (49 * length rows) (flat rows ++ rest) ≡ rest
drop-flat rows rest w = drop_at (flat rows) rest (49 * length rows) (length-flat rows w)

-- a buffer is its first n rows, and what stands behind them
pub as_rows : (n : ℕ) (buffer : List ℕ) → buffer ≡ flat (rows_of n buffer) ++ drop (49 * n) buffer
as_rows n buffer = sym (ap (λ y. y ++ drop (49 * n) buffer) (flat_rows n buffer) ∙ take-append-drop (49 * n) buffer)

-- where f keeps the number of rows, the cells behind them stay
pub on-rows : (n : ℕ) (f : List (List ℕ) → List (List ℕ)) (buffer : List ℕ) → length (f (rows_of n buffer)) ≡ n → on_rows n f buffer ≡ flat (f (rows_of n buffer)) ++ drop (49 * n) buffer
unfolding on_rows
on-rows n f buffer e = rw e

pub on-flat : (rows : List (List ℕ)) (rest : List ℕ) (f : List (List ℕ) → List (List ℕ)) → Wide rows → length (f rows) ≡ length rows → on_rows (length rows) f (flat rows ++ rest) ≡ flat (f rows) ++ rest
unfolding on_rows
on-flat rows rest f w e = rw (rows-flat rows rest w, e, drop-flat rows rest w)

pub wide-app : (l q : List (List ℕ)) → Wide l → Wide q → Wide (l ++ q)
unfolding Wide
wide-app [] q h k = k
wide-app (r ∷ l) q h k = (h.0, wide-app l q h.1 k)

pub flat-app : (l q : List (List ℕ)) → flat (l ++ q) ≡ flat l ++ flat q
unfolding flat
flat-app [] q = refl
flat-app (r ∷ l) q = ap (λ (y : List ℕ). r ++ y) (flat-app l q) ∙ sym (append_assoc r (flat l) (flat q))

-- behind one row, and n more
pub drop-rows : (n : ℕ) (buffer : List ℕ) → drop (49 * n) (drop 49 buffer) ≡ drop (49 * suc n) buffer
drop-rows n buffer = let e : 49 + 49 * n ≡ 49 * suc n = omega arith in drop-drop (49 * n) 49 buffer ∙ ap (λ (k : ℕ). drop k buffer) e

pub last-rows : (n : ℕ) (b : List ℕ) → last_row (rows_of (suc n) b) ≡ take 49 (drop (49 * n) b)
unfolding rows_of last_row
last-rows zero b = refl
last-rows (suc n) b = last-rows n (drop 49 b) ∙ ap (take 49) (drop-rows n b)

pub length_last : (n : ℕ) (b : List ℕ) → 0 < n → 49 * n ≤ length b → length (last_row (rows_of n b)) ≡ 49
length_last zero b some h = absurd (omega arith)
length_last (suc n) b some h = rw (last-rows n b, length-take, length-drop) (omega arith)

pub last-cell : (n : ℕ) (b : List ℕ) (i : ℕ) → i < 49 → get_or (last_row (rows_of (suc n) b)) i 0 ≡ get_or b (49 * n + i) 0
last-cell n b i h = rw (last-rows n b, get_or-take 49 (drop (49 * n) b) i 0 h) (get_or-drop (49 * n) b i 0)

-- the row x written behind the rows is one more of them
pub put-behind : (rows : List (List ℕ)) (x buffer : List ℕ) → Wide rows → put_row (flat rows ++ drop (49 * length rows) buffer) (length rows) x ≡ flat (rows ++ (x ∷ [])) ++ drop (49 * length (rows ++ (x ∷ []))) buffer
unfolding put_row flat
put-behind rows x buffer w =
    let m : ℕ = 49 * length rows in
    let rest : List ℕ = drop m buffer in
    let n : 49 * length (rows ++ (x ∷ [])) ≡ m + 49 = omega (arith, length-append rows (x ∷ [])) in
    let front : take m (flat rows ++ rest) ≡ flat rows = take_at (flat rows) rest m (length-flat rows w) in
    let back : drop (m + 49) (flat rows ++ rest) ≡ drop (m + 49) buffer = rw (← (drop-drop 49 m (flat rows ++ rest)), drop-flat rows rest w) (drop-drop 49 m buffer) in
    rw (n, flat-app rows (x ∷ []), append-nil) (ap₂ (λ (y z : List ℕ). y ++ x ++ z) front back)

pub length-put : (b : List ℕ) (r : ℕ) (x : List ℕ) → length x ≡ 49 → 49 * r + 49 ≤ length b → length (put_row b r x) ≡ length b
unfolding put_row
length-put b r x e h = simp (length-append, length-take, length-drop) (omega arith)
