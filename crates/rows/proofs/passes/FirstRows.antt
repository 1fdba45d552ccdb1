-- Laws of pass 1 on the list of rows: one fragment more.
use mathlib.Core.Path.{◌≡◌, ◌∙◌, refl, sym, ap}
use mathlib.Core.List.{List, [], ◌∷◌, ◌++◌}
use Prim.Native.Nat.{ℕ, zero, suc, pred, ◌+◌, ◌-◌, ◌*◌, ◌≤◌, ◌<◌}
use native.Mathlib.Omega.{arith}
use lib.ListN.{length, take, drop, get_or, set, length-append, length-take, length-drop}
use lib.Seq.{drop-drop}
use Rattle.field.specs.Cells.{reduced}
use Rattle.field.proofs.CellLaws.{length-reduced}
use Rattle.rows.specs.records.Built.{reversed16}
use Rattle.rows.specs.records.Cells.{put_row}
use Rattle.rows.specs.records.Buffers.{rows_of, flat, on_rows}
use Rattle.rows.specs.passes.Passes.{with_sides, first_row, later_rows, fixed_up, built_of}
use Rattle.rows.proofs.passes.RowLists.{Wide, length-rows, wide_rows, row-at, put-set, as_rows, on-rows, on-flat}

-- each has 25 cells
unfoldable pub Cells25 : List (List ℕ) → Type 0
Cells25 [] = Unit {0}
Cells25 (cells ∷ more) = (length cells ≡ 25) × Cells25 more

pub built-wide : (n : ℕ) (built : List ℕ) → 25 * n ≤ length built → Cells25 (built_of n built)
unfolding built_of Cells25
built-wide zero built h = tt
built-wide (suc n) built h =
    (length-reduced (take 25 built) ∙ length-take 25 built ∙ omega arith, built-wide n (drop 25 built) (omega (arith, length-drop 25 built)))

length-built : (n : ℕ) (built : List ℕ) → length (built_of n built) ≡ n
unfolding built_of
length-built zero built = refl
length-built (suc n) built = ap suc (length-built n (drop 25 built))

-- the built cells of one fragment more
built-more : (n : ℕ) (built : List ℕ) → built_of (suc n) built ≡ built_of n built ++ (reduced (take 25 (drop (25 * n) built)) ∷ [])
unfolding built_of
built-more zero built = refl
built-more (suc n) built =
    let e : 25 + 25 * n ≡ 25 * suc n = omega arith in
    ap (λ y. reduced (take 25 built) ∷ y) (built-more n (drop 25 built))
    ∙ ap (λ y. reduced (take 25 built) ∷ (built_of n (drop 25 built) ++ (reduced (take 25 y) ∷ []))) (drop-drop (25 * n) 25 built ∙ ap (λ k. drop k built) e)

pub decoder-length : (row : List ℕ) → length row ≡ 49 → length (take 24 (drop 6 row)) ≡ 24
decoder-length row wide = length-take 24 (drop 6 row) ∙ omega (arith, length-drop 6 row)

pub six-cells : (cells : List ℕ) (n : ℕ) → length cells ≡ n → 6 ≤ n → length (take 6 cells) ≡ 6
six-cells cells n e h = length-take 6 cells ∙ omega arith

-- a row of 49 cells stays one
pub sides-wide : (system stack row : List ℕ) → length system ≡ 6 → length stack ≡ 19 → length row ≡ 49 → length (with_sides system stack row) ≡ 49
unfolding with_sides
sides-wide system stack row e f g = simp (length-append, length-take, length-drop) (omega arith)

last-wide : (cells row : List ℕ) → length cells ≡ 25 → length row ≡ 49 → length (with_sides (take 6 cells) (drop 6 cells) row) ≡ 49
last-wide cells row e f =
    sides-wide (take 6 cells) (drop 6 cells) row (length-take 6 cells ∙ omega arith) (length-drop 6 cells ∙ omega arith) f

later-none : (rows : List (List ℕ)) (size left : ℕ) → later_rows size left [] rows ≡ rows
unfolding later_rows
later-none [] size left = refl
later-none (row ∷ rows) size zero = ap (λ y. row ∷ y) (later-none rows size zero)
later-none (row ∷ rows) size (suc left) = ap (λ y. row ∷ y) (later-none rows size left)

pub length-later : (rows lasts : List (List ℕ)) (size left : ℕ) → length (later_rows size left lasts rows) ≡ length rows
unfolding later_rows
length-later [] lasts size left = refl
length-later (row ∷ rows) [] size zero = ap suc (length-later rows [] size zero)
length-later (row ∷ rows) (last ∷ lasts) size zero = ap suc (length-later rows lasts size (pred size))
length-later (row ∷ rows) lasts size (suc left) = ap suc (length-later rows lasts size left)

pub later-wide : (rows lasts : List (List ℕ)) (size left : ℕ) → Cells25 lasts → Wide rows → Wide (later_rows size left lasts rows)
unfolding later_rows Wide Cells25
later-wide [] lasts size left c w = tt
later-wide (row ∷ rows) [] size zero c w = (w.0, later-wide rows [] size zero tt w.1)
later-wide (row ∷ rows) (last ∷ lasts) size zero c w = (last-wide last row c.0 w.0, later-wide rows lasts size (pred size) c.1 w.1)
later-wide (row ∷ rows) lasts size (suc left) c w = (w.0, later-wide rows lasts size left c w.1)

pub fixed-length : (rows lasts : List (List ℕ)) (size : ℕ) (top : List ℕ) → length (fixed_up size top lasts rows) ≡ length rows
unfolding fixed_up
fixed-length [] lasts size top = refl
fixed-length (row ∷ rows) lasts size top = ap suc (length-later rows lasts size (pred size))

pub fixed-wide : (rows lasts : List (List ℕ)) (size : ℕ) (top : List ℕ) → Cells25 lasts → Wide rows → Wide (fixed_up size top lasts rows)
unfolding fixed_up first_row Wide
fixed-wide [] lasts size top c w = tt
fixed-wide (row ∷ rows) lasts size top c w =
    let stack : List ℕ = reversed16 top ++ (16 ∷ 0 ∷ 0 ∷ []) in
    (sides-wide (take 6 row) (reduced stack) row (six-cells row 49 w.0 (omega arith)) (length-reduced stack) w.0, later-wide rows lasts size (pred size) c w.1)

-- the cells of one fragment more change one row more
module _ (size : ℕ) (some : 0 < size) (cells : List ℕ) where
  sides : List ℕ → List ℕ
  sides row = with_sides (take 6 cells) (drop 6 cells) row

  later_more : (rows lasts : List (List ℕ)) (left : ℕ) → left + size * length lasts < length rows
      → later_rows size left (lasts ++ (cells ∷ [])) rows
      ≡ set (later_rows size left lasts rows) (left + size * length lasts) (sides (get_or (later_rows size left lasts rows) (left + size * length lasts) []))
  unfolding later_rows sides
  later_more [] lasts left h = absurd (omega arith)
  later_more (row ∷ rows) lasts (suc left) h =
      let e : suc left + size * length lasts ≡ suc (left + size * length lasts) = omega arith in
      rw e (ap (λ y. row ∷ y) (later_more rows lasts left (omega arith)))
  later_more (row ∷ rows) [] zero h =
      let e : 0 + size * 0 ≡ 0 = omega arith in
      rw (e, later-none rows size (pred size), later-none rows size zero)
  later_more (row ∷ rows) (last ∷ lasts) zero h =
      let e : 0 + size * suc (length lasts) ≡ suc (pred size + size * length lasts) = omega arith in
      rw e (ap (λ y. with_sides (take 6 last) (drop 6 last) row ∷ y) (later_more rows lasts (pred size) (omega arith)))

-- pass 1 on a buffer: n rows, of fragments of the given size
module _ (n size : ℕ) (some : 0 < size) (buffer : List ℕ) (fits : 49 * n ≤ length buffer) where
  rest : List ℕ
  rest = drop (49 * n) buffer

  module _ (built : List ℕ) where
    later : ℕ → List (List ℕ)
    later j = later_rows size size (built_of j built) (rows_of n buffer)

    length_at : (j : ℕ) → length (later j) ≡ n
    unfolding later
    length_at j = length-later (rows_of n buffer) (built_of j built) size size ∙ length-rows n buffer

    at_rows : (j : ℕ) → on_rows n (later_rows size size (built_of j built)) buffer ≡ flat (later j) ++ rest
    unfolding later rest
    at_rows j = on-rows n (later_rows size size (built_of j built)) buffer (length_at j)

    -- before the first of the later fragments
    pub later-start : buffer ≡ on_rows n (later_rows size size (built_of 0 built)) buffer
    unfolding later rest built_of
    later-start =
        as_rows n buffer ∙ sym (at_rows 0 ∙ ap (λ y. flat y ++ rest) (later-none (rows_of n buffer) size size))

    -- one of the later fragments more
    pub later-next : (j : ℕ) → suc j * size < n → 25 * suc j ≤ length built
        → put_row (on_rows n (later_rows size size (built_of j built)) buffer) (suc j * size)
        (with_sides (take 6 (reduced (take 25 (drop (25 * j) built)))) (drop 6 (reduced (take 25 (drop (25 * j) built))))
        (take 49 (drop (49 * (suc j * size)) (on_rows n (later_rows size size (built_of j built)) buffer))))
        ≡ on_rows n (later_rows size size (built_of (suc j) built)) buffer
    unfolding later sides
    later-next j h b =
        let w : Wide (later j) = later-wide (rows_of n buffer) (built_of j built) size size (built-wide j built (omega arith)) (wide_rows n buffer fits) in
        let in_rows : suc j * size < length (later j) = omega (arith, length_at j) in
        let at : size + size * length (built_of j built) ≡ suc j * size = rw length-built (omega arith) in
        let cells : List ℕ = reduced (take 25 (drop (25 * j) built)) in
        let in_all : size + size * length (built_of j built) < length (rows_of n buffer) = omega (arith, at, length-rows n buffer) in
        rw (at_rows j, row-at (later j) rest (suc j * size) w in_rows, put-set (later j) rest (suc j * size) (sides size some cells (get_or (later j) (suc j * size) [])) w in_rows)
        (sym (at_rows (suc j) ∙ ap (λ y. flat y ++ rest) (ap (λ y. later_rows size size y (rows_of n buffer)) (built-more j built) ∙ (rw at at (later_more size some cells (rows_of n buffer) (built_of j built) size in_all)))))

    -- a turn of the loop: fragment k gets the built cells of fragment k - 1
    pub later-turn : (k : ℕ) → 1 ≤ k → k * size < n → 25 * k ≤ length built
        → put_row (on_rows n (later_rows size size (built_of (k - 1) built)) buffer) (k * size)
        (with_sides (take 6 (reduced (take 25 (drop (25 * (k - 1)) built)))) (drop 6 (reduced (take 25 (drop (25 * (k - 1)) built))))
        (take 49 (drop (49 * (k * size)) (on_rows n (later_rows size size (built_of (k - 1) built)) buffer))))
        ≡ on_rows n (later_rows size size (built_of (k + 1 - 1) built)) buffer
    later-turn zero some h b = absurd (omega arith)
    later-turn (suc j) some h b =
        let e : suc j - 1 ≡ j = omega arith in
        let f : suc j + 1 - 1 ≡ suc j = omega arith in
        rw (e, f) (later-next j h b)

-- row 0's stack cells first, and then the later fragments
pub first-then-later : (n size : ℕ) (buffer top : List ℕ) (lasts : List (List ℕ)) → 0 < n → 0 < size → 49 * n ≤ length buffer
    → on_rows n (later_rows size size lasts) (put_row buffer 0 (first_row top (take 49 buffer))) ≡ on_rows n (fixed_up size top lasts) buffer
unfolding rows_of Wide later_rows fixed_up first_row
first-then-later zero size buffer top lasts some more fits = absurd (omega arith)
first-then-later (suc n) zero buffer top lasts some more fits = absurd (omega arith)
first-then-later (suc n) (suc size) buffer top lasts some more fits =
    let first : List ℕ = first_row top (take 49 buffer) in
    let stack : List ℕ = reversed16 top ++ (16 ∷ 0 ∷ 0 ∷ []) in
    let others : List (List ℕ) = rows_of n (drop 49 buffer) in
    let behind : List ℕ = drop (49 * suc n) buffer in
    let wide = wide_rows (suc n) buffer fits in
    let written : put_row buffer 0 first ≡ flat (first ∷ others) ++ behind =
    ap (λ y. put_row y 0 first) (as_rows (suc n) buffer) ∙ put-set (take 49 buffer ∷ others) behind 0 first wide (omega arith) in
    let row : length first ≡ 49 = sides-wide (take 6 (take 49 buffer)) (reduced stack) (take 49 buffer) (length-take 6 (take 49 buffer) ∙ omega (arith, wide.0)) (length-reduced stack) wide.0 in
    let long : suc (length others) ≡ suc n = ap suc (length-rows n (drop 49 buffer)) in
    let later = on-flat (first ∷ others) behind (later_rows (suc size) (suc size) lasts) (row, wide.1) (length-later (first ∷ others) lasts (suc size) (suc size)) in
    let fixed = on-rows (suc n) (fixed_up (suc size) top lasts) buffer (ap suc (length-later others lasts (suc size) size) ∙ long) in
    rw written (rw long at later ∙ sym fixed)
