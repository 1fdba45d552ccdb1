-- The inversion of the helper's column of the first rows is the inversion of each of these rows' helper cell.
use mathlib.Core.Path.{◌≡◌, ◌∙◌, refl, sym, ap}
use mathlib.Core.Bool.{Bool}
use mathlib.Core.List.{List, [], ◌∷◌, ◌++◌, append_assoc}
use Prim.Native.Nat.{ℕ, zero, suc, ◌+◌, ◌-◌, ◌*◌, ◌/◌, ◌%◌, ◌≤◌, ◌<◌}
use native.Mathlib.Decide.{ℕ_discrete, dec_lt}
use native.Mathlib.Omega.{arith}
use borrow.Author.Tests.{lt-ltb, le-ltb, ne_eqb}
use lib.Dec.{ltb, eqb}
use lib.ListN.{length, take, drop, get_or, set, length-append, length-drop, length-set, get_or-append}
use lib.Seq.{ext_get_or, get_or-set_same, get_or-set_other, get_or-take, get_or-drop, get_or-append-add, length-take-le}
use Rattle.field.specs.Inverse.{inverse_of}
use Rattle.field.specs.Column.{invert_if, in_column, invert_column}
use Rattle.field.proofs.Columns.{column-length, column-cell, column-none}
use Rattle.rows.specs.records.Buffers.{rows_of, flat, on_rows}
use Rattle.rows.specs.passes.Passes.{inverted}
use Rattle.rows.proofs.passes.RowLists.{drop-rows}

-- a row with its helper cell inverted
abbrev row_inverted : List ℕ → List ℕ
row_inverted row = set row 48 (inverse_of (get_or row 48 0))

ltb-suc : (a n : ℕ) → ltb (suc a) (suc n) ≡ ltb a n
ltb-suc a n = go (dec_lt a n)
  where
    go : Dec (a < n) → ltb (suc a) (suc n) ≡ ltb a n
    go (yes h) = lt-ltb (suc a) (suc n) (omega arith) ∙ sym (lt-ltb a n h)
    go (no h) = le-ltb (suc a) (suc n) (omega arith) ∙ sym (le-ltb a n (omega arith))

-- a row later, the same cell
in-later : (n j : ℕ) → in_column (suc n) 49 48 (49 + j) ≡ in_column n 49 48 j
unfolding in_column
in-later n j =
    let d : (49 + j) / 49 ≡ suc (j / 49) = omega arith in
    let m : (49 + j) % 49 ≡ j % 49 = omega arith in
    rw (d, m, ltb-suc (j / 49) n)

-- in the first row, the helper
in-first : (n i : ℕ) → i < 49 → in_column (suc n) 49 48 i ≡ eqb i 48
unfolding in_column
in-first n i h =
    let d : i / 49 ≡ 0 = omega arith in
    let m : i % 49 ≡ i = omega arith in
    rw (d, m, lt-ltb 0 (suc n) (omega arith))

-- one row more in front
column-row : (l : List ℕ) (n : ℕ) → 49 ≤ length l → invert_column l (suc n) 49 48 ≡ row_inverted (take 49 l) ++ invert_column (drop 49 l) n 49 48
column-row l n h = ext_get_or 0 (invert_column l (suc n) 49 48) (x ++ rest) same (λ i b. cell i (dec_lt i 49))
  where
    x : List ℕ
    x = row_inverted (take 49 l)

    rest : List ℕ
    rest = invert_column (drop 49 l) n 49 48

    wide : length x ≡ 49
    wide = length-set (take 49 l) 48 (inverse_of (get_or (take 49 l) 48 0)) ∙ length-take-le 49 l h

    same : length (invert_column l (suc n) 49 48) ≡ length (x ++ rest)
    same = column-length l (suc n) 49 48 ∙ omega (arith, length-append x rest, wide, column-length (drop 49 l) n 49 48, length-drop 49 l)

    in_row : (i : ℕ) → i < 49 → Dec (i ≡ 48) → invert_if (eqb i 48) (get_or l i 0) ≡ get_or x i 0
    in_row i b (yes e) = rw (e, get_or-set_same (take 49 l) 48 (inverse_of (get_or (take 49 l) 48 0)) 0 (omega (arith, length-take-le 49 l h)), get_or-take 49 l 48 0 (omega arith))
    in_row i b (no e) = rw (ne_eqb i 48 e, get_or-set_other (take 49 l) 48 i (inverse_of (get_or (take 49 l) 48 0)) 0 e, get_or-take 49 l i 0 b)

    cell : (i : ℕ) → Dec (i < 49) → get_or (invert_column l (suc n) 49 48) i 0 ≡ get_or (x ++ rest) i 0
    cell i (yes b) =
        column-cell l (suc n) 49 48 i ∙ ap (λ (t : Bool). invert_if t (get_or l i 0)) (in-first n i b) ∙ in_row i b (ℕ_discrete i 48)
        ∙ sym (get_or-append x rest 0 i (omega (arith, wide)))
    cell i (no b) =
        let j : ℕ = i - 49 in
        let e : i ≡ 49 + j = omega arith in
        column-cell l (suc n) 49 48 i
        ∙ ap (λ (k : ℕ). invert_if (in_column (suc n) 49 48 k) (get_or l k 0)) e
        ∙ ap (λ (t : Bool). invert_if t (get_or l (49 + j) 0)) (in-later n j)
        ∙ ap (λ (v : ℕ). invert_if (in_column n 49 48 j) v) (sym (get_or-drop 49 l j 0))
        ∙ sym (column-cell (drop 49 l) n 49 48 j)
        ∙ sym (get_or-append-add x rest j 0)
        ∙ ap (λ (k : ℕ). get_or (x ++ rest) (k + j) 0) wide
        ∙ ap (λ (k : ℕ). get_or (x ++ rest) k 0) (sym e)

length-inverted : (rows : List (List ℕ)) → length (inverted rows) ≡ length rows
unfolding inverted
length-inverted [] = refl
length-inverted (row ∷ rows) = ap suc (length-inverted rows)

pub inverted-rows : (n : ℕ) (b : List ℕ) → 49 * n ≤ length b → invert_column b n 49 48 ≡ on_rows n inverted b
unfolding on_rows rows_of inverted flat
inverted-rows zero b h = sym (column-none b 49 48)
inverted-rows (suc n) b h =
    let rest : List (List ℕ) = inverted (rows_of n (drop 49 b)) in
    let x : List ℕ = row_inverted (take 49 b) in
    column-row b n (omega arith)
    ∙ ap (λ (l : List ℕ). x ++ l) (inverted-rows n (drop 49 b) (rw length-drop (omega arith)) ∙ ap (λ (l : List ℕ). flat rest ++ l) (drop-rows (length rest) b))
    ∙ sym (append_assoc x (flat rest) (drop (49 * suc (length rest)) b))
