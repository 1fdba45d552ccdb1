-- Pass 2 made before pass 1 comes to the same: pass 1 writes system and stack cells, and pass 2 reads and writes decoder cells.
use mathlib.Core.Path.{◌≡◌, refl, sym, ap, ap₂, ◌∙◌, fun_ext}
use mathlib.Core.Bool.{Bool, true, false}
use mathlib.Core.List.{List, [], ◌∷◌, ◌++◌}
use Prim.Native.Nat.{ℕ, zero, suc, pred, ◌+◌, ◌-◌, ◌*◌, ◌%◌, ◌≤◌, ◌<◌}
use native.Mathlib.Omega.{arith}
use lib.Dec.{eqb}
use lib.ListN.{length, take, drop, get_or, set, length-append, get_or-append}
use lib.Seq.{get_or-append-add, set-append_left, take-set-le, drop-set-add, take-set-lt, get_or-take, get_or-drop}
use Rattle.field.specs.Modulus.{P}
use Rattle.field.specs.Cells.{cell_at, reduced}
use Rattle.groups.specs.Answer.{pick}
use Rattle.rows.specs.declared.records.profile.Profile.{Profile}
use Rattle.rows.specs.records.Built.{reversed16}
use Rattle.rows.specs.records.Buffers.{rows_of, on_rows, flat, addr_of, h4_of, opcode_of}
use Rattle.rows.specs.passes.Passes.{with_sides, first_row, later_rows, fixed_up, built_of, flagged_end, body_ends, with_counts, multiplied, sum_of, all_passes}
use Rattle.rows.specs.ways.Finisher.{other_passes}
use Rattle.rows.proofs.passes.RowCells.{opcode-same}
use Rattle.rows.proofs.passes.RowLists.{Wide, length-rows, wide_rows, on-flat, as_rows}
use Rattle.rows.proofs.passes.FirstRows.{Cells25, built-wide, decoder-length, six-cells, fixed-length, fixed-wide}
use Rattle.rows.proofs.passes.Written.{multiplied-length, multiplied-wide}

-- ONE ROW

set-append-add : (xs ys : List ℕ) (n v : ℕ) → set (xs ++ ys) (length xs + n) v ≡ xs ++ set ys n v
set-append-add [] ys n v = let e : 0 + n ≡ n = omega arith in rw e
set-append-add (x ∷ xs) ys n v = let e : suc (length xs) + n ≡ suc (length xs + n) = omega arith in rw e (ap (λ (l : List ℕ). x ∷ l) (set-append-add xs ys n v))

module _ (system stack row : List ℕ) (six : length system ≡ 6) (wide : length row ≡ 49) where
  -- a decoder cell is as it was
  sides-cell : (k : ℕ) → k < 24 → get_or (with_sides system stack row) (6 + k) 0 ≡ get_or row (6 + k) 0
  unfolding with_sides
  sides-cell k h =
      let e : 6 + k ≡ length system + k = omega arith in
      get_or-append (system ++ take 24 (drop 6 row)) stack 0 (6 + k) (omega (arith, length-append system (take 24 (drop 6 row)), decoder-length row wide))
      ∙ ap (λ (i : ℕ). get_or (system ++ take 24 (drop 6 row)) i 0) e ∙ get_or-append-add system (take 24 (drop 6 row)) k 0 ∙ get_or-take 24 (drop 6 row) k 0 h ∙ get_or-drop 6 row k 0

  sides-opcode : opcode_of (with_sides system stack row) ≡ opcode_of row
  sides-opcode = opcode-same (with_sides system stack row) row (λ k h. let e : 7 + k ≡ 6 + (1 + k) = omega arith in rw e (sides-cell (1 + k) (omega arith)))

  sides-read : (k : ℕ) → k < 24 → cell_at (with_sides system stack row) (6 + k) ≡ cell_at row (6 + k)
  unfolding cell_at
  sides-read k h = ap (λ (x : ℕ). x % P) (sides-cell k h)

  -- a count that is written into the row, before or behind
  sides-count : (v : ℕ) → set (with_sides system stack row) 23 v ≡ with_sides system stack (set row 23 v)
  unfolding with_sides
  sides-count v =
      let e : 23 ≡ length system + 17 = omega arith in
      let d : set (take 24 (drop 6 row)) 17 v ≡ take 24 (drop 6 (set row 23 v)) = sym (ap (take 24) (drop-set-add 6 row 17 v) ∙ take-set-lt 24 (drop 6 row) 17 v (omega arith)) in
      set-append_left (system ++ take 24 (drop 6 row)) stack 23 v (omega (arith, length-append system (take 24 (drop 6 row)), decoder-length row wide))
      ∙ ap (λ (l : List ℕ). l ++ stack) (ap (λ (i : ℕ). set (system ++ take 24 (drop 6 row)) i v) e ∙ set-append-add system (take 24 (drop 6 row)) 17 v ∙ ap (λ (l : List ℕ). system ++ l) d)

-- MANY ROWS

-- rows that are the same to pass 2
unfoldable Kin : (a b : List (List ℕ)) → Type 0
Kin [] [] = Unit {0}
Kin [] (y ∷ b) = ⊥
Kin (x ∷ a) [] = ⊥
Kin (x ∷ a) (y ∷ b) = (opcode_of x ≡ opcode_of y) × (h4_of x ≡ h4_of y) × (addr_of x ≡ addr_of y) × Kin a b

none-kin : Kin [] []
unfolding Kin
none-kin = tt

-- a LOOP row with its count, by the rows behind it
abbrev counted : Profile → (count : ℕ → ℕ) → (row : List ℕ) → (rest : List (List ℕ)) → List ℕ
counted p count row [] = row
counted p count row (next ∷ rest) = pick (eqb (opcode_of row) p.loop_op) (set row 23 (count (addr_of next))) row

module _ (p : Profile) where
  flagged-kin : (x y : List ℕ) → opcode_of x ≡ opcode_of y → h4_of x ≡ h4_of y → flagged_end p x ≡ flagged_end p y
  unfolding flagged_end
  flagged-kin x y e f = rw (e, f)

  ends-kin : (addr : ℕ) (a b : List (List ℕ)) → Kin a b → body_ends p addr a ≡ body_ends p addr b
  unfolding Kin body_ends
  ends-kin addr [] [] k = refl
  ends-kin addr (x ∷ []) (y ∷ []) k = refl
  ends-kin addr (x ∷ x' ∷ a) (y ∷ y' ∷ b) k =
      rw (flagged-kin x y k.0 k.1, k.3.2, ends-kin addr (x' ∷ a) (y' ∷ b) k.3)
  ends-kin addr (x ∷ []) (y ∷ y' ∷ b) k = absurd k.3
  ends-kin addr (x ∷ x' ∷ a) (y ∷ []) k = absurd k.3
  ends-kin addr [] (y ∷ b) k = absurd k
  ends-kin addr (x ∷ a) [] k = absurd k

  module _ (count : ℕ → ℕ) where
    none-counted : with_counts p count [] ≡ []
    unfolding with_counts
    none-counted = refl

    counts-cons : (row : List ℕ) (rest : List (List ℕ)) → with_counts p count (row ∷ rest) ≡ counted p count row rest ∷ with_counts p count rest
    unfolding with_counts
    counts-cons row [] = refl
    counts-cons row (next ∷ rest) = refl

    counted-kin : (row : List ℕ) (a b : List (List ℕ)) → Kin a b → counted p count row a ≡ counted p count row b
    unfolding Kin
    counted-kin row [] [] k = refl
    counted-kin row (x ∷ a) (y ∷ b) k = rw k.2
    counted-kin row [] (y ∷ b) k = absurd k
    counted-kin row (x ∷ a) [] k = absurd k

    set-sides : (system stack row : List ℕ) (v : ℕ) (b : Bool) → length system ≡ 6 → length row ≡ 49 → pick b (set (with_sides system stack row) 23 v) (with_sides system stack row) ≡ with_sides system stack (pick b (set row 23 v) row)
    set-sides system stack row v true six wide = sides-count system stack row six wide v
    set-sides system stack row v false six wide = refl

    counted-sides : (system stack row : List ℕ) (rest : List (List ℕ)) → length system ≡ 6 → length row ≡ 49 → counted p count (with_sides system stack row) rest ≡ with_sides system stack (counted p count row rest)
    counted-sides system stack row [] six wide = refl
    counted-sides system stack row (next ∷ rest) six wide =
        rw (sides-opcode system stack row six wide) (set-sides system stack row (count (addr_of next)) (eqb (opcode_of row) p.loop_op) six wide)

    take_counted : (row : List ℕ) (rest : List (List ℕ)) → take 6 (counted p count row rest) ≡ take 6 row
    take_counted row [] = refl
    take_counted row (next ∷ rest) = by (eqb (opcode_of row) p.loop_op)
      where
        by : (b : Bool) → take 6 (pick b (set row 23 (count (addr_of next))) row) ≡ take 6 row
        by true = take-set-le 6 row 23 (count (addr_of next)) (omega arith)
        by false = refl

-- PASS 1

-- a row with other sides, among rows that are the same
sides-kin : (system stack row : List ℕ) (a b : List (List ℕ)) → length system ≡ 6 → length row ≡ 49 → Kin a b → Kin (with_sides system stack row ∷ a) (row ∷ b)
unfolding Kin
sides-kin system stack row a b six wide k =
    (sides-opcode system stack row six wide, sides-read system stack row six wide 12 (omega arith), sides-read system stack row six wide 0 (omega arith), k)

same-kin : (row : List ℕ) (a b : List (List ℕ)) → Kin a b → Kin (row ∷ a) (row ∷ b)
unfolding Kin
same-kin row a b k = (refl, refl, refl, k)

later-kin : (rows lasts : List (List ℕ)) (size left : ℕ) → Cells25 lasts → Wide rows → Kin (later_rows size left lasts rows) rows
unfolding later_rows Wide Cells25
later-kin [] lasts size left c w = none-kin
later-kin (row ∷ rows) [] size zero c w = same-kin row _ rows (later-kin rows [] size zero tt w.1)
later-kin (row ∷ rows) (last ∷ lasts) size zero c w = sides-kin (take 6 last) (drop 6 last) row _ rows (six-cells last 25 c.0 (omega arith)) w.0 (later-kin rows lasts size (pred size) c.1 w.1)
later-kin (row ∷ rows) lasts size (suc left) c w = same-kin row _ rows (later-kin rows lasts size left c w.1)

module _ (p : Profile) (count : ℕ → ℕ) where
  -- pass 2 on rows that begin with a row and go on with rows that are the same to it
  counts_behind : (row : List ℕ) (a b c : List (List ℕ)) → Kin a b → with_counts p count a ≡ c → with_counts p count (row ∷ a) ≡ counted p count row b ∷ c
  counts_behind row a b c k e = counts-cons p count row a ∙ ap₂ (λ (x : List ℕ) (y : List (List ℕ)). x ∷ y) (counted-kin p count row a b k) e

  later-counts : (rows lasts : List (List ℕ)) (size left : ℕ) → Cells25 lasts → Wide rows → with_counts p count (later_rows size left lasts rows) ≡ later_rows size left lasts (with_counts p count rows)
  unfolding later_rows Wide Cells25
  later-counts [] lasts size left c w = rw (none-counted p count)
  later-counts (row ∷ rows) [] size zero c w =
      rw (counts-cons p count row rows) (counts_behind row _ rows _ (later-kin rows [] size zero tt w.1) (later-counts rows [] size zero tt w.1))
  later-counts (row ∷ rows) (last ∷ lasts) size zero c w =
      rw (counts-cons p count row rows, ← counted-sides p count (take 6 last) (drop 6 last) row rows (six-cells last 25 c.0 (omega arith)) w.0)
      (counts_behind (with_sides (take 6 last) (drop 6 last) row) _ rows _ (later-kin rows lasts size (pred size) c.1 w.1) (later-counts rows lasts size (pred size) c.1 w.1))
  later-counts (row ∷ rows) lasts size (suc left) c w =
      rw (counts-cons p count row rows) (counts_behind row _ rows _ (later-kin rows lasts size left c w.1) (later-counts rows lasts size left c w.1))

  fixed-counts : (rows lasts : List (List ℕ)) (size : ℕ) (top : List ℕ) → Cells25 lasts → Wide rows → with_counts p count (fixed_up size top lasts rows) ≡ fixed_up size top lasts (with_counts p count rows)
  unfolding fixed_up first_row Wide
  fixed-counts [] lasts size top c w = rw (none-counted p count)
  fixed-counts (row ∷ rows) lasts size top c w =
      let stack : List ℕ = reduced (reversed16 top ++ (16 ∷ 0 ∷ 0 ∷ [])) in
      rw (counts-cons p count row rows, take_counted p count row rows, ← counted-sides p count (take 6 row) stack row rows (six-cells row 49 w.0 (omega arith)) w.0)
      (counts_behind (with_sides (take 6 row) stack row) _ rows _ (later-kin rows lasts size (pred size) c w.1) (later-counts rows lasts size (pred size) c w.1))

fixed-kin : (rows lasts : List (List ℕ)) (size : ℕ) (top : List ℕ) → Cells25 lasts → Wide rows → Kin (fixed_up size top lasts rows) rows
unfolding fixed_up first_row Wide
fixed-kin [] lasts size top c w = none-kin
fixed-kin (row ∷ rows) lasts size top c w = sides-kin (take 6 row) _ row _ rows (six-cells row 49 w.0 (omega arith)) w.0 (later-kin rows lasts size (pred size) c w.1)

-- BOTH PASSES

module _ (p : Profile) (size : ℕ) (top : List ℕ) (lasts : List (List ℕ)) (c : Cells25 lasts) where
  both-rows : (rows : List (List ℕ)) → Wide rows → fixed_up size top lasts (multiplied p rows) ≡ multiplied p (fixed_up size top lasts rows)
  unfolding multiplied
  both-rows rows w =
      let count : ℕ → ℕ = λ (addr : ℕ). body_ends p addr rows in
      let same : count ≡ (λ (addr : ℕ). body_ends p addr (fixed_up size top lasts rows)) = fun_ext (λ (addr : ℕ). sym (ends-kin p addr (fixed_up size top lasts rows) rows (fixed-kin rows lasts size top c w))) in
      sym (fixed-counts p count rows lasts size top c w) ∙ ap (λ (f : ℕ → ℕ). with_counts p f (fixed_up size top lasts rows)) same

  -- one after the other, on the first n rows of a buffer
  both : (rows : List (List ℕ)) (rest : List ℕ) → Wide rows → on_rows (length rows) (fixed_up size top lasts) (on_rows (length rows) (multiplied p) (flat rows ++ rest)) ≡ on_rows (length rows) (multiplied p) (on_rows (length rows) (fixed_up size top lasts) (flat rows ++ rest))
  both rows rest w =
      let m : length (multiplied p rows) ≡ length rows = multiplied-length p rows in
      let f : length (fixed_up size top lasts rows) ≡ length rows = fixed-length rows lasts size top in
      let a = rw m at (on-flat (multiplied p rows) rest (fixed_up size top lasts) (multiplied-wide p rows w) (fixed-length (multiplied p rows) lasts size top)) in
      let b = rw f at (on-flat (fixed_up size top lasts rows) rest (multiplied p) (fixed-wide rows lasts size top c w) (multiplied-length p (fixed_up size top lasts rows))) in
      rw (on-flat rows rest (multiplied p) w m, on-flat rows rest (fixed_up size top lasts) w f) (a ∙ ap (λ (r : List (List ℕ)). flat r ++ rest) (both-rows rows w) ∙ sym b)

  either_order : (n : ℕ) (b : List ℕ) → 49 * n ≤ length b → on_rows n (fixed_up size top lasts) (on_rows n (multiplied p) b) ≡ on_rows n (multiplied p) (on_rows n (fixed_up size top lasts) b)
  either_order n b fits = rw (← as_rows n b, length-rows n b) at (both (rows_of n b) (drop (49 * n) b) (wide_rows n b fits))

-- the finisher's passes with the second one made first
pub second-first : (p : Profile) (size : ℕ) (counts built top : List ℕ) (height : ℕ) (b : List ℕ) → 49 * sum_of counts ≤ length b → 25 * length counts ≤ length built →
    other_passes p size counts built top height (on_rows (sum_of counts) (multiplied p) b) ≡ all_passes p size counts built top height b
unfolding other_passes all_passes
second-first p size counts built top height b fits enough =
    rw (either_order p size top (built_of (length counts - 1) built) (built-wide (length counts - 1) built (omega arith)) (sum_of counts) b fits)
