-- A dump's rows are the lines by places.
use mathlib.Core.Path.{◌≡◌, ◌∙◌, refl, sym, ap, ap₂}
use mathlib.Core.List.{List, [], ◌∷◌, ◌++◌, append_assoc, append-nil}
use Prim.Native.Nat.{ℕ, zero, suc, ◌+◌, ◌*◌, ◌/◌, ◌≤◌, ◌<◌}
use native.Mathlib.Omega.{arith}
use lib.ListN.{length, take, drop, get_or, length-drop, drop_of_length-le, get_or-replicate}
use lib.Seq.{drop-cons, drop-drop, get_or-take, get_or-drop, length-take-le}
use Rattle.field.specs.Modulus.{P}
use Rattle.field.specs.Cells.{reduced}
use Rattle.field.proofs.CellLaws.{length-reduced, get_or-reduced, reduced-take, read_below}
use Rattle.rows.specs.records.Buffers.{rows_of}
use Rattle.theory_readings.specs.Readings.{all_rows}
use Rattle.theory_dumps.specs.Dumps.{header, time_line, changes, later_lines, dump_lines, dump_rows, dump}
use Rattle.theory_dumps.specs.ways.Undump.{no_values}
use Rattle.theory_dumps.proofs.ReadBack.{Below, values-changed}
use Rattle.dump.specs.ways.Places.{value_at, old_at, change_line, changes_to, lines_of, lines_to}

-- 49 values, which are those of a function
record Values (l : List ℕ) (value : ℕ → ℕ) : Type 0 where
  long : length l ≡ 49
  each : (k : ℕ) → k < 49 → get_or l k 0 ≡ value k

-- COLUMNS

next-column : (cells : List ℕ) (row c : ℕ) → changes_to cells row c ++ change_line c (old_at cells row c) (value_at cells row c) ≡ changes_to cells row (suc c)
unfolding changes_to
next-column cells row c = refl

module _ (cells : List ℕ) (row : ℕ) (before values : List ℕ) (b : Values before (old_at cells row)) (v : Values values (value_at cells row)) where
  line-there : (c : ℕ) → c < 49 → changes c (drop c before) (drop c values) ≡ change_line c (old_at cells row c) (value_at cells row c) ++ changes (suc c) (drop (suc c) before) (drop (suc c) values)
  line-there c h =
      ap₂ (changes c) (drop-cons before c 0 (omega (arith, b.long)) ∙ ap (λ (x : ℕ). x ∷ drop (suc c) before) (b.each c h))
      (drop-cons values c 0 (omega (arith, v.long)) ∙ ap (λ (x : ℕ). x ∷ drop (suc c) values) (v.each c h))
      ∙ (unfold changes change_line in refl)

  from-column : (m c : ℕ) → c + m ≡ 49 → changes_to cells row c ++ changes c (drop c before) (drop c values) ≡ changes_to cells row 49
  from-column zero c e =
      let f : c ≡ 49 = omega arith in
      rw (f, drop_of_length-le values {i = 49} (omega (arith, v.long))) (unfold changes in append-nil (changes_to cells row 49))
  from-column (suc m) c e =
      ap (λ (l : List ℕ). changes_to cells row c ++ l) (line-there c (omega arith))
      ∙ sym (append_assoc (changes_to cells row c) (change_line c (old_at cells row c) (value_at cells row c)) (changes (suc c) (drop (suc c) before) (drop (suc c) values)))
      ∙ ap (λ (l : List ℕ). l ++ changes (suc c) (drop (suc c) before) (drop (suc c) values)) (next-column cells row c)
      ∙ from-column m (suc c) (omega arith)

  row-changes : changes 0 before values ≡ changes_to cells row 49
  row-changes = unfold changes_to in from-column 49 0 refl

-- ROWS

next_row : (cells : List ℕ) (row : ℕ) → lines_to cells row ++ lines_of cells row ≡ lines_to cells (suc row)
unfolding lines_to
next_row cells row = refl

row-values : (cells : List ℕ) (row : ℕ) → 49 * row + 49 ≤ length cells → Values (take 49 (drop (49 * row) (reduced cells))) (value_at cells row)
row-values cells row h =
    record {
      long = length-take-le 49 (drop (49 * row) (reduced cells)) (omega (arith, length-drop (49 * row) (reduced cells), length-reduced cells));
      each = λ k l. get_or-take 49 (drop (49 * row) (reduced cells)) k 0 l ∙ get_or-drop (49 * row) (reduced cells) k 0 ∙ get_or-reduced cells (49 * row + k);
    }

next-values : (cells : List ℕ) (row : ℕ) (l : List ℕ) → Values l (value_at cells row) → Values l (old_at cells (suc row))
unfolding old_at
next-values cells row l v = record { long = v.long; each = v.each }

from_row : (cells : List ℕ) (m row : ℕ) (before : List ℕ) → 49 * (row + m) ≤ length cells → Values before (old_at cells row) → lines_to cells row ++ later_lines row before (rows_of m (drop (49 * row) (reduced cells))) ≡ lines_to cells (row + m)
unfolding rows_of later_lines
from_row cells zero row before h b = let e : row + 0 ≡ row = omega arith in rw e (append-nil (lines_to cells row))
from_row cells (suc m) row before h b =
    let values : List ℕ = take 49 (drop (49 * row) (reduced cells)) in
    let v = row-values cells row (omega arith) in
    let e : suc row + m ≡ row + suc m = omega arith in
    let f : 49 * row + 49 ≡ 49 * suc row = omega arith in
    let g : drop 49 (drop (49 * row) (reduced cells)) ≡ drop (49 * suc row) (reduced cells) = drop-drop 49 (49 * row) (reduced cells) ∙ ap (λ (k : ℕ). drop k (reduced cells)) f in
    let more : List ℕ = later_lines (suc row) values (rows_of m (drop (49 * suc row) (reduced cells))) in
    ap₂ (λ (x : List ℕ) (y : List ℕ). lines_to cells row ++ (time_line row ++ x ++ later_lines (suc row) values (rows_of m y))) (row-changes cells row before values b v) g
    ∙ sym (append_assoc (lines_to cells row) (lines_of cells row) more)
    ∙ ap (λ (l : List ℕ). l ++ more) (next_row cells row)
    ∙ from_row cells m (suc row) values (omega arith) (next-values cells row values v)
    ∙ ap (lines_to cells) e

-- ALL

none_before : (cells : List ℕ) → Values no_values (old_at cells 0)
unfolding old_at
none_before cells = record { long = refl; each = λ k h. get_or-replicate 49 k P 0 h }

below-reduced : (l : List ℕ) → Below (reduced l)
unfolding Below reduced
below-reduced [] = tt
below-reduced (x ∷ l) = (read_below x, below-reduced l)

-- the first row's values are changes where there were none
all_lines : (n : ℕ) (cells : List ℕ) → 49 ≤ length cells → dump_lines (rows_of (suc n) (reduced cells)) ≡ later_lines 0 no_values (rows_of (suc n) (reduced cells))
unfolding dump_lines later_lines rows_of
all_lines n cells h =
    let row : List ℕ = take 49 (reduced cells) in
    ap (λ (l : List ℕ). time_line 0 ++ l ++ later_lines 1 row (rows_of n (drop 49 (reduced cells))))
    (sym (values-changed row 0 49 (length-take-le 49 (reduced cells) (omega (arith, length-reduced cells))) (rw (← (reduced-take 49 cells)) (below-reduced (take 49 cells)))))

no_lines : (cells l : List ℕ) → l ≡ lines_to cells 0 ++ l
unfolding lines_to
no_lines cells l = refl

some_rows : (n : ℕ) (cells : List ℕ) → 0 < n → 49 * n ≤ length cells → dump_lines (rows_of n (reduced cells)) ≡ lines_to cells n
some_rows zero cells h l = absurd (omega arith)
some_rows (suc n) cells h l =
    let e : 0 + suc n ≡ suc n = omega arith in
    all_lines n cells (omega arith)
    ∙ no_lines cells (later_lines 0 no_values (rows_of (suc n) (reduced cells)))
    ∙ from_row cells (suc n) 0 no_values (omega arith) (none_before cells)
    ∙ ap (lines_to cells) e

pub dump-is : (cells : List ℕ) → 49 ≤ length cells → dump cells ≡ header ++ lines_to cells (length cells / 49)
unfolding dump dump_rows all_rows
dump-is cells h =
    ap (λ (n : ℕ). header ++ dump_lines (rows_of (n / 49) (reduced cells))) (length-reduced cells)
    ∙ ap (λ (l : List ℕ). header ++ l) (some_rows (length cells / 49) cells (omega arith) (omega arith))
