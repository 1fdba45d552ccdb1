-- Laws of reading rows one after another.
use mathlib.Core.Path.{◌≡◌, ◌∙◌, refl, sym, ap}
use mathlib.Core.List.{List, [], ◌∷◌, ◌++◌}
use mathlib.Core.Option.{Option, none, some}
use Prim.Native.Nat.{ℕ, zero, suc, ◌+◌, ◌-◌, ◌≤◌, ◌<◌}
use native.Mathlib.Omega.{arith}
use lib.ListN.{length, length-append}
use Rattle.theory_dumps.specs.Dumps.{time_line, changes}
use Rattle.theory_dumps.specs.ways.Undump.{behind, or_none, with_row, or_end, read_changes, read_rows, no_values}
use Rattle.theory_dumps.proofs.ReadBack.{behind-is, changes-sound}
use Rattle.dump.specs.ways.Reading.{row_then, timed_row, how_many}

-- a row takes bytes of the text
pub no-some : {A : Type 0} (x : A) → none ≡ some x → ⊥
no-some x e = let z : ◌≡◌ {A = ℕ} 0 1 = cc in omega arith

pub timed-shorter : (number : ℕ) (before text row rest : List ℕ) → timed_row number before text ≡ row_then row rest → length rest < length text
unfolding timed_row
timed-shorter number before text row rest e = go (behind (time_line number) text) refl e
  where
    go : (o : Option (List ℕ)) → behind (time_line number) text ≡ o → or_none o (read_changes 0 before) ≡ row_then row rest → length rest < length text
    go none h e = absurd (no-some (row, rest) e)
    go (some lines) h e =
        let t : text ≡ time_line number ++ lines = behind-is (time_line number) text lines h in
        let c : lines ≡ changes 0 before row ++ rest = (changes-sound before lines row rest 0 e).is_text in
        let l : 0 < length (time_line number) = unfold time_line in omega arith in
        omega (arith, ap (λ (l : List ℕ). length l) t, ap (λ (l : List ℕ). length l) c, length-append (time_line number) lines, length-append (changes 0 before row) rest)

-- rows by the first and those behind it
unfoldable pub rows_from : (most number : ℕ) → List ℕ × List ℕ → Option (List (List ℕ))
rows_from most number x = with_row x.0 (read_rows most (suc number) x.0 x.1)

from_is : (most number : ℕ) (row rest : List ℕ) → rows_from most number (row, rest) ≡ with_row row (read_rows most (suc number) row rest)
unfolding rows_from
from_is most number row rest = refl

pub rows_step : (most number : ℕ) (before text : List ℕ) → read_rows (suc most) number before text ≡ or_end text (or_none (timed_row number before text) (rows_from most number))
unfolding read_rows timed_row rows_from
rows_step most number before text = ap (or_end text) (go (behind (time_line number) text))
  where
    go : (o : Option (List ℕ)) →
        or_none o (λ lines. or_none (read_changes 0 before lines) (λ x. with_row x.0 (read_rows most (suc number) x.0 x.1)))
        ≡ or_none (or_none o (read_changes 0 before)) (rows_from most number)
    go none = refl
    go (some lines) = refl

-- bytes enough are enough
rows-most : (most most' number : ℕ) (before text : List ℕ) → length text ≤ most → length text ≤ most' → read_rows most number before text ≡ read_rows most' number before text
unfolding read_rows rows_from
rows-most zero zero number before text h h' = refl
rows-most zero (suc most') number before [] h h' = refl
rows-most zero (suc most') number before (byte ∷ text) h h' = absurd (omega arith)
rows-most (suc most) zero number before [] h h' = refl
rows-most (suc most) zero number before (byte ∷ text) h h' = absurd (omega arith)
rows-most (suc most) (suc most') number before text h h' =
    rows_step most number before text
    ∙ ap (or_end text) (go (timed_row number before text) refl (rows-most most most' (suc number)))
    ∙ sym (rows_step most' number before text)
  where
    go : (o : Option (List ℕ × List ℕ)) → timed_row number before text ≡ o → ((b t : List ℕ) → length t ≤ most → length t ≤ most' → read_rows most (suc number) b t ≡ read_rows most' (suc number) b t) → or_none o (rows_from most number) ≡ or_none o (rows_from most' number)
    go none e more = refl
    go (some x) e more =
        let l : length x.1 < length text = timed-shorter number before text x.0 x.1 e in
        ap (with_row x.0) (more x.0 x.1 (omega arith) (omega arith))

-- COUNTING

unfoldable pub plus_rows : ℕ → Option ℕ → Option ℕ
plus_rows n none = none
plus_rows n (some m) = some (n + m)

no_rows : (o : Option ℕ) → plus_rows 0 o ≡ o
unfolding plus_rows
no_rows none = refl
no_rows (some m) = ap some (omega arith)

one-row : (n : ℕ) (row : List ℕ) (o : Option (List (List ℕ))) → plus_rows n (how_many (with_row row o)) ≡ plus_rows (suc n) (how_many o)
unfolding plus_rows how_many
one-row n row none = refl
one-row n row (some rows) = ap some (omega arith)

-- the rows of a text, as many bytes as it has
abbrev pub rows_of : (number : ℕ) → (before text : List ℕ) → Option (List (List ℕ))
rows_of number before text = read_rows (length text) number before text

pub rows_none : (number : ℕ) (before text : List ℕ) → length text ≡ 0 → rows_of number before text ≡ some []
unfolding read_rows
rows_none number before [] h = refl
rows_none number before (byte ∷ text) h = absurd (omega arith)

module _ (number : ℕ) (before text : List ℕ) (h : 0 < length text) where
  by_row : rows_of number before text ≡ or_none (timed_row number before text) (rows_from (length text - 1) number)
  by_row = go text h
    where
      go : (text : List ℕ) → 0 < length text → rows_of number before text ≡ or_none (timed_row number before text) (rows_from (length text - 1) number)
      go [] h = absurd (omega arith)
      go (byte ∷ text) h =
          let e : suc (length text) - 1 ≡ length text = omega arith in
          rw e (rows_step (length text) number before (byte ∷ text))

  pub rows-good : (row rest : List ℕ) → timed_row number before text ≡ row_then row rest → rows_of number before text ≡ with_row row (rows_of (suc number) row rest)
  rows-good row rest e =
      let l : length rest < length text = timed-shorter number before text row rest e in
      let m : read_rows (length text - 1) (suc number) row rest ≡ rows_of (suc number) row rest = rows-most (length text - 1) (length rest) (suc number) row rest (omega arith) (omega arith) in
      by_row ∙ ap (λ (o : Option (List ℕ × List ℕ)). or_none o (rows_from (length text - 1) number)) e ∙ from_is (length text - 1) number row rest ∙ ap (with_row row) m

  pub rows-bad : timed_row number before text ≡ none → rows_of number before text ≡ none
  rows-bad e = by_row ∙ rw e

-- the first rows are read; `rest` is what follows
pub record RowsTo (text row : List ℕ) (number : ℕ) (rest : List ℕ) : Type 0 where
  pub few : number + length rest ≤ length text
  pub long : length row ≡ 49
  pub is : how_many (rows_of 0 no_values text) ≡ plus_rows number (how_many (rows_of number row rest))

pub count_none : (text : List ℕ) → RowsTo text no_values 0 text
count_none text = record { few = omega arith; long = refl; is = sym (no_rows (how_many (rows_of 0 no_values text))) }

module _ (text before : List ℕ) (number : ℕ) (rest : List ℕ) (t : RowsTo text before number rest) where
  pub count-end : length rest ≡ 0 → how_many (rows_of 0 no_values text) ≡ some number
  unfolding plus_rows how_many
  count-end h = t.is ∙ rw (rows_none number before rest h) (ap some (omega arith))

  module _ (h : 0 < length rest) where
    pub count-more : (row end : List ℕ) → timed_row number before rest ≡ row_then row end → length row ≡ 49 → RowsTo text row (suc number) end
    count-more row end e l =
        record {
          few = omega (arith, timed-shorter number before rest row end e, t.few);
          long = l;
          is = t.is ∙ rw (rows-good number before rest h row end e) (one-row number row (rows_of (suc number) row end));
        }

    pub count-bad : timed_row number before rest ≡ none → how_many (rows_of 0 no_values text) ≡ none
    unfolding plus_rows how_many
    count-bad e = t.is ∙ rw (rows-bad number before rest h e)
