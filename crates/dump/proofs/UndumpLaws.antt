-- Laws of reading a whole text.
use mathlib.Core.Path.{◌≡◌, ◌∙◌, refl, sym, ap}
use mathlib.Core.Bool.{Bool, true, false, ◌&&◌}
use mathlib.Core.List.{List, [], ◌∷◌}
use mathlib.Core.Option.{Option, none, some}
use Prim.Native.Nat.{ℕ, ◌+◌, ◌*◌, ◌/◌, ◌%◌, ◌≤◌, ◌<◌}
use native.Mathlib.Omega.{arith}
use borrow.Author.Tests.{ltb-false, lt-ltb, le-ltb}
use lib.Dec.{ltb}
use lib.ListN.{length}
use Rattle.std.specs.List.{list_all}
use Rattle.field.specs.Modulus.{P}
use Rattle.groups.specs.Answer.{accepted, refused, pick}
use Rattle.rows.specs.records.Buffers.{buffer_wrong}
use Rattle.rows.proofs.passes.Checks.{neither}
use Rattle.theory_dumps.specs.Dumps.{header, time_line}
use Rattle.theory_dumps.specs.ways.Undump.{behind, or_none, with_row, read_rows, no_values, has_all, from_first, undump}
use Rattle.dump.specs.ways.Undumping.{few_rows, undumping, reading_dump}
use Rattle.dump.specs.ways.Reading.{row_then, timed_row, whole_first, rows_behind, how_many, the_rows, Storable}
use Rattle.dump.proofs.RowsLaws.{no-some, rows_step, rows_from, rows_of, RowsTo, plus_rows}

-- ALL VALUES

pub all-values : (values : List ℕ) → list_all (λ value. ltb value P) values ≡ has_all values
unfolding has_all
all-values [] = refl
all-values (value ∷ values) = ap (λ (b : Bool). ltb value P && b) (all-values values)

-- THE FIRST ROW

first-row : (row : List ℕ) (o : Option (List (List ℕ))) → or_none (with_row row o) from_first ≡ pick (has_all row) (with_row row o) none
unfolding from_first
first-row row none = go (has_all row)
  where
    go : (t : Bool) → none ≡ pick t (with_row row none) none
    go true = refl
    go false = refl
first-row row (some rows) = refl

pub first_by : (text : List ℕ) → or_none (read_rows (length text) 0 no_values text) from_first ≡ pick (whole_first (timed_row 0 no_values text)) (read_rows (length text) 0 no_values text) none
unfolding whole_first rows_from
first_by [] = unfold read_rows from_first timed_row behind time_line in refl
first_by (byte ∷ text) = rw (rows_step (length text) 0 no_values (byte ∷ text)) (go (timed_row 0 no_values (byte ∷ text)))
  where
    go : (o : Option (List ℕ × List ℕ)) → or_none (or_none o (rows_from (length text) 0)) from_first ≡ pick (whole_first o) (or_none o (rows_from (length text) 0)) none
    go none = refl
    go (some x) = first-row x.0 (read_rows (length text) 1 x.0 x.1)

-- by a row that was read
pub whole-by : (o : Option (List ℕ × List ℕ)) (row rest : List ℕ) → row_then row rest ≡ o → has_all row ≡ whole_first o
unfolding whole_first
whole-by o row rest e = rw (← e)

pub whole-none : (o : Option (List ℕ × List ℕ)) → none ≡ o → false ≡ whole_first o
unfolding whole_first
whole-none o e = rw (← e)

-- FEW ROWS

pub counted-few : (o : Option (List (List ℕ))) (rows : ℕ) → how_many o ≡ some rows → rows ≤ 16777216 → how_many (few_rows o) ≡ some rows
unfolding how_many few_rows
counted-few none rows e h = e
counted-few (some rs) rows e h =
    let l : length rs ≡ rows = cc in
    rw (le-ltb 16777216 (length rs) (omega arith)) e

pub none-few : (o : Option (List (List ℕ))) → how_many o ≡ none → how_many (few_rows o) ≡ none
unfolding how_many few_rows
none-few none e = refl
none-few (some rs) e = absurd (no-some (length rs) (sym e))

-- too many rows were read already
pub count-over : (text row : List ℕ) (number : ℕ) (rest : List ℕ) → RowsTo text row number rest → 16777216 < number → how_many (few_rows (rows_of 0 no_values text)) ≡ none
unfolding how_many few_rows plus_rows
count-over text row number rest t h = go (rows_of 0 no_values text) (rows_of number row rest) t.is
  where
    go : (o q : Option (List (List ℕ))) → how_many o ≡ plus_rows number (how_many q) → how_many (few_rows o) ≡ none
    go none q e = refl
    go (some rows) none e = absurd (no-some (length rows) (sym e))
    go (some rows) (some more) e =
        let n : length rows ≡ number + length more = cc in
        rw (lt-ltb 16777216 (length rows) (omega arith)) refl

module _ (lines : List ℕ) where
  pub not-whole : whole_first (timed_row 0 no_values lines) ≡ false → how_many (few_rows (rows_behind lines)) ≡ none
  unfolding rows_behind how_many few_rows
  not-whole e = rw (first_by lines, e)

  pub is_whole : whole_first (timed_row 0 no_values lines) ≡ true → rows_behind lines ≡ rows_of 0 no_values lines
  unfolding rows_behind
  is_whole e = first_by lines ∙ rw e

-- THE ANSWER

none-many : (o : Option (List (List ℕ))) → how_many o ≡ none → o ≡ none
unfolding how_many
none-many none e = refl
none-many (some rows) e = absurd (no-some (length rows) (sym e))

few-some : (o : Option (List (List ℕ))) (rows : List (List ℕ)) → few_rows o ≡ some rows → o ≡ some rows
unfolding few_rows
few-some none rows e = e
few-some (some rs) rows e = go (ltb 16777216 (length rs)) e
  where
    go : (t : Bool) → pick t none (some rs) ≡ some rows → some rs ≡ some rows
    go true e = absurd (no-some rows e)
    go false e = e

some-many : (o : Option (List (List ℕ))) (n : ℕ) → how_many o ≡ some n → (o ≡ some (the_rows o)) × (length (the_rows o) ≡ n)
unfolding how_many the_rows
some-many none n e = absurd (no-some n e)
some-many (some rows) n e = (refl, cc)

pub wrong-buffer : (text : List ℕ) (lent : ℕ) → buffer_wrong lent ≡ true → reading_dump text lent ≡ refused 11
unfolding reading_dump
wrong-buffer text lent w = rw w

module _ (text : List ℕ) (lent : ℕ) (w : buffer_wrong lent ≡ false) where
  pub no_header : behind header text ≡ none → reading_dump text lent ≡ refused 29
  unfolding reading_dump undump few_rows undumping
  no_header e = rw (w, e)

  module _ (lines : List ℕ) (start : behind header text ≡ some lines) where
    read_by : undump text ≡ rows_behind lines
    unfolding undump rows_behind
    read_by = rw start

    pub no_rows : how_many (few_rows (rows_behind lines)) ≡ none → reading_dump text lent ≡ refused 29
    unfolding reading_dump undumping
    no_rows e =
        let n : few_rows (undump text) ≡ none = ap few_rows read_by ∙ none-many (few_rows (rows_behind lines)) e in
        rw (w, n)

    module _ (rows : ℕ) (e : how_many (few_rows (rows_behind lines)) ≡ some rows) where
      few : (few_rows (rows_behind lines) ≡ some (the_rows (few_rows (rows_behind lines)))) × (length (the_rows (few_rows (rows_behind lines))) ≡ rows)
      few = some-many (few_rows (rows_behind lines)) rows e

      is_read : rows_behind lines ≡ some (the_rows (few_rows (rows_behind lines)))
      is_read = few-some (rows_behind lines) (the_rows (few_rows (rows_behind lines))) few.0

      same_rows : the_rows (rows_behind lines) ≡ the_rows (few_rows (rows_behind lines))
      same_rows = ap the_rows is_read ∙ unfold the_rows in refl

      answered : reading_dump text lent ≡ pick (ltb lent (49 * rows)) (refused 11) (accepted (the_rows (rows_behind lines)))
      unfolding reading_dump undumping
      answered =
          rw w
          (ap (λ (o : Option (List (List ℕ))). undumping o lent) (ap few_rows read_by ∙ few.0)
          ∙ rw (few.1, same_rows))

      pub too_short : lent / 49 < rows → reading_dump text lent ≡ refused 11
      too_short h = answered ∙ rw (lt-ltb lent (49 * rows) (omega arith))

      pub rows_long : length (the_rows (rows_behind lines)) ≡ rows
      rows_long = rw same_rows few.1

      right-rows : lent / 49 ≤ 16777216
      unfolding buffer_wrong
      right-rows = ltb-false 16777216 (lent / 49) (neither (ltb 0 (lent % 49)) (ltb 16777216 (lent / 49)) w).1

      module _ (h : rows ≤ lent / 49) where
        pub read_all : reading_dump text lent ≡ accepted (the_rows (rows_behind lines))
        read_all = answered ∙ rw (le-ltb lent (49 * rows) (omega arith))

        pub may-store : Storable lines rows lent
        may-store =
            record {
              is = rw same_rows is_read;
              long = rows_long;
              few = omega (arith, right-rows);
              room = omega arith;
            }
