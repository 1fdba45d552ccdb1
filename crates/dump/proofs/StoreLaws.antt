-- Laws of storing the rows that are read.
use mathlib.Core.Path.{◌≡◌, ◌∙◌, refl, sym, ap}
use mathlib.Core.Bool.{Bool, true, false}
use mathlib.Core.List.{List, [], ◌∷◌, ◌++◌, append-nil}
use mathlib.Core.Option.{Option, none, some}
use Prim.Native.Nat.{ℕ, zero, suc, ◌+◌, ◌*◌, ◌≤◌, ◌<◌}
use native.Mathlib.Omega.{arith}
use lib.ListN.{length, drop, take, get_or, length-drop, length-append}
use lib.Seq.{drop-cons, take-suc, take_at, drop_at, drop-drop, take-length, length-take-le}
use Rattle.field.specs.Cells.{reduced}
use Rattle.field.proofs.CellLaws.{read_small}
use Rattle.groups.specs.Answer.{pick}
use Rattle.rows.specs.records.Cells.{put_row, copied_in}
use Rattle.rows.proofs.records.Rooms.{copied-row}
use Rattle.rows.specs.records.Buffers.{flat}
use Rattle.rows.proofs.passes.RowLists.{Wide, length-flat, flat-app}
use Rattle.theory_dumps.specs.Dumps.{header}
use Rattle.theory_dumps.specs.ways.Undump.{or_none, with_row, no_values, has_all, from_first, undump}
use Rattle.theory_dumps.proofs.ReadBack.{Rows, Below, behind-front, read-dumped}
use Rattle.dump.specs.ways.Reading.{row_then, timed_row, rows_behind, the_rows, Storable}
use Rattle.dump.proofs.RowsLaws.{no-some, rows_of, rows_none, rows-good, rows-bad}

-- ROWS OF CELLS

below-reduced : (row : List ℕ) → Below row → reduced row ≡ row
unfolding Below reduced
below-reduced [] b = refl
below-reduced (x ∷ row) b = rw (read_small x b.0, below-reduced row b.1)

wide-take : (n : ℕ) (rows : List (List ℕ)) → Rows rows → Wide (take n rows)
unfolding Rows Wide
wide-take zero rows r = tt
wide-take (suc n) [] r = tt
wide-take (suc n) (row ∷ rows) r = (r.0.0, wide-take n rows r.1)

flat-long : (n : ℕ) (rows : List (List ℕ)) → Rows rows → n ≤ length rows → length (flat (take n rows)) ≡ 49 * n
flat-long n rows r h = length-flat (take n rows) (wide-take n rows r) ∙ ap (λ (n : ℕ). 49 * n) (length-take-le n rows h)

flat-one : (row : List ℕ) → flat (row ∷ []) ≡ row
unfolding flat
flat-one row = append-nil row

flat-next : (rows : List (List ℕ)) (i : ℕ) → i < length rows → flat (take (suc i) rows) ≡ flat (take i rows) ++ get_or rows i []
flat-next rows i h =
    ap flat (take-suc rows i [] h)
    ∙ flat-app (take i rows) (get_or rows i [] ∷ [])
    ∙ ap (λ (l : List ℕ). flat (take i rows) ++ l) (flat-one (get_or rows i []))

row_below : (rows : List (List ℕ)) (i : ℕ) → Rows rows → i < length rows → Below (get_or rows i [])
unfolding Rows
row_below [] i r h = absurd (omega arith)
row_below (row ∷ rows) zero r h = r.0.1
row_below (row ∷ rows) (suc i) r h = row_below rows i r.1 (omega arith)

-- what is read of a good text are all its rows from the first on
first-same : (rows rows' : List (List ℕ)) → from_first rows ≡ some rows' → rows ≡ rows'
unfolding from_first
first-same [] rows' e = absurd (no-some rows' e)
first-same (row ∷ rows) rows' e = go (has_all row) e
  where
    go : (t : Bool) → pick t (some (row ∷ rows)) none ≡ some rows' → row ∷ rows ≡ rows'
    go true e = cc
    go false e = absurd (no-some rows' e)

all_read : (lines : List ℕ) (rows : List (List ℕ)) → rows_behind lines ≡ some rows → rows_of 0 no_values lines ≡ some rows
unfolding rows_behind
all_read lines rows e = go (rows_of 0 no_values lines) e
  where
    go : (o : Option (List (List ℕ))) → or_none o from_first ≡ some rows → o ≡ some rows
    go none f = absurd (no-some rows f)
    go (some rs) f = ap some (first-same rs rows f)

-- they are rows of cells: those of the text with the header in front
cells-read : (lines : List ℕ) (rows : List (List ℕ)) → rows_behind lines ≡ some rows → Rows rows
unfolding undump rows_behind
cells-read lines rows e = (read-dumped (header ++ lines) rows (rw (behind-front header lines) e)).cells

with-row : (row : List ℕ) (o : Option (List (List ℕ))) (rows : List (List ℕ)) (next : List ℕ) → with_row row o ≡ some (next ∷ rows) → (o ≡ some rows) × (row ≡ next)
with-row row none rows next e = absurd (no-some (next ∷ rows) e)
with-row row (some more) rows next e = (cc, cc)

-- STORING

abbrev pub rows_in : List ℕ → List (List ℕ)
rows_in lines = the_rows (rows_behind lines)

pub record StoredTo (lines : List ℕ) (rows : ℕ) (lent cells row : List ℕ) (number : ℕ) (rest : List ℕ) : Type 0 where
  pub long : length row ≡ 49
  pub is : rows_of number row rest ≡ some (drop number (rows_in lines))
  pub stored : cells ≡ flat (take number (rows_in lines)) ++ drop (49 * number) lent
  pub same : length cells ≡ length lent

module _ (lines : List ℕ) (rows : ℕ) (lent : List ℕ) (s : Storable lines rows (length lent)) where
  pub stored-none : StoredTo lines rows lent lent no_values 0 lines
  stored-none =
      record {
        long = refl;
        is = all_read lines (rows_in lines) s.is;
        stored = unfold flat in refl;
        same = refl;
      }

  module _ (cells before : List ℕ) (number : ℕ) (rest : List ℕ) (t : StoredTo lines rows lent cells before number rest) where
    pub stored-all : number ≡ rows → cells ≡ flat (rows_in lines) ++ drop (49 * rows) lent
    stored-all e =
        let f : take number (rows_in lines) ≡ rows_in lines = rw (e, ← s.long) (take-length (rows_in lines)) in
        t.stored ∙ rw (f, e)

    module _ (h : number < rows) where
      abbrev next : List ℕ
      next = get_or (rows_in lines) number []

      inside : number < length (rows_in lines)
      inside = omega (arith, s.long)

      is-more : rows_of number before rest ≡ some (next ∷ drop (suc number) (rows_in lines))
      is-more = t.is ∙ ap some (drop-cons (rows_in lines) number [] inside)

      no_end : 0 < length rest
      no_end = go (length rest) refl
        where
          go : (n : ℕ) → length rest ≡ n → 0 < n
          go zero e =
              let n = rows_none number before rest e in
              let z : ◌≡◌ {A = ℕ} 0 1 = cc is-more in
              absurd (omega arith)
          go (suc n) e = omega arith

      pub is-row : timed_row number before rest ≡ none → ⊥
      is-row e = no-some (next ∷ drop (suc number) (rows_in lines)) (sym (rows-bad number before rest no_end e) ∙ is-more)

      module _ (row end : List ℕ) (e : timed_row number before rest ≡ row_then row end) (wide : length row ≡ 49) where
        parts : (rows_of (suc number) row end ≡ some (drop (suc number) (rows_in lines))) × (row ≡ next)
        parts = with-row row (rows_of (suc number) row end) (drop (suc number) (rows_in lines)) next (sym (rows-good number before rest no_end row end e) ∙ is-more)

        all-cells : Rows (rows_in lines)
        all-cells = cells-read lines (rows_in lines) s.is

        copied : copied_in cells (49 * number) row ≡ put_row cells number row
        copied =
            let b : Below row = rw parts.1 (row_below (rows_in lines) number all-cells inside) in
            copied-row cells number row wide (omega (arith, t.same, s.room)) ∙ ap (put_row cells number) (below-reduced row b)

        front_long : length (flat (take number (rows_in lines))) ≡ 49 * number
        front_long = flat-long number (rows_in lines) all-cells (omega (arith, inside))

        put : put_row cells number row ≡ flat (take (suc number) (rows_in lines)) ++ drop (49 * suc number) lent
        unfolding put_row
        put =
            let f : List ℕ = flat (take number (rows_in lines)) in
            let next_place : 49 * number + 49 ≡ 49 * suc number = omega arith in
            let taken : take (49 * number) cells ≡ f = ap (take (49 * number)) t.stored ∙ take_at f (drop (49 * number) lent) (49 * number) front_long in
            let dropped : drop (49 * number + 49) cells ≡ drop (49 * suc number) lent =
            sym (drop-drop 49 (49 * number) cells)
            ∙ ap (drop 49) (ap (drop (49 * number)) t.stored ∙ drop_at f (drop (49 * number) lent) (49 * number) front_long)
            ∙ drop-drop 49 (49 * number) lent
            ∙ ap (λ (n : ℕ). drop n lent) next_place in
            let flats : flat (take (suc number) (rows_in lines)) ≡ f ++ row = flat-next (rows_in lines) number inside ∙ ap (λ (l : List ℕ). f ++ l) (sym parts.1) in
            rw (taken, dropped, flats)

        pub stored_more : StoredTo lines rows lent (copied_in cells (49 * number) row) row (suc number) end
        stored_more =
            record {
              long = wide;
              is = parts.0;
              stored = copied ∙ put;
              same =
                  ap (λ (l : List ℕ). length l) (copied ∙ put)
                  ∙ omega (arith, length-append (flat (take (suc number) (rows_in lines))) (drop (49 * suc number) lent), flat-long (suc number) (rows_in lines) all-cells inside, length-drop (49 * suc number) lent, s.room);
            }
