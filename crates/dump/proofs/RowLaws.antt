-- Laws of reading a row from column to column.
use mathlib.Core.Path.{◌≡◌, ◌∙◌, refl, sym, ap}
use mathlib.Core.Bool.{Bool, true, false}
use mathlib.Core.List.{List, [], ◌∷◌, ◌++◌, append_assoc, append-nil}
use mathlib.Core.Option.{Option, none, some}
use Prim.Native.Nat.{ℕ, zero, suc, ◌+◌, ◌-◌, ◌≤◌, ◌<◌}
use native.Mathlib.Omega.{arith}
use lib.ListN.{length, get_or, set, drop, take, length-drop, length-set, drop_of_length-le}
use lib.Seq.{drop-cons, take-suc-set, drop-set-lt, set-get_or, take_all}
use Rattle.groups.specs.Answer.{pick}
use Rattle.theory_dumps.specs.Dumps.{identifier}
use Rattle.theory_dumps.specs.ways.Undump.{line_value, is_line_of, after_value, or_none, with_value, read_changes}
use Rattle.dump.specs.ways.Reading.{row_then}
use Rattle.dump.specs.ways.Scanning.{LineFrom, NoLineFrom, found, line_identifier, next_value}
use Rattle.dump.proofs.LineLaws.{next_same}

-- values in front of a row that was read
unfoldable pub with_front : (front : List ℕ) → Option (List ℕ × List ℕ) → Option (List ℕ × List ℕ)
with_front front none = none
with_front front (some x) = some (front ++ x.0, x.1)

front-value : (front : List ℕ) (value : ℕ) (o : Option (List ℕ × List ℕ)) → with_front front (with_value value o) ≡ with_front (front ++ (value ∷ [])) o
unfolding with_front
front-value front value none = refl
front-value front value (some x) = ap (λ (l : List ℕ). row_then l x.1) (sym (append_assoc front (value ∷ []) x.0))

no_front : (o : Option (List ℕ × List ℕ)) → with_front [] o ≡ o
unfolding with_front
no_front none = refl
no_front (some x) = refl

-- a row by the next value and the values behind it
row_from : (column : ℕ) → (before : List ℕ) → ℕ × List ℕ → Option (List ℕ × List ℕ)
row_from column before x = with_value x.0 (read_changes (suc column) before x.1)

changes-next : (column old : ℕ) (before text : List ℕ) → read_changes column (old ∷ before) text ≡ or_none (next_value column old text) (row_from column before)
unfolding read_changes next_value row_from
changes-next column old before text = go (is_line_of column text) (after_value column old text)
  where
    go : (t : Bool) (o : Option (List ℕ)) →
        pick t (or_none o (λ rest. with_value (line_value text) (read_changes (suc column) before rest))) (with_value old (read_changes (suc column) before text))
        ≡ or_none (pick t (or_none o (found (line_value text))) (found old text)) (row_from column before)
    go true none = refl
    go true (some rest) = refl
    go false o = refl

-- the values of the first columns are read, and those of the others are as before; `rest` is what follows
pub record RowTo (text before row : List ℕ) (column : ℕ) (rest : List ℕ) : Type 0 where
  pub columns : column ≤ 49
  pub long : length row ≡ 49
  pub kept : drop column row ≡ drop column before
  pub is : read_changes 0 before text ≡ with_front (take column row) (read_changes column (drop column before) rest)

pub row-none : (text before : List ℕ) → length before ≡ 49 → RowTo text before before 0 text
row-none text before l = record { columns = omega arith; long = l; kept = refl; is = sym (no_front (read_changes 0 before text)) }

module _ (text before row : List ℕ) (column : ℕ) (rest : List ℕ) (r : RowTo text before row column rest) (h : column < 49) where
  old : drop column before ≡ get_or row column 0 ∷ drop (suc column) row
  old = sym r.kept ∙ drop-cons row column 0 (omega (arith, r.long))

  later : drop (suc column) row ≡ drop (suc column) before
  later =
      let l : column < length before = omega (arith, ap (λ (l : List ℕ). length l) r.kept, length-drop column row, length-drop column before, r.long) in
      let e : get_or row column 0 ∷ drop (suc column) row ≡ get_or before column 0 ∷ drop (suc column) before = sym old ∙ drop-cons before column 0 l in
      cc

  by_next : read_changes 0 before text ≡ with_front (take column row) (or_none (next_value column (get_or row column 0) rest) (row_from column (drop (suc column) row)))
  by_next = r.is ∙ ap (with_front (take column row)) (ap (λ (l : List ℕ). read_changes column l rest) old ∙ changes-next column (get_or row column 0) (drop (suc column) row) rest)

  from : (value : ℕ) (end : List ℕ) → with_front (take column row) (or_none (found value end) (row_from column (drop (suc column) row))) ≡ with_front (take column row ++ (value ∷ [])) (read_changes (suc column) (drop (suc column) row) end)
  unfolding row_from
  from value end = front-value (take column row) value (read_changes (suc column) (drop (suc column) row) end)

  row_more : (value : ℕ) (end : List ℕ) → next_value column (get_or row column 0) rest ≡ found value end → RowTo text before (set row column value) (suc column) end
  row_more value end e =
      let l : column < length row = omega (arith, r.long) in
      let same : drop (suc column) (set row column value) ≡ drop (suc column) row = drop-set-lt (suc column) row column value (omega arith) in
      record {
        columns = h;
        long = length-set row column value ∙ r.long;
        kept = same ∙ later;
        is =
            rw (take-suc-set row column value l, ← later)
            (by_next ∙ ap (λ (o : Option (ℕ × List ℕ)). with_front (take column row) (or_none o (row_from column (drop (suc column) row)))) e ∙ from value end);
      }

  row-stop : next_value column (get_or row column 0) rest ≡ none → read_changes 0 before text ≡ none
  unfolding with_front
  row-stop e = by_next ∙ rw e

-- the columns up to another have no line and are as before
row-skip : (n : ℕ) (text before row : List ℕ) (column : ℕ) (rest : List ℕ) → RowTo text before row column rest → column + n ≤ 49 → ((c : ℕ) → column ≤ c → c < column + n → ¬ (line_identifier rest ≡ identifier c)) → RowTo text before row (column + n) rest
row-skip zero text before row column rest r h d = let e : column + 0 ≡ column = omega arith in rw e r
row-skip (suc n) text before row column rest r h d =
    let e : suc column + n ≡ column + suc n = omega arith in
    let v : next_value column (get_or row column 0) rest ≡ found (get_or row column 0) rest = next_same column (get_or row column 0) rest (d column (omega arith) (omega arith)) in
    let next : RowTo text before row (suc column) rest =
    rw (set-get_or row column 0) at (row_more text before row column rest r (omega arith) (get_or row column 0) rest v) in
    rw e at (row-skip n text before row (suc column) rest next (omega arith) (λ c l m. d c (omega arith) (omega arith)))

module _ (text before row : List ℕ) (column : ℕ) (rest : List ℕ) (r : RowTo text before row column rest) where
  -- no line of a later column comes next
  pub row-end : NoLineFrom rest column → length before ≡ 49 → read_changes 0 before text ≡ row_then row rest
  unfolding with_front
  row-end n l =
      let e : column + (49 - column) ≡ 49 = omega (arith, r.columns) in
      let all : RowTo text before row 49 rest = rw e at (row-skip (49 - column) text before row column rest r (omega (arith, r.columns)) (λ c x y. n c x (omega arith))) in
      all.is
      ∙ rw (drop_of_length-le before {i = 49} (omega arith), take_all 49 row (omega (arith, r.long)))
      (unfold read_changes in ap (λ (m : List ℕ). row_then m rest) (append-nil row))

  -- the next line is of a later column
  module _ (next value count : ℕ) (f : LineFrom rest column next value count) where
    there : RowTo text before row next rest
    there =
        let m : column + (next - column) ≡ next = omega (arith, f.from) in
        rw m at (row-skip (next - column) text before row column rest r (omega (arith, f.from, f.is_column)) (λ c x y z. omega (arith, z, f.line.is_line, f.from)))

    pub line-more : (end : List ℕ) → found value end ≡ next_value next (get_or row next 0) rest → RowTo text before (set row next value) (suc next) end
    line-more end e = row_more text before row next rest there f.is_column value end (sym e)

    pub line-stop : none ≡ next_value next (get_or row next 0) rest → none ≡ read_changes 0 before text
    line-stop e = sym (row-stop text before row next rest there f.is_column (sym e))
