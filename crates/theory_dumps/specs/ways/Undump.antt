-- A way to read a dump back. Nobody has to believe it: what reading must answer is said by `dump` alone. That it finds rows exactly where the text is
-- their dump is a theorem (proofs/ReadBack.antt).
use Rattle.std.specs.Prelude.{Bool, true, not, ◌&&◌, List, [], ◌∷◌, ℕ, zero, suc, ◌+◌, eqb, ltb, length, get_or, drop, replicate}
use Rattle.std.proofs.Math.Option.{Option, none, some}
use Rattle.field.specs.Modulus.{P}
use Rattle.groups.specs.Answer.{pick}
use Rattle.groups.specs.Constants.{row_width}
use Rattle.theory_dumps.specs.ways.Spelled.{spelled}
use Rattle.theory_dumps.specs.Dumps.{identifier, header, time_line, value_line}

-- what follows a text that stands in front, or none
unfoldable pub behind : (front text : List ℕ) → Option (List ℕ)
behind [] text = some text
behind (x ∷ front) [] = none
behind (x ∷ front) (y ∷ text) = pick (eqb x y) (behind front text) none

-- the binary digits that a text begins with
unfoldable pub bits_in : List ℕ → List ℕ
bits_in [] = []
bits_in (d ∷ text) = pick (eqb d 48) (d ∷ bits_in text) (pick (eqb d 49) (d ∷ bits_in text) [])

-- of a line like `b101 !`: its digits and its value
abbrev pub line_bits : List ℕ → List ℕ
line_bits text = bits_in (drop 1 text)

abbrev pub line_value : List ℕ → ℕ
line_value text = spelled 2 0 (line_bits text)

-- whether the next line is a value line with the identifier of a column
unfoldable pub is_line_of : (column : ℕ) → (text : List ℕ) → Bool
is_line_of column text = eqb (get_or text 0 0) 98 && eqb (get_or text (2 + length (line_bits text)) 0) (identifier column)

-- a value of a column that is a cell, changed, and written as the writer writes it: what follows its line
unfoldable pub after_value : (column old : ℕ) → (text : List ℕ) → Option (List ℕ)
after_value column old text =
    pick (ltb (line_value text) P && not (eqb old (line_value text))) (behind (value_line column (line_value text)) text) none

-- a value in front of a row that was read, with what follows the row
abbrev pub with_value : (value : ℕ) → Option (List ℕ × List ℕ) → Option (List ℕ × List ℕ)
with_value value none = none
with_value value (some x) = some (value ∷ x.0, x.1)

-- goes on where there is something
abbrev pub or_none : {A B : Type 0} → Option A → (A → Option B) → Option B
or_none none f = none
or_none (some x) f = f x

-- a row from a column on, its values before being given: each column has a line or is as before; and what follows the row
unfoldable pub read_changes : (column : ℕ) → (before text : List ℕ) → Option (List ℕ × List ℕ)
read_changes column [] text = some ([], text)
read_changes column (old ∷ before) text =
    pick (is_line_of column text)
    (or_none (after_value column old text) (λ rest. with_value (line_value text) (read_changes (suc column) before rest)))
    (with_value old (read_changes (suc column) before text))

-- rows in front of others
abbrev pub with_row : (row : List ℕ) → Option (List (List ℕ)) → Option (List (List ℕ))
with_row row none = none
with_row row (some rows) = some (row ∷ rows)

-- no more rows at the end of the text
abbrev pub or_end : (text : List ℕ) → Option (List (List ℕ)) → Option (List (List ℕ))
or_end [] rows = some []
or_end (byte ∷ text) rows = rows

-- the rows from a number on, the row before being given, up to the end of the text; no text has more rows than bytes
unfoldable pub read_rows : (most number : ℕ) → (before text : List ℕ) → Option (List (List ℕ))
read_rows zero number before text = or_end text none
read_rows (suc most) number before text =
    or_end text
    (or_none (behind (time_line number) text) (λ lines.
    or_none (read_changes 0 before lines) (λ x. with_row x.0 (read_rows most (suc number) x.0 x.1))))

-- before the first row no column has a value: p is no cell
abbrev pub no_values : List ℕ
no_values = replicate row_width P

-- whether every column has a value
unfoldable pub has_all : List ℕ → Bool
has_all [] = true
has_all (value ∷ row) = ltb value P && has_all row

-- there is a first row, and it has all values
unfoldable pub from_first : List (List ℕ) → Option (List (List ℕ))
from_first [] = none
from_first (row ∷ rows) = pick (has_all row) (some (row ∷ rows)) none

unfoldable pub undump : (text : List ℕ) → Option (List (List ℕ))
undump text = or_none (behind header text) (λ lines. or_none (read_rows (length lines) 0 no_values lines) from_first)
