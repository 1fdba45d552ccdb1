-- How a text is scanned.
use Rattle.std.specs.Prelude.{◌≡◌, ◌||◌, List, [], ◌∷◌, ℕ, ◌+◌, ◌^◌, ◌≤◌, ◌<◌, eqb, ltb, length, get_or}
use Rattle.std.proofs.Math.Option.{Option, some}
use Rattle.groups.specs.Answer.{pick}
use Rattle.groups.specs.Constants.{row_width}
use Rattle.theory_dumps.specs.ways.Spelled.{spelled}
use Rattle.theory_dumps.specs.Dumps.{identifier}
use Rattle.theory_dumps.specs.ways.Undump.{line_bits, line_value, is_line_of, after_value, or_none}

-- the digits in a base that a text begins with
unfoldable pub digits_in : (base : ℕ) → List ℕ → List ℕ
digits_in base [] = []
digits_in base (d ∷ text) = pick (ltb d 48 || ltb (47 + base) d) [] (d ∷ digits_in base text)

-- digits, how many they are, and the number that they spell, where 64 bits hold as many digits
pub record DigitsRead (base : ℕ) (digits : List ℕ) (count value : ℕ) : Type 0 where
  pub is_count : count ≡ length digits
  pub is_value : base ^ count ≤ 2 ^ 64 → value ≡ spelled base 0 digits

-- of a line like `b101 !` its identifier; 0, which is none, where the text begins with no such line
unfoldable pub line_identifier : List ℕ → ℕ
line_identifier text = pick (eqb (get_or text 0 0) 98) (get_or text (2 + length (line_bits text)) 0) 0

-- a line of a column, its value, where 64 bits hold it, and how many digits it has
pub record LineOf (text : List ℕ) (column value count : ℕ) : Type 0 where
  pub is_line : line_identifier text ≡ identifier column
  pub is_count : count ≡ length (line_bits text)
  pub is_value : count ≤ 64 → value ≡ line_value text

-- a line of one of the columns from `first` on
pub record LineFrom (text : List ℕ) (first column value count : ℕ) : Type 0 where
  pub line : LineOf text column value count
  pub from : first ≤ column
  pub is_column : column < row_width

-- no such line
abbrev pub NoLineFrom : (text : List ℕ) → (first : ℕ) → Type 0
NoLineFrom text first = (c : ℕ) → first ≤ c → c < row_width → line_identifier text ≡ identifier c → ⊥

abbrev pub found : (value : ℕ) → (rest : List ℕ) → Option (ℕ × List ℕ)
found value rest = some (value, rest)

-- the next value of a column, by its line or as before, and what follows
unfoldable pub next_value : (column old : ℕ) → (text : List ℕ) → Option (ℕ × List ℕ)
next_value column old text =
    pick (is_line_of column text) (or_none (after_value column old text) (found (line_value text))) (found old text)
