-- What is read of a text, and what follows it.
use Rattle.std.specs.Prelude.{◌≡◌, Bool, false, List, [], ℕ, ◌*◌, ◌≤◌, Option as Answered, Some, None, length}
use Rattle.std.specs.Borrow.{Bor}
use Rattle.std.proofs.Math.Option.{Option, none, some}
use Rattle.groups.specs.Constants.{row_width, most_rows}
use Rattle.theory_dumps.specs.Dumps.{time_line}
use Rattle.theory_dumps.specs.ways.Undump.{behind, or_none, read_changes, read_rows, no_values, has_all, from_first}

-- WHAT THE CODE ANSWERS

-- the text that follows, or none
abbrev pub rest_of : Answered (Bor (List ℕ)) → Option (List ℕ)
rest_of (Some rest) = some rest.now
rest_of None = none

-- what was read, and the text that follows, or none
abbrev pub with_rest : {A : Type 0} → (read : A) → Answered (Bor (List ℕ)) → Option (A × List ℕ)
with_rest read (Some rest) = some (read, rest.now)
with_rest read None = none

-- a number of rows, or none
abbrev pub count_of : Answered ℕ → Option ℕ
count_of (Some rows) = some rows
count_of None = none

-- ROWS

abbrev pub row_then : (row rest : List ℕ) → Option (List ℕ × List ℕ)
row_then row rest = some (row, rest)

-- a row with its time line, the values before being given, and what follows
unfoldable pub timed_row : (number : ℕ) → (before text : List ℕ) → Option (List ℕ × List ℕ)
timed_row number before text = or_none (behind (time_line number) text) (read_changes 0 before)

-- the rows of a text behind its header
unfoldable pub rows_behind : (lines : List ℕ) → Option (List (List ℕ))
rows_behind lines = or_none (read_rows (length lines) 0 no_values lines) from_first

-- how many rows were read
unfoldable pub how_many : Option (List (List ℕ)) → Option ℕ
how_many none = none
how_many (some rows) = some (length rows)

-- the rows that were read, none where there are none
unfoldable pub the_rows : Option (List (List ℕ)) → List (List ℕ)
the_rows none = []
the_rows (some rows) = rows

-- rows of a text behind its header that fit into a buffer
pub record Storable (lines : List ℕ) (rows lent : ℕ) : Type 0 where
  pub is : rows_behind lines ≡ some (the_rows (rows_behind lines))
  pub long : length (the_rows (rows_behind lines)) ≡ rows
  pub few : rows ≤ most_rows
  pub room : row_width * rows ≤ lent

-- whether there is a first row with all values
unfoldable pub whole_first : Option (List ℕ × List ℕ) → Bool
whole_first none = false
whole_first (some x) = has_all x.0
