-- The lines of a dump by the places of the cells that they are written for.
use Rattle.std.specs.Prelude.{List, [], ◌++◌, ℕ, zero, suc, ◌+◌, ◌*◌, eqb}
use Rattle.field.specs.Modulus.{P}
use Rattle.field.specs.Cells.{cell_at}
use Rattle.groups.specs.Answer.{pick}
use Rattle.groups.specs.Constants.{row_width}
use Rattle.theory_dumps.specs.Dumps.{time_line, value_line}

-- the value of a column at a row, and before it: p, which is no cell, before the first
abbrev pub value_at : (cells : List ℕ) → (row column : ℕ) → ℕ
value_at cells row column = cell_at cells (row_width * row + column)

unfoldable pub old_at : (cells : List ℕ) → (row column : ℕ) → ℕ
old_at cells zero column = P
old_at cells (suc row) column = value_at cells row column

-- the line of a value that changed
unfoldable pub change_line : (column old value : ℕ) → List ℕ
change_line column old value = pick (eqb old value) [] (value_line column value)

-- of the first n columns of a row
unfoldable pub changes_to : (cells : List ℕ) → (row n : ℕ) → List ℕ
changes_to cells row zero = []
changes_to cells row (suc n) = changes_to cells row n ++ change_line n (old_at cells row n) (value_at cells row n)

-- the lines of a row
abbrev pub lines_of : (cells : List ℕ) → (row : ℕ) → List ℕ
lines_of cells row = time_line row ++ changes_to cells row row_width

-- of the first n rows
unfoldable pub lines_to : (cells : List ℕ) → (n : ℕ) → List ℕ
lines_to cells zero = []
lines_to cells (suc n) = lines_to cells n ++ lines_of cells n
