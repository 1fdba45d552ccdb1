-- The inversion of a column: a buffer holds rows of `width` cells one after another, and each cell that stands at `column` in one of
-- the first `rows` rows becomes its inverse. Where `column` is not below `width` there is no such cell.
use Rattle.std.specs.Prelude.{Bool, true, false, ◌&&◌, List, [], ◌∷◌, ℕ, suc, ◌/◌, ◌%◌, eqb, ltb}
use Rattle.field.specs.Inverse.{inverse_of}

-- the inverse under a test that holds, else the cell as it is
abbrev pub invert_if : Bool → ℕ → ℕ
invert_if true x = inverse_of x
invert_if false x = x

-- cell i of the buffer stands in the column, in one of the first `rows` rows
unfoldable pub in_column : (rows width column i : ℕ) → Bool
in_column rows width column i = ltb column width && (ltb (i / width) rows && eqb (i % width) column)

-- the cells from cell i on
unfoldable pub invert_from : List ℕ → (i rows width column : ℕ) → List ℕ
invert_from [] i rows width column = []
invert_from (x ∷ xs) i rows width column = invert_if (in_column rows width column i) x ∷ invert_from xs (suc i) rows width column

unfoldable pub invert_column : List ℕ → (rows width column : ℕ) → List ℕ
invert_column cells rows width column = invert_from cells 0 rows width column
