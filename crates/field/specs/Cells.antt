-- Cells as they come in. Change request N2: "A cell from p up to 2^64 − 1 is now read as that number less p, everywhere a cell comes in". A number
-- below 2^64 is below twice p, so this is the number modulo p.
use Rattle.std.specs.Prelude.{List, [], ◌∷◌, ℕ, ◌%◌, get_or}
use Rattle.field.specs.Modulus.{P}

-- a number read as a cell
abbrev pub read : ℕ → ℕ
read x = x % P

-- cell i of a lent slice, 0 past its end
unfoldable pub cell_at : List ℕ → ℕ → ℕ
cell_at cells i = get_or cells i 0 % P

-- each number of a list read as a cell: "its reduced cells"
unfoldable pub reduced : List ℕ → List ℕ
reduced [] = []
reduced (x ∷ xs) = x % P ∷ reduced xs
