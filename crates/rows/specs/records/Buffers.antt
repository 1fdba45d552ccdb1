-- A buffer of cells as rows of 49, one after another.
use Rattle.std.specs.Prelude.{Bool, ◌||◌, List, [], ◌∷◌, ◌++◌, ℕ, zero, suc, ◌+◌, ◌*◌, ◌/◌, ◌%◌, ltb, length, take, drop}
use Rattle.field.specs.Cells.{cell_at, reduced}
use Rattle.groups.specs.Constants.{row_width, most_rows, addr_column, op_bits_column, h4_column}

-- the first n rows of a buffer
unfoldable pub rows_of : (n : ℕ) → List ℕ → List (List ℕ)
rows_of zero buffer = []
rows_of (suc n) buffer = take row_width buffer ∷ rows_of n (drop row_width buffer)

-- row i of a buffer
unfoldable pub buffer_row : (i : ℕ) → (buffer : List ℕ) → List ℕ
buffer_row i buffer = take row_width (drop (row_width * i) buffer)

-- the cells of rows one after another
unfoldable pub flat : List (List ℕ) → List ℕ
flat [] = []
flat (row ∷ rows) = row ++ flat rows

-- what f makes of the first n rows, and behind it the cells as they are
unfoldable pub on_rows : (n : ℕ) → (List (List ℕ) → List (List ℕ)) → List ℕ → List ℕ
on_rows n f buffer = flat (f (rows_of n buffer)) ++ drop (row_width * length (f (rows_of n buffer))) buffer

-- the last of some rows, no cells where there is none
unfoldable pub last_row : List (List ℕ) → List ℕ
last_row [] = []
last_row (row ∷ []) = row
last_row (row ∷ next ∷ rows) = last_row (next ∷ rows)

-- cells of a row by their places: "clk, ctx, fn_hash (4); addr, op bits (7, lowest first), h0 to h7, in_span, group_count, ..; stack top
-- (16), b0, b1, helper". Each is read as a cell
abbrev pub addr_of : List ℕ → ℕ
addr_of row = cell_at row addr_column

abbrev pub h4_of : List ℕ → ℕ
h4_of row = cell_at row h4_column

-- the number whose digits, lowest first, are the lowest bits of the cells
unfoldable pub low_bits : List ℕ → ℕ
low_bits [] = 0
low_bits (bit ∷ bits) = bit % 2 + 2 * low_bits bits

-- "Opcodes are read from each bit cell's lowest bit", that of the reduced cell
unfoldable pub opcode_of : List ℕ → ℕ
opcode_of row = low_bits (reduced (take 7 (drop op_bits_column row)))

-- Refusal 11: "buffer no multiple of 49, over 2^24 rows"
unfoldable pub buffer_wrong : (cells : ℕ) → Bool
buffer_wrong cells = ltb 0 (cells % row_width) || ltb most_rows (cells / row_width)

-- "fewer rows than said"
unfoldable pub fewer_rows : (cells rows : ℕ) → Bool
fewer_rows cells rows = ltb (cells / row_width) rows
