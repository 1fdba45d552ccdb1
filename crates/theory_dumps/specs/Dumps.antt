-- Change request N3, "Waveforms": a finished trace as a Value Change Dump after IEEE 1364. "one time step a row, a 64-bit variable for each of the
-- 49 columns under the names of document 01, all values at the first row and afterwards, in column order, only those whose reduced cells
-- changed".
use Rattle.std.specs.Prelude.{List, [], ◌∷◌, ◌++◌, ℕ, suc, ◌+◌, eqb}
use Prim.Native.Char.{code}
use Prim.Native.String.{String, [] as []ˢ, ◌∷◌ as ◌∷ˢ◌}
use Rattle.field.specs.Cells.{reduced}
use Rattle.groups.specs.Answer.{pick}
use Rattle.theory_readings.specs.Readings.{all_rows}
use Rattle.theory_dumps.specs.Numerals.{decimal, binary}

-- the bytes of an ASCII text
unfoldable pub bytes : String → List ℕ
bytes []ˢ = []
bytes (c ∷ˢ text) = code c ∷ bytes text

-- THE HEADER

-- "under the names of document 01 .. Names for several columns are numbered from 0"
unfoldable pub columns : List String
columns =
    "clk" ∷ "ctx" ∷ "fn_hash0" ∷ "fn_hash1" ∷ "fn_hash2" ∷ "fn_hash3"
    ∷ "addr" ∷ "op_bit0" ∷ "op_bit1" ∷ "op_bit2" ∷ "op_bit3" ∷ "op_bit4" ∷ "op_bit5" ∷ "op_bit6"
    ∷ "h0" ∷ "h1" ∷ "h2" ∷ "h3" ∷ "h4" ∷ "h5" ∷ "h6" ∷ "h7"
    ∷ "in_span" ∷ "group_count" ∷ "op_index" ∷ "batch_flag0" ∷ "batch_flag1" ∷ "batch_flag2" ∷ "extra0" ∷ "extra1"
    ∷ "stack0" ∷ "stack1" ∷ "stack2" ∷ "stack3" ∷ "stack4" ∷ "stack5" ∷ "stack6" ∷ "stack7"
    ∷ "stack8" ∷ "stack9" ∷ "stack10" ∷ "stack11" ∷ "stack12" ∷ "stack13" ∷ "stack14" ∷ "stack15"
    ∷ "b0" ∷ "b1" ∷ "helper" ∷ []

-- "Identifiers are the 49 characters from ! on in column order"
abbrev pub identifier : (column : ℕ) → ℕ
identifier column = 33 + column

-- "49 like `$var wire 64 ! clk $end`", from a column on
unfoldable pub var_lines : (column : ℕ) → List String → List ℕ
var_lines column [] = []
var_lines column (name ∷ names) =
    bytes "$var wire 64 " ++ (identifier column ∷ 32 ∷ (bytes name ++ bytes " $end\n")) ++ var_lines (suc column) names

-- "The lines, each ended by a line feed"
unfoldable pub header : List ℕ
header =
    bytes "$timescale 1 ns $end\n$scope module trace $end\n" ++ var_lines 0 columns ++ bytes "$upscope $end\n$enddefinitions $end\n"

-- THE ROWS

-- "like `#0`": "Time 0 is row 0, and each row has its time line even when nothing changed"
unfoldable pub time_line : (row : ℕ) → List ℕ
time_line row = 35 ∷ (decimal row ++ (10 ∷ []))

-- "and `b101 !`": "values are binary without leading zeros"
unfoldable pub value_line : (column value : ℕ) → List ℕ
value_line column value = 98 ∷ (binary value ++ (32 ∷ identifier column ∷ 10 ∷ []))

-- "all values at the first row", from a column on
unfoldable pub all_values : (column : ℕ) → (row : List ℕ) → List ℕ
all_values column [] = []
all_values column (value ∷ row) = value_line column value ++ all_values (suc column) row

-- "afterwards, in column order, only those whose reduced cells changed"
unfoldable pub changes : (column : ℕ) → (before row : List ℕ) → List ℕ
changes column before [] = []
changes column [] (value ∷ row) = []
changes column (old ∷ before) (value ∷ row) = pick (eqb old value) [] (value_line column value) ++ changes (suc column) before row

-- the rows behind the first
unfoldable pub later_lines : (number : ℕ) → (before : List ℕ) → List (List ℕ) → List ℕ
later_lines number before [] = []
later_lines number before (row ∷ rows) = time_line number ++ changes 0 before row ++ later_lines (suc number) row rows

unfoldable pub dump_lines : List (List ℕ) → List ℕ
dump_lines [] = []
dump_lines (row ∷ rows) = time_line 0 ++ all_values 0 row ++ later_lines 1 row rows

-- the dump of rows of cells below p
unfoldable pub dump_rows : List (List ℕ) → List ℕ
dump_rows rows = header ++ dump_lines rows

-- the dump of a buffer: that of its reduced cells
unfoldable pub dump : (cells : List ℕ) → List ℕ
dump cells = dump_rows (all_rows (reduced cells))
