-- Document 01, "Reading a trace (added)": the trees of the grammar, the word that a tree spells, and which buffers are traces.
use Rattle.std.specs.Prelude.{◌≡◌, ℕ, suc, ◌-◌, ◌/◌, ◌≤◌, max, length, get_or, replicate}
use mathlib.Core.List.{List, [], ◌∷◌, Memᴰ}
use Rattle.groups.specs.Constants.{row_width, bad_profile, bad_length}
use Rattle.rows.specs.declared.records.profile.Profile.{Profile}
use Rattle.rows.specs.records.Profiles.{profile_wrong}
use Rattle.rows.specs.records.Buffers.{rows_of, h4_of, buffer_wrong}
use Rattle.groups.specs.Answer.{first_of}
use Rattle.theory_readings.specs.Tokens.{OneChild, Kind, Token, start, repeat, end, halt, opcode_of_kind, count_of, tokens_of}

-- TREES

-- "SPAN op* (RESPAN op*)* END" behind its SPAN: "ops with row and opcode", the rows of RESPAN and of END
pub data Ops : Type 0 where
  ended : (end_row : ℕ) → Ops
  op : (row opcode : ℕ) → Ops → Ops
  respan : (row : ℕ) → Ops → Ops

-- "Blocks with opcode, row numbers and parts in order": the numbers are the rows of the start, of END and of REPEAT; the opcode is the
-- kind's
mutual
  -- "Block is SPAN op* (RESPAN op*)* END; JOIN Block Block END; SPLIT, CALL, SYSCALL, DYN or DYNCALL, then Block END; LOOP Passes."
  pub data Block : Type 0 where
    span : (row : ℕ) → Ops → Block
    join : (row : ℕ) → Block → Block → (end_row : ℕ) → Block
    one : OneChild → (row : ℕ) → Block → (end_row : ℕ) → Block
    loop : (row : ℕ) → Passes → Block

  -- "Passes is Block END, or Block REPEAT Passes."
  pub data Passes : Type 0 where
    ended : Block → (end_row : ℕ) → Passes
    repeated : Block → (repeat_row : ℕ) → Passes → Passes

unfoldable pub kind_of : Block → Kind
kind_of (Block.span row ops) = Kind.span
kind_of (Block.join row a b end_row) = Kind.join
kind_of (Block.one kind row a end_row) = Kind.one kind
kind_of (Block.loop row passes) = Kind.loop

unfoldable pub opcode_of_block : Profile → Block → ℕ
opcode_of_block p b = opcode_of_kind p (kind_of b)

-- WORDS

-- a row: its number and what it is
abbrev pub Row : Type 0
Row = ℕ × Token

-- tokens as rows, numbered from n
unfoldable pub numbered : (n : ℕ) → List Token → List Row
numbered n [] = []
numbered n (t ∷ w) = (n, t) ∷ numbered (suc n) w

-- the rows that a tree spells, in front of a rest
unfoldable pub spell_ops : Ops → (rest : List Row) → List Row
spell_ops (Ops.ended end_row) rest = (end_row, end) ∷ rest
spell_ops (Ops.op row opcode ops) rest = (row, Token.op opcode) ∷ spell_ops ops rest
spell_ops (Ops.respan row ops) rest = (row, Token.respan) ∷ spell_ops ops rest

unfoldable mutual
  pub spell : Block → (rest : List Row) → List Row
  spell (Block.span row ops) rest = (row, start Kind.span) ∷ spell_ops ops rest
  spell (Block.join row a b end_row) rest = (row, start Kind.join) ∷ spell a (spell b ((end_row, end) ∷ rest))
  spell (Block.one kind row a end_row) rest = (row, start (Kind.one kind)) ∷ spell a ((end_row, end) ∷ rest)
  spell (Block.loop row passes) rest = (row, start Kind.loop) ∷ spell_passes passes rest

  pub spell_passes : Passes → (rest : List Row) → List Row
  spell_passes (Passes.ended a end_row) rest = spell a ((end_row, end) ∷ rest)
  spell_passes (Passes.repeated a repeat_row passes) rest = spell a ((repeat_row, repeat) ∷ spell_passes passes rest)

-- nothing but HALT
unfoldable pub OnlyHalts : List Row → Type 0
OnlyHalts [] = Unit {0}
OnlyHalts (x ∷ rest) = (x.1 ≡ halt) × OnlyHalts rest

-- "one or more HALT"
unfoldable pub Halts : List Row → Type 0
Halts [] = ⊥
Halts (x ∷ rest) = (x.1 ≡ halt) × OnlyHalts rest

-- the tokens w are the word of the tree b: "one Block" of any depth "and one or more HALT"
unfoldable pub WordOf : (w : List Token) → Block → Type 0
WordOf w b = (rest : List Row) × (numbered 0 w ≡ spell b rest) × Halts rest

-- DEPTH

-- how deep a tree is: "the root has 1"
unfoldable mutual
  pub depth_of : Block → ℕ
  depth_of (Block.span row ops) = 1
  depth_of (Block.join row a b end_row) = suc (max (depth_of a) (depth_of b))
  depth_of (Block.one kind row a end_row) = suc (depth_of a)
  depth_of (Block.loop row passes) = suc (depth_of_passes passes)

  pub depth_of_passes : Passes → ℕ
  depth_of_passes (Passes.ended a end_row) = depth_of a
  depth_of_passes (Passes.repeated a repeat_row passes) = max (depth_of a) (depth_of_passes passes)

-- "the depth of its innermost block (start and END rows belong to theirs)", one number a row, for a tree at depth d in front of a rest;
-- REPEAT's row belongs to its loop
unfoldable pub depths_of_ops : (d : ℕ) → Ops → (rest : List ℕ) → List ℕ
depths_of_ops d (Ops.ended end_row) rest = d ∷ rest
depths_of_ops d (Ops.op row opcode ops) rest = d ∷ depths_of_ops d ops rest
depths_of_ops d (Ops.respan row ops) rest = d ∷ depths_of_ops d ops rest

unfoldable mutual
  pub depths_of : (d : ℕ) → Block → (rest : List ℕ) → List ℕ
  depths_of d (Block.span row ops) rest = d ∷ depths_of_ops d ops rest
  depths_of d (Block.join row a b end_row) rest = d ∷ depths_of (suc d) a (depths_of (suc d) b (d ∷ rest))
  depths_of d (Block.one kind row a end_row) rest = d ∷ depths_of (suc d) a (d ∷ rest)
  depths_of d (Block.loop row passes) rest = d ∷ depths_of_passes d passes rest

  pub depths_of_passes : (d : ℕ) → Passes → (rest : List ℕ) → List ℕ
  depths_of_passes d (Passes.ended a end_row) rest = depths_of (suc d) a (d ∷ rest)
  depths_of_passes d (Passes.repeated a repeat_row passes) rest = depths_of (suc d) a (d ∷ depths_of_passes d passes rest)

-- "the number of program rows": the Block's rows
unfoldable pub program_rows : Block → ℕ
program_rows b = length (spell b [])

-- "one lent number a row: .. the root has 1), 0 for HALT", for a trace of so many rows
unfoldable pub depth_list : (rows : ℕ) → Block → List ℕ
depth_list rows b = depths_of 1 b (replicate (rows - program_rows b) 0)

-- FLAGS AND COUNTS

-- what a reading asks of a cell: h4 of an END row, the count of a LOOP row
pub data Ask : Type 0 where
  flag count : (row value : ℕ) → Ask

-- the passes of a loop
unfoldable pub passes_in : Passes → ℕ
passes_in (Passes.ended a end_row) = 1
passes_in (Passes.repeated a repeat_row passes) = suc (passes_in passes)

unfoldable pub end_row_of : Ops → ℕ
end_row_of (Ops.ended end_row) = end_row
end_row_of (Ops.op row opcode ops) = end_row_of ops
end_row_of (Ops.respan row ops) = end_row_of ops

-- "h4 of an END is 1 exactly if its block is directly a loop's body, else 0, and each LOOP count is its passes": what a tree asks, in the
-- order of the rows, in front of a rest; `body` is 1 for a loop's body, else 0
unfoldable mutual
  pub asks_of : (body : ℕ) → Block → (rest : List Ask) → List Ask
  asks_of body (Block.span row ops) rest = flag (end_row_of ops) body ∷ rest
  asks_of body (Block.join row a b end_row) rest = asks_of 0 a (asks_of 0 b (flag end_row body ∷ rest))
  asks_of body (Block.one kind row a end_row) rest = asks_of 0 a (flag end_row body ∷ rest)
  asks_of body (Block.loop row passes) rest = count row (passes_in passes) ∷ asks_of_passes body passes rest

  pub asks_of_passes : (body : ℕ) → Passes → (rest : List Ask) → List Ask
  asks_of_passes body (Passes.ended a end_row) rest = asks_of 1 a (flag end_row body ∷ rest)
  asks_of_passes body (Passes.repeated a repeat_row passes) rest = asks_of 1 a (asks_of_passes body passes rest)

-- what a reading asks: its root is no loop's body
unfoldable pub asks : Block → List Ask
asks b = asks_of 0 b []

-- the cells of row n
abbrev pub row_at : (rows : List (List ℕ)) → (n : ℕ) → List ℕ
row_at rows n = get_or rows n []

-- the rows have what is asked
unfoldable pub Meets : (rows : List (List ℕ)) → Ask → Type 0
Meets rows (flag row value) = h4_of (row_at rows row) ≡ value
Meets rows (count row value) = count_of (row_at rows row) ≡ value

unfoldable pub AllMet : (rows : List (List ℕ)) → List Ask → Type 0
AllMet rows l = (a : Ask) → Memᴰ a l → Meets rows a

-- TRACES

-- the rows are those of a trace, and the tree b is its reading
unfoldable pub Reading : Profile → (rows : List (List ℕ)) → Block → Type 0
Reading p rows b = WordOf (tokens_of p rows) b × (depth_of b ≤ 64) × AllMet rows (asks b)

-- what refuses a buffer: "2 profile"; "11 lengths: buffer no multiple of 49, over 2^24 rows". 0 where it passes. Every number is read as a cell, so
-- 1 cannot be
unfoldable pub buffer_refusal : Profile → (cells : List ℕ) → ℕ
buffer_refusal p cells = first_of ((profile_wrong p, bad_profile) ∷ (buffer_wrong (length cells), bad_length) ∷ [])

-- all rows of a buffer
unfoldable pub all_rows : (cells : List ℕ) → List (List ℕ)
all_rows cells = rows_of (length cells / row_width) cells

-- "A trace is one Block, at most 64 deep, and one or more HALT, in a buffer that 1, 2 and 11 pass" (1 cannot be, N2), with flags and counts as
-- asked; the tree b is its reading
unfoldable pub Trace : Profile → (cells : List ℕ) → Block → Type 0
Trace p cells b = (buffer_refusal p cells ≡ 0) × Reading p (all_rows cells) b
