-- One row of the scan as the code does it: the index as lent, and an array of where the numbers of each open block begin.
use Rattle.std.specs.Prelude.{List, ℕ, ◌+◌, ◌-◌, ◌≤◌, ◌<◌, eqb, length, get_or, set}
use Rattle.groups.specs.Answer.{pick}
use Rattle.theory_indexes.specs.ways.IndexScan as rows
use Rattle.theory_indexes.specs.ways.IndexScan.{begins, ends, stays}
use Rattle.index.specs.declared.change.Change.{Change}
use Rattle.index.specs.declared.fill.OpenBlocks.{OpenBlocks}

-- how many blocks are open, and where the numbers of the next block go
pub record Progress : Type 0 where
  pub opened : ℕ
  pub next : ℕ

abbrev pub progress_of : OpenBlocks → Progress
progress_of blocks = record { opened = blocks.opened; next = blocks.next }

-- the case of a row
abbrev pub told_change : Change → rows.Change
told_change Change.Begins = begins
told_change Change.Ends = ends
told_change Change.Stays = stays

-- the start row of the innermost open block, or the row itself where none is open
unfoldable pub around_in : (row opened : ℕ) → (stack index : List ℕ) → ℕ
around_in row opened stack index = pick (eqb opened 0) row (get_or index (get_or stack (opened - 1) 0) 0)

unfoldable pub index_behind : rows.Change → (row : ℕ) → Progress → (stack index : List ℕ) → List ℕ
index_behind begins row s stack index =
    set (set (set index s.next row) (s.next + 1) 0) (s.next + 2) (around_in row s.opened stack index)
index_behind ends row s stack index = set index (get_or stack (s.opened - 1) 0 + 1) row
index_behind stays row s stack index = index

unfoldable pub stack_behind : rows.Change → Progress → (stack : List ℕ) → List ℕ
stack_behind begins s stack = set stack s.opened s.next
stack_behind ends s stack = stack
stack_behind stays s stack = stack

unfoldable pub progress_behind : rows.Change → Progress → Progress
progress_behind begins s = record { opened = s.opened + 1; next = s.next + 3 }
progress_behind ends s = record { opened = s.opened - 1; next = s.next }
progress_behind stays s = s

-- there is room for what the row adds
unfoldable pub Room : rows.Change → Progress → (stack index : List ℕ) → Type 0
Room begins s stack index =
    (s.opened < 64) × (s.next + 2 < length index) × (0 < s.opened → get_or stack (s.opened - 1) 0 < length index)
Room ends s stack index = (0 < s.opened) × (s.opened ≤ 64) × (get_or stack (s.opened - 1) 0 + 1 < length index)
Room stays s stack index = Unit {0}
