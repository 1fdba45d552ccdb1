-- What demand 3 says of a buffer and a tree: the buffer is read as the tree, and the count of each LOOP row is the number of its passes.
use Rattle.std.specs.Prelude.{◌≡◌, List, ◌++◌, ℕ, ◌+◌, ◌*◌, ◌/◌, ◌≤◌, ◌<◌, length, drop}
use Rattle.field.specs.Cells.{cell_at}
use Rattle.groups.specs.Constants.{row_width, count_column}
use Rattle.rows.specs.declared.records.profile.Profile.{Profile}
use Rattle.theory_readings.specs.Tokens.{Kind, start, token_of}
use Rattle.theory_readings.specs.Readings.{Block, Passes, program_rows, depth_list, passes_in, row_at, all_rows, Trace}
use Rattle.theory_readings.specs.Answers.{accepted}
use Rattle.reader.specs.Reads.{ReadsTrace}
use Rattle.reader.specs.Reads.{TraceRead}
use Rattle.theory_read_back.specs.Loops.{LoopIn}

-- "the reader's answers (the number of program rows and each row's depth) are those of that reading": what `read_trace` tells of the buffer,
-- given these depth numbers, and what it leaves in them, as its contract (`ReadsTrace`) allows
pub record ReadAs (p : Profile) (cells depths : List ℕ) (told : TraceRead) (left : List ℕ) (reads : ReadsTrace p cells depths told left) (b : Block) : Type 0 where
  pub accepts : reads.answered ≡ accepted b
  pub refusal_is : told.refusal ≡ 0
  pub row_is : told.row ≡ 0
  pub rows_are : told.program_rows ≡ program_rows b
  pub depths_are : left ≡ depth_list (length cells / row_width) b ++ drop (length cells / row_width) depths

-- "each LOOP row's count is the number of passes of its body": cell 23 of the row is its group_count
pub record CountsPasses (p : Profile) (cells : List ℕ) (b : Block) : Type 0 where
  -- each LOOP row of the buffer is a loop of the tree
  pub of_rows : (n : ℕ) → n < length cells / row_width → token_of p (row_at (all_rows cells) n) ≡ start Kind.loop →
      (passes : Passes) × LoopIn b n passes × (cell_at cells (row_width * n + count_column) ≡ passes_in passes)
  -- and each loop of the tree is a LOOP row
  pub of_loops : (n : ℕ) (passes : Passes) → LoopIn b n passes →
      (n < length cells / row_width) × (token_of p (row_at (all_rows cells) n) ≡ start Kind.loop) × (cell_at cells (row_width * n + count_column) ≡ passes_in passes)

-- the buffer is a trace, the tree is its one reading, whatever the contract of `read_trace` allows is the tree's, given a depth number for each
-- row, and the counts are the passes
pub record ReadBack (p : Profile) (cells : List ℕ) (b : Block) : Type 0 where
  pub is_trace : Trace p cells b
  pub one_reading : (b' : Block) → Trace p cells b' → b' ≡ b
  pub read : (depths : List ℕ) → length cells / row_width ≤ length depths →
      (told : TraceRead) (left : List ℕ) (reads : ReadsTrace p cells depths told left) → ReadAs p cells depths told left reads b
  pub counts : CountsPasses p cells b
