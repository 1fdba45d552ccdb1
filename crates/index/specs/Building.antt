-- Change request N1: what building the index answers, and what it leaves.
use Rattle.std.specs.Prelude.{◌≡◌, Result, Ok, Err, List, ◌++◌, ℕ, ◌*◌, ◌/◌, ltb, length, drop}
use Rattle.groups.specs.Answer.{pick}
use Rattle.groups.specs.Constants.{row_width, short_index}
use Rattle.rows.specs.declared.records.profile.Profile.{Profile}
use Rattle.theory_readings.specs.Answers.{ReaderAnswer, accepted, refused, Right, refusal_of, row_of}
use Rattle.theory_indexes.specs.Indexes.{blocks_in, index}
use Rattle.groups.specs.Refusals.{number_of}
use Rattle.reader.specs.declared.refused.TraceRefused.{TraceRefused}

-- "27 when the lent index has fewer than three numbers for each block"
unfoldable pub unless_short : (lent : ℕ) → ReaderAnswer → ReaderAnswer
unless_short lent (accepted b) = pick (ltb lent (3 * blocks_in b)) (refused short_index 0) (accepted b)
unless_short lent (refused number row) = refused number row

-- "the number of blocks is answered", 0 on a refusal
unfoldable pub blocks_of : ReaderAnswer → ℕ
blocks_of (accepted b) = blocks_in b
blocks_of (refused number row) = 0

-- what is told: the number of a refusal or 0, its row, the number of blocks
pub record IndexBuilt : Type 0 where
  pub refusal : ℕ
  pub row : ℕ
  pub blocks : ℕ

-- what the code answers
abbrev pub told_built : Result ℕ TraceRefused → IndexBuilt
told_built (Ok blocks) = record { refusal = 0; row = 0; blocks = blocks }
told_built (Err r) = record { refusal = number_of r.refusal; row = r.row; blocks = 0 }

unfoldable pub index_built : ReaderAnswer → IndexBuilt
index_built a = record { refusal = refusal_of a; row = row_of a; blocks = blocks_of a }

-- "It is lent as three numbers a block": the numbers past them stay, and on a refusal all
unfoldable pub index_after : ReaderAnswer → (lent : List ℕ) → List ℕ
index_after (accepted b) lent = index b ++ drop (3 * blocks_in b) lent
index_after (refused number row) lent = lent

-- what is answered, and what is left in the lent index
pub record BuildsIndex (p : Profile) (cells lent : List ℕ) (built : IndexBuilt) (left : List ℕ) : Type 0 where
  -- "The reader's refusals come first and unchanged", those of a reader that is lent a depth number a row
  pub read : ReaderAnswer
  pub is_right : Right p cells (length cells / row_width) read
  pub built_is : built ≡ index_built (unless_short (length lent) read)
  pub left_is : left ≡ index_after (unless_short (length lent) read) lent
