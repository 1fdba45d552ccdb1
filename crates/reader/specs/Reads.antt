-- What reading a trace answers, and what it leaves in the lent depth numbers.
use Rattle.std.specs.Prelude.{◌≡◌, Result, Ok, Err, List, ℕ, ◌/◌, length}
use Rattle.groups.specs.Constants.{row_width}
use Rattle.rows.specs.declared.records.profile.Profile.{Profile}
use Rattle.theory_readings.specs.Answers.{ReaderAnswer, Right, refusal_of, row_of, program_rows_of, depths_after}
use Rattle.groups.specs.Refusals.{number_of}
use Rattle.groups.specs.declared.refusal.Refusal.{Refusal}
use Rattle.reader.specs.declared.refused.TraceRefused.{TraceRefused}

-- what is told: the number of a refusal or 0, its row, the number of program rows
pub record TraceRead : Type 0 where
  pub refusal : ℕ
  pub row : ℕ
  pub program_rows : ℕ

-- what the code answers
abbrev pub told_trace : Result ℕ TraceRefused → TraceRead
told_trace (Ok rows) = record { refusal = 0; row = 0; program_rows = rows }
told_trace (Err r) = record { refusal = number_of r.refusal; row = r.row; program_rows = 0 }

-- a refusal at a row
abbrev pub refused_for : Refusal → (row : ℕ) → TraceRefused
refused_for refusal row = record { refusal = refusal; row = row }

-- the values of an answer: its number, its row, the number of program rows
unfoldable pub trace_read : ReaderAnswer → TraceRead
trace_read a = record { refusal = refusal_of a; row = row_of a; program_rows = program_rows_of a }

-- what a reader tells of a buffer, with so many depth numbers lent: the values of the right answer
pub record TellsTrace (p : Profile) (cells : List ℕ) (depths : ℕ) (told : TraceRead) : Type 0 where
  pub answered : ReaderAnswer
  pub is_right : Right p cells depths answered
  pub told_is : told ≡ trace_read answered

-- and what it leaves in them, one depth a row where the trace is accepted
pub record ReadsTrace (p : Profile) (cells depths : List ℕ) (told : TraceRead) (left : List ℕ) : Type 0 where
  pub answered : ReaderAnswer
  pub is_right : Right p cells (length depths) answered
  pub told_is : told ≡ trace_read answered
  pub left_is : left ≡ depths_after (length cells / row_width) answered depths
