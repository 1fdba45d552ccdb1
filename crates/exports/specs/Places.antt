-- What is answered in numbers to other languages, where Rattle answers a part of a slice, an option or a place.
-- Where a row lies among the lent cells: "the part from row × 49 to row × 49 + 49 of the lent trace slice" (document 01). "A refused row
-- view (only 11) is the empty part": both numbers are then 0.
use Rattle.std.proofs.Math.Option.{Option, none, some}
use Rattle.std.specs.Prelude.{ℕ, ◌*◌}
use Rattle.groups.specs.Answer.{Answer, accepted, refused, pick}
use Rattle.groups.specs.Constants.{row_width}
use Rattle.groups.specs.declared.group.OpPlace.{OpPlace}
use Rattle.reader.specs.Reads.{TraceRead}
use Rattle.reader.specs.Views.{view_refused}
use Rattle.index.specs.Building.{IndexBuilt}
use Rattle.exports.specs.declared.TraceRead as read
use Rattle.exports.specs.declared.IndexBuilt as built

-- what reading a trace answers, as it is handed to C
abbrev pub trace_values : read.TraceRead → TraceRead
trace_values r = record { refusal = r.refusal; row = r.row; program_rows = r.program_rows }

-- what building an index answers (N1), as it is handed to C
abbrev pub index_values : built.IndexBuilt → IndexBuilt
index_values r = record { refusal = r.refusal; row = r.row; blocks = r.blocks }

-- the first cell of the part
unfoldable pub view_start : (cells number : ℕ) → ℕ
view_start cells number = pick (view_refused cells number) 0 (number * row_width)

-- how many cells the part has
unfoldable pub view_cells : (cells number : ℕ) → ℕ
view_cells cells number = pick (view_refused cells number) 0 row_width

-- of a look-up in an index (N1): 1 where a block encloses the row, else 0
unfoldable pub enclosing_found : Answer (Option ℕ) → ℕ
enclosing_found (accepted (some place)) = 1
enclosing_found (accepted none) = 0
enclosing_found (refused n) = 0

-- its place, else 0
unfoldable pub enclosing_place : Answer (Option ℕ) → ℕ
enclosing_place (accepted (some place)) = place
enclosing_place (accepted none) = 0
enclosing_place (refused n) = 0

-- of the place of an operation (N7): what is answered on a refusal
abbrev pub no_place : OpPlace
no_place = record { group = 0; index = 0; following = 0 }
