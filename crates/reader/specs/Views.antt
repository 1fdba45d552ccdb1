-- Document 01: "A row asked for by number is handed back as the caller's own 49 cells", "the part from row × 49 to row × 49 + 49 of the lent
-- trace slice, no copy".
use Rattle.std.specs.Prelude.{◌≡◌, Bool, ◌||◌, List, [], ℕ, ◌+◌, ◌*◌, ◌/◌, leb, length, take, drop}
use Rattle.std.specs.Borrow.{Bor}
use Rattle.groups.specs.Answer.{pick}
use Rattle.groups.specs.Constants.{row_width}
use Rattle.rows.specs.records.Buffers.{buffer_wrong}

-- Refusal 11 of a row view: "buffer no multiple of 49, over 2^24 rows, .. a row number past the end"
unfoldable pub view_refused : (cells number : ℕ) → Bool
view_refused cells number = buffer_wrong cells || leb (cells / row_width) number

-- the part r of the lent slice x: the row's 49 cells, where they lie in x (8 bytes a cell); "A refused row view (only 11) is the empty
-- part", at the slice's start
pub record RowView (x : Bor (List ℕ)) (number : ℕ) (r : Bor (List ℕ)) : Type 0 where
  pub cells : r.now ≡ pick (view_refused (length x.now) number) [] (take row_width (drop (number * row_width) x.now))
  pub lies_at : r.ref_ptr ≡ (x.ref_ptr.0, pick (view_refused (length x.now) number) 0 (number * row_width) * 8 + x.ref_ptr.1)
