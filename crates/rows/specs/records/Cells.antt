-- Document 01, "The row": "49 cells in the documentation's order".
use Rattle.std.specs.Prelude.{Bool, ◌||◌, List, ◌++◌, ℕ, ◌+◌, ◌*◌, ◌/◌, ◌%◌, leb, ltb, length, take, drop}
use Rattle.std.proofs.Math.Seq.{paste}
use Rattle.field.specs.Cells.{reduced}
use Rattle.groups.specs.Answer.{pick}
use Rattle.groups.specs.Constants.{row_width, most_rows}
use Rattle.rows.specs.declared.records.decoder_row.DecoderRow.{DecoderRow}
use Rattle.rows.specs.declared.records.state.SystemCols.{SystemCols}
use Rattle.rows.specs.declared.records.state.StackCols.{StackCols}
use Rattle.rows.specs.records.DecoderRows.{decoder_cells}
use Rattle.rows.specs.records.Built.{system_cells, stack_cells}

-- 6 system cells, 24 decoder cells, 19 stack cells; "Every cell that a call writes is reduced" (N2)
unfoldable pub row_cells : SystemCols → DecoderRow → StackCols → List ℕ
row_cells system row stack = reduced (system_cells system ++ decoder_cells row ++ stack_cells stack)

-- a buffer with the given cells in the place of row r
unfoldable pub put_row : List ℕ → (r : ℕ) → (cells : List ℕ) → List ℕ
put_row buffer r cells = take (row_width * r) buffer ++ cells ++ drop (row_width * r + row_width) buffer

-- a row written where the buffer has it
unfoldable pub row_written : List ℕ → (r : ℕ) → (cells : List ℕ) → List ℕ
row_written buffer r cells = pick (ltb r (length buffer / row_width)) (put_row buffer r cells) buffer

-- numbers put in from index `at` on, where they fit
unfoldable pub put_in : List ℕ → (at : ℕ) → (cells : List ℕ) → List ℕ
put_in buffer at cells = pick (leb (at + length cells) (length buffer)) (paste buffer at cells (length cells)) buffer

-- cells copied in from index `at` on, each reduced
unfoldable pub copied_in : List ℕ → (at : ℕ) → (cells : List ℕ) → List ℕ
copied_in buffer at cells = put_in buffer at (reduced cells)

-- Refusal 11 of a finish, of its fragment: "buffer no multiple of 49, over 2^24 rows, fewer rows than said"
unfoldable pub fragment_wrong : (cells rows : ℕ) → Bool
fragment_wrong cells rows = ltb 0 (cells % row_width) || (ltb most_rows (cells / row_width) || ltb (cells / row_width) rows)
