-- Where there is room, a row is put and cells are copied in.
use mathlib.Core.Path.{◌≡◌, refl, ◌∙◌}
use mathlib.Core.List.{List, ◌++◌, append_assoc}
use Prim.Native.Nat.{ℕ, ◌+◌, ◌*◌, ◌/◌, ◌≤◌, ◌<◌}
use native.Mathlib.Nat.{add_assoc}
use native.Mathlib.Omega.{arith}
use borrow.Author.Tests.{lt-ltb, le-leb}
use lib.ListN.{length, length-append}
use lib.Seq.{paste, take-length, length-paste, take-paste, drop-paste, drop-drop}
use Rattle.field.specs.Cells.{reduced}
use Rattle.field.proofs.CellLaws.{length-reduced}
use Rattle.rows.specs.records.Built.{system_cells, stack_cells}
use Rattle.rows.specs.records.Cells.{row_cells, put_row, row_written, put_in, copied_in}
use Rattle.rows.specs.records.DecoderRows.{decoder_cells}
use Rattle.rows.specs.declared.records.decoder_row.DecoderRow.{DecoderRow}
use Rattle.rows.specs.declared.records.state.StackCols.{StackCols}
use Rattle.rows.specs.declared.records.state.SystemCols.{SystemCols}

pub row_fits : (buffer : List ℕ) (r : ℕ) (cells : List ℕ) → 49 * r + 49 ≤ length buffer → row_written buffer r cells ≡ put_row buffer r cells
unfolding row_written
row_fits buffer r cells h = rw (lt-ltb r (length buffer / 49) (omega arith))

pub row_within : (buffer : List ℕ) (r : ℕ) (cells : List ℕ) → r < length buffer / 49 → row_written buffer r cells ≡ put_row buffer r cells
unfolding row_written
row_within buffer r cells h = rw (lt-ltb r (length buffer / 49) h)

-- a row's successor is a number of 64 bits
pub row_next : (r cells : ℕ) → r < cells / 49 → cells < 18446744073709551616 → r + 1 < 18446744073709551616
row_next r cells h l = omega arith

-- numbers put in where they fit
pub put-fits : (buffer : List ℕ) (at : ℕ) (cells : List ℕ) → at + length cells ≤ length buffer → put_in buffer at cells ≡ paste buffer at cells (length cells)
unfolding put_in
put-fits buffer at cells h = rw (le-leb (at + length cells) (length buffer) h)

pub copy-fits : (buffer : List ℕ) (at : ℕ) (cells : List ℕ) → at + length cells ≤ length buffer → copied_in buffer at cells ≡ paste buffer at (reduced cells) (length cells)
unfolding copied_in
copy-fits buffer at cells h = rw (put-fits buffer at (reduced cells) (rw (length-reduced cells) h), length-reduced cells)

put-row : (buffer : List ℕ) (r : ℕ) (cells : List ℕ) → length cells ≡ 49 → 49 * r + 49 ≤ length buffer → put_in buffer (49 * r) cells ≡ put_row buffer r cells
unfolding put_row
put-row buffer r cells e h = rw (put-fits buffer (49 * r) cells (omega arith), take-length, e)

-- numbers put in right after others are put in with them
put_on : (buffer : List ℕ) (at n : ℕ) (xs ys : List ℕ) → length xs ≡ n → at + n + length ys ≤ length buffer → put_in (put_in buffer at xs) (at + n) ys ≡ put_in buffer at (xs ++ ys)
put_on buffer at n xs ys e h =
    let before : length xs ≤ length xs = omega arith in
    let room : at + length xs ≤ length buffer = omega arith in
    let first : at ≤ length buffer = omega arith in
    let same : length (paste buffer at xs (length xs)) ≡ length buffer = length-paste buffer at xs (length xs) room before in
    rw (
      ← e,
      put-fits buffer at xs room,
      put-fits (paste buffer at xs (length xs)) (at + length xs) ys (omega arith),
      put-fits buffer at (xs ++ ys) (simp length-append (omega arith)),
      take-paste buffer at xs (length xs) first before,
      ← (drop-drop (length ys) (at + length xs) (paste buffer at xs (length xs))),
      drop-paste buffer at xs (length xs) first before,
      drop-drop (length ys) (at + length xs) buffer,
      take-length (xs ++ ys),
    )
    (simp (take-length, length-append, append_assoc, add_assoc))

pub copied-row : (buffer : List ℕ) (r : ℕ) (cells : List ℕ) → length cells ≡ 49 → 49 * r + 49 ≤ length buffer → copied_in buffer (49 * r) cells ≡ put_row buffer r (reduced cells)
unfolding copied_in
copied-row buffer r cells e h = put-row buffer r (reduced cells) (length-reduced cells ∙ e) h

-- a row put in by two parts
pub row_put : (buffer : List ℕ) (r : ℕ) (xs ys : List ℕ) → length xs ≡ 30 → length ys ≡ 19 → 49 * r + 49 ≤ length buffer → put_in (put_in buffer (49 * r) xs) (49 * r + 30) ys ≡ put_row buffer r (xs ++ ys)
row_put buffer r xs ys a b h =
    rw (put_on buffer (49 * r) 30 xs ys a (omega arith))
    (put-row buffer r (xs ++ ys) (simp length-append (omega arith)) h)

pub cells-in-two : (system : SystemCols) (d : DecoderRow) (stack : StackCols) → row_cells system d stack ≡ reduced (system_cells system ++ decoder_cells d) ++ reduced (stack_cells stack)
unfolding row_cells system_cells decoder_cells reduced
cells-in-two system d stack = refl
