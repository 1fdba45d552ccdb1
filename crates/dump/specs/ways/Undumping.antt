-- How the reader's answer is found: by `undump`, a way to read a text. That it is the right answer (`ReadsDump`) is a theorem (proofs/Waveforms.antt).
use Rattle.std.specs.Prelude.{List, ◌++◌, ℕ, ◌*◌, ltb, length, drop}
use Rattle.std.proofs.Math.Option.{Option, none, some}
use Rattle.groups.specs.Answer.{Answer, accepted, refused, pick}
use Rattle.groups.specs.Constants.{row_width, most_rows, bad_length, no_dump}
use Rattle.rows.specs.records.Buffers.{flat, buffer_wrong}
use Rattle.theory_dumps.specs.ways.Undump.{undump}

-- the rows that are read are few enough for a buffer of cells; a text with more is none that the writer gives
unfoldable pub few_rows : Option (List (List ℕ)) → Option (List (List ℕ))
few_rows none = none
few_rows (some rows) = pick (ltb most_rows (length rows)) none (some rows)

unfoldable pub undumping : Option (List (List ℕ)) → (lent : ℕ) → Answer (List (List ℕ))
undumping none lent = refused no_dump
undumping (some rows) lent = pick (ltb lent (row_width * length rows)) (refused bad_length) (accepted rows)

unfoldable pub reading_dump : (text : List ℕ) → (lent : ℕ) → Answer (List (List ℕ))
reading_dump text lent = pick (buffer_wrong lent) (refused bad_length) (undumping (few_rows (undump text)) lent)

-- how many they are
unfoldable pub rows_read : Answer (List (List ℕ)) → ℕ
rows_read (accepted rows) = length rows
rows_read (refused n) = 0

-- the cells past the rows stay, and on a refusal all
unfoldable pub cells_after : Answer (List (List ℕ)) → (lent : List ℕ) → List ℕ
cells_after (accepted rows) lent = flat rows ++ drop (row_width * length rows) lent
cells_after (refused n) lent = lent
