-- Change request N3: what writing and reading a dump answer, and what they leave.
use Rattle.std.specs.Prelude.{◌≡◌, Bool, true, false, ◌||◌, List, ◌++◌, ℕ, ◌*◌, ◌≤◌, ◌<◌, ltb, length, drop}
use Rattle.field.specs.Cells.{reduced}
use Rattle.groups.specs.Answer.{Answer, accepted, refused, pick}
use Rattle.groups.specs.Constants.{row_width, bad_length, short_text, no_dump}
use Rattle.rows.specs.records.Buffers.{buffer_wrong}
use Rattle.theory_dumps.specs.Dumps.{dump}

-- WRITING

-- "every buffer of at least one row; one without rows gets 11", as do wrong lengths
unfoldable pub rows_wrong : (cells : ℕ) → Bool
rows_wrong cells = buffer_wrong cells || ltb cells row_width

-- "The writer answers its bytes"; "28 when the lent text buffer is too short"
unfoldable pub dumping : (cells : List ℕ) → (lent : ℕ) → Answer ℕ
dumping cells lent =
    pick (rows_wrong (length cells)) (refused bad_length)
    (pick (ltb lent (length (dump cells))) (refused short_text) (accepted (length (dump cells))))

-- the bytes past the dump stay, and on a refusal all
unfoldable pub text_after : (cells : List ℕ) → Answer ℕ → (lent : List ℕ) → List ℕ
text_after cells (accepted bytes) lent = dump cells ++ drop bytes lent
text_after cells (refused n) lent = lent

-- READING

-- a text that the writer gives: the dump of a buffer that it does not refuse with 11
pub record Given (text : List ℕ) : Type 0 where
  pub cells : List ℕ
  pub right_length : rows_wrong (length cells) ≡ false
  pub is_dump : dump cells ≡ text

-- what reading a text into lent cells answers, its number and its rows, and the cells that are left
pub data ReadsDump (text lent : List ℕ) : (refusal rows : ℕ) → (left : List ℕ) → Type 0 where
  -- a lent buffer of wrong length gets 11 before the text is looked at
  wrong_length : buffer_wrong (length lent) ≡ true → ReadsDump text lent bad_length 0 lent
  -- "29 when a text read is none that the writer gives"
  not_given : buffer_wrong (length lent) ≡ false → (Given text → ⊥) → ReadsDump text lent no_dump 0 lent
  -- "a cell buffer too short for a good text gets 11"
  too_short : buffer_wrong (length lent) ≡ false → (g : Given text) → length lent < length g.cells → ReadsDump text lent bad_length 0 lent
  -- "the reader its rows", and "the reduced cells come back"; the cells behind them stay
  come_back : buffer_wrong (length lent) ≡ false → (g : Given text) → length g.cells ≤ length lent → (rows : ℕ) → row_width * rows ≡ length g.cells →
      ReadsDump text lent 0 rows (reduced g.cells ++ drop (length g.cells) lent)
