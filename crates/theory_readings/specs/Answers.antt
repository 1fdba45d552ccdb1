-- Document 01, "Reading a trace (added)" and the refusals: the right answer of a reader, for every buffer, profile and number of lent depths.
use Rattle.std.specs.Prelude.{◌≡◌, ◌||◌, ℕ, suc, pred, ◌/◌, ◌≤◌, ◌<◌, ltb, length, drop}
use mathlib.Core.List.{List, [], ◌∷◌, ◌++◌, Memᴰ}
use Rattle.groups.specs.Constants.{row_width, bad_profile, bad_length, no_word_of_grammar, wrong_flag_or_count, block65_deep}
use Rattle.rows.specs.declared.records.profile.Profile.{Profile}
use Rattle.rows.specs.records.Profiles.{profile_wrong}
use Rattle.rows.specs.records.Buffers.{buffer_wrong}
use Rattle.groups.specs.Answer.{first_of}
use Rattle.theory_readings.specs.Tokens.{Kind, Token, start, repeat, end, halt, nothing, tokens_of}
use Rattle.theory_readings.specs.Readings.{Block, WordOf, depth_of, program_rows, depth_list, Ask, flag, count, asks, Meets, Reading, all_rows}

-- a reading, or a refusal with its number and its row
pub data ReaderAnswer : Type 0 where
  accepted : Block → ReaderAnswer
  refused : (number row : ℕ) → ReaderAnswer

-- 2 AND 11

-- what a reader refuses before it reads: "2 profile"; "11 lengths: buffer no multiple of 49, over 2^24 rows, .. fewer depth numbers than
-- rows". 0 where none holds
unfoldable pub reader_refusal : Profile → (cells : List ℕ) → (depths : ℕ) → ℕ
reader_refusal p cells depths =
    first_of
    ((profile_wrong p, bad_profile)
    ∷ (buffer_wrong (length cells) || ltb depths (length cells / row_width), bad_length)
    ∷ [])

-- 12 AND 15: "12 and 15 at the first row (or the end) that fails"

-- some word of the grammar, of any depth, begins with w
unfoldable pub Begins : (w : List Token) → Type 0
Begins w = (more : List Token) × ((b : Block) × WordOf (w ++ more) b)

-- how many blocks are open behind w, where n are before it
unfoldable pub open_after : (n : ℕ) → (w : List Token) → ℕ
open_after n [] = n
open_after n (start kind ∷ w) = open_after (suc n) w
open_after n (end ∷ w) = open_after (pred n) w
open_after n (Token.op opcode ∷ w) = open_after n w
open_after n (Token.respan ∷ w) = open_after n w
open_after n (repeat ∷ w) = open_after n w
open_after n (halt ∷ w) = open_after n w
open_after n (nothing ∷ w) = open_after n w

-- no row of w starts a block while 64 are open, where n are before it
unfoldable pub Within64 : (n : ℕ) → (w : List Token) → Type 0
Within64 n [] = Unit {0}
Within64 n (start kind ∷ w) = (n < 64) × Within64 (suc n) w
Within64 n (end ∷ w) = Within64 (pred n) w
Within64 n (Token.op opcode ∷ w) = Within64 n w
Within64 n (Token.respan ∷ w) = Within64 n w
Within64 n (repeat ∷ w) = Within64 n w
Within64 n (halt ∷ w) = Within64 n w
Within64 n (nothing ∷ w) = Within64 n w

-- no word goes on from w as the rest does: with its first row, or, at the end, w is no whole word
unfoldable pub Stuck : (w rest : List Token) → Type 0
Stuck w [] = (b : Block) → ¬ WordOf w b
Stuck w (t ∷ rest) = ¬ Begins (w ++ (t ∷ []))

-- "12 no word of the grammar", at row n: the n rows before it begin a word, none of them starts a block 65 deep, and no word goes on
unfoldable pub NoWordAt : (w : List Token) → (n : ℕ) → Type 0
NoWordAt w n =
    (before : List Token) × (rest : List Token) × (w ≡ before ++ rest) × (n ≡ length before) × Begins before × Within64 0 before × Stuck before rest

-- "15 block 65 deep", at row n: row n starts a block while 64 are open, no earlier row does, and up to it the rows begin a word
unfoldable pub TooDeepAt : (w : List Token) → (n : ℕ) → Type 0
TooDeepAt w n =
    (before : List Token) × (kind : Kind) × (rest : List Token) × (w ≡ before ++ (start kind ∷ rest)) × (n ≡ length before)
    × Begins (before ++ (start kind ∷ [])) × Within64 0 before × (open_after 0 before ≡ 64)

-- a whole word, at most 64 deep
unfoldable pub WordWithin : (w : List Token) → Block → Type 0
WordWithin w b = WordOf w b × (depth_of b ≤ 64)

-- 13

unfoldable pub row_asked : Ask → ℕ
row_asked (flag row value) = row
row_asked (count row value) = row

-- "13 at the lowest row of a whole word": a cell of row n is not as asked, and each that is asked of a lower row is
unfoldable pub LowestWrong : (rows : List (List ℕ)) → List Ask → (n : ℕ) → Type 0
LowestWrong rows l n =
    ((a : Ask) × Memᴰ a l × (row_asked a ≡ n) × ¬ Meets rows a) × ((a : Ask) → Memᴰ a l → row_asked a < n → Meets rows a)

-- THE RIGHT ANSWER

-- with 2 and 11 the row is 0
pub data Right (p : Profile) (cells : List ℕ) (depths : ℕ) : ReaderAnswer → Type 0 where
  bad_input : (number : ℕ) → reader_refusal p cells depths ≡ suc number → Right p cells depths (refused (suc number) 0)
  no_word : (n : ℕ) → reader_refusal p cells depths ≡ 0 → NoWordAt (tokens_of p (all_rows cells)) n → Right p cells depths (refused no_word_of_grammar n)
  too_deep : (n : ℕ) → reader_refusal p cells depths ≡ 0 → TooDeepAt (tokens_of p (all_rows cells)) n → Right p cells depths (refused block65_deep n)
  wrong_cell : (b : Block) (n : ℕ) → reader_refusal p cells depths ≡ 0 → WordWithin (tokens_of p (all_rows cells)) b →
      LowestWrong (all_rows cells) (asks b) n → Right p cells depths (refused wrong_flag_or_count n)
  trace : (b : Block) → reader_refusal p cells depths ≡ 0 → Reading p (all_rows cells) b → Right p cells depths (accepted b)

-- WHAT THE CALL RETURNS

-- "Each returns its number, other answers 0 .. The reader adds the row": 0 where the trace is accepted
unfoldable pub refusal_of : ReaderAnswer → ℕ
refusal_of (accepted b) = 0
refusal_of (refused number row) = number

unfoldable pub row_of : ReaderAnswer → ℕ
row_of (accepted b) = 0
row_of (refused number row) = row

-- "The reader answers the number of program rows"
unfoldable pub program_rows_of : ReaderAnswer → ℕ
program_rows_of (accepted b) = program_rows b
program_rows_of (refused number row) = 0

-- "and fills one lent number a row": the numbers past the rows stay, and on a refusal all
unfoldable pub depths_after : (rows : ℕ) → ReaderAnswer → (depths : List ℕ) → List ℕ
depths_after rows (accepted b) depths = depth_list rows b ++ drop rows depths
depths_after rows (refused number row) depths = depths
