-- What the reader's functions answer of a part of the word: a tree that the rows spell, or what is right of every word that has come here.
use Rattle.std.specs.Prelude.{Option as Answered, Some, None, Result, Ok, Err, ◌≡◌, Bool, true, false, List, [], ◌∷◌, ℕ, ◌+◌, ◌≤◌, ◌<◌, eqb, length}
use Rattle.std.proofs.Math.Option.{Option, none, some}
use Rattle.groups.specs.Constants.{no_word_of_grammar, block65_deep}
use Rattle.groups.specs.Refusals.{number_of}
use Rattle.rows.specs.declared.records.profile.Profile.{Profile}
use Rattle.rows.specs.records.Buffers.{h4_of}
use Rattle.theory_readings.specs.Tokens.{Token}
use Rattle.theory_readings.specs.Readings.{Ops, Block, Passes, spell_ops, spell, spell_passes, depth_of, depth_of_passes, flag, count, passes_in, end_row_of, asks_of, asks_of_passes, row_at, all_rows}
use Rattle.theory_readings.specs.Answers.{ReaderAnswer, refused}
use Rattle.theory_readings.specs.ways.Parser as machine
use Rattle.theory_readings.specs.ways.Parser.{Open, body, Live, need, inside, live, parse, word_answer, or_else, first_wrong, answer_of_word}
use Rattle.reader.specs.Rows.{token_at, row_kind_of}
use Rattle.reader.specs.ways.FromRow.{rows_from}
use Rattle.reader.specs.declared.token.RowKind.{RowKind}
use Rattle.reader.specs.declared.token.RowKind.TheVariants.{Span, Join, One, Loop, Op, Respan, Repeat, End, Halt, Nothing}
use Rattle.reader.specs.declared.refused.TraceRefused.{TraceRefused}

-- NUMBERS AND VALUES

-- what the code answers of a part: the row behind it and its lowest wrong row; or the number and the row of its refusal
pub data PartRead : Type 0 where
  up_to : (next : ℕ) → (wrong : Option ℕ) → PartRead
  refused_at : (number row : ℕ) → PartRead

-- the row of a wrong cell
abbrev pub told_wrong : Answered ℕ → Option ℕ
told_wrong None = none
told_wrong (Some row) = some row

-- the number and the row of a refusal
abbrev pub told_refused : TraceRefused → PartRead
told_refused r = refused_at (number_of r.refusal) r.row

abbrev pub told_part : Result (ℕ × Answered ℕ) TraceRefused → PartRead
told_part (Ok part) = up_to part.0 (told_wrong part.1)
told_part (Err r) = told_refused r

-- SINGLE ROWS

-- a row is wrong unless its cell is as asked
unfoldable pub wrong_unless : Bool → (row : ℕ) → Option ℕ
wrong_unless true row = none
wrong_unless false row = some row

-- "15 block 65 deep", at a row where none may start
unfoldable pub too_deep : RowKind → (row : ℕ) → PartRead
too_deep Span row = refused_at block65_deep row
too_deep Join row = refused_at block65_deep row
too_deep One row = refused_at block65_deep row
too_deep Loop row = refused_at block65_deep row
too_deep Op row = refused_at no_word_of_grammar row
too_deep Respan row = refused_at no_word_of_grammar row
too_deep Repeat row = refused_at no_word_of_grammar row
too_deep End row = refused_at no_word_of_grammar row
too_deep Halt row = refused_at no_word_of_grammar row
too_deep Nothing row = refused_at no_word_of_grammar row

-- the END of a block behind its parts: h4 is to be `wanted`
unfoldable pub closed : RowKind → (row h4 wanted : ℕ) → (parts : Option ℕ) → PartRead
closed End row h4 wanted parts = up_to (row + 1) (or_else parts (wrong_unless (eqb h4 wanted) row))
closed Span row h4 wanted parts = refused_at no_word_of_grammar row
closed Join row h4 wanted parts = refused_at no_word_of_grammar row
closed One row h4 wanted parts = refused_at no_word_of_grammar row
closed Loop row h4 wanted parts = refused_at no_word_of_grammar row
closed Op row h4 wanted parts = refused_at no_word_of_grammar row
closed Respan row h4 wanted parts = refused_at no_word_of_grammar row
closed Repeat row h4 wanted parts = refused_at no_word_of_grammar row
closed Halt row h4 wanted parts = refused_at no_word_of_grammar row
closed Nothing row h4 wanted parts = refused_at no_word_of_grammar row

-- in a row of a buffer
abbrev pub closed_at : Profile → (cells : List ℕ) → (row wanted : ℕ) → (parts : Option ℕ) → PartRead
closed_at p cells row wanted parts = closed (row_kind_of (token_at p cells row)) row (h4_of (row_at (all_rows cells) row)) wanted parts

-- PARTS

-- the part goes on past its row, and no further than the rows
unfoldable pub Ahead : (row rows : ℕ) → PartRead → Type 0
Ahead row rows (up_to next wrong) = (row < next) × (next ≤ rows)
Ahead row rows (refused_at number at) = Unit {0}

-- what is right of a word, where the machine is in a state before row i
unfoldable pub right_from : (rows : List (List ℕ)) → (w : List Token) → (i : ℕ) → Live → ReaderAnswer
right_from rows w i l = answer_of_word rows (word_answer (length w) (parse (rows_from w i) (live l)))

-- the rows behind a SPAN: an `Ops` and its END's h4; or, in whatever blocks the SPAN stands, the refusal
unfoldable pub OpsRight : (rows : List (List ℕ)) → (w : List Token) → (row wanted : ℕ) → PartRead → Type 0
OpsRight rows w row wanted (up_to next wrong) =
    (o : Ops) × (rows_from w row ≡ spell_ops o (rows_from w next)) × (wrong ≡ first_wrong rows (flag (end_row_of o) wanted ∷ []))
OpsRight rows w row wanted (refused_at number at) =
    (left : ℕ) (s : List Open) (n : ℕ) (i : machine.OpsRead) → right_from rows w row (inside left s n i) ≡ refused number at

-- a Block that is no deeper than allowed, and the lowest row that is not as it asks; or, in whatever blocks it stands, the refusal
unfoldable pub BlockRight : (rows : List (List ℕ)) → (w : List Token) → (row left wanted : ℕ) → PartRead → Type 0
BlockRight rows w row left wanted (up_to next wrong) =
    (b : Block) × (rows_from w row ≡ spell b (rows_from w next)) × (depth_of b ≤ left) × (wrong ≡ first_wrong rows (asks_of wanted b []))
BlockRight rows w row left wanted (refused_at number at) = (s : List Open) → right_from rows w row (need left s) ≡ refused number at

-- Passes behind a LOOP row, and the lowest row that is not as the loop asks; or, in whatever loop they stand, whatever passes it has, the
-- refusal
unfoldable pub PassesRight : (rows : List (List ℕ)) → (w : List Token) → (row left wanted : ℕ) → PartRead → Type 0
PassesRight rows w row left wanted (up_to next wrong) =
    (q : Passes) × (rows_from w (row + 1) ≡ spell_passes q (rows_from w next)) × (depth_of_passes q ≤ left)
    × (wrong ≡ first_wrong rows (count row (passes_in q) ∷ asks_of_passes wanted q []))
PassesRight rows w row left wanted (refused_at number at) =
    (s : List Open) (n : ℕ) (t : machine.PassesRead) → right_from rows w (row + 1) (need left (body n t ∷ s)) ≡ refused number at

pub record OpsRead (rows : List (List ℕ)) (w : List Token) (row wanted : ℕ) (r : PartRead) : Type 0 where
  pub ahead : Ahead row (length w) r
  pub right : OpsRight rows w row wanted r

pub record BlockRead (rows : List (List ℕ)) (w : List Token) (row left wanted : ℕ) (r : PartRead) : Type 0 where
  pub ahead : Ahead row (length w) r
  pub right : BlockRight rows w row left wanted r

pub record PassesRead (rows : List (List ℕ)) (w : List Token) (row left wanted : ℕ) (r : PartRead) : Type 0 where
  pub ahead : Ahead row (length w) r
  pub right : PassesRight rows w row left wanted r
