-- The whole word: HALT rows, the answer behind a Block, and that of a buffer that 2 and 11 pass.
use Rattle.std.specs.Prelude.{◌≡◌, List, ℕ, ◌≤◌, eqb, length}
use Rattle.std.proofs.Math.Option.{Option}
use Rattle.groups.specs.Answer.{pick}
use Rattle.rows.specs.declared.records.profile.Profile.{Profile}
use Rattle.theory_readings.specs.Tokens.{Token}
use Rattle.theory_readings.specs.Readings.{Block, program_rows, asks, all_rows}
use Rattle.theory_readings.specs.Answers.{ReaderAnswer}
use Rattle.theory_readings.specs.ways.Parser.{word_of, no_word_at, after_halt, after_block, read_word, first_wrong, answer_of_word}
use Rattle.reader.specs.Rows.{word_in}
use Rattle.reader.specs.Reads.{TraceRead, trace_read}
use Rattle.reader.specs.ways.FromRow.{rows_from}

-- the answer of a buffer that 2 and 11 pass
unfoldable pub cells_answer : Profile → (cells : List ℕ) → ReaderAnswer
cells_answer p cells = answer_of_word (all_rows cells) (read_word (word_in p cells))

-- row r is the first from `row` on that is no HALT, or the end
unfoldable pub HaltsRead : (w : List Token) → (row r : ℕ) → Type 0
HaltsRead w row r =
    (row ≤ r) × (r ≤ length w) × ((b : Block) → after_halt b (rows_from w row) ≡ pick (eqb r (length w)) (word_of b) (no_word_at r))

-- behind a Block of so many rows, whose lowest wrong row is given
unfoldable pub BehindRead : (rows : List (List ℕ)) → (w : List Token) → (next : ℕ) → (wrong : Option ℕ) → TraceRead → Type 0
BehindRead rows w next wrong r =
    (b : Block) → program_rows b ≡ next → wrong ≡ first_wrong rows (asks b) →
    r ≡ trace_read (answer_of_word rows (after_block b (length w) (rows_from w next)))
