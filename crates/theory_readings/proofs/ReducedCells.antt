-- "the reading of a trace is that of its reduced cells" (N2).
use mathlib.Core.Path.{◌≡◌, ◌∙◌, refl, sym, ap, ap₂}
use mathlib.Core.Bool.{Bool}
use mathlib.Core.List.{List, [], ◌∷◌, map}
use mathlib.Core.Logic.{◌↔◌}
use mathlib.Core.Option.{Option, some}
use Prim.Native.Nat.{ℕ, zero, suc, ◌/◌, ◌≤◌}
use native.Mathlib.Omega.{arith}
use lib.Dec.{eqb}
use lib.ListN.{length}
use Rattle.field.specs.Cells.{cell_at, reduced}
use Rattle.field.proofs.CellLaws.{length-reduced, cell-reduced}
use Rattle.groups.specs.Answer.{pick}
use Rattle.rows.specs.declared.records.profile.Profile.{Profile}
use Rattle.rows.specs.records.Buffers.{rows_of}
use Rattle.rows.proofs.passes.ReducedRows.{bits-reduced, opcode-reduced, rows-reduced}
use Rattle.theory_readings.specs.Tokens.{Token, token_of, tokens_of}
use Rattle.theory_readings.specs.Readings.{Block, Ask, flag, count, asks, row_at, all_rows, Trace}
use Rattle.theory_readings.specs.Answers.{ReaderAnswer, accepted, reader_refusal, row_asked, Right}
use Rattle.theory_readings.specs.ways.Parser.{WordAnswer, word_of, no_word_at, too_deep_at, read_word, is_met, first_wrong, answer_of_cells, answer_of_word, unless_bad_input, answer}
use Rattle.theory_readings.proofs.RightAnswer.{answer-right, right-computed}
use Rattle.theory_readings.proofs.AcceptedTraces.{accepts-traces}

-- ONE ROW

token-reduced : (p : Profile) (row : List ℕ) → token_of p (reduced row) ≡ token_of p row
unfolding token_of
token-reduced p row = rw (bits-reduced row, opcode-reduced row, cell-reduced row 22)

-- ALL ROWS

tokens-reduced : (p : Profile) (rows : List (List ℕ)) → tokens_of p (map reduced rows) ≡ tokens_of p rows
unfolding tokens_of
tokens-reduced p [] = refl
tokens-reduced p (row ∷ rows) = ap₂ (λ x y. x ∷ y) (token-reduced p row) (tokens-reduced p rows)

row-reduced : (rows : List (List ℕ)) (n : ℕ) → row_at (map reduced rows) n ≡ reduced (row_at rows n)
unfolding reduced
row-reduced [] n = refl
row-reduced (row ∷ rows) zero = refl
row-reduced (row ∷ rows) (suc n) = row-reduced rows n

cell_same : (rows : List (List ℕ)) (n k : ℕ) → cell_at (row_at (map reduced rows) n) k ≡ cell_at (row_at rows n) k
cell_same rows n k = ap (λ (row : List ℕ). cell_at row k) (row-reduced rows n) ∙ cell-reduced (row_at rows n) k

met-reduced : (rows : List (List ℕ)) (a : Ask) → is_met (map reduced rows) a ≡ is_met rows a
unfolding is_met
met-reduced rows (flag row value) = ap (λ (x : ℕ). eqb x value) (cell_same rows row 18)
met-reduced rows (count row value) = ap (λ (x : ℕ). eqb x value) (cell_same rows row 23)

wrong-reduced : (rows : List (List ℕ)) (l : List Ask) → first_wrong (map reduced rows) l ≡ first_wrong rows l
unfolding first_wrong
wrong-reduced rows [] = refl
wrong-reduced rows (a ∷ l) = ap₂ (λ (t : Bool) (o : Option ℕ). pick t o (some (row_asked a))) (met-reduced rows a) (wrong-reduced rows l)

word-reduced : (rows : List (List ℕ)) (o : WordAnswer) → answer_of_word (map reduced rows) o ≡ answer_of_word rows o
unfolding answer_of_word
word-reduced rows (word_of b) = ap (answer_of_cells b) (wrong-reduced rows (asks b))
word-reduced rows (no_word_at n) = refl
word-reduced rows (too_deep_at n) = refl

-- THE ANSWER

all-reduced : (cells : List ℕ) → all_rows (reduced cells) ≡ map reduced (all_rows cells)
unfolding all_rows
all-reduced cells = ap (λ (n : ℕ). rows_of (n / 49) (reduced cells)) (length-reduced cells) ∙ rows-reduced (length cells / 49) cells

refusal-reduced : (p : Profile) (cells : List ℕ) (depths : ℕ) → reader_refusal p (reduced cells) depths ≡ reader_refusal p cells depths
unfolding reader_refusal
refusal-reduced p cells depths = rw (length-reduced cells)

-- the computed answer of a buffer is that of its reduced cells
answer-reduced : (p : Profile) (cells : List ℕ) (depths : ℕ) → answer p (reduced cells) depths ≡ answer p cells depths
unfolding answer
answer-reduced p cells depths =
    ap₂ unless_bad_input (refusal-reduced p cells depths)
    (ap (λ (rows : List (List ℕ)). answer_of_word rows (read_word (tokens_of p rows))) (all-reduced cells)
    ∙ word-reduced (all_rows cells) (read_word (tokens_of p (map reduced (all_rows cells))))
    ∙ ap (λ (w : List Token). answer_of_word (all_rows cells) (read_word w)) (tokens-reduced p (all_rows cells)))

-- what is right of a buffer is right of its reduced cells
pub right-reduced : (p : Profile) (cells : List ℕ) (depths : ℕ) (a : ReaderAnswer) → Right p (reduced cells) depths a ↔ Right p cells depths a
right-reduced p cells depths a = (
  λ h. let e : answer p cells depths ≡ a = sym (answer-reduced p cells depths) ∙ right-computed p (reduced cells) depths a h in rw e at (answer-right p cells depths),
  λ h. let e : answer p (reduced cells) depths ≡ a = answer-reduced p cells depths ∙ right-computed p cells depths a h in rw e at (answer-right p (reduced cells) depths),
)

-- a buffer is a trace with a reading exactly if its reduced cells are
pub trace-reduced : (p : Profile) (cells : List ℕ) (b : Block) → Trace p (reduced cells) b ↔ Trace p cells b
trace-reduced p cells b =
    let n : ℕ = length cells / 49 in
    let low : length (reduced cells) / 49 ≤ n = rw (length-reduced cells) (omega arith) in
    let here : (answer p cells n ≡ accepted b) ↔ Trace p cells b = accepts-traces p cells n b (omega arith) in
    let there : (answer p (reduced cells) n ≡ accepted b) ↔ Trace p (reduced cells) b = accepts-traces p (reduced cells) n b low in
    (λ t. here.0 (sym (answer-reduced p cells n) ∙ there.1 t), λ t. there.0 (answer-reduced p cells n ∙ here.1 t))
