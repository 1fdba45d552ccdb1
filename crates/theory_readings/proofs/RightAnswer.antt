-- There is exactly one right answer for every buffer, profile and number of lent depths, and it is the computed one.
use mathlib.Core.Path.{◌≡◌, ◌∙◌, refl, sym, ap}
use mathlib.Core.List.{List, []}
use mathlib.Core.Option.{Option, none, some}
use Prim.Native.Nat.{ℕ, zero, suc}
use Rattle.rows.specs.declared.records.profile.Profile.{Profile}
use Rattle.theory_readings.specs.Tokens.{Token, tokens_of}
use Rattle.theory_readings.specs.Readings.{Block, WordOf, asks, Reading, all_rows}
use Rattle.theory_readings.specs.Answers.{ReaderAnswer, reader_refusal, WordWithin, Right, bad_input, no_word, too_deep, wrong_cell, trace}
use Rattle.theory_readings.specs.ways.Parser.{WordAnswer, word_of, no_word_at, too_deep_at, read_word, first_wrong, answer_of_cells, answer_of_word, unless_bad_input, answer}
use Rattle.theory_readings.proofs.WordAnswers.{Says, read_word-says}
use Rattle.theory_readings.proofs.OneWordAnswer.{read_word-exact}
use Rattle.theory_readings.proofs.AskOrder.{Ascending, block-asks}
use Rattle.theory_readings.proofs.LowestRow.{Found, found, one_found}

-- a whole word asks in the order of its rows
word-ascending : (w : List Token) (b : Block) → WordOf w b → Ascending 0 (asks b)
unfolding WordOf asks Ascending
word-ascending w b (rest, e, h) = (block-asks b 0 w rest 0 e).4 [] tt

module _ (p : Profile) (cells : List ℕ) (depths : ℕ) where
  abbrev rows : List (List ℕ)
  rows = all_rows cells

  abbrev tokens : List Token
  tokens = tokens_of p (all_rows cells)

  cells_right : (b : Block) (o : Option ℕ) → reader_refusal p cells depths ≡ 0 → WordWithin tokens b → Found rows (asks b) o → Right p cells depths (answer_of_cells b o)
  unfolding answer_of_cells WordWithin Reading
  cells_right b none e w f = trace b e (w.0, w.1, f)
  cells_right b (some n) e w f = wrong_cell b n e w f

  word-right : (o : WordAnswer) → reader_refusal p cells depths ≡ 0 → Says tokens o → Right p cells depths (answer_of_word rows o)
  unfolding answer_of_word WordWithin
  word-right (word_of b) e w = cells_right b (first_wrong rows (asks b)) e w (found rows (asks b) 0 (word-ascending tokens b w.0))
  word-right (no_word_at n) e w = no_word n e w
  word-right (too_deep_at n) e w = too_deep n e w

  right_by : (number : ℕ) → reader_refusal p cells depths ≡ number → Right p cells depths (unless_bad_input number (answer_of_word rows (read_word tokens)))
  unfolding unless_bad_input
  right_by zero e = word-right (read_word tokens) e (read_word-says tokens)
  right_by (suc number) e = bad_input number e

  -- the computed answer is right
  pub answer-right : Right p cells depths (answer p cells depths)
  unfolding answer
  answer-right = right_by (reader_refusal p cells depths) refl

  of_word : (o : WordAnswer) → reader_refusal p cells depths ≡ 0 → Says tokens o → answer p cells depths ≡ answer_of_word rows o
  unfolding answer unless_bad_input
  of_word o e w = rw (e, (read_word-exact tokens o).1 w) refl

  of-cells : (b : Block) (o : Option ℕ) → reader_refusal p cells depths ≡ 0 → WordWithin tokens b → Found rows (asks b) o → answer p cells depths ≡ answer_of_cells b o
  unfolding answer_of_word WordWithin
  of-cells b o e w f =
      of_word (word_of b) e w
      ∙ ap (answer_of_cells b) (one_found rows (asks b) (first_wrong rows (asks b)) o (found rows (asks b) 0 (word-ascending tokens b w.0)) f)

  -- what is right is the computed answer
  pub right-computed : (a : ReaderAnswer) → Right p cells depths a → answer p cells depths ≡ a
  unfolding answer unless_bad_input answer_of_word answer_of_cells WordWithin Reading
  right-computed a (bad_input number e) = rw e refl
  right-computed a (no_word n e w) = of_word (no_word_at n) e w
  right-computed a (too_deep n e w) = of_word (too_deep_at n) e w
  right-computed a (wrong_cell b n e w f) = of-cells b (some n) e w f
  right-computed a (trace b e r) = of-cells b none e (r.0, r.1) r.2

  -- two right answers are one
  pub one_answer : (a a' : ReaderAnswer) → Right p cells depths a → Right p cells depths a' → a ≡ a'
  one_answer a a' x y = sym (right-computed a x) ∙ right-computed a' y

  -- there is exactly one right answer
  pub exactly-one-answer : (a : ReaderAnswer) × Right p cells depths a × ((a' : ReaderAnswer) → Right p cells depths a' → a ≡ a')
  exactly-one-answer = (answer p cells depths, answer-right, right-computed)
