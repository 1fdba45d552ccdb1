-- HALT rows, the answer behind a Block, and the answer of the whole buffer.
use mathlib.Core.Path.{◌≡◌, ◌∙◌, refl, sym, ap}
use mathlib.Core.Bool.{Bool, true, false, ◌||◌}
use mathlib.Core.List.{List, [], ◌∷◌, ◌++◌}
use mathlib.Core.Option.{Option, none, some}
use types.Run.{OneOf}
use Prim.Native.Nat.{ℕ, zero, suc, ◌+◌, ◌-◌, ◌/◌, ◌%◌, ◌≤◌, ◌<◌}
use native.Mathlib.Omega.{arith}
use borrow.Author.Tests.{eqb-true, eqb-false, ltb-true, ltb-false, eq-eqb, ne_eqb}
use lib.Dec.{eqb, ltb}
use lib.ListN.{length, drop, length-drop}
use Rattle.groups.specs.Answer.{pick, first_of}
use Rattle.rows.specs.declared.records.profile.Profile.{Profile}
use Rattle.rows.specs.records.Profiles.{profile_wrong}
use Rattle.rows.specs.records.Buffers.{buffer_wrong}
use Rattle.rows.proofs.passes.Checks.{neither, none_first}
use Rattle.theory_readings.specs.Tokens.{Token, start, repeat, end, halt, nothing}
use Rattle.theory_readings.specs.Readings.{Block, numbered, spell, program_rows, asks, buffer_refusal, all_rows, Trace}
use Rattle.theory_readings.specs.Answers.{ReaderAnswer, accepted, refused, reader_refusal, Right, refusal_of, row_of, program_rows_of, depths_after}
use Rattle.theory_readings.specs.ways.Parser.{need, live, parse, WordAnswer, word_of, no_word_at, if_halt, after_halt, after_block, word_answer, read_word, first_wrong, answer_of_cells, answer_of_word, unless_bad_input, answer, levels}
use Rattle.theory_readings.proofs.Parses.{parse-done}
use Rattle.theory_readings.proofs.SpelledRows.{numbered-length, word-length}
use Rattle.theory_readings.proofs.RightAnswer.{answer-right}
use Rattle.theory_readings.proofs.AcceptedTraces.{buffer-passes, accepted-trace, accepted-passes, number-accepted, accepted-depths}
use Rattle.reader.specs.Rows.{word_in, token_in, row_kind_of}
use Rattle.reader.specs.ways.FromRow.{rows_from}
use Rattle.reader.specs.ways.Parts.{PartRead, up_to, refused_at, right_from, BlockRight}
use Rattle.reader.specs.Reads.{trace_read, TellsTrace, ReadsTrace}
use Rattle.reader.specs.ways.WholeWord.{cells_answer, HaltsRead, BehindRead}
use Rattle.reader.specs.Reads.{TraceRead}
use Rattle.reader.proofs.RowTokens.{rows_in, rows-cons, rows_none, rows_at, tag, among}

-- what is answered, by its values
abbrev pub reads : (number row program_rows : ℕ) → TraceRead
reads n r k = record { refusal = n; row = r; program_rows = k }

-- HALT ROWS

not-halt : (t : Token) (a b : WordAnswer) → OneOf (0 ∷ 1 ∷ 2 ∷ 3 ∷ 4 ∷ 5 ∷ 6 ∷ 7 ∷ 9 ∷ []) (tag (row_kind_of t)) → if_halt t a b ≡ b
unfolding if_halt row_kind_of
not-halt (start k) a b h = refl
not-halt (Token.op c) a b h = refl
not-halt Token.respan a b h = refl
not-halt repeat a b h = refl
not-halt end a b h = refl
not-halt halt a b h = absurd (among 0 (1 ∷ 2 ∷ 3 ∷ 4 ∷ 5 ∷ 6 ∷ 7 ∷ 9 ∷ []) 8 h)
not-halt nothing a b h = refl

module _ (w : List Token) (i : ℕ) where
  pub halt-more : token_in w i ≡ halt → i < length w → (b : Block) → after_halt b (rows_from w i) ≡ after_halt b (rows_from w (i + 1))
  unfolding after_halt if_halt
  halt-more e h b = ap (after_halt b) (rows_at w i halt e h)

  pub halt-stop : OneOf (0 ∷ 1 ∷ 2 ∷ 3 ∷ 4 ∷ 5 ∷ 6 ∷ 7 ∷ 9 ∷ []) (tag (row_kind_of (token_in w i))) → i < length w → (b : Block) → after_halt b (rows_from w i) ≡ pick (eqb i (length w)) (word_of b) (no_word_at i)
  unfolding after_halt
  halt-stop k h b =
      rw (ne_eqb i (length w) (λ e. omega arith)) (ap (after_halt b) (rows-cons w i h) ∙ not-halt (token_in w i) (after_halt b (rows_from w (i + 1))) (no_word_at i) k)

  pub halt-end : i ≡ length w → (b : Block) → after_halt b (rows_from w i) ≡ pick (eqb i (length w)) (word_of b) (no_word_at i)
  unfolding after_halt
  halt-end e b = rw (eq-eqb i (length w) e) (ap (after_halt b) (rows_none w i (omega arith)))

-- BEHIND A BLOCK

after_same : (w : List Token) (i n : ℕ) (b : Block) → i < length w → after_block b n (rows_from w i) ≡ after_halt b (rows_from w i)
unfolding after_block after_halt
after_same w i n b h = ap (after_block b n) (rows-cons w i h) ∙ sym (ap (after_halt b) (rows-cons w i h))

module _ (w : List Token) (next stop n : ℕ) (b : Block) (size : n ≡ length w) (h : HaltsRead w next stop) where
  no-word-by : (s t : Bool) → eqb next n ≡ s → ltb stop n ≡ t → (s || t) ≡ true → after_block b (length w) (rows_from w next) ≡ no_word_at stop
  unfolding after_block HaltsRead
  no-word-by true t e f k =
      let j : next ≡ n = eqb-true next n e in
      let m : length w ≡ stop = omega (arith, h.0, h.1) in
      ap (after_block b (length w)) (rows_none w next (omega arith)) ∙ ap no_word_at m
  no-word-by false true e f k =
      let l : stop < n = ltb-true stop n f in
      after_same w next (length w) b (omega (arith, h.0)) ∙ h.2 b ∙ rw (ne_eqb stop (length w) (λ q. omega arith)) refl
  no-word-by false false e f k = let z : ◌≡◌ {A = ℕ} 0 1 = cc in absurd (omega arith)

  word-by : (s t : Bool) → eqb next n ≡ s → ltb stop n ≡ t → (s || t) ≡ false → after_block b (length w) (rows_from w next) ≡ word_of b
  unfolding HaltsRead
  word-by true t e f k = let z : ◌≡◌ {A = ℕ} 0 1 = cc in absurd (omega arith)
  word-by false true e f k = let z : ◌≡◌ {A = ℕ} 0 1 = cc in absurd (omega arith)
  word-by false false e f k =
      let q : next ≡ n → ⊥ = eqb-false next n e in
      let l : n ≤ stop = ltb-false stop n f in
      after_same w next (length w) b (omega (arith, h.0, h.1, q)) ∙ h.2 b ∙ rw (eq-eqb stop (length w) (omega (arith, h.1))) refl

  module _ (rows : List (List ℕ)) where
    pub behind-no : (eqb next n || ltb stop n) ≡ true → reads 12 stop 0 ≡ trace_read (answer_of_word rows (after_block b (length w) (rows_from w next)))
    unfolding trace_read answer_of_word refusal_of row_of program_rows_of
    behind-no e = rw (no-word-by (eqb next n) (ltb stop n) refl refl e) refl

    pub behind-wrong : (row : ℕ) (o : Option ℕ) → (eqb next n || ltb stop n) ≡ false → o ≡ some row → o ≡ first_wrong rows (asks b) →
        reads 13 row 0 ≡ trace_read (answer_of_word rows (after_block b (length w) (rows_from w next)))
    unfolding trace_read answer_of_word answer_of_cells refusal_of row_of program_rows_of
    behind-wrong row o e f u =
        let v : some row ≡ first_wrong rows (asks b) = rw f at u in
        rw (word-by (eqb next n) (ltb stop n) refl refl e, ← v) refl

    pub behind-right : (o : Option ℕ) → (eqb next n || ltb stop n) ≡ false → o ≡ none → o ≡ first_wrong rows (asks b) → program_rows b ≡ next →
        reads 0 0 next ≡ trace_read (answer_of_word rows (after_block b (length w) (rows_from w next)))
    unfolding trace_read answer_of_word answer_of_cells refusal_of row_of program_rows_of
    behind-right o e f u k =
        let v : none ≡ first_wrong rows (asks b) = rw f at u in
        rw (word-by (eqb next n) (ltb stop n) refl refl e, ← v) (ap (reads 0 0) (sym k))

-- THE WORD

rows-length : (w : List Token) (i : ℕ) → length (rows_from w i) ≡ length w - i
unfolding rows_from
rows-length w i = length-drop i (numbered 0 w) ∙ ap (λ n. n - i) (numbered-length w 0)

from_start : (w : List Token) (b : Block) (j : ℕ) → rows_from w 0 ≡ spell b (rows_from w j) → numbered 0 w ≡ spell b (rows_from w j)
unfolding rows_from
from_start w b j f = f

module _ (p : Profile) (cells : List ℕ) (r : PartRead) (h : BlockRight (all_rows cells) (word_in p cells) 0 64 0 r) where
  pub root-refused : (number row : ℕ) → r ≡ refused_at number row → reads number row 0 ≡ trace_read (cells_answer p cells)
  unfolding cells_answer read_word BlockRight right_from rows_from trace_read refusal_of row_of program_rows_of
  root-refused number row e = let f = (rw e at h) [] in rw f refl

  pub root-done : (next : ℕ) (wrong : Option ℕ) (read : TraceRead) → r ≡ up_to next wrong → next ≤ length cells / 49 → BehindRead (all_rows cells) (word_in p cells) next wrong read → read ≡ trace_read (cells_answer p cells)
  unfolding cells_answer read_word BlockRight BehindRead word_answer asks
  root-done next wrong read e l g =
      let w : List Token = word_in p cells in
      let (b, f, d, u) = rw e at h in
      let k : numbered 0 w ≡ spell b (rows_from w next) = from_start w b next f in
      let m : program_rows b ≡ next = omega (arith, word-length w b (rows_from w next) k, rows-length w next, rows_in p cells, l) in
      g b m u
      ∙ ap (λ x. trace_read (answer_of_word (all_rows cells) x)) (sym (ap (λ y. word_answer (length w) (parse y (live (need 64 [])))) k ∙ ap (word_answer (length w)) (parse-done b 64 (rows_from w next) d)))

-- THE ANSWER

-- what a refusal leaves
left_by_lem : (rows : ℕ) (a : ReaderAnswer) (depths : List ℕ) → (refusal_of a ≡ 0 → ⊥) → depths ≡ depths_after rows a depths
unfolding depths_after refusal_of
left_by_lem rows (accepted b) depths h = absurd (h refl)
left_by_lem rows (refused number row) depths h = refl

module _ (p : Profile) (cells : List ℕ) (depths : ℕ) where
  bad-input : (n : ℕ) → reader_refusal p cells depths ≡ n → (n ≡ 0 → ⊥) → answer p cells depths ≡ refused n 0
  unfolding answer unless_bad_input
  bad-input zero f h = absurd (h refl)
  bad-input (suc n) f h = rw f refl

  good-answer : reader_refusal p cells depths ≡ 0 → answer p cells depths ≡ cells_answer p cells
  unfolding answer unless_bad_input cells_answer word_in
  good-answer f = rw f refl

  by_answer : (read : TraceRead) → read ≡ trace_read (answer p cells depths) → TellsTrace p cells depths read
  by_answer read e = record { answered = answer p cells depths; is_right = answer-right p cells depths; told_is = e }

  module _ (number : ℕ) (e : number ≡ reader_refusal p cells depths) where
    pub bad-read : (number ≡ 0 → ⊥) → TellsTrace p cells depths (reads number 0 0)
    unfolding trace_read refusal_of row_of program_rows_of
    bad-read h =
        let f : reads number 0 0 ≡ trace_read (answer p cells depths) = rw (bad-input number (sym e) h) refl in
        by_answer (reads number 0 0) f

    pub good-read : number ≡ 0 → (read : TraceRead) → read ≡ trace_read (cells_answer p cells) → TellsTrace p cells depths read
    good-read z read k =
        let f : read ≡ trace_read (answer p cells depths) = rw (good-answer (sym e ∙ z)) k in
        by_answer read f

module _ (p : Profile) (cells : List ℕ) (depths : ℕ) (read : TraceRead) (v : TellsTrace p cells depths read) where
  pub number_of : read.refusal ≡ refusal_of v.answered
  unfolding trace_read
  number_of = ap (λ (r : TraceRead). r.refusal) v.told_is

  pub row-of : read.row ≡ row_of v.answered
  unfolding trace_read
  row-of = ap (λ (r : TraceRead). r.row) v.told_is

  -- what is told as 0 is accepted
  module _ (h : read.refusal ≡ 0) where
    pub is-accepted : (b : Block) × (v.answered ≡ accepted b)
    is-accepted = number-accepted p cells depths v.answered v.is_right (sym number_of ∙ h)

    accepts : Right p cells depths (accepted is-accepted.0)
    accepts = rw is-accepted.1 at v.is_right

    pub is_trace : Trace p cells is-accepted.0
    is_trace = accepted-trace p cells depths is-accepted.0 accepts

    passed : (buffer_refusal p cells ≡ 0) × (length cells / 49 ≤ depths)
    passed = buffer-passes p cells depths (accepted-passes p cells depths is-accepted.0 accepts)

    -- the rows are few enough to count, and the depths enough
    pub few-rows : length cells / 49 ≤ 16777216
    unfolding buffer_refusal first_of buffer_wrong
    few-rows =
        let (k, l) = none_first (profile_wrong p) 1 ((buffer_wrong (length cells), 11) ∷ []) passed.0 in
        let (m, n) = none_first (buffer_wrong (length cells)) 10 [] l in
        ltb-false 16777216 (length cells / 49) (neither (ltb 0 (length cells % 49)) (ltb 16777216 (length cells / 49)) m).1

    pub enough : length cells / 49 ≤ depths
    enough = passed.1

module _ (p : Profile) (cells depths : List ℕ) (read : TraceRead) (v : TellsTrace p cells (length depths) read) where
  reads-by : (after : List ℕ) → after ≡ depths_after (length cells / 49) v.answered depths → ReadsTrace p cells depths read after
  reads-by after f = record { answered = v.answered; is_right = v.is_right; told_is = v.told_is; left_is = f }

  pub kept-depths : (read.refusal ≡ 0 → ⊥) → ReadsTrace p cells depths read depths
  kept-depths h = reads-by depths (left_by_lem (length cells / 49) v.answered depths (λ f. h (number_of p cells (length depths) read v ∙ f)))

  pub filled-depths : read.refusal ≡ 0 → (after : List ℕ) → after ≡ levels 0 (word_in p cells) ++ drop (length cells / 49) depths → ReadsTrace p cells depths read after
  unfolding word_in
  filled-depths h after f =
      let (b, e) = is-accepted p cells (length depths) read v h in
      let g : after ≡ depths_after (length cells / 49) v.answered depths =
      rw e (f ∙ sym (accepted-depths p cells depths b (is_trace p cells (length depths) read v h))) in
      reads-by after g
