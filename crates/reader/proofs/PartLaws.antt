-- What is right of a part, a law for each way through the code: where the rows go on, where they fail, and the trees that they spell.
use mathlib.Core.Path.{◌≡◌, ◌∙◌, refl, sym, ap}
use mathlib.Core.List.{List, [], ◌∷◌}
use types.Run.{OneOf}
use Prim.Native.Nat.{ℕ, suc, ◌+◌, ◌-◌, ◌≤◌, ◌<◌}
use native.Mathlib.Omega.{arith}
use mathlib.Core.Option.{Option, none}
use native.Mathlib.Nat.{zero-add}
use native.Mathlib.Decide.{dec_lt}
use lib.Dec.{eqb}
use lib.ListN.{length}
use Rattle.std.specs.Prelude.{Option as Answered, Some, None}
use Rattle.std.specs.Option.{option_or}
use Rattle.field.specs.Cells.{cell_at}
use Rattle.theory_readings.specs.Tokens.{OneChild, Kind, Token, start, repeat, end, halt, nothing}
use Rattle.theory_readings.specs.Readings.{Ops, Block, Passes, spell_ops, spell, spell_passes, depth_of, depth_of_passes, flag, passes_in, end_row_of, asks_of, asks_of_passes, row_at}
use Rattle.theory_readings.specs.Answers.{ReaderAnswer, refused}
use Rattle.theory_readings.specs.ways.Parser.{PassesRead, no_pass, pass, OpsRead, no_op, Open, first, second, child, body, both, only, ran, Live, need, inside, full, fails, deeper, State, live, stop, give, enter, opening, at_repeat, step, Parsed, parse, word_answer, or_else, first_wrong, answer_of_word}
use Rattle.theory_readings.proofs.Parses.{parse-stop, parses}
use Rattle.reader.specs.Rows.{token_in, row_kind_of}
use Rattle.reader.specs.ways.FromRow.{rows_from}
use Rattle.reader.specs.ways.Parts.{PartRead, up_to, refused_at, told_wrong, wrong_unless, too_deep, closed, Ahead, right_from, OpsRight, BlockRight, PassesRight}
use Rattle.reader.specs.declared.token.RowKind.{RowKind}
use Rattle.reader.specs.declared.token.RowKind.TheVariants.{Span, Join, One, Loop, Op, Respan, Repeat, End, Halt, Nothing}
use Rattle.reader.proofs.RowTokens.{rows_none, rows_at, token-inside, tag, among}
use Rattle.reader.proofs.WrongRows.{else-assoc, flag-alone, count-wrong, block-wrong}

-- THE LOWEST WRONG ROW

-- the first of two wrong rows that there is
pub told-or : (r a b : Answered ℕ) → r ≡ option_or a b → told_wrong r ≡ or_else (told_wrong a) (told_wrong b)
told-or r (Some row) b e = rw e
told-or r None b e = rw e

-- WHERE A PART GOES ON

pub ahead-done : (r : PartRead) (next row rows : ℕ) (wrong : Option ℕ) → r ≡ up_to next wrong → Ahead row rows r → (row < next) × (next ≤ rows)
unfolding Ahead
ahead-done r next row rows wrong e h = rw e at h

pub ahead-from : (r : PartRead) (row later rows : ℕ) → row ≤ later → Ahead later rows r → Ahead row rows r
unfolding Ahead
ahead-from (up_to next wrong) row later rows e h = (omega arith, omega arith)
ahead-from (refused_at number at) row later rows e h = tt

-- ROWS THAT FAIL

-- a row that is no END
abbrev NotEnd : Token → Type 0
NotEnd (start k) = Unit {0}
NotEnd (Token.op c) = Unit {0}
NotEnd Token.respan = Unit {0}
NotEnd repeat = Unit {0}
NotEnd end = ⊥
NotEnd halt = Unit {0}
NotEnd nothing = Unit {0}

-- what holds of both ways to close a block holds of its closing
closing : (Q : PartRead → Type 0) (a h4 wanted : ℕ) (v : Option ℕ) (t : Token) → (t ≡ end → Q (up_to (a + 1) (or_else v (wrong_unless (eqb h4 wanted) a)))) → (NotEnd t → Q (refused_at 12 a)) → Q (closed (row_kind_of t) a h4 wanted v)
unfolding closed row_kind_of
closing Q a h4 wanted v (start Kind.span) y n = n tt
closing Q a h4 wanted v (start Kind.join) y n = n tt
closing Q a h4 wanted v (start Kind.loop) y n = n tt
closing Q a h4 wanted v (start (Kind.one k)) y n = n tt
closing Q a h4 wanted v (Token.op c) y n = n tt
closing Q a h4 wanted v Token.respan y n = n tt
closing Q a h4 wanted v repeat y n = n tt
closing Q a h4 wanted v end y n = y refl
closing Q a h4 wanted v halt y n = n tt
closing Q a h4 wanted v nothing y n = n tt

pub closed-end : (k : RowKind) (a h4 wanted : ℕ) (v : Option ℕ) → k ≡ End → up_to (a + 1) (or_else v (wrong_unless (eqb h4 wanted) a)) ≡ closed k a h4 wanted v
unfolding closed
closed-end k a h4 wanted v e = rw e

pub closed-no : (k : RowKind) (a h4 wanted : ℕ) (v : Option ℕ) → OneOf (0 ∷ 1 ∷ 2 ∷ 3 ∷ 4 ∷ 5 ∷ 6 ∷ 8 ∷ 9 ∷ []) (tag k) → refused_at 12 a ≡ closed k a h4 wanted v
unfolding closed
closed-no Span a h4 wanted v h = refl
closed-no Join a h4 wanted v h = refl
closed-no One a h4 wanted v h = refl
closed-no Loop a h4 wanted v h = refl
closed-no Op a h4 wanted v h = refl
closed-no Respan a h4 wanted v h = refl
closed-no Repeat a h4 wanted v h = refl
closed-no End a h4 wanted v h = absurd (among 0 (1 ∷ 2 ∷ 3 ∷ 4 ∷ 5 ∷ 6 ∷ 8 ∷ 9 ∷ []) 7 h)
closed-no Halt a h4 wanted v h = refl
closed-no Nothing a h4 wanted v h = refl

pub deep-start : (k : RowKind) (row : ℕ) → OneOf (0 ∷ 1 ∷ 2 ∷ 3 ∷ []) (tag k) → refused_at 15 row ≡ too_deep k row
unfolding too_deep
deep-start Span row h = refl
deep-start Join row h = refl
deep-start One row h = refl
deep-start Loop row h = refl
deep-start Op row h = absurd (among 0 (1 ∷ 2 ∷ 3 ∷ []) 4 h)
deep-start Respan row h = absurd (among 0 (1 ∷ 2 ∷ 3 ∷ []) 5 h)
deep-start Repeat row h = absurd (among 0 (1 ∷ 2 ∷ 3 ∷ []) 6 h)
deep-start End row h = absurd (among 0 (1 ∷ 2 ∷ 3 ∷ []) 7 h)
deep-start Halt row h = absurd (among 0 (1 ∷ 2 ∷ 3 ∷ []) 8 h)
deep-start Nothing row h = absurd (among 0 (1 ∷ 2 ∷ 3 ∷ []) 9 h)

pub deep-no : (k : RowKind) (row : ℕ) → OneOf (4 ∷ 5 ∷ 6 ∷ 7 ∷ 8 ∷ 9 ∷ []) (tag k) → refused_at 12 row ≡ too_deep k row
unfolding too_deep
deep-no Span row h = absurd (among 4 (5 ∷ 6 ∷ 7 ∷ 8 ∷ 9 ∷ []) 0 h)
deep-no Join row h = absurd (among 4 (5 ∷ 6 ∷ 7 ∷ 8 ∷ 9 ∷ []) 1 h)
deep-no One row h = absurd (among 4 (5 ∷ 6 ∷ 7 ∷ 8 ∷ 9 ∷ []) 2 h)
deep-no Loop row h = absurd (among 4 (5 ∷ 6 ∷ 7 ∷ 8 ∷ 9 ∷ []) 3 h)
deep-no Op row h = refl
deep-no Respan row h = refl
deep-no Repeat row h = refl
deep-no End row h = refl
deep-no Halt row h = refl
deep-no Nothing row h = refl

-- what is refused there lies nowhere
pub deep-ahead : (k : RowKind) (at row rows : ℕ) → Ahead row rows (too_deep k at)
unfolding Ahead too_deep
deep-ahead Span at row rows = tt
deep-ahead Join at row rows = tt
deep-ahead One at row rows = tt
deep-ahead Loop at row rows = tt
deep-ahead Op at row rows = tt
deep-ahead Respan at row rows = tt
deep-ahead Repeat at row rows = tt
deep-ahead End at row rows = tt
deep-ahead Halt at row rows = tt
deep-ahead Nothing at row rows = tt

-- a closed block goes on behind its END
pub closed-ahead : (w : List Token) (a h4 wanted : ℕ) (v : Option ℕ) (r : PartRead) → r ≡ closed (row_kind_of (token_in w a)) a h4 wanted v → Ahead a (length w) r
unfolding Ahead row_kind_of
closed-ahead w a h4 wanted v r f =
    rw f (closing (Ahead a (length w)) a h4 wanted v (token_in w a) (λ e. let i = token-inside w a end e tt in (omega arith, omega arith)) (λ n. tt))

no-end-both : (d : ℕ) (s : List Open) (n : ℕ) (a b : Block) (m : ℕ) (t : Token) → NotEnd t → step (full d s (both n a b)) m t ≡ stop (fails m)
unfolding step
no-end-both d s n a b m (start k) h = refl
no-end-both d s n a b m (Token.op c) h = refl
no-end-both d s n a b m Token.respan h = refl
no-end-both d s n a b m repeat h = refl
no-end-both d s n a b m end h = absurd h
no-end-both d s n a b m halt h = refl
no-end-both d s n a b m nothing h = refl

no-end-only : (d : ℕ) (s : List Open) (k : OneChild) (n : ℕ) (a : Block) (m : ℕ) (t : Token) → NotEnd t → step (full d s (only k n a)) m t ≡ stop (fails m)
unfolding step
no-end-only d s k n a m (start j) h = refl
no-end-only d s k n a m (Token.op c) h = refl
no-end-only d s k n a m Token.respan h = refl
no-end-only d s k n a m repeat h = refl
no-end-only d s k n a m end h = absurd h
no-end-only d s k n a m halt h = refl
no-end-only d s k n a m nothing h = refl

no_start : (d : ℕ) (s : List Open) (m : ℕ) (t : Token) → OneOf (4 ∷ 5 ∷ 6 ∷ 7 ∷ 8 ∷ 9 ∷ []) (tag (row_kind_of t)) → step (need d s) m t ≡ stop (fails m)
unfolding step row_kind_of
no_start d s m (start Kind.span) h = absurd (among 4 (5 ∷ 6 ∷ 7 ∷ 8 ∷ 9 ∷ []) 0 h)
no_start d s m (start Kind.join) h = absurd (among 4 (5 ∷ 6 ∷ 7 ∷ 8 ∷ 9 ∷ []) 1 h)
no_start d s m (start Kind.loop) h = absurd (among 4 (5 ∷ 6 ∷ 7 ∷ 8 ∷ 9 ∷ []) 3 h)
no_start d s m (start (Kind.one k)) h = absurd (among 4 (5 ∷ 6 ∷ 7 ∷ 8 ∷ 9 ∷ []) 2 h)
no_start d s m (Token.op c) h = refl
no_start d s m Token.respan h = refl
no_start d s m repeat h = refl
no_start d s m end h = refl
no_start d s m halt h = refl
no_start d s m nothing h = refl

no-op : (d : ℕ) (s : List Open) (n : ℕ) (i : OpsRead) (m : ℕ) (t : Token) → OneOf (0 ∷ 1 ∷ 2 ∷ 3 ∷ 6 ∷ 8 ∷ 9 ∷ []) (tag (row_kind_of t)) → step (inside d s n i) m t ≡ stop (fails m)
unfolding step row_kind_of
no-op d s n i m (start k) h = refl
no-op d s n i m (Token.op c) h = absurd (among 0 (1 ∷ 2 ∷ 3 ∷ 6 ∷ 8 ∷ 9 ∷ []) 4 h)
no-op d s n i m Token.respan h = absurd (among 0 (1 ∷ 2 ∷ 3 ∷ 6 ∷ 8 ∷ 9 ∷ []) 5 h)
no-op d s n i m repeat h = refl
no-op d s n i m end h = absurd (among 0 (1 ∷ 2 ∷ 3 ∷ 6 ∷ 8 ∷ 9 ∷ []) 7 h)
no-op d s n i m halt h = refl
no-op d s n i m nothing h = refl

no-pass : (d : ℕ) (s : List Open) (n : ℕ) (q : PassesRead) (b : Block) (m : ℕ) (t : Token) → OneOf (0 ∷ 1 ∷ 2 ∷ 3 ∷ 4 ∷ 5 ∷ 8 ∷ 9 ∷ []) (tag (row_kind_of t)) → step (full d s (ran n q b)) m t ≡ stop (fails m)
unfolding step row_kind_of
no-pass d s n q b m (start k) h = refl
no-pass d s n q b m (Token.op c) h = refl
no-pass d s n q b m Token.respan h = refl
no-pass d s n q b m repeat h = absurd (among 0 (1 ∷ 2 ∷ 3 ∷ 4 ∷ 5 ∷ 8 ∷ 9 ∷ []) 6 h)
no-pass d s n q b m end h = absurd (among 0 (1 ∷ 2 ∷ 3 ∷ 4 ∷ 5 ∷ 8 ∷ 9 ∷ []) 7 h)
no-pass d s n q b m halt h = refl
no-pass d s n q b m nothing h = refl

module _ (rows : List (List ℕ)) (w : List Token) where
  -- WHAT IS RIGHT FROM A ROW ON

  abbrev told : Parsed → ReaderAnswer
  told x = answer_of_word rows (word_answer (length w) x)

  right-step : (i : ℕ) (l : Live) (t : Token) (x : State) → token_in w i ≡ t → i < length w → step l i t ≡ x → right_from rows w i l ≡ told (parse (rows_from w (i + 1)) x)
  unfolding right_from parse
  right-step i l t x e h f = ap (λ r. told (parse r (live l))) (rows_at w i t e h) ∙ ap (λ y. told (parse (rows_from w (i + 1)) y)) f

  -- the row is taken
  right-next : (i : ℕ) (l l' : Live) (t : Token) → token_in w i ≡ t → i < length w → step l i t ≡ live l' → right_from rows w i l ≡ right_from rows w (i + 1) l'
  unfolding right_from
  right-next i l l' t e h f = right-step i l t (live l') e h f

  -- the row, or the end, fails
  right-fails : (i : ℕ) (l : Live) → i ≤ length w → step l i (token_in w i) ≡ stop (fails i) → right_from rows w i l ≡ refused 12 i
  unfolding right_from parse word_answer answer_of_word
  right-fails i l h f = at (dec_lt i (length w))
    where
      at : Dec (i < length w) → right_from rows w i l ≡ refused 12 i
      at (yes k) = right-step i l (token_in w i) (stop (fails i)) refl k f ∙ ap told (parse-stop (rows_from w (i + 1)) (fails i))
      at (no k) = let e : length w ≡ i = omega (arith, k) in ap (λ r. told (parse r (live l))) (rows_none w i (omega (arith, e))) ∙ ap (refused 12) e

  -- the row starts a block too deep
  right-deep : (i : ℕ) (l : Live) (t : Token) → token_in w i ≡ t → i < length w → step l i t ≡ stop (deeper i) → right_from rows w i l ≡ refused 15 i
  unfolding word_answer answer_of_word
  right-deep i l t e h f = right-step i l t (stop (deeper i)) e h f ∙ ap told (parse-stop (rows_from w (i + 1)) (deeper i))

  -- a Block is taken
  right-block : (b : Block) (d i j : ℕ) (s : List Open) (l : Live) → rows_from w i ≡ spell b (rows_from w j) → depth_of b ≤ d → give d s b ≡ live l → right_from rows w i (need d s) ≡ right_from rows w j l
  unfolding right_from
  right-block b d i j s l e h f =
      ap (λ r. told (parse r (live (need d s)))) e ∙ ap told (parses b d s (rows_from w j) h) ∙ ap (λ y. told (parse (rows_from w j) y)) f

  -- OPS

  ops-op : (row wanted c : ℕ) → token_in w row ≡ Token.op c → row < length w → (r : PartRead) → OpsRight rows w (row + 1) wanted r → OpsRight rows w row wanted r
  unfolding OpsRight spell_ops end_row_of step
  ops-op row wanted c e i (up_to next wrong) (o, f, g) = (Ops.op row c o, rows_at w row _ e i ∙ ap (λ r. (row, Token.op c) ∷ r) f, g)
  ops-op row wanted c e i (refused_at number at) h = λ left s n j. right-next row _ _ _ e i refl ∙ h left s n (OpsRead.op j row c)

  ops-respan : (row wanted : ℕ) → token_in w row ≡ Token.respan → row < length w → (r : PartRead) → OpsRight rows w (row + 1) wanted r → OpsRight rows w row wanted r
  unfolding OpsRight spell_ops end_row_of step
  ops-respan row wanted e i (up_to next wrong) (o, f, g) = (Ops.respan row o, rows_at w row _ e i ∙ ap (λ r. (row, Token.respan) ∷ r) f, g)
  ops-respan row wanted e i (refused_at number at) h = λ left s n j. right-next row _ _ _ e i refl ∙ h left s n (OpsRead.respan j row)

  more_by : (t : Token) (row wanted : ℕ) → token_in w row ≡ t → OneOf (4 ∷ 5 ∷ []) (tag (row_kind_of t)) → row < length w → (r : PartRead) → OpsRight rows w (row + 1) wanted r → OpsRight rows w row wanted r
  unfolding row_kind_of
  more_by (start Kind.span) row wanted e h i r x = absurd (among 4 (5 ∷ []) 0 h)
  more_by (start Kind.join) row wanted e h i r x = absurd (among 4 (5 ∷ []) 1 h)
  more_by (start Kind.loop) row wanted e h i r x = absurd (among 4 (5 ∷ []) 3 h)
  more_by (start (Kind.one k)) row wanted e h i r x = absurd (among 4 (5 ∷ []) 2 h)
  more_by (Token.op c) row wanted e h i r x = ops-op row wanted c e i r x
  more_by Token.respan row wanted e h i r x = ops-respan row wanted e i r x
  more_by repeat row wanted e h i r x = absurd (among 4 (5 ∷ []) 6 h)
  more_by end row wanted e h i r x = absurd (among 4 (5 ∷ []) 7 h)
  more_by halt row wanted e h i r x = absurd (among 4 (5 ∷ []) 8 h)
  more_by nothing row wanted e h i r x = absurd (among 4 (5 ∷ []) 9 h)

  -- an op or a RESPAN, END, or a row that fails
  pub ops-more : (row wanted : ℕ) → OneOf (4 ∷ 5 ∷ []) (tag (row_kind_of (token_in w row))) → row < length w → (r : PartRead) → OpsRight rows w (row + 1) wanted r → OpsRight rows w row wanted r
  ops-more row wanted h i r x = more_by (token_in w row) row wanted refl h i r x

  pub ops-end : (row wanted : ℕ) → token_in w row ≡ end → row < length w → OpsRight rows w row wanted (up_to (row + 1) (wrong_unless (eqb (cell_at (row_at rows row) 18) wanted) row))
  unfolding OpsRight spell_ops end_row_of
  ops-end row wanted e i = (Ops.ended row, rows_at w row _ e i, flag-alone rows row wanted)

  pub ops-no : (row wanted : ℕ) → OneOf (0 ∷ 1 ∷ 2 ∷ 3 ∷ 6 ∷ 8 ∷ 9 ∷ []) (tag (row_kind_of (token_in w row))) → row ≤ length w → OpsRight rows w row wanted (refused_at 12 row)
  unfolding OpsRight
  ops-no row wanted h i = λ left s n j. right-fails row (inside left s n j) i (no-op left s n j row (token_in w row) h)

  -- BLOCKS

  -- where one more may open
  pub at_left : (row left wanted : ℕ) (r : PartRead) → 0 < left → BlockRight rows w row (suc (left - 1)) wanted r → BlockRight rows w row left wanted r
  at_left row left wanted r h x = let e : suc (left - 1) ≡ left = omega arith in rw e at x

  deep-by : (t : Token) (row wanted : ℕ) → token_in w row ≡ t → row ≤ length w → BlockRight rows w row 0 wanted (too_deep (row_kind_of t) row)
  unfolding BlockRight too_deep row_kind_of step opening
  deep-by (start Kind.span) row wanted e h = λ s. right-deep row (need 0 s) _ e (token-inside w row _ e tt) refl
  deep-by (start Kind.join) row wanted e h = λ s. right-deep row (need 0 s) _ e (token-inside w row _ e tt) refl
  deep-by (start Kind.loop) row wanted e h = λ s. right-deep row (need 0 s) _ e (token-inside w row _ e tt) refl
  deep-by (start (Kind.one k)) row wanted e h = λ s. right-deep row (need 0 s) _ e (token-inside w row _ e tt) refl
  deep-by (Token.op c) row wanted e h = λ s. right-fails row (need 0 s) h (ap (step (need 0 s) row) e)
  deep-by Token.respan row wanted e h = λ s. right-fails row (need 0 s) h (ap (step (need 0 s) row) e)
  deep-by repeat row wanted e h = λ s. right-fails row (need 0 s) h (ap (step (need 0 s) row) e)
  deep-by end row wanted e h = λ s. right-fails row (need 0 s) h (ap (step (need 0 s) row) e)
  deep-by halt row wanted e h = λ s. right-fails row (need 0 s) h (ap (step (need 0 s) row) e)
  deep-by nothing row wanted e h = λ s. right-fails row (need 0 s) h (ap (step (need 0 s) row) e)

  pub block-deep : (row left wanted : ℕ) → left ≡ 0 → row ≤ length w → BlockRight rows w row left wanted (too_deep (row_kind_of (token_in w row)) row)
  block-deep row left wanted e h = rw e (deep-by (token_in w row) row wanted refl h)

  pub block_no : (row left wanted : ℕ) → OneOf (4 ∷ 5 ∷ 6 ∷ 7 ∷ 8 ∷ 9 ∷ []) (tag (row_kind_of (token_in w row))) → row ≤ length w → BlockRight rows w row left wanted (refused_at 12 row)
  unfolding BlockRight
  block_no row left wanted h i = λ s. right-fails row (need left s) i (no_start left s row (token_in w row) h)

  module _ (row d wanted : ℕ) (i : row < length w) where
    pub block-span : token_in w row ≡ start Kind.span → (r : PartRead) → OpsRight rows w (row + 1) wanted r → BlockRight rows w row (suc d) wanted r
    unfolding OpsRight BlockRight spell depth_of asks_of step opening enter
    block-span e (up_to next wrong) (o, f, g) =
        (Block.span row o, rows_at w row _ e i ∙ ap (λ r. (row, start Kind.span) ∷ r) f, omega arith, g)
    block-span e (refused_at number at) h = λ s. right-next row _ _ _ e i refl ∙ h d s row no_op

    -- one child
    module _ (k : OneChild) (e : token_in w row ≡ start (Kind.one k)) (x : PartRead) (h : BlockRight rows w (row + 1) d 0 x) where
      pub one-refused : (number at : ℕ) → x ≡ refused_at number at → BlockRight rows w row (suc d) wanted x
      unfolding BlockRight step opening enter
      one-refused number at f = rw f (λ s. right-next row _ _ _ e i refl ∙ (rw f at h) (child k row ∷ s))

      one_end : (b : Block) (a : ℕ) (v : Option ℕ) → rows_from w (row + 1) ≡ spell b (rows_from w a) → depth_of b ≤ d → v ≡ first_wrong rows (asks_of 0 b []) → token_in w a ≡ end →
          BlockRight rows w row (suc d) wanted (up_to (a + 1) (or_else v (wrong_unless (eqb (cell_at (row_at rows a) 18) wanted) a)))
      unfolding BlockRight spell depth_of asks_of row_kind_of
      one_end b a v f g u j = (
        Block.one k row b a,
        rows_at w row _ e i ∙ ap (λ r. (row, start (Kind.one k)) ∷ r) (f ∙ ap (spell b) (rows_at w a end j (token-inside w a end j tt))),
        omega arith,
        ap (or_else v) (flag-alone rows a wanted) ∙ sym (block-wrong rows b 0 v (flag a wanted ∷ []) u),
      )

      one-no : (b : Block) (a : ℕ) → rows_from w (row + 1) ≡ spell b (rows_from w a) → depth_of b ≤ d → a ≤ length w → NotEnd (token_in w a) → BlockRight rows w row (suc d) wanted (refused_at 12 a)
      unfolding BlockRight step opening enter give
      one-no b a f g l n =
          λ s. right-next row _ _ _ e i refl ∙ right-block b d (row + 1) a (child k row ∷ s) (full d s (only k row b)) f g refl ∙ right-fails a (full d s (only k row b)) l (no-end-only d s k row b a (token_in w a) n)

      pub one-closed : (a : ℕ) (v : Option ℕ) → x ≡ up_to a v → a ≤ length w → BlockRight rows w row (suc d) wanted (closed (row_kind_of (token_in w a)) a (cell_at (row_at rows a) 18) wanted v)
      unfolding BlockRight
      one-closed a v f l =
          let (b, p, g, u) = rw f at h in
          closing (BlockRight rows w row (suc d) wanted) a (cell_at (row_at rows a) 18) wanted v (token_in w a) (one_end b a v p g u) (one-no b a p g l)

    -- two
    module _ (e : token_in w row ≡ start Kind.join) (x : PartRead) (h : BlockRight rows w (row + 1) d 0 x) where
      pub first-refused : (number at : ℕ) → x ≡ refused_at number at → BlockRight rows w row (suc d) wanted x
      unfolding BlockRight step opening enter
      first-refused number at f = rw f (λ s. right-next row _ _ _ e i refl ∙ (rw f at h) (first row ∷ s))

      module _ (a : ℕ) (v : Option ℕ) (f : x ≡ up_to a v) (y : PartRead) (z : BlockRight rows w a d 0 y) where
        pub second-refused : (number at : ℕ) → y ≡ refused_at number at → BlockRight rows w row (suc d) wanted y
        unfolding BlockRight step opening enter give
        second-refused number at g =
            let (b, p, q, u) = rw f at h in
            rw g (λ s. right-next row _ _ _ e i refl ∙ right-block b d (row + 1) a (first row ∷ s) (need d (second row b ∷ s)) p q refl ∙ (rw g at z) (second row b ∷ s))

        join-end : (b b' : Block) (n : ℕ) (v' : Option ℕ) → rows_from w (row + 1) ≡ spell b (rows_from w a) → rows_from w a ≡ spell b' (rows_from w n) → depth_of b ≤ d → depth_of b' ≤ d →
            v ≡ first_wrong rows (asks_of 0 b []) → v' ≡ first_wrong rows (asks_of 0 b' []) → token_in w n ≡ end →
            BlockRight rows w row (suc d) wanted (up_to (n + 1) (or_else (or_else v v') (wrong_unless (eqb (cell_at (row_at rows n) 18) wanted) n)))
        unfolding BlockRight spell depth_of asks_of row_kind_of
        join-end b b' n v' p p' g g' u u' j = (
          Block.join row b b' n,
          rows_at w row _ e i ∙ ap (λ r. (row, start Kind.join) ∷ r) (p ∙ ap (spell b) (p' ∙ ap (spell b') (rows_at w n end j (token-inside w n end j tt)))),
          omega arith,
          else-assoc v v' (wrong_unless (eqb (cell_at (row_at rows n) 18) wanted) n)
              ∙ ap (λ o. or_else v (or_else v' o)) (flag-alone rows n wanted)
              ∙ ap (or_else v) (sym (block-wrong rows b' 0 v' (flag n wanted ∷ []) u'))
              ∙ sym (block-wrong rows b 0 v (asks_of 0 b' (flag n wanted ∷ [])) u),
        )

        join-no : (b b' : Block) (n : ℕ) → rows_from w (row + 1) ≡ spell b (rows_from w a) → rows_from w a ≡ spell b' (rows_from w n) → depth_of b ≤ d → depth_of b' ≤ d → n ≤ length w → NotEnd (token_in w n) →
            BlockRight rows w row (suc d) wanted (refused_at 12 n)
        unfolding BlockRight step opening enter give
        join-no b b' n p p' g g' l m =
            λ s. right-next row _ _ _ e i refl
            ∙ right-block b d (row + 1) a (first row ∷ s) (need d (second row b ∷ s)) p g refl
            ∙ right-block b' d a n (second row b ∷ s) (full d s (both row b b')) p' g' refl
            ∙ right-fails n (full d s (both row b b')) l (no-end-both d s row b b' n (token_in w n) m)

        pub join-closed : (n : ℕ) (v' : Option ℕ) → y ≡ up_to n v' → n ≤ length w → BlockRight rows w row (suc d) wanted (closed (row_kind_of (token_in w n)) n (cell_at (row_at rows n) 18) wanted (or_else v v'))
        unfolding BlockRight
        join-closed n v' g l =
            let (b, p, q, u) = rw f at h in
            let (b', p', q', u') = rw g at z in
            closing (BlockRight rows w row (suc d) wanted) n (cell_at (row_at rows n) 18) wanted (or_else v v') (token_in w n) (join-end b b' n v' p p' q q' u u') (join-no b b' n p p' q q' l)

    pub block-loop : token_in w row ≡ start Kind.loop → (r : PartRead) → PassesRight rows w row d wanted r → BlockRight rows w row (suc d) wanted r
    unfolding BlockRight PassesRight spell depth_of asks_of step opening enter
    block-loop e (up_to next wrong) (q, p, g, u) = (Block.loop row q, rows_at w row _ e i ∙ ap (λ r. (row, start Kind.loop) ∷ r) p, omega arith, u)
    block-loop e (refused_at number at) h = λ s. right-next row _ _ _ e i refl ∙ h s row no_pass

  -- PASSES

  -- whether the count of the LOOP row is n
  abbrev counted : (loop_row n : ℕ) → Option ℕ
  counted loop_row n = wrong_unless (eqb (cell_at (row_at rows loop_row) 23) n) loop_row

  -- what is right of Passes behind `before` passes, whose lowest wrong row is `so`
  pub PassesFrom : (loop_row row left wanted before : ℕ) → Option ℕ → PartRead → Type 0
  PassesFrom loop_row row left wanted before so (up_to next wrong) =
      (q : Passes) × (rows_from w row ≡ spell_passes q (rows_from w next)) × (depth_of_passes q ≤ left)
      × (wrong ≡ or_else (counted loop_row (before + passes_in q)) (or_else so (first_wrong rows (asks_of_passes wanted q []))))
  PassesFrom loop_row row left wanted before so (refused_at number at) =
      (s : List Open) (n : ℕ) (t : PassesRead) → right_from rows w row (need left (body n t ∷ s)) ≡ refused number at

  pub from-none : (loop_row left wanted : ℕ) (r : PartRead) → PassesFrom loop_row (loop_row + 1) left wanted 0 none r → PassesRight rows w loop_row left wanted r
  unfolding PassesFrom PassesRight
  from-none loop_row left wanted (up_to next wrong) (q, p, g, u) =
      (q, p, g, u ∙ ap (λ n. or_else (counted loop_row n) (first_wrong rows (asks_of_passes wanted q []))) (zero-add (passes_in q)) ∙ sym (count-wrong rows loop_row (passes_in q) (asks_of_passes wanted q [])))
  from-none loop_row left wanted (refused_at number at) h = h

  module _ (loop_row row left wanted before : ℕ) (so : Option ℕ) (x : PartRead) (h : BlockRight rows w row left 1 x) where
    pub body_refused : (number at : ℕ) → x ≡ refused_at number at → PassesFrom loop_row row left wanted before so x
    unfolding BlockRight PassesFrom
    body_refused number at f = rw f (λ s n t. (rw f at h) (body n t ∷ s))

    module _ (a : ℕ) (v : Option ℕ) (f : x ≡ up_to a v) where
      last-wrong : (b : Block) (own : Option ℕ) → own ≡ first_wrong rows (flag a wanted ∷ []) → v ≡ first_wrong rows (asks_of 1 b []) →
          or_else (or_else so v) own ≡ or_else so (first_wrong rows (asks_of 1 b (flag a wanted ∷ [])))
      last-wrong b own k u =
          else-assoc so v own
          ∙ ap (λ o. or_else so (or_else v o)) k
          ∙ ap (or_else so) (sym (block-wrong rows b 1 v (flag a wanted ∷ []) u))

      pub pass-last : (n : ℕ) → n ≡ before + 1 → token_in w a ≡ end → a < length w →
          PassesFrom loop_row row left wanted before so (up_to (a + 1) (or_else (counted loop_row n) (or_else (or_else so v) (wrong_unless (eqb (cell_at (row_at rows a) 18) wanted) a))))
      unfolding BlockRight PassesFrom spell_passes depth_of_passes passes_in asks_of_passes
      pass-last n m e i =
          let (b, p, g, u) = rw f at h in
          let own : Option ℕ = wrong_unless (eqb (cell_at (row_at rows a) 18) wanted) a in
          let c : counted loop_row n ≡ counted loop_row (before + 1) = ap (counted loop_row) m in (
            Passes.ended b a,
            p ∙ ap (spell b) (rows_at w a end e i),
            g,
            ap (λ o. or_else o (or_else (or_else so v) own)) c ∙ ap (or_else (counted loop_row (before + 1))) (last-wrong b own (flag-alone rows a wanted) u),
          )

      more-done : (b : Block) (next : ℕ) (wrong : Option ℕ) → token_in w a ≡ repeat → a < length w → rows_from w row ≡ spell b (rows_from w a) → depth_of b ≤ left → v ≡ first_wrong rows (asks_of 1 b []) →
          PassesFrom loop_row (a + 1) left wanted (before + 1) (or_else so v) (up_to next wrong) → PassesFrom loop_row row left wanted before so (up_to next wrong)
      unfolding PassesFrom spell_passes depth_of_passes passes_in asks_of_passes
      more-done b next wrong e i p g u (q, p', g', u') =
          let n : before + 1 + passes_in q ≡ before + suc (passes_in q) = omega arith in
          let rest : Option ℕ = first_wrong rows (asks_of_passes wanted q []) in (
            Passes.repeated b a q,
            p ∙ ap (spell b) (rows_at w a repeat e i ∙ ap (λ r. (a, repeat) ∷ r) p'),
            omega arith,
            u'
                ∙ ap (λ m. or_else (counted loop_row m) (or_else (or_else so v) rest)) n
                ∙ ap (or_else (counted loop_row (before + suc (passes_in q))))
                (else-assoc so v rest ∙ ap (or_else so) (sym (block-wrong rows b 1 v (asks_of_passes wanted q []) u))),
          )

      more-refused : (b : Block) (number at : ℕ) → token_in w a ≡ repeat → a < length w → rows_from w row ≡ spell b (rows_from w a) → depth_of b ≤ left →
          PassesFrom loop_row (a + 1) left wanted (before + 1) (or_else so v) (refused_at number at) → PassesFrom loop_row row left wanted before so (refused_at number at)
      unfolding PassesFrom give step at_repeat
      more-refused b number at e i p g k =
          λ s n t. right-block b left row a (body n t ∷ s) (full left s (ran n t b)) p g refl ∙ right-next a (full left s (ran n t b)) _ _ e i refl ∙ k s n (pass t b a)

      pub pass-more : (n : ℕ) → n ≡ before + 1 → token_in w a ≡ repeat → a < length w → (r : PartRead) → PassesFrom loop_row (a + 1) left wanted n (or_else so v) r → PassesFrom loop_row row left wanted before so r
      unfolding BlockRight
      pass-more n m e i (up_to next wrong) k = let (b, p, g, u) = rw f at h in more-done b next wrong e i p g u (rw m at k)
      pass-more n m e i (refused_at number at) k = let (b, p, g, u) = rw f at h in more-refused b number at e i p g (rw m at k)

      pub pass-no : OneOf (0 ∷ 1 ∷ 2 ∷ 3 ∷ 4 ∷ 5 ∷ 8 ∷ 9 ∷ []) (tag (row_kind_of (token_in w a))) → a ≤ length w → PassesFrom loop_row row left wanted before so (refused_at 12 a)
      unfolding BlockRight PassesFrom give
      pass-no k l =
          let (b, p, g, u) = rw f at h in
          λ s n t. right-block b left row a (body n t ∷ s) (full left s (ran n t b)) p g refl ∙ right-fails a (full left s (ran n t b)) l (no-pass left s n t b a (token_in w a) k)
