-- A way to compute the right answer: a machine with a stack of open blocks, one step a row. What is right does not mention it (Answers.antt);
-- that it computes what is right is a theorem (proofs/RightAnswer.antt).
use Rattle.std.specs.Prelude.{Bool, List, [], ◌∷◌, ℕ, zero, suc, pred, eqb, length}
use Rattle.std.proofs.Math.Option.{Option, none, some}
use Rattle.groups.specs.Answer.{pick}
use Rattle.groups.specs.Constants.{no_word_of_grammar, wrong_flag_or_count, block65_deep}
use Rattle.rows.specs.declared.records.profile.Profile.{Profile}
use Rattle.rows.specs.records.Buffers.{h4_of}
use Rattle.theory_readings.specs.Tokens.{OneChild, Kind, Token, start, repeat, end, halt, nothing, count_of, tokens_of}
use Rattle.theory_readings.specs.Readings.{Ops, Block, Passes, Row, numbered, Ask, flag, count, asks, row_at, all_rows}
use Rattle.theory_readings.specs.Answers.{ReaderAnswer, accepted, refused, reader_refusal, row_asked}

-- THE MACHINE

-- the passes of a loop read so far, the latest one outermost, with the rows of REPEAT
pub data PassesRead : Type 0 where
  no_pass : PassesRead
  pass : PassesRead → Block → (repeat_row : ℕ) → PassesRead

-- the rows of a SPAN read so far, the latest one outermost
pub data OpsRead : Type 0 where
  no_op : OpsRead
  op : OpsRead → (row opcode : ℕ) → OpsRead
  respan : OpsRead → (row : ℕ) → OpsRead

-- an open block that waits for a part: JOIN's first or second, the one child, a pass
pub data Open : Type 0 where
  first : (row : ℕ) → Open
  second : (row : ℕ) → Block → Open
  child : OneChild → (row : ℕ) → Open
  body : (row : ℕ) → PassesRead → Open

-- an open block that has its parts and waits for END, or a loop that waits for END or REPEAT
pub data Full : Type 0 where
  both : (row : ℕ) → Block → Block → Full
  only : OneChild → (row : ℕ) → Block → Full
  ran : (row : ℕ) → PassesRead → Block → Full

-- the word goes on, with a Block, inside a SPAN, or behind a full block's parts; `left` is how many more blocks may open here
pub data Live : Type 0 where
  need : (left : ℕ) → List Open → Live
  inside : (left : ℕ) → List Open → (row : ℕ) → OpsRead → Live
  full : (left : ℕ) → List Open → Full → Live

-- the row that no word goes on with, or that starts a block too deep
pub data Failure : Type 0 where
  fails deeper : (row : ℕ) → Failure

pub data State : Type 0 where
  live : Live → State
  whole : Block → State
  stop : Failure → State

-- a block is complete: it is a part of the block around it
unfoldable pub give : (left : ℕ) → List Open → Block → State
give d [] b = whole b
give d (first n ∷ s) b = live (need d (second n b ∷ s))
give d (second n a ∷ s) b = live (full d s (both n a b))
give d (child k n ∷ s) b = live (full d s (only k n b))
give d (body n t ∷ s) b = live (full d s (ran n t b))

-- what was read so far, in front of the rest
unfoldable pub passes_with : PassesRead → Passes → Passes
passes_with no_pass p = p
passes_with (pass t b m) p = passes_with t (Passes.repeated b m p)

unfoldable pub ops_with : OpsRead → Ops → Ops
ops_with no_op o = o
ops_with (OpsRead.op i n c) o = ops_with i (Ops.op n c o)
ops_with (OpsRead.respan i n) o = ops_with i (Ops.respan n o)

-- END of a full block
unfoldable pub close : Full → (end_row : ℕ) → Block
unfolding passes_with
close (both n a b) e = Block.join n a b e
close (only k n b) e = Block.one k n b e
close (ran n t b) e = Block.loop n (passes_with t (Passes.ended b e))

-- a block opens, if the depth allows
unfoldable pub enter : (left : ℕ) → List Open → (row : ℕ) → Kind → Live
enter d s n Kind.span = inside d s n no_op
enter d s n Kind.join = need d (first n ∷ s)
enter d s n Kind.loop = need d (body n no_pass ∷ s)
enter d s n (Kind.one k) = need d (child k n ∷ s)

unfoldable pub opening : (left : ℕ) → List Open → (row : ℕ) → Kind → State
unfolding enter
opening zero s m k = stop (deeper m)
opening (suc d) s m k = live (enter d s m k)

-- REPEAT behind a full block
unfoldable pub at_repeat : (left : ℕ) → List Open → Full → (row : ℕ) → State
at_repeat d s (both n a b) m = stop (fails m)
at_repeat d s (only k n b) m = stop (fails m)
at_repeat d s (ran n t b) m = live (need d (body n (pass t b m) ∷ s))

-- what row m does
unfoldable pub step : Live → (m : ℕ) → Token → State
unfolding give close ops_with at_repeat opening
step (need d s) m (start k) = opening d s m k
step (need d s) m (Token.op o) = stop (fails m)
step (need d s) m Token.respan = stop (fails m)
step (need d s) m repeat = stop (fails m)
step (need d s) m end = stop (fails m)
step (need d s) m halt = stop (fails m)
step (need d s) m nothing = stop (fails m)
step (inside d s n i) m (start k) = stop (fails m)
step (inside d s n i) m (Token.op o) = live (inside d s n (OpsRead.op i m o))
step (inside d s n i) m Token.respan = live (inside d s n (OpsRead.respan i m))
step (inside d s n i) m repeat = stop (fails m)
step (inside d s n i) m end = give (suc d) s (Block.span n (ops_with i (Ops.ended m)))
step (inside d s n i) m halt = stop (fails m)
step (inside d s n i) m nothing = stop (fails m)
step (full d s f) m (start k) = stop (fails m)
step (full d s f) m (Token.op o) = stop (fails m)
step (full d s f) m Token.respan = stop (fails m)
step (full d s f) m repeat = at_repeat d s f m
step (full d s f) m end = give (suc d) s (close f m)
step (full d s f) m halt = stop (fails m)
step (full d s f) m nothing = stop (fails m)

-- a Block and the rows behind it, a failure, or rows that end too early
pub data Parsed : Type 0 where
  done : Block → List Row → Parsed
  failed : Failure → Parsed
  unfinished : Parsed

unfoldable pub parse : List Row → State → Parsed
unfolding step
parse [] (stop a) = failed a
parse [] (whole b) = done b []
parse [] (live l) = unfinished
parse (x ∷ r) (stop a) = failed a
parse (x ∷ r) (whole b) = done b (x ∷ r)
parse (x ∷ r) (live l) = parse r (step l x.0 x.1)

-- THE WORD

pub data WordAnswer : Type 0 where
  word_of : Block → WordAnswer
  no_word_at too_deep_at : (row : ℕ) → WordAnswer

unfoldable pub if_halt : Token → (a b : WordAnswer) → WordAnswer
if_halt halt a b = a
if_halt (start k) a b = b
if_halt (Token.op o) a b = b
if_halt Token.respan a b = b
if_halt repeat a b = b
if_halt end a b = b
if_halt nothing a b = b

-- the rows behind a HALT
unfoldable pub after_halt : Block → List Row → WordAnswer
unfolding if_halt
after_halt b [] = word_of b
after_halt b (x ∷ r) = if_halt x.1 (after_halt b r) (no_word_at x.0)

-- the rows behind the Block; `e` is the number of all rows
unfoldable pub after_block : Block → (rows : ℕ) → List Row → WordAnswer
unfolding after_halt
after_block b e [] = no_word_at e
after_block b e (x ∷ r) = if_halt x.1 (after_halt b r) (no_word_at x.0)

unfoldable pub word_answer : (rows : ℕ) → Parsed → WordAnswer
unfolding after_block
word_answer e (done b r) = after_block b e r
word_answer e (failed (fails n)) = no_word_at n
word_answer e (failed (deeper n)) = too_deep_at n
word_answer e unfinished = no_word_at e

unfoldable pub read_word : List Token → WordAnswer
unfolding word_answer parse
read_word w = word_answer (length w) (parse (numbered 0 w) (live (need 64 [])))

-- THE ANSWER

unfoldable pub is_met : (rows : List (List ℕ)) → Ask → Bool
is_met rows (flag row value) = eqb (h4_of (row_at rows row)) value
is_met rows (count row value) = eqb (count_of (row_at rows row)) value

-- the lower of two rows, where there is one: the first part's rows are before the second's
abbrev pub or_else : Option ℕ → Option ℕ → Option ℕ
or_else none o = o
or_else (some row) o = some row

-- the row of the first ask that is not met
unfoldable pub first_wrong : (rows : List (List ℕ)) → List Ask → Option ℕ
first_wrong rows [] = none
first_wrong rows (a ∷ l) = pick (is_met rows a) (first_wrong rows l) (some (row_asked a))

unfoldable pub answer_of_cells : Block → Option ℕ → ReaderAnswer
answer_of_cells b none = accepted b
answer_of_cells b (some n) = refused wrong_flag_or_count n

unfoldable pub answer_of_word : (rows : List (List ℕ)) → WordAnswer → ReaderAnswer
answer_of_word rows (word_of b) = answer_of_cells b (first_wrong rows (asks b))
answer_of_word rows (no_word_at n) = refused no_word_of_grammar n
answer_of_word rows (too_deep_at n) = refused block65_deep n

-- a refusal of the input comes first
unfoldable pub unless_bad_input : (number : ℕ) → ReaderAnswer → ReaderAnswer
unless_bad_input zero a = a
unless_bad_input (suc n) a = refused (suc n) 0

unfoldable pub answer : Profile → (cells : List ℕ) → (depths : ℕ) → ReaderAnswer
answer p cells depths = unless_bad_input (reader_refusal p cells depths) (answer_of_word (all_rows cells) (read_word (tokens_of p (all_rows cells))))

-- THE DEPTHS

-- the depth of each row by counting, where c blocks are open before it
unfoldable pub levels : (c : ℕ) → List Token → List ℕ
levels c [] = []
levels c (start kind ∷ w) = suc c ∷ levels (suc c) w
levels c (end ∷ w) = c ∷ levels (pred c) w
levels c (Token.op opcode ∷ w) = c ∷ levels c w
levels c (Token.respan ∷ w) = c ∷ levels c w
levels c (repeat ∷ w) = c ∷ levels c w
levels c (halt ∷ w) = c ∷ levels c w
levels c (nothing ∷ w) = c ∷ levels c w
