-- What the two calls answer and leave, by their contracts alone: an index is built exactly beside a trace where the lent one is long
-- enough, it is the index of the one reading, and a look-up in it answers each row's innermost block.
use mathlib.Core.Path.{◌≡◌, ◌∙◌, refl, sym, ap}
use mathlib.Core.Bool.{Bool, true, false}
use mathlib.Core.List.{List, [], ◌++◌}
use mathlib.Core.Logic.{◌↔◌}
use Prim.Native.Nat.{ℕ, ◌*◌, ◌/◌, ◌%◌, ◌≤◌, ◌<◌}
use native.Mathlib.Omega.{arith}
use borrow.Author.Tests.{le-ltb, lt-ltb, ltb-false, eq-eqb}
use lib.Dec.{ltb}
use lib.ListN.{length, take, drop}
use lib.Seq.{take_at}
use Rattle.field.specs.Cells.{reduced}
use Rattle.field.proofs.CellLaws.{length-reduced}
use Rattle.groups.specs.Answer as group
use Rattle.rows.specs.declared.records.profile.Profile.{Profile}
use Rattle.theory_readings.specs.Readings.{Block, Reading, Trace, all_rows}
use Rattle.theory_readings.specs.Answers.{ReaderAnswer, accepted, refused, refusal_of, row_of}
use Rattle.theory_readings.specs.Tokens.{tokens_of}
use Rattle.theory_readings.proofs.AcceptedTraces.{same-right, number-accepted, accepted-trace, trace-accepted}
use Rattle.theory_readings.proofs.RightAnswer.{one_answer, exactly-one-answer}
use Rattle.theory_readings.proofs.ReducedCells.{right-reduced}
use Rattle.reader.specs.Reads.{trace_read, ReadsTrace}
use Rattle.reader.specs.Reads.{TraceRead}
use Rattle.theory_indexes.specs.Indexes.{blocks_in, index, start_row, innermost}
use Rattle.theory_indexes.specs.Enclosing.{enclosing}
use Rattle.theory_indexes.proofs.IndexLists.{index-length}
use Rattle.theory_indexes.proofs.Innermost.{innermost-found}
use Rattle.index.specs.Building.{unless_short, blocks_of, index_built, index_after, BuildsIndex}
use Rattle.index.specs.Lookups.{told_enclosing}
use Rattle.index.specs.Building.{IndexBuilt}
use Rattle.std.specs.Prelude.{Option as Answered, Result}
use Rattle.groups.specs.declared.refusal.Refusal.{Refusal}
use Rattle.index.proofs.BuildLaws.{unless-refused}

pub length-index : (b : Block) → length (index b) ≡ 3 * blocks_in b
unfolding index
length-index b = omega (arith, index-length b (start_row b) [])

-- a look-up in a reading's own index
pub index-found : (p : Profile) (cells : List ℕ) (b : Block) → Trace p cells b → (row : ℕ) → enclosing (index b) row ≡ group.accepted (innermost b row)
unfolding Trace Reading enclosing
index-found p cells b t row =
    let e : length (index b) % 3 ≡ 0 = omega (arith, length-index b) in
    rw (eq-eqb (length (index b) % 3) 0 e) (ap group.accepted (innermost-found (tokens_of p (all_rows cells)) b t.1.0 row))

-- ONE RESULT

module _ (p : Profile) (cells lent : List ℕ) where
  -- of every buffer and every lent index one thing is answered, and one index left
  pub one-built : (built built' : IndexBuilt) (left left' : List ℕ) → BuildsIndex p cells lent built left → BuildsIndex p cells lent built' left' → (built ≡ built') × (left ≡ left')
  one-built built built' left left' x y =
      let e : x.read ≡ y.read = one_answer p cells (length cells / 49) x.read y.read x.is_right y.is_right in (
        x.built_is ∙ ap (λ (a : ReaderAnswer). index_built (unless_short (length lent) a)) e ∙ sym y.built_is,
        x.left_is ∙ ap (λ (a : ReaderAnswer). index_after (unless_short (length lent) a) lent) e ∙ sym y.left_is,
      )

  -- and there is something to answer and to leave
  pub some-built : (built : IndexBuilt) × (left : List ℕ) × BuildsIndex p cells lent built left
  some-built =
      let (a, r, one) = exactly-one-answer p cells (length cells / 49) in
      (index_built (unless_short (length lent) a), index_after (unless_short (length lent) a) lent, record { read = a; is_right = r; built_is = refl; left_is = refl })

  -- an index is built of a buffer as of its reduced cells (N2)
  pub builds-reduced : (built : IndexBuilt) (left : List ℕ) → BuildsIndex p (reduced cells) lent built left ↔ BuildsIndex p cells lent built left
  builds-reduced built left =
      let n = length-reduced cells in (
        λ x. record { read = x.read; is_right = (right-reduced p cells (length cells / 49) x.read).0 (rw n at x.is_right); built_is = x.built_is; left_is = x.left_is },
        λ x. record { read = x.read; is_right = rw n ((right-reduced p cells (length cells / 49) x.read).1 x.is_right); built_is = x.built_is; left_is = x.left_is },
      )

-- WHAT IS BUILT

refused_as : (a : ReaderAnswer) (lent : List ℕ) → (refusal_of a ≡ 0 → ⊥)
    → (index_built (unless_short (length lent) a) ≡ record { refusal = refusal_of a; row = row_of a; blocks = 0 }) × (index_after (unless_short (length lent) a) lent ≡ lent)
unfolding index_built index_after refusal_of row_of blocks_of
refused_as a lent h = rw (unless-refused (length lent) a h) (refl, refl)

number-before : (lent : ℕ) (a : ReaderAnswer) → refusal_of (unless_short lent a) ≡ 0 → refusal_of a ≡ 0
unfolding unless_short refusal_of
number-before lent (accepted b) e = refl
number-before lent (refused number row) e = e

room_for : (lent need : ℕ) (b : Block) → refusal_of (group.pick (ltb lent need) (refused 27 0) (accepted b)) ≡ 0 → need ≤ lent
unfolding refusal_of
room_for lent need b e = by (ltb lent need) refl e
  where
    by : (t : Bool) → ltb lent need ≡ t → refusal_of (group.pick t (refused 27 0) (accepted b)) ≡ 0 → need ≤ lent
    by true f g = absurd (omega arith)
    by false f g = ltb-false lent need f

module _ (p : Profile) (cells lent : List ℕ) (built : IndexBuilt) (after : List ℕ) (x : BuildsIndex p cells lent built after) where
  -- of a trace what was read is its reading
  is-reading : (b : Block) → Trace p cells b → x.read ≡ accepted b
  is-reading b t = one_answer p cells (length cells / 49) x.read (accepted b) x.is_right (trace-accepted p cells (length cells / 49) b (omega arith) t)

  -- by what is answered
  as-answered : (a : ReaderAnswer) → unless_short (length lent) x.read ≡ a → (built ≡ index_built a) × (after ≡ index_after a lent)
  as-answered a e = (x.built_is ∙ ap index_built e, x.left_is ∙ ap (λ (y : ReaderAnswer). index_after y lent) e)

  -- of a trace with room for its blocks: the number of blocks, and the index in front of the numbers past it
  module _ (b : Block) (t : Trace p cells b) (room : 3 * blocks_in b ≤ length lent) where
    pub builds-as : (built ≡ record { refusal = 0; row = 0; blocks = blocks_in b }) × (after ≡ index b ++ drop (3 * blocks_in b) lent)
    unfolding unless_short index_built index_after refusal_of row_of blocks_of
    builds-as = as-answered (accepted b) (rw (is-reading b t, le-ltb (length lent) (3 * blocks_in b) room) refl)

    -- the numbers of the blocks are the index
    pub front : take (3 * built.blocks) after ≡ index b
    front = rw (builds-as.1, builds-as.0) (take_at (index b) (drop (3 * blocks_in b) lent) (3 * blocks_in b) (length-index b))

    -- "On a built index that must be, for each program row, its innermost block, and none for HALT rows."
    pub finds-innermost : (row : ℕ) (found : Result (Answered ℕ) Refusal) → told_enclosing found ≡ enclosing (take (3 * built.blocks) after) row → told_enclosing found ≡ group.accepted (innermost b row)
    finds-innermost row found e = e ∙ ap (λ (l : List ℕ). enclosing l row) front ∙ index-found p cells b t row

  -- an index is built exactly beside a trace, where there are three numbers for each block
  pub builds-exactly : (built.refusal ≡ 0) ↔ ((b : Block) × Trace p cells b × (3 * blocks_in b ≤ length lent))
  unfolding unless_short index_built
  builds-exactly = (
    λ e.
        let n : refusal_of (unless_short (length lent) x.read) ≡ 0 = sym (ap (λ (r : IndexBuilt). r.refusal) x.built_is) ∙ e in
        let (b, a) = number-accepted p cells (length cells / 49) x.read x.is_right (number-before (length lent) x.read n) in
        (b, accepted-trace p cells (length cells / 49) b (rw a at x.is_right), room_for (length lent) (3 * blocks_in b) b (rw a at n)),
    λ (b, t, r). ap (λ (r : IndexBuilt). r.refusal) (builds-as b t r).0,
  )

  -- "The reader's refusals come first and unchanged": those of a reader with enough depth numbers
  pub refuses-first : (depths : List ℕ) (told : TraceRead) (left : List ℕ) → ReadsTrace p cells depths told left → length cells / 49 ≤ length depths → (told.refusal ≡ 0 → ⊥)
      → (built ≡ record { refusal = told.refusal; row = told.row; blocks = 0 }) × (after ≡ lent)
  unfolding trace_read
  refuses-first depths told left y h f =
      let r = same-right p cells (length depths) (length cells / 49) y.answered h (omega arith) y.is_right in
      let e : x.read ≡ y.answered = one_answer p cells (length cells / 49) x.read y.answered x.is_right r in
      let n : told.refusal ≡ refusal_of x.read = ap (λ (r : TraceRead). r.refusal) y.told_is ∙ ap refusal_of (sym e) in
      let o : told.row ≡ row_of x.read = ap (λ (r : TraceRead). r.row) y.told_is ∙ ap row_of (sym e) in
      let z = refused_as x.read lent (λ g. f (n ∙ g)) in
      (rw (n, o) (x.built_is ∙ z.0), x.left_is ∙ z.1)

  -- "then 27"
  pub refuses-short : (b : Block) → Trace p cells b → length lent < 3 * blocks_in b → (built ≡ record { refusal = 27; row = 0; blocks = 0 }) × (after ≡ lent)
  unfolding unless_short index_built index_after refusal_of row_of blocks_of
  refuses-short b t h = as-answered (refused 27 0) (rw (is-reading b t, lt-ltb (length lent) (3 * blocks_in b) h) refl)
