-- With a depth number for each row, a right answer accepts exactly the traces, and its answers are those of the one reading.
use mathlib.Core.Path.{◌≡◌, ◌∙◌, refl, sym, ap}
use mathlib.Core.Bool.{Bool, true, false, ◌||◌}
use mathlib.Core.List.{List, [], ◌∷◌, ◌++◌}
use mathlib.Core.Logic.{◌↔◌}
use Prim.Native.Nat.{ℕ, ◌/◌, ◌≤◌}
use native.Mathlib.Omega.{arith}
use borrow.Author.Tests.{ltb-false, le-ltb}
use lib.Dec.{ltb}
use lib.ListN.{length, drop}
use Rattle.rows.specs.declared.records.profile.Profile.{Profile}
use Rattle.rows.specs.records.Profiles.{profile_wrong}
use Rattle.rows.specs.records.Buffers.{rows_of, buffer_wrong}
use Rattle.rows.proofs.passes.Checks.{none_first}
use Rattle.rows.proofs.passes.RowLists.{length-rows}
use Rattle.groups.specs.Answer.{first_of}
use Rattle.theory_readings.specs.Tokens.{tokens_of}
use Rattle.theory_readings.specs.Readings.{Block, depth_list, buffer_refusal, all_rows, Trace}
use Rattle.theory_readings.specs.Answers.{ReaderAnswer, accepted, reader_refusal, Right, bad_input, no_word, too_deep, wrong_cell, trace, refusal_of, depths_after}
use Rattle.theory_readings.specs.ways.Parser.{answer, levels}
use Rattle.theory_readings.proofs.RightAnswer.{answer-right, right-computed}
use Rattle.theory_readings.proofs.DepthsCounted.{depths-counted}

or-false : (t : Bool) → (t || false) ≡ t
or-false true = refl
or-false false = refl

-- enough depth numbers refuse nothing
pub enough-depths : (p : Profile) (cells : List ℕ) (depths : ℕ) → length cells / 49 ≤ depths → reader_refusal p cells depths ≡ buffer_refusal p cells
unfolding reader_refusal buffer_refusal
enough-depths p cells depths h = rw (le-ltb depths (length cells / 49) h, or-false (buffer_wrong (length cells))) refl

-- what is right does not depend on how many depth numbers are lent, where they are enough
right-with : (p : Profile) (cells : List ℕ) (depths depths' : ℕ) (a : ReaderAnswer) → reader_refusal p cells depths' ≡ reader_refusal p cells depths → Right p cells depths a → Right p cells depths' a
right-with p cells depths depths' a e (bad_input number f) = bad_input number (e ∙ f)
right-with p cells depths depths' a e (no_word n f w) = no_word n (e ∙ f) w
right-with p cells depths depths' a e (too_deep n f w) = too_deep n (e ∙ f) w
right-with p cells depths depths' a e (wrong_cell b n f w g) = wrong_cell b n (e ∙ f) w g
right-with p cells depths depths' a e (trace b f r) = trace b (e ∙ f) r

pub same-right : (p : Profile) (cells : List ℕ) (depths depths' : ℕ) (a : ReaderAnswer) → length cells / 49 ≤ depths → length cells / 49 ≤ depths' → Right p cells depths a → Right p cells depths' a
same-right p cells depths depths' a h h' = right-with p cells depths depths' a (enough-depths p cells depths' h' ∙ sym (enough-depths p cells depths h))

-- where nothing is refused, the buffer passes, and there are enough depth numbers
passes-11 : (a b : Bool) → first_of ((a || b, 11) ∷ []) ≡ 0 → (first_of ((a, 11) ∷ []) ≡ 0) × (b ≡ false)
unfolding first_of
passes-11 true b e = absurd (omega arith)
passes-11 false true e = absurd (omega arith)
passes-11 false false e = (refl, refl)

pub buffer-passes : (p : Profile) (cells : List ℕ) (depths : ℕ) → reader_refusal p cells depths ≡ 0 → (buffer_refusal p cells ≡ 0) × (length cells / 49 ≤ depths)
unfolding reader_refusal buffer_refusal first_of
buffer-passes p cells depths e =
    let wrong = buffer_wrong (length cells) || ltb depths (length cells / 49) in
    let (h, i) = none_first (profile_wrong p) 1 ((wrong, 11) ∷ []) e in
    let (j, k) = passes-11 (buffer_wrong (length cells)) (ltb depths (length cells / 49)) i in
    (rw h j, ltb-false depths (length cells / 49) k)

pub accepted-trace : (p : Profile) (cells : List ℕ) (depths : ℕ) (b : Block) → Right p cells depths (accepted b) → Trace p cells b
unfolding Trace
accepted-trace p cells depths b (trace c e r) = ((buffer-passes p cells depths e).0, r)

-- and neither 2 nor 11 holds of it
pub accepted-passes : (p : Profile) (cells : List ℕ) (depths : ℕ) (b : Block) → Right p cells depths (accepted b) → reader_refusal p cells depths ≡ 0
accepted-passes p cells depths b (trace c e r) = e

pub trace-accepted : (p : Profile) (cells : List ℕ) (depths : ℕ) (b : Block) → length cells / 49 ≤ depths → Trace p cells b → Right p cells depths (accepted b)
unfolding Trace
trace-accepted p cells depths b h t = trace b (enough-depths p cells depths h ∙ t.0) t.1

-- the traces are what is accepted
pub accepts-traces : (p : Profile) (cells : List ℕ) (depths : ℕ) (b : Block) → length cells / 49 ≤ depths → (answer p cells depths ≡ accepted b) ↔ Trace p cells b
accepts-traces p cells depths b h = (
  λ e. accepted-trace p cells depths b (rw e at (answer-right p cells depths)),
  λ t. right-computed p cells depths (accepted b) (trace-accepted p cells depths b h t),
)

-- "accepts a buffer, whatever cells it holds, exactly when it is a trace"
pub number-accepted : (p : Profile) (cells : List ℕ) (depths : ℕ) (a : ReaderAnswer) → Right p cells depths a → refusal_of a ≡ 0 → (b : Block) × (a ≡ accepted b)
unfolding refusal_of
number-accepted p cells depths a (bad_input number e) h = absurd (omega arith)
number-accepted p cells depths a (no_word n e w) h = absurd (omega arith)
number-accepted p cells depths a (too_deep n e w) h = absurd (omega arith)
number-accepted p cells depths a (wrong_cell b n e w f) h = absurd (omega arith)
number-accepted p cells depths a (trace b e r) h = (b, refl)

pub accepts-exactly : (p : Profile) (cells : List ℕ) (depths : ℕ) → length cells / 49 ≤ depths → (refusal_of (answer p cells depths) ≡ 0) ↔ ((b : Block) × Trace p cells b)
unfolding refusal_of
accepts-exactly p cells depths h = (
  λ e. let x = number-accepted p cells depths (answer p cells depths) (answer-right p cells depths) e in (x.0, (accepts-traces p cells depths x.0 h).0 x.1),
  λ t. rw ((accepts-traces p cells depths t.0 h).1 t.1) refl,
)

-- and the depths left are those of the reading, one a row
pub accepted-depths : (p : Profile) (cells depths : List ℕ) (b : Block) → Trace p cells b →
    depths_after (length cells / 49) (accepted b) depths ≡ levels 0 (tokens_of p (all_rows cells)) ++ drop (length cells / 49) depths
unfolding Trace depths_after all_rows
accepted-depths p cells depths b t =
    ap (λ y. y ++ drop (length cells / 49) depths)
    (ap (λ n. depth_list n b) (sym (length-rows (length cells / 49) cells)) ∙ depths-counted p (rows_of (length cells / 49) cells) b t.1)
