-- What `read_trace`, `validate` and `validate_keeping` tell and leave, by their contracts alone: it is one, it accepts exactly the traces, and the
-- answers are those of the one reading.
use mathlib.Core.Path.{◌≡◌, ◌∙◌, refl, sym, ap}
use mathlib.Core.List.{List, ◌++◌}
use mathlib.Core.Logic.{◌↔◌}
use Prim.Native.Nat.{ℕ, ◌/◌, ◌≤◌}
use lib.ListN.{length, drop}
use Rattle.field.specs.Cells.{reduced}
use Rattle.field.proofs.CellLaws.{length-reduced}
use Rattle.rows.specs.declared.records.profile.Profile.{Profile}
use Rattle.theory_readings.specs.Readings.{Block, program_rows, depth_list, Trace}
use Rattle.theory_readings.specs.Answers.{ReaderAnswer, accepted, Right, refusal_of, row_of, program_rows_of, depths_after}
use Rattle.theory_readings.proofs.RightAnswer.{one_answer, exactly-one-answer}
use Rattle.theory_readings.proofs.AcceptedTraces.{accepted-trace, trace-accepted}
use Rattle.theory_readings.proofs.ReducedCells.{right-reduced}
use Rattle.reader.specs.Reads.{trace_read, TellsTrace, ReadsTrace}
use Rattle.reader.specs.Reads.{TraceRead}
use Rattle.reader.proofs.ReadLaws.{reads, is_trace}

-- ONE RESULT

-- of every buffer, whatever is lent, one thing is told
pub one_told : (p : Profile) (cells : List ℕ) (depths : ℕ) (told told' : TraceRead) → TellsTrace p cells depths told → TellsTrace p cells depths told' → told ≡ told'
one_told p cells depths told told' x y = x.told_is ∙ ap trace_read (one_answer p cells depths x.answered y.answered x.is_right y.is_right) ∙ sym y.told_is

module _ (p : Profile) (cells depths : List ℕ) where
  -- one thing is told, and one list of depth numbers left
  pub one-read : (told told' : TraceRead) (left left' : List ℕ) → ReadsTrace p cells depths told left → ReadsTrace p cells depths told' left' → (told ≡ told') × (left ≡ left')
  one-read told told' left left' x y =
      let e : x.answered ≡ y.answered = one_answer p cells (length depths) x.answered y.answered x.is_right y.is_right in (
        x.told_is ∙ ap trace_read e ∙ sym y.told_is,
        x.left_is ∙ ap (λ (a : ReaderAnswer). depths_after (length cells / 49) a depths) e ∙ sym y.left_is,
      )

  -- and there is something to tell and to leave
  pub some_read : (told : TraceRead) × (left : List ℕ) × ReadsTrace p cells depths told left
  some_read =
      let (a, r, one) = exactly-one-answer p cells (length depths) in
      (trace_read a, depths_after (length cells / 49) a depths, record { answered = a; is_right = r; told_is = refl; left_is = refl })

  -- it is that of the reduced cells (N2)
  pub reads-reduced : (told : TraceRead) (left : List ℕ) → ReadsTrace p (reduced cells) depths told left ↔ ReadsTrace p cells depths told left
  reads-reduced told left =
      let n = length-reduced cells in (
        λ x. record { answered = x.answered; is_right = (right-reduced p cells (length depths) x.answered).0 x.is_right; told_is = x.told_is; left_is = rw n at x.left_is },
        λ x. record { answered = x.answered; is_right = (right-reduced p cells (length depths) x.answered).1 x.is_right; told_is = x.told_is; left_is = rw n x.left_is },
      )

-- TRACES

module _ (p : Profile) (cells depths : List ℕ) (told : TraceRead) (left : List ℕ) (x : ReadsTrace p cells depths told left) where
  tells : TellsTrace p cells (length depths) told
  tells = record { answered = x.answered; is_right = x.is_right; told_is = x.told_is }

  -- what is answered is the right answer
  pub is-right-answer : (a : ReaderAnswer) → Right p cells (length depths) a → x.answered ≡ a
  is-right-answer a h = one_answer p cells (length depths) x.answered a x.is_right h

  -- and its values are what is told and left
  pub reads-right : (a : ReaderAnswer) → Right p cells (length depths) a → (told ≡ trace_read a) × (left ≡ depths_after (length cells / 49) a depths)
  reads-right a h =
      let e = is-right-answer a h in
      (x.told_is ∙ ap trace_read e, x.left_is ∙ ap (λ (y : ReaderAnswer). depths_after (length cells / 49) y depths) e)

  module _ (enough : length cells / 49 ≤ length depths) where
    -- a tree is accepted exactly where it is the reading
    pub reads-tree : (b : Block) → (x.answered ≡ accepted b) ↔ Trace p cells b
    reads-tree b = (
      λ e. accepted-trace p cells (length depths) b (rw e at x.is_right),
      λ t. is-right-answer (accepted b) (trace-accepted p cells (length depths) b enough t),
    )

    -- "the reader's answers (the number of program rows and each row's depth) are those of that reading"
    pub reads_as : (b : Block) → Trace p cells b → (told ≡ reads 0 0 (program_rows b)) × (left ≡ depth_list (length cells / 49) b ++ drop (length cells / 49) depths)
    unfolding trace_read refusal_of row_of program_rows_of depths_after
    reads_as b t =
        reads-right (accepted b) (trace-accepted p cells (length depths) b enough t)

    -- "accepts a buffer, whatever cells it holds, exactly when it is a trace"
    pub reads-exactly : (told.refusal ≡ 0) ↔ ((b : Block) × Trace p cells b)
    reads-exactly = (
      λ e. (_, is_trace p cells (length depths) told tells e),
      λ (b, t). ap (λ (r : TraceRead). r.refusal) (reads_as b t).0,
    )
