-- What building an index answers and leaves, by what its parts answer.
use mathlib.Core.Path.{◌≡◌, ◌∙◌, refl, ap}
use mathlib.Core.List.{List, [], ◌++◌}
use Prim.Native.Nat.{ℕ, ◌*◌, ◌/◌, ◌≤◌, ◌<◌}
use native.Mathlib.Omega.{arith}
use borrow.Author.Tests.{lt-ltb, le-ltb}
use lib.ListN.{length, drop}
use Rattle.rows.specs.declared.records.profile.Profile.{Profile}
use Rattle.theory_readings.specs.Readings.{Block, WordOf, depth_of, Reading, Trace}
use Rattle.theory_readings.specs.Answers.{ReaderAnswer, accepted, refused, refusal_of, row_of}
use Rattle.reader.specs.Rows.{word_in}
use Rattle.reader.specs.ways.FromRow.{rows_from}
use Rattle.reader.specs.Reads.{TellsTrace}
use Rattle.reader.specs.Reads.{TraceRead}
use Rattle.reader.proofs.ReadLaws.{number_of, row-of, is-accepted, is_trace, few-rows}
use Rattle.theory_indexes.specs.Indexes.{blocks_in, index}
use Rattle.theory_indexes.specs.ways.IndexScan.{index_scan, starts, Fits}
use Rattle.theory_indexes.proofs.Scanned.{scanned, blocks-starts, fits}
use Rattle.index.specs.Building.{unless_short, blocks_of, index_built, index_after, BuildsIndex}
use Rattle.index.specs.Building.{IndexBuilt}

-- the numbers of an answer
abbrev built : (number row blocks : ℕ) → IndexBuilt
built number row blocks = record { refusal = number; row = row; blocks = blocks }

-- A REFUSAL

pub unless-refused : (lent : ℕ) (a : ReaderAnswer) → (refusal_of a ≡ 0 → ⊥) → unless_short lent a ≡ refused (refusal_of a) (row_of a)
unfolding unless_short refusal_of row_of
unless-refused lent (accepted b) h = absurd (h refl)
unless-refused lent (refused number row) h = refl

module _ (p : Profile) (cells lent : List ℕ) (read : TraceRead) (v : TellsTrace p cells (length cells / 49) read) where
  -- by what is answered
  builds-by : (a : ReaderAnswer) (r : IndexBuilt) (after : List ℕ) → unless_short (length lent) v.answered ≡ a → r ≡ index_built a → after ≡ index_after a lent → BuildsIndex p cells lent r after
  builds-by a r after e f g = record { read = v.answered; is_right = v.is_right; built_is = rw e f; left_is = rw e g }

  refusing : (number row : ℕ) (r : IndexBuilt) → unless_short (length lent) v.answered ≡ refused number row → r ≡ index_built (refused number row) → BuildsIndex p cells lent r lent
  unfolding index_after
  refusing number row r e f = builds-by (refused number row) r lent e f refl

  -- 2, 11, 12, 13 and 15
  pub no-trace : (r : IndexBuilt) → (read.refusal ≡ 0 → ⊥) → r ≡ index_built (refused read.refusal read.row) → BuildsIndex p cells lent r lent
  no-trace r h f =
      let n = number_of p cells (length cells / 49) read v in
      let u = unless-refused (length lent) v.answered (λ q. h (n ∙ q)) in
      refusing read.refusal read.row r (u ∙ rw (n, row-of p cells (length cells / 49) read v) refl) f

  -- AN ACCEPTED TRACE

  module _ (h : read.refusal ≡ 0) where
    pub few : length cells / 49 ≤ 16777216
    few = few-rows p cells (length cells / 49) read v h

    record Read : Type 0 where
      pub tree : Block
      pub answered : v.answered ≡ accepted tree
      pub word : WordOf (word_in p cells) tree
      pub deep : depth_of tree ≤ 64

    reading : Read
    unfolding Trace Reading word_in
    reading =
        let (b, e) = is-accepted p cells (length cells / 49) read v h in
        let t = is_trace p cells (length cells / 49) read v h in
        record { tree = b; answered = e; word = t.1.0; deep = t.1.1 }

    blocks : starts (rows_from (word_in p cells) 0) ≡ blocks_in reading.tree
    unfolding rows_from
    blocks = blocks-starts (word_in p cells) reading.tree reading.word

    pub fitting : Fits 0 (rows_from (word_in p cells) 0)
    unfolding rows_from
    fitting = fits (word_in p cells) reading.tree reading.word reading.deep

    -- 27
    pub short : (r : IndexBuilt) → length lent / 3 < starts (rows_from (word_in p cells) 0) → r ≡ index_built (refused 27 0) → BuildsIndex p cells lent r lent
    unfolding unless_short
    short r l f =
        let u = lt-ltb (length lent) (3 * blocks_in reading.tree) (omega (arith, blocks)) in
        refusing 27 0 r (rw (reading.answered, u) refl) f

    module _ (l : starts (rows_from (word_in p cells) 0) ≤ length lent / 3) where
      room : unless_short (length lent) v.answered ≡ accepted reading.tree
      unfolding unless_short
      room =
          let u = le-ltb (length lent) (3 * blocks_in reading.tree) (omega (arith, blocks)) in
          ap (unless_short (length lent)) reading.answered ∙ rw u refl

      pub whole : (after : List ℕ) (count : ℕ) → count ≡ starts (rows_from (word_in p cells) 0)
          → after ≡ index_scan (rows_from (word_in p cells) 0) [] [] ++ drop (3 * starts (rows_from (word_in p cells) 0)) lent
          → BuildsIndex p cells lent (built 0 0 count) after
      unfolding index_built index_after refusal_of row_of blocks_of rows_from
      whole after count f g =
          let s : index_scan (rows_from (word_in p cells) 0) [] [] ≡ index reading.tree = scanned (word_in p cells) reading.tree reading.word in
          builds-by (accepted reading.tree) (built 0 0 count) after room (rw (f, blocks) refl) (rw (s, blocks) at g)
