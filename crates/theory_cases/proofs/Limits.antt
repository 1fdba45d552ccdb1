-- "over 2^24 rows": each length that is refused with 11, at 2^24 rows and at one more.
use mathlib.Core.Path.{◌≡◌, refl}
use mathlib.Core.Bool.{true, false}
use mathlib.Core.List.{List}
use Prim.Native.Nat.{ℕ, suc, ◌*◌, ◌^◌, ◌≤◌, ◌<◌}
use borrow.Author.Tests.{le-ltb, lt-leb}
use lib.ListN.{length}
use Rattle.groups.specs.Answer.{refused, first_of}
use Rattle.rows.specs.declared.records.profile.Profile.{Profile}
use Rattle.rows.specs.records.Cells.{fragment_wrong}
use Rattle.rows.specs.records.Profiles.{profile_wrong}
use Rattle.rows.specs.passes.Passes.{fragments_wrong, refusal1, refusal2, refusal3, refusal4, refusal5, refusal_all}
use Rattle.rows.specs.records.Buffers.{buffer_wrong}
use Rattle.theory_readings.specs.Answers.{reader_refusal}
use Rattle.reader.specs.Views.{view_refused}
use Rattle.dump.specs.Dumping.{rows_wrong, dumping, ReadsDump}

abbrev most : ℕ
most = 49 * 2 ^ 24

abbrev over : ℕ
over = 49 * suc (2 ^ 24)

-- a buffer of the passes and of the reader
buffer-most : buffer_wrong most ≡ false
unfolding buffer_wrong
buffer-most = refl

buffer-over : buffer_wrong over ≡ true
unfolding buffer_wrong
buffer-over = refl

-- a fragment, whatever number of rows is written
fragment-most : (rows : ℕ) → rows ≤ 2 ^ 24 → fragment_wrong most rows ≡ false
unfolding fragment_wrong
fragment-most rows h = le-ltb (2 ^ 24) rows h

fragment-over : (rows : ℕ) → fragment_wrong over rows ≡ true
unfolding fragment_wrong
fragment-over rows = refl

-- a row view, of every row
view-most : (number : ℕ) → number < 2 ^ 24 → view_refused most number ≡ false
unfolding view_refused buffer_wrong
view-most number h = lt-leb (2 ^ 24) number h

view-over : (number : ℕ) → view_refused over number ≡ true
unfolding view_refused buffer_wrong
view-over number = refl

-- the reader, of every buffer, with a profile that 2 does not refuse
reader-most : (p : Profile) (cells : List ℕ) (depths : ℕ) → profile_wrong p ≡ false → length cells ≡ most → 2 ^ 24 ≤ depths → reader_refusal p cells depths ≡ 0
unfolding reader_refusal first_of buffer_wrong
reader-most p cells depths right e h = rw (right, e, le-ltb depths (2 ^ 24) h) refl

reader-over : (p : Profile) (cells : List ℕ) (depths : ℕ) → profile_wrong p ≡ false → length cells ≡ over → reader_refusal p cells depths ≡ 11
unfolding reader_refusal first_of buffer_wrong
reader-over p cells depths right e = rw (right, e) refl

-- the writer of dumps, of every buffer, and the buffer lent to their reader, whatever the text
writer-most : rows_wrong most ≡ false
unfolding rows_wrong buffer_wrong
writer-most = refl

writer-over : (cells : List ℕ) (lent : ℕ) → length cells ≡ over → dumping cells lent ≡ refused 11
unfolding dumping rows_wrong buffer_wrong
writer-over cells lent e = rw e refl

undumping-over : (text lent : List ℕ) → length lent ≡ over → ReadsDump text lent 11 0 lent
undumping-over text lent e = ReadsDump.wrong_length (rw e buffer-over)

-- each pass and the finisher, of every buffer of one row more, with a profile that 2 does not refuse
module _ (p : Profile) (buffer : List ℕ) (right : profile_wrong p ≡ false) (e : length buffer ≡ over) where
  pass1-over : (size : ℕ) (counts built : List ℕ) → refusal1 buffer size counts built ≡ 11
  unfolding refusal1 first_of fragments_wrong buffer_wrong
  pass1-over size counts built = rw e refl

  pass2-over : (rows : ℕ) → refusal2 p buffer rows ≡ 11
  unfolding refusal2 first_of buffer_wrong
  pass2-over rows = rw (right, e) refl

  pass3-over : (rows : ℕ) → refusal3 buffer rows ≡ 11
  unfolding refusal3 first_of buffer_wrong
  pass3-over rows = rw e refl

  pass4-over : (rows : ℕ) → refusal4 p buffer rows ≡ 11
  unfolding refusal4 first_of buffer_wrong
  pass4-over rows = rw (right, e) refl

  pass5-over : (rows height : ℕ) → refusal5 p buffer rows height ≡ 11
  unfolding refusal5 first_of buffer_wrong
  pass5-over rows height = rw (right, e) refl

  finisher-over : (size : ℕ) (counts built : List ℕ) (height : ℕ) → refusal_all p buffer size counts built height ≡ 11
  unfolding refusal_all first_of fragments_wrong buffer_wrong
  finisher-over size counts built height = rw (right, e) refl
