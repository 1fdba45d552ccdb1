-- "Inputs that were answered get the same cells as before." (N2) The reader: where the cells that it reads are below p, each definition that N2 changed
-- is the one from before, clause by clause. What it cites is meant as it stands now, since what N2 changed there has a theorem of its own.
use mathlib.Core.Path.{◌≡◌}
use mathlib.Core.Bool.{Bool, ◌||◌}
use mathlib.Core.List.{List, [], ◌∷◌}
use Prim.Native.Nat.{ℕ, ◌/◌, ◌<◌}
use lib.Dec.{ltb}
use lib.ListN.{length, take, drop, get_or}
use Rattle.field.specs.Modulus.{P}
use Rattle.field.specs.Bounds.{any_from}
use Rattle.rows.specs.declared.records.profile.Profile.{Profile}
use Rattle.rows.specs.records.Profiles.{profile_wrong}
use Rattle.rows.specs.records.Buffers.{buffer_wrong}
use Rattle.groups.specs.Answer.{first_of}
use Rattle.rows.proofs.passes.Checks.{none_first}
use Rattle.theory_reductions.specs.Below.{Below}
use Rattle.theory_before_n2.proofs.SameCells.{below_of, of-below, same-cell_at, same-reduced}
use Rattle.theory_readings.specs.Tokens.{in_span_of, count_of, op_bits_of}
use Rattle.theory_readings.specs.Readings.{buffer_refusal}
use Rattle.theory_readings.specs.Answers.{reader_refusal}

-- in_span of a row
pub same-in_span_of : (row : List ℕ) → get_or row 22 0 < P → in_span_of row ≡ get_or row 22 0
same-in_span_of row h = same-cell_at row 22 h

-- the count of a row
pub same-count_of : (row : List ℕ) → get_or row 23 0 < P → count_of row ≡ get_or row 23 0
same-count_of row h = same-cell_at row 23 h

-- the seven op bits
pub same-op_bits_of : (row : List ℕ) → Below (take 7 (drop 7 row)) → op_bits_of row ≡ take 7 (drop 7 row)
same-op_bits_of row h = same-reduced (take 7 (drop 7 row)) h

-- a buffer that was not refused had cells below p
pub answered-cells : (cells : List ℕ) (rest : List (Bool × ℕ)) → first_of ((any_from P cells, 1) ∷ rest) ≡ 0 → Below cells
answered-cells cells rest e = below_of cells (none_first (any_from P cells) 0 rest e).0

-- what refuses a buffer: 1 is not answered
pub same-buffer_refusal : (p : Profile) (cells : List ℕ)
    → Below cells → buffer_refusal p cells ≡ first_of ((any_from P cells, 1) ∷ (profile_wrong p, 2) ∷ (buffer_wrong (length cells), 11) ∷ [])
unfolding buffer_refusal first_of
same-buffer_refusal p cells h = rw (of-below cells h)

-- what a reader refuses before it reads: 1 is not answered
pub same-reader_refusal : (p : Profile) (cells : List ℕ) (depths : ℕ) → Below cells → reader_refusal p cells depths ≡
    first_of
    ((any_from P cells, 1)
    ∷ (profile_wrong p, 2)
    ∷ (buffer_wrong (length cells) || ltb depths (length cells / 49), 11)
    ∷ [])
unfolding reader_refusal first_of
same-reader_refusal p cells depths h = rw (of-below cells h)
