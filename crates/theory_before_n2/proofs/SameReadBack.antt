-- "Inputs that were answered get the same cells as before." (N2) What demand 3 says of counts is, for cells below p, what it said before; and a replay
-- whose finisher was accepted before has it accepted now.
use mathlib.Core.Path.{◌≡◌, ◌∙◌, sym}
use mathlib.Core.Bool.{◌||◌}
use mathlib.Core.List.{List, [], ◌∷◌}
use mathlib.Core.Logic.{◌↔◌}
use Prim.Native.Nat.{ℕ, ◌+◌, ◌*◌, ◌/◌, ◌<◌}
use lib.ListN.{length, get_or}
use Rattle.field.specs.Modulus.{P}
use Rattle.field.specs.Bounds.{any_from}
use Rattle.field.specs.Cells.{cell_at}
use Rattle.rows.specs.declared.records.profile.Profile.{Profile}
use Rattle.rows.specs.records.Profiles.{profile_wrong}
use Rattle.rows.specs.records.Forests.{Forest}
use Rattle.rows.specs.records.Addresses.{Queues}
use Rattle.rows.specs.declared.records.address_state.Cursor.{Cursor}
use Rattle.rows.specs.records.Buffers.{rows_of}
use Rattle.rows.specs.passes.Passes.{sum_of, no_fragment, not_full, loop_without_body, fragments_wrong, height_wrong, refusal_all}
use Rattle.groups.specs.Answer.{first_of}
use Rattle.rows.proofs.passes.Checks.{none_first}
use Rattle.theory_readings.specs.Tokens.{Kind, start, token_of}
use Rattle.theory_readings.specs.Readings.{Block, Passes, passes_in, row_at, all_rows}
use Rattle.theory_reductions.specs.Below.{Below}
use Rattle.theory_before_n2.specs.BeforeN2.{rows_big}
use Rattle.theory_before_n2.proofs.SameCells.{below_at, same-cell_at}
use Rattle.theory_read_back.specs.Loops.{LoopIn}
use Rattle.theory_read_back.specs.ReadBack.{CountsPasses}
use Rattle.theory_read_back.specs.ReplayedRuns.{Lent, counts_replayed, built_replayed, replayed_buffer, ReplayFinishes}

-- as it stood: the count cell as it is
pub record CountsPassesBefore (p : Profile) (cells : List ℕ) (b : Block) : Type 0 where
  pub of_rows : (n : ℕ) → n < length cells / 49 → token_of p (row_at (all_rows cells) n) ≡ start Kind.loop →
      (passes : Passes) × LoopIn b n passes × (get_or cells (49 * n + 23) 0 ≡ passes_in passes)
  pub of_loops : (n : ℕ) (passes : Passes) → LoopIn b n passes →
      (n < length cells / 49) × (token_of p (row_at (all_rows cells) n) ≡ start Kind.loop) × (get_or cells (49 * n + 23) 0 ≡ passes_in passes)

pub same-CountsPasses : (p : Profile) (cells : List ℕ) (b : Block) → Below cells → CountsPasses p cells b ↔ CountsPassesBefore p cells b
same-CountsPasses p cells b h =
    let same : (n : ℕ) → cell_at cells (49 * n + 23) ≡ get_or cells (49 * n + 23) 0 = λ n. same-cell_at cells (49 * n + 23) (below_at cells (49 * n + 23) h) in (
      λ c. record {
        of_rows = λ n room is. let (passes, at, count) = c.of_rows n room is in (passes, at, sym (same n) ∙ count);
        of_loops = λ n passes at. let (room, is, count) = c.of_loops n passes at in (room, is, sym (same n) ∙ count);
      },
      λ c. record {
        of_rows = λ n room is. let (passes, at, count) = c.of_rows n room is in (passes, at, same n ∙ count);
        of_loops = λ n passes at. let (room, is, count) = c.of_loops n passes at in (room, is, same n ∙ count);
      },
    )

-- a replay whose finisher was not refused before is not refused now
pub same-ReplayFinishes : (p : Profile) (f : Forest) (directory : List ℕ) (q : Queues) (size : ℕ) (lents : List Lent) (here : Cursor) (others top : List ℕ) (height : ℕ)
    → (let counts = counts_replayed p f directory q lents here in
    let built = built_replayed p f directory q lents here in
    let buffer = replayed_buffer p f directory q size lents here others top height in
    first_of
    ((rows_big (sum_of counts) buffer || (any_from P built || any_from P top), 1)
    ∷ (profile_wrong p, 2)
    ∷ (fragments_wrong (length buffer) size counts built || height_wrong (length buffer) (sum_of counts) height, 11)
    ∷ (no_fragment counts, 26)
    ∷ (not_full size counts, 25)
    ∷ (loop_without_body p (rows_of (sum_of counts) buffer), 14)
    ∷ []) ≡ 0)
    → ReplayFinishes p f directory q size lents here others top height
unfolding refusal_all
same-ReplayFinishes p f directory q size lents here others top height e = (none_first _ 0 _ e).1
