-- "Inputs that were answered get the same cells as before." (N2) Runs: where the cells are below p, each definition that N2 changed is the one from
-- before, clause by clause. What it cites is meant as it stands now, since what N2 changed there has a theorem of its own.
use Rattle.std.specs.Prelude.{Some}
use mathlib.Core.Path.{◌≡◌}
use mathlib.Core.Bool.{◌||◌}
use mathlib.Core.List.{List, [], ◌∷◌, ◌++◌}
use Prim.Native.Nat.{ℕ, ◌+◌, ◌-◌, ◌*◌}
use lib.Dec.{ltb, eqb}
use lib.ListN.{length, take}
use Rattle.field.specs.Modulus.{P}
use Rattle.field.specs.Bounds.{any_from}
use Rattle.rows.specs.declared.records.profile.Profile.{Profile}
use Rattle.rows.specs.declared.records.continuation.StoredValues.{StoredValues}
use Rattle.rows.specs.records.Profiles.{profile_wrong}
use Rattle.rows.specs.records.Addresses.{Queues}
use Rattle.rows.specs.declared.records.address_state.Cursor.{Cursor}
use Rattle.rows.specs.records.Buffers.{rows_of, on_rows, buffer_wrong, fewer_rows}
use Rattle.rows.specs.passes.Passes.{fixed_up, built_of, halted, sum_of, last_built, fragments_wrong, no_fragment, not_full, height_wrong, loop_without_body, unless_refused, refusal1, refusal2, refusal3, refusal4, refusal5, refusal_all, all_passes}
use Rattle.groups.specs.Answer.{first_of}
use Rattle.rows.proofs.passes.Checks.{none_first}
use Rattle.theory_reductions.specs.Below.{Below}
use Rattle.theory_before_n2.specs.BeforeN2.{LentBelow, callee_cells, info_cells, cycle_cells, cycle_before, rows_big}
use Rattle.theory_before_n2.proofs.SameCycles.{same-read_captured, same-cycle}
use Rattle.theory_before_n2.proofs.SamePasses.{same-refusal1, same-refusal4, same-refusal_all}
use Rattle.theory_runs.specs.Calls.{Handed, Fragment, Held, answered}
use Rattle.theory_runs.specs.Happened.{InForce, stored}
use Rattle.theory_runs.specs.Finished.{buffer1, buffer2, buffer3, buffer4, FiveAccepted, finisher_buffer, run_counts, run_built, run_buffer, FinisherPasses}

-- the values in force after a storing
pub same-stored : (v : InForce) (values : StoredValues)
    → Below (callee_cells values.captured.dyn_callee_hash ++ info_cells values.captured.ctx_info) → stored v values ≡ record {
      stored = Some values.continuation;
      is_loop_body = values.is_loop_body;
      captured = values.captured;
      at = v.at;
    }
unfolding stored
same-stored v values h = rw (same-read_captured values.captured h)

-- what a cycle answers
pub same-answered : (p : Profile) (q : Queues) (z : Held) (i : Handed)
    → LentBelow i.forest q → Below (cycle_cells i.system i.stack i.registers z.tracer)
    → answered p q z i ≡ cycle_before p i.forest q i.system i.stack i.registers (length z.cells) z.tracer
same-answered p q z i lent h = same-cycle p i.forest q i.system i.stack i.registers (length z.cells) z.tracer lent h

module _ (p : Profile) (size : ℕ) (counts built top : List ℕ) (height : ℕ) (buffer : List ℕ) where
  -- what pass 1 leaves
  pub same-buffer1 : Below (take (49 * sum_of counts) buffer) → Below built → Below top → buffer1 p size counts built top height buffer ≡
      unless_refused
      (first_of
      ((rows_big (sum_of counts) buffer || (any_from P built || any_from P top), 1)
      ∷ (fragments_wrong (length buffer) size counts built, 11)
      ∷ (no_fragment counts, 26)
      ∷ (not_full size counts, 25)
      ∷ []))
      buffer
      (on_rows (sum_of counts) (fixed_up size top (built_of (length counts - 1) built)) buffer)
  unfolding buffer1
  same-buffer1 h k m = rw (same-refusal1 buffer size counts built top h k m)

  -- what pass 4 leaves; `b` is what pass 3 left
  pub same-buffer4 : (let b = buffer3 p size counts built top height buffer in
      Below (take (49 * sum_of counts) b) → Below (last_built counts built) → buffer4 p size counts built top height buffer ≡
      unless_refused
      (first_of
      ((rows_big (sum_of counts) b || any_from P (last_built counts built), 1)
      ∷ (profile_wrong p, 2)
      ∷ (buffer_wrong (length b) || fewer_rows (length b) (sum_of counts + 1), 11)
      ∷ []))
      b
      (on_rows (sum_of counts) (halted p (last_built counts built)) b))
  unfolding buffer4
  same-buffer4 h k = rw (same-refusal4 p (buffer3 p size counts built top height buffer) (sum_of counts) (last_built counts built) h k)

  -- what the finisher leaves
  pub same-finisher_buffer : Below (take (49 * sum_of counts) buffer) → Below built → Below top → finisher_buffer p size counts built top height buffer ≡
      unless_refused
      (first_of
      ((rows_big (sum_of counts) buffer || (any_from P built || any_from P top), 1)
      ∷ (profile_wrong p, 2)
      ∷ (fragments_wrong (length buffer) size counts built || height_wrong (length buffer) (sum_of counts) height, 11)
      ∷ (no_fragment counts, 26)
      ∷ (not_full size counts, 25)
      ∷ (loop_without_body p (rows_of (sum_of counts) buffer), 14)
      ∷ []))
      buffer
      (all_passes p size counts built top height buffer)
  unfolding finisher_buffer
  same-finisher_buffer h k m = rw (same-refusal_all p buffer size counts built top height h k m)

  -- that none of the five is refused: none was before, whatever the cells
  pub same-FiveAccepted : (let n = sum_of counts in
      let b1 = buffer1 p size counts built top height buffer in
      let b2 = buffer2 p size counts built top height buffer in
      let b3 = buffer3 p size counts built top height buffer in
      let b4 = buffer4 p size counts built top height buffer in
      first_of
      ((rows_big n buffer || (any_from P built || any_from P top), 1)
      ∷ (fragments_wrong (length buffer) size counts built, 11)
      ∷ (no_fragment counts, 26)
      ∷ (not_full size counts, 25)
      ∷ []) ≡ 0
      → first_of
      ((rows_big n b1, 1)
      ∷ (profile_wrong p, 2)
      ∷ (buffer_wrong (length b1) || fewer_rows (length b1) n, 11)
      ∷ (loop_without_body p (rows_of n b1), 14)
      ∷ []) ≡ 0
      → first_of ((rows_big n b2, 1) ∷ (buffer_wrong (length b2) || fewer_rows (length b2) n, 11) ∷ []) ≡ 0
      → first_of
      ((rows_big n b3 || any_from P (last_built counts built), 1)
      ∷ (profile_wrong p, 2)
      ∷ (buffer_wrong (length b3) || fewer_rows (length b3) (n + 1), 11)
      ∷ []) ≡ 0
      → first_of
      ((rows_big (n + 1) b4, 1)
      ∷ (profile_wrong p, 2)
      ∷ (buffer_wrong (length b4) || (eqb (n + 1) 0 || (ltb height (n + 1) || fewer_rows (length b4) height)), 11)
      ∷ []) ≡ 0
      → FiveAccepted p size counts built top height buffer)
  unfolding refusal1 refusal2 refusal3 refusal4 refusal5
  same-FiveAccepted a b c d e = record {
    first = (none_first _ 0 _ a).1;
    second = (none_first _ 0 _ b).1;
    third = (none_first _ 0 _ c).1;
    fourth = (none_first _ 0 _ d).1;
    fifth = (none_first _ 0 _ e).1;
  }

-- that the finisher is not refused, likewise
pub same-FinisherPasses : (p : Profile) (q : Queues) (size : ℕ) (fragments : List Fragment) (here : Cursor) (others top : List ℕ) (height : ℕ)
    → (let counts = run_counts p q size fragments here others top height in
    let built = run_built p q size fragments here others top height in
    let buffer = run_buffer p q size fragments here others top height in
    first_of
    ((rows_big (sum_of counts) buffer || (any_from P built || any_from P top), 1)
    ∷ (profile_wrong p, 2)
    ∷ (fragments_wrong (length buffer) size counts built || height_wrong (length buffer) (sum_of counts) height, 11)
    ∷ (no_fragment counts, 26)
    ∷ (not_full size counts, 25)
    ∷ (loop_without_body p (rows_of (sum_of counts) buffer), 14)
    ∷ []) ≡ 0)
    → FinisherPasses p q size fragments here others top height
unfolding refusal_all
same-FinisherPasses p q size fragments here others top height e = (none_first _ 0 _ e).1
