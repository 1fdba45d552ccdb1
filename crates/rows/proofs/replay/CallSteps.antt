-- The calls of a list of records, one at a time.
use mathlib.Core.Path.{◌≡◌, refl, ◌∙◌}
use mathlib.Core.Bool.{Bool, true, false}
use mathlib.Core.List.{List}
use Prim.Native.Nat.{ℕ, ◌+◌, ◌-◌, ◌*◌}
use native.Mathlib.Numerals.{add-one}
use native.Mathlib.Omega.{arith}
use borrow.Author.Tests.{eqb-true}
use lib.Dec.{eqb}
use lib.ListN.{take, drop}
use Rattle.groups.specs.Answer.{Answer, accepted, refused, pick}
use Rattle.rows.specs.declared.records.continuation.StoredValues.{StoredValues}
use Rattle.rows.specs.declared.cycles.tracer.CoreTraceGenerationTracer.{CoreTraceGenerationTracer}
use Rattle.rows.specs.declared.cycles.tracer.TracerFinalState.{TracerFinalState}
use Rattle.rows.specs.records.Built.{no_system, no_stack, read_system, read_stack}
use Rattle.rows.specs.cycles.Cycles.{final_state, last_system, last_stack}
use Rattle.rows.specs.replay.Calls.{Setting, call_done, call_written, through, written, told}
use Rattle.rows.specs.ways.Inner.{storing_done}
use Rattle.rows.specs.records.CallRecords.{recorded_storing, call_in, record_at}
use Rattle.rows.proofs.cycles.Picks.{pick_same, pick-step}

pub storing-done : (s : Setting) (t : CoreTraceGenerationTracer) (found : Answer StoredValues) → call_done s t (recorded_storing found) ≡ storing_done t found
unfolding call_done storing_done
storing-done s t (accepted values) = refl
storing-done s t (refused n) = refl

-- tracer and fragment after k records, the fragment as it was where nothing is written
abbrev pub Ran : Bool → Setting → (records : List ℕ) → CoreTraceGenerationTracer → List ℕ → (k : ℕ) → CoreTraceGenerationTracer → List ℕ → Type 0
Ran write s records t₀ f₀ k t f = (t ≡ through s records t₀ k) × (f ≡ pick write (written s records t₀ f₀ k) f₀)

pub ran-none : (write : Bool) (s : Setting) (records : List ℕ) (t₀ : CoreTraceGenerationTracer) (f₀ : List ℕ) → Ran write s records t₀ f₀ 0 t₀ f₀
unfolding through written
ran-none write s records t₀ f₀ = (refl, pick_same write f₀)

module _ (write : Bool) (s : Setting) (records : List ℕ) (t₀ t t' : CoreTraceGenerationTracer) (f₀ f f' : List ℕ) (k : ℕ) where
  -- the record as it is lent
  abbrev lent : List ℕ
  lent = take (32 * k + 32 - 32 * k) (drop (32 * k) records)

  lent_is : lent ≡ record_at records k
  unfolding record_at
  lent_is = let e : 32 * k + 32 - 32 * k ≡ 32 = omega arith in rw e

  pub ran-more : Ran write s records t₀ f₀ k t f → t' ≡ call_done s t (call_in lent) → f' ≡ pick write (call_written s t (call_in lent) f) f → Ran write s records t₀ f₀ (k + 1) t' f'
  unfolding through written
  ran-more ran done put = (
    rw (add-one, ← lent_is, ← ran.0) done,
    rw (add-one, ← lent_is, ← ran.0) (put ∙ pick-step write (call_written s t (call_in lent)) f (written s records t₀ f₀ k) f₀ ran.1),
  )

final-number : (t : CoreTraceGenerationTracer) (same : Bool) → eqb t.refusal 0 ≡ same → (pick {A = TracerFinalState} same
    (record { refusal = 0; last_system_cols = read_system (last_system t); last_stack_cols = read_stack (last_stack t); num_rows_written = t.row_write_index })
    (record { refusal = t.refusal; last_system_cols = no_system; last_stack_cols = no_stack; num_rows_written = 0 })).refusal ≡ t.refusal
final-number t true e = rw (eqb-true t.refusal 0 e)
final-number t false e = refl

-- the number that is answered is the kept one
pub told-number : (t : CoreTraceGenerationTracer) → (told t).refusal ≡ t.refusal
unfolding told final_state
told-number t = final-number t (eqb t.refusal 0) refl
