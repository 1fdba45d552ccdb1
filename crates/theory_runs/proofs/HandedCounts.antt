-- The counts that the passes take are the rows that the calls wrote, for every list of calls, refused or not: a fragment has at most 2^24.
use mathlib.Core.Path.{◌≡◌, refl, ap₂}
use mathlib.Core.List.{List, [], ◌∷◌, map}
use native.Mathlib.Omega.{arith}
use lib.ListN.{length}
use Rattle.rows.specs.declared.records.profile.Profile.{Profile}
use Rattle.rows.specs.declared.cycles.tracer.TracerFinalState.{TracerFinalState}
use Rattle.rows.specs.records.Addresses.{Queues}
use Rattle.rows.specs.declared.records.address_state.Cursor.{Cursor}
use Rattle.rows.specs.cycles.Cycles.{fresh, final_state, for_passes}
use Rattle.rows.proofs.cycles.RowCounts.{FewRows, storing-few, cycle-few, count-handed}
use Rattle.theory_runs.specs.Calls.{Call, store, finish, Fragment, Held, after, after_all, opened, closed, cursor_of, final_states, counts_of}

module _ (p : Profile) (q : Queues) where
  after-few : (z : Held) (call : Call) → FewRows z.tracer → FewRows (after p q z call).tracer
  unfolding after
  after-few z (store values) few = storing-few z.tracer values few
  after-few z (finish i) few = cycle-few p i.forest q i.system i.stack i.registers (length z.cells) z.tracer few

  pub all-few : (calls : List Call) (z : Held) → FewRows z.tracer → FewRows (after_all p q calls z).tracer
  unfolding after_all
  all-few [] z few = few
  all-few (call ∷ calls) z few = all-few calls (after p q z call) (after-few z call few)

  pub fragment-count : (here : Cursor) (fragment : Fragment) → (for_passes (final_state (closed p q here fragment).tracer)).count ≡ (final_state (closed p q here fragment).tracer).num_rows_written
  unfolding fresh
  fragment-count here fragment = count-handed (closed p q here fragment).tracer (all-few fragment.calls (opened p q here fragment) (omega arith))

  pub counts-are-rows : (fragments : List Fragment) (here : Cursor) → counts_of (final_states p q fragments here) ≡ map (λ (final : TracerFinalState). final.num_rows_written) (final_states p q fragments here)
  unfolding final_states counts_of
  counts-are-rows [] here = refl
  counts-are-rows (fragment ∷ fragments) here = ap₂ ◌∷◌ (fragment-count here fragment) (counts-are-rows fragments (cursor_of p q (closed p q here fragment)))
