-- "Every cell that a call writes is reduced" (N2), of a whole trace: each cell of the first height rows that are written of a run is below p. The
-- run need not be proper.
use mathlib.Core.List.{List, [], ◌∷◌}
use Prim.Native.Nat.{ℕ}
use Rattle.rows.specs.declared.records.profile.Profile.{Profile}
use Rattle.rows.specs.declared.cycles.tracer.CoreTraceGenerationTracer.{CoreTraceGenerationTracer}
use Rattle.rows.specs.declared.cycles.made.MadeRow.{MadeRow}
use Rattle.groups.specs.Answer.{Answer, accepted, refused}
use Rattle.rows.specs.records.Addresses.{Queues}
use Rattle.rows.specs.records.Cells.{row_cells}
use Rattle.rows.specs.declared.records.address_state.Cursor.{Cursor}
use Rattle.rows.specs.records.Buffers.{flat}
use Rattle.theory_runs.specs.Calls.{Call, store, finish, Fragment, Held, answered, after, opened, closed, cursor_of, AllAccepted, final_states, counts_of, OneSize}
use Rattle.theory_runs.specs.Written.{row_made, rows_in, rows_run}
use Rattle.theory_runs.specs.Finished.{written_by_five, written_by_finisher, FivePass, FinisherPasses}
use Rattle.theory_reductions.specs.Below.{Below, BelowAll}
use Rattle.theory_reductions.proofs.CellsBelow.{below-reduced, below-all-app, below-flat}
use Rattle.theory_runs.proofs.TraceOfRun.{PassesChecked, run-rows, rows-below, by-finisher, by-five}

-- THE ROWS OF CYCLES

made-below : (t : CoreTraceGenerationTracer) (a : Answer MadeRow) → BelowAll (row_made t a)
unfolding row_made row_cells BelowAll
made-below t (accepted m) = (below-reduced _, tt)
made-below t (refused n) = tt

module _ (p : Profile) (q : Queues) where
  calls-below : (calls : List Call) (z : Held) → BelowAll (rows_in p q calls z)
  unfolding rows_in BelowAll
  calls-below [] z = tt
  calls-below (store values ∷ calls) z = calls-below calls (after p q z (store values))
  calls-below (finish i ∷ calls) z =
      below-all-app (row_made z.tracer (answered p q z i)) _ (made-below z.tracer (answered p q z i)) (calls-below calls (after p q z (finish i)))

  run-below : (fragments : List Fragment) (here : Cursor) → BelowAll (rows_run p q fragments here)
  unfolding rows_run BelowAll
  run-below [] here = tt
  run-below (fragment ∷ fragments) here =
      below-all-app (rows_in p q fragment.calls (opened p q here fragment)) _ (calls-below fragment.calls (opened p q here fragment)) (run-below fragments (cursor_of p q (closed p q here fragment)))

-- AFTER THE PASSES

module _ (p : Profile) (q : Queues) (size : ℕ) (fragments : List Fragment) (here : Cursor) (none_refused : AllAccepted p q fragments here) (one_size : OneSize size fragments (counts_of (final_states p q fragments here))) (others top : List ℕ) (height : ℕ) where
  passes-below : (c : PassesChecked p q size fragments here none_refused one_size others top height) → Below (flat (run-rows p q size fragments here none_refused one_size others top height))
  passes-below c = below-flat _ (rows-below p q size fragments here none_refused one_size others top height c (run-below p q fragments here))

  -- by the finisher, and by the five calls one after another
  pub written_below : FinisherPasses p q size fragments here others top height → Below (written_by_finisher p q size fragments here others top height)
  written_below = by-finisher p q size fragments here none_refused one_size others top height Below passes-below

  pub written-below-five : FivePass p q size fragments here others top height → Below (written_by_five p q size fragments here others top height)
  written-below-five = by-five p q size fragments here none_refused one_size others top height Below passes-below
