-- Change request N9: what is written of a run whose cycles are lent tallies is what is written of the run without.
use mathlib.Core.List.{List}
use Prim.Native.Nat.{ℕ}
use Rattle.rows.specs.declared.records.profile.Profile.{Profile}
use Rattle.rows.specs.records.Addresses.{Queues}
use Rattle.rows.specs.declared.records.address_state.Cursor.{Cursor}
use Rattle.theory_runs.specs.LiveCalls.{LiveFragment, plain_all, AllLiveAccepted}
use Rattle.theory_runs.specs.Finished.{written_by_five, written_by_finisher, FivePass, FinisherPasses}
use Rattle.theory_runs.specs.LiveFinished.{live_by_five, live_by_finisher, LiveFivePass, LiveFinisherPasses}
use Rattle.theory_runs.proofs.LiveRuns.{live-as-calls}

-- what holds of the cells that are written without tallies holds of those that are written with them, no call being refused
module _ (p : Profile) (q : Queues) (size : ℕ) (fragments : List LiveFragment) (here : Cursor) (none_refused : AllLiveAccepted p q fragments here) (others top : List ℕ) (height : ℕ) (Q : List ℕ → Type 0) where
  -- by the finisher
  pub live_written : (FinisherPasses p q size (plain_all fragments) here others top height → Q (written_by_finisher p q size (plain_all fragments) here others top height)) →
      LiveFinisherPasses p q size fragments here others top height → Q (live_by_finisher p q size fragments here others top height)
  live_written h e =
      let same = live-as-calls p q fragments here none_refused in
      rw (same.same_finals, same.same_cells) (h (rw (same.same_finals, same.same_cells) at e))

  -- and by the five calls, one after another
  pub live-written-by-five : (FivePass p q size (plain_all fragments) here others top height → Q (written_by_five p q size (plain_all fragments) here others top height)) →
      LiveFivePass p q size fragments here others top height → Q (live_by_five p q size fragments here others top height)
  live-written-by-five h e =
      let same = live-as-calls p q fragments here none_refused in
      rw (same.same_finals, same.same_cells) (h (rw (same.same_finals, same.same_cells) at e))
