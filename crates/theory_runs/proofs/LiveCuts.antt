-- Change request N11 with tallies: calls with tallies that are cut by a size are the calls without, cut by that size, and the same is written.
use mathlib.Core.Path.{◌≡◌, refl}
use mathlib.Core.List.{List}
use Prim.Native.Nat.{ℕ}
use Rattle.rows.specs.declared.records.profile.Profile.{Profile}
use Rattle.rows.specs.records.Addresses.{Queues}
use Rattle.rows.specs.declared.records.address_state.Cursor.{Cursor}
use Rattle.rows.specs.cycles.Cycles.{fresh, cycle_with}
use Rattle.rows.specs.cycles.LentTally.{unless_full, tallied_cycle}
use Rattle.theory_runs.specs.Calls.{Handed, Call, finish}
use Rattle.theory_runs.specs.SameCalls.{Cut}
use Rattle.theory_runs.specs.Finished.{WrittenOf}
use Rattle.theory_runs.specs.LiveCalls.{LiveFragment, plain_all, AllLiveAccepted, live_refusal, live_opened}
use Rattle.theory_runs.specs.LiveFinished.{LiveCut, LiveWrittenOf}
use Rattle.theory_runs.proofs.LiveRuns.{live-as-calls}

-- a cycle that is the first call of its fragment is refused, whatever tally it is lent
pub live-first-cycle-refused : (p : Profile) (q : Queues) (here : Cursor) (fragment : LiveFragment) (i : Handed) → live_refusal p q (live_opened p q here fragment) (finish i) ≡ 23
unfolding live_refusal tallied_cycle unless_full cycle_with fresh
live-first-cycle-refused p q here fragment i = refl

module _ (p : Profile) (q : Queues) (size : ℕ) (fragments : List LiveFragment) (here : Cursor) where
  pub plain-cut : (calls : List Call) → LiveCut p q calls size fragments here → Cut p q calls size (plain_all fragments) here
  plain-cut calls cut =
      let same = live-as-calls p q fragments here cut.accepted in
      record { calls_are = cut.calls_are; accepted = same.none_refused; one_size = rw same.same_finals at cut.one_size }

  pub plain-written : AllLiveAccepted p q fragments here → (top : List ℕ) (height : ℕ) (cells : List ℕ) →
      LiveWrittenOf p q size fragments here top height cells → WrittenOf p q size (plain_all fragments) here top height cells
  plain-written accepted top height cells =
      let same = live-as-calls p q fragments here accepted in
      rw (same.same_finals, same.same_cells) (λ written. written)
