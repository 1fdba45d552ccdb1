-- What is finished over replayed fragments is a trace, and its reading is the nesting of the records; every row keeps the overflow rule.
use mathlib.Core.List.{List}
use Prim.Native.Nat.{ℕ, ◌<◌}
use Rattle.rows.specs.declared.records.profile.Profile.{Profile}
use Rattle.rows.specs.records.Forests.{Forest}
use Rattle.rows.specs.records.Addresses.{Queues}
use Rattle.rows.specs.records.Buffers.{buffer_row}
use Rattle.rows.specs.declared.records.address_state.Cursor.{Cursor}
use Rattle.theory_readings.specs.Readings.{Trace}
use Rattle.theory_runs.specs.Calls.{AllAccepted, final_states, counts_of, OneSize}
use Rattle.theory_runs.specs.Finished.{Runs}
use Rattle.theory_runs.specs.Overflow.{OverflowRule, DepthInRange}
use Rattle.theory_runs.proofs.TraceOfRun.{finisher-trace, five-trace}
use Rattle.theory_runs.proofs.OverflowTheorems.{finisher-overflow, five-overflow, finisher-depths, five-depths}
use Rattle.theory_read_back.specs.ReplayedRuns.{Lent, fragments_of, AllReplayed, counts_replayed, ReplayedRuns, records_nesting, finished_replay, ReplayFinishes, five_passed_replay, ReplayFivePass}
use Rattle.theory_read_back.proofs.ReplayedCalls.{replayed-accepted, replayed-counts, replayed-built, replayed-cells}
use Rattle.theory_read_back.proofs.RecordedDepths.{recorded-depths}

module _ (p : Profile) (f : Forest) (directory : List ℕ) (q : Queues) (size : ℕ) (lents : List Lent) (here : Cursor) (runs : ReplayedRuns p f directory q size lents here) where
  -- a replayed run is a run of the calls of its records
  unfoldable pub run-of-records : Runs p q size (fragments_of f directory lents) here
  run-of-records = record {
    forest = runs.forest;
    root = runs.root;
    parent = runs.parent;
    own = runs.own;
    third = runs.third;
    proper = runs.proper;
    accepted = replayed-accepted p f directory q lents here runs.replays;
    loops_apart = runs.loops_apart;
    shallow = runs.shallow;
    one_size = rw (replayed-counts p f directory q lents here runs.replays) at runs.one_size;
  }

  module _ (others top : List ℕ) (height : ℕ) where
    pub replay-finisher-trace : ReplayFinishes p f directory q size lents here others top height → Trace p (finished_replay p f directory q size lents here others top height) (records_nesting p f directory q runs)
    unfolding run-of-records
    replay-finisher-trace =
        rw (replayed-counts p f directory q lents here runs.replays, replayed-built p f directory q lents here runs.replays, replayed-cells p f directory q lents here runs.replays)
        (finisher-trace p q size (fragments_of f directory lents) here run-of-records others top height)

    pub replay-five-trace : ReplayFivePass p f directory q size lents here others top height → Trace p (five_passed_replay p f directory q size lents here others top height) (records_nesting p f directory q runs)
    unfolding run-of-records
    replay-five-trace =
        rw (replayed-counts p f directory q lents here runs.replays, replayed-built p f directory q lents here runs.replays, replayed-cells p f directory q lents here runs.replays)
        (five-trace p q size (fragments_of f directory lents) here run-of-records others top height)

-- the overflow rule and the depths, of replays that need not be of a proper run
module _ (p : Profile) (f : Forest) (directory : List ℕ) (q : Queues) (size : ℕ) (lents : List Lent) (here : Cursor) (replays : AllReplayed p f directory q lents here) (one_size : OneSize size (fragments_of f directory lents) (counts_replayed p f directory q lents here)) (others top : List ℕ) (height : ℕ) where
  calls-accepted : AllAccepted p q (fragments_of f directory lents) here
  calls-accepted = replayed-accepted p f directory q lents here replays

  calls-sized : OneSize size (fragments_of f directory lents) (counts_of (final_states p q (fragments_of f directory lents) here))
  calls-sized = rw (replayed-counts p f directory q lents here replays) at one_size

  pub replay-finisher-overflow : ReplayFinishes p f directory q size lents here others top height → (i : ℕ) → i < height →
      OverflowRule (buffer_row i (finished_replay p f directory q size lents here others top height)) × DepthInRange (buffer_row i (finished_replay p f directory q size lents here others top height))
  replay-finisher-overflow =
      rw (replayed-counts p f directory q lents here replays, replayed-built p f directory q lents here replays, replayed-cells p f directory q lents here replays)
      (λ e i low. (
        finisher-overflow p q size (fragments_of f directory lents) here calls-accepted calls-sized others top height e i low,
        finisher-depths p q size (fragments_of f directory lents) here calls-accepted calls-sized others top height (recorded-depths f directory lents) e i low,
      ))

  pub replay-five-overflow : ReplayFivePass p f directory q size lents here others top height → (i : ℕ) → i < height →
      OverflowRule (buffer_row i (five_passed_replay p f directory q size lents here others top height)) × DepthInRange (buffer_row i (five_passed_replay p f directory q size lents here others top height))
  replay-five-overflow =
      rw (replayed-counts p f directory q lents here replays, replayed-built p f directory q lents here replays, replayed-cells p f directory q lents here replays)
      (λ e i low. (
        five-overflow p q size (fragments_of f directory lents) here calls-accepted calls-sized others top height e i low,
        five-depths p q size (fragments_of f directory lents) here calls-accepted calls-sized others top height (recorded-depths f directory lents) e i low,
      ))
