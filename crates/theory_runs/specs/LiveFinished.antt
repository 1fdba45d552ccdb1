-- Change request N9: a run whose cycles are lent tallies beside the same without, and what its buffer holds after the finishing passes, which are
-- lent none, as `Finished` has it of a run without tallies; such a run cut by a size (N11).
use Rattle.std.specs.Prelude.{◌≡◌, List, ◌++◌, ℕ, ◌*◌, take}
use Rattle.groups.specs.Constants.{row_width}
use Rattle.rows.specs.declared.records.profile.Profile.{Profile}
use Rattle.rows.specs.records.Addresses.{Queues}
use Rattle.rows.specs.declared.records.address_state.Cursor.{Cursor}
use Rattle.rows.specs.passes.Passes.{refusal_all}
use Rattle.theory_runs.specs.Calls.{Call, AllAccepted, final_states, cells_of, counts_of, built_cells, OneSize}
use Rattle.theory_runs.specs.Finished.{buffer5, finisher_buffer, FiveAccepted, FinishedTo}
use Rattle.theory_runs.specs.SameCalls.{all_calls}
use Rattle.theory_runs.specs.LiveCalls.{LiveFragment, plain_all, AllLiveAccepted, live_ends, live_finals, live_cells}

-- a run with tallies ends as the same run does without them: no call is refused, final states and cells are the same
pub record SameAsPlain (p : Profile) (q : Queues) (fragments : List LiveFragment) (here : Cursor) : Type 0 where
  pub none_refused : AllAccepted p q (plain_all fragments) here
  pub same_finals : live_finals (live_ends p q fragments here) ≡ final_states p q (plain_all fragments) here
  pub same_cells : live_cells (live_ends p q fragments here) ≡ cells_of p q (plain_all fragments) here

-- the passes on the buffer that holds the fragments and other cells behind them; the first stack top and the height are free
module _ (p : Profile) (q : Queues) (size : ℕ) (fragments : List LiveFragment) (here : Cursor) (others top : List ℕ) (height : ℕ) where
  abbrev pub live_counts : List ℕ
  live_counts = counts_of (live_finals (live_ends p q fragments here))

  abbrev pub live_built : List ℕ
  live_built = built_cells (live_finals (live_ends p q fragments here))

  abbrev pub live_buffer : List ℕ
  live_buffer = live_cells (live_ends p q fragments here) ++ others

  abbrev pub live_by_five : List ℕ
  live_by_five = take (row_width * height) (buffer5 p size live_counts live_built top height live_buffer)

  abbrev pub live_by_finisher : List ℕ
  live_by_finisher = take (row_width * height) (finisher_buffer p size live_counts live_built top height live_buffer)

  abbrev pub LiveFivePass : Type 0
  LiveFivePass = FiveAccepted p size live_counts live_built top height live_buffer

  abbrev pub LiveFinisherPasses : Type 0
  LiveFinisherPasses = refusal_all p live_buffer size live_counts live_built height ≡ 0

-- N11 with tallies: `Cut`, no call being refused with its tally
pub record LiveCut (p : Profile) (q : Queues) (calls : List Call) (size : ℕ) (fragments : List LiveFragment) (here : Cursor) : Type 0 where
  pub calls_are : all_calls (plain_all fragments) ≡ calls
  pub accepted : AllLiveAccepted p q fragments here
  pub one_size : OneSize size (plain_all fragments) (counts_of (live_finals (live_ends p q fragments here)))

-- N11: cells that are written of it, by the finisher or by the five calls
abbrev pub LiveWrittenOf : (p : Profile) (q : Queues) (size : ℕ) (fragments : List LiveFragment) (here : Cursor) (top : List ℕ) (height : ℕ) (cells : List ℕ) → Type 0
LiveWrittenOf p q size fragments here =
    FinishedTo p size (counts_of (live_finals (live_ends p q fragments here))) (built_cells (live_finals (live_ends p q fragments here))) (live_cells (live_ends p q fragments here))
