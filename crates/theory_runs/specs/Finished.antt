-- What is asked of a run, and what its buffer holds after the finishing passes: "on the buffer that holds the run's fragments one after
-- another from row 0 on".
use Rattle.std.specs.Prelude.{◌≡◌, false, List, [], ◌++◌, ℕ, ◌+◌, ◌-◌, ◌*◌, ◌≤◌, length, take}
use Rattle.groups.specs.Constants.{row_width}
use Rattle.rows.specs.declared.records.profile.Profile.{Profile}
use Rattle.rows.specs.records.Forests.{Forest}
use Rattle.rows.specs.records.Addresses.{Queues}
use Rattle.rows.specs.records.Profiles.{two_equal}
use Rattle.rows.specs.declared.records.address_state.Cursor.{Cursor}
use Rattle.rows.specs.records.Buffers.{on_rows}
use Rattle.rows.specs.passes.Passes.{fixed_up, built_of, multiplied, inverted, halted, padded, sum_of, last_built, refusal1, refusal2, refusal3, refusal4, refusal5, unless_refused, refusal_all, all_passes}
use Rattle.theory_readings.specs.Readings as readings
use Rattle.theory_runs.specs.Calls.{Fragment, AllAccepted, final_states, cells_of, counts_of, built_cells, OneSize}
use Rattle.theory_runs.specs.Happened.{cycles_of}
use Rattle.theory_runs.specs.ProperRuns.{Run, tree_from, loop_starts}

-- Demand 3: "this holds when the run is proper as document 01 defines it, no call was refused, no two LOOP starts got the same block
-- address, blocks nest at most 64 deep, and all fragments have one size with only the last one short." `here` are the address state and
-- the queue positions before the first fragment
pub record Runs (p : Profile) (q : Queues) (size : ℕ) (fragments : List Fragment) (here : Cursor) : Type 0 where
  -- the root, its parent's address and its own; "the parent's parent (any number for the root)"
  pub forest : Forest
  pub root : ℕ
  pub parent : ℕ
  pub own : ℕ
  pub third : ℕ
  pub proper : Run p forest root false parent own third (cycles_of q fragments here.at) []
  pub accepted : AllAccepted p q fragments here
  pub loops_apart : two_equal (loop_starts (cycles_of q fragments here.at)) ≡ false
  pub shallow : readings.depth_of (tree_from p 0 proper).0 ≤ 64
  pub one_size : OneSize size fragments (counts_of (final_states p q fragments here))

-- "The nesting that ran", cycle 0 being row 0
abbrev pub nesting : {p : Profile} {q : Queues} {size : ℕ} {fragments : List Fragment} {here : Cursor} → Runs p q size fragments here → readings.Block
nesting {p} runs = (tree_from p 0 runs.proper).0

-- what each of the five calls leaves in the buffer, refused or not
module _ (p : Profile) (size : ℕ) (counts built top : List ℕ) (height : ℕ) (buffer : List ℕ) where
  unfoldable pub buffer1 : List ℕ
  buffer1 = unless_refused (refusal1 buffer size counts built) buffer (on_rows (sum_of counts) (fixed_up size top (built_of (length counts - 1) built)) buffer)

  unfoldable pub buffer2 : List ℕ
  buffer2 = unless_refused (refusal2 p buffer1 (sum_of counts)) buffer1 (on_rows (sum_of counts) (multiplied p) buffer1)

  unfoldable pub buffer3 : List ℕ
  buffer3 = unless_refused (refusal3 buffer2 (sum_of counts)) buffer2 (on_rows (sum_of counts) inverted buffer2)

  unfoldable pub buffer4 : List ℕ
  buffer4 =
      unless_refused (refusal4 p buffer3 (sum_of counts)) buffer3 (on_rows (sum_of counts) (halted p (last_built counts built)) buffer3)

  unfoldable pub buffer5 : List ℕ
  buffer5 = unless_refused (refusal5 p buffer4 (sum_of counts + 1) height) buffer4 (on_rows (sum_of counts + 1) (padded p height) buffer4)

  -- none of the five is refused
  pub record FiveAccepted : Type 0 where
    pub first : refusal1 buffer size counts built ≡ 0
    pub second : refusal2 p buffer1 (sum_of counts) ≡ 0
    pub third : refusal3 buffer2 (sum_of counts) ≡ 0
    pub fourth : refusal4 p buffer3 (sum_of counts) ≡ 0
    pub fifth : refusal5 p buffer4 (sum_of counts + 1) height ≡ 0

  -- what the finisher leaves
  unfoldable pub finisher_buffer : List ℕ
  finisher_buffer = unless_refused (refusal_all p buffer size counts built height) buffer (all_passes p size counts built top height buffer)

-- N11: "finished to the same height", "the same cells in the first height rows": these cells are the first height rows after the finisher, or
-- after the five calls, none of them refused, on a buffer that begins with what fragments hold; what stands behind them is free
pub data FinishedTo (p : Profile) (size : ℕ) (counts built held top : List ℕ) (height : ℕ) : (cells : List ℕ) → Type 0 where
  of_finisher : (others : List ℕ) → refusal_all p (held ++ others) size counts built height ≡ 0 →
      FinishedTo p size counts built held top height (take (row_width * height) (finisher_buffer p size counts built top height (held ++ others)))
  of_five : (others : List ℕ) → FiveAccepted p size counts built top height (held ++ others) →
      FinishedTo p size counts built held top height (take (row_width * height) (buffer5 p size counts built top height (held ++ others)))

-- the passes "with the run's profile, fragment size, and its final states' row counts and last built cells", on the buffer that holds the
-- fragments and other cells behind them; the first stack top and the height are free
module _ (p : Profile) (q : Queues) (size : ℕ) (fragments : List Fragment) (here : Cursor) (others top : List ℕ) (height : ℕ) where
  abbrev pub run_counts : List ℕ
  run_counts = counts_of (final_states p q fragments here)

  abbrev pub run_built : List ℕ
  run_built = built_cells (final_states p q fragments here)

  abbrev pub run_buffer : List ℕ
  run_buffer = cells_of p q fragments here ++ others

  -- "A trace that we write is the first height rows after all five"
  abbrev pub written_by_five : List ℕ
  written_by_five = take (row_width * height) (buffer5 p size run_counts run_built top height run_buffer)

  abbrev pub written_by_finisher : List ℕ
  written_by_finisher = take (row_width * height) (finisher_buffer p size run_counts run_built top height run_buffer)

  abbrev pub FivePass : Type 0
  FivePass = FiveAccepted p size run_counts run_built top height run_buffer

  abbrev pub FinisherPasses : Type 0
  FinisherPasses = refusal_all p run_buffer size run_counts run_built height ≡ 0

-- cells that are written of a run, by the finisher or by the five calls
abbrev pub WrittenOf : (p : Profile) (q : Queues) (size : ℕ) (fragments : List Fragment) (here : Cursor) (top : List ℕ) (height : ℕ) (cells : List ℕ) → Type 0
WrittenOf p q size fragments here = FinishedTo p size (counts_of (final_states p q fragments here)) (built_cells (final_states p q fragments here)) (cells_of p q fragments here)
