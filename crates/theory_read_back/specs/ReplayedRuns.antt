-- A run that is replayed: fragments lent as records, with one profile, one set of queues, and all forests with their directory. Each fragment
-- is replayed at the address state and the queue positions that the replay before it answered.
use Rattle.std.specs.Prelude.{◌≡◌, false, List, [], ◌∷◌, ◌++◌, ℕ, zero, suc, ◌*◌, ◌/◌, ◌≤◌, length, take}
use Rattle.groups.specs.Answer.{Answer, accepted, refused}
use Rattle.groups.specs.Constants.{row_width}
use Rattle.rows.specs.declared.records.profile.Profile.{Profile}
use Rattle.rows.specs.declared.replay.calls.Replayed.{Replayed}
use Rattle.rows.specs.records.Forests.{Forest}
use Rattle.rows.specs.records.Addresses.{Queues}
use Rattle.rows.specs.records.Profiles.{two_equal}
use Rattle.rows.specs.declared.records.address_state.Cursor.{Cursor}
use Rattle.rows.specs.cycles.Made.{cursor}
use Rattle.rows.specs.records.CallRecords as records
use Rattle.rows.specs.replay.Calls.{directory_entry, forest_in, Setting, scanned, replayed, replayed_fragment}
use Rattle.rows.specs.records.CallRecords.{stores, finishes, call_in, record_at}
use Rattle.rows.specs.passes.Passes.{refusal_all}
use Rattle.theory_readings.specs.Readings as readings
use Rattle.theory_runs.specs.Calls.{Call, store, finish, Fragment, OneSize}
use Rattle.theory_runs.specs.Happened.{cycles_of}
use Rattle.theory_runs.specs.ProperRuns.{Run, tree_from, loop_starts}
use Rattle.theory_runs.specs.Finished.{buffer5, FiveAccepted, finisher_buffer, FinishedTo}

-- what is lent for a fragment: its records, and the cells that it held before
pub record Lent : Type 0 where
  pub numbers : List ℕ
  pub cells : List ℕ

-- the records of some fragments, one after another
unfoldable pub all_numbers : List Lent → List ℕ
all_numbers [] = []
all_numbers (l ∷ lents) = l.numbers ++ all_numbers lents

-- THE CALLS OF THE RECORDS

-- all forests and their directory
module _ (f : Forest) (directory : List ℕ) where
  -- the call of a record: a storing, or a cycle that is handed the forest which its number names. A record that encodes nothing is no call
  unfoldable pub call_of : Answer records.RecordedCall → List Call
  call_of (refused n) = []
  call_of (accepted (stores values)) = store values ∷ []
  call_of (accepted (finishes k system stack registers)) =
      finish (record { forest = forest_in f (directory_entry directory k); system = system; stack = stack; registers = registers }) ∷ []

  -- the calls of the first n records, in order
  unfoldable pub calls_of : (numbers : List ℕ) → (n : ℕ) → List Call
  calls_of numbers zero = []
  calls_of numbers (suc k) = calls_of numbers k ++ call_of (call_in (record_at numbers k))

  -- of all records
  abbrev pub recorded_calls : (numbers : List ℕ) → List Call
  recorded_calls numbers = calls_of numbers (length numbers / 32)

  -- a fragment of a run: the calls of all its records
  abbrev pub fragment_of : Lent → Fragment
  fragment_of l = record { calls = recorded_calls l.numbers; cells = l.cells }

  unfoldable pub fragments_of : List Lent → List Fragment
  fragments_of [] = []
  fragments_of (l ∷ lents) = fragment_of l ∷ fragments_of lents

-- THE REPLAYS

module _ (p : Profile) (f : Forest) (directory : List ℕ) (q : Queues) where
  abbrev pub setting_of : Lent → Setting
  setting_of l = scanned p f directory q (length l.cells)

  -- what the replay of a fragment answers
  abbrev pub told_of : Cursor → Lent → Replayed
  told_of here l = replayed (setting_of l) here.state here.at l.numbers

  -- the cells that it leaves in the fragment
  abbrev pub left_in : Cursor → Lent → List ℕ
  left_in here l = replayed_fragment (setting_of l) here.state here.at l.numbers l.cells

  -- "address state and queues continuing"
  abbrev pub next_cursor : Cursor → Lent → Cursor
  next_cursor here l = cursor (told_of here l).state (told_of here l).at

  -- no replay is refused
  unfoldable pub AllReplayed : List Lent → Cursor → Type 0
  AllReplayed [] here = Unit {0}
  AllReplayed (l ∷ lents) here = ((told_of here l).refusal ≡ 0) × AllReplayed lents (next_cursor here l)

  -- the row counts and the last built cells that the replays answer, and the cells that they leave, one fragment after another
  unfoldable pub counts_replayed : List Lent → Cursor → List ℕ
  counts_replayed [] here = []
  counts_replayed (l ∷ lents) here = (told_of here l).rows ∷ counts_replayed lents (next_cursor here l)

  unfoldable pub built_replayed : List Lent → Cursor → List ℕ
  built_replayed [] here = []
  built_replayed (l ∷ lents) here = (told_of here l).built ++ built_replayed lents (next_cursor here l)

  unfoldable pub cells_replayed : List Lent → Cursor → List ℕ
  cells_replayed [] here = []
  cells_replayed (l ∷ lents) here = left_in here l ++ cells_replayed lents (next_cursor here l)

  -- Demand 3's premises over replay: the cycles of the records are exactly a proper run, no replay was refused, "no two LOOP starts got the
  -- same block address, blocks nest at most 64 deep, and all fragments have one size with only the last one short"
  pub record ReplayedRuns (size : ℕ) (lents : List Lent) (here : Cursor) : Type 0 where
    pub forest : Forest
    pub root : ℕ
    pub parent : ℕ
    pub own : ℕ
    pub third : ℕ
    pub proper : Run p forest root false parent own third (cycles_of q (fragments_of f directory lents) here.at) []
    pub replays : AllReplayed lents here
    pub loops_apart : two_equal (loop_starts (cycles_of q (fragments_of f directory lents) here.at)) ≡ false
    pub shallow : readings.depth_of (tree_from p 0 proper).0 ≤ 64
    pub one_size : OneSize size (fragments_of f directory lents) (counts_replayed lents here)

  -- the nesting of the records, cycle 0 being row 0
  abbrev pub records_nesting : {size : ℕ} {lents : List Lent} {here : Cursor} → ReplayedRuns size lents here → readings.Block
  records_nesting runs = (tree_from p 0 runs.proper).0

  -- N11 over replay: these records, cut into fragments that all have this size with only the last one short, where no replay is refused
  pub record ReplayCut (numbers : List ℕ) (size : ℕ) (lents : List Lent) (here : Cursor) : Type 0 where
    pub records_are : all_numbers lents ≡ numbers
    pub replays : AllReplayed lents here
    pub one_size : OneSize size (fragments_of f directory lents) (counts_replayed lents here)

  -- the passes on the buffer that holds the replayed fragments, and other cells behind them, with what the replays answered
  module _ (size : ℕ) (lents : List Lent) (here : Cursor) (others top : List ℕ) (height : ℕ) where
    abbrev pub replayed_buffer : List ℕ
    replayed_buffer = cells_replayed lents here ++ others

    abbrev pub finished_replay : List ℕ
    finished_replay =
        take (row_width * height) (finisher_buffer p size (counts_replayed lents here) (built_replayed lents here) top height replayed_buffer)

    abbrev pub ReplayFinishes : Type 0
    ReplayFinishes = refusal_all p replayed_buffer size (counts_replayed lents here) (built_replayed lents here) height ≡ 0

    abbrev pub five_passed_replay : List ℕ
    five_passed_replay = take (row_width * height) (buffer5 p size (counts_replayed lents here) (built_replayed lents here) top height replayed_buffer)

    abbrev pub ReplayFivePass : Type 0
    ReplayFivePass = FiveAccepted p size (counts_replayed lents here) (built_replayed lents here) top height replayed_buffer

  -- N11: cells that are written of replayed fragments, by the finisher or by the five calls
  abbrev pub ReplayWrittenOf : (size : ℕ) (lents : List Lent) (here : Cursor) (top : List ℕ) (height : ℕ) (cells : List ℕ) → Type 0
  ReplayWrittenOf size lents here = FinishedTo p size (counts_replayed lents here) (built_replayed lents here) (cells_replayed lents here)
