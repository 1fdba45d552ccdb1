-- Replay: several forests in the lent slices, and the calls of all records one after another.
use Rattle.std.specs.Prelude.{List, ℕ, zero, suc, ◌+◌, ◌*◌, ◌/◌, ◌%◌, ltb, eqb, length, take, drop, get_or}
use Rattle.groups.specs.Answer.{Answer, accepted, refused, pick}
use Rattle.groups.specs.Constants.{bad_length}
use Rattle.rows.specs.declared.records.profile.Profile.{Profile}
use Rattle.rows.specs.declared.records.address_state.DecoderState.{DecoderState}
use Rattle.rows.specs.declared.records.address_state.Positions.{Positions}
use Rattle.rows.specs.declared.cycles.scan.Scan.{Scan}
use Rattle.rows.specs.declared.cycles.tracer.CoreTraceGenerationTracer.{CoreTraceGenerationTracer}
use Rattle.rows.specs.declared.replay.directory.DirectoryEntry.{DirectoryEntry}
use Rattle.rows.specs.declared.replay.calls.Replayed.{Replayed}
use Rattle.rows.specs.records.Forests.{Forest, forest}
use Rattle.rows.specs.records.Addresses.{Queues}
use Rattle.rows.specs.records.CallRecords.{RecordedCall, stores, finishes, call_in, record_at}
use Rattle.rows.specs.cycles.Scans.{scan_of}
use Rattle.rows.specs.cycles.Cycles.{fresh, stored_in, cycle_with, keeping, tracer_after, fragment_after, final_state, for_passes}

-- SEVERAL FORESTS

-- where a forest lies, by the six numbers of the directory; a number that is not in it has no slot: "no such node"
unfoldable pub directory_entry : (directory : List ℕ) → ℕ → DirectoryEntry
directory_entry directory k =
    pick (ltb k (length directory / 6))
    (record {
      first_slot = get_or directory (6 * k) 0;
      slots = get_or directory (6 * k + 1) 0;
      first_batch = get_or directory (6 * k + 2) 0;
      batches = get_or directory (6 * k + 3) 0;
      first_op = get_or directory (6 * k + 4) 0;
      ops = get_or directory (6 * k + 5) 0;
    })
    (record { first_slot = 0; slots = 0; first_batch = 0; batches = 0; first_op = 0; ops = 0 })

-- `count` records of a width from record `first` on, as far as they are in the slice
unfoldable pub window : {A : Type 0} → (width first count : ℕ) → List A → List A
window width first count xs = take (width * count) (drop (width * first) xs)

-- the forest that lies there
unfoldable pub forest_in : Forest → DirectoryEntry → Forest
forest_in f w =
    forest
    (window 6 w.first_slot w.slots f.nodes)
    (window 4 w.first_slot w.slots f.digests)
    (window 12 w.first_batch w.batches f.batches)
    (window 8 w.first_batch w.batches f.groups)
    (window 1 w.first_op w.ops f.ops)

-- ONE CALL

-- what all calls share: what the scan found, the profile, all forests, their directory, the queues, and the length of the fragment
pub record Setting : Type 0 where
  pub scan : Scan
  pub profile : Profile
  pub forests : Forest
  pub directory : List ℕ
  pub queues : Queues
  pub cells : ℕ

abbrev pub setting : Scan → Profile → Forest → (directory : List ℕ) → Queues → (cells : ℕ) → Setting
setting scan profile forests directory queues cells =
    record { scan = scan; profile = profile; forests = forests; directory = directory; queues = queues; cells = cells }

-- the forest of a number
unfoldable pub forest_of : Setting → ℕ → Forest
forest_of s k = forest_in s.forests (directory_entry s.directory k)

-- a record that encodes nothing is refused like a call
unfoldable pub refusing : ℕ → CoreTraceGenerationTracer → CoreTraceGenerationTracer
refusing n t = pick (eqb t.refusal 0) (keeping n t) t

-- the tracer after a call
unfoldable pub call_done : Setting → CoreTraceGenerationTracer → Answer RecordedCall → CoreTraceGenerationTracer
call_done s t (refused n) = refusing n t
call_done s t (accepted (stores values)) = stored_in t values
call_done s t (accepted (finishes k system stack registers)) =
    tracer_after system stack t (cycle_with s.scan s.profile (forest_of s k) s.queues stack registers s.cells t)

-- the fragment after a call
unfoldable pub call_written : Setting → CoreTraceGenerationTracer → Answer RecordedCall → List ℕ → List ℕ
call_written s t (refused n) fragment = fragment
call_written s t (accepted (stores values)) fragment = fragment
call_written s t (accepted (finishes k system stack registers)) fragment =
    fragment_after fragment t (cycle_with s.scan s.profile (forest_of s k) s.queues stack registers s.cells t)

-- ALL CALLS

-- the tracer after the first n records
unfoldable pub through : Setting → (records : List ℕ) → CoreTraceGenerationTracer → (n : ℕ) → CoreTraceGenerationTracer
through s records t zero = t
through s records t (suc k) = call_done s (through s records t k) (call_in (record_at records k))

-- the fragment after the first n records
unfoldable pub written : Setting → (records : List ℕ) → CoreTraceGenerationTracer → List ℕ → (n : ℕ) → List ℕ
written s records t fragment zero = fragment
written s records t fragment (suc k) =
    call_written s (through s records t k) (call_in (record_at records k)) (written s records t fragment k)

-- a part of a record at the end: "lengths" (11)
unfoldable pub ending : (numbers : ℕ) → CoreTraceGenerationTracer → CoreTraceGenerationTracer
ending numbers t = pick (eqb (numbers % 32) 0) t (refusing bad_length t)

-- "address state and queues continuing"; "Each returns its number, other answers 0"
unfoldable pub next_state : CoreTraceGenerationTracer → DecoderState
next_state t = pick (eqb t.refusal 0) t.decoder_state (record { current_addr = 0; parent_addr = 0 })

unfoldable pub next_positions : CoreTraceGenerationTracer → Positions
next_positions t = pick (eqb t.refusal 0) t.at (record { addresses = 0; parents = 0; ends = 0 })

-- what is answered: the final state, and what the next fragment goes on from
unfoldable pub told : CoreTraceGenerationTracer → Replayed
told t = record {
  refusal = (final_state t).refusal;
  rows = (for_passes (final_state t)).count;
  built = (for_passes (final_state t)).built;
  state = next_state t;
  at = next_positions t;
}

-- all forests are scanned, also those that no record names: "used or not"
unfoldable pub scanned : Profile → Forest → (directory : List ℕ) → Queues → (cells : ℕ) → Setting
scanned p f directory q cells = setting (scan_of p f.nodes f.batches f.ops) p f directory q cells

-- "each fragment takes a fresh tracer (nothing stored, no refusal, no row) and ends with its final state, address state and queues
-- continuing"
unfoldable pub replayed : Setting → DecoderState → Positions → (records : List ℕ) → Replayed
replayed s state at records = told (ending (length records) (through s records (fresh state at) (length records / 32)))

-- a replay refuses whole: the fragment is as it was
unfoldable pub replayed_fragment : Setting → DecoderState → Positions → (records fragment : List ℕ) → List ℕ
replayed_fragment s state at records fragment =
    pick (eqb (replayed s state at records).refusal 0)
    (written s records (fresh state at) fragment (length records / 32))
    fragment
