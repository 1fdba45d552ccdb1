-- The calls of a list of records made one by one: each finish is given its own forest's part alone, and scans it itself.
use Rattle.std.specs.Prelude.{List, ℕ, zero, suc}
use Rattle.groups.specs.Answer.{Answer, accepted, refused}
use Rattle.rows.specs.declared.cycles.tracer.CoreTraceGenerationTracer.{CoreTraceGenerationTracer}
use Rattle.rows.specs.cycles.Cycles.{stored_in, cycle, tracer_after, fragment_after}
use Rattle.rows.specs.replay.Calls.{Setting, forest_of, refusing}
use Rattle.rows.specs.records.CallRecords.{RecordedCall, stores, finishes, call_in, record_at}

-- the tracer after a call: that of `start_clock_cycle`, or of a finish without a tally. The scan of the setting is not used
unfoldable pub single_done : Setting → CoreTraceGenerationTracer → Answer RecordedCall → CoreTraceGenerationTracer
single_done s t (refused n) = refusing n t
single_done s t (accepted (stores values)) = stored_in t values
single_done s t (accepted (finishes k system stack registers)) =
    tracer_after system stack t (cycle s.profile (forest_of s k) s.queues stack registers s.cells t)

-- the fragment after a call
unfoldable pub single_written : Setting → CoreTraceGenerationTracer → Answer RecordedCall → List ℕ → List ℕ
single_written s t (refused n) fragment = fragment
single_written s t (accepted (stores values)) fragment = fragment
single_written s t (accepted (finishes k system stack registers)) fragment =
    fragment_after fragment t (cycle s.profile (forest_of s k) s.queues stack registers s.cells t)

-- the tracer after the first n records
unfoldable pub singly_through : Setting → (records : List ℕ) → CoreTraceGenerationTracer → (n : ℕ) → CoreTraceGenerationTracer
singly_through s records t zero = t
singly_through s records t (suc k) = single_done s (singly_through s records t k) (call_in (record_at records k))

-- the fragment after the first n records
unfoldable pub singly_written : Setting → (records : List ℕ) → CoreTraceGenerationTracer → List ℕ → (n : ℕ) → List ℕ
singly_written s records t fragment zero = fragment
singly_written s records t fragment (suc k) =
    single_written s (singly_through s records t k) (call_in (record_at records k)) (singly_written s records t fragment k)
