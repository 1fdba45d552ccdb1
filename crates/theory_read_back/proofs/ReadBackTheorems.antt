-- Demand 3 in one place, and beside it that no SYSCALL is written, what tallies tell and add up to, the overflow rule of every row written, and
-- that one run written at two fragment sizes has the same cells. `ReadsTrace` is the contract of `read_trace`: what it may tell of a buffer and leave in the lent depth
-- numbers, by `Right`, which says of an answer that it is right, by document 01.
use mathlib.Core.Path.{◌≡◌, ap}
use mathlib.Core.List.{List}
use mathlib.Core.Logic.{◌↔◌}
use Prim.Native.Nat.{ℕ, ◌*◌, ◌/◌, ◌≤◌, ◌<◌}
use lib.ListN.{length}
use Rattle.rows.specs.declared.records.profile.Profile.{Profile}
use Rattle.rows.specs.records.Forests.{Forest}
use Rattle.rows.specs.records.Addresses.{Queues}
use Rattle.rows.specs.records.Buffers.{buffer_row, on_rows}
use Rattle.rows.specs.passes.Passes.{multiplied, sum_of, refusal2}
use Rattle.rows.specs.declared.records.address_state.Cursor.{Cursor}
use Rattle.theory_readings.specs.Readings.{Block, program_rows, Trace}
use Rattle.theory_readings.specs.Answers.{ReaderAnswer, accepted, Right}
use Rattle.theory_readings.proofs.OneReading as readings
use Rattle.reader.specs.Reads.{ReadsTrace}
use Rattle.reader.specs.Reads.{TraceRead, told_trace}
use Rattle.reader.proofs.trace.read_trace.Reads as read_trace
use Rattle.reader.proofs.ReaderExact.{one-read, some_read, is-right-answer, reads-tree, reads_as, reads-exactly}
use Rattle.theory_runs.specs.Calls.{Handed, Call, finish, Fragment, opened, call_refusal, AllAccepted, final_states, cells_of, counts_of, built_cells, OneSize}
use Rattle.theory_runs.specs.Happened.{cycles_of}
use Rattle.theory_runs.specs.SameCalls.{all_calls, Cut}
use Rattle.theory_runs.specs.Finished.{Runs, nesting, written_by_five, written_by_finisher, FivePass, FinisherPasses, WrittenOf}
use Rattle.theory_runs.specs.LiveCalls.{LiveFragment, plain_all, live_refusal, live_opened, AllLiveAccepted, live_ends, live_finals, LentAsZeros, FreshFragment, fresh_end, fresh_ends}
use Rattle.theory_runs.specs.LiveFinished.{SameAsPlain, live_by_five, live_by_finisher, LiveFivePass, LiveFinisherPasses, LiveCut, LiveWrittenOf}
use Rattle.theory_runs.specs.TallyClaims.{TallyTells, over_fragments, rows_of_all, NoneEmpty, HoldsDecoders, CountsSet}
use Rattle.theory_runs.specs.Overflow.{OverflowRule, DepthInRange, AllDepths32}
use Rattle.theory_runs.specs.WithoutSyscall.{NoSyscallStarts, WithoutSyscall, NoSyscallRows}
use Rattle.theory_runs.proofs.TraceOfRun.{finisher-trace, five-trace}
use Rattle.theory_runs.proofs.LiveRuns as lives
use Rattle.theory_runs.proofs.LiveTraces as lives-finished
use Rattle.theory_runs.proofs.TallyTheorems as tellings
use Rattle.theory_runs.proofs.TallySums as sums
use Rattle.theory_runs.proofs.ReadRun as runs
use Rattle.theory_runs.proofs.OverflowTheorems.{finisher-overflow, five-overflow, finisher-depths, five-depths}
use Rattle.theory_runs.proofs.OneNesting.{one-tree-ran}
use Rattle.theory_runs.proofs.NoSyscalls.{none-started, none-nested, none-in-rows}
use Rattle.theory_runs.proofs.AnySize.{first-cycle-refused, same-cycles, runs-cut, written-length, same-written}
use Rattle.theory_runs.proofs.LiveCuts.{live-first-cycle-refused, plain-cut, plain-written}
use Rattle.theory_read_back.specs.ReadBack.{ReadAs, CountsPasses, ReadBack}
use Rattle.theory_read_back.specs.ReplayedRuns.{Lent, all_numbers, recorded_calls, fragments_of, AllReplayed, counts_replayed, built_replayed, cells_replayed, ReplayedRuns, records_nesting, finished_replay, ReplayFinishes, five_passed_replay, ReplayFivePass, ReplayCut, ReplayWrittenOf}
use Rattle.theory_read_back.proofs.ReadTraceCall.{learns}
use Rattle.theory_read_back.proofs.LoopRows.{counts-passes}
use Rattle.theory_read_back.proofs.ReplayedCalls.{replayed-accepted, replayed-counts, replayed-built, replayed-cells}
use Rattle.theory_read_back.proofs.CutReplays.{records-cut, records-written, replay-runs-cut}
use Rattle.theory_read_back.proofs.Replays.{run-of-records, replay-finisher-trace, replay-five-trace, replay-finisher-overflow, replay-five-overflow}

-- EVERY BUFFER

-- of every profile, buffer and list of depth numbers there is one thing that `read_trace` may tell and one list that it may leave
pub one-result : (p : Profile) (cells depths : List ℕ) →
    ((told : TraceRead) × (left : List ℕ) × ReadsTrace p cells depths told left)
    × ((told told' : TraceRead) (left left' : List ℕ) → ReadsTrace p cells depths told left → ReadsTrace p cells depths told' left' → (told ≡ told') × (left ≡ left'))
one-result p cells depths = (some_read p cells depths, one-read p cells depths)

-- "The reader .. accepts a buffer, whatever cells it holds, exactly when it is a trace as document 01 defines it": the answer is the one right
-- answer; with a depth number for each row (fewer is 11) the number told is 0 exactly for a trace, and a tree is accepted exactly where it is
-- the reading
pub reader-exact : (p : Profile) (cells depths : List ℕ) (told : TraceRead) (left : List ℕ) (reads : ReadsTrace p cells depths told left) →
    Right p cells (length depths) reads.answered
    × ((a : ReaderAnswer) → Right p cells (length depths) a → reads.answered ≡ a)
    × (length cells / 49 ≤ length depths → (told.refusal ≡ 0) ↔ ((b : Block) × Trace p cells b))
    × ((b : Block) → length cells / 49 ≤ length depths → (reads.answered ≡ accepted b) ↔ Trace p cells b)
reader-exact p cells depths told left reads = (
  reads.is_right,
  is-right-answer p cells depths told left reads,
  reads-exactly p cells depths told left reads,
  λ b enough. reads-tree p cells depths told left reads enough b,
)

-- "a trace has exactly one reading"
pub one_reading : (p : Profile) (cells : List ℕ) (b b' : Block) → Trace p cells b → Trace p cells b' → b ≡ b'
one_reading p cells b b' = readings.one_reading p cells b b'

-- "and the reader's answers (the number of program rows and each row's depth) are those of that reading"
pub answers-of-reading : (p : Profile) (cells depths : List ℕ) (told : TraceRead) (left : List ℕ) (reads : ReadsTrace p cells depths told left) (b : Block) →
    length cells / 49 ≤ length depths → Trace p cells b → ReadAs p cells depths told left reads b
answers-of-reading p cells depths told left reads b enough t =
    let (e, d) = reads_as p cells depths told left reads enough b t in
    record {
      accepts = (reads-tree p cells depths told left reads enough b).1 t;
      refusal_is = ap (λ (r : TraceRead). r.refusal) e;
      row_is = ap (λ (r : TraceRead). r.row) e;
      rows_are = ap (λ (r : TraceRead). r.program_rows) e;
      depths_are = d;
    }

-- "each LOOP row's count is the number of passes of its body": in every trace, so in each that is written
pub counts-are-passes : (p : Profile) (cells : List ℕ) (b : Block) → Trace p cells b → CountsPasses p cells b
counts-are-passes = counts-passes

-- all of it
pub read_back : (p : Profile) (cells : List ℕ) (b : Block) → Trace p cells b → ReadBack p cells b
read_back p cells b t = record {
  is_trace = t;
  one_reading = λ b' t'. one_reading p cells b' b t' t;
  read = λ depths enough told left reads. answers-of-reading p cells depths told left reads b enough t;
  counts = counts-are-passes p cells b t;
}

-- EVERY CALL

-- of `read_trace` itself, whose code meets its contract (`meets-contract`): whatever profile, cells and depth numbers a are passed, the result r
-- and what s has at exit are as above
pub call-exact : (κs : _) (a : _) (r : _) (s : _) → read_trace.Learnt κs a r s → length a.1.0.now / 49 ≤ length a.1.1.0.now →
    ((told_trace r).refusal ≡ 0) ↔ ((b : Block) × Trace a.0 a.1.0.now b)
call-exact κs a r s call enough = (reader-exact a.0 a.1.0.now a.1.1.0.now (told_trace r) s.1.1.0.now (learns κs a r s call)).2 enough

pub call-read : (κs : _) (a : _) (r : _) (s : _) (call : read_trace.Learnt κs a r s) (b : Block) → length a.1.0.now / 49 ≤ length a.1.1.0.now →
    ReadBack a.0 a.1.0.now b → ReadAs a.0 a.1.0.now a.1.1.0.now (told_trace r) s.1.1.0.now (learns κs a r s call) b
call-read κs a r s call b enough back = back.read a.1.1.0.now enough (told_trace r) s.1.1.0.now (learns κs a r s call)

-- WHAT WE WRITE

-- "For every list of storings, cycles and final states .. what is then written is such a trace, its reading is the nesting of blocks and
-- operations that ran, taken from the calls alone, and each LOOP row's count is the number of passes of its body", with the premises `Runs`,
-- and where no pass is refused
module _ (p : Profile) (q : Queues) (size : ℕ) (fragments : List Fragment) (here : Cursor) (run : Runs p q size fragments here) where
  -- by the finisher
  pub written_read : (others top : List ℕ) (height : ℕ) → FinisherPasses p q size fragments here others top height → ReadBack p (written_by_finisher p q size fragments here others top height) (nesting run)
  written_read others top height e = read_back p _ _ (finisher-trace p q size fragments here run others top height e)

  -- by the five calls, one after another
  pub written-by-five-read : (others top : List ℕ) (height : ℕ) → FivePass p q size fragments here others top height → ReadBack p (written_by_five p q size fragments here others top height) (nesting run)
  written-by-five-read others top height e = read_back p _ _ (five-trace p q size fragments here run others top height e)

  -- its program rows are the cycles
  pub program-rows : program_rows (nesting run) ≡ length (cycles_of q fragments here.at)
  program-rows = runs.program-rows p q size fragments here run

  -- "taken from the calls alone": whatever root, forest and addresses show that the run is proper
  pub one-nesting : (run' : Runs p q size fragments here) → nesting run ≡ nesting run'
  one-nesting run' = one-tree-ran p 0 run.proper run'.proper

-- WITH TALLIES

-- N9: the calls as they are, a tally lent to each cycle, whatever it holds. Where no call is refused the same is done without tallies: no call is
-- refused, and the passes are handed the same final states and cells
pub live-as-calls : (p : Profile) (q : Queues) (fragments : List LiveFragment) (here : Cursor) → AllLiveAccepted p q fragments here → SameAsPlain p q fragments here
live-as-calls = lives.live-as-calls

-- so what is said here of the cells written without tallies is so of those written with them: `Q` is any of it
module _ (p : Profile) (q : Queues) (size : ℕ) (fragments : List LiveFragment) (here : Cursor) (none_refused : AllLiveAccepted p q fragments here) (others top : List ℕ) (height : ℕ) (Q : List ℕ → Type 0) where
  pub live_written : (FinisherPasses p q size (plain_all fragments) here others top height → Q (written_by_finisher p q size (plain_all fragments) here others top height)) →
      LiveFinisherPasses p q size fragments here others top height → Q (live_by_finisher p q size fragments here others top height)
  live_written = lives-finished.live_written p q size fragments here none_refused others top height Q

  pub live-written-by-five : (FivePass p q size (plain_all fragments) here others top height → Q (written_by_five p q size (plain_all fragments) here others top height)) →
      LiveFivePass p q size fragments here others top height → Q (live_by_five p q size fragments here others top height)
  live-written-by-five = lives-finished.live-written-by-five p q size fragments here none_refused others top height Q

-- it is read back
module _ (p : Profile) (q : Queues) (size : ℕ) (fragments : List LiveFragment) (here : Cursor) (run : Runs p q size (plain_all fragments) here) (none_refused : AllLiveAccepted p q fragments here) where
  pub live-read : (others top : List ℕ) (height : ℕ) → LiveFinisherPasses p q size fragments here others top height → ReadBack p (live_by_finisher p q size fragments here others top height) (nesting run)
  live-read others top height =
      live_written p q size fragments here none_refused others top height (λ cells. ReadBack p cells (nesting run)) (written_read p q size (plain_all fragments) here run others top height)

  pub live-by-five-read : (others top : List ℕ) (height : ℕ) → LiveFivePass p q size fragments here others top height → ReadBack p (live_by_five p q size fragments here others top height) (nesting run)
  live-by-five-read others top height =
      live-written-by-five p q size fragments here none_refused others top height (λ cells. ReadBack p cells (nesting run)) (written-by-five-read p q size (plain_all fragments) here run others top height)

-- "Lent as zeros to a fresh tracer, with one profile and nobody else storing to it or the rows, the tally holds after every cycle, for the rows
-- written so far in this fragment, exactly each successor address of a flagged END, with its number, in order of first appearance": after any
-- calls, refused or not
pub tally-told : (p : Profile) (fragment : FreshFragment) → TallyTells p (fresh_end p fragment)
tally-told = tellings.tally-told

-- "The fragments' tallies, with 1 more for each flagged END that ends a fragment and has its successor in the next, must add up to every count it
-- sets": of pass 2 by itself, whatever fragments on fresh tracers with tallies of zeros, each with rows, whose decoder cells stand one after
-- another in the buffer (pass 1 leaves them as they are)
pub tallies-add-up : (p : Profile) (fragments : List FreshFragment) (buffer : List ℕ) → NoneEmpty (fresh_ends p fragments) → HoldsDecoders buffer (rows_of_all (fresh_ends p fragments)) →
    refusal2 p buffer (length (rows_of_all (fresh_ends p fragments))) ≡ 0 →
    CountsSet p (over_fragments p (fresh_ends p fragments)) (length (rows_of_all (fresh_ends p fragments))) (on_rows (length (rows_of_all (fresh_ends p fragments))) (multiplied p) buffer)
tallies-add-up = sums.tallies-add-up

-- and of what is then written, where no call and no pass is refused. No proper run is asked for
module _ (p : Profile) (q : Queues) (size : ℕ) (fragments : List LiveFragment) (here : Cursor) (zeros : LentAsZeros fragments) (none_refused : AllLiveAccepted p q fragments here) (one_size : OneSize size (plain_all fragments) (counts_of (live_finals (live_ends p q fragments here)))) where
  pub tallies-add-up-finished : (others top : List ℕ) (height : ℕ) → LiveFinisherPasses p q size fragments here others top height →
      CountsSet p (over_fragments p (live_ends p q fragments here)) (sum_of (counts_of (live_finals (live_ends p q fragments here)))) (live_by_finisher p q size fragments here others top height)
  tallies-add-up-finished others top height = sums.tallies-add-up-finished p q size fragments here zeros none_refused others top height one_size

  pub tallies-add-up-five : (others top : List ℕ) (height : ℕ) → LiveFivePass p q size fragments here others top height →
      CountsSet p (over_fragments p (live_ends p q fragments here)) (sum_of (counts_of (live_finals (live_ends p q fragments here)))) (live_by_five p q size fragments here others top height)
  tallies-add-up-five others top height = sums.tallies-add-up-five p q size fragments here zeros none_refused others top height one_size

-- OVER REPLAY

-- replays, none refused, are the calls of their records, none refused: the same counts, built cells and fragments, each fragment at the
-- address state and positions that the one before answered
pub replay-as-calls : (p : Profile) (f : Forest) (directory : List ℕ) (q : Queues) (lents : List Lent) (here : Cursor) → AllReplayed p f directory q lents here →
    AllAccepted p q (fragments_of f directory lents) here
    × (counts_replayed p f directory q lents here ≡ counts_of (final_states p q (fragments_of f directory lents) here))
    × (built_replayed p f directory q lents here ≡ built_cells (final_states p q (fragments_of f directory lents) here))
    × (cells_replayed p f directory q lents here ≡ cells_of p q (fragments_of f directory lents) here)
replay-as-calls p f directory q lents here h = (
  replayed-accepted p f directory q lents here h,
  replayed-counts p f directory q lents here h,
  replayed-built p f directory q lents here h,
  replayed-cells p f directory q lents here h,
)

-- what is finished over them is read as the nesting of the records
module _ (p : Profile) (f : Forest) (directory : List ℕ) (q : Queues) (size : ℕ) (lents : List Lent) (here : Cursor) (run : ReplayedRuns p f directory q size lents here) where
  pub replay-read : (others top : List ℕ) (height : ℕ) → ReplayFinishes p f directory q size lents here others top height → ReadBack p (finished_replay p f directory q size lents here others top height) (records_nesting p f directory q run)
  replay-read others top height e = read_back p _ _ (replay-finisher-trace p f directory q size lents here run others top height e)

  pub replay-by-five-read : (others top : List ℕ) (height : ℕ) → ReplayFivePass p f directory q size lents here others top height → ReadBack p (five_passed_replay p f directory q size lents here others top height) (records_nesting p f directory q run)
  replay-by-five-read others top height e = read_back p _ _ (replay-five-trace p f directory q size lents here run others top height e)

  -- its program rows are the cycles of the records
  pub replay-program-rows : program_rows (records_nesting p f directory q run) ≡ length (cycles_of q (fragments_of f directory lents) here.at)
  unfolding run-of-records
  replay-program-rows = runs.program-rows p q size (fragments_of f directory lents) here (run-of-records p f directory q size lents here run)

  -- the nesting is taken from the records alone
  pub replay-one-nesting : (run' : ReplayedRuns p f directory q size lents here) → records_nesting p f directory q run ≡ records_nesting p f directory q run'
  replay-one-nesting run' = one-tree-ran p 0 run.proper run'.proper

-- WITHOUT SYSCALL

-- N8: "the theorem about traces we write covers runs without it": where no call is refused, no cycle starts a SYSCALL node. No proper run is
-- asked for
pub no-syscall-started : (p : Profile) (q : Queues) (fragments : List Fragment) (here : Cursor) → AllAccepted p q fragments here → NoSyscallStarts (cycles_of q fragments here.at)
no-syscall-started = none-started

-- so the nesting of a run has no SYSCALL Block, and "Starting such a node is no longer written": no row of what is written is a SYSCALL row
module _ (p : Profile) (q : Queues) (size : ℕ) (fragments : List Fragment) (here : Cursor) (run : Runs p q size fragments here) where
  pub no-syscall-nested : WithoutSyscall (nesting run)
  no-syscall-nested = none-nested p q size fragments here run

  pub no-syscall-written : (others top : List ℕ) (height : ℕ) → FinisherPasses p q size fragments here others top height → NoSyscallRows p (written_by_finisher p q size fragments here others top height)
  no-syscall-written others top height e = none-in-rows p _ (nesting run) (finisher-trace p q size fragments here run others top height e) no-syscall-nested

  pub no-syscall-written-by-five : (others top : List ℕ) (height : ℕ) → FivePass p q size fragments here others top height → NoSyscallRows p (written_by_five p q size fragments here others top height)
  no-syscall-written-by-five others top height e = none-in-rows p _ (nesting run) (five-trace p q size fragments here run others top height e) no-syscall-nested

-- over replay
pub replay-no-syscall-started : (p : Profile) (f : Forest) (directory : List ℕ) (q : Queues) (lents : List Lent) (here : Cursor) → AllReplayed p f directory q lents here →
    NoSyscallStarts (cycles_of q (fragments_of f directory lents) here.at)
replay-no-syscall-started p f directory q lents here h = none-started p q (fragments_of f directory lents) here (replayed-accepted p f directory q lents here h)

module _ (p : Profile) (f : Forest) (directory : List ℕ) (q : Queues) (size : ℕ) (lents : List Lent) (here : Cursor) (run : ReplayedRuns p f directory q size lents here) where
  pub replay-no-syscall-nested : WithoutSyscall (records_nesting p f directory q run)
  unfolding run-of-records
  replay-no-syscall-nested = none-nested p q size (fragments_of f directory lents) here (run-of-records p f directory q size lents here run)

  pub replay-no-syscall-written : (others top : List ℕ) (height : ℕ) → ReplayFinishes p f directory q size lents here others top height → NoSyscallRows p (finished_replay p f directory q size lents here others top height)
  replay-no-syscall-written others top height e = none-in-rows p _ _ (replay-finisher-trace p f directory q size lents here run others top height e) replay-no-syscall-nested

  pub replay-no-syscall-written-by-five : (others top : List ℕ) (height : ℕ) → ReplayFivePass p f directory q size lents here others top height → NoSyscallRows p (five_passed_replay p f directory q size lents here others top height)
  replay-no-syscall-written-by-five others top height e = none-in-rows p _ _ (replay-five-trace p f directory q size lents here run others top height e) replay-no-syscall-nested

-- THE OVERFLOW RULE

-- N4: "A customer checked the overflow rule of the operand stack chapter on every row". Of all fragments on fresh tracers, full but for the last,
-- with no call and no pass refused (no proper run is asked for), in each of the first height rows: helper × (b0 − 16) is 1 modulo p where b0 is
-- above 16, and the helper is 0 where it is 16
module _ (p : Profile) (q : Queues) (size : ℕ) (fragments : List Fragment) (here : Cursor) (none_refused : AllAccepted p q fragments here) (one_size : OneSize size fragments (counts_of (final_states p q fragments here))) where
  -- after the finisher
  pub written-overflow : (others top : List ℕ) (height : ℕ) → FinisherPasses p q size fragments here others top height →
      (i : ℕ) → i < height → OverflowRule (buffer_row i (written_by_finisher p q size fragments here others top height))
  written-overflow = finisher-overflow p q size fragments here none_refused one_size

  -- after the five calls, one after another
  pub written-by-five-overflow : (others top : List ℕ) (height : ℕ) → FivePass p q size fragments here others top height →
      (i : ℕ) → i < height → OverflowRule (buffer_row i (written_by_five p q size fragments here others top height))
  written-by-five-overflow = five-overflow p q size fragments here none_refused one_size

  -- and no row is left out by it: b0 is 16 or more, and of 32 bits as the depths of the cycles are
  pub written-depths : AllDepths32 fragments → (others top : List ℕ) (height : ℕ) → FinisherPasses p q size fragments here others top height →
      (i : ℕ) → i < height → DepthInRange (buffer_row i (written_by_finisher p q size fragments here others top height))
  written-depths depths others top height = finisher-depths p q size fragments here none_refused one_size others top height depths

  pub written-by-five-depths : AllDepths32 fragments → (others top : List ℕ) (height : ℕ) → FivePass p q size fragments here others top height →
      (i : ℕ) → i < height → DepthInRange (buffer_row i (written_by_five p q size fragments here others top height))
  written-by-five-depths depths others top height = five-depths p q size fragments here none_refused one_size others top height depths

-- over replay, where a record's depth is of 32 bits or refused
module _ (p : Profile) (f : Forest) (directory : List ℕ) (q : Queues) (size : ℕ) (lents : List Lent) (here : Cursor) (replays : AllReplayed p f directory q lents here) (one_size : OneSize size (fragments_of f directory lents) (counts_replayed p f directory q lents here)) where
  pub replay-overflow : (others top : List ℕ) (height : ℕ) → ReplayFinishes p f directory q size lents here others top height →
      (i : ℕ) → i < height → OverflowRule (buffer_row i (finished_replay p f directory q size lents here others top height)) × DepthInRange (buffer_row i (finished_replay p f directory q size lents here others top height))
  replay-overflow = replay-finisher-overflow p f directory q size lents here replays one_size

  pub replay-by-five-overflow : (others top : List ℕ) (height : ℕ) → ReplayFivePass p f directory q size lents here others top height →
      (i : ℕ) → i < height → OverflowRule (buffer_row i (five_passed_replay p f directory q size lents here others top height)) × DepthInRange (buffer_row i (five_passed_replay p f directory q size lents here others top height))
  replay-by-five-overflow = replay-five-overflow p f directory q size lents here replays one_size

-- ANY FRAGMENT SIZE

-- N11: "Show that one proper run, cut by two sizes and finished to the same height, gives the same cells in the first height rows. The premises:
-- no call refuses in either, nobody else stores to the rows until the passes are done .., and the first stack top is the same." The calls are one
-- list, cut in two ways (`Cut`: each way has all fragments of its own size with only the last one short, and no call is refused), with one
-- profile, the same queues, and one address state and queue positions to begin with; the passes work on what the calls left, none is refused, and
-- they are the finisher's or the five calls', in either way (`WrittenOf`). Nothing else is asked: the run need not be proper, nor LOOP addresses
-- different, nor blocks at most 64 deep, and what the fragments and the buffer held before are any numbers
module _ (p : Profile) (q : Queues) (calls : List Call) (size size' : ℕ) (fragments fragments' : List Fragment) (here : Cursor) (cut : Cut p q calls size fragments here) (cut' : Cut p q calls size' fragments' here) where
  pub any-size : (top : List ℕ) (height : ℕ) (cells cells' : List ℕ) → WrittenOf p q size fragments here top height cells → WrittenOf p q size' fragments' here top height cells' → cells ≡ cells'
  any-size top height cells cells' = same-written p q calls size size' fragments fragments' here cut cut' top height

-- these are height rows
pub written-rows : (p : Profile) (q : Queues) (calls : List Call) (size : ℕ) (fragments : List Fragment) (here : Cursor) → Cut p q calls size fragments here →
    (top : List ℕ) (height : ℕ) (cells : List ℕ) → WrittenOf p q size fragments here top height cells → length cells ≡ 49 * height
written-rows p q calls size fragments here cut top height cells = written-length p q calls size fragments here cut top height

-- a cycle that is the first call of its fragment is refused, so a cut before a cycle that reuses what is stored is outside; the smallest example
-- is theory_runs/proofs/ExampleCuts
pub reuse-refused : (p : Profile) (q : Queues) (here : Cursor) (fragment : Fragment) (i : Handed) → call_refusal p q (opened p q here fragment) (finish i) ≡ 23
reuse-refused = first-cycle-refused

-- "one proper run": what the cycles did is the same in every cut of the calls where none is refused
pub cycles-any-size : (p : Profile) (q : Queues) (fragments fragments' : List Fragment) (here : Cursor) → all_calls fragments ≡ all_calls fragments' →
    AllAccepted p q fragments here → AllAccepted p q fragments' here → cycles_of q fragments here.at ≡ cycles_of q fragments' here.at
cycles-any-size = same-cycles

-- so a run that meets demand 3's premises meets them in every such cut by a size, and its nesting is the same: either file is read back as that
-- nesting
pub proper-any-size : (p : Profile) (q : Queues) (size size' : ℕ) (fragments fragments' : List Fragment) (here : Cursor) (run : Runs p q size fragments here) → Cut p q (all_calls fragments) size' fragments' here →
    (run' : Runs p q size' fragments' here) × (nesting run' ≡ nesting run)
proper-any-size = runs-cut

-- with tallies. "The 256-address tally is outside this comparison": nothing is said of what the tallies hold. Calls with tallies that are cut by a
-- size are the calls without, cut by that size, and what is written of the ones is written of the others
module _ (p : Profile) (q : Queues) (size : ℕ) (fragments : List LiveFragment) (here : Cursor) where
  pub live-cut : (calls : List Call) → LiveCut p q calls size fragments here → Cut p q calls size (plain_all fragments) here
  live-cut = plain-cut p q size fragments here

  pub live-written-as : AllLiveAccepted p q fragments here → (top : List ℕ) (height : ℕ) (cells : List ℕ) →
      LiveWrittenOf p q size fragments here top height cells → WrittenOf p q size (plain_all fragments) here top height cells
  live-written-as = plain-written p q size fragments here

module _ (p : Profile) (q : Queues) (calls : List Call) (size size' : ℕ) (fragments fragments' : List LiveFragment) (here : Cursor) (cut : LiveCut p q calls size fragments here) (cut' : LiveCut p q calls size' fragments' here) where
  pub live-any-size : (top : List ℕ) (height : ℕ) (cells cells' : List ℕ) → LiveWrittenOf p q size fragments here top height cells → LiveWrittenOf p q size' fragments' here top height cells' → cells ≡ cells'
  live-any-size top height cells cells' written written' =
      any-size p q calls size size' (plain_all fragments) (plain_all fragments') here (live-cut p q size fragments here calls cut) (live-cut p q size' fragments' here calls cut') top height cells cells'
      (live-written-as p q size fragments here cut.accepted top height cells written) (live-written-as p q size' fragments' here cut'.accepted top height cells' written')

pub live-reuse-refused : (p : Profile) (q : Queues) (here : Cursor) (fragment : LiveFragment) (i : Handed) → live_refusal p q (live_opened p q here fragment) (finish i) ≡ 23
live-reuse-refused = live-first-cycle-refused

-- over replay: the same records, cut in two ways. Records that are cut by a size are their calls, cut by that size
module _ (p : Profile) (f : Forest) (directory : List ℕ) (q : Queues) (size : ℕ) (lents : List Lent) (here : Cursor) where
  pub replay-cut : (numbers : List ℕ) → ReplayCut p f directory q numbers size lents here → Cut p q (recorded_calls f directory numbers) size (fragments_of f directory lents) here
  replay-cut = records-cut p f directory q size lents here

  pub replay-written-as : AllReplayed p f directory q lents here → (top : List ℕ) (height : ℕ) (cells : List ℕ) →
      ReplayWrittenOf p f directory q size lents here top height cells → WrittenOf p q size (fragments_of f directory lents) here top height cells
  replay-written-as = records-written p f directory q size lents here

module _ (p : Profile) (f : Forest) (directory : List ℕ) (q : Queues) (numbers : List ℕ) (size size' : ℕ) (lents lents' : List Lent) (here : Cursor) (cut : ReplayCut p f directory q numbers size lents here) (cut' : ReplayCut p f directory q numbers size' lents' here) where
  pub replay-any-size : (top : List ℕ) (height : ℕ) (cells cells' : List ℕ) → ReplayWrittenOf p f directory q size lents here top height cells → ReplayWrittenOf p f directory q size' lents' here top height cells' → cells ≡ cells'
  replay-any-size top height cells cells' written written' =
      any-size p q (recorded_calls f directory numbers) size size' (fragments_of f directory lents) (fragments_of f directory lents') here
      (replay-cut p f directory q size lents here numbers cut) (replay-cut p f directory q size' lents' here numbers cut') top height cells cells'
      (replay-written-as p f directory q size lents here cut.replays top height cells written) (replay-written-as p f directory q size' lents' here cut'.replays top height cells' written')

pub replay-proper-any-size : (p : Profile) (f : Forest) (directory : List ℕ) (q : Queues) (size size' : ℕ) (lents lents' : List Lent) (here : Cursor) (run : ReplayedRuns p f directory q size lents here) →
    ReplayCut p f directory q (all_numbers lents) size' lents' here →
    (run' : ReplayedRuns p f directory q size' lents' here) × (records_nesting p f directory q run' ≡ records_nesting p f directory q run)
replay-proper-any-size = replay-runs-cut

-- the one with the other: calls with tallies, and the same calls as records
module _ (p : Profile) (f : Forest) (directory : List ℕ) (q : Queues) (numbers : List ℕ) (size size' : ℕ) (fragments : List LiveFragment) (lents : List Lent) (here : Cursor) (cut : LiveCut p q (recorded_calls f directory numbers) size fragments here) (cut' : ReplayCut p f directory q numbers size' lents here) where
  pub live-replay-any-size : (top : List ℕ) (height : ℕ) (cells cells' : List ℕ) → LiveWrittenOf p q size fragments here top height cells → ReplayWrittenOf p f directory q size' lents here top height cells' → cells ≡ cells'
  live-replay-any-size top height cells cells' written written' =
      any-size p q (recorded_calls f directory numbers) size size' (plain_all fragments) (fragments_of f directory lents) here
      (live-cut p q size fragments here (recorded_calls f directory numbers) cut) (replay-cut p f directory q size' lents here numbers cut') top height cells cells'
      (live-written-as p q size fragments here cut.accepted top height cells written) (replay-written-as p f directory q size' lents here cut'.replays top height cells' written')
