-- What a reader answers for a trace that is written of a proper run: the nesting that ran, and as many program rows as there are cycles.
use mathlib.Core.Path.{◌≡◌, ◌∙◌, refl, sym, ap}
use mathlib.Core.List.{List, [], ◌∷◌, ◌++◌, append-nil}
use Prim.Native.Nat.{ℕ, suc, ◌*◌, ◌/◌, ◌≤◌}
use native.Mathlib.Omega.{arith}
use lib.ListN.{length, take, length-take}
use Rattle.rows.specs.declared.records.profile.Profile.{Profile}
use Rattle.rows.specs.declared.records.address_state.DecoderState.{DecoderState}
use Rattle.rows.specs.records.Addresses.{Queues}
use Rattle.rows.specs.declared.records.address_state.Cursor.{Cursor}
use Rattle.theory_readings.specs.Readings.{Row, numbered, program_rows}
use Rattle.theory_readings.specs.Answers.{accepted, Right}
use Rattle.theory_readings.proofs.SpelledRows.{numbered-length}
use Rattle.theory_readings.proofs.AcceptedTraces.{trace-accepted}
use Rattle.theory_runs.specs.Calls.{Fragment}
use Rattle.theory_runs.specs.Happened.{Cycle, cycles_of}
use Rattle.theory_runs.specs.Finished.{Runs, nesting, buffer5, finisher_buffer, run_counts, run_built, run_buffer, written_by_five, written_by_finisher, FivePass, FinisherPasses}
use Rattle.theory_runs.proofs.CycleLaws.{state_after}
use Rattle.theory_runs.proofs.Looks.{Seen, seen, laid}
use Rattle.theory_runs.proofs.Spelled.{tokens_in, at, run-spell}
use Rattle.theory_runs.proofs.TraceOfRun.{finisher-trace, five-trace}

tokens-length : (l : List Seen) → length (tokens_in l) ≡ length l
unfolding tokens_in
tokens-length [] = refl
tokens-length (seen token addr mark ∷ l) = ap suc (tokens-length l)

laid-length : (p : Profile) (cycles : List Cycle) (state : DecoderState) → length (laid p cycles state) ≡ length cycles
unfolding laid
laid-length p [] state = refl
laid-length p (c ∷ cycles) state = ap suc (laid-length p cycles (state_after p c.1 state))

pub short : (n : ℕ) (l : List ℕ) → length (take (49 * n) l) / 49 ≤ n
short n l = omega (arith, length-take (49 * n) l)

module _ (p : Profile) (q : Queues) (size : ℕ) (fragments : List Fragment) (here : Cursor) (runs : Runs p q size fragments here) where
  -- the Block's rows are the cycles
  pub program-rows : program_rows (nesting runs) ≡ length (cycles_of q fragments here.at)
  unfolding program_rows laid tokens_in numbered
  program-rows =
      let shown : List Seen = laid p (cycles_of q fragments here.at) (at 0 0) in
      ap (λ (l : List Row). length l) (sym (run-spell p [] 0 (at 0 0) runs.proper)) ∙ numbered-length (tokens_in (shown ++ [])) 0 ∙ tokens-length (shown ++ [])
      ∙ ap (λ (l : List Seen). length l) (append-nil shown) ∙ laid-length p (cycles_of q fragments here.at) (at 0 0)

  module _ (others top : List ℕ) (height depths : ℕ) (enough : height ≤ depths) where
    -- the one right answer for the trace that the finisher wrote
    pub finisher-read : FinisherPasses p q size fragments here others top height → Right p (written_by_finisher p q size fragments here others top height) depths (accepted (nesting runs))
    finisher-read e =
        trace-accepted p (written_by_finisher p q size fragments here others top height) depths (nesting runs)
        (omega (arith, short height (finisher_buffer p size (run_counts p q size fragments here others top height) (run_built p q size fragments here others top height) top height (run_buffer p q size fragments here others top height))))
        (finisher-trace p q size fragments here runs others top height e)

    -- and for the one that the five calls wrote
    pub five-read : FivePass p q size fragments here others top height → Right p (written_by_five p q size fragments here others top height) depths (accepted (nesting runs))
    five-read five =
        trace-accepted p (written_by_five p q size fragments here others top height) depths (nesting runs)
        (omega (arith, short height (buffer5 p size (run_counts p q size fragments here others top height) (run_built p q size fragments here others top height) top height (run_buffer p q size fragments here others top height))))
        (five-trace p q size fragments here runs others top height five)
