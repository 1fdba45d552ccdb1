-- Change request N9: the calls of a run whose cycles are lent tallies. Everything that they do is what the contracts of these calls cite; `Calls`
-- has the same without a tally.
use Rattle.std.specs.Prelude.{◌≡◌, List, [], ◌∷◌, ◌++◌, ℕ, ◌*◌, ◌<◌, get_or}
use Rattle.groups.specs.Answer.{Answer, refusal}
use Rattle.rows.specs.declared.records.profile.Profile.{Profile}
use Rattle.rows.specs.declared.cycles.made.MadeRow.{MadeRow}
use Rattle.rows.specs.declared.cycles.tracer.TracerFinalState.{TracerFinalState}
use Rattle.rows.specs.records.Addresses.{Queues}
use Rattle.rows.specs.declared.records.address_state.Cursor.{Cursor}
use Rattle.rows.specs.cycles.Cycles.{fresh, stored_in, tracer_after, fragment_after, final_state}
use Rattle.rows.specs.cycles.LentTally.{most_places, tallied_cycle, tally_after}
use Rattle.theory_runs.specs.Calls.{Handed, Call, store, finish, Fragment, Held, cursor_of}

-- a tracer, its fragment, and the tally
pub record LiveHeld : Type 0 where
  pub held : Held
  pub tally : List ℕ

-- a fresh tracer at an address state and queue positions, with a fragment's cells and a tally
abbrev pub live_fresh : Cursor → (cells tally : List ℕ) → LiveHeld
live_fresh here cells tally = record { held = record { tracer = fresh here.state here.at; cells = cells }; tally = tally }

-- a call; or another tally is lent from here on (so too where someone else stores to it)
pub data LiveCall : Type 0 where
  call : Call → LiveCall
  lend : (tally : List ℕ) → LiveCall

-- the calls of a fragment, the cells that the fragment lent to them held before, and the tally that is lent first
pub record LiveFragment : Type 0 where
  pub calls : List LiveCall
  pub cells : List ℕ
  pub tally : List ℕ

-- the calls and the fragments without their tallies
unfoldable pub plain_calls : List LiveCall → List Call
plain_calls [] = []
plain_calls (call c ∷ calls) = c ∷ plain_calls calls
plain_calls (lend tally ∷ calls) = plain_calls calls

abbrev pub plain_of : LiveFragment → Fragment
plain_of fragment = record { calls = plain_calls fragment.calls; cells = fragment.cells }

unfoldable pub plain_all : List LiveFragment → List Fragment
plain_all [] = []
plain_all (fragment ∷ fragments) = plain_of fragment ∷ plain_all fragments

-- the profile and the queues of a run
module _ (p : Profile) (q : Queues) where
  -- what a cycle answers
  abbrev pub live_answered : LiveHeld → Handed → Answer MadeRow
  live_answered z i = tallied_cycle p i.forest q i.stack i.registers z.tally z.held.cells z.held.tracer

  -- what a call leaves
  unfoldable pub live_after : LiveHeld → Call → LiveHeld
  live_after z (store values) =
      record { held = record { tracer = stored_in z.held.tracer values; cells = z.held.cells }; tally = z.tally }
  live_after z (finish i) = record {
    held = record {
      tracer = tracer_after i.system i.stack z.held.tracer (live_answered z i);
      cells = fragment_after z.held.cells z.held.tracer (live_answered z i);
    };
    tally = tally_after p z.tally z.held.cells z.held.tracer.row_write_index (live_answered z i);
  }

  -- the number that a call answers
  unfoldable pub live_refusal : LiveHeld → Call → ℕ
  live_refusal z (store values) = z.held.tracer.refusal
  live_refusal z (finish i) = refusal (live_answered z i)

  unfoldable pub live_after_all : List LiveCall → LiveHeld → LiveHeld
  live_after_all [] z = z
  live_after_all (call c ∷ calls) z = live_after_all calls (live_after z c)
  live_after_all (lend tally ∷ calls) z = live_after_all calls (record { held = z.held; tally = tally })

  -- no call was refused, the final state neither
  unfoldable pub LiveAccepted : List LiveCall → LiveHeld → Type 0
  LiveAccepted [] z = (final_state z.held.tracer).refusal ≡ 0
  LiveAccepted (call c ∷ calls) z = (live_refusal z c ≡ 0) × LiveAccepted calls (live_after z c)
  LiveAccepted (lend tally ∷ calls) z = LiveAccepted calls (record { held = z.held; tally = tally })

  abbrev pub live_opened : Cursor → LiveFragment → LiveHeld
  live_opened here fragment = live_fresh here fragment.cells fragment.tally

  abbrev pub live_closed : Cursor → LiveFragment → LiveHeld
  live_closed here fragment = live_after_all fragment.calls (live_opened here fragment)

  abbrev pub live_cursor : Cursor → LiveFragment → Cursor
  live_cursor here fragment = cursor_of p q (live_closed here fragment).held

  unfoldable pub AllLiveAccepted : List LiveFragment → Cursor → Type 0
  AllLiveAccepted [] here = Unit {0}
  AllLiveAccepted (fragment ∷ fragments) here =
      LiveAccepted fragment.calls (live_opened here fragment) × AllLiveAccepted fragments (live_cursor here fragment)

  -- what the fragments end with
  unfoldable pub live_ends : List LiveFragment → Cursor → List LiveHeld
  live_ends [] here = []
  live_ends (fragment ∷ fragments) here = live_closed here fragment ∷ live_ends fragments (live_cursor here fragment)

-- the final states of some, and their fragments' cells, one after another
unfoldable pub live_finals : List LiveHeld → List TracerFinalState
live_finals [] = []
live_finals (z ∷ more) = final_state z.held.tracer ∷ live_finals more

unfoldable pub live_cells : List LiveHeld → List ℕ
live_cells [] = []
live_cells (z ∷ more) = z.held.cells ++ live_cells more

-- "Lent as zeros": the 256 places, whatever is behind them
abbrev pub Zeros : (tally : List ℕ) → Type 0
Zeros tally = (i : ℕ) → i < 2 * most_places → get_or tally i 0 ≡ 0

-- "nobody else storing to it"
unfoldable pub NoneLent : List LiveCall → Type 0
NoneLent [] = Unit {0}
NoneLent (call c ∷ calls) = NoneLent calls
NoneLent (lend tally ∷ calls) = ⊥

-- both, of each fragment
unfoldable pub LentAsZeros : List LiveFragment → Type 0
LentAsZeros [] = Unit {0}
LentAsZeros (fragment ∷ fragments) = Zeros fragment.tally × NoneLent fragment.calls × LentAsZeros fragments

-- a call with the queues that it is lent
pub record LentCall : Type 0 where
  pub queues : Queues
  pub called : Call

-- "with one profile and nobody else storing to it or the rows": the queues may be others at each call
unfoldable pub live_after_each : Profile → List LentCall → LiveHeld → LiveHeld
live_after_each p [] z = z
live_after_each p (c ∷ calls) z = live_after_each p calls (live_after p c.queues z c.called)

-- a fragment by itself: a fresh tracer with a tally lent as zeros, and calls, each with queues of its own, refused or not
pub record FreshFragment : Type 0 where
  pub here : Cursor
  pub cells : List ℕ
  pub tally : List ℕ
  pub zeros : Zeros tally
  pub calls : List LentCall

abbrev pub fresh_end : Profile → FreshFragment → LiveHeld
fresh_end p start = live_after_each p start.calls (live_fresh start.here start.cells start.tally)

unfoldable pub fresh_ends : Profile → List FreshFragment → List LiveHeld
fresh_ends p [] = []
fresh_ends p (start ∷ starts) = fresh_end p start ∷ fresh_ends p starts
