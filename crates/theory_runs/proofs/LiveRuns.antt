-- Change request N9: a cycle that is lent a tally and accepted does what it does without one, and so do the calls of a run.
use mathlib.Core.Path.{◌≡◌, ◌∙◌, refl, ap, ap₂}
use mathlib.Core.Bool.{false, not, ◌&&◌, ◌||◌}
use mathlib.Core.List.{List, [], ◌∷◌, ◌++◌}
use Prim.Native.Nat.{ℕ, ◌/◌, ◌≤◌}
use borrow.Author.Tests.{ltb-false}
use lib.Dec.{leb, ltb, eqb}
use lib.ListN.{length}
use Rattle.groups.specs.Answer.{accepted, and_then, refusal}
use Rattle.groups.specs.declared.helpers.OperationHelperRegisters.{OperationHelperRegisters}
use Rattle.rows.specs.declared.records.profile.Profile.{Profile}
use Rattle.rows.specs.declared.records.state.StackState.{StackState}
use Rattle.rows.specs.declared.records.continuation.StoredValues.{StoredValues}
use Rattle.rows.specs.declared.records.continuation.Continuation.{Continuation}
use Rattle.rows.specs.declared.cycles.made.MadeRow.{MadeRow}
use Rattle.rows.specs.declared.cycles.scan.Scan.{Scan}
use Rattle.rows.specs.declared.cycles.tracer.CoreTraceGenerationTracer.{CoreTraceGenerationTracer}
use Rattle.rows.specs.records.Forests.{Forest}
use Rattle.rows.specs.records.Addresses.{Queues}
use Rattle.rows.specs.records.Cells.{fragment_wrong}
use Rattle.rows.specs.cycles.Scans.{scan_of}
use Rattle.rows.specs.declared.records.address_state.Cursor.{Cursor}
use Rattle.rows.specs.cycles.Made.{cursor, made}
use Rattle.rows.specs.cycles.Cycles.{continuation_of, refuse_if, cycle_with, cycle, final_state}
use Rattle.rows.specs.cycles.LentTally.{place_for, cannot_count, counts_next, row_addr, with_tally, unless_full, tallied_cycle}
use Rattle.groups.proofs.Answers.{then-accepted}
use Rattle.groups.proofs.OneGroup.{neither}
use Rattle.theory_reductions.proofs.Accepted.{unrefused}
use Rattle.theory_runs.specs.Calls.{Handed, store, finish, answered, after, call_refusal, after_all, Accepted, closed, cursor_of, AllAccepted, final_states, cells_of}
use Rattle.theory_runs.specs.LiveCalls.{LiveHeld, LiveCall, call, lend, LiveFragment, plain_calls, plain_of, plain_all, live_answered, live_after, live_refusal, live_after_all, LiveAccepted, live_opened, live_closed, live_cursor, AllLiveAccepted, live_ends, live_finals, live_cells}
use Rattle.theory_runs.specs.LiveFinished.{SameAsPlain}
use Rattle.theory_runs.proofs.Answers.{Numbered, accepted-of, then-numbered, if-numbered, cycle-with-numbered}

-- ONE CYCLE

module _ (p : Profile) (f : Forest) (q : Queues) (stack : StackState) (registers : OperationHelperRegisters) where
  -- the checks one by one
  again : (scan : Scan) (cells : ℕ) (t : CoreTraceGenerationTracer) (m : MadeRow) (continuation : Continuation) → not (eqb t.refusal 0) ≡ false → continuation_of t.continuation ≡ accepted continuation →
      scan.big ≡ false → scan.profile_wrong ≡ false → scan.too_large ≡ false → fragment_wrong cells t.row_write_index ≡ false → ltb stack.stack_depth 16 ≡ false →
      and_then (made f q p registers continuation t.is_loop_body t.captured (cursor t.decoder_state t.at)) (λ row. refuse_if (leb (cells / 49) t.row_write_index) 24 (accepted row)) ≡ accepted m →
      cycle_with scan p f q stack registers cells t ≡ accepted m
  unfolding cycle_with
  again scan cells t m continuation kept stored big wrong large lengths depth e = rw (kept, stored, big, wrong, large, lengths, depth) e

  -- the tally's length is one more reason for 11
  without-tally : (scan : Scan) (numbers cells : ℕ) (t : CoreTraceGenerationTracer) (m : MadeRow) → cycle_with (with_tally numbers scan) p f q stack registers cells t ≡ accepted m →
      (cycle_with scan p f q stack registers cells t ≡ accepted m) × (512 ≤ numbers)
  unfolding cycle_with
  without-tally scan numbers cells t m e =
      let (e1, e2) = unrefused (not (eqb t.refusal 0)) t.refusal _ m e in
      let (continuation, e3, e4) = then-accepted (continuation_of t.continuation) _ m e2 in
      let (e5, e6) = unrefused scan.big 1 _ m e4 in
      let (e7, e8) = unrefused scan.profile_wrong 2 _ m e6 in
      let (e9, e10) = unrefused ((scan.too_large || ltb numbers 512) || fragment_wrong cells t.row_write_index) 11 _ m e8 in
      let (e11, e12) = unrefused (ltb stack.stack_depth 16) 10 _ m e10 in
      let (large, wrong) = neither (scan.too_large || ltb numbers 512) _ e9 in
      let (forest, short) = neither scan.too_large _ large in
      (again scan cells t m continuation e1 e3 e5 e7 forest wrong e11 e12, ltb-false numbers 512 short)

  module _ (tally cells : List ℕ) (t : CoreTraceGenerationTracer) where
    -- what a cycle that is lent a tally and accepted comes from
    pub record LiveCame (m : MadeRow) : Type 0 where
      pub plain : cycle p f q stack registers (length cells) t ≡ accepted m
      pub places : 512 ≤ length tally
      pub counts : (counts_next p cells t.row_write_index && cannot_count tally (place_for tally (row_addr m))) ≡ false

    pub live-came : (m : MadeRow) → tallied_cycle p f q stack registers tally cells t ≡ accepted m → LiveCame m
    unfolding tallied_cycle unless_full cycle
    live-came m e =
        let scan : Scan = scan_of p f.nodes f.batches f.ops in
        let (row, e1, e2) = then-accepted (cycle_with (with_tally (length tally) scan) p f q stack registers (length cells) t) _ m e in
        let (e3, e4) = unrefused (counts_next p cells t.row_write_index && cannot_count tally (place_for tally (row_addr row))) 32 (accepted row) m e2 in
        let same : row ≡ m = cc in
        let (plain, places) = without-tally scan (length tally) (length cells) t row e1 in
        record { plain = rw same at plain; places = places; counts = rw same at e3 }

    live-numbered : Numbered (tallied_cycle p f q stack registers tally cells t)
    unfolding tallied_cycle unless_full Numbered
    live-numbered =
        then-numbered (cycle_with (with_tally (length tally) (scan_of p f.nodes f.batches f.ops)) p f q stack registers (length cells) t) _
        (cycle-with-numbered p f q stack registers (length cells) t (with_tally (length tally) (scan_of p f.nodes f.batches f.ops)))
        (λ m. if-numbered (counts_next p cells t.row_write_index && cannot_count tally (place_for tally (row_addr m))) 31 (accepted m) tt)

    pub live-answer : refusal (tallied_cycle p f q stack registers tally cells t) ≡ 0 → (m : MadeRow) × (tallied_cycle p f q stack registers tally cells t ≡ accepted m)
    live-answer e = accepted-of (tallied_cycle p f q stack registers tally cells t) live-numbered e

-- THE CALLS

module _ (p : Profile) (q : Queues) where
  abbrev CameOf : LiveHeld → Handed → MadeRow → Type 0
  CameOf z i m = LiveCame p i.forest q i.stack i.registers z.tally z.held.cells z.held.tracer m

  pub came-live : (z : LiveHeld) (i : Handed) (m : MadeRow) → live_answered p q z i ≡ accepted m → CameOf z i m
  came-live z i m e = live-came p i.forest q i.stack i.registers z.tally z.held.cells z.held.tracer m e

  -- an accepted cycle writes what the cycle without a tally writes
  pub live_same : (z : LiveHeld) (i : Handed) (m : MadeRow) → live_answered p q z i ≡ accepted m →
      (answered p q z.held i ≡ accepted m) × ((live_after p q z (finish i)).held ≡ after p q z.held (finish i))
  unfolding live_after after
  live_same z i m e = let c = came-live z i m e in (c.plain, rw (e, c.plain))

  live-stored : (z : LiveHeld) (values : StoredValues) → (live_after p q z (store values)).held ≡ after p q z.held (store values)
  unfolding live_after after
  live-stored z values = refl

  -- whatever tallies are lent
  pub live-calls : (calls : List LiveCall) (z : LiveHeld) → LiveAccepted p q calls z →
      Accepted p q (plain_calls calls) z.held × ((live_after_all p q calls z).held ≡ after_all p q (plain_calls calls) z.held)
  unfolding LiveAccepted Accepted live_refusal call_refusal live_after_all after_all plain_calls
  live-calls [] z a = (a, refl)
  live-calls (call (store values) ∷ calls) z a =
      let same = live-stored z values in
      let r = live-calls calls (live_after p q z (store values)) a.1 in
      ((a.0, rw same at r.0), r.1 ∙ ap (after_all p q (plain_calls calls)) same)
  live-calls (call (finish i) ∷ calls) z a =
      let (m, e) = live-answer p i.forest q i.stack i.registers z.tally z.held.cells z.held.tracer a.0 in
      let (plain, same) = live_same z i m e in
      let r = live-calls calls (live_after p q z (finish i)) a.1 in
      ((ap refusal plain, rw same at r.0), r.1 ∙ ap (after_all p q (plain_calls calls)) same)
  live-calls (lend tally ∷ calls) z a = live-calls calls (record { held = z.held; tally = tally }) a

  live-closed : (here : Cursor) (fragment : LiveFragment) → LiveAccepted p q fragment.calls (live_opened p q here fragment) → (live_closed p q here fragment).held ≡ closed p q here (plain_of fragment)
  live-closed here fragment a = (live-calls fragment.calls (live_opened p q here fragment) a).1

  -- so a run with tallies is the run without, and the passes are handed the same
  pub live-as-calls : (fragments : List LiveFragment) (here : Cursor) → AllLiveAccepted p q fragments here → SameAsPlain p q fragments here
  unfolding AllLiveAccepted plain_all AllAccepted live_ends live_finals final_states live_cells cells_of
  live-as-calls [] here a = record { none_refused = tt; same_finals = refl; same_cells = refl }
  live-as-calls (fragment ∷ fragments) here a =
      let e = live-closed here fragment a.0 in
      let there : live_cursor p q here fragment ≡ cursor_of p q (closed p q here (plain_of fragment)) = ap (cursor_of p q) e in
      let r = live-as-calls fragments (live_cursor p q here fragment) a.1 in
      record {
        none_refused = ((live-calls fragment.calls (live_opened p q here fragment) a.0).0, rw there at r.none_refused);
        same_finals = ap₂ (λ z l. final_state z.tracer ∷ l) e (r.same_finals ∙ ap (final_states p q (plain_all fragments)) there);
        same_cells = ap₂ (λ z l. z.cells ++ l) e (r.same_cells ∙ ap (cells_of p q (plain_all fragments)) there);
      }
