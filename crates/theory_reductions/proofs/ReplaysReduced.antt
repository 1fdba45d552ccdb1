-- A replay answers of forests, queues, address state and call records as they are lent what it answers of them read, and leaves the same fragment.
-- The address state that it answers is below p.
use mathlib.Core.Path.{◌≡◌, ◌∙◌, refl, sym, ap, ap₂}
use mathlib.Core.Bool.{Bool, true, false}
use mathlib.Core.List.{List}
use Prim.Native.Nat.{ℕ, zero, suc, ◌*◌, ◌/◌, ◌%◌, ◌≤◌, ◌<◌}
use native.Mathlib.Omega.{arith}
use lib.Dec.{eqb}
use lib.ListN.{length, take, drop}
use Rattle.field.specs.Cells.{reduced}
use Rattle.field.proofs.CellLaws.{reduced-twice, reduced-take, reduced-drop}
use Rattle.groups.specs.Answer.{Answer, accepted, refused, pick}
use Rattle.rows.specs.declared.records.profile.Profile.{Profile}
use Rattle.rows.specs.declared.records.address_state.DecoderState.{DecoderState}
use Rattle.rows.specs.declared.records.address_state.Positions.{Positions}
use Rattle.rows.specs.records.Forests.{Forest}
use Rattle.rows.specs.records.Addresses.{Queues, read_state}
use Rattle.rows.specs.records.CallRecords.{RecordedCall, stores, finishes, call_in, record_at}
use Rattle.rows.specs.declared.cycles.tracer.CoreTraceGenerationTracer.{CoreTraceGenerationTracer}
use Rattle.rows.specs.declared.replay.directory.DirectoryEntry.{DirectoryEntry}
use Rattle.rows.specs.cycles.Cycles.{fresh, storing_of, stored_in, keeping, final_state}
use Rattle.rows.specs.replay.Calls.{window, forest_in, directory_entry, Setting, setting, forest_of, refusing, call_done, call_written, through, written, ending, next_state, next_positions, told, scanned, replayed, replayed_fragment}
use Rattle.theory_reductions.specs.Inputs.{read_forest, read_queues, read_tracer, read_all_records}
use Rattle.theory_reductions.specs.ways.ReadSteps.{read_call, read_answer}
use Rattle.theory_reductions.proofs.StatesRead.{IsRead, read_is, read-moved, cycle-with-moves, after-moves}
use Rattle.theory_reductions.proofs.CyclesReduced.{cycle-with-reduced, same-tracer, same-fragment, tracer-twice, storing-reduced, fresh-reduced, final-reduced}
use Rattle.theory_reductions.proofs.RecordsReduced.{call-reduced, records-length, record-reduced}

-- A FOREST OF THE DIRECTORY

window-reduced : (width first count : ℕ) (l : List ℕ) → window width first count (reduced l) ≡ reduced (window width first count l)
unfolding window
window-reduced width first count l = ap (take (width * count)) (sym (reduced-drop (width * first) l)) ∙ sym (reduced-take (width * count) (drop (width * first) l))

part-reduced : (f : Forest) (w : DirectoryEntry) → forest_in (read_forest f) w ≡ read_forest (forest_in f w)
unfolding forest_in read_forest
part-reduced f w = rw (window-reduced 4 w.first_slot w.slots f.digests, window-reduced 8 w.first_batch w.batches f.groups)

-- what all calls share, read
abbrev read_setting : Setting → Setting
read_setting s = setting s.scan s.profile (read_forest s.forests) s.directory (read_queues s.queues) s.cells

forest-reduced : (s : Setting) (k : ℕ) → forest_of (read_setting s) k ≡ read_forest (forest_of s k)
unfolding forest_of
forest-reduced s k = part-reduced s.forests (directory_entry s.directory k)

forest-twice : (f : Forest) → read_forest (read_forest f) ≡ read_forest f
unfolding read_forest
forest-twice f = rw (reduced-twice f.digests, reduced-twice f.groups)

queues-twice : (q : Queues) → read_queues (read_queues q) ≡ read_queues q
unfolding read_queues
queues-twice q = rw (reduced-twice q.addresses, reduced-twice q.parents, reduced-twice q.ends)

-- ONE CALL

refused-alike : (same : Bool) (n : ℕ) (t : CoreTraceGenerationTracer) → read_tracer (pick same (keeping n (read_tracer t)) (read_tracer t)) ≡ read_tracer (pick same (keeping n t) t)
unfolding read_tracer
refused-alike true n t = unfold read_tracer in ap (λ (x : CoreTraceGenerationTracer). keeping n x) (tracer-twice t)
refused-alike false n t = tracer-twice t

refusing-reduced : (n : ℕ) (t : CoreTraceGenerationTracer) → read_tracer (refusing n (read_tracer t)) ≡ read_tracer (refusing n t)
unfolding refusing
refusing-reduced n t = unfold read_tracer in refused-alike (eqb t.refusal 0) n t

-- the tracer after a call, and after the call read
done-reduced : (s : Setting) (t : CoreTraceGenerationTracer) (a : Answer RecordedCall) → read_tracer (call_done (read_setting s) (read_tracer t) (read_answer read_call a)) ≡ read_tracer (call_done s t a)
unfolding call_done read_call
done-reduced s t (refused n) = refusing-reduced n t
done-reduced s t (accepted (stores values)) = storing-reduced t values
done-reduced s t (accepted (finishes k system stack registers)) =
    rw (forest-reduced s k)
    (same-tracer system stack t _ _ (cycle-with-reduced s.profile (forest_of s k) s.queues stack registers s.cells t s.scan))

-- the fragment
written-reduced : (s : Setting) (t : CoreTraceGenerationTracer) (a : Answer RecordedCall) (fragment : List ℕ) → call_written (read_setting s) (read_tracer t) (read_answer read_call a) fragment ≡ call_written s t a fragment
unfolding call_written read_call
written-reduced s t (refused n) fragment = refl
written-reduced s t (accepted (stores values)) fragment = refl
written-reduced s t (accepted (finishes k system stack registers)) fragment =
    rw (forest-reduced s k)
    (same-fragment fragment t _ _ (cycle-with-reduced s.profile (forest_of s k) s.queues stack registers s.cells t s.scan))

-- ALL CALLS

module _ (s : Setting) (records : List ℕ) where
  abbrev given : List ℕ
  given = read_all_records records

  setting-twice : read_setting (read_setting s) ≡ read_setting s
  setting-twice = rw (forest-twice s.forests, queues-twice s.queues)

  enough : 32 * (length records / 32) ≤ length records
  enough = omega arith

  call_same : (k : ℕ) → k < length records / 32 → call_in (record_at given k) ≡ call_in (record_at records k)
  call_same k h = ap call_in (record-reduced (length records / 32) k records h enough) ∙ call-reduced (record_at records k)

  -- a tracer that is the same once read, and the same call
  step-done : (u t : CoreTraceGenerationTracer) (a b : Answer RecordedCall) → read_tracer u ≡ read_tracer t → a ≡ b →
      read_tracer (call_done (read_setting s) u a) ≡ read_tracer (call_done s t b)
  step-done u t a b e h =
      sym (done-reduced (read_setting s) u a)
      ∙ ap (λ (x : Setting). read_tracer (call_done x (read_tracer u) (read_answer read_call a))) setting-twice
      ∙ ap₂ (λ (x : CoreTraceGenerationTracer) (y : Answer RecordedCall). read_tracer (call_done (read_setting s) x (read_answer read_call y))) e h
      ∙ done-reduced s t b

  step-written : (u t : CoreTraceGenerationTracer) (a b : Answer RecordedCall) (l m : List ℕ) → read_tracer u ≡ read_tracer t → a ≡ b → l ≡ m →
      call_written (read_setting s) u a l ≡ call_written s t b m
  step-written u t a b l m e h same =
      sym (written-reduced (read_setting s) u a l)
      ∙ ap (λ (x : Setting). call_written x (read_tracer u) (read_answer read_call a) l) setting-twice
      ∙ ap₂ (λ (x : CoreTraceGenerationTracer) (y : Answer RecordedCall). call_written (read_setting s) x (read_answer read_call y) l) e h
      ∙ written-reduced s t b l ∙ ap (call_written s t b) same

  through-reduced : (t : CoreTraceGenerationTracer) (n : ℕ) → n ≤ length records / 32 → read_tracer (through (read_setting s) given t n) ≡ read_tracer (through s records t n)
  unfolding through
  through-reduced t zero h = refl
  through-reduced t (suc k) h =
      step-done (through (read_setting s) given t k) (through s records t k) (call_in (record_at given k)) (call_in (record_at records k)) (through-reduced t k (omega arith)) (call_same k (omega arith))

  all-written-reduced : (t : CoreTraceGenerationTracer) (fragment : List ℕ) (n : ℕ) → n ≤ length records / 32 → written (read_setting s) given t fragment n ≡ written s records t fragment n
  unfolding written
  all-written-reduced t fragment zero h = refl
  all-written-reduced t fragment (suc k) h =
      step-written (through (read_setting s) given t k) (through s records t k) (call_in (record_at given k)) (call_in (record_at records k)) _ _
      (through-reduced t k (omega arith)) (call_same k (omega arith)) (all-written-reduced t fragment k (omega arith))

-- THE ADDRESS STATE

pick-read : (same : Bool) (u t : CoreTraceGenerationTracer) → IsRead u.decoder_state → IsRead t.decoder_state → IsRead (pick same u t).decoder_state
pick-read true u t h k = h
pick-read false u t h k = k

refusing-read : (n : ℕ) (t : CoreTraceGenerationTracer) → IsRead t.decoder_state → IsRead (refusing n t).decoder_state
unfolding refusing
refusing-read n t e = pick-read (eqb t.refusal 0) (keeping n t) t e e

done-read : (s : Setting) (t : CoreTraceGenerationTracer) (a : Answer RecordedCall) → IsRead t.decoder_state → IsRead (call_done s t a).decoder_state
unfolding call_done stored_in
done-read s t (refused n) e = refusing-read n t e
done-read s t (accepted (stores values)) e = pick-read (eqb t.refusal 0) (storing_of t values) t e e
done-read s t (accepted (finishes k system stack registers)) e =
    read-moved t.decoder_state _ (after-moves system stack t _ (cycle-with-moves s.scan s.profile (forest_of s k) s.queues stack registers s.cells t)) e

through_read : (s : Setting) (records : List ℕ) (t : CoreTraceGenerationTracer) (n : ℕ) → IsRead t.decoder_state → IsRead (through s records t n).decoder_state
unfolding through
through_read s records t zero e = e
through_read s records t (suc k) e = done-read s (through s records t k) (call_in (record_at records k)) (through_read s records t k e)

ending-read : (numbers : ℕ) (t : CoreTraceGenerationTracer) → IsRead t.decoder_state → IsRead (ending numbers t).decoder_state
unfolding ending
ending-read numbers t e = pick-read (eqb (numbers % 32) 0) t (refusing 11 t) e (refusing-read 11 t e)

fresh-read : (state : DecoderState) (at : Positions) → IsRead (fresh state at).decoder_state
unfolding fresh
fresh-read state at = read_is state

-- the tracer of a replay, at its end
ended-read : (s : Setting) (state : DecoderState) (at : Positions) (records : List ℕ) → IsRead (ending (length records) (through s records (fresh state at) (length records / 32))).decoder_state
ended-read s state at records = ending-read (length records) _ (through_read s records (fresh state at) (length records / 32) (fresh-read state at))

next-read : (t : CoreTraceGenerationTracer) (same : Bool) → IsRead t.decoder_state → IsRead (pick same t.decoder_state (record { current_addr = 0; parent_addr = 0 }))
unfolding read_state
next-read t true e = e
next-read t false e = refl

-- "what replay answers is below p", of every replay
pub replay-state-below : (s : Setting) (state : DecoderState) (at : Positions) (records : List ℕ) → IsRead (replayed s state at records).state
unfolding replayed told next_state
replay-state-below s state at records =
    let t = ending (length records) (through s records (fresh state at) (length records / 32)) in
    next-read t (eqb t.refusal 0) (ended-read s state at records)

-- THE ANSWER

ending-alike : (whole : Bool) (u t : CoreTraceGenerationTracer) → read_tracer u ≡ read_tracer t → read_tracer (pick whole u (refusing 11 u)) ≡ read_tracer (pick whole t (refusing 11 t))
ending-alike true u t e = e
ending-alike false u t e = sym (refusing-reduced 11 u) ∙ ap (λ (x : CoreTraceGenerationTracer). read_tracer (refusing 11 x)) e ∙ refusing-reduced 11 t

ending-reduced : (numbers : ℕ) (u t : CoreTraceGenerationTracer) → read_tracer u ≡ read_tracer t → read_tracer (ending numbers u) ≡ read_tracer (ending numbers t)
unfolding ending
ending-reduced numbers u t e = ending-alike (eqb (numbers % 32) 0) u t e

-- tracers that are the same once read, with address states below p, are told alike
told_same : (u t : CoreTraceGenerationTracer) → read_tracer u ≡ read_tracer t → IsRead u.decoder_state → IsRead t.decoder_state → told u ≡ told t
unfolding told next_state next_positions read_tracer
told_same u t e h k =
    let f : final_state u ≡ final_state t = sym (final-reduced u) ∙ ap final_state (unfold read_tracer in e) ∙ final-reduced t in
    let n : u.refusal ≡ t.refusal = ap (λ (x : CoreTraceGenerationTracer). x.refusal) e in
    let at : u.at ≡ t.at = ap (λ (x : CoreTraceGenerationTracer). x.at) e in
    let s : u.decoder_state ≡ t.decoder_state = sym h ∙ ap (λ (x : CoreTraceGenerationTracer). x.decoder_state) e ∙ k in
    rw (f, n, at, s)

module _ (p : Profile) (f : Forest) (directory : List ℕ) (q : Queues) (cells : ℕ) (state : DecoderState) (at : Positions) (records : List ℕ) where
  abbrev lent : Setting
  lent = scanned p f directory q cells

  abbrev read-lent : Setting
  read-lent = scanned p (read_forest f) directory (read_queues q) cells

  lent_same : read-lent ≡ read_setting lent
  unfolding scanned read_forest
  lent_same = refl

  length-same : length (read_all_records records) ≡ length records
  length-same = records-length (length records / 32) records (omega arith)

  ended_same : read_tracer (ending (length (read_all_records records)) (through read-lent (read_all_records records) (fresh (read_state state) at) (length (read_all_records records) / 32)))
      ≡ read_tracer (ending (length records) (through lent records (fresh state at) (length records / 32)))
  ended_same =
      rw (length-same, lent_same, fresh-reduced state at)
      (ending-reduced (length records) _ _ (through-reduced lent records (fresh state at) (length records / 32) (omega arith)))

  -- what a replay answers
  pub replay-reduced : replayed read-lent (read_state state) at (read_all_records records) ≡ replayed lent state at records
  unfolding replayed
  replay-reduced = told_same _ _ ended_same (ended-read read-lent (read_state state) at (read_all_records records)) (ended-read lent state at records)

  -- the fragment that it leaves
  pub replay-fragment-reduced : (fragment : List ℕ) → replayed_fragment read-lent (read_state state) at (read_all_records records) fragment ≡ replayed_fragment lent state at records fragment
  unfolding replayed_fragment
  replay-fragment-reduced fragment =
      rw (replay-reduced, length-same, fresh-reduced state at)
      (ap (λ (w : List ℕ). pick (eqb (replayed lent state at records).refusal 0) w fragment)
      (rw lent_same (all-written-reduced lent records (fresh state at) fragment (length records / 32) (omega arith))))
