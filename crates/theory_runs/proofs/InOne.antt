-- Where no call of a run in fragments is refused, none is when the same calls are made in one fragment that has room for all rows.
use Rattle.std.specs.Prelude.{Option, Some}
use mathlib.Core.Path.{◌≡◌, ◌∙◌, refl, sym, ap, ap₂}
use mathlib.Core.Bool.{Bool, false, not, ◌||◌}
use mathlib.Core.List.{List, [], ◌∷◌, ◌++◌}
use mathlib.Core.Logic.{inr}
use Prim.Native.Nat.{ℕ, suc, ◌+◌, ◌-◌, ◌*◌, ◌/◌, ◌%◌, ◌≤◌, ◌<◌}
use native.Mathlib.Omega.{arith}
use borrow.Author.Tests.{eq-eqb, le-ltb, lt-leb}
use lib.Dec.{leb, ltb, eqb}
use lib.ListN.{length, replicate, length-replicate}
use Rattle.groups.specs.Answer.{Answer, accepted, and_then, refusal}
use Rattle.groups.specs.declared.helpers.OperationHelperRegisters.{OperationHelperRegisters}
use Rattle.rows.specs.declared.records.profile.Profile.{Profile}
use Rattle.rows.specs.declared.records.state.StackState.{StackState}
use Rattle.rows.specs.declared.records.continuation.Continuation.{Continuation}
use Rattle.rows.specs.declared.records.continuation.StoredValues.{StoredValues}
use Rattle.rows.specs.declared.cycles.made.MadeRow.{MadeRow}
use Rattle.rows.specs.declared.cycles.tracer.CoreTraceGenerationTracer.{CoreTraceGenerationTracer}
use Rattle.rows.specs.records.Forests.{Forest}
use Rattle.rows.specs.records.Addresses.{Queues, read_state}
use Rattle.rows.specs.records.Profiles.{profile_wrong}
use Rattle.rows.specs.records.Built.{no_system, no_stack}
use Rattle.rows.specs.cycles.Scans.{any_big_opcode, forest_too_large, scan_of}
use Rattle.rows.specs.records.Cells.{fragment_wrong}
use Rattle.rows.specs.declared.records.address_state.Cursor.{Cursor}
use Rattle.rows.specs.cycles.Made.{cursor, made}
use Rattle.rows.specs.cycles.Cycles.{fresh, continuation_of, refuse_if, cycle_with, cycle}
use Rattle.rows.specs.passes.Passes.{fixed_up, built_of, sum_of}
use Rattle.rows.proofs.passes.Checks.{neither}
use Rattle.rows.proofs.passes.RowLists.{length-put}
use Rattle.theory_runs.specs.Calls.{Handed, Call, store, finish, Fragment, Held, answered, after, call_refusal, after_all, Accepted, opened, closed, cursor_of, AllAccepted, final_states, counts_of, built_cells, OneSize}
use Rattle.theory_runs.specs.SameCalls.{all_calls, in_one, cycles_among}
use Rattle.theory_runs.specs.Happened.{InForce}
use Rattle.theory_runs.specs.Written.{rows_run}
use Rattle.theory_runs.proofs.Folded.{in_force, row-wide, stored_same, Stepped, stepped, after-rows, after_kept, after-cells, closed-read}
use Rattle.theory_runs.proofs.Unfragmented.{Item, sided, together, Same, items_in, item-made, items_each, together-items, count-items, fixed-items, unfragmented, same-stored, same-finish, force-of, final-kept}

if-not : {A : Type 0} (t : Bool) (n : ℕ) (x : Answer A) → t ≡ false → refuse_if t n x ≡ x
if-not t n x e = rw e

then_is : {A B : Type 0} (a : Answer A) (x : A) (f : A → Answer B) → a ≡ accepted x → and_then a f ≡ f x
then_is a x f e = rw e

continuation-is : (stored : Option Continuation) (c : Continuation) → stored ≡ Some c → continuation_of stored ≡ accepted c
continuation-is stored c e = rw e

-- the checks of a cycle, none of which holds
module _ (p : Profile) (f : Forest) (q : Queues) (stack : StackState) (registers : OperationHelperRegisters) (cells : ℕ) (t : CoreTraceGenerationTracer) where
  pub accepted-by : (m : MadeRow) (c : Continuation) → t.refusal ≡ 0 → t.continuation ≡ Some c → any_big_opcode f.ops ≡ false → profile_wrong p ≡ false →
      (forest_too_large f.nodes f.batches || fragment_wrong cells t.row_write_index) ≡ false → ltb stack.stack_depth 16 ≡ false →
      made f q p registers c t.is_loop_body t.captured (cursor t.decoder_state t.at) ≡ accepted m → leb (cells / 49) t.row_write_index ≡ false → cycle p f q stack registers cells t ≡ accepted m
  unfolding cycle cycle_with scan_of
  accepted-by m c kept is small right lengths deep makes room =
      if-not (not (eqb t.refusal 0)) t.refusal _ (ap not (eq-eqb t.refusal 0 kept)) ∙ then_is (continuation_of t.continuation) c _ (continuation-is t.continuation c is)
      ∙ if-not (any_big_opcode f.ops) 1 _ small ∙ if-not (profile_wrong p) 2 _ right
      ∙ if-not (forest_too_large f.nodes f.batches || fragment_wrong cells t.row_write_index) 11 _ lengths ∙ if-not (ltb stack.stack_depth 16) 10 _ deep
      ∙ then_is (made f q p registers c t.is_loop_body t.captured (cursor t.decoder_state t.at)) m _ makes ∙ if-not (leb (cells / 49) t.row_write_index) 24 (accepted m) room

-- THE FOLD

-- a tracer of the whole, with room for so many rows more
record Fits (w : Held) (n more : ℕ) : Type 0 where
  kept : w.tracer.refusal ≡ 0
  long : length w.cells ≡ 49 * n
  few : n ≤ 16777216
  room : w.tracer.row_write_index + more ≤ n

right-lengths : (cells n rows : ℕ) → cells ≡ 49 * n → n ≤ 16777216 → rows ≤ n → fragment_wrong cells rows ≡ false
unfolding fragment_wrong
right-lengths cells n rows e few h =
    let a : cells % 49 ≤ 0 = omega arith in
    let b : cells / 49 ≤ 16777216 = omega arith in
    let c : rows ≤ cells / 49 = omega arith in
    rw (le-ltb 0 (cells % 49) a, le-ltb 16777216 (cells / 49) b, le-ltb (cells / 49) rows c)

same-makes : (f : Forest) (q : Queues) (p : Profile) (registers : OperationHelperRegisters) (t u : CoreTraceGenerationTracer) (c : Continuation) (m : MadeRow) → in_force t ≡ in_force u → t.decoder_state ≡ u.decoder_state → t.continuation ≡ Some c →
    made f q p registers c t.is_loop_body t.captured (cursor t.decoder_state t.at) ≡ accepted m →
    (u.continuation ≡ Some c) × (u.captured ≡ t.captured) × (made f q p registers c u.is_loop_body u.captured (cursor u.decoder_state u.at) ≡ accepted m)
unfolding in_force
same-makes f q p registers t u c m e s h k =
    let e1 : t.continuation ≡ u.continuation = ap (λ (v : InForce). v.stored) e in
    let e2 : t.is_loop_body ≡ u.is_loop_body = ap (λ (v : InForce). v.is_loop_body) e in
    let e3 : t.captured ≡ u.captured = ap (λ (v : InForce). v.captured) e in
    let e4 : t.at ≡ u.at = ap (λ (v : InForce). v.at) e in
    (sym e1 ∙ h, sym e3, cc)

room_of : (m n : ℕ) → m ≤ n → 0 + m ≤ n
room_of m n h = omega arith

cycles-app : (l m : List Call) → cycles_among (l ++ m) ≡ cycles_among l + cycles_among m
unfolding cycles_among
cycles-app [] m = omega arith
cycles-app (store values ∷ l) m = cycles-app l m
cycles-app (finish i ∷ l) m = omega (arith, cycles-app l m)

module _ (p : Profile) (q : Queues) where
  -- the same cycle on the whole's tracer
  whole-answer : (z w : Held) (i : Handed) (n more : ℕ) (s : Stepped p q z i) → in_force z.tracer ≡ in_force w.tracer → z.tracer.decoder_state ≡ w.tracer.decoder_state → Fits w n (suc more) → answered p q w i ≡ accepted s.m
  whole-answer z w i n more s e h fits =
      let c = s.came_from in
      let large = (neither (forest_too_large i.forest.nodes i.forest.batches) (fragment_wrong (length z.cells) z.tracer.row_write_index) c.lengths_right).0 in
      let (is, captured, makes) = same-makes i.forest q p i.registers z.tracer w.tracer c.continuation s.m e h c.stored_is c.made_is in
      let room = fits.room in
      let enough : w.tracer.row_write_index < length w.cells / 49 = omega (arith, fits.long) in
      accepted-by p i.forest q i.stack i.registers (length w.cells) w.tracer s.m c.continuation fits.kept is
      c.small c.profile_right
      (ap₂ (λ x y. x || y) large (right-lengths (length w.cells) n w.tracer.row_write_index fits.long fits.few (omega arith))) c.deep makes (lt-leb (length w.cells / 49) w.tracer.row_write_index enough)

  fits-finish : (w : Held) (i : Handed) (n more : ℕ) (r : Stepped p q w i) → Fits w n (suc more) → Fits (after p q w (finish i)) n more
  fits-finish w i n more r fits =
      let room = fits.room in
      record {
        kept = after_kept p q w i r.m r.answer;
        long = ap (λ (x : List ℕ). length x) (after-cells p q w i r.m r.answer) ∙ length-put w.cells w.tracer.row_write_index _ (row-wide w.tracer r.m) (omega (arith, fits.long)) ∙ fits.long;
        few = fits.few;
        room = omega (arith, after-rows p q w i r.m r.answer);
      }

  fits-store : (w : Held) (values : StoredValues) (n more : ℕ) → Fits w n more → Fits (after p q w (store values)) n more
  unfolding after
  fits-store w values n more fits =
      rw (stored_same w.tracer values fits.kept) (record { kept = fits.kept; long = fits.long; few = fits.few; room = fits.room })

  accept-calls : (calls rest : List Call) (z w : Held) (n : ℕ) → Accepted p q calls z → Same z.tracer w.tracer → Fits w n (cycles_among (calls ++ rest)) →
      ((v : Held) → Same (after_all p q calls z).tracer v.tracer → Fits v n (cycles_among rest) → Accepted p q rest v) → Accepted p q (calls ++ rest) w
  unfolding Accepted call_refusal after_all cycles_among
  accept-calls [] rest z w n a same fits k = k w same fits
  accept-calls (store values ∷ calls) rest z w n a same fits k =
      (fits.kept, accept-calls calls rest (after p q z (store values)) (after p q w (store values)) n a.1 (same-stored p q z w values a.0 fits.kept same) (fits-store w values n (cycles_among (calls ++ rest)) fits) k)
  accept-calls (finish i ∷ calls) rest z w n a same fits k =
      let s = stepped p q z i a.0 in
      let f = force-of p q z w i s same in
      let e = whole-answer z w i n (cycles_among (calls ++ rest)) s f same.state_same fits in
      let zero' : refusal (answered p q w i) ≡ 0 = rw e in
      let r = stepped p q w i zero' in
      (zero', accept-calls calls rest (after p q z (finish i)) (after p q w (finish i)) n a.1 (same-finish p q z w i s r f same.state_same).next_same (fits-finish w i n (cycles_among (calls ++ rest)) r fits) k)

  accept-all : (fragments : List Fragment) (here : Cursor) (w : Held) (n : ℕ) → AllAccepted p q fragments here → read_state here.state ≡ w.tracer.decoder_state → here.at ≡ w.tracer.at → Fits w n (cycles_among (all_calls fragments)) →
      Accepted p q (all_calls fragments) w
  unfolding AllAccepted all_calls Accepted fresh
  accept-all [] here w n a e f fits = final-kept p q w.tracer fits.kept
  accept-all (fragment ∷ fragments) here w n a e f fits =
      accept-calls fragment.calls (all_calls fragments) (opened p q here fragment) w n a.0 (record { state_same = e; at_same = f; force_same = inr refl }) fits
      (λ v same more. accept-all fragments (cursor_of p q (closed p q here fragment)) v n a.1 (closed-read p q here fragment a.0 ∙ same.state_same) same.at_same more)

  -- the same calls in one fragment of n rows, if that has room for all
  pub accepted-in-one : (fragments : List Fragment) (here : Cursor) (cells : List ℕ) (n : ℕ) → AllAccepted p q fragments here → length cells ≡ 49 * n → n ≤ 16777216 → cycles_among (all_calls fragments) ≤ n →
      AllAccepted p q (in_one fragments cells) here
  unfolding AllAccepted fresh
  accepted-in-one fragments here cells n a long few room =
      (accept-all fragments here (opened p q here (record { calls = all_calls fragments; cells = cells })) n a refl refl (record { kept = refl; long = long; few = few; room = room_of (cycles_among (all_calls fragments)) n room }), tt)

  -- so after the first pass the rows of a run in fragments are those of one unfragmented run
  pub rows-in-one : (size size' : ℕ) (fragments : List Fragment) (here : Cursor) (top cells : List ℕ) (n : ℕ) → 0 < size → AllAccepted p q fragments here → OneSize size fragments (counts_of (final_states p q fragments here)) →
      length cells ≡ 49 * n → n ≤ 16777216 → cycles_among (all_calls fragments) ≤ n →
      fixed_up size top (built_of (length (counts_of (final_states p q fragments here)) - 1) (built_cells (final_states p q fragments here))) (rows_run p q fragments here)
      ≡ fixed_up size' top (built_of (length (counts_of (final_states p q (in_one fragments cells) here)) - 1) (built_cells (final_states p q (in_one fragments cells) here))) (rows_run p q (in_one fragments cells) here)
  rows-in-one size size' fragments here top cells n some a o long few room =
      unfragmented p q size size' fragments here top cells some a o (accepted-in-one fragments here cells n a long few room)

  -- each cycle makes one row
  items-cycles : (calls : List Call) (z : Held) → Accepted p q calls z → length (items_in p q calls z) ≡ cycles_among calls
  unfolding Accepted call_refusal items_in cycles_among
  items-cycles [] z a = refl
  items-cycles (store values ∷ calls) z a = items-cycles calls (after p q z (store values)) a.1
  items-cycles (finish i ∷ calls) z a =
      let s = stepped p q z i a.0 in
      rw (item-made p q z i s.m s.answer) (ap suc (items-cycles calls (after p q z (finish i)) a.1))

  -- the sum of the counts is the number of cycles
  pub sum-cycles : (fragments : List Fragment) (here : Cursor) → AllAccepted p q fragments here → sum_of (counts_of (final_states p q fragments here)) ≡ cycles_among (all_calls fragments)
  unfolding AllAccepted final_states counts_of sum_of all_calls
  sum-cycles [] here a = unfold cycles_among in refl
  sum-cycles (fragment ∷ fragments) here a =
      omega (
        arith,
        count-items p q here fragment a.0,
        items-cycles fragment.calls (opened p q here fragment) a.0,
        sum-cycles fragments (cursor_of p q (closed p q here fragment)) a.1,
        cycles-app fragment.calls (all_calls fragments),
      )

  -- nor does it matter how the calls, with at most 2^24 cycles, are cut into fragments: the cycles make the same rows
  pub same-items : (fragments fragments' : List Fragment) (here : Cursor) → all_calls fragments ≡ all_calls fragments' → AllAccepted p q fragments here → AllAccepted p q fragments' here → cycles_among (all_calls fragments) ≤ 16777216 →
      together (items_each p q fragments here) ≡ together (items_each p q fragments' here)
  unfolding AllAccepted fresh
  same-items fragments fragments' here e a a' few =
      let n : ℕ = cycles_among (all_calls fragments) in
      let cells : List ℕ = replicate (49 * n) 0 in
      let whole : List Fragment → Held = λ l. opened p q here (record { calls = all_calls l; cells = cells }) in
      let b = accepted-in-one fragments here cells n a (length-replicate (49 * n) 0) few (omega arith) in
      let b' = accepted-in-one fragments' here cells n a' (length-replicate (49 * n) 0) few (omega (arith, ap cycles_among e)) in
      sym (together-items p q fragments here (whole fragments) a b.0 refl refl refl) ∙ ap (λ (l : List Call). items_in p q l (opened p q here (record { calls = l; cells = cells }))) e
      ∙ together-items p q fragments' here (whole fragments') a' b'.0 refl refl refl

  -- and after pass 1 they are the same
  pub rows-any-cut : (size size' : ℕ) (fragments fragments' : List Fragment) (here : Cursor) (top : List ℕ) → all_calls fragments ≡ all_calls fragments' → 0 < size → 0 < size' → AllAccepted p q fragments here → AllAccepted p q fragments' here →
      OneSize size fragments (counts_of (final_states p q fragments here)) → OneSize size' fragments' (counts_of (final_states p q fragments' here)) → cycles_among (all_calls fragments) ≤ 16777216 →
      fixed_up size top (built_of (length (counts_of (final_states p q fragments here)) - 1) (built_cells (final_states p q fragments here))) (rows_run p q fragments here)
      ≡ fixed_up size' top (built_of (length (counts_of (final_states p q fragments' here)) - 1) (built_cells (final_states p q fragments' here))) (rows_run p q fragments' here)
  rows-any-cut size size' fragments fragments' here top e some some' a a' o o' few =
      fixed-items p q size size fragments here top some a o
      ∙ ap (λ (l : List Item). fixed_up size top [] (sided no_system no_stack l)) (same-items fragments fragments' here e a a' few)
      ∙ sym (fixed-items p q size' size fragments' here top some' a' o')
