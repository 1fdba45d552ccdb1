-- Change request N11: one run, cut by two sizes and finished to the same height, gives the same cells in the first height rows. The run need not
-- be proper. A cut before a cycle that reuses what is stored is refused.
use Rattle.std.specs.Prelude.{None}
use mathlib.Core.Path.{◌≡◌, ◌∙◌, refl, sym, ap, ap₂, subst}
use mathlib.Core.Bool.{false}
use mathlib.Core.List.{List, [], ◌∷◌, ◌++◌}
use Prim.Native.Nat.{ℕ, ◌*◌, ◌≤◌, ◌<◌}
use native.Mathlib.Omega.{arith}
use lib.ListN.{length}
use Rattle.field.specs.Cells.{reduced}
use Rattle.rows.specs.declared.records.profile.Profile.{Profile}
use Rattle.rows.specs.records.Addresses.{Queues}
use Rattle.rows.specs.records.Buffers.{flat}
use Rattle.rows.specs.records.Built.{no_system, no_stack}
use Rattle.rows.specs.records.Profiles.{two_equal}
use Rattle.rows.specs.records.Forests.{Forest}
use Rattle.rows.specs.declared.records.address_state.Cursor.{Cursor}
use Rattle.rows.specs.cycles.Cycles.{fresh, cycle_with, cycle}
use Rattle.rows.specs.passes.Passes.{inverted, multiplied, halted, padded}
use Rattle.rows.proofs.passes.RowLists.{length-flat}
use Rattle.theory_readings.specs.Readings.{Block, depth_of}
use Rattle.theory_runs.specs.Calls.{Handed, Call, store, finish, Fragment, Held, call_refusal, Accepted, opened, closed, cursor_of, AllAccepted}
use Rattle.theory_runs.specs.Happened.{Cycle, InForce, nothing_stored, did, stored, left_by, in_force_after, in_force_after_all, cycles_in, cycles_of}
use Rattle.theory_runs.specs.ProperRuns.{Run, loop_starts, tree_from}
use Rattle.theory_runs.specs.SameCalls.{all_calls, Cut, cycles_among}
use Rattle.theory_runs.specs.Finished.{Runs, nesting, FinishedTo, WrittenOf}
use Rattle.theory_runs.proofs.Folded.{stepped, force-at}
use Rattle.theory_runs.proofs.Unfragmented.{Item, last_s, last_k, cells25, not-nothing, stored-force, counts-length, last-cells}
use Rattle.theory_runs.proofs.InOne.{sum-cycles, same-items, rows-any-cut}
use Rattle.theory_runs.proofs.TraceOfRun.{PassesChecked, run-rows, run-wide, run_length, by-finisher, by-five}

-- A FIRST CYCLE

-- a cycle that is the first call of its fragment is refused, whatever profile, queues, address state and forest it has: nothing is stored
pub first-cycle-refused : (p : Profile) (q : Queues) (here : Cursor) (fragment : Fragment) (i : Handed) → call_refusal p q (opened p q here fragment) (finish i) ≡ 23
unfolding call_refusal cycle cycle_with fresh
first-cycle-refused p q here fragment i = refl

-- PROPER RUNS

module _ (p : Profile) (q : Queues) where
  cycles-in-app : (l m : List Call) (v : InForce) → cycles_in q (l ++ m) v ≡ cycles_in q l v ++ cycles_in q m (in_force_after_all q l v)
  unfolding cycles_in in_force_after_all in_force_after
  cycles-in-app [] m v = refl
  cycles-in-app (store values ∷ l) m v = cycles-in-app l m (stored v values)
  cycles-in-app (finish i ∷ l) m v = ap (λ y. (i.forest, did q i.forest v) ∷ y) (cycles-in-app l m (left_by v (did q i.forest v)))

  -- what was stored before a fragment matters to none of its cycles: the first of them would be refused
  first-stored : (l : List Call) (z : Held) (v : InForce) → z.tracer.continuation ≡ None → Accepted p q l z → v.at ≡ z.tracer.at →
      (cycles_in q l v ≡ cycles_in q l (nothing_stored z.tracer.at)) × ((in_force_after_all q l v).at ≡ (in_force_after_all q l (nothing_stored z.tracer.at)).at)
  unfolding Accepted call_refusal cycles_in in_force_after_all in_force_after nothing_stored
  first-stored [] z v none a e = (refl, e)
  first-stored (store values ∷ l) z v none a e =
      let s = stored-force v (nothing_stored z.tracer.at) values e in
      (ap (cycles_in q l) s, ap (λ (u : InForce). (in_force_after_all q l u).at) s)
  first-stored (finish i ∷ l) z v none a e =
      let c = (stepped p q z i a.0).came_from in
      absurd (not-nothing c.continuation (sym c.stored_is ∙ none))

  cycles-whole : (fragments : List Fragment) (here : Cursor) (v : InForce) → AllAccepted p q fragments here → v.at ≡ here.at → cycles_in q (all_calls fragments) v ≡ cycles_of q fragments here.at
  unfolding AllAccepted all_calls cycles_of fresh
  cycles-whole [] here v a e = unfold cycles_in in refl
  cycles-whole (fragment ∷ fragments) here v a e =
      let (first, at) = first-stored fragment.calls (opened p q here fragment) v refl a.0 e in
      let k = force-at p q here fragment a.0 in
      cycles-in-app fragment.calls (all_calls fragments) v
      ∙ ap₂ (λ x y. x ++ y) first (cycles-whole fragments (cursor_of p q (closed p q here fragment)) (in_force_after_all q fragment.calls v) a.1 (at ∙ sym k) ∙ ap (cycles_of q fragments) k)

  -- the cycles, so what ran, are the same in every cut where no call is refused
  pub same-cycles : (fragments fragments' : List Fragment) (here : Cursor) → all_calls fragments ≡ all_calls fragments' → AllAccepted p q fragments here → AllAccepted p q fragments' here →
      cycles_of q fragments here.at ≡ cycles_of q fragments' here.at
  unfolding nothing_stored
  same-cycles fragments fragments' here e a a' =
      sym (cycles-whole fragments here (nothing_stored here.at) a refl) ∙ ap (λ (l : List Call). cycles_in q l (nothing_stored here.at)) e
      ∙ cycles-whole fragments' here (nothing_stored here.at) a' refl

  -- what is asked of the cycles of a proper run, and their nesting
  abbrev ProperAs : Forest → (root parent own third : ℕ) → Block → List Cycle → Type 0
  ProperAs f root parent own third tree cycles =
      (d : Run p f root false parent own third cycles []) × (two_equal (loop_starts cycles) ≡ false) × (depth_of (tree_from p 0 d).0 ≤ 64) × ((tree_from p 0 d).0 ≡ tree)

  -- a proper run that is cut by another size is one too, with the same nesting
  pub runs-cut : (size size' : ℕ) (fragments fragments' : List Fragment) (here : Cursor) (runs : Runs p q size fragments here) → Cut p q (all_calls fragments) size' fragments' here →
      (runs' : Runs p q size' fragments' here) × (nesting runs' ≡ nesting runs)
  runs-cut size size' fragments fragments' here runs cut =
      let e = same-cycles fragments fragments' here (sym cut.calls_are) runs.accepted cut.accepted in
      let (proper, apart, shallow, same) = subst (ProperAs runs.forest runs.root runs.parent runs.own runs.third (nesting runs)) e (runs.proper, runs.loops_apart, runs.shallow, refl) in (
        record {
          forest = runs.forest;
          root = runs.root;
          parent = runs.parent;
          own = runs.own;
          third = runs.third;
          proper = proper;
          accepted = cut.accepted;
          loops_apart = apart;
          shallow = shallow;
          one_size = cut.one_size;
        },
        same,
      )

-- ONE CUT

module _ (p : Profile) (q : Queues) (calls : List Call) (size : ℕ) (fragments : List Fragment) (here : Cursor) (cut : Cut p q calls size fragments here) (top : List ℕ) (height : ℕ) where
  -- the rows after the passes, and that no pass refuses
  abbrev rows-with : (others : List ℕ) → List (List ℕ)
  rows-with others = run-rows p q size fragments here cut.accepted cut.one_size others top height

  abbrev Checks : (others : List ℕ) → Type 0
  Checks others = PassesChecked p q size fragments here cut.accepted cut.one_size others top height

  -- what holds of them holds of what is written, however it is finished
  of-written : (Q : List ℕ → Type 0) → ((others : List ℕ) → Checks others → Q (flat (rows-with others))) → {cells : List ℕ} → WrittenOf p q size fragments here top height cells → Q cells
  of-written Q h (FinishedTo.of_finisher others e) = by-finisher p q size fragments here cut.accepted cut.one_size others top height Q (h others) e
  of-written Q h (FinishedTo.of_five others e) = by-five p q size fragments here cut.accepted cut.one_size others top height Q (h others) e

  -- these are height rows
  pub written-length : {cells : List ℕ} → WrittenOf p q size fragments here top height cells → length cells ≡ 49 * height
  written-length =
      of-written (λ cells. length cells ≡ 49 * height) (λ others c.
      length-flat (rows-with others) (run-wide p q size fragments here cut.accepted cut.one_size others top height c)
      ∙ ap (λ (n : ℕ). 49 * n) (run_length p q size fragments here cut.accepted cut.one_size others top height c))

  -- there is a fragment, and there are at most 2^24 cycles
  some-fragment : (others : List ℕ) → Checks others → 0 < length fragments
  some-fragment others c = omega (arith, counts-length p q fragments here, c.some)

  few-cycles : (others : List ℕ) → Checks others → cycles_among (all_calls fragments) ≤ 16777216
  few-cycles others c = omega (arith, sum-cycles p q fragments here cut.accepted, c.room, c.few)

-- TWO CUTS

module _ (p : Profile) (q : Queues) (calls : List Call) (size size' : ℕ) (fragments fragments' : List Fragment) (here : Cursor) (cut : Cut p q calls size fragments here) (cut' : Cut p q calls size' fragments' here) (top : List ℕ) (height : ℕ) where
  same-calls : all_calls fragments ≡ all_calls fragments'
  same-calls = cut.calls_are ∙ sym cut'.calls_are

  same_rows : (others others' : List ℕ) → Checks p q calls size fragments here cut top height others → Checks p q calls size' fragments' here cut' top height others' →
      rows-with p q calls size fragments here cut top height others ≡ rows-with p q calls size' fragments' here cut' top height others'
  same_rows others others' c c' =
      let few = few-cycles p q calls size fragments here cut top height others c in
      let fixed = rows-any-cut p q size size' fragments fragments' here top same-calls c.some_size c'.some_size cut.accepted cut'.accepted cut.one_size cut'.one_size few in
      let items = same-items p q fragments fragments' here same-calls cut.accepted cut'.accepted few in
      let last = last-cells p q size fragments here cut.accepted (some-fragment p q calls size fragments here cut top height others c) c.full
      ∙ ap (λ (l : List Item). reduced (cells25 (last_s no_system l) (last_k no_stack l))) items
      ∙ sym (last-cells p q size' fragments' here cut'.accepted (some-fragment p q calls size' fragments' here cut' top height others' c') c'.full) in
      ap₂ (λ x y. padded p height (halted p x (inverted (multiplied p y)))) last fixed

  -- "one proper run, cut by two sizes and finished to the same height, gives the same cells in the first height rows"
  pub same-written : {cells cells' : List ℕ} → WrittenOf p q size fragments here top height cells → WrittenOf p q size' fragments' here top height cells' → cells ≡ cells'
  same-written {cells} {cells'} written written' =
      of-written p q calls size fragments here cut top height (λ x. x ≡ cells') (λ others c.
      of-written p q calls size' fragments' here cut' top height (λ y. flat (rows-with p q calls size fragments here cut top height others) ≡ y) (λ others' c'. ap flat (same_rows others others' c c')) written') written
