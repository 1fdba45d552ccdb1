-- After the first pass the rows of a run are those of the same calls in one fragment.
use Rattle.std.specs.Prelude.{Some, None}
use mathlib.Core.Path.{◌≡◌, ◌∙◌, refl, sym, ap, ap₂}
use mathlib.Core.Bool.{false}
use mathlib.Core.List.{List, [], ◌∷◌, ◌++◌, append_assoc, append-nil}
use mathlib.Core.Logic.{◌⊎◌, inl, inr, ⊎_elim}
use Prim.Native.Nat.{ℕ, zero, suc, pred, ◌+◌, ◌-◌, ◌*◌, ◌<◌}
use native.Mathlib.Omega.{arith}
use borrow.Author.Tests.{ne_eqb, eq-eqb, eqb-false}
use lib.Dec.{ltb, eqb}
use lib.ListN.{length, take, drop, length-append}
use lib.Seq.{drop-drop}
use Rattle.field.specs.Cells.{cell_at, reduced}
use Rattle.field.proofs.CellLaws.{reduced-twice}
use Rattle.groups.specs.Answer.{Answer, accepted, refused}
use Rattle.rows.specs.declared.records.profile.Profile.{Profile}
use Rattle.rows.specs.declared.records.decoder_row.DecoderRow.{DecoderRow}
use Rattle.rows.specs.declared.records.state.SystemCols.{SystemCols}
use Rattle.rows.specs.declared.records.state.StackCols.{StackCols}
use Rattle.rows.specs.declared.records.continuation.Continuation.{Continuation}
use Rattle.rows.specs.declared.records.continuation.StoredValues.{StoredValues}
use Rattle.rows.specs.declared.cycles.made.MadeRow.{MadeRow}
use Rattle.rows.specs.declared.cycles.tracer.CoreTraceGenerationTracer.{CoreTraceGenerationTracer}
use Rattle.rows.specs.declared.cycles.tracer.TracerFinalState.{TracerFinalState}
use Rattle.rows.specs.records.Addresses.{Queues, read_state}
use Rattle.rows.specs.declared.records.address_state.Cursor.{Cursor}
use Rattle.rows.specs.records.DecoderRows.{decoder_cells}
use Rattle.rows.specs.records.Built.{built_system, built_stack, no_system, no_stack, read_system, read_stack, system_cells, stack_cells}
use Rattle.rows.specs.records.Cells.{row_cells}
use Rattle.rows.specs.cycles.Cycles.{fresh, tracer_after, final_state, for_passes, last_system, last_stack}
use Rattle.rows.specs.passes.Passes.{with_sides, first_row, later_rows, fixed_up, built_of, not_full, last_built}
use Rattle.rows.proofs.passes.Checks.{neither}
use Rattle.theory_runs.specs.Calls.{Handed, Call, store, finish, Fragment, Held, answered, after, call_refusal, after_all, Accepted, opened, closed, cursor_of, AllAccepted, final_states, counts_of, built_cells, OneSize}
use Rattle.theory_runs.specs.SameCalls.{all_calls, in_one}
use Rattle.theory_runs.specs.Happened.{InForce, did, stored, left_by}
use Rattle.theory_runs.specs.Written.{rows_in, rows_run}
use Rattle.theory_runs.proofs.Decoders.{same_row}
use Rattle.theory_runs.proofs.Folded.{in_force, stored_same, count-rows, Stepped, stepped, after-state, after_kept, after-force, row_made_lem, force-stored, state-stored, closed-read}

-- ROWS FROM THEIR PARTS

-- a cycle's decoder part and the states that it was handed
abbrev pub Item : Type 0
Item = Handed × DecoderRow

-- "System and stack cells of a row are those built at the previous row of its fragment"; the first have those given
unfoldable pub sided : SystemCols → StackCols → List Item → List (List ℕ)
sided s k [] = []
sided s k (x ∷ l) = row_cells s x.1 k ∷ sided (built_system x.0.system) (built_stack x.0.stack) l

unfoldable pub last_s : SystemCols → List Item → SystemCols
last_s s [] = s
last_s s (x ∷ l) = last_s (built_system x.0.system) l

unfoldable pub last_k : StackCols → List Item → StackCols
last_k k [] = k
last_k k (x ∷ l) = last_k (built_stack x.0.stack) l

unfoldable pub item_made : Handed → Answer MadeRow → List Item
item_made i (refused n) = []
item_made i (accepted m) = (i, m.row) ∷ []

sided-app : (l m : List Item) (s : SystemCols) (k : StackCols) → sided s k (l ++ m) ≡ sided s k l ++ sided (last_s s l) (last_k k l) m
unfolding sided last_s last_k
sided-app [] m s k = refl
sided-app (x ∷ l) m s k = ap (λ y. row_cells s x.1 k ∷ y) (sided-app l m (built_system x.0.system) (built_stack x.0.stack))

sided-length : (l : List Item) (s : SystemCols) (k : StackCols) → length (sided s k l) ≡ length l
unfolding sided
sided-length [] s k = refl
sided-length (x ∷ l) s k = ap suc (sided-length l (built_system x.0.system) (built_stack x.0.stack))

-- the 25 cells built last
abbrev pub cells25 : SystemCols → StackCols → List ℕ
cells25 s k = system_cells s ++ stack_cells k

-- "each later fragment's first row gets the previous fragment's last built cells"
joined : (s s' : SystemCols) (k k' : StackCols) (row : DecoderRow) → with_sides (take 6 (reduced (cells25 s k))) (drop 6 (reduced (cells25 s k))) (row_cells s' row k') ≡ row_cells s row k
unfolding with_sides reduced row_cells system_cells decoder_cells stack_cells
joined s s' k k' row = refl

pub later-none : (rows : List (List ℕ)) (size left : ℕ) → later_rows size left [] rows ≡ rows
unfolding later_rows
later-none [] size left = refl
later-none (row ∷ rows) size zero = ap (λ y. row ∷ y) (later-none rows size zero)
later-none (row ∷ rows) size (suc left) = ap (λ y. row ∷ y) (later-none rows size left)

later-skip : (l m lasts : List (List ℕ)) (size : ℕ) → later_rows size (length l) lasts (l ++ m) ≡ l ++ later_rows size 0 lasts m
unfolding later_rows
later-skip [] m lasts size = refl
later-skip (row ∷ l) m lasts size = ap (λ y. row ∷ y) (later-skip l m lasts size)

-- FRAGMENTS OF ITEMS

unfoldable rows_each : List (List Item) → List (List ℕ)
rows_each [] = []
rows_each (l ∷ ls) = sided no_system no_stack l ++ rows_each ls

unfoldable pub together : List (List Item) → List Item
together [] = []
together (l ∷ ls) = l ++ together ls

-- the cells built last before each of the fragments, as they are read; the first of the fragments follows s and k
unfoldable lasts_from : SystemCols → StackCols → List (List Item) → List (List ℕ)
lasts_from s k [] = []
lasts_from s k (l ∷ ls) = reduced (cells25 s k) ∷ lasts_from (last_s no_system l) (last_k no_stack l) ls

-- each but the last has so many
unfoldable Full : ℕ → List (List Item) → Type 0
Full size [] = Unit {0}
Full size (l ∷ []) = Unit {0}
Full size (l ∷ next ∷ ls) = (length l ≡ size) × Full size (next ∷ ls)

later-joined : (ls : List (List Item)) (size : ℕ) (s : SystemCols) (k : StackCols) → 0 < size → Full size ls → later_rows size 0 (lasts_from s k ls) (rows_each ls) ≡ sided s k (together ls)
unfolding later_rows lasts_from rows_each together Full sided last_s last_k
later-joined [] size s k some full = refl
later-joined ([] ∷ []) size s k some full = refl
later-joined ((x ∷ l) ∷ []) size s k some full =
    ap₂ (λ a b. a ∷ b) (joined s no_system k no_stack x.1) (later-none _ size (pred size) ∙ append-nil _ ∙ ap (sided (built_system x.0.system) (built_stack x.0.stack)) (sym (append-nil l)))
later-joined ([] ∷ next ∷ ls) size s k some full = absurd (omega (arith, full.0))
later-joined ((x ∷ l) ∷ next ∷ ls) size s k some full =
    let s' : SystemCols = built_system x.0.system in
    let k' : StackCols = built_stack x.0.stack in
    let e : pred size ≡ length (sided s' k' l) = omega (arith, full.0, sided-length l s' k') in
    ap₂ (λ a b. a ∷ b) (joined s no_system k no_stack x.1)
    (ap (λ n. later_rows size n (lasts_from (last_s s' l) (last_k k' l) (next ∷ ls)) (sided s' k' l ++ rows_each (next ∷ ls))) e
    ∙ later-skip (sided s' k' l) (rows_each (next ∷ ls)) (lasts_from (last_s s' l) (last_k k' l) (next ∷ ls)) size
    ∙ ap (λ y. sided s' k' l ++ y) (later-joined (next ∷ ls) size (last_s s' l) (last_k k' l) some full.1)
    ∙ sym (sided-app l (together (next ∷ ls)) s' k'))

-- the lasts of all but the first
unfoldable lasts_of : List (List Item) → List (List ℕ)
lasts_of [] = []
lasts_of (l ∷ ls) = lasts_from (last_s no_system l) (last_k no_stack l) ls

fixed-joined : (ls : List (List Item)) (size size' : ℕ) (top : List ℕ) → 0 < size → Full size ls → fixed_up size top (lasts_of ls) (rows_each ls) ≡ fixed_up size' top [] (sided no_system no_stack (together ls))
unfolding fixed_up lasts_of lasts_from rows_each together Full sided last_s last_k later_rows
fixed-joined [] size size' top some full = refl
fixed-joined ([] ∷ []) size size' top some full = refl
fixed-joined ((x ∷ l) ∷ []) size size' top some full =
    ap (λ b. first_row top (row_cells no_system x.1 no_stack) ∷ b)
    (later-none _ size (pred size) ∙ append-nil _ ∙ ap (sided (built_system x.0.system) (built_stack x.0.stack)) (sym (append-nil l)) ∙ sym (later-none _ size' (pred size')))
fixed-joined ([] ∷ next ∷ ls) size size' top some full = absurd (omega (arith, full.0))
fixed-joined ((x ∷ l) ∷ next ∷ ls) size size' top some full =
    let s' : SystemCols = built_system x.0.system in
    let k' : StackCols = built_stack x.0.stack in
    let e : pred size ≡ length (sided s' k' l) = omega (arith, full.0, sided-length l s' k') in
    ap (λ b. first_row top (row_cells no_system x.1 no_stack) ∷ b)
    (ap (λ n. later_rows size n (lasts_from (last_s s' l) (last_k k' l) (next ∷ ls)) (sided s' k' l ++ rows_each (next ∷ ls))) e
    ∙ later-skip (sided s' k' l) (rows_each (next ∷ ls)) (lasts_from (last_s s' l) (last_k k' l) (next ∷ ls)) size
    ∙ ap (λ y. sided s' k' l ++ y) (later-joined (next ∷ ls) size (last_s s' l) (last_k k' l) some full.1)
    ∙ sym (sided-app l (together (next ∷ ls)) s' k')
    ∙ sym (later-none _ size' (pred size')))

-- what was built last, where there is something behind
last-behind : (l m : List Item) (s s' : SystemCols) (k k' : StackCols) → 0 < length m → (last_s s' m ≡ last_s s (l ++ m)) × (last_k k' m ≡ last_k k (l ++ m))
unfolding last_s last_k
last-behind [] [] s s' k k' some = absurd (omega arith)
last-behind [] (x ∷ m) s s' k k' some = (refl, refl)
last-behind (x ∷ l) m s s' k k' some = last-behind l m (built_system x.0.system) s' (built_stack x.0.stack) k' some

-- THE CALLS

-- a tracer of a fragment and one of the whole: the same address state and positions, and the same values in force unless the first has
-- nothing stored yet
pub record Same (t u : CoreTraceGenerationTracer) : Type 0 where
  pub state_same : t.decoder_state ≡ u.decoder_state
  pub at_same : t.at ≡ u.at
  pub force_same : (in_force t ≡ in_force u) ⊎ (t.continuation ≡ None)

pub not-nothing : (c : Continuation) → Some c ≡ None → ⊥
not-nothing c e = let z : ◌≡◌ {A = ℕ} 0 1 = cc in omega arith

at_of : (t u : CoreTraceGenerationTracer) → in_force t ≡ in_force u → t.at ≡ u.at
unfolding in_force
at_of t u e = ap (λ (v : InForce). v.at) e

pub stored-force : (v w : InForce) (values : StoredValues) → v.at ≡ w.at → stored v values ≡ stored w values
unfolding stored
stored-force v w values e = rw e

module _ (p : Profile) (q : Queues) where
  unfoldable pub items_in : List Call → Held → List Item
  items_in [] z = []
  items_in (store values ∷ calls) z = items_in calls (after p q z (store values))
  items_in (finish i ∷ calls) z = item_made i (answered p q z i) ++ items_in calls (after p q z (finish i))

  pub item-made : (z : Held) (i : Handed) (m : MadeRow) → answered p q z i ≡ accepted m → item_made i (answered p q z i) ≡ (i, m.row) ∷ []
  unfolding item_made
  item-made z i m e = rw e

  -- the sides that a cycle leaves
  after-sides : (z : Held) (i : Handed) (m : MadeRow) → answered p q z i ≡ accepted m →
      (last_system (after p q z (finish i)).tracer ≡ built_system i.system) × (last_stack (after p q z (finish i)).tracer ≡ built_stack i.stack)
  unfolding after tracer_after last_system last_stack
  after-sides z i m e =
      let n : eqb (z.tracer.row_write_index + 1) 0 ≡ false = ne_eqb (z.tracer.row_write_index + 1) 0 (λ h. omega arith) in
      (rw (e, n), rw (e, n))

  stored-sides : (z : Held) (values : StoredValues) → z.tracer.refusal ≡ 0 → (last_system (after p q z (store values)).tracer ≡ last_system z.tracer) × (last_stack (after p q z (store values)).tracer ≡ last_stack z.tracer)
  unfolding after last_system last_stack
  stored-sides z values e = (rw (stored_same z.tracer values e), rw (stored_same z.tracer values e))

  rows-items : (calls : List Call) (z : Held) → Accepted p q calls z → rows_in p q calls z ≡ sided (last_system z.tracer) (last_stack z.tracer) (items_in calls z)
  unfolding Accepted call_refusal rows_in items_in sided
  rows-items [] z a = refl
  rows-items (store values ∷ calls) z a =
      let (e, f) = stored-sides z values a.0 in
      rows-items calls (after p q z (store values)) a.1 ∙ ap₂ (λ x y. sided x y (items_in calls (after p q z (store values)))) e f
  rows-items (finish i ∷ calls) z a =
      let s = stepped p q z i a.0 in
      let next : Held = after p q z (finish i) in
      let (e, f) = after-sides z i s.m s.answer in
      ap₂ (λ x y. x ++ y) (row_made_lem p q z i s.m s.answer) (rows-items calls next a.1 ∙ ap₂ (λ x y. sided x y (items_in calls next)) e f)
      ∙ ap (λ x. sided (last_system z.tracer) (last_stack z.tracer) (x ++ items_in calls next)) (sym (item-made z i s.m s.answer))

  last-items : (calls : List Call) (z : Held) → Accepted p q calls z →
      (last_system (after_all p q calls z).tracer ≡ last_s (last_system z.tracer) (items_in calls z)) × (last_stack (after_all p q calls z).tracer ≡ last_k (last_stack z.tracer) (items_in calls z))
  unfolding Accepted call_refusal after_all items_in last_s last_k
  last-items [] z a = (refl, refl)
  last-items (store values ∷ calls) z a =
      let (e, f) = stored-sides z values a.0 in
      let (g, h) = last-items calls (after p q z (store values)) a.1 in
      (g ∙ ap (λ x. last_s x (items_in calls (after p q z (store values)))) e, h ∙ ap (λ x. last_k x (items_in calls (after p q z (store values)))) f)
  last-items (finish i ∷ calls) z a =
      let s = stepped p q z i a.0 in
      let next : Held = after p q z (finish i) in
      let (e, f) = after-sides z i s.m s.answer in
      let (g, h) = last-items calls next a.1 in
      let k = item-made z i s.m s.answer in (
        g ∙ ap (λ x. last_s x (items_in calls next)) e ∙ ap (λ x. last_s (last_system z.tracer) (x ++ items_in calls next)) (sym k),
        h ∙ ap (λ x. last_k x (items_in calls next)) f ∙ ap (λ x. last_k (last_stack z.tracer) (x ++ items_in calls next)) (sym k),
      )

  -- ONE AFTER ANOTHER

  items-app : (l m : List Call) (z : Held) → items_in (l ++ m) z ≡ items_in l z ++ items_in m (after_all p q l z)
  unfolding items_in after_all
  items-app [] m z = refl
  items-app (store values ∷ l) m z = items-app l m (after p q z (store values))
  items-app (finish i ∷ l) m z =
      ap (λ x. item_made i (answered p q z i) ++ x) (items-app l m (after p q z (finish i))) ∙ sym (append_assoc (item_made i (answered p q z i)) (items_in l (after p q z (finish i))) (items_in m (after_all p q l (after p q z (finish i)))))

  pub final-kept : (t : CoreTraceGenerationTracer) → t.refusal ≡ 0 → (final_state t).refusal ≡ 0
  unfolding final_state
  final-kept t e = rw (eq-eqb t.refusal 0 e)

  pub kept-stored : (z : Held) (values : StoredValues) → z.tracer.refusal ≡ 0 → (after p q z (store values)).tracer.refusal ≡ 0
  unfolding after
  kept-stored z values e = rw (stored_same z.tracer values e) e

  accepted-app : (l m : List Call) (z : Held) → z.tracer.refusal ≡ 0 → Accepted p q (l ++ m) z → Accepted p q l z × Accepted p q m (after_all p q l z)
  unfolding Accepted call_refusal after_all
  accepted-app [] m z k a = (final-kept z.tracer k, a)
  accepted-app (store values ∷ l) m z k a = let y = accepted-app l m (after p q z (store values)) (kept-stored z values k) a.1 in ((a.0, y.0), y.1)
  accepted-app (finish i ∷ l) m z k a =
      let s = stepped p q z i a.0 in
      let y = accepted-app l m (after p q z (finish i)) (after_kept p q z i s.m s.answer) a.1 in
      ((a.0, y.0), y.1)

  kept-all : (l : List Call) (z : Held) → z.tracer.refusal ≡ 0 → Accepted p q l z → (after_all p q l z).tracer.refusal ≡ 0
  unfolding Accepted call_refusal after_all
  kept-all [] z k a = k
  kept-all (store values ∷ l) z k a = kept-all l (after p q z (store values)) (kept-stored z values k) a.1
  kept-all (finish i ∷ l) z k a = let s = stepped p q z i a.0 in kept-all l (after p q z (finish i)) (after_kept p q z i s.m s.answer) a.1

  -- THE SAME CALLS ON TWO TRACERS

  pub same-stored : (z w : Held) (values : StoredValues) → z.tracer.refusal ≡ 0 → w.tracer.refusal ≡ 0 → Same z.tracer w.tracer → Same (after p q z (store values)).tracer (after p q w (store values)).tracer
  unfolding in_force
  same-stored z w values h k same =
      let f = force-stored p q z values h ∙ stored-force (in_force z.tracer) (in_force w.tracer) values same.at_same ∙ sym (force-stored p q w values k) in
      record {
        state_same = state-stored p q z values h ∙ same.state_same ∙ sym (state-stored p q w values k);
        at_same = at_of (after p q z (store values)).tracer (after p q w (store values)).tracer f;
        force_same = inl f;
      }

  pub record Alike (z w : Held) (i : Handed) : Type 0 where
    pub rows_alike : item_made i (answered p q z i) ≡ item_made i (answered p q w i)
    pub next_same : Same (after p q z (finish i)).tracer (after p q w (finish i)).tracer

  pub same-finish : (z w : Held) (i : Handed) → Stepped p q z i → Stepped p q w i → (in_force z.tracer ≡ in_force w.tracer) → z.tracer.decoder_state ≡ w.tracer.decoder_state → Alike z w i
  same-finish z w i s r f e =
      let m : s.m ≡ r.m = same_row p i.forest q i.registers i.stack i.stack (length z.cells) (length w.cells) z.tracer w.tracer s.m r.m f e s.answer r.answer in
      let g = after-force p q z i s.m s.answer (did q i.forest (in_force z.tracer)) z.tracer.decoder_state s.law
      ∙ ap (λ v. left_by v (did q i.forest v)) f
      ∙ sym (after-force p q w i r.m r.answer (did q i.forest (in_force w.tracer)) w.tracer.decoder_state r.law) in
      record {
        rows_alike = item-made z i s.m s.answer ∙ ap (λ (x : MadeRow). (i, x.row) ∷ []) m ∙ sym (item-made w i r.m r.answer);
        next_same = record {
          state_same = after-state p q z i s.m s.answer ∙ ap (λ (x : MadeRow). x.state) m ∙ sym (after-state p q w i r.m r.answer);
          at_same = at_of (after p q z (finish i)).tracer (after p q w (finish i)).tracer g;
          force_same = inl g;
        };
      }

  -- nothing stored would be refused
  pub force-of : (z w : Held) (i : Handed) → Stepped p q z i → Same z.tracer w.tracer → in_force z.tracer ≡ in_force w.tracer
  force-of z w i s same = ⊎_elim (λ e. e) (λ n. absurd (not-nothing s.came_from.continuation (sym s.came_from.stored_is ∙ n))) same.force_same

  record AllAlike (l : List Call) (z w : Held) : Type 0 where
    rows_alike : items_in l z ≡ items_in l w
    last_same : Same (after_all p q l z).tracer (after_all p q l w).tracer

  all_alike : (l : List Call) (z w : Held) → Accepted p q l z → Accepted p q l w → Same z.tracer w.tracer → AllAlike l z w
  unfolding Accepted call_refusal after_all items_in
  all_alike [] z w a b same = record { rows_alike = refl; last_same = same }
  all_alike (store values ∷ l) z w a b same =
      let y = all_alike l (after p q z (store values)) (after p q w (store values)) a.1 b.1 (same-stored z w values a.0 b.0 same) in
      record { rows_alike = y.rows_alike; last_same = y.last_same }
  all_alike (finish i ∷ l) z w a b same =
      let s = stepped p q z i a.0 in
      let x = same-finish z w i s (stepped p q w i b.0) (force-of z w i s same) same.state_same in
      let y = all_alike l (after p q z (finish i)) (after p q w (finish i)) a.1 b.1 x.next_same in
      record { rows_alike = ap₂ (λ c d. c ++ d) x.rows_alike y.rows_alike; last_same = y.last_same }

  -- THE FRAGMENTS

  unfoldable pub items_each : List Fragment → Cursor → List (List Item)
  items_each [] here = []
  items_each (fragment ∷ fragments) here = items_in fragment.calls (opened p q here fragment) ∷ items_each fragments (cursor_of p q (closed p q here fragment))

  rows-each : (fragments : List Fragment) (here : Cursor) → AllAccepted p q fragments here → rows_run p q fragments here ≡ rows_each (items_each fragments here)
  unfolding AllAccepted rows_run rows_each items_each fresh last_system last_stack
  rows-each [] here a = refl
  rows-each (fragment ∷ fragments) here a =
      ap₂ (λ x y. x ++ y) (rows-items fragment.calls (opened p q here fragment) a.0) (rows-each fragments (cursor_of p q (closed p q here fragment)) a.1)

  -- the whole's rows
  pub together-items : (fragments : List Fragment) (here : Cursor) (w : Held) → AllAccepted p q fragments here → Accepted p q (all_calls fragments) w → w.tracer.refusal ≡ 0 →
      read_state here.state ≡ w.tracer.decoder_state → here.at ≡ w.tracer.at → items_in (all_calls fragments) w ≡ together (items_each fragments here)
  unfolding AllAccepted all_calls together items_each
  together-items [] here w a b k e f = unfold items_in in refl
  together-items (fragment ∷ fragments) here w a b k e f =
      let there : Cursor = cursor_of p q (closed p q here fragment) in
      let split = accepted-app fragment.calls (all_calls fragments) w k b in
      let same : Same (opened p q here fragment).tracer w.tracer = unfold fresh in record { state_same = e; at_same = f; force_same = inr refl } in
      let x = all_alike fragment.calls (opened p q here fragment) w a.0 split.0 same in
      let y = together-items fragments there (after_all p q fragment.calls w) a.1 split.1 (kept-all fragment.calls w k split.0) (closed-read p q here fragment a.0 ∙ x.last_same.state_same) x.last_same.at_same in
      items-app fragment.calls (all_calls fragments) w ∙ ap₂ (λ c d. c ++ d) (sym x.rows_alike) y

  -- the built cells that the first pass is given
  final-cells : (here : Cursor) (fragment : Fragment) → Accepted p q fragment.calls (opened p q here fragment) →
      ((final_state (closed p q here fragment).tracer).last_system_cols ≡ read_system (last_s no_system (items_in fragment.calls (opened p q here fragment))))
      × ((final_state (closed p q here fragment).tracer).last_stack_cols ≡ read_stack (last_k no_stack (items_in fragment.calls (opened p q here fragment))))
  unfolding final_state fresh last_system last_stack
  final-cells here fragment a =
      let k = kept-all fragment.calls (opened p q here fragment) refl a in
      let (g, h) = last-items fragment.calls (opened p q here fragment) a in
      (rw (eq-eqb (closed p q here fragment).tracer.refusal 0 k) (ap read_system g), rw (eq-eqb (closed p q here fragment).tracer.refusal 0 k) (ap read_stack h))

  -- built cells that are read are the reduced built cells
  read-cells : (s : SystemCols) (k : StackCols) → cells25 (read_system s) (read_stack k) ≡ reduced (cells25 s k)
  unfolding read_system read_stack system_cells stack_cells reduced cell_at
  read-cells s k = refl

  chunk : (s : SystemCols) (k : StackCols) (rest : List ℕ) → (take 25 (cells25 s k ++ rest) ≡ cells25 s k) × (drop 25 (cells25 s k ++ rest) ≡ rest)
  unfolding system_cells stack_cells
  chunk s k rest = (refl, refl)

  built-lasts : (fragments : List Fragment) (here : Cursor) (s : SystemCols) (k : StackCols) → AllAccepted p q fragments here →
      built_of (length fragments) (cells25 (read_system s) (read_stack k) ++ built_cells (final_states p q fragments here)) ≡ lasts_from s k (items_each fragments here)
  unfolding AllAccepted built_of built_cells for_passes final_states lasts_from items_each
  built-lasts [] here s k a = refl
  built-lasts (fragment ∷ fragments) here s k a =
      let there : Cursor = cursor_of p q (closed p q here fragment) in
      let l : List Item = items_in fragment.calls (opened p q here fragment) in
      let (e, f) = final-cells here fragment a.0 in
      let final : TracerFinalState = final_state (closed p q here fragment).tracer in
      let more : List ℕ = built_cells (final_states p q fragments there) in
      let (g, h) = chunk (read_system s) (read_stack k) (cells25 final.last_system_cols final.last_stack_cols ++ more) in
      ap₂ (λ x y. reduced x ∷ built_of (length fragments) y) (g ∙ read-cells s k) h
      ∙ ap₂ (λ x y. reduced (reduced (cells25 s k)) ∷ built_of (length fragments) (cells25 x y ++ more)) e f
      ∙ ap₂ (λ x y. x ∷ y) (reduced-twice (cells25 s k)) (built-lasts fragments there (last_s no_system l) (last_k no_stack l) a.1)

  pub counts-length : (fragments : List Fragment) (here : Cursor) → length (counts_of (final_states p q fragments here)) ≡ length fragments
  unfolding counts_of final_states
  counts-length [] here = refl
  counts-length (fragment ∷ fragments) here = ap suc (counts-length fragments (cursor_of p q (closed p q here fragment)))

  lasts-given : (fragments : List Fragment) (here : Cursor) → AllAccepted p q fragments here →
      built_of (length (counts_of (final_states p q fragments here)) - 1) (built_cells (final_states p q fragments here)) ≡ lasts_of (items_each fragments here)
  unfolding AllAccepted counts_of built_of built_cells for_passes final_states lasts_of items_each
  lasts-given [] here a = refl
  lasts-given (fragment ∷ fragments) here a =
      let there : Cursor = cursor_of p q (closed p q here fragment) in
      let l : List Item = items_in fragment.calls (opened p q here fragment) in
      let (e, f) = final-cells here fragment a.0 in
      let n : suc (length (counts_of (final_states p q fragments there))) - 1 ≡ length fragments = omega (arith, counts-length fragments there) in
      ap (λ m. built_of m (built_cells (final_states p q (fragment ∷ fragments) here))) n
      ∙ ap₂ (λ x y. built_of (length fragments) (cells25 x y ++ built_cells (final_states p q fragments there))) e f
      ∙ built-lasts fragments there (last_s no_system l) (last_k no_stack l) a.1

  -- as many items as the fragment's count says
  pub count-items : (here : Cursor) (fragment : Fragment) → Accepted p q fragment.calls (opened p q here fragment) →
      (for_passes (final_state (closed p q here fragment).tracer)).count ≡ length (items_in fragment.calls (opened p q here fragment))
  count-items here fragment a =
      let z : Held = opened p q here fragment in
      count-rows p q here fragment a ∙ ap (λ (x : List (List ℕ)). length x) (rows-items fragment.calls z a)
      ∙ sided-length (items_in fragment.calls z) (last_system z.tracer) (last_stack z.tracer)

  -- THE LAST BUILT CELLS

  -- where 25 does not refuse, there is a row
  pub some-items : (size : ℕ) (fragments : List Fragment) (here : Cursor) → AllAccepted p q fragments here → 0 < length fragments → not_full size (counts_of (final_states p q fragments here)) ≡ false →
      0 < length (together (items_each fragments here))
  unfolding AllAccepted counts_of final_states not_full together items_each
  some-items size [] here a some full = absurd (omega arith)
  some-items size (fragment ∷ []) here a some full =
      let l : List Item = items_in fragment.calls (opened p q here fragment) in
      omega (arith, eqb-false (for_passes (final_state (closed p q here fragment).tracer)).count 0 full, count-items here fragment a.0, length-append l [])
  some-items size (fragment ∷ next ∷ fragments) here a some full =
      let there : Cursor = cursor_of p q (closed p q here fragment) in
      let more : List ℕ = counts_of (final_states p q (next ∷ fragments) there) in
      let l : List Item = items_in fragment.calls (opened p q here fragment) in
      let y = some-items size (next ∷ fragments) there a.1 (omega arith) (neither (ltb (for_passes (final_state (closed p q here fragment).tracer)).count size) (not_full size more) full).1 in
      omega (arith, y, length-append l (together (items_each (next ∷ fragments) there)))

  last_one : (count : ℕ) (cells : List ℕ) → last_built (count ∷ []) cells ≡ take 25 cells
  unfolding last_built
  last_one count cells = refl

  last-skip : (count : ℕ) (counts : List ℕ) (final : TracerFinalState) (rest : List ℕ) → 0 < length counts → last_built (count ∷ counts) ((for_passes final).built ++ rest) ≡ last_built counts rest
  unfolding last_built for_passes
  last-skip count counts final rest some =
      let n : 25 * (suc (length counts) - 1) ≡ 25 + 25 * (length counts - 1) = omega (arith, some) in
      let cells : List ℕ = cells25 final.last_system_cols final.last_stack_cols ++ rest in
      ap (take 25)
      (ap (λ (k : ℕ). drop k cells) n ∙ sym (drop-drop (25 * (length counts - 1)) 25 cells)
      ∙ ap (drop (25 * (length counts - 1))) (chunk final.last_system_cols final.last_stack_cols rest).1)

  -- the built cells that the fourth pass is given are those of the last cycle, however the calls are cut
  pub last-cells : (size : ℕ) (fragments : List Fragment) (here : Cursor) → AllAccepted p q fragments here → 0 < length fragments → not_full size (counts_of (final_states p q fragments here)) ≡ false →
      last_built (counts_of (final_states p q fragments here)) (built_cells (final_states p q fragments here))
      ≡ reduced (cells25 (last_s no_system (together (items_each fragments here))) (last_k no_stack (together (items_each fragments here))))
  unfolding AllAccepted counts_of built_cells final_states for_passes not_full together items_each
  last-cells size [] here a some full = absurd (omega arith)
  last-cells size (fragment ∷ []) here a some full =
      let l : List Item = items_in fragment.calls (opened p q here fragment) in
      let final : TracerFinalState = final_state (closed p q here fragment).tracer in
      let (e, f) = final-cells here fragment a.0 in
      last_one _ _ ∙ (chunk final.last_system_cols final.last_stack_cols []).0 ∙ ap₂ cells25 e f ∙ read-cells (last_s no_system l) (last_k no_stack l)
      ∙ ap (λ (m : List Item). reduced (cells25 (last_s no_system m) (last_k no_stack m))) (sym (append-nil l))
  last-cells size (fragment ∷ next ∷ fragments) here a some full =
      let there : Cursor = cursor_of p q (closed p q here fragment) in
      let final : TracerFinalState = final_state (closed p q here fragment).tracer in
      let more : List ℕ = counts_of (final_states p q (next ∷ fragments) there) in
      let l : List Item = items_in fragment.calls (opened p q here fragment) in
      let m : List Item = together (items_each (next ∷ fragments) there) in
      let full' : not_full size more ≡ false = (neither (ltb (for_passes final).count size) (not_full size more) full).1 in
      let (e, f) = last-behind l m no_system no_system no_stack no_stack (some-items size (next ∷ fragments) there a.1 (omega arith) full') in
      last-skip (for_passes final).count more final (built_cells (final_states p q (next ∷ fragments) there)) (omega arith)
      ∙ last-cells size (next ∷ fragments) there a.1 (omega arith) full'
      ∙ ap₂ (λ x y. reduced (cells25 x y)) e f

  full-items : (size : ℕ) (fragments : List Fragment) (here : Cursor) → AllAccepted p q fragments here → OneSize size fragments (counts_of (final_states p q fragments here)) → Full size (items_each fragments here)
  unfolding AllAccepted counts_of final_states OneSize Full items_each
  full-items size [] here a o = tt
  full-items size (fragment ∷ []) here a o = tt
  full-items size (fragment ∷ next ∷ fragments) here a o =
      let there : Cursor = cursor_of p q (closed p q here fragment) in
      (sym (count-items here fragment a.0) ∙ o.1, full-items size (next ∷ fragments) there a.1 o.2)

  whole-rows : (fragments : List Fragment) (here : Cursor) (cells : List ℕ) → AllAccepted p q fragments here → AllAccepted p q (in_one fragments cells) here → rows_run p q (in_one fragments cells) here ≡ sided no_system no_stack (together (items_each fragments here))
  unfolding AllAccepted rows_run fresh last_system last_stack
  whole-rows fragments here cells a b =
      let whole : Fragment = record { calls = all_calls fragments; cells = cells } in
      append-nil (rows_in p q (all_calls fragments) (opened p q here whole)) ∙ rows-items (all_calls fragments) (opened p q here whole) b.0
      ∙ ap (sided no_system no_stack) (together-items fragments here (opened p q here whole) a b.0 refl refl refl)

  one_last : (fragment : Fragment) (here : Cursor) → built_of (length (counts_of (final_states p q (fragment ∷ []) here)) - 1) (built_cells (final_states p q (fragment ∷ []) here)) ≡ []
  unfolding counts_of final_states built_of
  one_last fragment here = refl

  -- after the first pass the rows have the sides that the cycle before left, across fragments too
  pub fixed-items : (size size' : ℕ) (fragments : List Fragment) (here : Cursor) (top : List ℕ) → 0 < size → AllAccepted p q fragments here → OneSize size fragments (counts_of (final_states p q fragments here)) →
      fixed_up size top (built_of (length (counts_of (final_states p q fragments here)) - 1) (built_cells (final_states p q fragments here))) (rows_run p q fragments here)
      ≡ fixed_up size' top [] (sided no_system no_stack (together (items_each fragments here)))
  fixed-items size size' fragments here top some a o =
      ap₂ (λ x y. fixed_up size top x y) (lasts-given fragments here a) (rows-each fragments here a)
      ∙ fixed-joined (items_each fragments here) size size' top some (full-items size fragments here a o)

  -- so, whatever the first stack top, the rows of the fragments are those of the same calls in one fragment
  pub unfragmented : (size size' : ℕ) (fragments : List Fragment) (here : Cursor) (top cells : List ℕ) → 0 < size → AllAccepted p q fragments here → OneSize size fragments (counts_of (final_states p q fragments here)) → AllAccepted p q (in_one fragments cells) here →
      fixed_up size top (built_of (length (counts_of (final_states p q fragments here)) - 1) (built_cells (final_states p q fragments here))) (rows_run p q fragments here)
      ≡ fixed_up size' top (built_of (length (counts_of (final_states p q (in_one fragments cells) here)) - 1) (built_cells (final_states p q (in_one fragments cells) here))) (rows_run p q (in_one fragments cells) here)
  unfragmented size size' fragments here top cells some a o b =
      fixed-items size size' fragments here top some a o
      ∙ ap₂ (λ x y. fixed_up size' top x y) (sym (one_last (record { calls = all_calls fragments; cells = cells }) here)) (sym (whole-rows fragments here cells a b))
