-- A stretch of pairs comes to the tracer and the fragment of its calls one by one.
use mathlib.Core.Path.{◌≡◌, refl, sym, ◌∙◌, ap}
use mathlib.Core.Bool.{Bool, true, false, ◌||◌}
use mathlib.Core.List.{List}
use Prim.Native.Nat.{ℕ, zero, suc, ◌+◌, ◌-◌, ◌/◌, ◌%◌, ◌<◌, ◌≤◌}
use native.Mathlib.Omega.{arith}
use borrow.Author.Tests.{le-ltb, lt-leb, ne_eqb}
use lib.Dec.{leb, ltb, eqb}
use lib.ListN.{length, get_or}
use Rattle.groups.specs.Answer.{accepted, pick}
use Rattle.groups.specs.Constants.{row_width, most_rows}
use Rattle.groups.specs.declared.helpers.OperationHelperRegisters.{OperationHelperRegisters}
use Rattle.rows.specs.declared.records.profile.Profile.{Profile}
use Rattle.rows.specs.declared.records.address_state.DecoderState.{DecoderState}
use Rattle.rows.specs.declared.records.address_state.Positions.{Positions}
use Rattle.rows.specs.declared.records.decoder_row.DecoderRow.{DecoderRow}
use Rattle.rows.specs.declared.records.state.SystemState.{SystemState}
use Rattle.rows.specs.declared.records.state.SystemCols.{SystemCols}
use Rattle.rows.specs.declared.records.state.StackCols.{StackCols}
use Rattle.rows.specs.declared.records.continuation.StoredValues.{StoredValues}
use Rattle.rows.specs.declared.records.continuation.Used.{Used}
use Rattle.rows.specs.declared.cycles.made.MadeRow.{MadeRow}
use Rattle.rows.specs.declared.cycles.scan.Scan.{Scan}
use Rattle.rows.specs.declared.cycles.tracer.CoreTraceGenerationTracer.{CoreTraceGenerationTracer}
use Rattle.rows.specs.declared.replay.pairs.Walk.{Walk}
use Rattle.rows.specs.records.Forests.{Forest}
use Rattle.rows.specs.records.Addresses.{Queues}
use Rattle.rows.specs.records.Captured.{read_captured}
use Rattle.rows.specs.records.Built.{built_system, built_stack}
use Rattle.rows.specs.records.Cells.{row_cells, put_row, row_written, fragment_wrong}
use Rattle.rows.specs.records.CallRecords.{stores, finishes, of32, stored_in_record, system_in, stack_in, registers_in, finish_in, call_in, record_at}
use Rattle.rows.specs.cycles.Made.{cursor, made}
use Rattle.rows.specs.cycles.Cycles.{storing_of, stored_in, cycle_with, tracer_after, last_system, last_stack, fragment_after}
use Rattle.rows.specs.replay.Calls.{Setting, forest_of, call_done, call_written}
use Rattle.rows.specs.ways.Pairs.{steps, steps_written, pair_made, Onward, Walked, stays, goes, BuiltBefore, tracer_behind, Walks, StandsAt, Follows}
use Rattle.groups.proofs.Answers.{then-accepted}
use Rattle.groups.proofs.OneGroup.{neither}
use Rattle.rows.proofs.records.Rooms.{row_within}
use Rattle.rows.proofs.cycles.Picks.{pick_same}

-- ONE PAIR

-- no check of a finish refuses behind a storing
pub record Passes (scan : Scan) (p : Profile) (f : Forest) (q : Queues) (cells : ℕ) (t : CoreTraceGenerationTracer) (values : StoredValues) (depth : ℕ) (registers : OperationHelperRegisters) (m : MadeRow) : Type 0 where
  pub small : scan.big ≡ false
  pub profile_right : scan.profile_wrong ≡ false
  pub not_large : scan.too_large ≡ false
  pub whole : fragment_wrong cells t.row_write_index ≡ false
  pub deep : ltb depth 16 ≡ false
  pub room : leb (cells / row_width) t.row_write_index ≡ false
  pub makes : made f q p registers values.continuation values.is_loop_body (read_captured values.captured) (cursor t.decoder_state t.at) ≡ accepted m

cycled : (scan : Scan) (p : Profile) (f : Forest) (q : Queues) (cells : ℕ) (t : CoreTraceGenerationTracer) (values : StoredValues) (c : List ℕ) (depth : ℕ) (registers : OperationHelperRegisters) (m : MadeRow) →
    t.refusal ≡ 0 → Passes scan p f q cells t values depth registers m → cycle_with scan p f q (stack_in c depth) registers cells (storing_of t values) ≡ accepted m
unfolding cycle_with stack_in
cycled scan p f q cells t values c depth registers m k h = rw (k, h.small, h.profile_right, h.not_large, h.whole, h.deep, h.makes, h.room)

storing-in : (r : List ℕ) (values : StoredValues) → eqb (get_or r 0 0) 0 ≡ true → stored_in_record r ≡ accepted values → call_in r ≡ accepted (stores values)
unfolding call_in
storing-in r values a e = rw (a, e)

finish-in : (c : List ℕ) (system : SystemState) (depth : ℕ) (registers : OperationHelperRegisters) → eqb (get_or c 0 0) 0 ≡ false → system_in c ≡ accepted system → of32 23 (get_or c 24 0) ≡ accepted depth → registers_in c ≡ accepted registers →
    call_in c ≡ accepted (finishes (get_or c 1 0) system (stack_in c depth) registers)
unfolding call_in finish_in
finish-in c system depth registers a e g h = rw (a, e, g, h)

stored_is : (s : Setting) (t : CoreTraceGenerationTracer) (values : StoredValues) → t.refusal ≡ 0 → call_done s t (accepted (stores values)) ≡ storing_of t values
unfolding call_done stored_in
stored_is s t values k = rw k

module _ (s : Setting) (t : CoreTraceGenerationTracer) (r c : List ℕ) (values : StoredValues) (system : SystemState) (depth : ℕ) (registers : OperationHelperRegisters) (m : MadeRow) where
  module _ (kept : t.refusal ≡ 0) (storing : call_in r ≡ accepted (stores values)) (finish : call_in c ≡ accepted (finishes (get_or c 1 0) system (stack_in c depth) registers))
      (h : Passes s.scan s.profile (forest_of s (get_or c 1 0)) s.queues s.cells t values depth registers m) where
    made_so : cycle_with s.scan s.profile (forest_of s (get_or c 1 0)) s.queues (stack_in c depth) registers s.cells (storing_of t values) ≡ accepted m
    made_so = cycled s.scan s.profile (forest_of s (get_or c 1 0)) s.queues s.cells t values c depth registers m kept h

    finished : call_done s (storing_of t values) (accepted (finishes (get_or c 1 0) system (stack_in c depth) registers)) ≡ tracer_behind c (t.row_write_index + 1) values m.used m.state m.at system depth
    unfolding call_done tracer_after
    finished = rw made_so

    pub pair-done : call_done s (call_done s t (call_in r)) (call_in c) ≡ tracer_behind c (t.row_write_index + 1) values m.used m.state m.at system depth
    pair-done = rw (storing, finish, stored_is s t values kept) finished

    put : (fragment : List ℕ) → call_written s (storing_of t values) (accepted (finishes (get_or c 1 0) system (stack_in c depth) registers)) (call_written s t (accepted (stores values)) fragment) ≡ put_row fragment t.row_write_index (row_cells (last_system (storing_of t values)) m.row (last_stack (storing_of t values)))
    unfolding call_written fragment_after
    put fragment = rw made_so

    pub pair-written : (fragment : List ℕ) → call_written s (call_done s t (call_in r)) (call_in c) (call_written s t (call_in r) fragment) ≡ put_row fragment t.row_write_index (row_cells (last_system (storing_of t values)) m.row (last_stack (storing_of t values)))
    pair-written fragment = rw (storing, finish, stored_is s t values kept) (put fragment)

-- the cells of a row behind the first are those that the tracer has
last_built_lem : (t : CoreTraceGenerationTracer) (values : StoredValues) (system : SystemCols) (stack : StackCols) → 0 < t.row_write_index → t.system_cols ≡ system → t.stack_cols ≡ stack →
    (last_system (storing_of t values) ≡ system) × (last_stack (storing_of t values) ≡ stack)
unfolding last_system last_stack
last_built_lem t values system stack some e g = let z : eqb t.row_write_index 0 ≡ false = ne_eqb t.row_write_index 0 (λ e. absurd (omega arith)) in (rw z e, rw z g)

-- MANY PAIRS

unfoldable pub double : ℕ → ℕ
double zero = zero
double (suc n) = suc (suc (double n))

-- the fragment behind one row more
put_step : (write : Bool) (g g' w w' entry : List ℕ) (row : ℕ) (cells : List ℕ) → g ≡ pick write w entry → g' ≡ pick write (row_written g row cells) g → row < length g / row_width → w' ≡ put_row w row cells → g' ≡ pick write w' entry
put_step true g g' w w' entry row cells e put room is = put ∙ row_within g row cells room ∙ rw (e, is)
put_step false g g' w w' entry row cells e put room is = put ∙ e

behind-same : (c c' : List ℕ) (row row' : ℕ) (values : StoredValues) (used used' : Used) (state state' : DecoderState) (at at' : Positions) (system : SystemState) (depth : ℕ) → c ≡ c' → row ≡ row' → used ≡ used' → state ≡ state' → at ≡ at' →
    tracer_behind c row values used state at system depth ≡ tracer_behind c' row' values used' state' at' system depth
behind-same c c' row row' values used used' state state' at at' system depth a b d e g = rw (a, b, d, e, g)

row_same : (w : List ℕ) (r r' : ℕ) (a a' : SystemCols) (d : DecoderRow) (b b' : StackCols) → r ≡ r' → a ≡ a' → b ≡ b' → put_row w r (row_cells a d b) ≡ put_row w r' (row_cells a' d b')
row_same w r r' a a' d b b' e g h = rw (e, g, h)

-- two calls more
steps-two : (s : Setting) (records : List ℕ) (k : ℕ) (t₀ : CoreTraceGenerationTracer) (n i j : ℕ) → k + double n ≡ i → k + suc (double n) ≡ j →
    steps s records k t₀ (double (suc n)) ≡ call_done s (call_done s (steps s records k t₀ (double n)) (call_in (record_at records i))) (call_in (record_at records j))
unfolding steps double
steps-two s records k t₀ n i j e g = rw (e, g)

written-two : (s : Setting) (records : List ℕ) (k : ℕ) (t₀ : CoreTraceGenerationTracer) (entry : List ℕ) (n i j : ℕ) → k + double n ≡ i → k + suc (double n) ≡ j →
    steps_written s records k t₀ entry (double (suc n))
    ≡ call_written s (call_done s (steps s records k t₀ (double n)) (call_in (record_at records i))) (call_in (record_at records j)) (call_written s (steps s records k t₀ (double n)) (call_in (record_at records i)) (steps_written s records k t₀ entry (double n)))
unfolding steps_written steps double
written-two s records k t₀ entry n i j e g = rw (e, g)

module _ (s : Setting) (records : List ℕ) (write : Bool) (k : ℕ) (t₀ : CoreTraceGenerationTracer) (entry : List ℕ) (forest : ℕ) where
  -- where a walk started
  abbrev pub start : Walk
  start = record { next = k; row = t₀.row_write_index; here = cursor t₀.decoder_state t₀.at; used = Used.Nothing }

  -- what the pairs are lent, and that neither the scan nor the fragment's length refuses
  pub record Sound (f : Forest) : Type 0 where
    pub lent : f ≡ forest_of s forest
    pub some : 0 < k
    pub inside : k ≤ length records / 32
    pub small : s.scan.big ≡ false
    pub profile_right : s.scan.profile_wrong ≡ false
    pub not_large : s.scan.too_large ≡ false
    pub whole : fragment_wrong s.cells t₀.row_write_index ≡ false
    pub cells : s.cells ≡ length entry

  pub sound : (f : Forest) → f ≡ forest_of s forest → 0 < k → k ≤ length records / 32
      → (s.scan.big || (s.scan.profile_wrong || (s.scan.too_large || fragment_wrong s.cells t₀.row_write_index))) ≡ false → s.cells ≡ length entry → Sound f
  sound f lent some inside checks cells =
      let (big, rest) = neither s.scan.big _ checks in
      let (wrong, rest') = neither s.scan.profile_wrong _ rest in
      let (large, whole) = neither s.scan.too_large _ rest' in
      record {
        lent = lent;
        some = some;
        inside = inside;
        small = big;
        profile_right = wrong;
        not_large = large;
        whole = whole;
        cells = cells;
      }

  -- behind a pair the tracer has what it stored and what is left of it
  unfoldable pub Last : (n : ℕ) → Walk → SystemState → (depth : ℕ) → Type 0
  Last zero w system depth = Unit {0}
  Last (suc n) w system depth = (values : StoredValues) × (stored_in_record (record_at records (w.next - 2)) ≡ accepted values)
      × (steps s records k t₀ (double (suc n)) ≡ tracer_behind (record_at records (w.next - 1)) w.row values w.used w.here.state w.here.at system depth)

  -- the calls one by one stand where the walk stands
  pub record Stands (n : ℕ) (w : Walk) (g : List ℕ) : Type 0 where
    pub next : w.next ≡ k + double n
    pub inside : w.next ≤ length records / 32
    pub kept : (steps s records k t₀ (double n)).refusal ≡ 0
    pub row : (steps s records k t₀ (double n)).row_write_index ≡ w.row
    pub some_row : 0 < w.row
    pub state : (steps s records k t₀ (double n)).decoder_state ≡ w.here.state
    pub at : (steps s records k t₀ (double n)).at ≡ w.here.at
    pub system : SystemState
    pub a_system : system_in (record_at records (w.next - 1)) ≡ accepted system
    pub system_built : (steps s records k t₀ (double n)).system_cols ≡ built_system system
    pub depth : ℕ
    pub a_depth : of32 23 (get_or (record_at records (w.next - 1)) 24 0) ≡ accepted depth
    pub stack_built : (steps s records k t₀ (double n)).stack_cols ≡ built_stack (stack_in (record_at records (w.next - 1)) depth)
    pub last : Last n w system depth
    pub put : g ≡ pick write (steps_written s records k t₀ entry (double n)) entry
    pub same_length : length g ≡ length entry

  stand-first : (f : Forest) → Sound f → BuiltBefore records k t₀ → Stands zero start entry
  unfolding steps steps_written double Last
  stand-first f h b = record {
    next = omega arith;
    inside = h.inside;
    kept = b.none_kept;
    row = refl;
    some_row = b.some_row;
    state = refl;
    at = refl;
    system = b.system;
    a_system = b.a_system;
    system_built = b.system_built;
    depth = b.depth;
    a_depth = b.a_depth;
    stack_built = b.stack_built;
    last = tt;
    put = pick_same write entry;
    same_length = refl;
  }

  module _ (f : Forest) (h : Sound f) (n : ℕ) (w w' : Walk) (g g' : List ℕ) (st : Stands n w g) (o : Onward f s.queues s.profile forest records write w g w' g') where
    abbrev tracer : CoreTraceGenerationTracer
    tracer = steps s records k t₀ (double n)

    abbrev storing : List ℕ
    storing = record_at records w.next

    abbrev finish : List ℕ
    finish = record_at records (w.next + 1)

    -- what was stored, the registers, and that no check refuses
    record Given : Type 0 where
      values : StoredValues
      a_stored : stored_in_record storing ≡ accepted values
      registers : OperationHelperRegisters
      a_registers : registers_in finish ≡ accepted registers
      makes : made f s.queues s.profile registers values.continuation values.is_loop_body (read_captured values.captured) w.here ≡ accepted o.m

    given : Given
    unfolding pair_made
    given =
        let (values, e, rest) = then-accepted (stored_in_record storing) _ o.m o.makes in
        let (registers, e', makes) = then-accepted (registers_in finish) _ o.m rest in
        record { values = values; a_stored = e; registers = registers; a_registers = e'; makes = makes }

    in-fragment : fragment_wrong s.cells tracer.row_write_index ≡ false
    unfolding fragment_wrong
    in-fragment =
        let (e, rest) = neither (ltb 0 (s.cells % row_width)) _ h.whole in
        let (e', _) = neither (ltb most_rows (s.cells / row_width)) _ rest in
        let inside : w.row ≤ s.cells / row_width = omega (arith, o.room, st.same_length, h.cells) in
        rw (e, e', st.row) (le-ltb (s.cells / row_width) w.row inside)

    passes : Passes s.scan s.profile (forest_of s (get_or finish 1 0)) s.queues s.cells tracer given.values o.is_pair.depth given.registers o.m
    passes = record {
      small = h.small;
      profile_right = h.profile_right;
      not_large = h.not_large;
      whole = in-fragment;
      deep = o.is_pair.deep;
      room = lt-leb (s.cells / row_width) tracer.row_write_index (omega (arith, o.room, st.same_length, h.cells, st.row));
      makes = rw (o.is_pair.in_forest, ← h.lent, st.state, st.at) given.makes;
    }

    a_storing : call_in storing ≡ accepted (stores given.values)
    a_storing = storing-in storing given.values o.is_pair.a_storing given.a_stored

    a-finish : call_in finish ≡ accepted (finishes (get_or finish 1 0) o.is_pair.system (stack_in finish o.is_pair.depth) given.registers)
    a-finish = finish-in finish o.is_pair.system o.is_pair.depth given.registers o.is_pair.a_cycle o.is_pair.a_system o.is_pair.a_depth given.a_registers

    first-at : k + double n ≡ w.next
    first-at = sym st.next

    second_at : k + suc (double n) ≡ w.next + 1
    second_at = omega (arith, st.next)

    last-at : w'.next - 1 ≡ w.next + 1
    last-at = omega (arith, o.next)

    stored_at : w'.next - 2 ≡ w.next
    stored_at = omega (arith, o.next)

    -- the tracer behind the pair
    stands-behind : steps s records k t₀ (double (suc n)) ≡ tracer_behind (record_at records (w'.next - 1)) w'.row given.values w'.used w'.here.state w'.here.at o.is_pair.system o.is_pair.depth
    stands-behind =
        steps-two s records k t₀ n w.next (w.next + 1) first-at second_at
        ∙ pair-done s tracer storing finish given.values o.is_pair.system o.is_pair.depth given.registers o.m st.kept a_storing a-finish passes
        ∙ behind-same _ _ _ _ given.values _ _ _ _ _ _ o.is_pair.system o.is_pair.depth (ap (record_at records) (sym last-at)) (ap (λ x. x + 1) st.row ∙ sym o.row) (sym o.used) (sym o.state) (sym o.at)

    row_put : steps_written s records k t₀ entry (double (suc n)) ≡ put_row (steps_written s records k t₀ entry (double n)) w.row (row_cells (built_system st.system) o.m.row (built_stack (stack_in (record_at records (w.next - 1)) st.depth)))
    row_put =
        let (e, e') = last_built_lem tracer given.values _ _ (omega (arith, st.row, st.some_row)) st.system_built st.stack_built in
        written-two s records k t₀ entry n w.next (w.next + 1) first-at second_at
        ∙ pair-written s tracer storing finish given.values o.is_pair.system o.is_pair.depth given.registers o.m st.kept a_storing a-finish passes (steps_written s records k t₀ entry (double n))
        ∙ row_same _ _ _ _ _ o.m.row _ _ st.row e e'

    stand-more : Stands (suc n) w' g'
    unfolding double Last
    stand-more =
        let is = stands-behind in
        record {
          next = omega (arith, o.next, st.next);
          inside = omega (arith, o.next, o.inside);
          kept = ap (λ (t : CoreTraceGenerationTracer). t.refusal) is;
          row = ap (λ (t : CoreTraceGenerationTracer). t.row_write_index) is;
          some_row = omega (arith, o.row);
          state = ap (λ (t : CoreTraceGenerationTracer). t.decoder_state) is;
          at = ap (λ (t : CoreTraceGenerationTracer). t.at) is;
          system = o.is_pair.system;
          a_system = rw last-at o.is_pair.a_system;
          system_built = ap (λ (t : CoreTraceGenerationTracer). t.system_cols) is;
          depth = o.is_pair.depth;
          a_depth = rw last-at o.is_pair.a_depth;
          stack_built = ap (λ (t : CoreTraceGenerationTracer). t.stack_cols) is;
          last = (given.values, rw stored_at given.a_stored, is);
          put = put_step write g g' _ _ entry w.row _ st.put (o.put st.system st.depth st.a_system st.a_depth) o.room row_put;
          same_length = o.same_length ∙ st.same_length;
        }

  -- behind any number of pairs
  stands : (f : Forest) (h : Sound f) (b : BuiltBefore records k t₀) (n : ℕ) (w : Walk) (g : List ℕ) → Walked f s.queues s.profile forest records write start entry n w g → Stands n w g
  stands f h b zero w g stays = stand-first f h b
  stands f h b (suc n) w g (goes before o) = stand-more f h n _ w _ g (stands f h b n _ _ before) o

  -- nothing is followed
  pub none-followed : k ≤ length records / 32 → Follows s records k t₀ write entry entry (record { next = k; tracer = t₀ })
  unfolding steps steps_written
  none-followed inside = (0, omega arith, omega (arith, inside), refl, pick_same write entry)

  went : (n : ℕ) (w : Walk) (g : List ℕ) (r : CoreTraceGenerationTracer) → Stands n w g → (w.next ≡ k → ⊥) → StandsAt records w r → Follows s records k t₀ write entry g (record { next = w.next; tracer = r })
  unfolding double Last
  went zero w g r st moved at = absurd (moved (omega (arith, st.next)))
  went (suc n) w g r st moved at =
      let (values, e, is) = st.last in
      (double (suc n), st.next, omega (arith, st.next, st.inside), at values st.system st.depth e st.a_system st.a_depth ∙ sym is, st.put)

  two-behind : (n : ℕ) (w : Walk) (g : List ℕ) → 0 < k → Stands n w g → (w.next ≡ k → ⊥) → (2 ≤ w.next) × (w.next ≤ length records / 32)
  unfolding double
  two-behind zero w g some st moved = absurd (moved (omega (arith, st.next)))
  two-behind (suc n) w g some st moved = (omega (arith, st.next), st.inside)

  module _ (f : Forest) (h : Sound f) (b : BuiltBefore records k t₀) (w : Walk) (g : List ℕ) (walked : Walks f s.queues s.profile forest records write start entry w g) where
    here : Stands walked.0 w g
    here = stands f h b walked.0 w g walked.1

    -- a walk that stayed
    pub stayed : w.next ≡ k → Follows s records k t₀ write entry g (record { next = k; tracer = t₀ })
    unfolding steps
    stayed e =
        let n = walked.0 in
        let z : 0 ≡ double n = omega (arith, here.next, e) in
        (double n, omega (arith, z), omega (arith, z, here.inside, e), ap (steps s records k t₀) z, here.put)

    -- a walk that went on
    pub goes_on : (r : CoreTraceGenerationTracer) → (w.next ≡ k → ⊥) → StandsAt records w r → Follows s records k t₀ write entry g (record { next = w.next; tracer = r })
    goes_on r moved at = went walked.0 w g r here moved at

    pub behind-two : (w.next ≡ k → ⊥) → (2 ≤ w.next) × (w.next ≤ length records / 32)
    behind-two moved = two-behind walked.0 w g h.some here moved
