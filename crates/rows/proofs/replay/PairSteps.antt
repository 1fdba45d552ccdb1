-- One pair of a stretch: what its parts come to.
use mathlib.Core.Path.{◌≡◌, refl, sym, ◌∙◌, ap}
use mathlib.Core.Bool.{Bool, true, false}
use Rattle.std.specs.Prelude.{Option, Some, None}
use mathlib.Core.List.{List, ◌++◌}
use Prim.Native.Nat.{ℕ, ◌+◌, ◌-◌, ◌*◌, ◌/◌, ◌<◌, ◌≤◌}
use native.Mathlib.Omega.{arith}
use lib.ListN.{length, take, drop, get_or}
use Rattle.field.specs.Cells.{reduced}
use Rattle.groups.specs.Answer.{accepted, refused}
use Rattle.groups.specs.Constants.{row_width}
use Rattle.groups.specs.declared.helpers.UserOpHelpers.{UserOpHelpers}
use Rattle.groups.specs.declared.context.OpCells.{OpCells}
use Rattle.groups.proofs.Answers.{never}
use Rattle.rows.specs.declared.records.ids.MastNodeId.{MastNodeId}
use Rattle.rows.specs.declared.records.profile.Profile.{Profile}
use Rattle.rows.specs.declared.records.address_state.DecoderState.{DecoderState}
use Rattle.rows.specs.declared.records.address_state.Positions.{Positions}
use Rattle.rows.specs.declared.records.state.SystemState.{SystemState}
use Rattle.rows.specs.declared.records.state.SystemCols.{SystemCols}
use Rattle.rows.specs.declared.records.decoder_row.DecoderRow.{DecoderRow}
use Rattle.rows.specs.declared.records.continuation.Used.{Used}
use Rattle.rows.specs.declared.records.continuation.StoredValues.{StoredValues}
use Rattle.rows.specs.declared.cycles.tracer.CoreTraceGenerationTracer.{CoreTraceGenerationTracer}
use Rattle.rows.specs.declared.cycles.made.MadeRow.{MadeRow}
use Rattle.rows.specs.declared.replay.pairs.StoredOp.{StoredOp}
use Rattle.rows.specs.declared.replay.pairs.PairEnd.{PairEnd}
use Rattle.rows.specs.declared.replay.pairs.Walk.{Walk}
use Rattle.rows.specs.records.Forests.{Forest}
use Rattle.rows.specs.records.Addresses.{Queues}
use Rattle.rows.specs.records.Built.{built_system, built_stack, system_cells}
use Rattle.rows.specs.records.Cells.{row_written}
use Rattle.rows.specs.records.DecoderRows.{operation, decoder_cells}
use Rattle.rows.specs.records.CallRecords.{of32, stored_in_record, system_in, stack_in, record_at}
use Rattle.rows.specs.declared.records.address_state.Cursor.{Cursor}
use Rattle.rows.specs.cycles.Made.{made}
use Rattle.rows.specs.ways.Pairs.{SystemBuilt, StackBuilt, RowBehind, StoresOperation, OperationIn, HelpersIn, pair_made, ArePair, PutBehind, TakesOperation, TakesPair, Onward, tracer_behind, StandsAt}
use Rattle.rows.proofs.records.Rooms.{cells-in-two}

-- the row that is written, and none where nothing is
pub row-behind : (before : List ℕ) (row : ℕ) (decoder : DecoderRow) (entry exit first last : List ℕ) (system : SystemCols) →
    SystemBuilt before system → first ≡ reduced (system_cells system ++ decoder_cells decoder) → StackBuilt before last → exit ≡ row_written entry row (first ++ last) → RowBehind before row decoder entry exit
row-behind before row decoder entry exit first last system sys f stk put state depth es ed =
    rw (cells-in-two (built_system state) decoder (built_stack (stack_in before depth)), ← (sys state es), ← f, ← (stk depth ed)) put

pub put-row : (write : Bool) (before : List ℕ) (row : ℕ) (m : MadeRow) (entry exit : List ℕ) (decoder : DecoderRow) →
    write ≡ true → decoder ≡ m.row → RowBehind before row decoder entry exit → PutBehind write before row m entry exit
put-row write before row m entry exit decoder w d put state depth es ed = rw (w, ← d) (put state depth es ed)

pub put-none : (write : Bool) (before : List ℕ) (row : ℕ) (m : MadeRow) (fragment : List ℕ) → write ≡ false → PutBehind write before row m fragment fragment
put-none write before row m fragment w state depth es ed = rw w

module _ (f : Forest) (push : ℕ) (id : MastNodeId) (index op : ℕ) (before c : List ℕ) (row : ℕ) (here : Cursor) (write : Bool) (entry exit : List ℕ) where
  -- an operation that is found, with its helpers
  pub operation-taken : (opcode : ℕ) (cells : OpCells) (helpers : UserOpHelpers) →
      OperationIn (Some (opcode, cells)) f push id index op → HelpersIn (Some helpers) c →
      ((m : MadeRow) → m.row ≡ operation opcode here.state.current_addr here.state.parent_addr cells.index cells.context.current_op_group cells.context.group_count_in_block helpers → PutBehind write before row m entry exit) →
      TakesOperation (Some (record { here = here; used = Used.Nothing })) f push id index op before c row here write entry exit
  operation-taken opcode cells helpers is (registers, are, told) put =
      let (following, makes) = is registers helpers here told in
      let m : MadeRow = record {
        row = operation opcode here.state.current_addr here.state.parent_addr cells.index cells.context.current_op_group cells.context.group_count_in_block helpers;
        state = here.state;
        at = here.at;
        used = Used.Nothing;
        following = following;
      } in
      (registers, are, m, makes, refl, refl, refl, put m refl)

module _ (f : Forest) (q : Queues) (p : Profile) (before s c : List ℕ) (row : ℕ) (here : Cursor) (write : Bool) (entry exit : List ℕ) where
  -- the pair of an operation that is stored
  pub stored-taken : (stored : StoredOp) (found : Option PairEnd) → StoresOperation (Some stored) s →
      TakesOperation found f p.push stored.id stored.index stored.op before c row here write entry exit → TakesPair found f q p before s c row here write entry exit
  unfolding pair_made made
  stored-taken stored (Some end) (values, found, is) (registers, are, m, makes, state, at, used, put) =
      (m, rw (found, are, is) makes, state, at, used, put)
  stored-taken stored None st same = same

-- THE RECORDS AS THEY ARE LENT

module _ (records : List ℕ) (n : ℕ) where
  abbrev pub lent_storing : List ℕ
  lent_storing = take (32 * n + 32 - 32 * n) (drop (32 * n) records)

  abbrev pub lent_cycle : List ℕ
  lent_cycle = take (32 * n + 32 + 32 - (32 * n + 32)) (drop (32 * n + 32) records)

  abbrev pub lent_before : List ℕ
  lent_before = take (32 * n - (32 * n - 32)) (drop (32 * n - 32) records)

  storing-is : lent_storing ≡ record_at records n
  unfolding record_at
  storing-is = let e : 32 * n + 32 - 32 * n ≡ 32 = omega arith in rw e

  cycle-is : lent_cycle ≡ record_at records (n + 1)
  unfolding record_at
  cycle-is =
      let e : 32 * n + 32 + 32 - (32 * n + 32) ≡ 32 = omega arith in
      let g : 32 * (n + 1) ≡ 32 * n + 32 = omega arith in
      rw (e, g)

  before-is : 0 < n → lent_before ≡ record_at records (n - 1)
  unfolding record_at
  before-is some =
      let e : 32 * n - (32 * n - 32) ≡ 32 = omega (arith, some) in
      let g : 32 * (n - 1) ≡ 32 * n - 32 = omega (arith, some) in
      rw (e, g)

-- a pair that is taken, as a walk's step
pub onward : (f : Forest) (q : Queues) (p : Profile) (forest : ℕ) (records : List ℕ) (write : Bool) (w : Walk) (entry exit : List ℕ) (is : Bool) (end : PairEnd) →
    0 < w.next → 32 * w.next + 32 + 32 ≤ length records → w.row < length entry / row_width →
    is ≡ true → ArePair is (lent_storing records w.next) (lent_cycle records w.next) forest →
    TakesPair (Some end) f q p (lent_before records w.next) (lent_storing records w.next) (lent_cycle records w.next) w.row w.here write entry exit → length exit ≡ length entry →
    Onward f q p forest records write w entry (record { next = w.next + 2; row = w.row + 1; here = end.here; used = end.used }) exit
onward f q p forest records write w entry exit is end some whole room t are takes same =
    let (m, makes, state, at, used, put) = rw (before-is records w.next some, storing-is records w.next, cycle-is records w.next) at takes in
    record {
      inside = omega (arith, whole);
      room = room;
      is_pair = rw (storing-is records w.next, cycle-is records w.next) at (are t);
      m = m;
      makes = makes;
      put = put;
      next = refl;
      row = refl;
      state = sym state;
      at = sym at;
      used = sym used;
      same_length = same;
    }

-- THE TRACER BEHIND A WALK

module _ (records : List ℕ) (w : Walk) (two : 2 ≤ w.next) where
  abbrev pub storing_behind : List ℕ
  storing_behind = take (32 * w.next - 32 - (32 * w.next - 32 - 32)) (drop (32 * w.next - 32 - 32) records)

  abbrev pub cycle_behind : List ℕ
  cycle_behind = take (32 * w.next - 32 + 32 - (32 * w.next - 32)) (drop (32 * w.next - 32) records)

  storing-behind-is : record_at records (w.next - 2) ≡ storing_behind
  unfolding record_at
  storing-behind-is =
      let e : 32 * w.next - 32 - (32 * w.next - 32 - 32) ≡ 32 = omega (arith, two) in
      let g : 32 * (w.next - 2) ≡ 32 * w.next - 32 - 32 = omega (arith, two) in
      rw (e, g)

  cycle-behind-is : record_at records (w.next - 1) ≡ cycle_behind
  unfolding record_at
  cycle-behind-is =
      let e : 32 * w.next - 32 + 32 - (32 * w.next - 32) ≡ 32 = omega (arith, two) in
      let g : 32 * (w.next - 1) ≡ 32 * w.next - 32 = omega (arith, two) in
      rw (e, g)

  -- records that hold nothing are of no pair
  pub no-values : (n : ℕ) (r : CoreTraceGenerationTracer) → stored_in_record storing_behind ≡ refused n → StandsAt records w r
  no-values n r e values system depth a b d = never n values (sym e ∙ ap stored_in_record (sym storing-behind-is) ∙ a)

  pub no-system : (n : ℕ) (r : CoreTraceGenerationTracer) → system_in cycle_behind ≡ refused n → StandsAt records w r
  no-system n r e values system depth a b d = never n system (sym e ∙ ap system_in (sym cycle-behind-is) ∙ b)

  pub no-depth : (n : ℕ) (r : CoreTraceGenerationTracer) → of32 23 (get_or cycle_behind 24 0) ≡ refused n → StandsAt records w r
  no-depth n r e values system depth a b d = never n depth (sym e ∙ ap (λ c. of32 23 (get_or c 24 0)) (sym cycle-behind-is) ∙ d)

  pub stands-so : (values : StoredValues) (system : SystemState) (depth : ℕ) (r : CoreTraceGenerationTracer) → stored_in_record storing_behind ≡ accepted values → system_in cycle_behind ≡ accepted system → of32 23 (get_or cycle_behind 24 0) ≡ accepted depth →
      r ≡ tracer_behind cycle_behind w.row values w.used w.here.state w.here.at system depth → StandsAt records w r
  stands-so values system depth r e g h is values' system' depth' a b d =
      let v : accepted values ≡ accepted values' = sym e ∙ ap stored_in_record (sym storing-behind-is) ∙ a in
      let y : accepted system ≡ accepted system' = sym g ∙ ap system_in (sym cycle-behind-is) ∙ b in
      let z : accepted depth ≡ accepted depth' = sym h ∙ ap (λ c. of32 23 (get_or c 24 0)) (sym cycle-behind-is) ∙ d in
      is ∙ same cycle_behind (record_at records (w.next - 1)) w.row values values' w.used w.here.state w.here.at system system' depth depth' (sym cycle-behind-is) v y z
    where
      same : (c c' : List ℕ) (row : ℕ) (v v' : StoredValues) (used : Used) (state : DecoderState) (at : Positions) (y y' : SystemState) (z z' : ℕ) → c ≡ c' → accepted v ≡ accepted v' → accepted y ≡ accepted y' → accepted z ≡ accepted z' →
          tracer_behind c row v used state at y z ≡ tracer_behind c' row v' used state at y' z'
      same c c' row v v' used state at y y' z z' e g h i = cc
