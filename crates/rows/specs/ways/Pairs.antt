-- Stretches of a replay in which each storing is followed by its cycle, all in one forest: what the functions of `pairs.rt` promise. No public
-- contract names this file; `proofs/replay/Stretches.antt` shows that the tracer and the fragment are those of the calls one by one.
use Rattle.std.specs.Prelude.{◌≡◌, Option, Some, None, Bool, true, false, List, ℕ, zero, suc, ◌+◌, ◌-◌, ◌/◌, ◌<◌, ◌≤◌, ltb, eqb, length, get_or}
use Rattle.field.specs.Cells.{reduced}
use Rattle.groups.specs.Answer.{Answer, accepted, and_then, pick}
use Rattle.groups.specs.Constants.{row_width}
use Rattle.groups.specs.Helpers.{helpers_answer}
use Rattle.groups.specs.declared.helpers.OperationHelperRegisters.{OperationHelperRegisters}
use Rattle.groups.specs.declared.helpers.UserOpHelpers.{UserOpHelpers}
use Rattle.rows.specs.declared.records.ids.MastNodeId.{MastNodeId}
use Rattle.rows.specs.declared.records.profile.Profile.{Profile}
use Rattle.rows.specs.declared.records.state.SystemState.{SystemState}
use Rattle.rows.specs.declared.records.state.SystemCols.{SystemCols}
use Rattle.rows.specs.declared.records.decoder_row.DecoderRow.{DecoderRow}
use Rattle.rows.specs.declared.records.continuation.Continuation.{Continuation}
use Rattle.rows.specs.declared.records.continuation.StoredValues.{StoredValues}
use Rattle.rows.specs.declared.records.continuation.Used.{Used}
use Rattle.rows.specs.declared.cycles.made.MadeRow.{MadeRow}
use Rattle.rows.specs.declared.records.address_state.DecoderState.{DecoderState}
use Rattle.rows.specs.declared.records.address_state.Positions.{Positions}
use Rattle.rows.specs.declared.cycles.tracer.CoreTraceGenerationTracer.{CoreTraceGenerationTracer}
use Rattle.rows.specs.declared.replay.pairs.Walk.{Walk}
use Rattle.rows.specs.declared.replay.pairs.StoredOp.{StoredOp}
use Rattle.rows.specs.declared.replay.pairs.PairEnd.{PairEnd}
use Rattle.groups.specs.declared.context.OpCells.{OpCells}
use Rattle.rows.specs.declared.records.address_state.Cursor.{Cursor}
use Rattle.rows.specs.declared.replay.pairs.Followed.{Followed}
use Rattle.rows.specs.records.Forests.{Forest}
use Rattle.rows.specs.records.Addresses.{Queues}
use Rattle.rows.specs.records.Captured.{read_captured}
use Rattle.rows.specs.records.Built.{built_system, built_stack, stack_cells}
use Rattle.rows.specs.records.Cells.{row_cells, row_written}
use Rattle.rows.specs.records.DecoderRows.{operation}
use Rattle.rows.specs.records.CallRecords.{of32, stored_in_record, system_in, stack_in, registers_in, call_in, record_at}
use Rattle.rows.specs.cycles.Made.{made_with, resumed, made}
use Rattle.rows.specs.cycles.Cycles.{left_after}
use Rattle.rows.specs.replay.Calls.{Setting, call_done, call_written}

-- THE CALLS ONE BY ONE

-- the tracer after m records from record k on
unfoldable pub steps : Setting → (records : List ℕ) → (k : ℕ) → CoreTraceGenerationTracer → (m : ℕ) → CoreTraceGenerationTracer
steps s records k t zero = t
steps s records k t (suc m) = call_done s (steps s records k t m) (call_in (record_at records (k + m)))

-- the fragment after them
unfoldable pub steps_written : Setting → (records : List ℕ) → (k : ℕ) → CoreTraceGenerationTracer → List ℕ → (m : ℕ) → List ℕ
steps_written s records k t fragment zero = fragment
steps_written s records k t fragment (suc m) =
    call_written s (steps s records k t m) (call_in (record_at records (k + m))) (steps_written s records k t fragment m)

-- ONE PAIR

-- one more, of a number of 32 bits
abbrev pub ClkBehind : (clk r : ℕ) → Type 0
ClkBehind clk r = clk < 4294967296 → r ≡ clk + 1

-- cells that the cycle of a record builds
abbrev pub SystemBuilt : List ℕ → SystemCols → Type 0
SystemBuilt c system = (state : SystemState) → system_in c ≡ accepted state → system ≡ built_system state

abbrev pub StackBuilt : List ℕ → (cells : List ℕ) → Type 0
StackBuilt c cells = (depth : ℕ) → of32 23 (get_or c 24 0) ≡ accepted depth → cells ≡ reduced (stack_cells (built_stack (stack_in c depth)))

-- a row that is written behind the cycle of a record
abbrev pub RowBehind : (before : List ℕ) → (row : ℕ) → DecoderRow → (entry exit : List ℕ) → Type 0
RowBehind before row decoder entry exit =
    (state : SystemState) (depth : ℕ) → system_in before ≡ accepted state → of32 23 (get_or before 24 0) ≡ accepted depth
    → exit ≡ row_written entry row (row_cells (built_system state) decoder (built_stack (stack_in before depth)))

-- a storing that stores an operation
abbrev pub StoresOperation : Option StoredOp → List ℕ → Type 0
StoresOperation (Some op) s =
    (values : StoredValues) × (stored_in_record s ≡ accepted values) × (values.continuation ≡ Continuation.ResumeBasicBlock op.id op.index op.op)
StoresOperation None s = Unit {0}

-- an operation's row, whatever its helpers
abbrev pub OperationIn : Option (ℕ × OpCells) → Forest → (push : ℕ) → MastNodeId → (index op : ℕ) → Type 0
OperationIn (Some (opcode, cells)) f push id index op =
    (registers : OperationHelperRegisters) (helpers : UserOpHelpers) (here : Cursor) → helpers_answer registers ≡ accepted helpers → (following : ℕ)
    × (resumed f push id index op registers here ≡ made_with
    (operation opcode here.state.current_addr here.state.parent_addr cells.index cells.context.current_op_group
    cells.context.group_count_in_block helpers)
    here
    Used.Nothing
    following)
OperationIn None f push id index op = Unit {0}

-- the helpers of a cycle's record
abbrev pub HelpersIn : Option UserOpHelpers → List ℕ → Type 0
HelpersIn (Some helpers) c =
    (registers : OperationHelperRegisters) × (registers_in c ≡ accepted registers) × (helpers_answer registers ≡ accepted helpers)
HelpersIn None c = Unit {0}

-- what a storing and its cycle make
unfoldable pub pair_made : Forest → Queues → Profile → (s c : List ℕ) → Cursor → Answer MadeRow
pair_made f q p s c here =
    and_then (stored_in_record s) (λ values.
    and_then (registers_in c) (λ registers.
    made f q p registers values.continuation values.is_loop_body (read_captured values.captured) here))

abbrev pub Makes : Option MadeRow → Answer MadeRow → Type 0
Makes (Some m) answer = answer ≡ accepted m
Makes None answer = Unit {0}

-- a storing and a cycle in a forest that no check before the continuation's refuses
pub record IsPair (s c : List ℕ) (forest : ℕ) : Type 0 where
  pub a_storing : eqb (get_or s 0 0) 0 ≡ true
  pub a_cycle : eqb (get_or c 0 0) 0 ≡ false
  pub in_forest : get_or c 1 0 ≡ forest
  pub system : SystemState
  pub a_system : system_in c ≡ accepted system
  pub depth : ℕ
  pub a_depth : of32 23 (get_or c 24 0) ≡ accepted depth
  pub deep : ltb depth 16 ≡ false

abbrev pub ArePair : Bool → (s c : List ℕ) → (forest : ℕ) → Type 0
ArePair r s c forest = r ≡ true → IsPair s c forest

-- the row of a pair, behind the cycle of a record
abbrev pub PutBehind : Bool → (before : List ℕ) → (row : ℕ) → MadeRow → (entry exit : List ℕ) → Type 0
PutBehind write before row m entry exit =
    (state : SystemState) (depth : ℕ) → system_in before ≡ accepted state → of32 23 (get_or before 24 0) ≡ accepted depth
    → exit ≡ pick write (row_written entry row (row_cells (built_system state) m.row (built_stack (stack_in before depth)))) entry

-- an operation's pair that is taken, and what it leaves; else nothing is changed
abbrev pub TakesOperation : Option PairEnd → Forest → (push : ℕ) → MastNodeId → (index op : ℕ) → (before c : List ℕ) → (row : ℕ) → Cursor → (write : Bool) → (entry exit : List ℕ) → Type 0
TakesOperation (Some end) f push id index op before c row here write entry exit =
    (registers : OperationHelperRegisters) × (registers_in c ≡ accepted registers)
    × (m : MadeRow) × (resumed f push id index op registers here ≡ accepted m) × (m.state ≡ end.here.state) × (m.at ≡ end.here.at) × (m.used ≡ end.used)
    × PutBehind write before row m entry exit
TakesOperation None f push id index op before c row here write entry exit = exit ≡ entry

-- a pair that is taken moves the walk as the continuation does and writes its row; else nothing is changed
abbrev pub TakesPair : Option PairEnd → Forest → Queues → Profile → (before s c : List ℕ) → (row : ℕ) → Cursor → (write : Bool) → (entry exit : List ℕ) → Type 0
TakesPair (Some end) f q p before s c row here write entry exit =
    (m : MadeRow) × (pair_made f q p s c here ≡ accepted m) × (m.state ≡ end.here.state) × (m.at ≡ end.here.at) × (m.used ≡ end.used) × PutBehind write before row m entry exit
TakesPair None f q p before s c row here write entry exit = exit ≡ entry

-- MANY PAIRS

-- a walk goes on by one pair
pub record Onward (f : Forest) (q : Queues) (p : Profile) (forest : ℕ) (records : List ℕ) (write : Bool) (w : Walk) (entry : List ℕ) (w' : Walk) (exit : List ℕ) : Type 0 where
  pub inside : w.next + 2 ≤ length records / 32
  pub room : w.row < length entry / row_width
  pub is_pair : IsPair (record_at records w.next) (record_at records (w.next + 1)) forest
  pub m : MadeRow
  pub makes : pair_made f q p (record_at records w.next) (record_at records (w.next + 1)) w.here ≡ accepted m
  pub put : PutBehind write (record_at records (w.next - 1)) w.row m entry exit
  pub next : w'.next ≡ w.next + 2
  pub row : w'.row ≡ w.row + 1
  pub state : w'.here.state ≡ m.state
  pub at : w'.here.at ≡ m.at
  pub used : w'.used ≡ m.used
  pub same_length : length exit ≡ length entry

-- by a number of pairs
pub data Walked (f : Forest) (q : Queues) (p : Profile) (forest : ℕ) (records : List ℕ) (write : Bool) (from : Walk) (entry : List ℕ) : (pairs : ℕ) → Walk → List ℕ → Type 0 where
  stays : Walked f q p forest records write from entry zero from entry
  goes : {n : ℕ} {w w' : Walk} {g g' : List ℕ} → Walked f q p forest records write from entry n w g → Onward f q p forest records write w g w' g' → Walked f q p forest records write from entry (suc n) w' g'

abbrev pub Walks : Forest → Queues → Profile → (forest : ℕ) → (records : List ℕ) → (write : Bool) → (from : Walk) → (entry : List ℕ) → Walk → (exit : List ℕ) → Type 0
Walks f q p forest records write from entry r exit = (pairs : ℕ) × Walked f q p forest records write from entry pairs r exit

-- THE TRACER BEHIND A STRETCH

-- the cells of a tracer were built by the cycle of record k - 1, and no refusal is kept
pub record BuiltBefore (records : List ℕ) (k : ℕ) (t : CoreTraceGenerationTracer) : Type 0 where
  pub none_kept : t.refusal ≡ 0
  pub some_row : 0 < t.row_write_index
  pub system : SystemState
  pub a_system : system_in (record_at records (k - 1)) ≡ accepted system
  pub system_built : t.system_cols ≡ built_system system
  pub depth : ℕ
  pub a_depth : of32 23 (get_or (record_at records (k - 1)) 24 0) ≡ accepted depth
  pub stack_built : t.stack_cols ≡ built_stack (stack_in (record_at records (k - 1)) depth)

-- the tracer behind a pair
abbrev pub tracer_behind : (c : List ℕ) → (row : ℕ) → StoredValues → Used → DecoderState → Positions → SystemState → (depth : ℕ) → CoreTraceGenerationTracer
tracer_behind c row values used state at system depth = record {
  refusal = 0;
  row_write_index = row;
  continuation = Some values.continuation;
  is_loop_body = values.is_loop_body;
  captured = left_after used (read_captured values.captured);
  decoder_state = state;
  at = at;
  system_cols = built_system system;
  stack_cols = built_stack (stack_in c depth);
}

-- the tracer where a walk stands, behind the two records before its next
abbrev pub StandsAt : (records : List ℕ) → Walk → CoreTraceGenerationTracer → Type 0
StandsAt records w r =
    (values : StoredValues) (system : SystemState) (depth : ℕ) → stored_in_record (record_at records (w.next - 2)) ≡ accepted values
    → system_in (record_at records (w.next - 1)) ≡ accepted system → of32 23 (get_or (record_at records (w.next - 1)) 24 0) ≡ accepted depth
    → r ≡ tracer_behind (record_at records (w.next - 1)) w.row values w.used w.here.state w.here.at system depth

-- what is followed are the calls one by one
abbrev pub Follows : Setting → (records : List ℕ) → (k : ℕ) → CoreTraceGenerationTracer → (write : Bool) → (entry exit : List ℕ) → Followed → Type 0
Follows s records k t write entry exit r =
    (m : ℕ) × (r.next ≡ k + m) × (k + m ≤ length records / 32) × (r.tracer ≡ steps s records k t m) × (exit ≡ pick write (steps_written s records k t entry m) entry)

-- what is done is one call and the stretch behind it, one by one
abbrev pub Goes : Setting → (records : List ℕ) → (k : ℕ) → CoreTraceGenerationTracer → (write : Bool) → (entry exit : List ℕ) → Followed → Type 0
Goes s records k t write entry exit r =
    (m : ℕ) × (r.next ≡ k + suc m) × (k + suc m ≤ length records / 32) × (r.tracer ≡ steps s records k t (suc m)) × (exit ≡ pick write (steps_written s records k t entry (suc m)) entry)
