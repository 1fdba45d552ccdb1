-- What refusal 1 looked at before N2: document 01's "1 input cell ≥ p, used or not, .. stored values .. whole queues and forest included". The
-- theorems of proofs/ say that what these definitions let pass is as it was. They stand as they stood, under their names; one whose name is taken by what
-- stands there now ends in `Before`. What a definition here cites is today's: what N2 changed of it has a theorem of its own, and what came later is not
-- compared (`made` refuses the start of a SYSCALL node since N8). New, for the theorems' premises: `group_cells`, `LentBelow`, `depth_in`, `Narrow32`, `call_cells`.
use Rattle.std.specs.Prelude.{Option, Some, None, Result, Ok, Err}
use Rattle.groups.specs.declared.refusal.Refusal.{Refusal}
use Rattle.rows.specs.declared.records.continuation.ExecutionContextInfo.{ExecutionContextInfo}
use Rattle.std.specs.Prelude.{Bool, not, ◌||◌, List, [], ◌∷◌, ◌++◌, ℕ, ◌+◌, ◌*◌, ◌/◌, ◌<◌, leb, ltb, eqb, take, get_or}
use Rattle.field.specs.Modulus.{P}
use Rattle.field.specs.Bounds.{any_from}
use Rattle.field.specs.Inverse.{inverse_of}
use Rattle.groups.specs.Answer.{Answer, accepted, refused, and_then, pick}
use Rattle.groups.specs.Constants.{row_width, big_opcode, bad_profile, no_such_batch, low_depth, bad_length, stored_absent, no_row_left}
use Rattle.groups.specs.Batches.{record_of, is_batch}
use Rattle.groups.specs.declared.word.Word.{Word}
use Rattle.groups.specs.declared.batch.BasicBlockNode.{BasicBlockNode}
use Rattle.groups.specs.declared.batch.OpBatch.{OpBatch}
use Rattle.groups.specs.declared.helpers.OperationHelperRegisters.{OperationHelperRegisters}
use Rattle.groups.specs.declared.helpers.OperationHelperRegisters.TheVariants.{Eq, U32Split, Eqz, Expacc, FriExt2Fold4, U32Add, U32Add3, U32Sub, U32Mul, U32Madd, U32Div, U32Assert2, HPerm, MerklePath, HornerEvalBase, HornerEvalExt, LogDeferred, Empty}
use Rattle.rows.specs.declared.records.profile.Profile.{Profile}
use Rattle.rows.specs.declared.records.address_state.DecoderState.{DecoderState}
use Rattle.rows.specs.declared.records.state.SystemState.{SystemState}
use Rattle.rows.specs.declared.records.state.StackState.{StackState}
use Rattle.rows.specs.declared.records.state.SystemCols.{SystemCols}
use Rattle.rows.specs.declared.records.state.StackCols.{StackCols}
use Rattle.rows.specs.declared.records.continuation.Continuation.{Continuation}
use Rattle.rows.specs.declared.records.continuation.Captured.{Captured}
use Rattle.rows.specs.declared.records.continuation.StoredValues.{StoredValues}
use Rattle.rows.specs.records.Profiles.{profile_wrong}
use Rattle.rows.specs.records.Forests.{Forest, node_id}
use Rattle.rows.specs.records.Addresses.{Queues}
use Rattle.rows.specs.records.DecoderRows.{word_cells}
use Rattle.rows.specs.records.Built.{system_cells, cells16, stack_cells}
use Rattle.rows.specs.records.Cells.{fragment_wrong}
use Rattle.rows.specs.records.CallRecords.{RecordedCall, stores, finishes, of32, condition_in, continuation_on, names_nothing, many_cells, recorded_storing}
use Rattle.rows.specs.declared.cycles.made.MadeRow.{MadeRow}
use Rattle.rows.specs.declared.cycles.scan.Scan.{Scan}
use Rattle.rows.specs.declared.cycles.tracer.CoreTraceGenerationTracer.{CoreTraceGenerationTracer}
use Rattle.rows.specs.cycles.Made.{cursor, made}
use Rattle.rows.specs.cycles.Scans.{forest_too_large}
use Rattle.rows.specs.cycles.Cycles.{continuation_of, refuse_if}
use Rattle.rows.specs.passes.Passes.{word_from}
use Rattle.theory_reductions.specs.Below.{Below}

-- THE INVERSE FOR OTHER LANGUAGES

unfoldable pub inverse_number : ℕ → ℕ
inverse_number x = pick (ltb x P) 0 1

unfoldable pub inverse_value : ℕ → ℕ
inverse_value x = pick (ltb x P) (inverse_of x) 0

-- GROUPS

-- one of the four is no cell
unfoldable pub beyond : Word → Bool
beyond w = leb P w.0 || (leb P w.1 || (leb P w.2 || leb P w.3))

-- the batch of record r, its groups as lent
abbrev pub batch_of_before : (batches groups : List ℕ) → (r : ℕ) → OpBatch
batch_of_before batches groups r = record {
  group_count = get_or batches (12 * r) 0;
  num_ops = get_or batches (12 * r + 10) 0;
  first_op = get_or batches (12 * r + 11) 0;
  record_index = r;
  low = word_from groups (8 * r);
  high = word_from groups (8 * r + 4);
}

unfoldable pub batch_at_before : (batches groups : List ℕ) → BasicBlockNode → ℕ → Answer OpBatch
batch_at_before batches groups block index =
    pick (is_batch batches groups block index) (accepted (batch_of_before batches groups (record_of block index))) (refused no_such_batch)

-- one of the eight groups is no cell
unfoldable pub big_group : OpBatch → Bool
big_group batch = beyond batch.low || beyond batch.high

-- the eight groups
abbrev pub group_cells : OpBatch → List ℕ
group_cells batch = word_cells batch.low ++ word_cells batch.high

-- HELPERS

-- the cells of a register set, in the order of its helpers
unfoldable pub register_cells : OperationHelperRegisters → List ℕ
register_cells (Eq second first) = first ∷ second ∷ []
register_cells (U32Split lo hi) = lo ∷ hi ∷ []
register_cells (Eqz top) = top ∷ []
register_cells (Expacc val) = val ∷ []
register_cells (FriExt2Fold4 ev es x inv) = ev.0 ∷ ev.1 ∷ es.0 ∷ es.1 ∷ x ∷ inv ∷ []
register_cells (U32Add sum carry) = sum ∷ carry ∷ []
register_cells (U32Add3 sum carry) = sum ∷ carry ∷ []
register_cells (U32Sub difference) = difference ∷ []
register_cells (U32Mul lo hi) = lo ∷ hi ∷ []
register_cells (U32Madd lo hi) = lo ∷ hi ∷ []
register_cells (U32Div quotient remainder diff) = quotient ∷ remainder ∷ diff ∷ []
register_cells (U32Assert2 first second) = second ∷ first ∷ []
register_cells (HPerm addr) = addr ∷ []
register_cells (MerklePath addr) = addr ∷ []
register_cells (HornerEvalBase alpha tmp0 tmp1) = alpha.0 ∷ alpha.1 ∷ tmp1.0 ∷ tmp1.1 ∷ tmp0.0 ∷ tmp0.1 ∷ []
register_cells (HornerEvalExt alpha acc) = alpha.0 ∷ alpha.1 ∷ acc.0 ∷ acc.1 ∷ []
register_cells (LogDeferred addr root) = addr ∷ root.0 ∷ root.1 ∷ root.2 ∷ root.3 ∷ []
register_cells Empty = []

-- A CYCLE

-- what is lent
unfoldable pub lent_big : Forest → Queues → Bool
lent_big f q =
    any_from P f.digests || (any_from P f.groups || (any_from 128 f.ops
    || (any_from P q.addresses || (any_from P q.parents || any_from P q.ends))))

-- its cells are below p: digests, groups and queues. The operations are no cells
pub record LentBelow (f : Forest) (q : Queues) : Type 0 where
  pub digests : Below f.digests
  pub groups : Below f.groups
  pub addresses : Below q.addresses
  pub parents : Below q.parents
  pub ends : Below q.ends

-- the cells of a captured word and address
abbrev pub callee_cells : Option Word → List ℕ
callee_cells None = []
callee_cells (Some word) = word_cells word

abbrev pub info_cells : Option ExecutionContextInfo → List ℕ
info_cells None = []
info_cells (Some info) = info.next_overflow_addr ∷ []

-- the cells of a cycle's states, and of its tracer the address state and the cells last built
unfoldable pub state_cells : SystemState → StackState → List ℕ
state_cells system stack = word_cells system.fn_hash ++ (stack.overflow_addr ∷ cells16 stack.stack_top)

unfoldable pub tracer_cells : DecoderState → SystemCols → StackCols → List ℕ
tracer_cells state system stack =
    (state.current_addr ∷ state.parent_addr ∷ []) ++ system_cells system ++ stack_cells stack

unfoldable pub fixed_cells : SystemState → StackState → CoreTraceGenerationTracer → List ℕ
fixed_cells system stack t = state_cells system stack ++ tracer_cells t.decoder_state t.system_cols t.stack_cols

-- with them its registers and the captured values
unfoldable pub cycle_cells : SystemState → StackState → OperationHelperRegisters → CoreTraceGenerationTracer → List ℕ
cycle_cells system stack registers t =
    fixed_cells system stack t ++ register_cells registers ++ callee_cells t.captured.dyn_callee_hash ++ info_cells t.captured.ctx_info

unfoldable pub cycle_big : SystemState → StackState → OperationHelperRegisters → CoreTraceGenerationTracer → Bool
cycle_big system stack registers t = any_from P (cycle_cells system stack registers t)

-- what a scan of profile, forest and queues found
unfoldable pub scan_of_before : Profile → Forest → Queues → Scan
scan_of_before p f q = record { big = lent_big f q; profile_wrong = profile_wrong p; too_large = forest_too_large f.nodes f.batches }

-- a finish, what the scan found being given
unfoldable pub cycle_with_before : Scan → Profile → Forest → Queues → SystemState → StackState → OperationHelperRegisters → (cells : ℕ) → CoreTraceGenerationTracer → Answer MadeRow
cycle_with_before scan p f q system stack registers cells t =
    refuse_if (not (eqb t.refusal 0)) t.refusal
    (and_then (continuation_of t.continuation) (λ continuation.
    refuse_if (scan.big || cycle_big system stack registers t) big_opcode
    (refuse_if scan.profile_wrong bad_profile
    (refuse_if (scan.too_large || fragment_wrong cells t.row_write_index) bad_length
    (refuse_if (ltb stack.stack_depth 16) low_depth
    (and_then (made f q p registers continuation t.is_loop_body t.captured (cursor t.decoder_state t.at)) (λ row.
    refuse_if (leb (cells / row_width) t.row_write_index) no_row_left
    (accepted row))))))))

-- with its own scan
unfoldable pub cycle_before : Profile → Forest → Queues → SystemState → StackState → OperationHelperRegisters → (cells : ℕ) → CoreTraceGenerationTracer → Answer MadeRow
cycle_before p f q system stack registers cells t = cycle_with_before (scan_of_before p f q) p f q system stack registers cells t

-- what the captured info says of the depth, 0 where there is none
abbrev pub depth_in : Option ExecutionContextInfo → ℕ
depth_in None = 0
depth_in (Some info) = info.stack_depth

-- the numbers of 32 bits that are written into rows, and that refusal 1 did not look at: a block's total, which stands among the nodes, and the depth.
-- They are `u32` in every call. Of a Block with a total of p, SPAN's count was p and is 0
pub record Narrow32 (f : Forest) (captured : Captured) : Type 0 where
  pub nodes : Below f.nodes
  pub depth : depth_in captured.ctx_info < P

-- CALL RECORDS: a clk, ctx or depth over 32 bits was refused by 1 too, and first

unfoldable pub callee_in_before : List ℕ → Option Word
callee_in_before r = pick (eqb (get_or r 7 0) 1) (Some (word_from r 8)) None

unfoldable pub info_in_before : List ℕ → Answer (Option ExecutionContextInfo)
info_in_before r =
    pick (eqb (get_or r 12 0) 1)
    (and_then (of32 1 (get_or r 13 0)) (λ depth.
    accepted (Some (record { stack_depth = depth; next_overflow_addr = get_or r 14 0 }))))
    (accepted None)

unfoldable pub continuation_in_before : List ℕ → Answer Continuation
continuation_in_before r =
    pick (eqb (get_or r 1 0) 10)
    (accepted Continuation.EnterForest)
    (and_then (of32 3 (get_or r 2 0)) (λ id. continuation_on r (get_or r 1 0) (node_id id)))

unfoldable pub stored_in_record_before : List ℕ → Answer StoredValues
stored_in_record_before r =
    and_then (info_in_before r) (λ info.
    and_then (continuation_in_before r) (λ continuation.
    pick (names_nothing r)
    (refused stored_absent)
    (accepted (record {
      continuation = continuation;
      is_loop_body = eqb (get_or r 5 0) 1;
      captured = record { finish_loop_condition = condition_in r; dyn_callee_hash = callee_in_before r; ctx_info = info };
    }))))

unfoldable pub system_in_before : List ℕ → Answer SystemState
system_in_before r =
    and_then (of32 1 (get_or r 2 0)) (λ clk.
    and_then (of32 1 (get_or r 3 0)) (λ ctx.
    accepted (record { clk = record { 0 = clk }; ctx = record { 0 = ctx }; fn_hash = word_from r 4 })))

unfoldable pub stack_in_before : List ℕ → (depth : ℕ) → StackState
stack_in_before r depth = record {
  stack_top =
      get_or r 8 0 ∷ get_or r 9 0 ∷ get_or r 10 0 ∷ get_or r 11 0 ∷ get_or r 12 0 ∷ get_or r 13 0 ∷ get_or r 14 0 ∷ get_or r 15 0
      ∷ get_or r 16 0 ∷ get_or r 17 0 ∷ get_or r 18 0 ∷ get_or r 19 0 ∷ get_or r 20 0 ∷ get_or r 21 0 ∷ get_or r 22 0 ∷ get_or r 23 0 ∷ [];
  stack_depth = depth;
  overflow_addr = get_or r 25 0;
}

unfoldable pub registers_in_before : List ℕ → Answer OperationHelperRegisters
registers_in_before r = many_cells (get_or r 0 0) (word_from r 26) (word_from r 30)

unfoldable pub finish_in_before : List ℕ → Answer RecordedCall
finish_in_before r =
    and_then (system_in_before r) (λ system.
    and_then (of32 1 (get_or r 24 0)) (λ depth.
    and_then (registers_in_before r) (λ registers.
    accepted (finishes (get_or r 1 0) system (stack_in_before r depth) registers))))

unfoldable pub call_in_before : List ℕ → Answer RecordedCall
call_in_before r = pick (eqb (get_or r 0 0) 0) (recorded_storing (stored_in_record_before r)) (finish_in_before r)

-- the cells of a call
unfoldable pub call_cells : RecordedCall → List ℕ
call_cells (stores values) = callee_cells values.captured.dyn_callee_hash ++ info_cells values.captured.ctx_info
call_cells (finishes k system stack registers) = state_cells system stack ++ register_cells registers

abbrev pub told_info_before : Result (Option ExecutionContextInfo) Refusal → Answer (Option ExecutionContextInfo)
told_info_before (Ok info) = accepted info
told_info_before (Err refusal) = refused big_opcode

abbrev pub told_system_before : Option SystemState → Answer SystemState
told_system_before (Some system) = accepted system
told_system_before None = refused big_opcode

-- THE PASSES

-- a cell of the first n rows, as far as they are in the buffer, is no cell
unfoldable pub rows_big : (n : ℕ) → (buffer : List ℕ) → Bool
rows_big n buffer = any_from P (take (row_width * n) buffer)
