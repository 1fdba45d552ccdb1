-- What the records of a storing and of its cycle hold, where no check refuses them.
use Rattle.std.specs.Prelude.{Option, Some, None}
use Rattle.rows.specs.declared.records.continuation.ExecutionContextInfo.{ExecutionContextInfo}
use mathlib.Core.Path.{◌≡◌, refl, sym}
use mathlib.Core.Bool.{Bool, true, false, not, ◌&&◌, ◌||◌}
use mathlib.Core.List.{List, [], ◌∷◌}
use Prim.Native.Nat.{ℕ, ◌+◌, ◌-◌, ◌*◌, ◌<◌}
use native.Mathlib.Nat.{mod-mod}
use native.Mathlib.Omega.{arith}
use borrow.Author.Tests.{ltb-true, leb-false, eqb-true, not-true, not-false, lt-ltb}
use lib.Dec.{leb, ltb, eqb}
use lib.ListN.{length, get_or}
use Rattle.field.specs.Modulus.{P}
use Rattle.field.specs.Cells.{read, cell_at, reduced}
use Rattle.field.proofs.CellLaws.{read_small}
use Rattle.groups.specs.Answer.{accepted, and_then, pick}
use Rattle.groups.specs.Words.{word_at, read_word}
use Rattle.groups.specs.Batches.{record_of, batch_of, is_batch, batch_at, starts_at}
use Rattle.groups.specs.Contexts.{context_at_op, op_cells_of, cells_at_op}
use Rattle.groups.specs.GroupOfOperation.{falling, group_from, group_of}
use Rattle.groups.specs.Helpers.{all_below, read_registers, u32_values, six, helpers_of, helpers_of_cells, helpers_answer}
use Rattle.groups.specs.declared.batch.BasicBlockNode.{BasicBlockNode}
use Rattle.groups.specs.declared.batch.OpBatch.{OpBatch}
use Rattle.groups.specs.declared.group.OpPlace.{OpPlace}
use Rattle.groups.specs.declared.context.OpContext.{OpContext}
use Rattle.groups.specs.declared.context.OpCells.{OpCells}
use Rattle.groups.specs.declared.helpers.OperationHelperRegisters.{OperationHelperRegisters}
use Rattle.groups.proofs.Answers.{then-accepted, held, passed}
use Rattle.groups.proofs.OneGroup.{both, neither}
use Rattle.rows.specs.declared.records.ids.MastNodeId.{MastNodeId}
use Rattle.rows.specs.declared.records.forest.MastNode.{MastNode}
use Rattle.rows.specs.declared.records.continuation.Continuation.{Continuation}
use Rattle.rows.specs.declared.records.state.SystemState.{SystemState}
use Rattle.rows.specs.records.Built.{built_system, built_stack, stack_cells}
use Rattle.rows.specs.records.CallRecords.{of32, condition_in, callee_in, info_in, resume_in, continuation_on, names_no_kind, continuation_in, names_nothing, stored_in_record, system_in, stack_in, few_cells, many_cells, registers_in}
use Rattle.rows.specs.records.Forests.{Forest, node_id, node_entry, node_of, slot_block, node_at, opcode_at, block_of}
use Rattle.rows.specs.cycles.Made.{operation_made, resumed}
use Rattle.rows.specs.ways.Inner.{kind_at}
use Rattle.rows.specs.ways.Pairs.{StoresOperation, OperationIn, HelpersIn, IsPair}
use Rattle.rows.proofs.records.Slots.{slot_whole}

-- NUMBERS AND CELLS

of-32 : (n x : ℕ) → x < 4294967296 → of32 n x ≡ accepted x
unfolding of32
of-32 n x h = rw (lt-ltb x 4294967296 h)

small : (n x y : ℕ) → of32 n x ≡ accepted y → (x < 4294967296) × (x ≡ y)
unfolding of32
small n x y e = let (t, is) = held _ n (accepted x) y e in (ltb-true x 4294967296 t, cc)

-- a cell that was read is read as itself
read_cell : (r : List ℕ) (i : ℕ) → read (cell_at r i) ≡ cell_at r i
unfolding cell_at
read_cell r i = mod-mod (get_or r i 0) P

read_word_lem : (r : List ℕ) (i : ℕ) → read_word (word_at r i) ≡ word_at r i
unfolding word_at
read_word_lem r i = rw (read_cell r i, read_cell r (i + 1), read_cell r (i + 2), read_cell r (i + 3))

-- THE SYSTEM

system-is : (r : List ℕ) (state : SystemState) → system_in r ≡ accepted state
    → (get_or r 2 0 < 4294967296) × (state ≡ record { clk = record { 0 = get_or r 2 0 }; ctx = record { 0 = get_or r 3 0 }; fn_hash = word_at r 4 })
unfolding system_in
system-is r state e =
    let (clk, e1, e2) = then-accepted (of32 23 (get_or r 2 0)) _ state e in
    let (ctx, e3, e4) = then-accepted (of32 23 (get_or r 3 0)) _ state e2 in
    let (few, is) = small 23 (get_or r 2 0) clk e1 in
    let (few', is') = small 23 (get_or r 3 0) ctx e3 in
    (few, cc)

pub system_built : (r : List ℕ) (clk : ℕ) → (get_or r 2 0 < 4294967296 → clk ≡ get_or r 2 0 + 1) → (state : SystemState) → system_in r ≡ accepted state
    → record { clk = clk; ctx = get_or r 3 0; fn_hash = word_at r 4 } ≡ built_system state
unfolding built_system
system_built r clk h state e = let (few, is) = system-is r state e in rw (is, h few, read_word_lem r 4)

-- THE STACK

-- the cells of a record that has its depth
pub stack_built : (r : List ℕ) (depth : ℕ) → of32 23 (get_or r 24 0) ≡ accepted depth →
    cell_at r 23 ∷ cell_at r 22 ∷ cell_at r 21 ∷ cell_at r 20 ∷ cell_at r 19 ∷ cell_at r 18 ∷ cell_at r 17 ∷ cell_at r 16
    ∷ cell_at r 15 ∷ cell_at r 14 ∷ cell_at r 13 ∷ cell_at r 12 ∷ cell_at r 11 ∷ cell_at r 10 ∷ cell_at r 9 ∷ cell_at r 8
    ∷ get_or r 24 0 ∷ cell_at r 25 ∷ (get_or r 24 0 - 16) ∷ [] ≡ reduced (stack_cells (built_stack (stack_in r depth)))
unfolding built_stack stack_in stack_cells reduced cell_at
stack_built r depth e =
    let (few, is) = small 23 (get_or r 24 0) depth e in
    rw (is, read_small depth (omega arith), read_small (depth - 16) (omega arith)) (simp mod-mod)

-- THE HELPERS

-- number 18 names the case that has none
pub no-helpers : (r : List ℕ) → get_or r 0 0 ≡ 18 → HelpersIn (Some (six 0 0 0 0 0 0)) r
unfolding registers_in many_cells few_cells helpers_answer helpers_of_cells read_registers u32_values all_below helpers_of
no-helpers r e = (OperationHelperRegisters.Empty, rw e, refl)

-- A PAIR

module _ (s c : List ℕ) (forest : ℕ) where
  pub a_pair : (ltb (get_or c 24 0) 16 || leb 4294967296 (get_or c 24 0)) ≡ false → (leb 4294967296 (get_or c 2 0) || leb 4294967296 (get_or c 3 0)) ≡ false
      → (eqb (get_or s 0 0) 0 && (not (eqb (get_or c 0 0) 0) && eqb (get_or c 1 0) forest)) ≡ true → IsPair s c forest
  unfolding system_in
  a_pair deep few are =
      let (d, d') = neither (ltb (get_or c 24 0) 16) _ deep in
      let (x, y) = neither (leb 4294967296 (get_or c 2 0)) _ few in
      let (a, b) = both (eqb (get_or s 0 0) 0) _ are in
      let (b1, b2) = both (not (eqb (get_or c 0 0) 0)) _ b in
      record {
        a_storing = a;
        a_cycle = not-true (eqb (get_or c 0 0) 0) b1;
        in_forest = eqb-true (get_or c 1 0) forest b2;
        system = record { clk = record { 0 = get_or c 2 0 }; ctx = record { 0 = get_or c 3 0 }; fn_hash = word_at c 4 };
        a_system = rw (of-32 23 (get_or c 2 0) (leb-false _ _ x), of-32 23 (get_or c 3 0) (leb-false _ _ y));
        depth = get_or c 24 0;
        a_depth = of-32 23 (get_or c 24 0) (leb-false _ _ d');
        deep = d;
      }

-- A STORING

-- context info that has its depth, or is absent
abbrev info_by : (s : List ℕ) → (present : Bool) → Option ExecutionContextInfo
info_by s present = pick present (Some (record { stack_depth = get_or s 13 0; next_overflow_addr = cell_at s 14 })) None

info-by : (s : List ℕ) (present : Bool) → (present && leb 4294967296 (get_or s 13 0)) ≡ false
    → pick present (and_then (of32 23 (get_or s 13 0)) (λ depth. accepted (Some (record { stack_depth = depth; next_overflow_addr = cell_at s 14 })))) (accepted None) ≡ accepted (info_by s present)
info-by s true e = rw (of-32 23 (get_or s 13 0) (leb-false _ _ e))
info-by s false e = refl

pub stores : (s : List ℕ) (id index op : ℕ) → (not (eqb (get_or s 1 0) 7) || (eqb (get_or s 12 0) 1 && leb 4294967296 (get_or s 13 0))) ≡ false
    → accepted id ≡ of32 3 (get_or s 2 0) → accepted index ≡ of32 5 (get_or s 3 0) → accepted op ≡ of32 6 (get_or s 4 0) → names_nothing s ≡ false
    → StoresOperation (Some (record { id = node_id id; index = index; op = op })) s
unfolding stored_in_record continuation_in names_no_kind continuation_on resume_in info_in
stores s id index op resumes a b c named =
    let (k, n) = neither (not (eqb (get_or s 1 0) 7)) _ resumes in
    let kind = eqb-true (get_or s 1 0) 7 (not-false _ k) in (
      record {
        continuation = Continuation.ResumeBasicBlock (node_id id) index op;
        is_loop_body = eqb (get_or s 5 0) 1;
        captured = record { finish_loop_condition = condition_in s; dyn_callee_hash = callee_in s; ctx_info = info_by s (eqb (get_or s 12 0) 1) };
      },
      rw (kind, ← a, ← b, ← c, info-by s (eqb (get_or s 12 0) 1) n, named),
      refl,
    )

-- AN OPERATION

module _ (push : ℕ) (block : BasicBlockNode) (batches groups : List ℕ) (index op : ℕ) where
  -- a batch that is found is the one of its record
  batch-is : (batch : OpBatch) → batch_at batches groups block index ≡ accepted batch → batch ≡ batch_of batches groups (record_of block index)
  unfolding batch_at
  batch-is batch e = let (t, is) = held (is_batch batches groups block index) 5 (accepted (batch_of batches groups (record_of block index))) batch e in cc

  -- an operation that has a place is one of the batch's
  in-batch : (starts : List ℕ) (ops : ℕ) (place : OpPlace) → group_of starts ops op ≡ accepted place → op < ops
  unfolding group_of
  in-batch starts ops place e =
      let (t, is) = passed (leb ops op || falling starts) 6 (group_from starts ops op 0) place e in
      leb-false ops op (neither (leb ops op) _ t).0

  -- an operation that has a context has a batch
  batch-found : (found : OpContext) → context_at_op push block batches groups index op ≡ accepted found →
      (batch : OpBatch) × (batch_at batches groups block index ≡ accepted batch) × (batch ≡ batch_of batches groups (record_of block index)) × (op < batch.num_ops)
  unfolding context_at_op
  batch-found found e =
      let (batch, e1, e2) = then-accepted (batch_at batches groups block index) _ found e in
      let (place, e3, e4) = then-accepted (group_of (starts_at batches block index) batch.num_ops op) _ found e2 in
      (batch, e1, batch-is batch e1, in-batch _ _ place e3)

  context-found : (cells : OpCells) → accepted cells ≡ cells_at_op push block batches groups index op → (found : OpContext) × (context_at_op push block batches groups index op ≡ accepted found) × (cells ≡ op_cells_of found)
  unfolding cells_at_op
  context-found cells e =
      let (found, e1, e2) = then-accepted (context_at_op push block batches groups index op) _ cells (sym e) in
      (found, e1, cc)

-- a slot that holds a block
block-found : (nodes digests : List ℕ) (id : ℕ) → 2 ≡ kind_at nodes digests id → node_at nodes digests id ≡ node_entry (MastNode.Block (slot_block nodes id)) (word_at digests (4 * id))
unfolding node_at node_of
block-found nodes digests id e = let (whole, kind) = slot_whole nodes digests id 2 e (omega arith) in rw (whole, ← kind)

module _ (f : Forest) (push : ℕ) (id : MastNodeId) (index op : ℕ) (block : BasicBlockNode) (cells : OpCells) (first : ℕ) (kind : 2 ≡ kind_at f.nodes f.digests id.0)
    (is : block ≡ slot_block f.nodes id.0) (starts : first ≡ get_or f.batches (12 * record_of block index + 11) 0) (inside : first + op < length f.ops) where
  operation-at : (found : OpContext) (batch : OpBatch) → context_at_op push block f.batches f.groups index op ≡ accepted found → cells ≡ op_cells_of found
      → batch_at f.batches f.groups block index ≡ accepted batch → first ≡ batch.first_op → op < batch.num_ops
      → OperationIn (Some (get_or f.ops (first + op) 0, cells)) f push id index op
  unfolding resumed operation_made opcode_at block_of
  operation-at found batch e shown e1 e2 less registers helpers here h =
      (found.place.following, rw (block-found f.nodes f.digests id.0 kind, ← is, e1, lt-ltb op batch.num_ops less, ← e2, lt-ltb (first + op) (length f.ops) inside, e, h, shown))

  pub operation-in : accepted cells ≡ cells_at_op push block f.batches f.groups index op → OperationIn (Some (get_or f.ops (first + op) 0, cells)) f push id index op
  operation-in told =
      let (found, e, shown) = context-found push block f.batches f.groups index op cells told in
      let (batch, e1, e2, less) = batch-found push block f.batches f.groups index op found e in
      operation-at found batch e shown e1 (cc) less
