-- "Inputs that were answered get the same cells as before." (N2) Field, groups and records: where the cells that it reads are below p, each definition
-- that N2 changed is the one from before, clause by clause. What it cites is meant as it stands now, since what N2 changed there has a theorem of its own.
-- A test of refusal 1 that an answered input had passed says that its cells are below p: `tested-..` and `answered-..`.
use mathlib.Core.Path.{◌≡◌, ◌∙◌, refl, sym, ap, ap₂}
use mathlib.Core.Bool.{Bool, true, false, ◌&&◌, or_assoc, or-false}
use mathlib.Core.List.{List, [], ◌∷◌, ◌++◌}
use mathlib.Core.Logic.{◌↔◌}
use Prim.Native.Nat.{ℕ, zero, suc, ◌+◌, ◌-◌, ◌*◌, ◌/◌, ◌<◌}
use native.Mathlib.Omega.{arith}
use borrow.Author.Tests.{ltb-true, leb-false, lt-ltb, lt-leb}
use lib.Dec.{leb, ltb}
use lib.ListN.{length, get_or}
use lib.Seq.{paste}
use Rattle.field.specs.Modulus.{P}
use Rattle.field.specs.Cells.{read, cell_at, reduced}
use Rattle.field.specs.Bounds.{any_from}
use Rattle.field.specs.Inverse.{inverse_of}
use Rattle.field.proofs.CellLaws.{read_small}
use Rattle.groups.specs.Answer.{Answer, accepted, refused, and_then, pick}
use Rattle.groups.specs.Words.{word_at, read_word, read_quad}
use Rattle.groups.specs.Batches.{record_of, batch_of, is_batch, batch_at, starts_at}
use Rattle.groups.specs.Flags.{batch_flags}
use Rattle.groups.specs.GroupOfOperation.{group_of}
use Rattle.groups.specs.Contexts.{too_large, sum_from, group_cell, context_in_group, context_at_op, context_at_batch_start}
use Rattle.groups.specs.Helpers.{all_below, read_registers, u32_values, helpers_of, helpers_of_cells, helpers_answer}
use Rattle.groups.specs.declared.word.Word.{Word}
use Rattle.groups.specs.declared.word.QuadFelt.{QuadFelt}
use Rattle.groups.specs.declared.batch.BasicBlockNode.{BasicBlockNode}
use Rattle.groups.specs.declared.batch.OpBatch.{OpBatch}
use Rattle.groups.specs.declared.group.OpPlace.{OpPlace}
use Rattle.groups.specs.declared.helpers.UserOpHelpers.{UserOpHelpers}
use Rattle.groups.specs.declared.helpers.OperationHelperRegisters.{OperationHelperRegisters}
use Rattle.groups.specs.declared.helpers.OperationHelperRegisters.TheVariants.{Eq, U32Split, Eqz, Expacc, FriExt2Fold4, U32Add, U32Add3, U32Sub, U32Mul, U32Madd, U32Div, U32Assert2, HPerm, MerklePath, HornerEvalBase, HornerEvalExt, LogDeferred, Empty}
use Rattle.groups.proofs.Answers.{then-accepted, held, passed}
use Rattle.rows.specs.declared.records.state.SystemState.{SystemState}
use Rattle.rows.specs.declared.records.state.StackState.{StackState}
use Rattle.rows.specs.declared.records.state.SystemCols.{SystemCols}
use Rattle.rows.specs.declared.records.state.StackCols.{StackCols}
use Rattle.rows.specs.declared.records.decoder_row.DecoderRow.{DecoderRow}
use Rattle.rows.specs.records.Addresses.{entry_at, end_at}
use Rattle.rows.specs.records.DecoderRows.{word_cells, decoder_cells}
use Rattle.rows.specs.records.Built.{built_system, built_stack, reversed16, read16, cells16, system_cells, stack_cells}
use Rattle.rows.specs.records.Cells.{row_cells, copied_in, put_in}
use Rattle.rows.specs.passes.Passes.{word_from}
use Rattle.rows.proofs.passes.Checks.{neither}
use Rattle.theory_reductions.specs.Below.{Below}
use Rattle.theory_before_n2.specs.BeforeN2.{inverse_number, inverse_value, beyond, batch_of_before, batch_at_before, big_group, group_cells, register_cells}

-- THE BASE LAWS

-- a cell below p is read as itself
pub same_read : (x : ℕ) → x < P → read x ≡ x
same_read x h = read_small x h

-- a place whose cell is below p is read as it stands; in a list of cells below p every place is one (`below_at`)
pub same-cell_at : (cells : List ℕ) (i : ℕ) → get_or cells i 0 < P → cell_at cells i ≡ get_or cells i 0
unfolding cell_at
same-cell_at cells i h = read_small (get_or cells i 0) h

-- cells below p are reduced already
pub same-reduced : (cells : List ℕ) → Below cells → reduced cells ≡ cells
unfolding reduced Below
same-reduced [] h = refl
same-reduced (x ∷ cells) h = ap₂ (λ y ys. y ∷ ys) (read_small x h.0) (same-reduced cells h.1)

-- every place of a list of cells below p holds one
pub below_at : (cells : List ℕ) (i : ℕ) → Below cells → get_or cells i 0 < P
unfolding Below
below_at [] i h = omega arith
below_at (x ∷ cells) zero h = h.0
below_at (x ∷ cells) (suc i) h = below_at cells i h.1

-- the parts of a list of cells below p
pub below_both : (l m : List ℕ) → Below (l ++ m) → Below l × Below m
unfolding Below
below_both [] m h = (tt, h)
below_both (x ∷ l) m h = let k = below_both l m h.1 in ((h.0, k.0), k.1)

-- REFUSAL 1: its tests come to false exactly for cells below p

-- cells that passed are below p
pub below_of : (cells : List ℕ) → any_from P cells ≡ false → Below cells
unfolding any_from Below
below_of [] e = tt
below_of (x ∷ cells) e = let (a, b) = neither (leb P x) (any_from P cells) e in (leb-false P x a, below_of cells b)

-- cells below p pass
pub of-below : (cells : List ℕ) → Below cells → any_from P cells ≡ false
unfolding any_from Below
of-below [] h = refl
of-below (x ∷ cells) h = rw (lt-leb P x h.0, of-below cells h.1)

-- the test of some cells
pub tested-any_from : (cells : List ℕ) → (any_from P cells ≡ false) ↔ Below cells
tested-any_from cells = (below_of cells, of-below cells)

big-is : (batch : OpBatch) → big_group batch ≡ any_from P (group_cells batch)
unfolding big_group beyond any_from
big-is batch = simp (or_assoc, or-false)

-- the test of a batch's eight groups
pub tested-big_group : (batch : OpBatch) → (big_group batch ≡ false) ↔ Below (group_cells batch)
tested-big_group batch =
    (λ e. below_of (group_cells batch) (sym (big-is batch) ∙ e), λ h. big-is batch ∙ of-below (group_cells batch) h)

both : (a b : Bool) → (a && b) ≡ true → (a ≡ true) × (b ≡ true)
both true b e = (refl, e)
both false b e = let z : ◌≡◌ {A = ℕ} 0 1 = cc in absurd (omega arith)

below_all : (cells : List ℕ) → all_below P cells ≡ true → Below cells
unfolding all_below Below
below_all [] e = tt
below_all (x ∷ cells) e = let (a, b) = both (ltb x P) (all_below P cells) e in (ltb-true x P a, below_all cells b)

all-below : (cells : List ℕ) → Below cells → all_below P cells ≡ true
unfolding all_below Below
all-below [] h = refl
all-below (x ∷ cells) h = rw (lt-ltb x P h.0, all-below cells h.1)

-- the test of a register set's cells
pub tested-all_below : (cells : List ℕ) → (all_below P cells ≡ true) ↔ Below cells
tested-all_below cells = (below_all cells, all-below cells)

-- FIELD

-- the inverse for other languages: its number is 0
pub same-inverse_number : (x : ℕ) → x < P → 0 ≡ inverse_number x
unfolding inverse_number
same-inverse_number x h = rw (lt-ltb x P h)

-- and its value the inverse
pub same-inverse_value : (x : ℕ) → x < P → inverse_of x ≡ inverse_value x
unfolding inverse_value
same-inverse_value x h = rw (lt-ltb x P h)

-- GROUPS

-- a word of cells below p is read as itself
pub same-read_word : (w : Word) → Below (word_cells w) → read_word w ≡ w
unfolding Below
same-read_word w h =
    rw (read_small w.0 h.0, read_small w.1 h.1.0, read_small w.2 h.1.1.0, read_small w.3 h.1.1.1.0)

-- the four cells from cell i on
pub same-word_at : (cells : List ℕ) (i : ℕ)
    → Below (word_cells (word_from cells i)) → word_at cells i ≡ (get_or cells i 0, get_or cells (i + 1) 0, get_or cells (i + 2) 0, get_or cells (i + 3) 0)
unfolding word_at cell_at
same-word_at cells i h = same-read_word (word_from cells i) h

-- the cell of the operation's group
pub same-group_cell : (groups : List ℕ) (block : BasicBlockNode) (index : ℕ) (place : OpPlace)
    → get_or groups (8 * record_of block index + place.group) 0 < P
    → group_cell groups block index place ≡ get_or groups (8 * record_of block index + place.group) 0
same-group_cell groups block index place h = same-cell_at groups (8 * record_of block index + place.group) h

same-batch_of : (batches groups : List ℕ) (r : ℕ) → Below (group_cells (batch_of_before batches groups r)) → batch_of batches groups r ≡ batch_of_before batches groups r
same-batch_of batches groups r h =
    let (a, b) = below_both (word_cells (word_from groups (8 * r))) (word_cells (word_from groups (8 * r + 4))) h in
    rw (same-word_at groups (8 * r) a, same-word_at groups (8 * r + 4) b)

same-batch_at : (batches groups : List ℕ) (block : BasicBlockNode) (index : ℕ)
    → Below (group_cells (batch_of_before batches groups (record_of block index)))
    → batch_at batches groups block index ≡ batch_at_before batches groups block index
unfolding batch_at batch_at_before
same-batch_at batches groups block index h = rw (same-batch_of batches groups (record_of block index) h)

-- a test of refusal 1 that comes to false, between the look-up of a batch and what follows
untested : {B : Type 0} (t : Bool) (batch : OpBatch) (f : OpBatch → Answer B)
    → big_group batch ≡ false
    → and_then (pick t (accepted batch) (refused 5)) f ≡ and_then (pick t (accepted batch) (refused 5)) (λ b. pick (big_group b) (refused 1) (f b))
untested true batch f e = rw e
untested false batch f e = refl

tested-batch : {B : Type 0} (batches groups : List ℕ) (block : BasicBlockNode) (index : ℕ) (f : OpBatch → Answer B)
    → Below (group_cells (batch_of_before batches groups (record_of block index)))
    → and_then (batch_at batches groups block index) f ≡ and_then (batch_at_before batches groups block index) (λ b. pick (big_group b) (refused 1) (f b))
unfolding batch_at_before
tested-batch batches groups block index f h =
    let batch = batch_of_before batches groups (record_of block index) in
    ap (λ (found : Answer OpBatch). and_then found f) (same-batch_at batches groups block index h)
    ∙ untested (is_batch batches groups block index) batch f ((tested-big_group batch).1 h)

-- a look-up in a batch that was answered had eight groups below p
pub answered-groups : {B : Type 0} (batches groups : List ℕ) (block : BasicBlockNode) (index : ℕ) (f : OpBatch → Answer B) (x : B)
    → and_then (batch_at_before batches groups block index) (λ batch. pick (big_group batch) (refused 1) (f batch)) ≡ accepted x
    → Below (group_cells (batch_of_before batches groups (record_of block index)))
unfolding batch_at_before
answered-groups batches groups block index f x e =
    let batch = batch_of_before batches groups (record_of block index) in
    let found = then-accepted (pick (is_batch batches groups block index) (accepted batch) (refused 5)) (λ b. pick (big_group b) (refused 1) (f b)) x e in
    let is : batch ≡ found.0 = cc (held (is_batch batches groups block index) 5 (accepted batch) found.0 found.1).1 in
    (tested-big_group batch).0 (rw is (passed (big_group found.0) 1 (f found.0) x found.2).0)

-- at an operation: refusal 1 of the batch's eight groups is not answered
pub same-context_at_op : (push : ℕ) (block : BasicBlockNode) (batches groups : List ℕ) (index op : ℕ)
    → Below (group_cells (batch_of_before batches groups (record_of block index))) → context_at_op push block batches groups index op ≡
    and_then (batch_at_before batches groups block index) (λ batch.
    pick (big_group batch) (refused 1)
    (and_then (group_of (starts_at batches block index) batch.num_ops op) (λ place.
    context_in_group push block batches groups index batch place)))
unfolding context_at_op
same-context_at_op push block batches groups index op h =
    tested-batch batches groups block index
    (λ batch.
    and_then (group_of (starts_at batches block index) batch.num_ops op) (λ place.
    context_in_group push block batches groups index batch place))
    h

-- at the start of a batch, likewise
pub same-context_at_batch_start : (block : BasicBlockNode) (batches groups : List ℕ) (index : ℕ)
    → Below (group_cells (batch_of_before batches groups (record_of block index))) → context_at_batch_start block batches groups index ≡
    and_then (batch_at_before batches groups block index) (λ batch.
    pick (big_group batch) (refused 1)
    (and_then (batch_flags (sum_from batches block index).groups) (λ flags.
    pick (too_large block batch (sum_from batches block index).above8) (refused 11)
    (accepted (record {
      context = record { current_op_group = batch.low.0; group_count_in_block = (sum_from batches block index).groups };
      batch = batch;
      flags = flags;
    })))))
unfolding context_at_batch_start
same-context_at_batch_start block batches groups index h =
    tested-batch batches groups block index
    (λ batch.
    and_then (batch_flags (sum_from batches block index).groups) (λ flags.
    pick (too_large block batch (sum_from batches block index).above8) (refused 11)
    (accepted (record {
      context = record { current_op_group = batch.low.0; group_count_in_block = (sum_from batches block index).groups };
      batch = batch;
      flags = flags;
    }))))
    h

same-read_quad : (q : QuadFelt) → Below (q.0 ∷ q.1 ∷ []) → read_quad q ≡ q
unfolding Below
same-read_quad q h = rw (read_small q.0 h.0, read_small q.1 h.1.0)

-- a register set of cells below p is read as itself
pub same-read_registers : (r : OperationHelperRegisters) → Below (register_cells r) → read_registers r ≡ r
unfolding read_registers register_cells Below
same-read_registers (Eq second first) h = rw (read_small first h.0, read_small second h.1.0)
same-read_registers (U32Split lo hi) h = rw (read_small lo h.0, read_small hi h.1.0)
same-read_registers (Eqz top) h = rw (read_small top h.0)
same-read_registers (Expacc val) h = rw (read_small val h.0)
same-read_registers (FriExt2Fold4 ev es x inv) h =
    rw (same-read_quad ev (h.0, (h.1.0, tt)), same-read_quad es (h.1.1.0, (h.1.1.1.0, tt)), read_small x h.1.1.1.1.0, read_small inv h.1.1.1.1.1.0)
same-read_registers (U32Add sum carry) h = rw (read_small sum h.0, read_small carry h.1.0)
same-read_registers (U32Add3 sum carry) h = rw (read_small sum h.0, read_small carry h.1.0)
same-read_registers (U32Sub difference) h = rw (read_small difference h.0)
same-read_registers (U32Mul lo hi) h = rw (read_small lo h.0, read_small hi h.1.0)
same-read_registers (U32Madd lo hi) h = rw (read_small lo h.0, read_small hi h.1.0)
same-read_registers (U32Div quotient remainder diff) h =
    rw (read_small quotient h.0, read_small remainder h.1.0, read_small diff h.1.1.0)
same-read_registers (U32Assert2 first second) h = rw (read_small second h.0, read_small first h.1.0)
same-read_registers (HPerm addr) h = rw (read_small addr h.0)
same-read_registers (MerklePath addr) h = rw (read_small addr h.0)
same-read_registers (HornerEvalBase alpha tmp0 tmp1) h =
    rw (same-read_quad alpha (h.0, (h.1.0, tt)), same-read_quad tmp1 (h.1.1.0, (h.1.1.1.0, tt)), same-read_quad tmp0 (h.1.1.1.1.0, (h.1.1.1.1.1.0, tt)))
same-read_registers (HornerEvalExt alpha acc) h =
    rw (same-read_quad alpha (h.0, (h.1.0, tt)), same-read_quad acc (h.1.1.0, (h.1.1.1.0, tt)))
same-read_registers (LogDeferred addr root) h = rw (read_small addr h.0, same-read_word root h.1)
same-read_registers Empty h = refl

-- the helpers: refusal 1 of the register set is not answered
pub same-helpers_answer : (r : OperationHelperRegisters) → Below (register_cells r) → helpers_answer r ≡
    pick (all_below P (register_cells r))
    (pick (all_below 4294967296 (u32_values r)) (accepted (helpers_of r)) (refused 9))
    (refused 1)
unfolding helpers_answer helpers_of_cells
same-helpers_answer r h = rw (same-read_registers r h, (tested-all_below (register_cells r)).1 h)

-- a register set that was answered had cells below p
pub answered-helpers_answer : (r : OperationHelperRegisters) (rest : Answer UserOpHelpers) (x : UserOpHelpers)
    → pick (all_below P (register_cells r)) rest (refused 1) ≡ accepted x → Below (register_cells r)
answered-helpers_answer r rest x e = (tested-all_below (register_cells r)).0 (held (all_below P (register_cells r)) 1 rest x e).0

-- RECORDS

-- an entry of a queue of single cells
pub same-entry_at : (refusal : ℕ) (queue : List ℕ) (at : ℕ)
    → get_or queue at 0 < P → entry_at refusal queue at ≡ pick (ltb at (length queue)) (accepted (get_or queue at 0)) (refused refusal)
unfolding entry_at
same-entry_at refusal queue at h = rw (same-cell_at queue at h)

-- an entry of the end queue
pub same-end_at : (ends : List ℕ) (at : ℕ) → Below (get_or ends (3 * at) 0 ∷ get_or ends (3 * at + 1) 0 ∷ get_or ends (3 * at + 2) 0 ∷ []) → end_at ends at ≡
    pick (ltb at (length ends / 3))
    (accepted (record {
      ended_node_addr = get_or ends (3 * at) 0;
      prev_addr = get_or ends (3 * at + 1) 0;
      prev_parent_addr = get_or ends (3 * at + 2) 0;
    }))
    (refused 22)
unfolding end_at Below
same-end_at ends at h = rw (same-cell_at ends (3 * at) h.0, same-cell_at ends (3 * at + 1) h.1.0, same-cell_at ends (3 * at + 2) h.1.1.0)

-- the built system cells
pub same-built_system : (system : SystemState)
    → Below (word_cells system.fn_hash)
    → built_system system ≡ record { clk = system.clk.0 + 1; ctx = system.ctx.0; fn_hash = system.fn_hash }
unfolding built_system
same-built_system system h = rw (same-read_word system.fn_hash h)

-- sixteen cells below p, read or not
pub same-read16 : (t : List ℕ) → Below (cells16 t) → read16 t ≡ cells16 t
unfolding cell_at reduced
same-read16 t h = same-reduced (cells16 t) h

-- the first 16 of such cells
pub below-16 : (t : List ℕ) → Below t → Below (cells16 t)
unfolding Below
below-16 t h =
    let at : (i : ℕ) → get_or t i 0 < P = λ i. below_at t i h in
    (at 0, (at 1, (at 2, (at 3, (at 4, (at 5, (at 6, (at 7, (at 8, (at 9, (at 10, (at 11, (at 12, (at 13, (at 14, (at 15, tt))))))))))))))))

-- and turned round
pub below-reversed : (t : List ℕ) → Below (cells16 t) → Below (reversed16 t)
unfolding Below
below-reversed t h = omega arith

-- the built stack cells
pub same-built_stack : (stack : StackState) → Below (stack.overflow_addr ∷ cells16 stack.stack_top) → built_stack stack ≡ record {
  top = reversed16 stack.stack_top;
  b0 = stack.stack_depth;
  b1 = stack.overflow_addr;
  h0 = stack.stack_depth - 16;
}
unfolding built_stack Below
same-built_stack stack h =
    rw (same-read16 (reversed16 stack.stack_top) (below-reversed stack.stack_top h.1), read_small stack.overflow_addr h.0)

-- the 49 cells of a row
pub same-row_cells : (system : SystemCols) (row : DecoderRow) (stack : StackCols)
    → Below (system_cells system ++ decoder_cells row ++ stack_cells stack)
    → row_cells system row stack ≡ system_cells system ++ decoder_cells row ++ stack_cells stack
unfolding row_cells
same-row_cells system row stack h = same-reduced (system_cells system ++ decoder_cells row ++ stack_cells stack) h

-- cells copied in
pub same-copied_in : (buffer : List ℕ) (at : ℕ) (cells : List ℕ)
    → Below cells → copied_in buffer at cells ≡ pick (leb (at + length cells) (length buffer)) (paste buffer at cells (length cells)) buffer
unfolding copied_in put_in
same-copied_in buffer at cells h = rw (same-reduced cells h)
