-- What a cycle looks up is below p, since it is read so: words, digests, queue entries, helpers, groups; and the counts of groups, where the totals are.
use mathlib.Core.Path.{◌≡◌, ◌∙◌, refl, sym, subst}
use mathlib.Core.Bool.{Bool, true, false, ◌&&◌, ◌||◌}
use mathlib.Core.List.{List, [], ◌∷◌}
use Prim.Native.Nat.{ℕ, zero, suc, ◌+◌, ◌-◌, ◌*◌, ◌/◌, ◌%◌, ◌^◌, ◌<◌, ◌≤◌}
use native.Mathlib.Omega.{arith}
use native.Mathlib.Nat.{div-le_self}
use borrow.Author.Tests.{ltb-false, leb-false}
use lib.Dec.{leb, ltb, eqb}
use lib.ListN.{length, get_or}
use Rattle.field.specs.Modulus.{P}
use Rattle.field.specs.Cells.{read, cell_at}
use Rattle.field.proofs.CellLaws.{cell_below, read_below}
use Rattle.field.proofs.InverseLaws.{inverse-below}
use Rattle.groups.specs.Answer.{Answer, accepted, refused, pick}
use Rattle.groups.specs.Words.{word_at}
use Rattle.groups.specs.Batches.{record_of, batch_of, is_batch, batch_at, starts_at, lent_batches}
use Rattle.groups.specs.GroupsLeft.{counts, groups_of, sum_groups, any_above8, group_sum}
use Rattle.groups.specs.GroupOfOperation.{group_of}
use Rattle.groups.specs.Contexts.{too_large, sum_before, sum_from, consumed, op_context, context_in_group, context_at_op, context_at_batch_start}
use Rattle.groups.specs.Flags.{flags_up_to8, batch_flags}
use Rattle.groups.specs.Helpers.{all_below, read_registers, u32_values, minus, limbs_and_inverse, helpers_of, helpers_of_cells, helpers_answer}
use Rattle.groups.specs.declared.word.Word.{Word}
use Rattle.groups.specs.declared.batch.OpBatch.{OpBatch}
use Rattle.groups.specs.declared.context.OpContext.{OpContext}
use Rattle.groups.specs.declared.context.BatchContext.{BatchContext}
use Rattle.groups.proofs.Answers.{never, then-accepted, held, passed}
use Rattle.groups.proofs.OneGroup.{lies}
use Rattle.groups.specs.declared.flags.BatchFlags.{BatchFlags}
use Rattle.groups.specs.declared.helpers.UserOpHelpers.{UserOpHelpers}
use Rattle.groups.specs.declared.helpers.OperationHelperRegisters.{OperationHelperRegisters}
use Rattle.groups.specs.declared.helpers.OperationHelperRegisters.TheVariants.{Eq, U32Split, Eqz, Expacc, FriExt2Fold4, U32Add, U32Add3, U32Sub, U32Mul, U32Madd, U32Div, U32Assert2, HPerm, MerklePath, HornerEvalBase, HornerEvalExt, LogDeferred, Empty}
use Rattle.groups.specs.declared.batch.BasicBlockNode.{BasicBlockNode}
use Rattle.rows.specs.declared.records.address_state.DecoderState.{DecoderState}
use Rattle.rows.specs.declared.records.address_state.Positions.{Positions}
use Rattle.rows.specs.declared.records.address_state.NodeEndData.{NodeEndData}
use Rattle.rows.specs.declared.records.forest.MastNode.{MastNode}
use Rattle.rows.specs.declared.records.forest.NodeEntry.{NodeEntry}
use Rattle.rows.specs.declared.records.decoder_row.DecoderRow.{DecoderRow}
use Rattle.rows.specs.records.Forests.{is_slot, node_id, node_entry, node_of, slot_block, node_at, digest_at, block_of}
use Rattle.rows.specs.records.Addresses.{started_at, end_at}
use Rattle.rows.specs.records.DecoderRows.{word_cells, decoder_cells}
use Rattle.rows.proofs.records.Bits.{bit-mul}
use Rattle.rows.proofs.passes.Checks.{neither}
use Rattle.theory_reductions.specs.Below.{Below}
use Rattle.theory_reductions.proofs.StatesRead.{IsCell, IsRead, Gives, current-is, parent_is, started-read}
use Rattle.theory_before_n2.proofs.SameCells.{below_at}

-- THE CELLS OF A ROW

-- three batch flags
abbrev pub FlagsBelow : BatchFlags → Type 0
FlagsBelow f = (f.0 < P) × (f.1 < P) × (f.2 < P)

-- a decoder row whose numbers are below p; the opcode may be any number
pub record RowBelow (d : DecoderRow) : Type 0 where
  pub addr : d.addr < P
  pub first : Below (word_cells d.hasher_state_first_word)
  pub second : Below (word_cells d.hasher_state_second_word)
  pub in_block : d.in_basic_block < P
  pub count : d.group_count < P
  pub index : d.op_index < P
  pub flags : FlagsBelow d.op_batch_flags

-- its 24 cells
pub below-decoder : (d : DecoderRow) → RowBelow d → Below (decoder_cells d)
unfolding Below decoder_cells
below-decoder d h =
    let op = d.opcode in
    let bits : op / 64 % 2 * (1 - op / 32 % 2) ≤ 1 = bit-mul (op / 64 % 2) (1 - op / 32 % 2) (omega arith) (omega arith) in
    let e0 : op / 64 % 2 * (1 - op / 32 % 2) * (op / 16 % 2) ≤ 1 = bit-mul (op / 64 % 2 * (1 - op / 32 % 2)) (op / 16 % 2) bits (omega arith) in
    let e1 : op / 64 % 2 * (op / 32 % 2) ≤ 1 = bit-mul (op / 64 % 2) (op / 32 % 2) (omega arith) (omega arith) in
    let first = h.first in
    let second = h.second in
    let flags = h.flags in
    omega arith

-- a word that is looked up
pub below_word : (cells : List ℕ) (i : ℕ) → Below (word_cells (word_at cells i))
unfolding Below word_at
below_word cells i = (cell_below cells i, (cell_below cells (i + 1), (cell_below cells (i + 2), (cell_below cells (i + 3), tt))))

-- WHAT IS LOOKED UP

-- an answer of one of two is one of them
pub either : {A C : Type 0} (t : Bool) (x rest : Answer A) (y : A) → pick t x rest ≡ accepted y → (x ≡ accepted y → C) → (rest ≡ accepted y → C) → C
either true x rest y e f g = f e
either false x rest y e f g = g e

-- the digest of an id
pub below-digest : (nodes digests : List ℕ) (id : ℕ) (w : Word) → digest_at nodes digests id ≡ accepted w → Below (word_cells w)
unfolding digest_at
below-digest nodes digests id w e =
    let test = is_slot nodes digests id && (ltb 0 (get_or nodes (6 * id) 0) && leb (get_or nodes (6 * id) 0) 10) in
    let a = held test 3 (accepted (word_at digests (4 * id))) w e in
    let is : word_at digests (4 * id) ≡ w = cc a.1 in
    subst (λ (v : Word). Below (word_cells v)) is (below_word digests (4 * id))

-- the node of an id: its digest, and its total where it is a block
pub record NodeBelow (entry : NodeEntry) : Type 0 where
  pub digest : Below (word_cells entry.digest)
  pub total : (block : BasicBlockNode) → block_of entry.node ≡ accepted block → block.total < P

below-entry : (digests : List ℕ) (id : ℕ) (node : MastNode) (entry : NodeEntry)
    → ((block : BasicBlockNode) → block_of node ≡ accepted block → block.total < P)
    → node_entry node (word_at digests (4 * id)) ≡ accepted entry → NodeBelow entry
below-entry digests id node entry h e =
    let is : record { node = node; digest = word_at digests (4 * id) } ≡ entry = cc in
    subst NodeBelow is (record { digest = below_word digests (4 * id); total = h })

pub below-node : (nodes digests : List ℕ) (id : ℕ) (entry : NodeEntry) → Below nodes → node_at nodes digests id ≡ accepted entry → NodeBelow entry
unfolding node_at node_of block_of
below-node nodes digests id entry h e =
    either (is_slot nodes digests id) (node_of kind first second (slot_block nodes id) (word_at digests (4 * id))) (refused 3) entry e
    (λ e. either (eqb kind 2) _ _ entry e block
    (λ e. either (eqb kind 3) _ _ entry e (other (MastNode.Join (node_id first) (node_id second)) refl)
    (λ e. either (eqb kind 4) _ _ entry e (other (MastNode.Split (node_id first) (node_id second)) refl)
    (λ e. either (eqb kind 5) _ _ entry e (other (MastNode.Loop (node_id first)) refl)
    (λ e. either (eqb kind 6) _ _ entry e (other (MastNode.Call (node_id first)) refl)
    (λ e. either (eqb kind 7) _ _ entry e (other (MastNode.Syscall (node_id first)) refl)
    (λ e. either (eqb kind 8) _ _ entry e (other MastNode.Dyn refl)
    (λ e. either (eqb kind 9) _ _ entry e (other MastNode.Dyncall refl)
    (λ e. either (eqb kind 10) _ _ entry e (other MastNode.External refl)
    (never 3 entry))))))))))
    (never 3 entry)
  where
    kind : ℕ
    kind = get_or nodes (6 * id) 0

    first : ℕ
    first = get_or nodes (6 * id + 1) 0

    second : ℕ
    second = get_or nodes (6 * id + 2) 0

    block : node_entry (MastNode.Block (slot_block nodes id)) (word_at digests (4 * id)) ≡ accepted entry → NodeBelow entry
    block a =
        below-entry digests id (MastNode.Block (slot_block nodes id)) entry (λ b q.
        let is : slot_block nodes id ≡ b = cc in
        subst (λ (x : BasicBlockNode). x.total < P) is (below_at nodes (6 * id + 3) h)) a

    other : (node : MastNode) → block_of node ≡ refused 4 → node_entry node (word_at digests (4 * id)) ≡ accepted entry → NodeBelow entry
    other node n a = below-entry digests id node entry (λ b q. never 4 b (sym n ∙ q)) a

-- the six helpers
abbrev pub helper_cells : UserOpHelpers → List ℕ
helper_cells h = h.h2 ∷ h.h3 ∷ h.h4 ∷ h.h5 ∷ h.h6 ∷ h.h7 ∷ []

limbs-below : (lo hi : ℕ) → lo < P → hi < P → Below (helper_cells (limbs_and_inverse lo hi))
unfolding Below
limbs-below lo hi h k = (omega arith, (omega arith, (omega arith, (omega arith, (inverse-below (minus 4294967295 hi), (omega arith, tt))))))

helpers-below : (r : OperationHelperRegisters) → Below (helper_cells (helpers_of (read_registers r)))
unfolding helpers_of read_registers Below
helpers-below (Eq second first) = (inverse-below (minus (read first) (read second)), omega arith)
helpers-below (U32Split lo hi) = limbs-below (read lo) (read hi) (read_below lo) (read_below hi)
helpers-below (Eqz top) = (inverse-below (read top), omega arith)
helpers-below (Expacc val) = omega arith
helpers-below (FriExt2Fold4 ev es x inv) = omega arith
helpers-below (U32Add sum carry) = omega arith
helpers-below (U32Add3 sum carry) = omega arith
helpers-below (U32Sub difference) = omega arith
helpers-below (U32Mul lo hi) = limbs-below (read lo) (read hi) (read_below lo) (read_below hi)
helpers-below (U32Madd lo hi) = limbs-below (read lo) (read hi) (read_below lo) (read_below hi)
helpers-below (U32Div quotient remainder diff) = omega arith
helpers-below (U32Assert2 first second) = omega arith
helpers-below (HPerm addr) = omega arith
helpers-below (MerklePath addr) = omega arith
helpers-below (HornerEvalBase alpha tmp0 tmp1) = omega arith
helpers-below (HornerEvalExt alpha acc) = omega arith
helpers-below (LogDeferred addr root) = omega arith
helpers-below Empty = omega arith

pub below-helpers : (r : OperationHelperRegisters) (h : UserOpHelpers) → helpers_answer r ≡ accepted h → Below (helper_cells h)
unfolding helpers_answer helpers_of_cells
below-helpers r h e =
    let a = held (all_below 4294967296 (u32_values (read_registers r))) 9 (accepted (helpers_of (read_registers r))) h e in
    let is : helpers_of (read_registers r) ≡ h = cc a.1 in
    subst (λ (x : UserOpHelpers). Below (helper_cells x)) is (helpers-below r)

-- batch flags
pub below-flags : (count : ℕ) (flags : BatchFlags) → batch_flags count ≡ accepted flags → FlagsBelow flags
unfolding batch_flags flags_up_to8
below-flags count flags e =
    either (eqb n 8) _ _ flags e (is (1, 0, 0) (omega arith))
    (λ e. either (eqb n 4) _ _ flags e (is (0, 1, 0) (omega arith))
    (λ e. either (eqb n 2) _ _ flags e (is (0, 0, 1) (omega arith))
    (λ e. either (eqb n 1) _ _ flags e (is (0, 1, 1) (omega arith)) (never 7 flags))))
  where
    n : ℕ
    n = pick (leb 8 count) 8 count

    is : (f : BatchFlags) → FlagsBelow f → accepted f ≡ accepted flags → FlagsBelow flags
    is f h a = let same : f ≡ flags = cc in subst FlagsBelow same h

-- a batch
pub record BatchBelow (batch : OpBatch) : Type 0 where
  pub low : Below (word_cells batch.low)
  pub high : Below (word_cells batch.high)

pub below-batch : (batches groups : List ℕ) (block : BasicBlockNode) (index : ℕ) (batch : OpBatch) → batch_at batches groups block index ≡ accepted batch → BatchBelow batch
unfolding batch_at
below-batch batches groups block index batch e =
    let r = record_of block index in
    let a = held (is_batch batches groups block index) 5 (accepted (batch_of batches groups r)) batch e in
    let is : batch_of batches groups r ≡ batch = cc a.1 in
    subst BatchBelow is (record { low = below_word groups (8 * r); high = below_word groups (8 * r + 4) })

-- an operation's group, groups left and index in the group
pub record OpBelow (found : OpContext) : Type 0 where
  pub group : found.context.current_op_group < P
  pub count : found.context.group_count_in_block < P
  pub index : found.place.index < P

pub below-op : (push : ℕ) (block : BasicBlockNode) (batches groups : List ℕ) (index op : ℕ) (found : OpContext)
    → block.total < P → context_at_op push block batches groups index op ≡ accepted found → OpBelow found
unfolding context_at_op context_in_group op_context
below-op push block batches groups index op found h e =
    let a = then-accepted (batch_at batches groups block index) _ found e in
    let b = then-accepted (group_of (starts_at batches block index) a.0.num_ops op) _ found a.2 in
    let place = b.0 in
    let c = passed (ltb block.total (consumed push block batches groups index place)) 8 _ found b.2 in
    let d = passed (too_large block a.0 (sum_before batches block index).above8) 11 _ found c.1 in
    let is : op_context push block batches groups index a.0 place ≡ found = cc d.1 in
    let eight = (lies (starts_at batches block index) a.0.num_ops op place (sym b.1)).up_to_8 in
    let cell = 8 * record_of block index + place.group in
    subst OpBelow is (record {
      group = omega (arith, div-le_self (cell_at groups cell) (2 ^ (7 * (place.index + 1))), cell_below groups cell);
      count = omega arith;
      index = omega arith;
    })

-- the plain sum of at most 4,096 batches of at most 8 groups
sum-most : (l : List ℕ) → any_above8 l ≡ false → sum_groups false l ≤ 8 * length l
unfolding any_above8 sum_groups groups_of
sum-most [] e = omega arith
sum-most (x ∷ l) e =
    let (a, b) = neither (ltb 8 x) (any_above8 l) e in
    omega (arith, ltb-false 8 x a, sum-most l b)

counts-length : (batches : List ℕ) (r n : ℕ) → length (counts batches r n) ≡ n
unfolding counts
counts-length batches r zero = refl
counts-length batches r (suc n) = rw (counts-length batches (r + 1) n)

lent-most : (batches : List ℕ) (block : BasicBlockNode) → lent_batches batches block ≤ block.batches
unfolding lent_batches
lent-most batches block = by (leb (block.first_batch + block.batches) (length batches / 12)) refl
  where
    by : (t : Bool)
        → leb (block.first_batch + block.batches) (length batches / 12) ≡ t
        → pick t block.batches (length batches / 12 - block.first_batch) ≤ block.batches
    by true q = omega arith
    by false q = omega (arith, leb-false (block.first_batch + block.batches) (length batches / 12) q)

-- the start of a batch
pub record StartBelow (found : BatchContext) : Type 0 where
  pub batch : BatchBelow found.batch
  pub count : found.context.group_count_in_block < P
  pub flags : FlagsBelow found.flags

pub below-start : (block : BasicBlockNode) (batches groups : List ℕ) (index : ℕ) (found : BatchContext)
    → context_at_batch_start block batches groups index ≡ accepted found → StartBelow found
unfolding context_at_batch_start too_large group_sum
below-start block batches groups index found e =
    let a = then-accepted (batch_at batches groups block index) _ found e in
    let b = then-accepted (batch_flags (sum_from batches block index).groups) _ found a.2 in
    let c = passed (too_large block a.0 (sum_from batches block index).above8) 11 _ found b.2 in
    let l = counts batches (record_of block index) (lent_batches batches block - index) in
    let (many, rest) = neither (ltb 4096 block.batches) (ltb 8 a.0.group_count || any_above8 l) c.0 in
    let above = (neither (ltb 8 a.0.group_count) (any_above8 l) rest).1 in
    let is : record {
      context = record { current_op_group = a.0.low.0; group_count_in_block = (sum_from batches block index).groups };
      batch = a.0;
      flags = b.0;
    } ≡ found = cc c.1 in
    subst StartBelow is (record {
      batch = below-batch batches groups block index a.0 a.1;
      count = omega (
        arith,
        sum-most l above,
        counts-length batches (record_of block index) (lent_batches batches block - index),
        lent-most batches block,
        ltb-false 4096 block.batches many,
      );
      flags = below-flags (sum_from batches block index).groups b.0 b.1;
    })

-- the current and the parent address
abbrev pub StateBelow : DecoderState → Type 0
StateBelow state = (state.current_addr < P) × (state.parent_addr < P)

cell-small : (x : ℕ) → IsCell x → x < P
cell-small x e = omega (arith, read_below x)

-- the entries of the address and parent queues
pub below-entries : (addresses parents : List ℕ) (at : Positions) (state : DecoderState) → started_at addresses parents at ≡ accepted state → StateBelow state
below-entries addresses parents at state e =
    let is : IsRead state = subst (Gives IsRead) e (started-read addresses parents at) in
    (cell-small state.current_addr (current-is state is), cell-small state.parent_addr (parent_is state is))

-- an entry of the end queue
abbrev pub EndBelow : NodeEndData → Type 0
EndBelow entry = (entry.ended_node_addr < P) × (entry.prev_addr < P) × (entry.prev_parent_addr < P)

pub below_end : (ends : List ℕ) (at : ℕ) (entry : NodeEndData)
    → end_at ends at ≡ accepted entry → EndBelow entry
unfolding end_at
below_end ends at entry e =
    let a = held (ltb at (length ends / 3)) 22 _ entry e in
    let is : record { ended_node_addr = cell_at ends (3 * at); prev_addr = cell_at ends (3 * at + 1); prev_parent_addr = cell_at ends (3 * at + 2) } ≡ entry = cc a.1 in
    subst EndBelow is (cell_below ends (3 * at), cell_below ends (3 * at + 1), cell_below ends (3 * at + 2))
