-- The lent forest. A slot is six numbers of `nodes` (what it holds, two children, and of a block its total of groups, the record of its
-- first batch and how many batches it has) and four cells of `digests`. What a slot holds: 1 a digest alone, 2 Block, 3 Join, 4 Split,
-- 5 Loop, 6 Call, 7 Syscall, 8 Dyn, 9 Dyncall, 10 External; 0 and every other number: absent.
use Rattle.std.specs.Prelude.{Bool, ◌&&◌, List, ℕ, ◌+◌, ◌*◌, leb, ltb, eqb, length, get_or}
use Rattle.groups.specs.Answer.{Answer, accepted, refused, pick}
use Rattle.groups.specs.Constants.{no_such_node, wrong_node_kind, no_such_operation}
use Rattle.groups.specs.Words.{word_at}
use Rattle.groups.specs.declared.word.Word.{Word}
use Rattle.groups.specs.declared.batch.BasicBlockNode.{BasicBlockNode}
use Rattle.groups.specs.declared.batch.OpBatch.{OpBatch}
use Rattle.rows.specs.declared.records.ids.MastNodeId.{MastNodeId}
use Rattle.rows.specs.declared.records.forest.MastNode.{MastNode}
use Rattle.rows.specs.declared.records.forest.NodeEntry.{NodeEntry}

-- the five lent slices
pub record Forest : Type 0 where
  pub nodes : List ℕ
  pub digests : List ℕ
  pub batches : List ℕ
  pub groups : List ℕ
  pub ops : List ℕ

abbrev pub forest : (nodes digests batches groups ops : List ℕ) → Forest
forest nodes digests batches groups ops =
    record { nodes = nodes; digests = digests; batches = batches; groups = groups; ops = ops }

-- the slot's numbers and cells lie whole in the slices
unfoldable pub is_slot : (nodes digests : List ℕ) → ℕ → Bool
is_slot nodes digests id = leb (6 * id + 6) (length nodes) && leb (4 * id + 4) (length digests)

abbrev pub node_id : ℕ → MastNodeId
node_id n = record { 0 = n }

abbrev pub node_entry : MastNode → Word → Answer NodeEntry
node_entry node digest = accepted (record { node = node; digest = digest })

-- Refusal 3: "no such node"; a slot that has its digest alone is none
unfoldable pub node_of : (kind first second : ℕ) → BasicBlockNode → Word → Answer NodeEntry
node_of kind first second block digest =
    pick (eqb kind 2) (node_entry (MastNode.Block block) digest)
    (pick (eqb kind 3) (node_entry (MastNode.Join (node_id first) (node_id second)) digest)
    (pick (eqb kind 4) (node_entry (MastNode.Split (node_id first) (node_id second)) digest)
    (pick (eqb kind 5) (node_entry (MastNode.Loop (node_id first)) digest)
    (pick (eqb kind 6) (node_entry (MastNode.Call (node_id first)) digest)
    (pick (eqb kind 7) (node_entry (MastNode.Syscall (node_id first)) digest)
    (pick (eqb kind 8) (node_entry MastNode.Dyn digest)
    (pick (eqb kind 9) (node_entry MastNode.Dyncall digest)
    (pick (eqb kind 10) (node_entry MastNode.External digest)
    (refused no_such_node)))))))))

-- the block of slot id, where it is one
abbrev pub slot_block : (nodes : List ℕ) → ℕ → BasicBlockNode
slot_block nodes id = record {
  total = get_or nodes (6 * id + 3) 0;
  first_batch = get_or nodes (6 * id + 4) 0;
  batches = get_or nodes (6 * id + 5) 0;
}

-- the node of an id and its digest
unfoldable pub node_at : (nodes digests : List ℕ) → ℕ → Answer NodeEntry
node_at nodes digests id =
    pick (is_slot nodes digests id)
    (node_of (get_or nodes (6 * id) 0) (get_or nodes (6 * id + 1) 0) (get_or nodes (6 * id + 2) 0) (slot_block nodes id) (word_at digests (4 * id)))
    (refused no_such_node)

-- the digest of an id: a slot with its digest alone has one too
unfoldable pub digest_at : (nodes digests : List ℕ) → ℕ → Answer Word
digest_at nodes digests id =
    pick (is_slot nodes digests id && (ltb 0 (get_or nodes (6 * id) 0) && leb (get_or nodes (6 * id) 0) 10))
    (accepted (word_at digests (4 * id)))
    (refused no_such_node)

-- Refusal 6: "operation past the batch's"; operations past the slice are past the batch's
unfoldable pub opcode_at : (ops : List ℕ) → OpBatch → ℕ → Answer ℕ
opcode_at ops batch op =
    pick (ltb op batch.num_ops && ltb (batch.first_op + op) (length ops))
    (accepted (get_or ops (batch.first_op + op) 0))
    (refused no_such_operation)

-- Refusal 4: "wrong node kind"
unfoldable pub block_of : MastNode → Answer BasicBlockNode
block_of (MastNode.Block block) = accepted block
block_of (MastNode.Join a b) = refused wrong_node_kind
block_of (MastNode.Split a b) = refused wrong_node_kind
block_of (MastNode.Loop a) = refused wrong_node_kind
block_of (MastNode.Call a) = refused wrong_node_kind
block_of (MastNode.Syscall a) = refused wrong_node_kind
block_of MastNode.Dyn = refused wrong_node_kind
block_of MastNode.Dyncall = refused wrong_node_kind
block_of MastNode.External = refused wrong_node_kind
