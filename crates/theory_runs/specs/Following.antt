-- Change request N7: "the cycle's answer for ResumeBasicBlock carries it. For other continuations it is 0."
use Rattle.std.specs.Prelude.{◌≡◌, ℕ}
use Rattle.groups.specs.Answer.{accepted}
use Rattle.groups.specs.Batches.{record_of}
use Rattle.groups.specs.GroupOfOperation.{place_of_op}
use Rattle.groups.specs.declared.batch.BasicBlockNode.{BasicBlockNode}
use Rattle.groups.specs.declared.group.OpPlace.{OpPlace}
use Rattle.rows.specs.declared.records.forest.NodeEntry.{NodeEntry}
use Rattle.rows.specs.declared.records.continuation.Continuation.{Continuation}
use Rattle.rows.specs.records.Forests.{Forest, node_at, block_of}

-- the number that `op_place` tells of operation `op` in batch `index` of a block node, from the batch records alone
pub record ToldOfNode (f : Forest) (id index op following : ℕ) : Type 0 where
  pub entry : NodeEntry
  pub a_node : node_at f.nodes f.digests id ≡ accepted entry
  pub block : BasicBlockNode
  pub a_block : block_of entry.node ≡ accepted block
  pub place : OpPlace
  pub told : place_of_op f.batches (record_of block index) op ≡ accepted place
  pub same : following ≡ place.following

-- the number in the answer of a cycle that is not refused, by its continuation
unfoldable pub FollowingBy : Forest → Continuation → (following : ℕ) → Type 0
FollowingBy f (Continuation.StartNode id) following = following ≡ 0
FollowingBy f (Continuation.FinishJoin id) following = following ≡ 0
FollowingBy f (Continuation.FinishSplit id) following = following ≡ 0
FollowingBy f (Continuation.FinishLoop id) following = following ≡ 0
FollowingBy f (Continuation.FinishCall id) following = following ≡ 0
FollowingBy f (Continuation.FinishDyn id) following = following ≡ 0
FollowingBy f (Continuation.ResumeBasicBlock id index op) following = ToldOfNode f id.0 index op following
FollowingBy f (Continuation.Respan id index) following = following ≡ 0
FollowingBy f (Continuation.FinishBasicBlock id) following = following ≡ 0
FollowingBy f Continuation.EnterForest following = following ≡ 0
