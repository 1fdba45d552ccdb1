-- What the call at an operation asks of the operation's place.
use mathlib.Core.Path.{◌≡◌}
use mathlib.Core.List.{List}
use Prim.Native.Nat.{ℕ, ◌≤◌}
use native.Mathlib.Omega.{arith}
use Rattle.groups.specs.Answer.{accepted}
use Rattle.groups.specs.Batches.{starts_at}
use Rattle.groups.specs.GroupOfOperation.{group_of}
use Rattle.groups.specs.declared.batch.BasicBlockNode.{BasicBlockNode}
use Rattle.groups.specs.declared.group.OpPlace.{OpPlace}
use Rattle.groups.proofs.OneGroup.{lies}

-- a batch has eight groups, of nine operations at most
pub in-batch : (batches : List ℕ) (block : BasicBlockNode) (index ops op : ℕ) (starts : List ℕ) (place : OpPlace)
    → starts ≡ starts_at batches block index → accepted place ≡ group_of starts ops op → (place.group ≤ 7) × (place.index ≤ 8)
unfolding starts_at
in-batch batches block index ops op starts place s e =
    let h = lies (starts_at batches block index) ops op place (rw s at e) in
    let g = h.a_group in
    (omega arith, h.up_to_8)
