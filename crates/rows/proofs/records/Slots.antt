-- What a slot's first number says of its node and its digest.
use mathlib.Core.Bool.{Bool, true, false}
use mathlib.Core.List.{List}
use mathlib.Core.Path.{◌≡◌, refl}
use Prim.Native.Nat.{ℕ, ◌+◌, ◌*◌, ◌<◌}
use native.Mathlib.Omega.{arith}
use lib.ListN.{get_or}
use Rattle.groups.specs.Answer.{refused, pick}
use Rattle.groups.specs.Words.{word_at}
use Rattle.groups.specs.declared.batch.BasicBlockNode.{BasicBlockNode}
use Rattle.groups.specs.declared.word.Word.{Word}
use Rattle.rows.specs.records.Forests.{is_slot, node_of, node_at, slot_block}
use Rattle.rows.specs.ways.Inner.{kind_at}

node-under : (slot : Bool) (k kind first second : ℕ) (block : BasicBlockNode) (digest : Word) → kind ≡ pick slot k 0 → pick slot (node_of k first second block digest) (refused 3) ≡ node_of kind first second block digest
unfolding node_of
node-under true k kind first second block digest e = rw e
node-under false k kind first second block digest e = rw e

-- the node of an id, by the slot's number
pub node-by-kind : (nodes digests : List ℕ) (id kind : ℕ) → kind ≡ kind_at nodes digests id
    → node_at nodes digests id ≡ node_of kind (get_or nodes (6 * id + 1) 0) (get_or nodes (6 * id + 2) 0) (slot_block nodes id) (word_at digests (4 * id))
unfolding kind_at node_at
node-by-kind nodes digests id kind e = node-under (is_slot nodes digests id) (get_or nodes (6 * id) 0) kind _ _ _ _ e

whole-under : (slot : Bool) (k kind : ℕ) → kind ≡ pick slot k 0 → 0 < kind → (slot ≡ true) × (kind ≡ k)
whole-under true k kind e h = (refl, e)
whole-under false k kind e h = absurd (omega (arith, e))

-- a slot with a number above 0 is whole
pub slot_whole : (nodes digests : List ℕ) (id kind : ℕ) → kind ≡ kind_at nodes digests id → 0 < kind → (is_slot nodes digests id ≡ true) × (kind ≡ get_or nodes (6 * id) 0)
unfolding kind_at
slot_whole nodes digests id kind e h = whole-under (is_slot nodes digests id) (get_or nodes (6 * id) 0) kind e h
