-- Document 01: "A batch lends nine non-decreasing group starts; operation i lies in the one group whose start ≤ i < next start, at
-- index 0 to 8 in it." Refusal 6: "operation past the batch's or in no group, index above 8 in it, or falling starts".
-- Change request N7: "The routine that finds an operation's group now also says how many operations follow it in that group".
use Rattle.std.specs.Prelude.{◌≡◌, Bool, false, ◌&&◌, ◌||◌, List, [], ◌∷◌, ℕ, ◌+◌, ◌-◌, ◌*◌, ◌<◌, ◌≤◌, min, leb, ltb, length, get_or}
use Rattle.groups.specs.Answer.{Answer, accepted, refused, and_then, pick}
use Rattle.groups.specs.Constants.{no_such_batch, no_such_operation, bad_length}
use Rattle.groups.specs.Batches.{starts_of}
use Rattle.groups.specs.declared.group.OpPlace.{OpPlace}

-- "falling starts": one is below that before it
unfoldable pub falling : List ℕ → Bool
falling [] = false
falling (start ∷ []) = false
falling (start ∷ next ∷ rest) = ltb next start || falling (next ∷ rest)

-- "the next group start, or the batch's number of operations if that is smaller, less the operation's index less 1"
abbrev pub following_ops : (next ops op : ℕ) → ℕ
following_ops next ops op = min next ops - op - 1

-- "at index 0 to 8 in it"
unfoldable pub place_in : (group index following : ℕ) → Answer OpPlace
place_in group index following =
    pick (leb index 8) (accepted (record { group = group; index = index; following = following })) (refused no_such_operation)

-- the group whose start ≤ op < next start, the first of the starts being that of group g
unfoldable pub group_from : List ℕ → (ops op g : ℕ) → Answer OpPlace
group_from [] ops op g = refused no_such_operation
group_from (start ∷ []) ops op g = refused no_such_operation
group_from (start ∷ next ∷ rest) ops op g =
    pick (leb start op && ltb op next) (place_in g (op - start) (following_ops next ops op)) (group_from (next ∷ rest) ops op (g + 1))

-- the place of operation op in a batch of `ops` operations
unfoldable pub group_of : (starts : List ℕ) → (ops op : ℕ) → Answer OpPlace
group_of starts ops op = pick (leb ops op || falling starts) (refused no_such_operation) (group_from starts ops op 0)

-- op lies at the place: the law that `group_of` meets, and that leaves one place where no start falls (`proofs/OneGroup.antt`)
pub record LiesAt (starts : List ℕ) (ops op : ℕ) (place : OpPlace) : Type 0 where
  pub a_group : place.group + 1 < length starts
  pub from_start : get_or starts place.group 0 + place.index ≡ op
  pub before_next : op < get_or starts (place.group + 1) 0
  pub up_to_8 : place.index ≤ 8
  pub followed_by : place.following ≡ following_ops (get_or starts (place.group + 1) 0) ops op

-- of the batch records alone, the record of a number and an operation: 5 where the record is not whole in the slice, 6, and 11 where its group
-- count is above 8; "the lowest number is answered"
unfoldable pub place_of_op : (batches : List ℕ) → (r op : ℕ) → Answer OpPlace
place_of_op batches r op =
    pick (leb (12 * r + 12) (length batches))
    (and_then (group_of (starts_of batches r) (get_or batches (12 * r + 10) 0) op) (λ place.
    pick (ltb 8 (get_or batches (12 * r) 0)) (refused bad_length) (accepted place)))
    (refused no_such_batch)
