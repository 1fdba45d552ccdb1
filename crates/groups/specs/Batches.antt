-- The batches of a block, as lent. Twelve numbers a batch: group count, nine group starts, number of operations, first operation;
-- and eight cells a batch, its groups. Batch `index` of a block is record first_batch + index of both.
use Rattle.std.specs.Prelude.{Bool, ◌&&◌, List, [], ◌∷◌, ℕ, ◌+◌, ◌-◌, ◌*◌, ◌/◌, leb, ltb, length, get_or}
use Rattle.groups.specs.Answer.{Answer, accepted, refused, pick}
use Rattle.groups.specs.Constants.{no_such_batch}
use Rattle.groups.specs.Words.{word_at}
use Rattle.groups.specs.declared.batch.BasicBlockNode.{BasicBlockNode}
use Rattle.groups.specs.declared.batch.OpBatch.{OpBatch}

-- the record of batch `index`
abbrev pub record_of : BasicBlockNode → ℕ → ℕ
record_of block index = block.first_batch + index

-- the batch of record r
abbrev pub batch_of : (batches groups : List ℕ) → (r : ℕ) → OpBatch
batch_of batches groups r = record {
  group_count = get_or batches (12 * r) 0;
  num_ops = get_or batches (12 * r + 10) 0;
  first_op = get_or batches (12 * r + 11) 0;
  record_index = r;
  low = word_at groups (8 * r);
  high = word_at groups (8 * r + 4);
}

-- the block has a batch `index`, whose twelve numbers and eight cells are lent
unfoldable pub is_batch : (batches groups : List ℕ) → BasicBlockNode → ℕ → Bool
is_batch batches groups block index =
    ltb index block.batches
    && (leb (12 * record_of block index + 12) (length batches) && leb (8 * record_of block index + 8) (length groups))

-- Refusal 5: "no such batch"
unfoldable pub batch_at : (batches groups : List ℕ) → BasicBlockNode → ℕ → Answer OpBatch
batch_at batches groups block index =
    pick (is_batch batches groups block index) (accepted (batch_of batches groups (record_of block index))) (refused no_such_batch)

-- the nine group starts of record r: "A batch lends nine non-decreasing group starts"
abbrev pub starts_of : (batches : List ℕ) → (r : ℕ) → List ℕ
starts_of batches r =
    get_or batches (12 * r + 1) 0
    ∷ get_or batches (12 * r + 2) 0
    ∷ get_or batches (12 * r + 3) 0
    ∷ get_or batches (12 * r + 4) 0
    ∷ get_or batches (12 * r + 5) 0
    ∷ get_or batches (12 * r + 6) 0
    ∷ get_or batches (12 * r + 7) 0
    ∷ get_or batches (12 * r + 8) 0
    ∷ get_or batches (12 * r + 9) 0
    ∷ []

unfoldable pub starts_at : (batches : List ℕ) → BasicBlockNode → ℕ → List ℕ
starts_at batches block index = starts_of batches (record_of block index)

-- how many of the block's batches have their twelve numbers in the slice
unfoldable pub lent_batches : (batches : List ℕ) → BasicBlockNode → ℕ
lent_batches batches block =
    pick (leb (block.first_batch + block.batches) (length batches / 12)) block.batches (length batches / 12 - block.first_batch)
