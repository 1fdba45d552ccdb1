-- What a row in a block says of the block's groups, at an operation and at the start of a batch.
-- Document 01: "Where no order is named, the lowest number is answered."
use Rattle.std.specs.Prelude.{Bool, true, false, ◌||◌, List, ℕ, ◌+◌, ◌-◌, ◌*◌, ◌/◌, ◌^◌, ltb}
use Rattle.field.specs.Cells.{cell_at}
use Rattle.groups.specs.Answer.{Answer, accepted, refused, and_then, pick}
use Rattle.groups.specs.Constants.{over_total, bad_length}
use Rattle.groups.specs.Batches.{record_of, batch_at, starts_at, lent_batches}
use Rattle.groups.specs.Flags.{batch_flags}
use Rattle.groups.specs.GroupsLeft.{counts, group_sum, pushes}
use Rattle.groups.specs.GroupOfOperation.{group_of}
use Rattle.groups.specs.declared.batch.BasicBlockNode.{BasicBlockNode}
use Rattle.groups.specs.declared.batch.OpBatch.{OpBatch}
use Rattle.groups.specs.declared.group.OpPlace.{OpPlace}
use Rattle.groups.specs.declared.sum.GroupSum.{GroupSum}
use Rattle.groups.specs.declared.context.OpContext.{OpContext}
use Rattle.groups.specs.declared.context.OpCells.{OpCells}
use Rattle.groups.specs.declared.context.BatchContext.{BatchContext}

-- Refusal 11: "a batch's group count above 8, over 4,096 batches", of the batch and of those added up
unfoldable pub too_large : BasicBlockNode → OpBatch → (above8 : Bool) → Bool
too_large block batch above8 = ltb 4096 block.batches || (ltb 8 batch.group_count || above8)

-- the batches before batch `index`, each batch's groups rounded up
abbrev pub sum_before : (batches : List ℕ) → BasicBlockNode → ℕ → GroupSum
sum_before batches block index = group_sum true (counts batches block.first_batch index)

-- the batches from batch `index` on that are lent, "the plain sum of groups"
abbrev pub sum_from : (batches : List ℕ) → BasicBlockNode → ℕ → GroupSum
sum_from batches block index =
    group_sum false (counts batches (record_of block index) (lent_batches batches block - index))

-- the cell of the operation's group
abbrev pub group_cell : (groups : List ℕ) → BasicBlockNode → ℕ → OpPlace → ℕ
group_cell groups block index place = cell_at groups (8 * record_of block index + place.group)

-- "each earlier batch consumes its groups rounded up .., each PUSH before the operation in its group .. 1, and the group index plus 1"
unfoldable pub consumed : (push : ℕ) → BasicBlockNode → (batches groups : List ℕ) → ℕ → OpPlace → ℕ
consumed push block batches groups index place =
    (sum_before batches block index).groups
    + pushes push place.index (group_cell groups block index place)
    + place.group
    + 1

-- "h0 the group shifted right 7 × (index in it + 1) bits", "count groups left"
unfoldable pub op_context : (push : ℕ) → BasicBlockNode → (batches groups : List ℕ) → ℕ → OpBatch → OpPlace → OpContext
op_context push block batches groups index batch place = record {
  context = record {
    current_op_group = group_cell groups block index place / 2 ^ (7 * (place.index + 1));
    group_count_in_block = block.total - consumed push block batches groups index place;
  };
  batch = batch;
  place = place;
}

-- at an operation whose place is known. Refusal 8: "consumed exceeds total"
unfoldable pub context_in_group : (push : ℕ) → BasicBlockNode → (batches groups : List ℕ) → ℕ → OpBatch → OpPlace → Answer OpContext
context_in_group push block batches groups index batch place =
    pick (ltb block.total (consumed push block batches groups index place)) (refused over_total)
    (pick (too_large block batch (sum_before batches block index).above8) (refused bad_length)
    (accepted (op_context push block batches groups index batch place)))

-- at operation `op` of batch `index`: the lowest of 5, 6, 8 and 11 that holds
unfoldable pub context_at_op : (push : ℕ) → BasicBlockNode → (batches groups : List ℕ) → (index op : ℕ) → Answer OpContext
context_at_op push block batches groups index op =
    and_then (batch_at batches groups block index) (λ batch.
    and_then (group_of (starts_at batches block index) batch.num_ops op) (λ place.
    context_in_group push block batches groups index batch place))

-- what an operation's row shows of its context: the index in its group, and the context's two numbers
abbrev pub op_cells_of : OpContext → OpCells
op_cells_of found = record { index = found.place.index; context = found.context }

-- that at operation `op` of batch `index`, refused as its context is
unfoldable pub cells_at_op : (push : ℕ) → BasicBlockNode → (batches groups : List ℕ) → (index op : ℕ) → Answer OpCells
cells_at_op push block batches groups index op = and_then (context_at_op push block batches groups index op) (λ found. accepted (op_cells_of found))

-- "the plain sum of groups from that batch on"; the first group as it is read
unfoldable pub context_at_batch_start : BasicBlockNode → (batches groups : List ℕ) → (index : ℕ) → Answer BatchContext
context_at_batch_start block batches groups index =
    and_then (batch_at batches groups block index) (λ batch.
    and_then (batch_flags (sum_from batches block index).groups) (λ flags.
    pick (too_large block batch (sum_from batches block index).above8) (refused bad_length)
    (accepted (record {
      context = record {
        current_op_group = batch.low.0;
        group_count_in_block = (sum_from batches block index).groups;
      };
      batch = batch;
      flags = flags;
    }))))
