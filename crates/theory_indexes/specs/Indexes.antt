-- Change request N1, "Jump to the enclosing block": the index of a reading, and the block that a row belongs to.
use Rattle.std.specs.Prelude.{List, [], ◌∷◌, ℕ, suc, ◌+◌}
use Rattle.std.proofs.Math.Option.{Option}
use Rattle.std.proofs.Math.ListN.{get_elem?}
use Rattle.theory_readings.specs.Readings.{Ops, Block, Passes, end_row_of}

-- BLOCKS

-- "the start row" of a block
unfoldable pub start_row : Block → ℕ
start_row (Block.span row ops) = row
start_row (Block.join row a b end_row) = row
start_row (Block.one kind row a end_row) = row
start_row (Block.loop row passes) = row

-- the END row of a loop
unfoldable pub end_of_passes : Passes → ℕ
end_of_passes (Passes.ended a end_row) = end_row
end_of_passes (Passes.repeated a repeat_row passes) = end_of_passes passes

-- "the END row" of a block
unfoldable pub end_of : Block → ℕ
end_of (Block.span row ops) = end_row_of ops
end_of (Block.join row a b end_row) = end_row
end_of (Block.one kind row a end_row) = end_row
end_of (Block.loop row passes) = end_of_passes passes

-- "the number of blocks"
unfoldable mutual
  pub blocks_in : Block → ℕ
  blocks_in (Block.span row ops) = 1
  blocks_in (Block.join row a b end_row) = suc (blocks_in a + blocks_in b)
  blocks_in (Block.one kind row a end_row) = suc (blocks_in a)
  blocks_in (Block.loop row passes) = suc (blocks_in_passes passes)

  pub blocks_in_passes : Passes → ℕ
  blocks_in_passes (Passes.ended a end_row) = blocks_in a
  blocks_in_passes (Passes.repeated a repeat_row passes) = blocks_in a + blocks_in_passes passes

-- THE INDEX

-- "for each block, in the order of its start rows, the start row, the END row, and the start row of the enclosing block", which is `around`,
-- in front of a rest
unfoldable mutual
  pub index_of : (around : ℕ) → Block → (rest : List ℕ) → List ℕ
  index_of around (Block.span row ops) rest = row ∷ end_row_of ops ∷ around ∷ rest
  index_of around (Block.join row a b end_row) rest = row ∷ end_row ∷ around ∷ index_of row a (index_of row b rest)
  index_of around (Block.one kind row a end_row) rest = row ∷ end_row ∷ around ∷ index_of row a rest
  index_of around (Block.loop row passes) rest = row ∷ end_of_passes passes ∷ around ∷ index_of_passes row passes rest

  pub index_of_passes : (around : ℕ) → Passes → (rest : List ℕ) → List ℕ
  index_of_passes around (Passes.ended a end_row) rest = index_of around a rest
  index_of_passes around (Passes.repeated a repeat_row passes) rest = index_of around a (index_of_passes around passes rest)

-- "(the root names itself)"
unfoldable pub index : Block → List ℕ
index b = index_of (start_row b) b []

-- THE BLOCK OF A ROW

-- the place of each row's innermost block among the blocks in the order of their start rows ("start and END rows belong to theirs"; REPEAT's
-- row belongs to its loop), one number a row, for a block at place k in front of a rest
unfoldable pub places_of_ops : (k : ℕ) → Ops → (rest : List ℕ) → List ℕ
places_of_ops k (Ops.ended end_row) rest = k ∷ rest
places_of_ops k (Ops.op row opcode ops) rest = k ∷ places_of_ops k ops rest
places_of_ops k (Ops.respan row ops) rest = k ∷ places_of_ops k ops rest

unfoldable mutual
  pub places_of : (k : ℕ) → Block → (rest : List ℕ) → List ℕ
  places_of k (Block.span row ops) rest = k ∷ places_of_ops k ops rest
  places_of k (Block.join row a b end_row) rest = k ∷ places_of (suc k) a (places_of (suc k + blocks_in a) b (k ∷ rest))
  places_of k (Block.one kind row a end_row) rest = k ∷ places_of (suc k) a (k ∷ rest)
  places_of k (Block.loop row passes) rest = k ∷ places_of_passes k (suc k) passes rest

  -- the passes of a loop at place k, their first block at place n
  pub places_of_passes : (k n : ℕ) → Passes → (rest : List ℕ) → List ℕ
  places_of_passes k n (Passes.ended a end_row) rest = places_of n a (k ∷ rest)
  places_of_passes k n (Passes.repeated a repeat_row passes) rest = places_of n a (k ∷ places_of_passes k (n + blocks_in a) passes rest)

-- "for each program row, its innermost block, and none for HALT rows", nor past the end
unfoldable pub innermost : Block → (row : ℕ) → Option ℕ
innermost b row = get_elem? (places_of 0 b []) row
