-- The loops of a reading, by their rows.
use Rattle.std.specs.Prelude.{◌≡◌, ◌⊎◌, ℕ}
use Rattle.theory_readings.specs.Readings.{Block, Passes}

-- somewhere in a tree a LOOP stands in this row, with these passes
unfoldable mutual
  pub LoopIn : Block → (row : ℕ) → Passes → Type 0
  LoopIn (Block.span n ops) row passes = ⊥
  LoopIn (Block.join n a b end_row) row passes = LoopIn a row passes ⊎ LoopIn b row passes
  LoopIn (Block.one kind n a end_row) row passes = LoopIn a row passes
  LoopIn (Block.loop n own) row passes = ((row ≡ n) × (passes ≡ own)) ⊎ LoopInPasses own row passes

  pub LoopInPasses : Passes → (row : ℕ) → Passes → Type 0
  LoopInPasses (Passes.ended a end_row) row passes = LoopIn a row passes
  LoopInPasses (Passes.repeated a repeat_row more) row passes = LoopIn a row passes ⊎ LoopInPasses more row passes
