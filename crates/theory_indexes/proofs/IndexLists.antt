-- The index of a tree in front of two lists, and its length.
use mathlib.Core.Path.{◌≡◌, ◌∙◌, refl, ap}
use mathlib.Core.List.{List, ◌∷◌, ◌++◌}
use Prim.Native.Nat.{ℕ, ◌+◌, ◌*◌}
use native.Mathlib.Omega.{arith}
use lib.ListN.{length}
use Rattle.theory_readings.specs.Readings.{Block, Passes}
use Rattle.theory_indexes.specs.Indexes.{end_of_passes, blocks_in, blocks_in_passes, index_of, index_of_passes}

mutual
  unfolding index_of

  pub index-append : (b : Block) (n : ℕ) (x r : List ℕ) → index_of n b (x ++ r) ≡ index_of n b x ++ r
  index-append (Block.span row ops) n x r = refl
  index-append (Block.join row a b e) n x r =
      ap (λ y. row ∷ e ∷ n ∷ y) (ap (index_of row a) (index-append b row x r) ∙ index-append a row (index_of row b x) r)
  index-append (Block.one k row a e) n x r = ap (λ y. row ∷ e ∷ n ∷ y) (index-append a row x r)
  index-append (Block.loop row q) n x r = ap (λ y. row ∷ end_of_passes q ∷ n ∷ y) (passes_append q row x r)

  pub passes_append : (q : Passes) (n : ℕ) (x r : List ℕ) → index_of_passes n q (x ++ r) ≡ index_of_passes n q x ++ r
  passes_append (Passes.ended a e) n x r = index-append a n x r
  passes_append (Passes.repeated a m q) n x r = ap (index_of n a) (passes_append q n x r) ∙ index-append a n (index_of_passes n q x) r

-- "three numbers a block"
mutual
  unfolding index_of blocks_in

  pub index-length : (b : Block) (n : ℕ) (r : List ℕ) → length (index_of n b r) ≡ 3 * blocks_in b + length r
  index-length (Block.span row ops) n r = omega arith
  index-length (Block.join row a b e) n r = omega (arith, index-length a row (index_of row b r), index-length b row r)
  index-length (Block.one k row a e) n r = omega (arith, index-length a row r)
  index-length (Block.loop row q) n r = omega (arith, passes-length q row r)

  pub passes-length : (q : Passes) (n : ℕ) (r : List ℕ) → length (index_of_passes n q r) ≡ 3 * blocks_in_passes q + length r
  passes-length (Passes.ended a e) n r = index-length a n r
  passes-length (Passes.repeated a m q) n r = omega (arith, index-length a n (index_of_passes n q r), passes-length q n r)
