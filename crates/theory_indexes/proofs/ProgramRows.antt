-- Every program row has an innermost block, which is one of the reading's, and no other row has one.
use mathlib.Core.Path.{◌≡◌, refl}
use mathlib.Core.List.{List, [], ◌∷◌}
use mathlib.Core.Option.{none, some}
use Prim.Native.Nat.{ℕ, zero, suc, ◌+◌, ◌≤◌, ◌<◌}
use native.Mathlib.Omega.{arith}
use lib.ListN.{length, get_elem?}
use Rattle.theory_readings.specs.Tokens.{repeat, end}
use Rattle.theory_readings.specs.Readings.{Ops, Block, Passes, Row, spell_ops, spell, spell_passes, program_rows}
use Rattle.theory_indexes.specs.Indexes.{blocks_in, blocks_in_passes, places_of_ops, places_of, places_of_passes, innermost}

-- ONE PLACE A ROW

ops-places : (o : Ops) (k : ℕ) (places : List ℕ) (r : List Row) → length (places_of_ops k o places) + length r ≡ length (spell_ops o r) + length places
unfolding places_of_ops spell_ops
ops-places (Ops.ended e) k places r = omega arith
ops-places (Ops.op row c o) k places r = omega (arith, ops-places o k places r)
ops-places (Ops.respan row o) k places r = omega (arith, ops-places o k places r)

mutual
  unfolding places_of spell

  block-places : (b : Block) (k : ℕ) (places : List ℕ) (r : List Row) → length (places_of k b places) + length r ≡ length (spell b r) + length places
  block-places (Block.span row o) k places r = omega (arith, ops-places o k places r)
  block-places (Block.join row a b e) k places r =
      omega (arith, block-places a (suc k) (places_of (suc k + blocks_in a) b (k ∷ places)) (spell b ((e, end) ∷ r)), block-places b (suc k + blocks_in a) (k ∷ places) ((e, end) ∷ r))
  block-places (Block.one c row a e) k places r = omega (arith, block-places a (suc k) (k ∷ places) ((e, end) ∷ r))
  block-places (Block.loop row q) k places r = omega (arith, passes-places q k (suc k) places r)

  passes-places : (q : Passes) (k n : ℕ) (places : List ℕ) (r : List Row) → length (places_of_passes k n q places) + length r ≡ length (spell_passes q r) + length places
  passes-places (Passes.ended a e) k n places r = omega (arith, block-places a n (k ∷ places) ((e, end) ∷ r))
  passes-places (Passes.repeated a m q) k n places r =
      omega (arith, block-places a n (k ∷ places_of_passes k (n + blocks_in a) q places) ((m, repeat) ∷ spell_passes q r), passes-places q k (n + blocks_in a) places r)

pub places-rows : (b : Block) → length (places_of 0 b []) ≡ program_rows b
unfolding program_rows
places-rows b = omega (arith, block-places b 0 [] [])

-- all numbers of a list are below one
unfoldable pub AllBelow : (n : ℕ) → List ℕ → Type 0
AllBelow n [] = Unit {0}
AllBelow n (x ∷ l) = (x < n) × AllBelow n l

ops-below : (o : Ops) (k n : ℕ) (places : List ℕ) → k < n → AllBelow n places → AllBelow n (places_of_ops k o places)
unfolding AllBelow places_of_ops
ops-below (Ops.ended e) k n places h f = (h, f)
ops-below (Ops.op row c o) k n places h f = (h, ops-below o k n places h f)
ops-below (Ops.respan row o) k n places h f = (h, ops-below o k n places h f)

mutual
  unfolding AllBelow places_of blocks_in

  block-below : (b : Block) (k n : ℕ) (places : List ℕ) → k + blocks_in b ≤ n → AllBelow n places → AllBelow n (places_of k b places)
  block-below (Block.span row o) k n places h f = (omega arith, ops-below o k n places (omega arith) f)
  block-below (Block.join row a b e) k n places h f =
      (omega arith, block-below a (suc k) n _ (omega arith) (block-below b (suc k + blocks_in a) n _ (omega arith) (omega arith, f)))
  block-below (Block.one c row a e) k n places h f = (omega arith, block-below a (suc k) n _ (omega arith) (omega arith, f))
  block-below (Block.loop row q) k n places h f = (omega arith, passes-below q k (suc k) n places (omega arith) (omega arith) f)

  passes-below : (q : Passes) (k j n : ℕ) (places : List ℕ) → k < n → j + blocks_in_passes q ≤ n → AllBelow n places → AllBelow n (places_of_passes k j q places)
  passes-below (Passes.ended a e) k j n places h i f = block-below a j n _ i (h, f)
  passes-below (Passes.repeated a m q) k j n places h i f = block-below a j n _ (omega arith) (h, passes-below q k (j + blocks_in a) n places h (omega arith) f)

place_at : (l : List ℕ) (n i : ℕ) → AllBelow n l → i < length l → (k : ℕ) × (get_elem? l i ≡ some k) × (k < n)
unfolding AllBelow
place_at [] n i f h = absurd (omega arith)
place_at (x ∷ l) n zero f h = (x, refl, f.0)
place_at (x ∷ l) n (suc i) f h = place_at l n i f.1 (omega arith)

place-past : (l : List ℕ) (i : ℕ) → length l ≤ i → get_elem? l i ≡ none
place-past [] i h = refl
place-past (x ∷ l) zero h = absurd (omega arith)
place-past (x ∷ l) (suc i) h = place-past l i (omega arith)

-- "for each program row, its innermost block"
pub program-row : (b : Block) (row : ℕ) → row < program_rows b → (k : ℕ) × (innermost b row ≡ some k) × (k < blocks_in b)
unfolding innermost AllBelow
program-row b row h = place_at (places_of 0 b []) (blocks_in b) row (block-below b 0 (blocks_in b) [] (omega arith) tt) (omega (arith, places-rows b))

-- "and none for HALT rows", nor past the end
pub other_row : (b : Block) (row : ℕ) → program_rows b ≤ row → innermost b row ≡ none
unfolding innermost
other_row b row h = place-past (places_of 0 b []) row (omega (arith, places-rows b))
