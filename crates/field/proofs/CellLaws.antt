-- Laws of cells as they come in.
use mathlib.Core.Path.{◌≡◌, refl}
use mathlib.Core.List.{List, [], ◌∷◌, ◌++◌}
use Prim.Native.Nat.{ℕ, zero, suc, ◌+◌, ◌%◌, ◌<◌, ◌≤◌}
use native.Mathlib.Omega.{arith}
use lib.ListN.{length, take, drop, get_or, get_or-eq_default}
use lib.Seq.{get_or-take, get_or-drop}
use Rattle.field.specs.Modulus.{P}
use Rattle.field.specs.Cells.{cell_at, reduced}

-- past the end a cell is 0
pub cell_past : (cells : List ℕ) (i : ℕ) → length cells ≤ i → cell_at cells i ≡ 0
unfolding cell_at
cell_past cells i h = rw (get_or-eq_default cells 0 {n = i} h)

-- a number read as a cell is below p
pub read_below : (x : ℕ) → x % P < P
read_below x = omega arith

pub cell_below : (cells : List ℕ) (i : ℕ) → cell_at cells i < P
unfolding cell_at
cell_below cells i = omega arith

-- a number below p is read as itself
pub read_small : (x : ℕ) → x < P → x % P ≡ x
read_small x h = omega arith

-- reading twice is reading once
pub read_twice : (x : ℕ) → x % P % P ≡ x % P
read_twice x = omega arith

pub length-reduced : (cells : List ℕ) → length (reduced cells) ≡ length cells
unfolding reduced
length-reduced [] = refl
length-reduced (x ∷ xs) = rw (length-reduced xs)

-- a cell of the reduced cells is the cell as it is read
pub get_or-reduced : (cells : List ℕ) (i : ℕ) → get_or (reduced cells) i 0 ≡ cell_at cells i
unfolding reduced cell_at
get_or-reduced [] i = refl
get_or-reduced (x ∷ xs) zero = refl
get_or-reduced (x ∷ xs) (suc i) = get_or-reduced xs i

pub cell-reduced : (cells : List ℕ) (i : ℕ) → cell_at (reduced cells) i ≡ cell_at cells i
unfolding cell_at
cell-reduced cells i = rw (get_or-reduced cells i) (read_twice (get_or cells i 0))

pub reduced-append : (l m : List ℕ) → reduced (l ++ m) ≡ reduced l ++ reduced m
unfolding reduced
reduced-append [] m = refl
reduced-append (x ∷ l) m = rw (reduced-append l m)

-- cells that are reduced stay so
pub reduced-twice : (l : List ℕ) → reduced (reduced l) ≡ reduced l
unfolding reduced
reduced-twice [] = refl
reduced-twice (x ∷ l) = rw (read_twice x, reduced-twice l)

pub reduced-take : (n : ℕ) (l : List ℕ) → reduced (take n l) ≡ take n (reduced l)
unfolding reduced
reduced-take zero l = refl
reduced-take (suc n) [] = refl
reduced-take (suc n) (x ∷ l) = rw (reduced-take n l)

pub reduced-drop : (n : ℕ) (l : List ℕ) → reduced (drop n l) ≡ drop n (reduced l)
unfolding reduced
reduced-drop zero l = refl
reduced-drop (suc n) [] = refl
reduced-drop (suc n) (x ∷ l) = reduced-drop n l

-- cell i of what follows the first n, and of the first n
pub cell-drop : (n : ℕ) (cells : List ℕ) (i : ℕ) → cell_at (drop n cells) i ≡ cell_at cells (n + i)
unfolding cell_at
cell-drop n cells i = rw (get_or-drop n cells i 0)

pub cell-take : (n : ℕ) (cells : List ℕ) (i : ℕ) → i < n → cell_at (take n cells) i ≡ cell_at cells i
unfolding cell_at
cell-take n cells i h = rw (get_or-take n cells i 0 h)
