-- A row that 11 does not refuse has 49 cells, all of them lent.
use mathlib.Core.Path.{◌≡◌, refl}
use mathlib.Core.Bool.{Bool, true, false}
use mathlib.Core.List.{List, []}
use Prim.Native.Nat.{ℕ, ◌+◌, ◌*◌, ◌/◌, ◌≤◌}
use native.Mathlib.Omega.{arith}
use borrow.Author.Tests.{leb-false}
use lib.Dec.{leb}
use lib.ListN.{length, take, drop, length-drop}
use lib.Seq.{length-take-le}
use Rattle.groups.specs.Answer.{pick}
use Rattle.rows.specs.records.Buffers.{buffer_wrong}
use Rattle.rows.proofs.passes.Checks.{neither}
use Rattle.reader.specs.Views.{view_refused}
use Rattle.exports.specs.Places.{view_start, view_cells}

pub row_inside : (cells number : ℕ) → view_refused cells number ≡ false → number * 49 + 49 ≤ cells
unfolding view_refused
row_inside cells number e =
    let below = leb-false (cells / 49) number (neither (buffer_wrong cells) (leb (cells / 49) number) e).1 in
    omega arith

part_of : (xs : List ℕ) (number : ℕ) (t : Bool) → view_refused (length xs) number ≡ t →
    length (pick t [] (take 49 (drop (number * 49) xs))) ≡ pick t 0 49
part_of xs number true e = refl
part_of xs number false e =
    let inside = row_inside (length xs) number e in
    let left = length-drop (number * 49) xs in
    length-take-le 49 (drop (number * 49) xs) (omega arith)

-- the part that the row view hands back has as many cells as the place says
pub part-cells : (xs : List ℕ) (number : ℕ) →
    length (pick (view_refused (length xs) number) [] (take 49 (drop (number * 49) xs))) ≡ view_cells (length xs) number
unfolding view_cells
part-cells xs number = part_of xs number (view_refused (length xs) number) refl

cells_at : (xs : List ℕ) (number : ℕ) (t : Bool) →
    take (pick t 0 49) (drop (pick t 0 (number * 49)) xs) ≡ pick t [] (take 49 (drop (number * 49) xs))
cells_at xs number true = refl
cells_at xs number false = refl

-- the cells at the place are those that the row view hands back
pub place-cells : (xs : List ℕ) (number : ℕ) →
    take (view_cells (length xs) number) (drop (view_start (length xs) number) xs)
    ≡ pick (view_refused (length xs) number) [] (take 49 (drop (number * 49) xs))
unfolding view_cells view_start
place-cells xs number = cells_at xs number (view_refused (length xs) number)

start-of-none : (t : Bool) (n : ℕ) → ◌≡◌ {A = ℕ} (pick t 0 49) 0 → ◌≡◌ {A = ℕ} 0 (pick t 0 n)
start-of-none true n e = refl
start-of-none false n e = omega (arith, e)

pub none-starts : (cells number : ℕ) → view_cells cells number ≡ 0 → 0 ≡ view_start cells number
unfolding view_cells view_start
none-starts cells number e = start-of-none (view_refused cells number) (number * 49) e

not-refused : (t : Bool) → (◌≡◌ {A = ℕ} (pick t 0 49) 0 → ⊥) → t ≡ false
not-refused true h = absurd (h refl)
not-refused false h = refl

pub some-passes : (cells number : ℕ) → (view_cells cells number ≡ 0 → ⊥) → view_refused cells number ≡ false
unfolding view_cells
some-passes cells number h = not-refused (view_refused cells number) h

pub some-starts : (cells number : ℕ) → (view_cells cells number ≡ 0 → ⊥) → number * 49 ≡ view_start cells number
unfolding view_start
some-starts cells number h = rw (some-passes cells number h)
