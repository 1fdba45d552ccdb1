-- A part of a list: its cells one by one, and a part of a part.
use mathlib.Core.Path.{◌≡◌, refl, sym, ap, ◌∙◌}
use mathlib.Core.List.{List, [], ◌∷◌, ◌++◌}
use Prim.Native.Nat.{ℕ, zero, suc, ◌+◌, ◌≤◌}
use native.Mathlib.Omega.{arith}
use lib.ListN.{length, get_or, take, drop}
use lib.Seq.{drop-cons, take-take, take-add, take_all, length-take-le}
use Rattle.std.specs.Prelude.{reverse}
use Rattle.rows.specs.records.Built.{cells16, reversed16}

-- n cells from cell i on, 0 past the end
abbrev pub read_from : List ℕ → (i n : ℕ) → List ℕ
read_from s i zero = []
read_from s i (suc n) = get_or s i 0 ∷ read_from s (suc i) n

pub read_take : (s : List ℕ) (i n : ℕ) → i + n ≤ length s → read_from s i n ≡ take n (drop i s)
read_take s i zero h = refl
read_take s i (suc n) h = rw (drop-cons s i 0 (omega arith)) (ap (λ (l : List ℕ). get_or s i 0 ∷ l) (read_take s (suc i) n (omega arith)))

-- k cells from cell i on, of the first n cells or of all
pub window : (l : List ℕ) (i k n : ℕ) → i + k ≤ n → take k (drop i (take n l)) ≡ take k (drop i l)
window l zero k n h = take-take k n l (omega arith)
window l (suc i) k zero h = absurd (omega arith)
window [] (suc i) k (suc n) h = refl
window (x ∷ l) (suc i) k (suc n) h = window l i k n (omega arith)

-- the first 16 of 16 cells are all of them
pub all-16 : (t : List ℕ) → length t ≡ 16 → cells16 t ≡ t
all-16 t h = read_take t 0 16 (omega arith) ∙ take_all 16 t (omega arith)

-- the first 16 and the three behind them
pub first-19 : (s : List ℕ) → 19 ≤ length s → cells16 (take 16 s) ++ (get_or s 16 0 ∷ get_or s 17 0 ∷ get_or s 18 0 ∷ []) ≡ take 19 s
first-19 s h =
    ap (λ (l : List ℕ). l ++ (get_or s 16 0 ∷ get_or s 17 0 ∷ get_or s 18 0 ∷ [])) (all-16 (take 16 s) (length-take-le 16 s (omega arith)))
    ∙ ap (λ (l : List ℕ). take 16 s ++ l) (read_take s 16 3 h)
    ∙ sym (take-add 16 3 s)

-- the last of 16 comes first
pub reversed_16 : (t : List ℕ) → length t ≡ 16 → reversed16 t ≡ reverse t
reversed_16 t h = ap (λ (l : List ℕ). reverse l) (all-16 t h)
