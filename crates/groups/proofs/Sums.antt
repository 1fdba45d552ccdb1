-- The steps of the loops that round up, add up and count.
use mathlib.Core.Path.{◌≡◌, refl}
use mathlib.Core.Bool.{Bool, true, false, ◌||◌, or_assoc, or-false}
use mathlib.Core.List.{List, [], ◌∷◌}
use Prim.Native.Nat.{ℕ, zero, suc, ◌+◌, ◌-◌, ◌*◌, ◌/◌, ◌%◌, ◌≤◌, ◌<◌}
use native.Mathlib.Omega.{arith}
use borrow.Author.Tests.{le-leb, eq-eqb, ne_eqb}
use lib.Dec.{leb, ltb}
use lib.ListN.{get_or}
use Rattle.groups.specs.Answer.{pick}
use Rattle.groups.specs.GroupsLeft.{counts, doubled, round_up, groups_of, sum_groups, any_above8, pushes}

-- p doubled k times
abbrev times : ℕ → ℕ → ℕ
times p zero = p
times p (suc k) = times (p + p) k

times_above : (k p : ℕ) → p ≤ times p k
times_above zero p = omega arith
times_above (suc k) p = omega (arith, times_above k (p + p))

pick-within : (b : Bool) (x y m : ℕ) → x ≤ m → y ≤ m → pick b x y ≤ m
pick-within true x y m h g = h
pick-within false x y m h g = g

-- what is doubled from a divisor p of m by powers of two does not pass m before it reaches n
doubled-within : (j k p n m : ℕ) → times p k ≡ m → n ≤ m → doubled j p n ≤ m
unfolding doubled
doubled-within zero k p n m h l = omega (arith, times_above k p)
doubled-within (suc j) zero p n m h l = rw (le-leb n p (omega arith)) (omega arith)
doubled-within (suc j) (suc k) p n m h l =
    pick-within (leb n p) p (doubled j (p + p) n) m (omega (arith, times_above (suc k) p)) (doubled-within j k (p + p) n m h l)

-- a number of 32 bits is rounded up to one of at most 33
pub round_within : (n : ℕ) → n ≤ 4294967296 → round_up n ≤ 4294967296
unfolding round_up
round_within n h = doubled-within n 32 1 n 4294967296 refl h

pub counts-turn : (batches : List ℕ) (first k to : ℕ) → k < to
    → counts batches (first + k) (to - k) ≡ get_or batches (12 * (first + k)) 0 ∷ counts batches (first + (k + 1)) (to - (k + 1))
unfolding counts
counts-turn batches first k to h =
    let e : to - k ≡ suc (to - (k + 1)) = omega arith in
    let f : first + k + 1 ≡ first + (k + 1) = omega arith in
    rw (e, f)

pub counts-last : (batches : List ℕ) (r k to : ℕ) → to ≤ k → counts batches r (to - k) ≡ []
unfolding counts
counts-last batches r k to h =
    let e : to - k ≡ 0 = omega arith in
    rw e

pub pushes-yes : (push n k g : ℕ) → k < n → g % 128 ≡ push → pushes push (n - k) g ≡ 1 + pushes push (n - (k + 1)) (g / 128)
unfolding pushes
pushes-yes push n k g h t =
    let e : n - k ≡ suc (n - (k + 1)) = omega arith in
    rw (e, eq-eqb _ _ t)

pub pushes-no : (push n k g : ℕ) → k < n → (g % 128 ≡ push → ⊥) → pushes push (n - k) g ≡ pushes push (n - (k + 1)) (g / 128)
unfolding pushes
pushes-no push n k g h t =
    let e : n - k ≡ suc (n - (k + 1)) = omega arith in
    rw (e, ne_eqb _ _ t) (omega arith)

pub pushes-last : (push n k g : ℕ) → n ≤ k → pushes push (n - k) g ≡ 0
unfolding pushes
pushes-last push n k g h =
    let e : n - k ≡ 0 = omega arith in
    rw e

pub sum-turn : (rounded : Bool) (batches : List ℕ) (first k to count groups : ℕ) → k < to → count ≡ get_or batches (12 * (first + k)) 0 → groups ≡ groups_of rounded count
    → sum_groups rounded (counts batches (first + k) (to - k)) ≡ groups + sum_groups rounded (counts batches (first + (k + 1)) (to - (k + 1)))
unfolding sum_groups
sum-turn rounded batches first k to count groups h e g = rw (counts-turn batches first k to h, g, e)

pub sum-last : (rounded : Bool) (batches : List ℕ) (r k to : ℕ) → to ≤ k → sum_groups rounded (counts batches r (to - k)) ≡ 0
unfolding sum_groups
sum-last rounded batches r k to h = rw (counts-last batches r k to h)

-- one more count
pub above-turn : (b : Bool) (batches : List ℕ) (first k to count : ℕ) → k < to → count ≡ get_or batches (12 * (first + k)) 0
    → (b || any_above8 (counts batches (first + k) (to - k))) ≡ ((b || ltb 8 count) || any_above8 (counts batches (first + (k + 1)) (to - (k + 1))))
unfolding any_above8
above-turn b batches first k to count h e = rw (counts-turn batches first k to h, e, or_assoc)

pub above-last : (b : Bool) (batches : List ℕ) (r k to : ℕ) → to ≤ k → (b || any_above8 (counts batches r (to - k))) ≡ b
unfolding any_above8
above-last b batches r k to h = rw (counts-last batches r k to h) (or-false b)

-- the laws of the loop that counts
pub ruleset push_laws = (pushes-yes, pushes-no, pushes-last)
