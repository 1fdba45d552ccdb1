-- One turn of a walk along the group starts.
use mathlib.Core.Path.{◌≡◌, refl}
use mathlib.Core.Bool.{Bool, true, false, not, ◌&&◌, or-true}
use mathlib.Core.List.{List, [], ◌∷◌}
use Prim.Native.Nat.{ℕ, zero, suc, ◌+◌, ◌-◌, ◌≤◌, ◌<◌}
use native.Mathlib.Numerals.{add-one}
use native.Mathlib.Omega.{arith}
use borrow.Author.Tests.{lt-ltb, le-ltb}
use lib.Dec.{leb, ltb}
use Rattle.std.proofs.Common.{Some}
use Rattle.std.specs.List.{IsAllAdjacentAnswer}
use Rattle.std.specs.Ordering.{is_some_and, is_le, nat_cmp}
use Rattle.std.proofs.lemmas.List.Sorted.{non_decreasing_from_is_sorted}
use lib.ListN.{length, get_or, drop, drop_of_length-le}
use lib.Seq.{drop-cons}
use Rattle.groups.specs.Answer.{refused, pick}
use Rattle.groups.specs.GroupOfOperation.{falling, following_ops, place_in, group_from}

-- the starts from k on are start k, start k + 1 and the rest
two : (s : List ℕ) (k : ℕ) → k + 1 < length s → drop k s ≡ get_or s k 0 ∷ get_or s (k + 1) 0 ∷ drop (k + 2) s
two s k h =
    let e : suc (k + 1) ≡ k + 2 = omega arith in
    rw (drop-cons s k 0 (omega arith), ← (add-one k), drop-cons s (k + 1) 0 h, e)

pub group-turn : (s : List ℕ) (ops op k : ℕ) → k + 1 < length s
    → group_from (drop k s) ops op k ≡ pick (leb (get_or s k 0) op && ltb op (get_or s (k + 1) 0)) (place_in k (op - get_or s k 0) (following_ops (get_or s (k + 1) 0) ops op)) (group_from (drop (k + 1) s) ops op (k + 1))
unfolding group_from
group-turn s ops op k h = let e : suc (k + 1) ≡ k + 2 = omega arith in rw (two s k h, drop-cons s (k + 1) 0 h, e)

-- the starts from the last on are that start
one : (s : List ℕ) (k : ℕ) → k + 1 ≡ length s → drop k s ≡ get_or s k 0 ∷ []
one s k h =
    let e : length s ≤ suc k = omega arith in
    rw (drop-cons s k 0 (omega arith), drop_of_length-le s e)

pub group-last : (s : List ℕ) (ops op k : ℕ) → k + 1 ≡ length s → group_from (drop k s) ops op k ≡ refused 6
unfolding group_from
group-last s ops op k h = rw (one s k h)

-- where no start is below the one before it, none falls
none-falls : (s : List ℕ) → ((k : ℕ) → suc k < length s → get_or s k 0 ≤ get_or s (suc k) 0) → falling s ≡ false
unfolding falling
none-falls [] h = refl
none-falls (x ∷ []) h = refl
none-falls (x ∷ y ∷ ys) h = rw (le-ltb y x (h 0 (omega arith))) (none-falls (y ∷ ys) (λ k l. h (suc k) (omega (arith, l))))

-- and where one is, one falls
one-falls : (s : List ℕ) (k : ℕ) → suc k < length s → get_or s (suc k) 0 < get_or s k 0 → falling s ≡ true
unfolding falling
one-falls [] k h l = absurd (omega arith)
one-falls (x ∷ []) k h l = absurd (omega arith)
one-falls (x ∷ y ∷ ys) zero h l = rw (lt-ltb y x l)
one-falls (x ∷ y ∷ ys) (suc k) h l = rw (one-falls (y ∷ ys) k (omega (arith, h)) l, or-true)

-- `is_sorted` answers whether none falls
pub sorted-law : (s : List ℕ) (b : Bool) → IsAllAdjacentAnswer (λ x y b. is_some_and is_le (Some (nat_cmp x y)) ≡ b) s b → falling s ≡ not b
sorted-law s true h = none-falls s (λ k l. non_decreasing_from_is_sorted s true h k (suc k) 0 (omega arith) l)
sorted-law s false h = let (k, l, d) = non_decreasing_from_is_sorted s false h in one-falls s k (rw add-one at l) (rw add-one at (d 0))

-- the laws of the walk along the starts
pub ruleset start_laws = (sorted-law, group-turn, group-last)
