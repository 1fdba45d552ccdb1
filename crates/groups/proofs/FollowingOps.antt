-- Change request N7: how many operations follow one in its group: which they are, and from one operation to the next.
use mathlib.Core.Path.{◌≡◌, ◌∙◌, sym, ap}
use mathlib.Core.Bool.{Bool, false, ◌||◌}
use mathlib.Core.List.{List, [], ◌∷◌}
use mathlib.Core.Logic.{◌↔◌}
use Prim.Native.Nat.{ℕ, zero, suc, ◌+◌, ◌*◌, ◌≤◌, ◌<◌}
use native.Mathlib.Omega.{arith}
use borrow.Author.Tests.{leb-false}
use lib.Dec.{leb, ltb}
use lib.ListN.{length, get_or}
use Rattle.groups.specs.Answer.{Answer, accepted, refused, and_then, pick}
use Rattle.groups.specs.Batches.{starts_of}
use Rattle.groups.specs.declared.group.OpPlace.{OpPlace}
use Rattle.groups.specs.GroupOfOperation.{falling, following_ops, group_from, group_of, place_of_op, LiesAt}
use Rattle.groups.proofs.Answers.{never}
use Rattle.groups.proofs.OneGroup.{by-test, neither, rising, lies}

-- where no start falls, a later one is not smaller
not-smaller : (s : List ℕ) (j k : ℕ) → falling s ≡ false → j ≤ k → k < length s → get_or s j 0 ≤ get_or s k 0
unfolding falling
not-smaller [] j k f h l = absurd (omega arith)
not-smaller (x ∷ xs) zero k f h l = rising x xs k f l
not-smaller (x ∷ xs) (suc j) zero f h l = absurd (omega arith)
not-smaller (x ∷ []) (suc j) (suc k) f h l = absurd (omega arith)
not-smaller (x ∷ y ∷ ys) (suc j) (suc k) f h l = not-smaller (y ∷ ys) j k (neither (ltb y x) (falling (y ∷ ys)) f).1 (omega arith) (omega arith)

-- an operation that is found is one of the batch's, and no start falls
in-batch : (s : List ℕ) (ops op : ℕ) (p : OpPlace) → group_of s ops op ≡ accepted p → (op < ops) × (falling s ≡ false)
unfolding group_of
in-batch s ops op p e =
    by-test (leb ops op || falling s) (refused 6) (group_from s ops op 0) (accepted p) e
    (λ t f. never 6 p f)
    (λ t f. let (a, b) = neither (leb ops op) (falling s) t in (leb-false ops op a, b))

-- the fold's end: those that follow are the operations of the batch before the next group's start
pub fold_end : (s : List ℕ) (ops op : ℕ) (p : OpPlace) → group_of s ops op ≡ accepted p → (j : ℕ) → op < j → ((j < ops) × (j < get_or s (p.group + 1) 0)) ↔ (j ≤ op + p.following)
fold_end s ops op p e j h =
    let at = lies s ops op p (sym e) in
    let l = (in-batch s ops op p e).0 in (
      λ w. omega (arith, at.followed_by, at.before_next, l, w.0, w.1),
      λ w. (omega (arith, at.followed_by, at.before_next, l, w), omega (arith, at.followed_by, at.before_next, l, w)),
    )

module _ (s : List ℕ) (ops i : ℕ) (p q : OpPlace) (found : group_of s ops i ≡ accepted p) (found' : group_of s ops (i + 1) ≡ accepted q) where
  abbrev here : LiesAt s ops i p
  here = lies s ops i p (sym found)

  abbrev there : LiesAt s ops (i + 1) q
  there = lies s ops (i + 1) q (sym found')

  inside : i + 1 < ops
  inside = (in-batch s ops (i + 1) q found').0

  not-falling : falling s ≡ false
  not-falling = (in-batch s ops i p found).1

  -- the groups do not go back
  not-before : p.group ≤ q.group
  not-before =
      let l : ¬ (q.group < p.group) = λ h.
      let m = not-smaller s (q.group + 1) p.group not-falling (omega (arith, h)) (omega (arith, here.a_group)) in
      omega (arith, m, here.from_start, there.before_next) in
      omega (arith, l)

  -- in the same group one fewer follow
  same : q.group ≡ p.group → p.following ≡ q.following + 1
  same e =
      let n : q.following ≡ following_ops (get_or s (p.group + 1) 0) ops (i + 1) = there.followed_by ∙ ap (λ (g : ℕ). following_ops (get_or s (g + 1) 0) ops (i + 1)) e in
      let b : i + 1 < get_or s (p.group + 1) 0 = rw e at there.before_next in
      omega (arith, here.followed_by, n, b, inside)

  -- before a later group none does
  later : p.group < q.group → p.following ≡ 0
  later l =
      let m = not-smaller s (p.group + 1) q.group not-falling (omega arith) (omega (arith, there.a_group)) in
      omega (arith, here.followed_by, here.before_next, m, there.from_start, inside)

  -- "if operations i and i + 1 of a batch are both found, i's number is n + 1 exactly where i + 1 lies in the same group with the number n,
  -- and 0 exactly where i + 1 lies in a later group"
  pub next-in-group : (n : ℕ) → (p.following ≡ n + 1) ↔ ((q.group ≡ p.group) × (q.following ≡ n))
  next-in-group n = (
    λ e. let g : q.group ≡ p.group = stays e in (g, omega (arith, same g, e)),
    λ w. omega (arith, same w.0, w.1),
  )
    where
      stays : p.following ≡ n + 1 → q.group ≡ p.group
      stays e = let l : ¬ (p.group < q.group) = λ h. omega (arith, later h, e) in omega (arith, not-before, l)

  pub next-in-later : (p.following ≡ 0) ↔ (p.group < q.group)
  next-in-later = (
    λ e. let d : ¬ (q.group ≡ p.group) = λ h. omega (arith, same h, e) in omega (arith, not-before, d),
    later,
  )

-- a place that passes the test of the group count is the one found
unless-found : (a : Answer OpPlace) (t : Bool) (p : OpPlace) → and_then a (λ place. pick t (refused 11) (accepted place)) ≡ accepted p → a ≡ accepted p
unless-found (accepted q) t p e = by-test t (refused 11) (accepted q) (accepted p) e (λ h f. never 11 p f) (λ h f. f)
unless-found (refused n) t p e = never n p e

-- what the batch records alone tell of an operation is its place by the record's own starts: the laws above are laws of `op_place` too
pub told-found : (batches : List ℕ) (r op : ℕ) (p : OpPlace) → place_of_op batches r op ≡ accepted p → group_of (starts_of batches r) (get_or batches (12 * r + 10) 0) op ≡ accepted p
unfolding place_of_op
told-found batches r op p e =
    let found = group_of (starts_of batches r) (get_or batches (12 * r + 10) 0) op in
    let few = ltb 8 (get_or batches (12 * r) 0) in
    by-test (leb (12 * r + 12) (length batches)) (and_then found (λ place. pick few (refused 11) (accepted place))) (refused 5) (accepted p) e
    (λ h f. unless-found found few p f)
    (λ h f. never 5 p f)
