-- An operation lies where `group_of` says, and where no start falls it lies nowhere else.
use mathlib.Core.Path.{◌≡◌, refl, sym}
use mathlib.Core.Bool.{Bool, true, false, ◌&&◌, ◌||◌}
use mathlib.Core.List.{List, [], ◌∷◌}
use Prim.Native.Nat.{ℕ, zero, suc, ◌+◌, ◌-◌, ◌≤◌, ◌<◌}
use native.Mathlib.Numerals.{add-one}
use native.Mathlib.Omega.{arith}
use borrow.Author.Tests.{leb-true, ltb-true, ltb-false, le-leb, lt-leb, le-ltb, lt-ltb}
use lib.Dec.{leb, ltb}
use lib.ListN.{length, get_or}
use Rattle.groups.specs.Answer.{accepted, refused, pick}
use Rattle.groups.specs.declared.group.OpPlace.{OpPlace}
use Rattle.groups.specs.GroupOfOperation.{falling, following_ops, place_in, group_from, group_of, LiesAt}
use Rattle.groups.proofs.Answers.{never}

-- an answer that is picked is one of the two, by the test
pub by-test : {A T : Type 0} (b : Bool) (x y a : A) → pick b x y ≡ a → (b ≡ true → x ≡ a → T) → (b ≡ false → y ≡ a → T) → T
by-test true x y a e f g = f refl e
by-test false x y a e f g = g refl e

pub both : (a b : Bool) → (a && b) ≡ true → (a ≡ true) × (b ≡ true)
both true b e = (refl, e)
both false b e = (e, cc)

pub neither : (a b : Bool) → (a || b) ≡ false → (a ≡ false) × (b ≡ false)
neither false b e = (refl, e)
neither true b e = (e, cc)

and-false : (a : Bool) → (a && false) ≡ false
and-false true = refl
and-false false = refl

-- the place is group k from group g on
record LiesFrom (starts : List ℕ) (ops op g : ℕ) (place : OpPlace) : Type 0 where
  pub k : ℕ
  pub group : place.group ≡ g + k
  pub a_group : suc k < length starts
  pub from_start : get_or starts k 0 + place.index ≡ op
  pub before_next : op < get_or starts (suc k) 0
  pub up_to_8 : place.index ≤ 8
  pub followed_by : place.following ≡ following_ops (get_or starts (suc k) 0) ops op

here : (x y : ℕ) (ys : List ℕ) (ops op g : ℕ) (p : OpPlace) → (leb x op && ltb op y) ≡ true → place_in g (op - x) (following_ops y ops op) ≡ accepted p → LiesFrom (x ∷ y ∷ ys) ops op g p
unfolding place_in
here x y ys ops op g p t e =
    let u = both (leb x op) (ltb op y) t in
    by-test (leb (op - x) 8) (accepted (record { group = g; index = op - x; following = following_ops y ops op })) (refused 6) (accepted p) e
    (λ l f.
    let i : p.index ≡ op - x = cc in
    let j : p.group ≡ g = cc in
    let n : p.following ≡ following_ops y ops op = cc in
    record {
      k = 0;
      group = omega arith;
      a_group = omega arith;
      from_start = omega (arith, leb-true x op u.0);
      before_next = ltb-true op y u.1;
      up_to_8 = omega (arith, leb-true (op - x) 8 l);
      followed_by = n;
    })
    (λ l f. never 6 p f)

lies-from : (s : List ℕ) (ops op g : ℕ) (p : OpPlace) → group_from s ops op g ≡ accepted p → LiesFrom s ops op g p
unfolding group_from
lies-from [] ops op g p e = never 6 p e
lies-from (x ∷ []) ops op g p e = never 6 p e
lies-from (x ∷ y ∷ ys) ops op g p e =
    by-test (leb x op && ltb op y) (place_in g (op - x) (following_ops y ops op)) (group_from (y ∷ ys) ops op (g + 1)) (accepted p) e
    (λ t f. here x y ys ops op g p t f)
    (λ t f.
    let h = lies-from (y ∷ ys) ops op (g + 1) p f in
    record {
      k = suc h.k;
      group = omega arith;
      a_group = omega arith;
      from_start = h.from_start;
      before_next = h.before_next;
      up_to_8 = h.up_to_8;
      followed_by = h.followed_by;
    })

-- an operation that is accepted lies where it is said to
pub lies : (s : List ℕ) (ops op : ℕ) (p : OpPlace) → accepted p ≡ group_of s ops op → LiesAt s ops op p
unfolding group_of
lies s ops op p e =
    by-test (leb ops op || falling s) (refused 6) (group_from s ops op 0) (accepted p) (sym e)
    (λ t f. never 6 p f)
    (λ t f.
    let h = lies-from s ops op 0 p f in
    let k : p.group ≡ h.k = omega arith in
    record {
      a_group = omega arith;
      from_start = rw k h.from_start;
      before_next = rw (k, add-one) h.before_next;
      up_to_8 = h.up_to_8;
      followed_by = rw (k, add-one) h.followed_by;
    })

-- where no start falls, each is at least the first
pub rising : (x : ℕ) (xs : List ℕ) (k : ℕ) → falling (x ∷ xs) ≡ false → k < length (x ∷ xs) → x ≤ get_or (x ∷ xs) k 0
unfolding falling
rising x xs zero f h = omega arith
rising x [] (suc k) f h = absurd (omega arith)
rising x (y ∷ ys) (suc k) f h =
    let u = neither (ltb y x) (falling (y ∷ ys)) f in
    omega (arith, ltb-false y x u.0, rising y ys k u.1 (omega arith))

-- and what lies in group k is found there
found_from : (s : List ℕ) (k ops op g i : ℕ) → falling s ≡ false → suc k < length s → get_or s k 0 + i ≡ op → op < get_or s (suc k) 0 → i ≤ 8
    → group_from s ops op g ≡ accepted (record { group = g + k; index = i; following = following_ops (get_or s (suc k) 0) ops op })
unfolding falling group_from place_in
found_from [] k ops op g i f h a b l = absurd (omega arith)
found_from (x ∷ []) k ops op g i f h a b l = absurd (omega arith)
found_from (x ∷ y ∷ ys) zero ops op g i f h a b l =
    let e : op - x ≡ i = omega arith in
    let z : g ≡ g + 0 = omega arith in
    rw (le-leb x op (omega arith), lt-ltb op y b, e, le-leb i 8 l, ← z)
found_from (x ∷ y ∷ ys) (suc k) ops op g i f h a b l =
    let u = neither (ltb y x) (falling (y ∷ ys)) f in
    let r = rising y ys k u.1 (omega arith) in
    let e : g + suc k ≡ g + 1 + k = omega arith in
    rw (le-ltb op y (omega arith), and-false, e) (found_from (y ∷ ys) k ops op (g + 1) i u.1 (omega arith) a b l)

found_at : (s : List ℕ) (ops op : ℕ) (p : OpPlace) → falling s ≡ false → LiesAt s ops op p → group_from s ops op 0 ≡ accepted p
found_at s ops op p f a =
    let z : 0 + p.group ≡ p.group = omega arith in
    let l = found_from s p.group ops op 0 p.index f (omega (arith, a.a_group)) a.from_start (rw add-one at a.before_next) a.up_to_8 in
    let n : following_ops (get_or s (suc p.group) 0) ops op ≡ p.following = sym (rw add-one at a.followed_by) in
    rw (z, n) at l

-- an operation of the batch that lies somewhere is accepted there
pub found : (s : List ℕ) (ops op : ℕ) (p : OpPlace) → op < ops → falling s ≡ false → LiesAt s ops op p → group_of s ops op ≡ accepted p
unfolding group_of
found s ops op p h f a = rw (lt-leb ops op h, f) (found_at s ops op p f a)

-- so it lies in one place alone
pub only : (s : List ℕ) (ops op : ℕ) (p q : OpPlace) → falling s ≡ false → LiesAt s ops op p → LiesAt s ops op q → p ≡ q
only s ops op p q f a b =
    let e = found_at s ops op p f a in
    let d = found_at s ops op q f b in
    cc
