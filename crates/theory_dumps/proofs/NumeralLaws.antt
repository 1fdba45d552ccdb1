-- Digits spell the number that they were written for, and each of them is a digit.
use mathlib.Core.Path.{◌≡◌, ◌∙◌, refl, sym}
use mathlib.Core.Bool.{Bool, true, false}
use mathlib.Core.List.{List, [], ◌∷◌, ◌++◌, append_assoc}
use Prim.Native.Nat.{ℕ, zero, suc, ◌+◌, ◌-◌, ◌*◌, ◌/◌, ◌%◌, ◌^◌, ◌≤◌, ◌<◌}
use native.Mathlib.Nat.{div-add-mod', div-lt_iff_lt-mul, mod-lt, pow-zero, pow-succ', mul_comm, mul-one, zero-mul}
use native.Mathlib.Omega.{arith}
use borrow.Author.Tests.{ltb-true, lt-ltb, le-ltb}
use lib.Dec.{ltb}
use lib.ListN.{length, drop, set, length-set, length-append}
use lib.Seq.{drop-cons, drop-set-lt, get_or-set_same}
use Rattle.groups.specs.Answer.{pick}
use Rattle.theory_dumps.specs.Numerals.{numeral_within}
use Rattle.theory_dumps.specs.ways.Spelled.{spelled}

spelled-last : (base before : ℕ) (digits : List ℕ) (digit : ℕ) → spelled base before (digits ++ (digit ∷ [])) ≡ spelled base before digits * base + (digit - 48)
unfolding spelled
spelled-last base before [] digit = refl
spelled-last base before (d ∷ digits) digit = spelled-last base (before * base + (d - 48)) digits digit

digit-of : (d : ℕ) → 48 + d - 48 ≡ d
digit-of d = omega arith

pub spells : (base k n : ℕ) → 1 < base → n < base ^ k → spelled base 0 (numeral_within base k n) ≡ n
unfolding numeral_within spelled
spells base zero n b h = let h' : n < 1 = rw (pow-zero base) at h in omega arith
spells base (suc k) n b h = go (spells base k (n / base) b) (ltb n base) refl
  where
    go : (n / base < base ^ k → spelled base 0 (numeral_within base k (n / base)) ≡ n / base) → (t : Bool) → ltb n base ≡ t → spelled base 0 (pick t ((48 + n) ∷ []) (numeral_within base k (n / base) ++ ((48 + n % base) ∷ []))) ≡ n
    go more true e = rw (zero-mul base, digit-of n) (omega arith)
    go more false e =
        let less : n / base < base ^ k = (div-lt_iff_lt-mul {k = base} {x = n} {y = base ^ k} (omega arith)).1 (rw (pow-succ' base k, mul_comm base (base ^ k)) at h) in
        spelled-last base 0 (numeral_within base k (n / base)) (48 + n % base)
        ∙ rw (more less, digit-of (n % base)) (div-add-mod' n base)

-- all digits are those of the base
unfoldable pub Digits : (base : ℕ) → List ℕ → Type 0
Digits base [] = Unit {0}
Digits base (d ∷ digits) = (48 ≤ d) × (d < 48 + base) × Digits base digits

digits_last : (base : ℕ) (digits : List ℕ) (d : ℕ) → Digits base digits → 48 ≤ d → d < 48 + base → Digits base (digits ++ (d ∷ []))
unfolding Digits
digits_last base [] d h l m = (l, m, tt)
digits_last base (x ∷ digits) d h l m = (h.0, h.1, digits_last base digits d h.2 l m)

pub are-digits : (base k n : ℕ) → 1 < base → Digits base (numeral_within base k n)
unfolding numeral_within Digits
are-digits base zero n b = tt
are-digits base (suc k) n b = go (are-digits base k (n / base) b) (ltb n base) refl
  where
    go : Digits base (numeral_within base k (n / base)) → (t : Bool) → ltb n base ≡ t → Digits base (pick t ((48 + n) ∷ []) (numeral_within base k (n / base) ++ ((48 + n % base) ∷ [])))
    go more true e = let l = ltb-true n base e in (omega arith, omega arith, tt)
    go more false e =
        let m : n % base < base = mod-lt n (omega arith) in
        digits_last base (numeral_within base k (n / base)) (48 + n % base) more (omega arith) (omega arith)

-- DIGITS WRITTEN FROM THE LAST ON

pub one-digit : (base k n : ℕ) → n < base → numeral_within base (suc k) n ≡ (48 + n) ∷ []
unfolding numeral_within
one-digit base k n h = rw (lt-ltb n base h)

pub last-digit : (base k n : ℕ) → base ≤ n → numeral_within base (suc k) n ≡ numeral_within base k (n / base) ++ ((48 + n % base) ∷ [])
unfolding numeral_within
last-digit base k n h = rw (le-ltb n base h)

-- a number from the base on has more than one digit, and one digit less when its last is taken
pub more-digits : (base k n : ℕ) → base ≤ n → n < base ^ k → 1 < base → 1 < k
more-digits base zero n h l b = let l' : n < 1 = rw (pow-zero base) at l in absurd (omega arith)
more-digits base (suc zero) n h l b = let l' : n < base * 1 = rw (pow-succ' base 0, pow-zero base) at l in absurd (omega (arith, mul-one base))
more-digits base (suc (suc k)) n h l b = omega arith

pub fewer_digits : (base k n : ℕ) → 0 < base → 0 < k → n < base ^ k → n / base < base ^ (k - 1)
fewer_digits base zero n b h l = absurd (omega arith)
fewer_digits base (suc k) n b h l =
    let e : suc k - 1 ≡ k = omega arith in
    rw e ((div-lt_iff_lt-mul {k = base} {x = n} {y = base ^ k} b).1 (rw (pow-succ' base k, mul_comm base (base ^ k)) at l))

-- what follows from the place of a number that was set
pub drop-set : (l : List ℕ) (i a : ℕ) → i < length l → drop i (set l i a) ≡ a ∷ drop (suc i) l
drop-set l i a h =
    rw (drop-cons (set l i a) i 0 (rw (length-set l i a) h), get_or-set_same l i a 0 h, drop-set-lt (suc i) l i a (omega arith))

-- digits of a number put behind one another at the end of a list, the last first
pub digit-put : (base at n : ℕ) (l : List ℕ) → 0 < at → at ≤ length l → base ≤ n → numeral_within base (at - 1) (n / base) ++ drop (at - 1) (set l (at - 1) (48 + n % base)) ≡ numeral_within base at n ++ drop at l
digit-put base zero n l h r b = absurd (omega arith)
digit-put base (suc k) n l h r b =
    let e : suc k - 1 ≡ k = omega arith in
    rw (e, drop-set l k (48 + n % base) (omega arith), last-digit base k n b)
    (sym (append_assoc (numeral_within base k (n / base)) ((48 + n % base) ∷ []) (drop (suc k) l)))

pub first-digit-put : (base at n : ℕ) (l : List ℕ) → 0 < at → at ≤ length l → n < base → drop (at - 1) (set l (at - 1) (48 + n)) ≡ numeral_within base at n ++ drop at l
first-digit-put base zero n l h r b = absurd (omega arith)
first-digit-put base (suc k) n l h r b =
    let e : suc k - 1 ≡ k = omega arith in
    rw (e, drop-set l k (48 + n) (omega arith), one-digit base k n b)

pub few-digits : (base k n : ℕ) → length (numeral_within base k n) ≤ k
unfolding numeral_within
few-digits base zero n = omega arith
few-digits base (suc k) n = go (few-digits base k (n / base)) (ltb n base)
  where
    go : length (numeral_within base k (n / base)) ≤ k → (t : Bool) → length (pick t ((48 + n) ∷ []) (numeral_within base k (n / base) ++ ((48 + n % base) ∷ []))) ≤ suc k
    go h true = omega arith
    go h false = omega (arith, length-append (numeral_within base k (n / base)) ((48 + n % base) ∷ []))
