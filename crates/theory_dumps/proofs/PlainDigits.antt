-- Digits without leading zeros are the numeral of the number that they spell.
use mathlib.Core.Path.{◌≡◌, ◌∙◌, refl, sym, ap, ap₂}
use mathlib.Core.Bool.{Bool, true, false, not}
use mathlib.Core.List.{List, [], ◌∷◌, ◌++◌, append_assoc, append-nil}
use Prim.Native.Nat.{ℕ, zero, suc, ◌+◌, ◌-◌, ◌*◌, ◌/◌, ◌%◌, ◌^◌, ◌≤◌, ◌<◌}
use native.Mathlib.Nat.{mul-add-div_right, mul-add-mod_self_right, div-eq_of_lt, mod-eq_of_lt, pow-zero, le-div_iff_mul-le, mul-le-mul_right, one-mul, div-lt_iff_lt-mul, pow-succ', mul_comm}
use native.Mathlib.Omega.{arith}
use borrow.Author.Tests.{eqb-false, ne_eqb, ltb-false}
use lib.Dec.{eqb, ltb}
use lib.ListN.{length, get_or, length-append, get_or-append}
use Rattle.groups.specs.Answer.{pick}
use Rattle.theory_dumps.specs.Numerals.{numeral_within}
use Rattle.theory_dumps.specs.ways.Spelled.{spelled, plain}
use Rattle.theory_dumps.proofs.NumeralLaws.{Digits, one-digit, last-digit}

-- DIGITS TO NUMERAL

module _ (base : ℕ) (b : 1 < base) where
  -- a digit behind a number
  front_of : (before d : ℕ) → d < base → (before * base + d) / base ≡ before
  front_of before d h = mul-add-div_right {m = base} (omega arith) before d ∙ omega (arith, div-eq_of_lt {n = d} {m = base} h)

  digit-of : (before d : ℕ) → d < base → (before * base + d) % base ≡ d
  digit-of before d h = mul-add-mod_self_right before base d ∙ mod-eq_of_lt {n = d} {m = base} h

  no_less : (before d : ℕ) → 0 < before → base ≤ before * base + d
  no_less before d h =
      let m : 1 * base ≤ before * base = mul-le-mul_right base h in
      omega (arith, one-mul base)

  -- the numeral of a number and digits behind it
  digits-behind : (digits : List ℕ) (before k : ℕ) → 0 < before → Digits base digits → length digits ≤ k → numeral_within base k (spelled base before digits) ≡ numeral_within base (k - length digits) before ++ digits
  unfolding spelled Digits
  digits-behind [] before k p h l = let e : k - 0 ≡ k = omega arith in rw e (sym (append-nil (numeral_within base k before)))
  digits-behind (d ∷ digits) before k p h l =
      let n : ℕ = before * base + (d - 48) in
      let m : ℕ = k - suc (length digits) in
      let e : k - length digits ≡ suc m = omega arith in
      let more : base ≤ n = no_less before (d - 48) p in
      let f : 48 + n % base ≡ d = omega (arith, digit-of before (d - 48) (omega (arith, h.0, h.1)), h.0) in
      digits-behind digits n k (omega arith) h.2 (omega arith)
      ∙ ap (λ (i : ℕ). numeral_within base i n ++ digits) e
      ∙ ap (λ (x : List ℕ). x ++ digits) (last-digit base m n more ∙ ap₂ (λ (i j : ℕ). numeral_within base m i ++ (j ∷ [])) (front_of before (d - 48) (omega (arith, h.0, h.1))) f)
      ∙ append_assoc (numeral_within base m before) (d ∷ []) digits

  -- from the first digit on
  from_first_lem : (d k : ℕ) (digits : List ℕ) → 48 < d → Digits base (d ∷ digits) → suc (length digits) ≤ k → numeral_within base k (spelled base 0 (d ∷ digits)) ≡ d ∷ digits
  unfolding spelled Digits
  from_first_lem d k digits p h l =
      let n : ℕ = 0 * base + (d - 48) in
      let z : n ≡ d - 48 = omega arith in
      let e : k - length digits ≡ suc (k - suc (length digits)) = omega arith in
      let f : 48 + n ≡ d = omega arith in
      digits-behind digits n k (omega arith) h.2 (omega arith)
      ∙ ap (λ (i : ℕ). numeral_within base i n ++ digits) e
      ∙ ap (λ (x : List ℕ). x ++ digits) (one-digit base (k - suc (length digits)) n (omega (arith, h.0, h.1)) ∙ ap (λ (i : ℕ). i ∷ []) f)

  pub plain-is : (k : ℕ) (digits : List ℕ) → Digits base digits → plain digits ≡ true → length digits ≤ k → numeral_within base k (spelled base 0 digits) ≡ digits
  unfolding plain
  plain-is k [] h e l = let z : ◌≡◌ {A = ℕ} 0 1 = cc in absurd (omega arith)
  plain-is zero (d ∷ []) h e l = absurd (omega arith)
  plain-is (suc k) (d ∷ []) h e l =
      unfold spelled Digits in
      let z : 0 * base + (d - 48) ≡ d - 48 = omega arith in
      let f : 48 + (d - 48) ≡ d = omega (arith, h.0) in
      rw z (one-digit base k (d - 48) (omega (arith, h.0, h.1)) ∙ ap (λ (i : ℕ). i ∷ []) f)
  plain-is k (d ∷ next ∷ digits) h e l = go (eqb d 48) refl e
    where
      go : (t : Bool) → eqb d 48 ≡ t → not t ≡ true → numeral_within base k (spelled base 0 (d ∷ next ∷ digits)) ≡ d ∷ next ∷ digits
      go true f e = let z : ◌≡◌ {A = ℕ} 0 1 = cc in absurd (omega arith)
      go false f e = from_first_lem d k (next ∷ digits) (unfold Digits in omega (arith, h.0, eqb-false d 48 f)) h l

-- NUMERALS ARE PLAIN

-- a number that is not 0 begins with a digit that is not 0
first-digit : (base k n : ℕ) → 1 < base → 0 < n → n < base ^ k → (0 < length (numeral_within base k n)) × (48 < get_or (numeral_within base k n) 0 0)
unfolding numeral_within
first-digit base zero n b p h = let h' : n < 1 = rw (pow-zero base) at h in absurd (omega arith)
first-digit base (suc k) n b p h = go (first-digit base k (n / base) b) (ltb n base) refl
  where
    go : (0 < n / base → n / base < base ^ k → (0 < length (numeral_within base k (n / base))) × (48 < get_or (numeral_within base k (n / base)) 0 0)) →
        (t : Bool) → ltb n base ≡ t → (0 < length (pick t ((48 + n) ∷ []) (numeral_within base k (n / base) ++ ((48 + n % base) ∷ [])))) × (48 < get_or (pick t ((48 + n) ∷ []) (numeral_within base k (n / base) ++ ((48 + n % base) ∷ []))) 0 0)
    go more true e = (omega arith, omega arith)
    go more false e =
        let m : base ≤ n = ltb-false n base e in
        let q : 1 ≤ n / base = (le-div_iff_mul-le {k = base} {x = 1} {y = n} (omega arith)).1 (rw (one-mul base) m) in
        let less : n / base < base ^ k = (div-lt_iff_lt-mul {k = base} {x = n} {y = base ^ k} (omega arith)).1 (rw (pow-succ' base k, mul_comm base (base ^ k)) at h) in
        let (l, d) = more q less in
        (omega (arith, length-append (numeral_within base k (n / base)) ((48 + n % base) ∷ [])), rw (get_or-append (numeral_within base k (n / base)) ((48 + n % base) ∷ []) 0 0 l) d)

plain_by : (digits : List ℕ) → 0 < length digits → 48 < get_or digits 0 0 → plain digits ≡ true
unfolding plain
plain_by [] l h = absurd (omega arith)
plain_by (d ∷ []) l h = refl
plain_by (d ∷ next ∷ digits) l h = rw (ne_eqb d 48 (λ e. omega arith))

pub numeral-plain : (base k n : ℕ) → 1 < base → n < base ^ suc k → plain (numeral_within base (suc k) n) ≡ true
numeral-plain base k zero b h = rw (one-digit base k 0 (omega arith)) (unfold plain in refl)
numeral-plain base k (suc n) b h = let (l, d) = first-digit base (suc k) (suc n) b (omega arith) h in plain_by (numeral_within base (suc k) (suc n)) l d
