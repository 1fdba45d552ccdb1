-- How many digits a number has: by its bits, and by the powers of the base.
use mathlib.Core.Path.{◌≡◌, ◌∙◌, refl, sym, ap}
use mathlib.Core.Bool.{Bool, true, false}
use mathlib.Core.List.{List, [], ◌∷◌, ◌++◌}
use Prim.Native.Nat.{ℕ, zero, suc, ◌+◌, ◌-◌, ◌*◌, ◌/◌, ◌%◌, ◌^◌, ◌≤◌, ◌<◌}
use native.Mathlib.Nat.{pow-zero, pow-succ', mul_comm, mul-one, le-div_iff_mul-le, div-lt_iff_lt-mul, mul-le-mul_left, pow-le-pow_right}
use native.Mathlib.Omega.{arith}
use borrow.Author.Tests.{ltb-true, ltb-false}
use lib.Count.{count_leading_zeros, leading_of_zero}
use lib.Dec.{ltb}
use lib.ListN.{length, length-append}
use Rattle.groups.specs.Answer.{pick}
use Rattle.theory_dumps.specs.Numerals.{numeral_within, binary, decimal}
use Rattle.theory_dumps.proofs.NumeralLaws.{one-digit, last-digit}

leading_step : (k n : ℕ) → 0 < n → count_leading_zeros (suc k) n ≡ count_leading_zeros k (n / 2)
unfolding count_leading_zeros
leading_step k zero p = absurd (omega arith)
leading_step k (suc n) p = refl

-- the binary digits and the zeros in front of them are all bits
pub bits-count : (k n : ℕ) → 0 < n → length (numeral_within 2 k n) + count_leading_zeros k n ≡ k
unfolding numeral_within
bits-count zero n p = unfold count_leading_zeros in refl
bits-count (suc k) n p = rw (leading_step k n p) (go (bits-count k (n / 2)) (ltb n 2) refl)
  where
    go : (0 < n / 2 → length (numeral_within 2 k (n / 2)) + count_leading_zeros k (n / 2) ≡ k) → (t : Bool) → ltb n 2 ≡ t →
        length (pick t ((48 + n) ∷ []) (numeral_within 2 k (n / 2) ++ ((48 + n % 2) ∷ []))) + count_leading_zeros k (n / 2) ≡ suc k
    go more true e =
        let z : n / 2 ≡ 0 = omega (arith, ltb-true n 2 e) in
        rw z (omega (arith, leading_of_zero k))
    go more false e = omega (arith, more (omega (arith, ltb-false n 2 e)), length-append (numeral_within 2 k (n / 2)) ((48 + n % 2) ∷ []))

-- a number between two powers of the base
pub digits-count : (base k m n : ℕ) → 1 < base → base ^ k ≤ n → n < base ^ suc k → k < m → length (numeral_within base m n) ≡ suc k
digits-count base k zero n b l h r = absurd (omega arith)
digits-count base zero (suc m) n b l h r =
    let h' : n < base * 1 = rw (pow-succ' base 0, pow-zero base) at h in
    ap (λ (x : List ℕ). length x) (one-digit base m n (rw (mul-one base) at h'))
digits-count base (suc k) (suc m) n b l h r =
    let l' : base ^ k * base ≤ n = rw (pow-succ' base k, mul_comm base (base ^ k)) at l in
    let h' : n < base ^ suc k * base = rw (pow-succ' base (suc k), mul_comm base (base ^ suc k)) at h in
    let low : base ^ k ≤ n / base = (le-div_iff_mul-le {k = base} {x = base ^ k} {y = n} (omega arith)).1 l' in
    let high : n / base < base ^ suc k = (div-lt_iff_lt-mul {k = base} {x = n} {y = base ^ suc k} (omega arith)).1 h' in
    let one : 1 ≤ base ^ k = rw (pow-zero base) at (pow-le-pow_right {n = base} (omega arith) {i = 0} {j = k} (omega arith)) in
    let more : base * 1 ≤ base * base ^ k = mul-le-mul_left base one in
    let from : base ≤ n = omega (arith, mul-one base, mul_comm base (base ^ k)) in
    ap (λ (x : List ℕ). length x) (last-digit base m n from)
    ∙ omega (arith, length-append (numeral_within base m (n / base)) ((48 + n % base) ∷ []), digits-count base k m (n / base) b low high (omega arith))

-- the decimal digits of a row's number, by the first power of ten above it
pub decimal-count : (row count limit : ℕ) → row < 16777216 → 0 < count → limit ≡ 10 ^ count → (1 < count → 10 ^ (count - 1) ≤ row) → row < limit → count ≡ length (decimal row)
decimal-count row zero limit r p e l h = absurd (omega arith)
decimal-count row (suc zero) limit r p e l h = sym (ap (λ (x : List ℕ). length x) (one-digit 10 19 row (omega arith)))
decimal-count row (suc (suc k)) limit r p e l h =
    let i : suc (suc k) - 1 ≡ suc k = omega arith in
    let low : 10 ^ suc k ≤ row = rw i at (l (omega arith)) in
    sym (digits-count 10 (suc k) 20 row (omega arith) low (omega arith) (go (ltb (suc k) 20) refl low))
  where
    go : (t : Bool) → ltb (suc k) 20 ≡ t → 10 ^ suc k ≤ row → suc k < 20
    go true f m = ltb-true (suc k) 20 f
    go false f m = absurd (omega (arith, pow-le-pow_right {n = 10} (omega arith) {i = 20} {j = suc k} (ltb-false (suc k) 20 f)))

-- the binary digits of a value, by its bits
pub binary-count : (value : ℕ) → 0 < value → 64 - count_leading_zeros 64 value ≡ length (binary value)
binary-count value p = omega (arith, bits-count 64 value p)

pub binary-zero : length (binary 0) ≡ 1
binary-zero = ap (λ (x : List ℕ). length x) (one-digit 2 63 0 (omega arith))
