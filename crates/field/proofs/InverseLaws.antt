-- The laws of the inverse modulo p: `inverse-law` (existence), `inverse-unique`, `inverse-below`, what cancels, and no zero divisors.
use mathlib.Core.Path.{◌≡◌, refl, sym, ap, ◌∙◌, subst}
use mathlib.Core.Logic.{◌⊎◌, inl, inr}
use Prim.Native.Nat.{ℕ, zero, suc, ◌+◌, ◌*◌, ◌-◌, ◌/◌, ◌%◌, ◌≤◌, ◌<◌, ◌∣◌}
use native.Mathlib.Nat.{mod-lt, mod-mod, mod-eq_of_lt, mul_assoc, mul_comm, one-mul, not-suc-le-zero, dvd_refl, dvd-zero, dvd-mod_iff, div-add-mod', add-mul-mod_self_left}
use native.Mathlib.Decide.{ℕ_discrete}
use native.Mathlib.Omega.{arith}
use Rattle.field.specs.Modulus.{P}
use Rattle.field.specs.Inverse.{IsInverse, euclid, inverse_of}
use Rattle.field.proofs.Remainders.{mul-cong, add_cong, add-cancel, mod_below}
use Rattle.field.proofs.Bezout.{coprime}

-- What a step of `euclid` keeps: x·s is a and x·t is b modulo p, and a common divisor of a and b divides p and x.
record Kept (x a b s t : ℕ) : Type 0 where
  pub first : (x * s) % P ≡ a % P
  pub second : (x * t) % P ≡ b % P
  pub below : (s < P) × (t < P)
  pub common : (d : ℕ) → d ∣ a → d ∣ b → (d ∣ P) × (d ∣ x)

start : (x : ℕ) → Kept x P x 0 1
start x =
    record {
      first = let e : x * 0 ≡ 0 = omega arith in ap (λ (n : ℕ). n % P) e;
      second = let e : x * 1 ≡ x = omega arith in ap (λ (n : ℕ). n % P) e;
      below = (omega arith, omega arith);
      common = λ d f g. (f, g);
    }

-- the next coefficient, s less q·t modulo p
abbrev next : ℕ → ℕ → ℕ → ℕ
next q s t = (s + (P - q * t % P)) % P

next-law : (x q s t : ℕ) → (x * next q s t + q * (x * t)) % P ≡ (x * s) % P
next-law x q s t =
    add_cong (x * next q s t) (x * (s + (P - q * t % P))) (q * (x * t)) (q * (x * t)) P
    (mul-cong x x (next q s t) (s + (P - q * t % P)) P refl (mod-mod (s + (P - q * t % P)) P)) refl
    ∙ ap (λ (n : ℕ). n % P) whole
    ∙ add-mul-mod_self_left (x * s) P (x * (1 + q * t / P))
  where
    m : ℕ
    m = q * t % P

    parts : P - m + q * t ≡ P * (1 + q * t / P)
    parts = omega (arith, div-add-mod' (q * t) P, mod_below (q * t))

    whole : x * (s + (P - m)) + q * (x * t) ≡ x * s + P * (x * (1 + q * t / P))
    whole =
        let e : x * (P - m + q * t) ≡ x * (P * (1 + q * t / P)) = ap (λ (n : ℕ). x * n) parts in
        omega (arith, e)

step : (x a b s t : ℕ) → 0 < b → Kept x a b s t → Kept x b (a % b) t (next (a / b) s t)
step x a b s t h k =
    record {
      first = k.second;
      second = add-cancel (x * next (a / b) s t) (a % b) (a / b * b) both;
      below = (k.below.1, mod_below (s + (P - a / b * t % P)));
      common = λ d f g. k.common d ((dvd-mod_iff d f).0 g) f;
    }
  where
    both : (x * next (a / b) s t + a / b * b) % P ≡ (a % b + a / b * b) % P
    both =
        let e : a % b + a / b * b ≡ a = omega (arith, div-add-mod' a b) in
        add_cong (x * next (a / b) s t) (x * next (a / b) s t) (a / b * b) (a / b * (x * t)) P refl
        (mul-cong (a / b) (a / b) b (x * t) P refl (sym k.second))
        ∙ next-law x (a / b) s t ∙ k.first ∙ ap (λ (n : ℕ). n % P) (sym e)

-- at the end, where b is 0, a is 1
finish : (x a s t : ℕ) → 0 < x → x < P → Kept x a 0 s t → (s < P) × ((x * s) % P ≡ 1)
finish x a s t h l k = (k.below.0, k.first ∙ ap (λ (n : ℕ). n % P) one)
  where
    no-divisor : (d : ℕ) → d ∣ a → 1 < d → ⊥
    no-divisor d f g = let w = k.common d f (dvd-zero d) in coprime d x h l w.0 w.1 g

    not-zero : a ≡ 0 → ⊥
    not-zero e = no-divisor 2 (subst (λ (n : ℕ). 2 ∣ n) (sym e) (dvd-zero 2)) (omega arith)

    one : a ≡ 1
    one =
        let z : ¬ (a ≡ 0) = not-zero in
        let g : ¬ (1 < a) = no-divisor a (dvd_refl a) in
        omega (arith, z, g)

run : (n x a b s t : ℕ) → 0 < x → x < P → b ≤ n → Kept x a b s t → (euclid n a b s t < P) × ((x * euclid n a b s t) % P ≡ 1)
unfolding euclid
run zero x a zero s t h l f k = finish x a s t h l k
run zero x a (suc b) s t h l f k = absurd (not-suc-le-zero f)
run (suc n) x a zero s t h l f k = finish x a s t h l k
run (suc n) x a (suc b) s t h l f k =
    run n x (suc b) (a % suc b) t (next (a / suc b) s t) h l
    (omega (arith, mod-lt a {m = suc b} (omega arith)))
    (step x a (suc b) s t (omega arith) k)

-- the inverse of a number from 1 to p - 1
nonzero : (x : ℕ) → 0 < x → x < P → (euclid x P x 0 1 < P) × ((x * euclid x P x 0 1) % P ≡ 1)
nonzero x h l = run x x P x 0 1 h l (omega arith) (start x)

-- Existence: what `inverse_of` computes is the inverse.
pub inverse-law : (x : ℕ) → IsInverse x (inverse_of x)
unfolding inverse_of euclid
inverse-law x = record { of_zero = λ e. ap (λ (n : ℕ). euclid n P n 0 1) e; of_nonzero = of_nonzero }
  where
    of_nonzero : (x % P ≡ 0 → ⊥) → (inverse_of x < P) × ((x * inverse_of x) % P ≡ 1)
    of_nonzero n =
        let z : ¬ (x % P ≡ 0) = n in
        let w = nonzero (x % P) (omega (arith, z)) (mod_below x) in
        (w.0, mul-cong x (x % P) (inverse_of x) (inverse_of x) P (sym (mod-mod x P)) refl ∙ w.1)

pub inverse-below : (x : ℕ) → inverse_of x < P
inverse-below x = go (ℕ_discrete (x % P) 0)
  where
    go : Dec (x % P ≡ 0) → inverse_of x < P
    go (yes e) = subst (λ (n : ℕ). n < P) (sym ((inverse-law x).of_zero e)) (omega arith)
    go (no n) = ((inverse-law x).of_nonzero n).0

-- what has an inverse cancels
pub mul-cancel : (x a b : ℕ) → (x % P ≡ 0 → ⊥) → (x * a) % P ≡ (x * b) % P → a % P ≡ b % P
mul-cancel x a b n e = sym (back a) ∙ mul-cong y y (x * a) (x * b) P refl e ∙ back b
  where
    y : ℕ
    y = inverse_of x

    back : (z : ℕ) → (y * (x * z)) % P ≡ z % P
    back z =
        ap (λ (m : ℕ). m % P) (sym (mul_assoc y x z) ∙ ap (λ (m : ℕ). m * z) (mul_comm y x))
        ∙ mul-cong (x * y) 1 z z P ((inverse-law x).of_nonzero n).1 refl
        ∙ ap (λ (m : ℕ). m % P) (one-mul z)

-- Uniqueness: the law leaves one number.
pub inverse-unique : (x y : ℕ) → IsInverse x y → y ≡ inverse_of x
inverse-unique x y k = go (ℕ_discrete (x % P) 0)
  where
    go : Dec (x % P ≡ 0) → y ≡ inverse_of x
    go (yes e) = k.of_zero e ∙ sym ((inverse-law x).of_zero e)
    go (no n) =
        let w = (inverse-law x).of_nonzero n in
        let v = k.of_nonzero n in
        sym (mod-eq_of_lt v.0) ∙ mul-cancel x y (inverse_of x) n (v.1 ∙ sym w.1) ∙ mod-eq_of_lt w.0

-- for a number from 1 to p - 1 the product alone decides
pub inverse-is : (x y : ℕ) → 0 < x → x < P → y < P → (x * y) % P ≡ 1 → y ≡ inverse_of x
inverse-is x y h l b e =
    inverse-unique x y
    (record { of_zero = λ z. absurd (positive z); of_nonzero = λ n. (b, e) })
  where
    positive : x % P ≡ 0 → ⊥
    positive z = let q : x % P ≡ x = mod-eq_of_lt l in omega (arith, q)

-- the inverse goes by the number modulo p
pub inverse-mod : (x : ℕ) → inverse_of (x % P) ≡ inverse_of x
unfolding inverse_of
inverse-mod x = ap (λ (n : ℕ). euclid n P n 0 1) (mod-mod x P)

pub inverse-reduced : (x y : ℕ) → y ≡ x % P → inverse_of y ≡ inverse_of x
inverse-reduced x y e = ap inverse_of e ∙ inverse-mod x

pub inverse-zero : inverse_of 0 ≡ 0
unfolding inverse_of euclid
inverse-zero = refl

-- a product is 0 modulo p only where a factor is
pub no-zero-divisors : (x y : ℕ) → (x * y) % P ≡ 0 → (x % P ≡ 0) ⊎ (y % P ≡ 0)
no-zero-divisors x y e = go (ℕ_discrete (x % P) 0)
  where
    go : Dec (x % P ≡ 0) → (x % P ≡ 0) ⊎ (y % P ≡ 0)
    go (yes z) = inl z
    go (no n) = let z : x * 0 ≡ 0 = omega arith in inr (mul-cancel x y 0 n (e ∙ sym (ap (λ (m : ℕ). m % P) z)))
