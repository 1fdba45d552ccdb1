-- What the loop of `inverse::euclid_inverse` keeps: Bezout's equations without signs, and what they say at its two exits.
use mathlib.Core.Path.{◌≡◌, refl, sym, ap, ◌∙◌, subst}
use Prim.Native.Nat.{ℕ, ◌+◌, ◌*◌, ◌-◌, ◌/◌, ◌%◌, ◌≤◌, ◌<◌, ◌∣◌}
use native.Mathlib.Nat.{dvd-mod_iff, dvd_refl, dvd-zero, le_of_dvd, mul-div_cancel', mul-le-mul_left, le-mul_of_pos_right, div-add-mod', add-mul-mod_self_left, mul-mod_left, zero-mod}
use native.Mathlib.Omega.{arith}
use Rattle.field.specs.Modulus.{P}
use Rattle.field.proofs.Remainders.{add_cong, mul-cong, add-cancel}
use Rattle.field.proofs.Prime.{prime}

-- a common divisor of p and a smaller number is 1
pub coprime : (a x : ℕ) → 0 < x → x < P → a ∣ P → a ∣ x → 1 < a → ⊥
coprime a x p l f g h = prime a (P / a) e h two
  where
    e : a * (P / a) ≡ P
    e = mul-div_cancel' a f

    le : a ≤ x
    le = le_of_dvd p g

    not-small : P / a ≤ 1 → ⊥
    not-small k = let m : a * (P / a) ≤ a * 1 = mul-le-mul_left a k in omega (arith, e, le)

    two : 1 < P / a
    two = let n : ¬ (P / a ≤ 1) = not-small in omega (arith, n)

-- x s is -u and x t is v modulo p, and the common divisors of u and v divide p and x
pub record Bezout (x u v s t : ℕ) : Type 0 where
  pub bu : (x * s + u) % P ≡ 0
  pub bv : (x * t) % P ≡ v % P
  pub sum : s * v + t * u ≡ P
  pub common : (d : ℕ) → d ∣ u → d ∣ v → (d ∣ P) × (d ∣ x)

pub start : (x : ℕ) → Bezout x P x 0 1
start x =
    record {
      bu = let e : x * 0 + P ≡ 0 + P * 1 = omega arith in ap (λ (n : ℕ). n % P) e ∙ add-mul-mod_self_left 0 P 1;
      bv = let e : x * 1 ≡ x = omega arith in ap (λ (n : ℕ). n % P) e;
      sum = omega arith;
      common = λ d a b. (a, b);
    }

module _ (x u v s t : ℕ) (b : Bezout x u v s t) where
  sum-u : (s + u / v * t) * v + t * (u % v) ≡ P
  sum-u = let e : t * (u / v * v + u % v) ≡ t * u = ap (λ (n : ℕ). t * n) (div-add-mod' u v) in omega (arith, e, b.sum)

  sum-v : s * (v % u) + (t + v / u * s) * u ≡ P
  sum-v = let e : s * (v / u * u + v % u) ≡ s * v = ap (λ (n : ℕ). s * n) (div-add-mod' v u) in omega (arith, e, b.sum)

  bez-u : (x * (s + u / v * t) + u % v) % P ≡ 0
  bez-u = add-cancel (x * (s + u / v * t) + u % v) 0 (u / v * v) both ∙ zero-mod P
    where
      both : (x * (s + u / v * t) + u % v + u / v * v) % P ≡ (0 + u / v * v) % P
      both =
          let e : x * (s + u / v * t) + u % v + u / v * v ≡ x * s + u + u / v * (x * t) = omega (arith, div-add-mod' u v) in
          ap (λ (n : ℕ). n % P) e
          ∙ add_cong (x * s + u) 0 (u / v * (x * t)) (u / v * v) P b.bu (mul-cong (u / v) (u / v) (x * t) v P refl b.bv)

  bez-v : (x * (t + v / u * s)) % P ≡ (v % u) % P
  bez-v = add-cancel (x * (t + v / u * s)) (v % u) (v / u * u) both
    where
      both : (x * (t + v / u * s) + v / u * u) % P ≡ (v % u + v / u * u) % P
      both =
          let e : x * (t + v / u * s) + v / u * u ≡ x * t + v / u * (x * s + u) = omega arith in
          let f : v % u + v / u * u ≡ v + v / u * 0 = omega (arith, div-add-mod' v u) in
          ap (λ (n : ℕ). n % P) e
          ∙ add_cong (x * t) v (v / u * (x * s + u)) (v / u * 0) P b.bv (mul-cong (v / u) (v / u) (x * s + u) 0 P refl b.bu)
          ∙ ap (λ (n : ℕ). n % P) (sym f)

  pub step-u : Bezout x (u % v) v (s + u / v * t) t
  step-u = record { bu = bez-u; bv = b.bv; sum = sum-u; common = λ d f g. b.common d ((dvd-mod_iff d g).0 f) g }

  pub step-v : Bezout x u (v % u) s (t + v / u * s)
  step-v = record { bu = b.bu; bv = bez-v; sum = sum-v; common = λ d f g. b.common d f ((dvd-mod_iff d f).0 g) }

  pub fits-u : 0 < v → s + u / v * t ≤ P
  fits-u h = omega (arith, sum-u, le-mul_of_pos_right (s + u / v * t) h)

  pub fits-v : 0 < u → t + v / u * s ≤ P
  fits-v h = omega (arith, sum-v, le-mul_of_pos_right (t + v / u * s) h)

  pub u-nonzero : 0 < x → x < P → 1 < v → u ≡ 0 → ⊥
  u-nonzero p l h e = let w = b.common v (subst (λ (n : ℕ). v ∣ n) (sym e) (dvd-zero v)) (dvd_refl v) in coprime v x p l w.0 w.1 h

  pub v-nonzero : 0 < x → x < P → 1 < u → v ≡ 0 → ⊥
  v-nonzero p l h e = let w = b.common u (dvd_refl u) (subst (λ (n : ℕ). u ∣ n) (sym e) (dvd-zero u)) in coprime u x p l w.0 w.1 h

below : (x r : ℕ) → r ≤ P → (x * r) % P ≡ 1 → r < P
below x r l e = let n : ¬ (r ≡ P) = λ q. bad r q e in omega arith
  where
    bad : (r : ℕ) → r ≡ P → (x * r) % P ≡ 1 → ⊥
    bad r q e = let z : ◌≡◌ {A = ℕ} 0 1 = sym (mul-mod_left x P) ∙ ap (λ (n : ℕ). (x * n) % P) (sym q) ∙ e in omega arith

pub end-v : (x u v s t : ℕ) → Bezout x u v s t → 0 < u → v ≡ 1 → ((x * t) % P ≡ 1) × (t < P)
end-v x u v s t b h e = (one, below x t le one)
  where
    one : (x * t) % P ≡ 1
    one = b.bv ∙ ap (λ (n : ℕ). n % P) e

    le : t ≤ P
    le = omega (arith, b.sum, le-mul_of_pos_right t h)

pub end-u : (x u v s t : ℕ) → Bezout x u v s t → 0 < v → u ≡ 1 → ((x * (P - s)) % P ≡ 1) × (P - s < P)
end-u x u v s t b h e = (one, below x (P - s) (omega arith) one)
  where
    le : s ≤ P
    le = omega (arith, b.sum, le-mul_of_pos_right s h)

    back : P - s + s ≡ P
    back = omega (arith, le)

    both : (x * (P - s) + x * s) % P ≡ (1 + x * s) % P
    both =
        let p : x * (P - s) + x * s ≡ x * P = omega (arith, ap (λ (n : ℕ). x * n) back) in
        let q : x * s + u ≡ 1 + x * s = omega arith in
        ap (λ (n : ℕ). n % P) p ∙ mul-mod_left x P ∙ sym b.bu ∙ ap (λ (n : ℕ). n % P) q

    one : (x * (P - s)) % P ≡ 1
    one = add-cancel (x * (P - s)) 1 (x * s) both
