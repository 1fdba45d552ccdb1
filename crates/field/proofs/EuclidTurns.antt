-- A turn of the loop of `inverse::euclid_inverse`, whose invariant is Bezout's, and its end.
use mathlib.Core.Path.{◌≡◌}
use Prim.Native.Nat.{ℕ, ◌+◌, ◌*◌, ◌/◌, ◌%◌, ◌<◌, ◌≤◌}
use native.Mathlib.Nat.{mod-lt}
use native.Mathlib.Omega.{arith}
use Rattle.field.specs.Modulus.{P}
use Rattle.field.specs.Inverse.{inverse_of}
use Rattle.field.proofs.InverseLaws.{inverse-is}
use Rattle.field.proofs.Bezout.{Bezout, step-u, step-v, fits-v, u-nonzero, v-nonzero, end-v}

-- the first half of a turn, and its remainder, which is not 0
module _ (x u v s t : ℕ) (b : Bezout x u v s t) (p : (0 < x) × (x < P)) (h : 1 < v) where
  pub half : Bezout x (u % v) v (s + u / v * t) t
  half = step-u x u v s t b

  pub big : (u % v ≡ 1 → ⊥) → 1 < u % v
  big n = let z : ¬ (u % v ≡ 0) = u-nonzero x (u % v) v (s + u / v * t) t half p.0 p.1 h in let o : ¬ (u % v ≡ 1) = n in omega (arith, z, o)

  pub second_fits : (u % v ≡ 1 → ⊥) → t + v / (u % v) * (s + u / v * t) ≤ P
  second_fits n = fits-v x (u % v) v (s + u / v * t) t half (omega (arith, big n))

  pub again : (u % v ≡ 1 → ⊥) → Bezout x (u % v) (v % (u % v)) (s + u / v * t) (t + v / (u % v) * (s + u / v * t)) × (1 < u % v)
  again n = (step-v x (u % v) v (s + u / v * t) t half, big n)

  pub less : (u % v ≡ 1 → ⊥) → v % (u % v) < v
  less n = omega (arith, big n, mod-lt v {m = u % v} (omega (arith, big n)), mod-lt u {m = v} (omega arith))

-- what the law of the inverse asks of the result
pub is_inverse : (x y : ℕ) → (0 < x) × (x < P) → ((x * y) % P ≡ 1) × (y < P) → y ≡ inverse_of x
is_inverse x y p e = inverse-is x y p.0 p.1 e.1 e.0

pub finish : (x u v s t : ℕ) → Bezout x u v s t × (1 < u) → (0 < x) × (x < P) → v ≤ 1 → ((x * t) % P ≡ 1) × (t < P)
finish x u v s t i p h = end-v x u v s t i.0 (omega arith) (let z : ¬ (v ≡ 0) = v-nonzero x u v s t i.0 p.0 p.1 i.1 in omega (arith, z))

-- what a turn needs of its divisors, its sums and its measure
pub ruleset turn_laws = (big, second_fits, less)
