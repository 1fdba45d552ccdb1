-- Laws of remainders: sums and products go by the remainders of their parts. They hold for every divisor.
use mathlib.Core.Path.{◌≡◌, refl, sym, ap, ◌∙◌}
use Prim.Native.Nat.{ℕ, ◌+◌, ◌*◌, ◌/◌, ◌%◌, ◌<◌}
use native.Mathlib.Nat.{mul_assoc, mul_comm, add-mul, mod-add-div, add-mod, add-mul-mod_self_left, mod-lt}
use native.Mathlib.Omega.{arith}
use Rattle.field.specs.Modulus.{P}

mul-mod-l : (a b d : ℕ) → (a * b) % d ≡ (a % d * b) % d
mul-mod-l a b d =
    ap (λ (n : ℕ). (n * b) % d) (sym (mod-add-div a d))
    ∙ ap (λ (n : ℕ). n % d) (add-mul (a % d) (d * (a / d)) b ∙ ap (λ (n : ℕ). a % d * b + n) (mul_assoc d (a / d) b))
    ∙ add-mul-mod_self_left (a % d * b) d (a / d * b)

pub mul-mod : (a b d : ℕ) → (a * b) % d ≡ (a % d * (b % d)) % d
mul-mod a b d = mul-mod-l a b d ∙ ap (λ (n : ℕ). n % d) (mul_comm (a % d) b) ∙ mul-mod-l b (a % d) d ∙ ap (λ (n : ℕ). n % d) (mul_comm (b % d) (a % d))

pub mul-cong : (a a' b b' d : ℕ) → a % d ≡ a' % d → b % d ≡ b' % d → (a * b) % d ≡ (a' * b') % d
mul-cong a a' b b' d p q = mul-mod a b d ∙ (λ i. (p i * q i) % d) ∙ sym (mul-mod a' b' d)

pub add_cong : (a a' b b' d : ℕ) → a % d ≡ a' % d → b % d ≡ b' % d → (a + b) % d ≡ (a' + b') % d
add_cong a a' b b' d p q = add-mod a b d ∙ (λ i. (p i + q i) % d) ∙ sym (add-mod a' b' d)

-- a remainder modulo p is a cell
pub mod_below : (x : ℕ) → x % P < P
mod_below x = mod-lt x (omega arith)

-- what is added on both sides cancels modulo p
pub add-cancel : (a b c : ℕ) → (a + c) % P ≡ (b + c) % P → a % P ≡ b % P
add-cancel a b c e =
    sym (drop a) ∙ add_cong (a + c) (b + c) (c * 18446744069414584320) (c * 18446744069414584320) P e refl ∙ drop b
  where
    drop : (n : ℕ) → (n + c + c * 18446744069414584320) % P ≡ n % P
    drop n =
        let q : n + c + c * 18446744069414584320 ≡ n + P * c = omega arith in
        ap (λ (m : ℕ). m % P) q ∙ add-mul-mod_self_left n P c
