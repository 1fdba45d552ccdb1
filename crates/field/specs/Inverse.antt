-- The inverse modulo p: the law that defines it, and a function that computes it (Euclid's algorithm).
-- That the function meets the law, and that the law leaves one number, are theorems (`proofs/InverseLaws.antt`).
use Rattle.std.specs.Prelude.{◌≡◌, ℕ, zero, suc, ◌+◌, ◌*◌, ◌-◌, ◌/◌, ◌%◌, ◌<◌}
use Rattle.field.specs.Modulus.{P}

-- y is the inverse of x: 0 where x is 0 modulo p, and else the number below p whose product with x is 1 modulo p
pub record IsInverse (x y : ℕ) : Type 0 where
  pub of_zero : x % P ≡ 0 → y ≡ 0
  pub of_nonzero : (x % P ≡ 0 → ⊥) → (y < P) × ((x * y) % P ≡ 1)

-- Euclid's algorithm on a and b, which x·s and x·t are modulo p; as many steps as the first number says, which no run uses up
unfoldable pub euclid : ℕ → ℕ → ℕ → ℕ → ℕ → ℕ
euclid zero a b s t = s
euclid (suc n) a zero s t = s
euclid (suc n) a (suc b) s t = euclid n (suc b) (a % suc b) t ((s + (P - a / suc b * t % P)) % P)

-- the inverse of x modulo p
unfoldable pub inverse_of : ℕ → ℕ
inverse_of x = euclid (x % P) P (x % P) 0 1
