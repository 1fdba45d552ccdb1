-- A product of two bits is a bit.
use Prim.Native.Nat.{ℕ, ◌*◌, ◌≤◌}
use native.Mathlib.Nat.{mul-le-mul}

pub bit-mul : (a b : ℕ) → a ≤ 1 → b ≤ 1 → a * b ≤ 1
bit-mul a b p q = mul-le-mul p q
