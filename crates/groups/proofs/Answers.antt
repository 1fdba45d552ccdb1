-- How an accepted answer came about: every step before it was accepted, and every test that refuses had passed.
use mathlib.Core.Path.{◌≡◌, refl}
use mathlib.Core.Bool.{Bool, true, false}
use Prim.Native.Nat.{ℕ}
use native.Mathlib.Omega.{arith}
use Rattle.groups.specs.Answer.{Answer, accepted, refused, and_then, pick}

-- a refusal is no accepted answer
pub never : {A B : Type 0} (n : ℕ) (x : A) → refused n ≡ accepted x → B
never n x e = let z : ◌≡◌ {A = ℕ} 0 1 = cc in absurd (omega arith)

-- both steps were accepted
pub then-accepted : {A B : Type 0} (a : Answer A) (f : A → Answer B) (y : B) → and_then a f ≡ accepted y → (x : A) × (a ≡ accepted x) × (f x ≡ accepted y)
then-accepted (accepted x) f y e = (x, refl, e)
then-accepted (refused n) f y e = never n y e

-- a test that refuses where it fails held
pub held : {A : Type 0} (t : Bool) (n : ℕ) (x : Answer A) (y : A) → pick t x (refused n) ≡ accepted y → (t ≡ true) × (x ≡ accepted y)
held true n x y e = (refl, e)
held false n x y e = never n y e

-- a test that refuses where it holds did not hold
pub passed : {A : Type 0} (t : Bool) (n : ℕ) (x : Answer A) (y : A) → pick t (refused n) x ≡ accepted y → (t ≡ false) × (x ≡ accepted y)
passed true n x y e = never n y e
passed false n x y e = (refl, e)
