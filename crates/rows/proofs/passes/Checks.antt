-- Laws of what the passes refuse.
use mathlib.Core.Path.{◌≡◌, refl}
use mathlib.Core.Bool.{Bool, true, false}
use mathlib.Core.List.{List, ◌∷◌}
use Prim.Native.Nat.{ℕ, suc}
use native.Mathlib.Omega.{arith}
use Rattle.groups.specs.Answer.{first_of}
pub use Rattle.groups.proofs.OneGroup.{neither}

-- a test that is the first of a list is not what is answered, where nothing is
pub none_first : (t : Bool) (number : ℕ) (rest : List (Bool × ℕ)) → first_of ((t, suc number) ∷ rest) ≡ 0 → (t ≡ false) × (first_of rest ≡ 0)
unfolding first_of
none_first true number rest e = absurd (omega arith)
none_first false number rest e = (refl, e)
