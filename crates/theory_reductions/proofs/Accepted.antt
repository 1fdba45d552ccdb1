-- A check of a finish that an accepted answer had passed.
use mathlib.Core.Path.{◌≡◌, refl}
use mathlib.Core.Bool.{Bool, true, false}
use Prim.Native.Nat.{ℕ}
use Rattle.groups.specs.Answer.{Answer, accepted}
use Rattle.groups.proofs.Answers.{never}
use Rattle.rows.specs.cycles.Cycles.{refuse_if}

-- a check of a finish did not hold
pub unrefused : {A : Type 0} (t : Bool) (n : ℕ) (rest : Answer A) (x : A) → refuse_if t n rest ≡ accepted x → (t ≡ false) × (rest ≡ accepted x)
unrefused true n rest x e = never n x e
unrefused false n rest x e = (refl, e)
