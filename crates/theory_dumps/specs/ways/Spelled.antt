-- Numerals as a way to read them takes them apart.
use Rattle.std.specs.Prelude.{Bool, true, false, not, List, [], ◌∷◌, ℕ, ◌+◌, ◌-◌, ◌*◌, eqb}

-- the number that digits in a base spell, behind a number that stands in front of them
unfoldable pub spelled : (base before : ℕ) → List ℕ → ℕ
spelled base before [] = before
spelled base before (digit ∷ digits) = spelled base (before * base + (digit - 48)) digits

-- "without leading zeros": there is a digit, and the first of several is not 0
unfoldable pub plain : List ℕ → Bool
plain [] = false
plain (digit ∷ []) = true
plain (digit ∷ next ∷ digits) = not (eqb digit 48)
