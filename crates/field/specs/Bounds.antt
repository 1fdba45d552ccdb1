-- Numbers held against a limit.
use Rattle.std.specs.Prelude.{Bool, false, ◌||◌, List, [], ◌∷◌, ℕ, leb}

-- one of the numbers is the limit or above
unfoldable pub any_from : (limit : ℕ) → List ℕ → Bool
any_from limit [] = false
any_from limit (x ∷ xs) = leb limit x || any_from limit xs
