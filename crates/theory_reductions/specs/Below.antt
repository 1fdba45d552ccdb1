-- Lists of cells below p.
use Rattle.std.specs.Prelude.{List, [], ◌∷◌, ℕ, ◌<◌}
use Rattle.field.specs.Modulus.{P}

-- "A cell is a u64 below p"
unfoldable pub Below : List ℕ → Type 0
Below [] = Unit {0}
Below (x ∷ l) = (x < P) × Below l

unfoldable pub BelowAll : List (List ℕ) → Type 0
BelowAll [] = Unit {0}
BelowAll (row ∷ rows) = Below row × BelowAll rows
