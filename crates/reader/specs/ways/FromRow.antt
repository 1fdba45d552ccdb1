-- The rows from a row on.
use Rattle.std.specs.Prelude.{List, ℕ, drop}
use Rattle.theory_readings.specs.Tokens.{Token}
use Rattle.theory_readings.specs.Readings.{Row, numbered}

-- the rows from row i on, with their numbers
unfoldable pub rows_from : (w : List Token) → (i : ℕ) → List Row
rows_from w i = drop i (numbered 0 w)
