-- What `invert_column` keeps of the inverses that it has computed.
use Rattle.std.specs.Prelude.{◌≡◌, List, ◌⊎◌, ℕ, ◌<◌, length, get_or}
use Rattle.field.specs.Inverse.{inverse_of}

-- 1,024 places, and at each 0, where no inverse is kept, or the inverse of the place
pub record KeptInverses (kept : List ℕ) : Type 0 where
  pub places : length kept ≡ 1024
  pub at_place : (k : ℕ) → k < 1024 → (get_or kept k 0 ≡ 0) ⊎ (get_or kept k 0 ≡ inverse_of k)
