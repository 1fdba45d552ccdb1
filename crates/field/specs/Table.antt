-- Document 01: "Inverses of 0 to 1,023 (0 for 0) stand in a constant table; its rule is that entry times index is 1 modulo p from
-- index 1 on." Change request N5: "Cut it to the inverses of 0 to 127 and compute the others." Entries are cells, so they are below p.
use Rattle.std.specs.Prelude.{◌≡◌, List, ℕ, ◌*◌, ◌%◌, ◌<◌, get_or}
use Rattle.field.specs.Modulus.{P}

pub record TableRule (table : List ℕ) : Type 0 where
  pub of_zero : get_or table 0 0 ≡ 0
  pub of_index : (k : ℕ) → 0 < k → k < 128 → ((k * get_or table k 0) % P ≡ 1) × (get_or table k 0 < P)
