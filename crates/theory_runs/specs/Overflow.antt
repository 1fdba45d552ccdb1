-- The overflow rule of the documentation's operand stack chapter, which change request N4 speaks of: in every row the helper is the inverse of
-- the depth less 16, and 0 where the depth is 16.
use Rattle.std.specs.Prelude.{◌≡◌, List, [], ◌∷◌, ℕ, ◌-◌, ◌*◌, ◌%◌, ◌≤◌, ◌<◌, get_or}
use Rattle.field.specs.Modulus.{P}
use Rattle.groups.specs.Constants.{b0_column, helper_column}
use Rattle.theory_runs.specs.Calls.{Call, store, finish, Fragment}

-- "stack top (16), b0, b1, helper": b0, which is the depth, and the helper of a row, as they stand
abbrev pub b0_cell : List ℕ → ℕ
b0_cell row = get_or row b0_column 0

abbrev pub helper_cell : List ℕ → ℕ
helper_cell row = get_or row helper_column 0

pub record OverflowRule (row : List ℕ) : Type 0 where
  -- helper × (b0 − 16) is 1 modulo p where b0 is above 16
  pub above_16 : 16 < b0_cell row → (helper_cell row * (b0_cell row - 16)) % P ≡ 1
  -- and the helper is 0 where it is 16
  pub at_16 : b0_cell row ≡ 16 → helper_cell row ≡ 0

-- "each of 32 bits, as are depths"
abbrev pub Is32 : ℕ → Type 0
Is32 depth = depth < 4294967296

-- no row is left out by the rule: its depth is 16 or more, and of 32 bits
abbrev pub DepthInRange : (row : List ℕ) → Type 0
DepthInRange row = (16 ≤ b0_cell row) × Is32 (b0_cell row)

-- the depths that the cycles of a run are handed
unfoldable pub Depths32 : List Call → Type 0
Depths32 [] = Unit {0}
Depths32 (store values ∷ calls) = Depths32 calls
Depths32 (finish i ∷ calls) = Is32 i.stack.stack_depth × Depths32 calls

unfoldable pub AllDepths32 : List Fragment → Type 0
AllDepths32 [] = Unit {0}
AllDepths32 (fragment ∷ fragments) = Depths32 fragment.calls × AllDepths32 fragments
