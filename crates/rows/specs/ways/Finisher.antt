-- The finisher: what its checks say before it looks at the rows, and its passes with the second one made first.
use Rattle.std.specs.Prelude.{◌≡◌, false, List, ℕ, ◌+◌, ◌-◌, length}
use Rattle.rows.specs.declared.records.profile.Profile.{Profile}
use Rattle.rows.specs.records.Profiles.{profile_wrong}
use Rattle.rows.specs.records.Buffers.{on_rows}
use Rattle.rows.specs.passes.Passes.{fixed_up, built_of, inverted, halted, padded, sum_of, no_fragment, not_full, fragments_wrong, height_wrong, last_built}

-- none of the finisher's checks but that of 14 holds
pub record Passed (p : Profile) (cells size height : ℕ) (counts built : List ℕ) : Type 0 where
  pub profile_right : profile_wrong p ≡ false
  pub fragments : fragments_wrong cells size counts built ≡ false
  pub height_right : height_wrong cells (sum_of counts) height ≡ false
  pub fragment : no_fragment counts ≡ false
  pub full : not_full size counts ≡ false

-- the passes but the second, in order
unfoldable pub other_passes : Profile → (size : ℕ) → (counts built top : List ℕ) → (height : ℕ) → List ℕ → List ℕ
other_passes p size counts built top height buffer =
    on_rows (sum_of counts + 1) (padded p height)
    (on_rows (sum_of counts) (halted p (last_built counts built))
    (on_rows (sum_of counts) inverted
    (on_rows (sum_of counts) (fixed_up size top (built_of (length counts - 1) built)) buffer)))
