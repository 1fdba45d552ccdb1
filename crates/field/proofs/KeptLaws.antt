-- Laws of the inverses that `invert_column` keeps.
use mathlib.Core.Path.{◌≡◌, ◌∙◌, refl}
use mathlib.Core.Bool.{Bool, true, false}
use mathlib.Core.List.{List}
use mathlib.Core.Logic.{◌⊎◌, inl, inr, ⊎_elim}
use Prim.Native.Nat.{ℕ, ◌<◌}
use native.Mathlib.Omega.{arith}
use borrow.Author.Tests.{eqb-true, eqb-false}
use lib.Dec.{eqb}
use lib.ListN.{get_or, set, replicate, length-replicate, get_or-replicate, length-set}
use lib.Seq.{get_or-set_same, get_or-set_other}
use Rattle.field.specs.Inverse.{inverse_of}
use Rattle.field.specs.ways.KeptInverses.{KeptInverses}

-- nothing is kept
pub kept_none : KeptInverses (replicate 1024 0)
kept_none = record { places = length-replicate {A = ℕ} 1024 0; at_place = λ k h. inl (get_or-replicate {A = ℕ} 1024 k 0 0 h) }

module _ (kept : List ℕ) (holds : KeptInverses kept) where
  -- what is not 0 is an inverse
  pub kept-found : (k : ℕ) → k < 1024 → (get_or kept k 0 ≡ 0 → ⊥) → get_or kept k 0 ≡ inverse_of k
  kept-found k h some = ⊎_elim (λ z. absurd (some z)) (λ e. e) (holds.at_place k h)

  -- one more
  pub kept_more : (i x : ℕ) → x ≡ inverse_of i → KeptInverses (set kept i x)
  kept_more i x e = record { places = length-set kept i x ∙ holds.places; at_place = λ k h. by (eqb k i) refl h }
    where
      by : {k : ℕ} (same : Bool) → eqb k i ≡ same → k < 1024 → (get_or (set kept i x) k 0 ≡ 0) ⊎ (get_or (set kept i x) k 0 ≡ inverse_of k)
      by {k} true t h =
          let is : k ≡ i = eqb-true k i t in
          inr (rw is (get_or-set_same kept i x 0 (omega (arith, is, h, holds.places)) ∙ e))
      by {k} false t h = rw (get_or-set_other kept i k x 0 (eqb-false k i t)) (holds.at_place k h)
