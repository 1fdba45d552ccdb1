-- A final state that counts more than 2^24 rows, which no calls make: the first pass and the finisher refuse what is handed over of it (11).
use mathlib.Core.Path.{◌≡◌, refl}
use mathlib.Core.Bool.{Bool, true, false}
use mathlib.Core.List.{List, [], ◌∷◌, ◌++◌}
use Prim.Native.Nat.{ℕ, ◌≤◌, ◌<◌}
use native.Mathlib.Omega.{arith}
use lib.ListN.{length}
use Rattle.rows.specs.declared.records.profile.Profile.{Profile}
use Rattle.rows.specs.declared.cycles.tracer.TracerFinalState.{TracerFinalState}
use Rattle.rows.specs.records.Profiles.{profile_wrong}
use Rattle.rows.specs.cycles.Cycles.{for_passes}
use Rattle.rows.specs.passes.Passes.{sum_of, fragments_wrong, refusal1, refusal_all}
use Rattle.groups.specs.Answer.{first_of}
use Rattle.rows.proofs.passes.Finishing.{fragments-sum}

in_sum : (before after : List ℕ) (count : ℕ) → count ≤ sum_of (before ++ (count ∷ after))
unfolding sum_of
in_sum [] after count = omega arith
in_sum (first ∷ before) after count = let h = in_sum before after count in omega arith

holds : (test : Bool) → (test ≡ false → ⊥) → test ≡ true
holds true h = refl
holds false h = absurd (h refl)

module _ (final : TracerFinalState) (many : 16777216 < final.num_rows_written) (before after : List ℕ) where
  -- among the counts of any other fragments
  abbrev counts : List ℕ
  counts = before ++ ((for_passes final).count ∷ after)

  many-wrong : (cells size : ℕ) (built : List ℕ) → fragments_wrong cells size counts built ≡ true
  many-wrong cells size built =
      let handed : 16777216 < (for_passes final).count = unfold for_passes in omega arith in
      let part = in_sum before after (for_passes final).count in
      holds _ (λ e. let sum = fragments-sum cells size counts built e in omega arith)

  pub pass1-refuses-many : (buffer : List ℕ) (size : ℕ) (built : List ℕ) → refusal1 buffer size counts built ≡ 11
  unfolding refusal1 first_of
  pass1-refuses-many buffer size built = rw (many-wrong (length buffer) size built) refl

  pub finisher-refuses-many : (p : Profile) (buffer : List ℕ) (size : ℕ) (built : List ℕ) (height : ℕ) → profile_wrong p ≡ false → refusal_all p buffer size counts built height ≡ 11
  unfolding refusal_all first_of
  finisher-refuses-many p buffer size built height right = rw (right, many-wrong (length buffer) size built) refl
