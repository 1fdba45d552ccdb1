-- Where the finisher refuses nothing, the rows that its passes work on are in the buffer and in the height.
use mathlib.Core.Path.{◌≡◌, ◌∙◌, sym}
use mathlib.Core.Bool.{false, ◌||◌}
use mathlib.Core.List.{List, [], ◌∷◌}
use Prim.Native.Nat.{ℕ, ◌+◌, ◌*◌, ◌/◌, ◌%◌, ◌≤◌, ◌<◌, min}
use native.Mathlib.Omega.{arith}
use borrow.Author.Tests.{ltb-false, leb-false}
use lib.Dec.{ltb, leb}
use lib.ListN.{length}
use Rattle.rows.specs.declared.records.profile.Profile.{Profile}
use Rattle.rows.specs.passes.Passes.{sum_of, not_full, no_fragment, fragments_wrong, height_wrong, refusal2, refusal_all}
use Rattle.rows.specs.records.Buffers.{buffer_wrong, fewer_rows}
use Rattle.rows.specs.ways.Finisher.{Passed}
use Rattle.rows.proofs.passes.Checks.{neither, none_first}
use Rattle.rows.proofs.passes.Counts.{fits}

-- the rows of a buffer that is not refused are at most 2^24
few-rows : (cells : ℕ) → buffer_wrong cells ≡ false → cells / 49 ≤ 16777216
unfolding buffer_wrong
few-rows cells e = ltb-false 16777216 (cells / 49) (neither (ltb 0 (cells % 49)) (ltb 16777216 (cells / 49)) e).1

pub enough : (cells n : ℕ) → fewer_rows cells n ≡ false → n ≤ cells / 49
unfolding fewer_rows
enough cells n e = ltb-false (cells / 49) n e

-- where pass 2 refuses neither 2 nor 11
pub record Held (cells rows : ℕ) : Type 0 where
  pub in_buffer : 49 * rows ≤ cells
  pub few : rows ≤ 16777216

pub held : (cells rows : ℕ) → (buffer_wrong cells || fewer_rows cells rows) ≡ false → Held cells rows
held cells rows e =
    let a = neither (buffer_wrong cells) (fewer_rows cells rows) e in
    let f = few-rows cells a.0 in
    let g = enough cells rows a.1 in
    record { in_buffer = omega arith; few = omega arith }

pub held-2 : (p : Profile) (buffer : List ℕ) (rows : ℕ) → refusal2 p buffer rows ≡ 0 → Held (length buffer) rows
unfolding refusal2
held-2 p buffer rows e = held (length buffer) rows (none_first _ _ _ (none_first _ _ _ e).1).0

-- what the finisher's passes ask
pub record Ready (cells rows height : ℕ) (counts built : List ℕ) : Type 0 where
  pub some : 0 < length counts
  pub sum : rows ≡ sum_of counts
  pub few : sum_of counts ≤ 16777216
  pub in_buffer : 49 * sum_of counts ≤ cells
  pub below : sum_of counts < height
  pub tall : 49 * height ≤ cells
  pub in_built : 25 * length counts ≤ length built

pub fragments-sum : (cells size : ℕ) (counts built : List ℕ) → fragments_wrong cells size counts built ≡ false → (sum_of counts ≤ cells / 49) × (cells / 49 ≤ 16777216)
unfolding fragments_wrong
fragments-sum cells size counts built e =
    let a = neither (buffer_wrong cells) _ e in
    let b = neither (fewer_rows cells (sum_of counts)) _ a.1 in
    (enough cells (sum_of counts) b.0, few-rows cells a.0)

-- the sum, capped at one more than the buffer's rows, is the sum
pub sum-uncapped : (cells size : ℕ) (counts built : List ℕ) → fragments_wrong cells size counts built ≡ false → min (cells / 49 + 1) (sum_of counts) ≡ sum_of counts
sum-uncapped cells size counts built e = let f = fragments-sum cells size counts built e in omega arith

pub sum-held : (cells size : ℕ) (counts built : List ℕ) → fragments_wrong cells size counts built ≡ false → Held cells (sum_of counts)
sum-held cells size counts built e =
    let f = fragments-sum cells size counts built e in
    record { in_buffer = omega arith; few = omega arith }

pub ready : (cells size rows height : ℕ) (counts built : List ℕ) → fragments_wrong cells size counts built ≡ false → height_wrong cells (sum_of counts) height ≡ false → no_fragment counts ≡ false → not_full size counts ≡ false → rows ≡ min (cells / 49 + 1) (sum_of counts) → Ready cells rows height counts built
unfolding height_wrong
ready cells size rows height [] built e f none full s = let z : ◌≡◌ {A = ℕ} 0 1 = cc in absurd (omega arith)
ready cells size rows height (count ∷ counts) built e f none full s =
    let all : List ℕ = count ∷ counts in
    let k = fits cells size all built e none full in
    let g = fragments-sum cells size all built e in
    let h = neither (leb height (sum_of all)) (fewer_rows cells height) f in
    let below = leb-false height (sum_of all) h.0 in
    let tall = enough cells height h.1 in
    record {
      some = omega arith;
      sum = s ∙ sum-uncapped cells size all built e;
      few = omega arith;
      in_buffer = k.in_buffer;
      below = below;
      tall = omega arith;
      in_built = k.in_built;
    }

-- the same, of the sum itself
pub ready-for : (cells size rows height : ℕ) (counts built : List ℕ) → rows ≡ sum_of counts → (fragments_wrong cells size counts built ≡ false) × (height_wrong cells (sum_of counts) height ≡ false)
    → (no_fragment counts ≡ false) × (not_full size counts ≡ false) → Ready cells rows height counts built
ready-for cells size rows height counts built sum wrong full = ready cells size rows height counts built wrong.0 wrong.1 full.0 full.1 (sum ∙ sym (sum-uncapped cells size counts built wrong.0))

pub passed-all : (p : Profile) (buffer : List ℕ) (size : ℕ) (counts built : List ℕ) (height : ℕ) → refusal_all p buffer size counts built height ≡ 0 → Passed p (length buffer) size height counts built
unfolding refusal_all
passed-all p buffer size counts built height e =
    let a = none_first _ _ _ e in
    let b = none_first _ _ _ a.1 in
    let d = neither (fragments_wrong (length buffer) size counts built) (height_wrong (length buffer) (sum_of counts) height) b.0 in
    let f = none_first _ _ _ b.1 in
    let g = none_first _ _ _ f.1 in
    record { profile_right = a.0; fragments = d.0; height_right = d.1; fragment = f.0; full = g.0 }

pub tall-at : (height cells now : ℕ) → 49 * height ≤ cells → cells ≡ now → 49 * height ≤ now
tall-at height cells now h e = omega arith
