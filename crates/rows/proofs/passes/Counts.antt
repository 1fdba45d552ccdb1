-- Laws of the fragments' counts: their sum, the checks of pass 1, and what they leave.
use mathlib.Core.Path.{◌≡◌, refl, sym, ap, ◌∙◌}
use mathlib.Core.Bool.{Bool, true, false, ◌||◌, or_assoc}
use mathlib.Core.List.{List, [], ◌∷◌, ◌++◌}
use Prim.Native.Nat.{ℕ, ◌+◌, ◌-◌, ◌*◌, ◌/◌, ◌≤◌, ◌<◌, min}
use native.Mathlib.Numerals.{add-one}
use native.Mathlib.Omega.{arith}
use borrow.Author.Tests.{ltb-true, ltb-false, eqb-false, lt-ltb, le-ltb}
use lib.Dec.{ltb, eqb}
use lib.ListN.{length, drop, get_or, length-append}
use lib.Seq.{drop-cons}
use Rattle.std.specs.List.{list_any}
use Rattle.rows.specs.records.Cells.{fragment_wrong}
use Rattle.rows.specs.passes.Passes.{sum_of, any_above, not_full, no_fragment, fragments_wrong, refusal1}
use Rattle.rows.specs.records.Buffers.{buffer_wrong, fewer_rows}
use Rattle.rows.proofs.passes.Checks.{neither, none_first}

-- SUMS

pub sum-turn : (counts : List ℕ) (i : ℕ) → i < length counts → sum_of (drop i counts) ≡ get_or counts i 0 + sum_of (drop (i + 1) counts)
unfolding sum_of
sum-turn counts i h = rw (add-one, drop-cons counts i 0 h)

-- TESTS

-- a test that says the same of two pairs of numbers
same_test : (a b c d : ℕ) → (a < b → c < d) → (b ≤ a → d ≤ c) → ltb a b ≡ ltb c d
same_test a b c d f g = go (ltb a b) refl
  where
    go : (t : Bool) → ltb a b ≡ t → t ≡ ltb c d
    go true e = sym (lt-ltb c d (f (ltb-true a b e)))
    go false e = sym (le-ltb c d (g (ltb-false a b e)))

pub few-built : (built fragments : ℕ) → ltb (built / 25) fragments ≡ ltb built (25 * fragments)
few-built built fragments =
    same_test (built / 25) fragments built (25 * fragments) (λ h. omega arith) (λ h. omega arith)

few-rows : (rows sum : ℕ) → ltb rows (min (rows + 1) sum) ≡ ltb rows sum
few-rows rows sum = same_test rows (min (rows + 1) sum) rows sum (λ h. omega arith) (λ h. omega arith)

pub fragments-test : (cells size : ℕ) (counts built : List ℕ)
    → (fragment_wrong cells (min (cells / 49 + 1) (sum_of counts)) || (eqb size 0 || (any_above size counts || ltb (length built / 25) (length counts))))
    ≡ fragments_wrong cells size counts built
unfolding fragment_wrong fragments_wrong buffer_wrong fewer_rows
fragments-test cells size counts built =
    rw (few-rows (cells / 49) (sum_of counts), few-built (length built) (length counts)) (simp or_assoc)

pub above-list_any : (limit : ℕ) (counts : List ℕ) → any_above limit counts ≡ list_any (ltb limit) counts
unfolding any_above
above-list_any limit [] = refl
above-list_any limit (count ∷ counts) = ap (λ t. ltb limit count || t) (above-list_any limit counts)

-- WHAT THE REFUSALS LEAVE

-- the row with which the last fragment starts is there
full-sum : (size count : ℕ) (counts : List ℕ) → not_full size (count ∷ counts) ≡ false → length counts * size < sum_of (count ∷ counts)
unfolding not_full sum_of
full-sum size count [] e = let h = eqb-false count 0 e in omega arith
full-sum size count (next ∷ counts) e =
    let h = neither (ltb count size) (not_full size (next ∷ counts)) e in
    omega (arith, ltb-false count size h.0, full-sum size next counts h.1)

pub record Fits (cells size : ℕ) (counts built : List ℕ) : Type 0 where
  pub some : 0 < size
  pub rows : 0 < sum_of counts
  pub in_rows : (length counts - 1) * size < sum_of counts
  pub in_buffer : 49 * sum_of counts ≤ cells
  pub in_built : 25 * length counts ≤ length built

passed-11 : (buffer rows size above built : Bool) → (buffer || (rows || (size || (above || built)))) ≡ false → (rows ≡ false) × (size ≡ false) × (built ≡ false)
passed-11 buffer rows size above built e =
    let a = neither buffer (rows || (size || (above || built))) e in
    let b = neither rows (size || (above || built)) a.1 in
    let d = neither size (above || built) b.1 in
    (b.0, d.0, (neither above built d.1).1)

pub fits : (cells size : ℕ) (counts built : List ℕ) → fragments_wrong cells size counts built ≡ false → no_fragment counts ≡ false → not_full size counts ≡ false → Fits cells size counts built
unfolding fragments_wrong fewer_rows
fits cells size [] built e none full = let z : ◌≡◌ {A = ℕ} 0 1 = cc in absurd (omega arith)
fits cells size (count ∷ counts) built e none full =
    let all : List ℕ = count ∷ counts in
    let p = passed-11 (buffer_wrong cells) (fewer_rows cells (sum_of all)) (eqb size 0) (any_above size all) (ltb (length built) (25 * length all)) e in
    let g = full-sum size count counts full in
    let h = eqb-false size 0 p.1 in
    let k : length all - 1 ≡ length counts = omega arith in
    record {
      some = omega arith;
      rows = omega arith;
      in_rows = rw k g;
      in_buffer = omega (arith, ltb-false (cells / 49) (sum_of all) p.0);
      in_built = omega (arith, ltb-false (length built) (25 * length all) p.2);
    }

pub full-none : (size : ℕ) (counts : List ℕ) → length counts ≡ 0 → not_full size counts ≡ false
unfolding not_full
full-none size [] e = refl
full-none size (count ∷ counts) e = absurd (omega arith)

-- a fragment but the last
pub full-cons : (size count : ℕ) (counts : List ℕ) → 0 < length counts → not_full size (count ∷ counts) ≡ (ltb count size || not_full size counts)
unfolding not_full
full-cons size count [] h = absurd (omega arith)
full-cons size count (next ∷ counts) h = refl

-- the last fragment and the others
pub full-split : (size : ℕ) (others : List ℕ) (last : ℕ) → not_full size (others ++ (last ∷ [])) ≡ (list_any (λ n. ltb n size) others || eqb last 0)
unfolding not_full
full-split size [] last = refl
full-split size (count ∷ others) last =
    full-cons size count (others ++ (last ∷ [])) (omega (arith, length-append others (last ∷ [])))
    ∙ ap (λ t. ltb count size || t) (full-split size others last)
    ∙ sym (or_assoc (ltb count size) (list_any (λ n. ltb n size) others) (eqb last 0))

-- THE NUMBER

-- what a call that is not refused has passed
pub passed : (buffer : List ℕ) (size : ℕ) (counts built : List ℕ) → refusal1 buffer size counts built ≡ 0
    → (fragments_wrong (length buffer) size counts built ≡ false) × (no_fragment counts ≡ false) × (not_full size counts ≡ false)
unfolding refusal1
passed buffer size counts built e =
    let b = none_first _ 10 _ e in
    let d = none_first _ 25 _ b.1 in
    (b.0, d.0, (none_first _ 24 _ d.1).0)
