-- The first place that a test holds of, step by step.
use mathlib.Core.Path.{◌≡◌, sym, ◌∙◌}
use mathlib.Core.Bool.{Bool, true, false, ◌&&◌}
use Prim.Native.Nat.{ℕ, suc, ◌+◌, ◌-◌, ◌≤◌, ◌<◌}
use native.Mathlib.Numerals.{add-one}
use native.Mathlib.Omega.{arith}
use native.Mathlib.Decide.{ℕ_discrete}
use borrow.Author.Tests.{lt-ltb, le-ltb, eq-eqb}
use lib.Dec.{ltb, eqb}
use Rattle.groups.specs.Answer.{pick}
use Rattle.rows.specs.cycles.LentTally.{first_from}

-- behind all places
module _ (test : ℕ → Bool) (n : ℕ) where
  pub first-behind : first_from test n (n - n) ≡ n
  unfolding first_from
  first-behind = let e : n - n ≡ 0 = omega arith in rw e

  pub found-behind : (found : ℕ) → found ≤ n → pick (ltb found n) found (first_from test n (n - n)) ≡ found
  found-behind found l = step (ℕ_discrete found n)
    where
      step : Dec (found ≡ n) → pick (ltb found n) found (first_from test n (n - n)) ≡ found
      step (yes d) = rw (le-ltb found n (omega arith)) (first-behind ∙ sym d)
      step (no d) = rw (lt-ltb found n (omega arith))

module _ (test : ℕ → Bool) (n place : ℕ) (h : place < n) where
  first_step : first_from test place (n - place) ≡ pick (test place) place (first_from test (place + 1) (n - (place + 1)))
  unfolding first_from
  first_step = let e : n - place ≡ suc (n - (place + 1)) = omega arith in rw (e, add-one)

  -- the test holds of this place
  pub first-here : test place ≡ true → first_from test place (n - place) ≡ place
  first-here e = first_step ∙ rw e

  -- it does not
  pub first-later : test place ≡ false → first_from test place (n - place) ≡ first_from test (place + 1) (n - (place + 1))
  first-later e = first_step ∙ rw e

  -- what was found before, or from this place on
  abbrev found_or : (found from : ℕ) → ℕ
  found_or found from = pick (ltb found n) found (first_from test from (n - from))

  none_yet : (found : ℕ) → n ≤ found → found_or found place ≡ first_from test place (n - place)
  none_yet found l = rw (le-ltb found n l)

  -- nothing was found before, and this place is
  pub found_here : (found : ℕ) → n ≤ found → test place ≡ true → found_or found place ≡ found_or place (place + 1)
  found_here found l e = none_yet found l ∙ first-here e ∙ rw (lt-ltb place n h)

  -- something was found before, or this place is not
  pub found-later : (found : ℕ) → found ≤ n → (eqb found n && test place) ≡ false → found_or found place ≡ found_or found (place + 1)
  found-later found l e = step (ℕ_discrete found n)
    where
      step : Dec (found ≡ n) → found_or found place ≡ found_or found (place + 1)
      step (yes d) =
          let f : test place ≡ false = rw (eq-eqb found n d) at e in
          rw (le-ltb found n (omega arith)) (first-later f)
      step (no d) = rw (lt-ltb found n (omega arith))
