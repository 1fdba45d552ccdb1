-- The last block that encloses a row, from the last place down.
use mathlib.Core.Path.{◌≡◌, ◌∙◌, refl, ap}
use mathlib.Core.Bool.{true, false}
use mathlib.Core.List.{List, ◌∷◌}
use mathlib.Core.Option.{none, some}
use Prim.Native.Nat.{ℕ, zero, suc, ◌+◌, ◌*◌, ◌-◌, ◌≤◌, ◌<◌}
use native.Mathlib.Omega.{arith}
use lib.ListN.{length, get_or, drop, drop_of_length-le}
use lib.Seq.{drop-cons}
use Rattle.groups.specs.Answer.{pick}
use Rattle.theory_indexes.specs.Enclosing.{encloses, later, last_from}

three : (l : List ℕ) (i : ℕ) → i + 2 < length l → drop i l ≡ get_or l i 0 ∷ get_or l (i + 1) 0 ∷ get_or l (i + 2) 0 ∷ drop (i + 3) l
three l i h =
    let a : i + 1 ≡ suc i = omega arith in
    let b : i + 2 ≡ suc (suc i) = omega arith in
    let c : i + 3 ≡ suc (suc (suc i)) = omega arith in
    rw (a, b, c)
    (drop-cons l i 0 (omega arith)
    ∙ ap (λ y. get_or l i 0 ∷ y) (drop-cons l (suc i) 0 (omega arith) ∙ ap (λ y. get_or l (suc i) 0 ∷ y) (drop-cons l (suc (suc i)) 0 (omega arith))))

module _ (l : List ℕ) (row : ℕ) where
  -- the look-up from place p on is that of place p, unless a later one is found
  from_place : (p : ℕ) → 3 * suc p ≤ length l →
      last_from p (drop (3 * p) l) row ≡ later (last_from (suc p) (drop (3 * suc p) l) row) (pick (encloses (get_or l (3 * p) 0) (get_or l (3 * p + 1) 0) row) (some p) none)
  unfolding last_from
  from_place p h =
      let e : 3 * p + 3 ≡ 3 * suc p = omega arith in
      rw (three l (3 * p) (omega arith), e) refl

  up : (p j : ℕ) → 3 * p ≤ length l → last_from p (drop (3 * p) l) row ≡ some j → last_from 0 l row ≡ some j
  unfolding later
  up zero j h e = e
  up (suc p) j h e = up p j (omega arith) (from_place p h ∙ rw e refl)

  module _ (place : ℕ) (low : 0 < place) (room : 3 * place ≤ length l) (missed : last_from place (drop (3 * place) l) row ≡ none) where
    before : last_from (place - 1) (drop (3 * (place - 1)) l) row ≡ pick (encloses (get_or l (3 * (place - 1)) 0) (get_or l (3 * (place - 1) + 1) 0) row) (some (place - 1)) none
    unfolding later
    before =
        let e : suc (place - 1) ≡ place = omega arith in
        from_place (place - 1) (omega arith) ∙ rw (e, missed) refl

    pub found_here : encloses (get_or l (3 * (place - 1)) 0) (get_or l (3 * (place - 1) + 1) 0) row ≡ true → last_from 0 l row ≡ some (place - 1)
    found_here e = up (place - 1) (place - 1) (omega arith) (before ∙ rw e refl)

    pub missed_here : encloses (get_or l (3 * (place - 1)) 0) (get_or l (3 * (place - 1) + 1) 0) row ≡ false → last_from (place - 1) (drop (3 * (place - 1)) l) row ≡ none
    missed_here e = before ∙ rw e refl

pub none-past : (l : List ℕ) (row place : ℕ) → length l ≤ 3 * place → last_from place (drop (3 * place) l) row ≡ none
unfolding last_from
none-past l row place h = rw (drop_of_length-le l h) refl
