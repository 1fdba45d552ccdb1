-- What a scan of a list finds, as the library's tests of lists say it.
use mathlib.Core.Path.{◌≡◌, refl, ap, sym, ◌∙◌}
use mathlib.Core.Bool.{Bool, ◌||◌, or_assoc, or-false}
use mathlib.Core.List.{List, [], ◌∷◌}
use Prim.Native.Nat.{ℕ, suc, ◌+◌, ◌-◌}
use native.Mathlib.Omega.{arith}
use native.Mathlib.Numerals.{add-one}
use lib.Dec.{leb, eqb}
use lib.ListN.{length, get_or, take, drop, length-drop}
use lib.Seq.{take_all}
use Rattle.std.specs.List.{fold, list_any}
use Rattle.field.specs.Bounds.{any_from}
use Rattle.rows.specs.records.Profiles.{is_one_of, two_equal}

-- all are looked at
pub scanned : (test : ℕ → Bool) (found : Bool) (xs : List ℕ) → fold (λ f x. f || test x) found xs ≡ (found || list_any test xs)
scanned test found [] = sym (or-false found)
scanned test found (x ∷ xs) = scanned test (found || test x) xs ∙ or_assoc found (test x) (list_any test xs)

pub any_from-list_any : (limit : ℕ) (xs : List ℕ) → any_from limit xs ≡ list_any (leb limit) xs
unfolding any_from
any_from-list_any limit [] = refl
any_from-list_any limit (x ∷ xs) = ap (λ t. leb limit x || t) (any_from-list_any limit xs)

pub is_one_of-list_any : (x : ℕ) (ys : List ℕ) → is_one_of x ys ≡ list_any (eqb x) ys
unfolding is_one_of
is_one_of-list_any x [] = refl
is_one_of-list_any x (y ∷ ys) = ap (λ t. eqb x y || t) (is_one_of-list_any x ys)

-- a slice's rest
pub rest_all : (s : List ℕ) (i : ℕ) → take (length s - i) (drop i s) ≡ drop i s
rest_all s i = take_all (length s - i) (drop i s) (omega (arith, length-drop i s))

-- two are equal from number i on: number i and one behind it, or two behind it
pub equal-turn : (s : List ℕ) (i : ℕ) (found : Bool) → found ≡ list_any (eqb (get_or s i 0)) (drop (i + 1) s) → two_equal (get_or s i 0 ∷ drop (suc i) s) ≡ (found || two_equal (drop (suc i) s))
unfolding two_equal
equal-turn s i found e = rw (e, is_one_of-list_any, add-one)
