-- Laws of a loop that gathers in a bool whether something is found in a list: f says so of a list, and the loop's invariant is that what is found already, or in the rest, is found in the whole.
use mathlib.Core.Path.{◌≡◌}
use mathlib.Core.Bool.{Bool, false, ◌||◌, or_assoc, or-false}
use mathlib.Core.List.{List, [], ◌∷◌}
use Prim.Native.Nat.{ℕ, suc, ◌+◌, ◌≤◌, ◌<◌}
use native.Mathlib.Numerals.{add-one}
use lib.ListN.{length, get_or, drop, drop_of_length-le}
use lib.Seq.{drop-cons}

-- a turn: the test is what element i adds
pub gather-turn : (f : List ℕ → Bool) {whole : Bool} (found test : Bool) (s : List ℕ) (i : ℕ) → i < length s → f (get_or s i 0 ∷ drop (suc i) s) ≡ (test || f (drop (suc i) s)) → (found || f (drop i s)) ≡ whole → ((found || test) || f (drop (i + 1) s)) ≡ whole
gather-turn f found test s i h e inv = rw (add-one, or_assoc, ← e, ← (drop-cons s i 0 h)) inv

-- the end: nothing is left
pub gather-last : (f : List ℕ → Bool) {found whole : Bool} (s : List ℕ) (i : ℕ) → length s ≤ i → f [] ≡ false → (found || f (drop i s)) ≡ whole → found ≡ whole
gather-last f s i h e inv = rw (drop_of_length-le s h, e, or-false) at inv
