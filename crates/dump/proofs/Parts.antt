-- Parts of a text as ranges and patterns give them.
use mathlib.Core.Path.{◌≡◌, ◌∙◌, sym, ap, ap₂}
use mathlib.Core.List.{List, ◌∷◌}
use Prim.Native.Nat.{ℕ, ◌-◌, ◌≤◌}
use native.Mathlib.Omega.{arith}
use lib.ListN.{length, get_or, drop, take, length-drop}
use lib.Seq.{drop-cons, take_all}

-- from a place on
pub tail-is : (n : ℕ) (text : List ℕ) → take (length text - n) (drop n text) ≡ drop n text
tail-is n text = take_all (length text - n) (drop n text) (omega (arith, length-drop n text))

-- behind a byte, and behind three
pub one_byte : (text : List ℕ) (x : ℕ) → 1 ≤ length text → get_or text 0 0 ≡ x → text ≡ x ∷ take (length text - 1) (drop 1 text)
one_byte text x h e = drop-cons text 0 0 (omega arith) ∙ ap₂ (λ (z : ℕ) (m : List ℕ). z ∷ m) e (sym (tail-is 1 text))

pub three_bytes : (text : List ℕ) (x z : ℕ) → 3 ≤ length text → get_or text 0 0 ≡ x → get_or text 2 0 ≡ z → text ≡ x ∷ get_or text 1 0 ∷ z ∷ take (length text - 3) (drop 3 text)
three_bytes text x z h e f =
    rw (tail-is 3 text)
    (drop-cons text 0 0 (omega arith)
    ∙ ap₂ (λ (y : ℕ) (m : List ℕ). y ∷ m) e (drop-cons text 1 0 (omega arith) ∙ ap (λ (m : List ℕ). get_or text 1 0 ∷ m) (drop-cons text 2 0 (omega arith) ∙ ap (λ (y : ℕ). y ∷ drop 3 text) f)))
