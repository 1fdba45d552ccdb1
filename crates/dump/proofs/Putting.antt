-- Laws of bytes put into a text one after another.
use mathlib.Core.Path.{◌≡◌, ◌∙◌, refl, sym, ap, ap₂}
use mathlib.Core.List.{List, [], ◌++◌, append_assoc, append-nil}
use Prim.Native.Nat.{ℕ, ◌≤◌}
use native.Mathlib.Omega.{arith}
use lib.ListN.{length, take, drop, length-append, take-append-drop}
use lib.Seq.{length-take-le, take_at, drop_at, drop-drop}
use Rattle.dump.specs.ways.Putting.{Put}

-- no bytes
pub put-none : (text : List ℕ) (at : ℕ) → Put text at [] text at
put-none text at =
    record {
      is_end = omega arith;
      long = refl;
      is_put = λ h. sym (ap (λ (l : List ℕ). l ++ drop at text) (append-nil (take at text)) ∙ take-append-drop at text);
    }

-- bytes behind bytes
text-after : (a b c : List ℕ) (at from end : ℕ) (xs ys : List ℕ) → Put a at xs b from → Put b from ys c end → end ≤ length a → c ≡ take at a ++ (xs ++ ys) ++ drop end a
text-after a b c at from end xs ys p q h =
    let room : from ≤ length a = omega (arith, q.is_end) in
    let front : length (take at a ++ xs) ≡ from = omega (arith, length-append (take at a) xs, length-take-le at a (omega (arith, p.is_end)), p.is_end) in
    let e : b ≡ take at a ++ xs ++ drop from a = p.is_put room in
    let taken : take from b ≡ take at a ++ xs = ap (take from) e ∙ take_at (take at a ++ xs) (drop from a) from front in
    let dropped : drop from b ≡ drop from a = ap (drop from) e ∙ drop_at (take at a ++ xs) (drop from a) from front in
    let rest : drop end b ≡ drop end a =
    rw q.is_end (sym (drop-drop (length ys) from b) ∙ ap (drop (length ys)) dropped ∙ drop-drop (length ys) from a) in
    q.is_put (omega (arith, p.long))
    ∙ ap₂ (λ (l m : List ℕ). l ++ ys ++ m) taken rest
    ∙ ap (λ (l : List ℕ). l ++ drop end a) (append_assoc (take at a) xs ys)

pub put_then : {a b c xs ys : List ℕ} {at from end : ℕ} → Put a at xs b from → Put b from ys c end → Put a at (xs ++ ys) c end
put_then {a = a} {b = b} {c = c} {xs = xs} {ys = ys} {at = at} {from = from} {end = end} p q =
    record {
      is_end = omega (arith, p.is_end, q.is_end, length-append xs ys);
      long = q.long ∙ p.long;
      is_put = text-after a b c at from end xs ys p q;
    }

-- equal bytes
pub put_is : {a b xs ys : List ℕ} {at end : ℕ} → xs ≡ ys → Put a at xs b end → Put a at ys b end
put_is e p = rw (← e) p

-- a line put in three parts
pub line-put : {a b c d xs ys zs : List ℕ} {at i j end : ℕ} (line : List ℕ) → Put a at xs b i → Put b i ys c j → Put c j zs d end → xs ++ ys ++ zs ≡ line → Put a at line d end
line-put line p q r e = put_is e (put_then (put_then p q) r)
