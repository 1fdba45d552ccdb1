-- Laws of the next value of a column, by its line.
use mathlib.Core.Path.{◌≡◌, ◌∙◌, refl, sym, ap, ap₂}
use mathlib.Core.Bool.{true, false}
use mathlib.Core.List.{List, ◌++◌}
use mathlib.Core.Option.{Option, none, some}
use Prim.Native.Nat.{ℕ, ◌+◌, ◌≤◌, ◌<◌}
use native.Mathlib.Omega.{arith}
use lib.ListN.{length, drop, take, take-append-drop}
use lib.Seq.{take_at}
use Rattle.std.specs.Prelude.{Option as Answered, Some, None, MatchOption, nat_eq}
use Rattle.std.specs.Borrow.{Bor}
use Rattle.std.specs.Cmp.Lexicographic.{pointwise, same_text, other_text}
use Rattle.theory_dumps.proofs.ReadBack.{behind-is, behind-front}
use Rattle.dump.specs.ways.Reading.{rest_of}
use Rattle.field.specs.Modulus.{P}
use Rattle.theory_dumps.specs.Dumps.{value_line}
use Rattle.theory_dumps.specs.ways.Undump.{behind, line_value, or_none}
use Rattle.dump.specs.ways.Scanning.{LineOf, found, next_value}
use Rattle.dump.proofs.LineLaws.{next-long, next-wrong, next-old, next-line}

pub is_none : {A : Type 0} (o : Option A) → ((x : A) → o ≡ some x → ⊥) → o ≡ none
is_none none h = refl
is_none (some x) h = absurd (h x refl)

pub no_true : true ≡ false → ⊥
no_true z = let y : ◌≡◌ {A = ℕ} 0 1 = cc in omega arith

-- what follows a text that was stripped off
pub stripped : (front text : List ℕ) (answer : Answered (Bor (List ℕ))) →
    MatchOption answer (pointwise nat_eq (take (length front) text) front ≡ false) (λ x. (pointwise nat_eq (take (length front) text) front ≡ true) × (x.now ≡ drop (length front) text) × (length x.now + length front ≡ length text))
    → rest_of answer ≡ behind front text
stripped front text (Some rest) h =
    let same : take (length front) text ≡ front = same_text (take (length front) text) front (sym h.0) in
    let all : text ≡ front ++ rest.now = sym (take-append-drop (length front) text) ∙ ap₂ (λ (x y : List ℕ). x ++ y) same (sym h.1) in
    sym (ap (behind front) all ∙ behind-front front rest.now)
stripped front text None h = sym (is_none (behind front text) (λ rest e. (
    let all : text ≡ front ++ rest = behind-is front text rest e in
    other_text (take (length front) text) front (sym h) (ap (take (length front)) all ∙ take_at front rest (length front) refl)
    )))

module _ (text : List ℕ) (column old value count : ℕ) (l : LineOf text column value count) where
  pub value_long : 64 < count → next_value column old text ≡ none
  value_long h = next-long column old text l.is_line (omega (arith, l.is_count))

  module _ (few : count ≤ 64) where
    is_value : value ≡ line_value text
    is_value = l.is_value few

    pub value-wrong : P ≤ value → next_value column old text ≡ none
    value-wrong h = next-wrong column old text l.is_line (rw (← is_value) h)

    pub value-old : old ≡ value → next_value column old text ≡ none
    value-old e = next-old column old text l.is_line (e ∙ is_value)

    pub value-behind : value < P → ¬ (old ≡ value) → next_value column old text ≡ or_none (behind (value_line column value) text) (found value)
    value-behind h d =
        let n : ¬ (old ≡ line_value text) = λ z. d (z ∙ sym is_value) in
        rw is_value (next-line column old text l.is_line (rw (← is_value) h) n)
