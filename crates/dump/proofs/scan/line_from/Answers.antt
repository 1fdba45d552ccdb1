-- `scan::line_from` meets its contract.
use mathlib.Core.Path.{◌≡◌, ap}
use mathlib.Core.List.{List, ◌∷◌}
use Prim.Native.Nat.{ℕ, ◌-◌}
use native.Mathlib.Omega.{arith}
use lib.ListN.{length, drop, take, length-drop, get_or-eq_default}
use Rattle.dump.proofs.DigitLaws.{digits-within}
use Rattle.dump.proofs.Parts.{tail-is, one_byte}
use Rattle.dump.proofs.LineLaws.{no-line, counted, value-of, identifier-at}
use Rattle.dump.proofs.scan.line_from.Goals as goal

-- the text behind its first byte, as the pattern gives it
abbrev behind-of : List ℕ → List ℕ
behind-of text = take (length text - 1) (drop 1 text)

pub returns-in_default : goal.returns-in_default
returns-in_default c = λ k a b. no-line c.args.text.now (λ z. omega (arith, z, get_or-eq_default c.args.text.now 0 {n = 0} (omega arith))) k

pub returns-in_default-2 : goal.returns-in_default-2
returns-in_default-2 c = λ k a b. no-line c.args.text.now (λ z. omega arith) k

pub overflow_add-digits : goal.overflow_add-digits
overflow_add-digits c = omega (arith, c.digits_of-digits.ensures.is_count, digits-within 2 (behind-of c.args.text.now), ap (λ (l : List ℕ). length l) (tail-is 1 c.args.text.now), length-drop 1 c.args.text.now)

-- the byte behind the digits and the space, where there is one, is the line's identifier
pub returns-in_err-column : goal.returns-in_err-column
returns-in_err-column c = let e : c.args.text.now ≡ 98 ∷ behind-of c.args.text.now = one_byte c.args.text.now 98 c.in-98.len_at_least (omega arith) in
    let i = identifier-at c.args.text.now (behind-of c.args.text.now) e c.digits_of-digits.result.count c.digits_of-digits.ensures.is_count in
    rw c.from_residual.ensures (λ k a b z. omega (arith, i, c.item_or.ensures, c.from-identifier.ensures, c.from.ensures, c.in_err-column.ensures))

pub returns-then-column-first : goal.returns-then-column-first
returns-then-column-first c = let e : c.args.text.now ≡ 98 ∷ behind-of c.args.text.now = one_byte c.args.text.now 98 c.in-98.len_at_least (omega arith) in
    let i = identifier-at c.args.text.now (behind-of c.args.text.now) e c.digits_of-digits.result.count c.digits_of-digits.ensures.is_count in
    λ k a b z. omega (arith, i, c.item_or.ensures, c.from-identifier.ensures, c.from.ensures, c.in_ok-column.ensures, c.then-column-first.either)

pub returns : goal.returns
returns c = let e : c.args.text.now ≡ 98 ∷ behind-of c.args.text.now = one_byte c.args.text.now 98 c.in-98.len_at_least (omega arith) in
    let count = c.digits_of-digits.result.count in
    let h = c.digits_of-digits.ensures.is_count in
    record {
      line = record {
        is_line = omega (arith, identifier-at c.args.text.now (behind-of c.args.text.now) e count h, c.item_or.ensures, c.from-identifier.ensures, c.from.ensures, c.in_ok-column.ensures);
        is_count = counted c.args.text.now (behind-of c.args.text.now) e count h;
        is_value = value-of c.args.text.now (behind-of c.args.text.now) e count h c.digits_of-digits.result.value c.digits_of-digits.ensures.is_value;
      };
      from = omega arith;
      is_column = omega arith;
    }
