-- `read::after_time` meets its contract.
use mathlib.Core.Path.{◌≡◌, ◌∙◌, refl, sym, ap}
use mathlib.Core.Bool.{true, false}
use mathlib.Core.List.{List}
use Prim.Native.Nat.{ℕ, ◌-◌}
use native.Mathlib.Omega.{arith}
use borrow.Author.Tests.{ltb-true}
use lib.ListN.{length, drop, get_or, take}
use Rattle.theory_dumps.specs.ways.Spelled.{spelled, plain}
use Rattle.dump.specs.ways.Scanning.{digits_in}
use Rattle.dump.proofs.DigitLaws.{digits-within}
use Rattle.dump.proofs.InPlace.{no_mark, too_many, other-value, not_plain, no_feed, time-there}
use Rattle.dump.proofs.Parts.{one_byte}
use Rattle.dump.proofs.read.after_time.Goals as goal
use Rattle.dump.proofs.read.after_time.Goals.{in_default-via-then-text-lt1, in_default-via-else-text-lt1+in_default-1, in_default-end-via-then-end-lt1, in_default-end-via-else-end-lt1+in_default-1}

abbrev rest-of : List ℕ → List ℕ
rest-of text = take (length text - 1) (drop 1 text)

pub returns-in_default : goal.returns-in_default
returns-in_default c = sym (no_mark c.args.text.now c.args.row (λ numbered e. elim c.in_default.branch [
  | in_default-via-then-text-lt1 w ↦ omega (arith, ltb-true, ap (λ (l : List ℕ). length l) e)
  | in_default-via-else-text-lt1+in_default-1 w ↦ omega (arith, ap (λ (l : List ℕ). get_or l 0 0) e)
]))

pub returns-in_default-row_digits : goal.returns-in_default-row_digits
returns-in_default-row_digits c =
    let digits = digits_in 10 (rest-of c.args.text.now) in
    rw (one_byte c.args.text.now 35 c.in-35.len_at_least (omega arith))
    (sym (too_many (rest-of c.args.text.now) c.args.row (length digits) (spelled 10 0 digits) (record { is_count = refl; is_value = λ z. refl }) c.requires c.in_default-row_digits.ensures))

pub returns-then-digits-row : goal.returns-then-digits-row
returns-then-digits-row c = rw (one_byte c.args.text.now 35 c.in-35.len_at_least (omega arith))
    (sym (other-value (rest-of c.args.text.now) c.args.row c.in-Some.digits.count c.in-Some.digits.value c.in-Some.ensures.1 c.requires c.in-Some.ensures.0 (λ z. c.if-digits-row.true z)))

pub split_at-requires : goal.split_at-requires
split_at-requires c = omega (arith, c.in-Some.ensures.1.is_count, digits-within 10 (rest-of c.args.text.now))

pub returns-then-not-is_plain : goal.returns-then-not-is_plain
returns-then-not-is_plain c = let p : plain (take c.in-Some.digits.count (rest-of c.args.text.now)) ≡ false = ap plain (sym c.split_at.ensures.front) ∙ sym c.if-not-is_plain.ensures in
    rw (one_byte c.args.text.now 35 c.in-35.len_at_least (omega arith))
    (sym (not_plain (rest-of c.args.text.now) c.args.row c.in-Some.digits.count c.in-Some.digits.value c.in-Some.ensures.1 c.requires p))

pub returns-in-10 : goal.returns-in-10
returns-in-10 c = let p : plain (take c.in-Some.digits.count (rest-of c.args.text.now)) ≡ true = ap plain (sym c.split_at.ensures.front) ∙ sym c.if-not-is_plain.ensures in
    let e = sym c.split_at.ensures.back ∙ one_byte c.split_at.result.1.now 10 c.in-10.len_at_least (omega arith) in
    rw (one_byte c.args.text.now 35 c.in-35.len_at_least (omega arith))
    (sym (time-there (rest-of c.args.text.now) c.args.row c.in-Some.digits.count c.in-Some.digits.value c.in-Some.ensures.1 c.requires c.in-Some.ensures.0 (omega arith) p (rest-of c.split_at.result.1.now) e))

pub returns-in_default-end : goal.returns-in_default-end
returns-in_default-end c = rw (one_byte c.args.text.now 35 c.in-35.len_at_least (omega arith))
    (sym (no_feed (rest-of c.args.text.now) c.args.row c.in-Some.digits.count c.in-Some.digits.value c.in-Some.ensures.1 c.requires (λ rest e. elim c.in_default-end.branch [
      | in_default-end-via-then-end-lt1 w ↦ omega (arith, ltb-true, ap (λ (l : List ℕ). length l) (c.split_at.ensures.back ∙ e))
      | in_default-end-via-else-end-lt1+in_default-1 w ↦ omega (arith, ap (λ (l : List ℕ). get_or l 0 0) (c.split_at.ensures.back ∙ e))
    ])))
