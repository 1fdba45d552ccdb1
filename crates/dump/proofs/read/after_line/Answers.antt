-- `read::after_line` meets its contract.
use mathlib.Core.Path.{◌≡◌, ◌∙◌, sym, ap}
use mathlib.Core.Bool.{true, false}
use mathlib.Core.List.{List}
use Prim.Native.Nat.{ℕ, ◌-◌}
use native.Mathlib.Omega.{arith}
use borrow.Author.Tests.{ltb-true}
use lib.ListN.{length, drop, get_or, take, get_or-eq_default}
use Rattle.theory_dumps.specs.ways.Spelled.{plain}
use Rattle.dump.proofs.DigitLaws.{bits-are, digits-within}
use Rattle.dump.proofs.InPlace.{starts, line-there, line-leading, line-other}
use Rattle.dump.proofs.Parts.{tail-is, three_bytes}
use Rattle.dump.proofs.read.after_line.Goals as goal
use Rattle.dump.proofs.read.after_line.Goals.{in_default-end-via-then-end-lt3, in_default-end-via-else-end-lt3+in-32+in_default-1, in_default-end-via-else-end-lt3+in_default-1}

-- the text behind its first byte, as the pattern gives it
first-of : (text front : List ℕ) (count : ℕ) → front ≡ take count (take (length text - 1) (drop 1 text)) → plain front ≡ plain (take count (drop 1 text))
first-of text front count e = ap plain (e ∙ ap (take count) (tail-is 1 text))

last-of : (text back : List ℕ) (count : ℕ) → back ≡ drop count (take (length text - 1) (drop 1 text)) → back ≡ drop count (drop 1 text)
last-of text back count e = e ∙ ap (drop count) (tail-is 1 text)

pub returns-in_default : goal.returns-in_default
returns-in_default c = let z : get_or c.args.text.now 0 0 ≡ 0 = get_or-eq_default c.args.text.now 0 {n = 0} (omega arith) in
    absurd (omega (arith, starts c.args.text.now c.args.line.column c.args.line.value c.args.line.count c.requires.line))

pub split_at-requires : goal.split_at-requires
split_at-requires c = rw (tail-is 1 c.args.text.now)
    (omega (arith, c.requires.line.is_count, ap (λ (l : List ℕ). length l) (bits-are (drop 1 c.args.text.now)), digits-within 2 (drop 1 c.args.text.now)))

pub returns-then-not-is_plain : goal.returns-then-not-is_plain
returns-then-not-is_plain c = let p : plain (take c.args.line.count (drop 1 c.args.text.now)) ≡ false = sym (first-of c.args.text.now c.split_at.result.0.now c.args.line.count c.split_at.ensures.front) ∙ sym c.if-not-is_plain.ensures in
    sym (line-leading c.args.text.now c.args.line.column c.args.line.value c.args.line.count c.requires.line c.requires.short.0 c.requires.short.1 p)

pub returns-in-32 : goal.returns-in-32
returns-in-32 c = let p : plain (take c.args.line.count (drop 1 c.args.text.now)) ≡ true = sym (first-of c.args.text.now c.split_at.result.0.now c.args.line.count c.split_at.ensures.front) ∙ sym c.if-not-is_plain.ensures in
    let e = sym (last-of c.args.text.now c.split_at.result.1.now c.args.line.count c.split_at.ensures.back) ∙ three_bytes c.split_at.result.1.now 32 10 c.in-32.len_at_least (omega arith) (omega arith) in
    sym (line-there c.args.text.now c.args.line.column c.args.line.value c.args.line.count c.requires.line c.requires.short.0 c.requires.short.1 p
    (get_or c.split_at.result.1.now 1 0) (take (length c.split_at.result.1.now - 3) (drop 3 c.split_at.result.1.now)) e)

pub returns-in_default-end : goal.returns-in_default-end
returns-in_default-end c = let b = last-of c.args.text.now c.split_at.result.1.now c.args.line.count c.split_at.ensures.back in
    sym (line-other c.args.text.now c.args.line.column c.args.line.value c.args.line.count c.requires.line c.requires.short.0 c.requires.short.1 (λ x rest e. elim c.in_default-end.branch [
      | in_default-end-via-then-end-lt3 w ↦ omega (arith, ltb-true, ap (λ (l : List ℕ). length l) (b ∙ e))
      | in_default-end-via-else-end-lt3+in-32+in_default-1 w ↦ omega (arith, ap (λ (l : List ℕ). get_or l 2 0) (b ∙ e))
      | in_default-end-via-else-end-lt3+in_default-1 w ↦ omega (arith, ap (λ (l : List ℕ). get_or l 0 0) (b ∙ e))
    ]))
