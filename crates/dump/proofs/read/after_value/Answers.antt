-- `read::after_value` meets its contract.
use mathlib.Core.Path.{◌≡◌, ◌∙◌, refl, sym, ap}
use mathlib.Core.List.{List}
use mathlib.Core.Option.{Option}
use Prim.Native.Nat.{ℕ}
use native.Mathlib.Omega.{arith}
use Rattle.std.specs.Prelude.{Option as Answered, Some, None}
use Rattle.std.specs.Borrow.{Bor}
use Rattle.theory_dumps.specs.ways.Undump.{or_none}
use Rattle.dump.specs.ways.Reading.{rest_of, with_rest}
use Rattle.dump.specs.ways.Scanning.{found}
use Rattle.dump.proofs.ReadLaws.{value_long, value-wrong, value-old, value-behind}
use Rattle.dump.proofs.read.after_value.Goals as goal
use Rattle.dump.proofs.read.after_value.Goals.{then-line-gt64-via-then-line-gt64, then-line-gt64-via-else-line-gt64+then-line-ge-MODULUS, then-line-gt64-via-else-line-gt64+else-line-ge-MODULUS+then-old-line}

with_found : (value : ℕ) (answer : Answered (Bor (List ℕ))) → with_rest value answer ≡ or_none (rest_of answer) (found value)
with_found value (Some rest) = refl
with_found value None = refl

pub returns-then-line-gt64 : goal.returns-then-line-gt64
returns-then-line-gt64 c = elim c.then-line-gt64.branch [
  | then-line-gt64-via-then-line-gt64 w ↦ sym (value_long c.args.text.now c.args.line.column c.args.old c.args.line.value c.args.line.count c.requires (omega arith))
  | then-line-gt64-via-else-line-gt64+then-line-ge-MODULUS w ↦ sym (value-wrong c.args.text.now c.args.line.column c.args.old c.args.line.value c.args.line.count c.requires (omega arith) (omega arith))
  | then-line-gt64-via-else-line-gt64+else-line-ge-MODULUS+then-old-line w ↦ sym (value-old c.args.text.now c.args.line.column c.args.old c.args.line.value c.args.line.count c.requires (omega arith) (omega arith))
]

pub returns : goal.returns
returns c =
    with_found c.args.line.value c.after_line.result
    ∙ ap (λ (o : Option (List ℕ)). or_none o (found c.args.line.value)) c.after_line.ensures
    ∙ sym (value-behind c.args.text.now c.args.line.column c.args.old c.args.line.value c.args.line.count c.requires (omega arith) (omega arith) c.if-old-line.false)
