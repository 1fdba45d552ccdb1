-- `read::row_digits` meets its contract.
use Prim.Native.Nat.{◌≤◌}
use native.Mathlib.Omega.{arith}
use Rattle.dump.proofs.DigitLaws.{looked-many, looked-few}
use Rattle.dump.proofs.read.row_digits.Goals as goal

pub returns-then-digits-gt8 : goal.returns-then-digits-gt8
returns-then-digits-gt8 c = looked-many c.args.text.now c.min-looked.result c.digits_of-digits.result.count c.digits_of-digits.result.value (λ l. omega (arith, l, c.min-looked.ensures)) c.digits_of-digits.ensures (omega (arith, c.if-digits-gt8.true))

pub returns : goal.returns
returns c =
    let few : c.digits_of-digits.result.count ≤ 8 = omega (arith, c.if-digits-gt8.false) in
    (few, looked-few c.args.text.now c.min-looked.result c.digits_of-digits.result.count c.digits_of-digits.result.value (λ l. omega (arith, l, c.min-looked.ensures)) c.digits_of-digits.ensures few)
