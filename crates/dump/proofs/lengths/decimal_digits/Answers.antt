-- `lengths::decimal_digits` meets its contract.
use mathlib.Core.Path.{◌∙◌}
use native.Mathlib.Omega.{arith}
use Rattle.dump.proofs.LengthLaws.{digits-by, at-least-one}
use Rattle.dump.proofs.lengths.decimal_digits.Goals as goal

pub returns : goal.returns
returns c = digits-by 10 20 c.max.result c.ilog10.result (omega arith) c.ilog10.ensures.power_le c.ilog10.ensures.next_power_gt c.ilog10.ensures.bound
    ∙ at-least-one 10 20 c.args.number c.max.result (omega arith) (omega arith) (λ z. omega (arith, c.max.ensures)) (λ z. omega (arith, c.max.ensures))
