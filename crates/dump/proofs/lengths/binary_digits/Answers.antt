-- `lengths::binary_digits` meets its contract.
use mathlib.Core.Path.{◌∙◌}
use native.Mathlib.Omega.{arith}
use Rattle.dump.proofs.LengthLaws.{digits-by, at-least-one}
use Rattle.dump.proofs.lengths.binary_digits.Goals as goal

pub returns : goal.returns
returns c = digits-by 2 64 c.max.result c.ilog2.result (omega arith) c.ilog2.ensures.power_le c.ilog2.ensures.next_power_gt c.ilog2.ensures.bound
    ∙ at-least-one 2 64 c.args.value c.max.result (omega arith) (omega arith) (λ z. omega (arith, c.max.ensures)) (λ z. omega (arith, c.max.ensures))
