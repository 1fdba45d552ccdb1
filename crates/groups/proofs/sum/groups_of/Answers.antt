-- `sum::groups_of` meets its contract.
use native.Mathlib.Omega.{arith}
use Rattle.groups.proofs.RoundUp.{next_power}
use Rattle.groups.proofs.Sums.{round_within}
use Rattle.groups.proofs.sum.groups_of.Goals as goal

pub returns-then-rounded-clause-upper_bound : goal.returns-then-rounded-clause-upper_bound
returns-then-rounded-clause-upper_bound c =
    let r = next_power c.from-groups.result c.next_power_of_two.result (c.next_power_of_two.ensures.power, c.next_power_of_two.ensures.lower_bound, c.next_power_of_two.ensures.upper_bound) in
    omega (arith, r, round_within c.from-groups.result (omega arith))
