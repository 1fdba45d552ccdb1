-- `all_below` meets its contract.
use Rattle.std.proofs.Common.{◌<◌, ◌↔◌, IsTrue, slice_index, EachIndex, rules}
use Rattle.groups.proofs.FamilyLaws.{below_law}
use Rattle.groups.proofs.helpers.all_below.Goals as goal

pub returns : goal.returns
returns c =
    let e : IsTrue c.all.result ↔ EachIndex c.args.numbers.now (λ k. slice_index c.args.numbers.now k < c.args.limit) = search rules in
    below_law c.args.limit c.args.numbers.now c.all.result e
