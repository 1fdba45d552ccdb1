-- `sum::sum_groups` meets its contract. The loop's invariant: the sum is that of batches `from` to k, and the rest is to come.
use mathlib.Core.Path.{◌≡◌, ◌∙◌}
use Prim.Native.Nat.{◌+◌, ◌-◌}
use native.Mathlib.Omega.{arith}
use Rattle.groups.specs.GroupsLeft.{counts, sum_groups, group_sum}
use Rattle.groups.proofs.Sums.{sum-turn, sum-last, above-turn, above-last}
use Rattle.groups.proofs.sum.sum_groups.Goals as goal

pub loop-k-preserved : goal.loop-k-preserved
loop-k-preserved c =
    let t = sum-turn c.args.rounded c.args.batches.now c.args.first c.loop-k.k c.args.to c.item_or-count.result c.groups_of.result c.loop-k-test.true c.item_or-count.ensures c.groups_of.ensures.value in (
      omega arith,
      omega arith,
      omega arith,
      c.loop-k.invariant.3 ∙ above-turn c.loop-k.sum.above8 c.args.batches.now c.args.first c.loop-k.k c.args.to c.item_or-count.result c.loop-k-test.true c.item_or-count.ensures,
    )

pub returns : goal.returns
unfolding group_sum
returns c =
    let s = sum-last c.args.rounded c.args.batches.now (c.args.first + c.loop-k.k) c.loop-k.k c.args.to c.loop-k-test.false in
    let g : c.loop-k.sum.groups ≡ sum_groups c.args.rounded (counts c.args.batches.now (c.args.first + c.args.from) (c.args.to - c.args.from)) = omega arith in
    let b = c.loop-k.invariant.3 ∙ above-last c.loop-k.sum.above8 c.args.batches.now (c.args.first + c.loop-k.k) c.loop-k.k c.args.to c.loop-k-test.false in
    record { value = rw (b, ← g); groups_bound = omega arith }
