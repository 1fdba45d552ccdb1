-- `Fragments::sum_up_to` meets its contract. The loop's invariant: with the counts that are left, the sum comes to the same.
use mathlib.Core.Path.{◌≡◌}
use Prim.Native.Nat.{◌-◌, min}
use native.Mathlib.Omega.{arith}
use borrow.Author.Rules.{rules}
use lib.ListN.{get_or, drop_of_length-le}
use Rattle.rows.specs.passes.Passes.{sum_of}
use Rattle.rows.proofs.passes.Counts.{sum-turn}
use Rattle.rows.proofs.passes.fragments.Fragments.sum_up_to.Goals as goal

pub loop-count-preserved : goal.loop-count-preserved
loop-count-preserved c = let turn = sum-turn c.args.self.now.counts.now c.loop-count.count-index (omega arith) in
    let less : c.min-sum.result ≡ min (get_or c.args.self.now.counts.now c.loop-count.count-index 0) (c.args.cap - c.loop-count.sum) = search rules in
    (omega arith, omega arith)

pub returns : goal.returns
unfolding sum_of
returns c = let e = rw (drop_of_length-le c.args.self.now.counts.now c.loop-count-test.false) at c.loop-count.invariant.1 in
    omega arith
