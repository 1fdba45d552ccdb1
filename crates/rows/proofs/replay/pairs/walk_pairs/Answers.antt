-- `pairs::walk_pairs` meets its contract. Invariant: the walk stands behind a number of pairs.
use native.Mathlib.Omega.{arith}
use borrow.Author.Rules.{rules}
use borrow.Author.Tests.{not-false}
use Prim.Native.Nat.{zero, suc}
use Rattle.rows.specs.records.Lent.{lent_forest, lent_queues}
use Rattle.rows.specs.ways.Pairs.{stays, goes}
use Rattle.rows.proofs.replay.PairSteps.{onward}
use Rattle.rows.proofs.replay.pairs.walk_pairs.Goals as goal

pub loop-w-init : goal.loop-w-init
loop-w-init c = (search rules, (search rules, search rules), (zero, stays))

pub loop-w-preserved : goal.loop-w-preserved
loop-w-preserved c = let step =
    onward
    (lent_forest c.args.forest.now)
    (lent_queues c.args.queues.now)
    c.args.profile
    c.args.number
    c.args.records.now
    c.args.write
    c.loop-w.w
    c.loop-w.fragment
    _
    c.is_pair.result
    c.in-Some.end
    c.loop-w.invariant.1.1
    c.if-records-e.false
    (omega (arith, c.loop-w.invariant.0, c.loop-w.invariant.1.0, c.if-rows-w.false))
    (not-false c.is_pair.result c.if-not-is_pair.false-raw)
    c.is_pair.ensures
    c.in-Some.ensures
    (omega (arith, c.fragment-1.given))
    in
    (c.loop-w.invariant.0, (omega (arith, c.loop-w.invariant.1.0, c.fragment-1.given), omega arith), (suc c.loop-w.invariant.2.0, goes c.loop-w.invariant.2.1 step))
