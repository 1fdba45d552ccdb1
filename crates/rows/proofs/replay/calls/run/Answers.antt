-- `calls::run` meets its contract. Invariant: after k records the tracer and the fragment are those of the definition.
use mathlib.Core.Path.{◌≡◌}
use Prim.Native.Nat.{◌/◌}
use native.Mathlib.Omega.{arith}
use lib.ListN.{length}
use Rattle.rows.proofs.replay.CallSteps.{ran-none}
use Rattle.rows.proofs.replay.GoingOn.{ran_on}
use Rattle.rows.proofs.replay.calls.run.Goals as goal

pub loop-k-init : goal.loop-k-init
loop-k-init c = (omega arith, (omega arith, ran-none c.args.write _ _ _ _))

pub loop-k-smaller : goal.loop-k-smaller
loop-k-smaller c = let (more, within, ran) = ran_on _ c.args.records.now c.args.first c.args.write _ _ _ c.loop-k.k c.loop-k.tracer c.go_on-went.result c.loop-k.invariant.1.1 (rw c.loop-k.invariant.1.0 at c.go_on-went.ensures) in
    omega (arith, more, within)

pub loop-k-preserved : goal.loop-k-preserved
loop-k-preserved c = let (more, within, ran) = ran_on _ c.args.records.now c.args.first c.args.write _ _ _ c.loop-k.k c.loop-k.tracer c.go_on-went.result c.loop-k.invariant.1.1 (rw c.loop-k.invariant.1.0 at c.go_on-went.ensures) in
    (within, (omega (arith, c.loop-k.invariant.1.0, c.fragment-1.given), ran))

pub returns : goal.returns
returns c = let e : c.loop-k.k ≡ length c.args.records.now / 32 = omega arith in
    record { value = rw (← e) c.loop-k.invariant.1.1.0; fragment_after = rw (← e) c.loop-k.invariant.1.1.1 }
