-- `inverse::euclid_inverse` meets its contract: the invariant is Bezout's, of `Bezout.antt`, with 1 < u; the measure is v.
use Prim.Native.Nat.{◌+◌, ◌*◌, ◌/◌, ◌%◌, ◌-◌}
use native.Mathlib.Omega.{arith}
use Rattle.field.specs.Modulus.{P}
use Rattle.field.proofs.Bezout.{end-u}
use Rattle.field.proofs.EuclidTurns.{half, again, is_inverse, finish}
use Rattle.field.proofs.inverse.euclid_inverse.Goals as goal

pub returns-then-u-eq1 : goal.returns-then-u-eq1
returns-then-u-eq1 c = is_inverse c.args.x (P - (c.loop-v.s + c.loop-v.u / c.loop-v.v * c.loop-v.t)) c.requires
    (end-u c.args.x (c.loop-v.u % c.loop-v.v) c.loop-v.v (c.loop-v.s + c.loop-v.u / c.loop-v.v * c.loop-v.t) c.loop-v.t (half c.args.x c.loop-v.u c.loop-v.v c.loop-v.s c.loop-v.t c.loop-v.invariant.0 c.requires c.loop-v-test.true) (omega (arith, c.loop-v-test.true)) c.if-u-eq1.true)

pub loop-v-preserved : goal.loop-v-preserved
loop-v-preserved c = again c.args.x c.loop-v.u c.loop-v.v c.loop-v.s c.loop-v.t c.loop-v.invariant.0 c.requires c.loop-v-test.true c.if-u-eq1.false

pub returns : goal.returns
returns c = is_inverse c.args.x c.loop-v.t c.requires
    (finish c.args.x c.loop-v.u c.loop-v.v c.loop-v.s c.loop-v.t c.loop-v.invariant c.requires c.loop-v-test.false)
