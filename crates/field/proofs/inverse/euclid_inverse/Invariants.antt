-- `inverse::euclid_inverse` meets its contract: the invariant is Bezout's, of `Bezout.antt`, with 1 < u; the measure is v.
use Prim.Native.Nat.{◌<◌}
use Rattle.field.proofs.Bezout.{Bezout}
use Rattle.field.proofs.inverse.euclid_inverse.Given as goal

abbrev pub invariant-loop-v : goal.invariant-loop-v
invariant-loop-v l = Bezout l.x l.u l.v l.s l.t × (1 < l.u)

abbrev pub decreases-loop-v : goal.decreases-loop-v
decreases-loop-v l = l.v
