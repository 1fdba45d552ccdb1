-- `numeral::put_digits` meets its contract. The loop's invariant: the digits of what is left, in front of those written, are the number's.
use mathlib.Core.Path.{◌∙◌}
use Prim.Native.Nat.{◌<◌}
use native.Mathlib.Omega.{arith}
use lib.ListN.{length-set}
use Rattle.theory_dumps.proofs.NumeralLaws.{more-digits, fewer_digits, digit-put, first-digit-put}
use Rattle.dump.proofs.numeral.put_digits.Goals as goal

pub loop-rest-preserved : goal.loop-rest-preserved
loop-rest-preserved c = let more : 1 < c.loop-rest.at = more-digits c.args.base c.loop-rest.at c.loop-rest.rest c.loop-rest-test.true c.loop-rest.invariant.3 c.requires.0 in (
  omega arith,
  omega (arith, c.loop-rest.invariant.1),
  simp length-set c.loop-rest.invariant.2,
  fewer_digits c.args.base c.loop-rest.at c.loop-rest.rest (omega (arith, c.requires.0)) c.loop-rest.invariant.0 c.loop-rest.invariant.3,
  digit-put c.args.base c.loop-rest.at c.loop-rest.rest c.loop-rest.out c.loop-rest.invariant.0 (omega (arith, c.loop-rest.invariant.1, c.loop-rest.invariant.2)) c.loop-rest-test.true ∙ c.loop-rest.invariant.4,
)

pub returns : goal.returns
returns c = (
  omega (arith, c.loop-rest.invariant.0, c.loop-rest.invariant.1),
  simp length-set c.loop-rest.invariant.2,
  first-digit-put c.args.base c.loop-rest.at c.loop-rest.rest c.loop-rest.out c.loop-rest.invariant.0 (omega (arith, c.loop-rest.invariant.1, c.loop-rest.invariant.2)) c.loop-rest-test.false ∙ c.loop-rest.invariant.4,
)
