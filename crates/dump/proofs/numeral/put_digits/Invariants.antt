-- `numeral::put_digits` meets its contract. The loop's invariant: the digits of what is left, in front of those written, are the number's.
use mathlib.Core.Path.{◌≡◌}
use mathlib.Core.List.{◌++◌}
use Prim.Native.Nat.{◌^◌, ◌≤◌, ◌<◌}
use lib.ListN.{length, drop}
use Rattle.theory_dumps.specs.Numerals.{numeral_within}
use Rattle.dump.proofs.numeral.put_digits.Given as goal

abbrev pub invariant-loop-rest : goal.invariant-loop-rest
invariant-loop-rest l =
    (0 < l.at) × (l.at ≤ length l.initial.out) × (length l.out ≡ length l.initial.out) × (l.rest < l.base ^ l.at)
    × (numeral_within l.base l.at l.rest ++ drop l.at l.out ≡ numeral_within l.base (length l.initial.out) l.n)

abbrev pub decreases-loop-rest : goal.decreases-loop-rest
decreases-loop-rest l = l.at
