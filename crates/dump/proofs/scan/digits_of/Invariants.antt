-- `scan::digits_of` meets its contract. The loop's invariant: `count` digits are scanned.
use Rattle.dump.proofs.DigitLaws.{DigitsTo}
use Rattle.dump.proofs.scan.digits_of.Given as goal

abbrev pub invariant-loop-count : goal.invariant-loop-count
invariant-loop-count l = DigitsTo l.base l.text l.count l.value
