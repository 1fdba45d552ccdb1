-- `scan::is_plain` meets its contract.
use native.Mathlib.Omega.{arith}
use Rattle.dump.proofs.DigitLaws.{plain-none, plain-one, plain_more}
use Rattle.dump.proofs.scan.is_plain.Goals as goal

pub returns-in-empty : goal.returns-in-empty
returns-in-empty c = plain-none c.args.digits.now (omega arith)

pub returns-in-len1 : goal.returns-in-len1
returns-in-len1 c = plain-one c.args.digits.now (omega arith)

pub returns-in-len1-up : goal.returns-in-len1-up
returns-in-len1-up c = plain_more c.args.digits.now c.in-len1-up.len_at_least
