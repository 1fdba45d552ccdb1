-- `scan::digits_of` meets its contract. The loop's invariant: `count` digits are scanned.
use mathlib.Core.Path.{◌≡◌}
use Prim.Native.Nat.{◌<◌}
use native.Mathlib.Omega.{arith}
use native.Mathlib.Numerals.{add-one}
use lib.ListN.{length, get_or}
use Rattle.dump.proofs.DigitLaws.{digit-none, digit-some, read-end, read-stop, read_more}
use Rattle.dump.proofs.scan.digits_of.Goals as goal

pub returns-then-base-digit : goal.returns-then-base-digit
returns-then-base-digit c = let small : get_or c.args.text.now c.loop-count.count 0 < 256 = omega (arith, c.type_inv.text c.loop-count.count) in
    read-stop c.args.base c.args.text.now c.loop-count.count c.loop-count.value c.loop-count.invariant c.loop-count-test.true
    (digit-none c.args.base (get_or c.args.text.now c.loop-count.count 0) c.from-digit.result c.requires.1 small c.from-digit.ensures (omega arith))

pub loop-count-preserved : goal.loop-count-preserved
loop-count-preserved c = let small : get_or c.args.text.now c.loop-count.count 0 < 256 = omega (arith, c.type_inv.text c.loop-count.count) in
    let d = digit-some c.args.base (get_or c.args.text.now c.loop-count.count 0) c.from-digit.result c.requires.1 small c.from-digit.ensures (omega arith) in
    rw add-one
    (read_more c.args.base c.args.text.now c.loop-count.count c.loop-count.value c.loop-count.invariant c.loop-count-test.true c.requires.0 d.0
    _ (λ z. omega (arith, d.1)))

pub returns : goal.returns
returns c = let e : c.loop-count.count ≡ length c.args.text.now = omega arith in
    rw (← e) (read-end c.args.base c.args.text.now c.loop-count.count c.loop-count.value c.loop-count.invariant c.loop-count-test.false)
