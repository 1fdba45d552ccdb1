-- `enclosing::enclosing_block` meets its contract: from the last place down.
use mathlib.Core.Path.{◌≡◌, refl, sym, ap}
use Prim.Native.Nat.{◌%◌, ◌/◌}
use native.Mathlib.Omega.{arith}
use borrow.Author.Rules.{rules}
use borrow.Author.Tests.{eq-eqb, ne_eqb}
use lib.ListN.{length}
use Rattle.groups.specs.Answer.{accepted}
use Rattle.theory_indexes.specs.Enclosing.{encloses, enclosing}
use Rattle.index.proofs.LookupLaws.{found_here, missed_here, none-past}
use Rattle.index.proofs.enclosing.enclosing_block.Goals as goal

pub returns-then-index-ne0 : goal.returns-then-index-ne0
unfolding enclosing
returns-then-index-ne0 c = rw (ne_eqb (length c.args.index.now % 3) 0 c.if-index-ne0.true) refl

pub loop-place-init : goal.loop-place-init
loop-place-init c = let n = length c.args.index.now in
    let z : n % 3 ≡ 0 = search rules in
    (omega arith, z, none-past c.args.index.now c.args.row (n / 3) (omega arith))

pub returns-then-start-row : goal.returns-then-start-row
unfolding encloses enclosing
returns-then-start-row c = rw (eq-eqb (length c.args.index.now % 3) 0 c.loop-place.invariant.1)
    (ap accepted (sym (found_here c.args.index.now c.args.row c.loop-place.place c.loop-place-test.true c.loop-place.invariant.0 c.loop-place.invariant.2 c.if-start-row.true)))

pub loop-place-preserved : goal.loop-place-preserved
unfolding encloses
loop-place-preserved c = (omega arith, c.loop-place.invariant.1, missed_here c.args.index.now c.args.row c.loop-place.place c.loop-place-test.true c.loop-place.invariant.0 c.loop-place.invariant.2 c.if-start-row.false)

pub returns : goal.returns
unfolding enclosing
returns c = let z : c.loop-place.place ≡ 0 = omega (arith, c.loop-place-test.false) in
    rw (eq-eqb (length c.args.index.now % 3) 0 c.loop-place.invariant.1) (ap accepted (sym (rw z at c.loop-place.invariant.2)))
