-- `read_rows::count_rows` meets its contract. The loop's invariant: the first rows are read, and they are few enough.
use mathlib.Core.Path.{sym}
use Prim.Native.Nat.{◌<◌}
use native.Mathlib.Omega.{arith}
use native.Mathlib.Numerals.{add-one}
use borrow.Author.Tests.{eqb-true, eqb-false}
use lib.ListN.{length}
use Rattle.theory_dumps.specs.ways.Undump.{no_values}
use Rattle.dump.proofs.RowsLaws.{rows_of, timed-shorter, count_none, count-end, count-more, count-bad}
use Rattle.dump.proofs.UndumpLaws.{counted-few, none-few, count-over}
use Rattle.dump.proofs.read_rows.count_rows.Goals as goal

pub loop-rest-init : goal.loop-rest-init
loop-rest-init c = (count_none c.args.text.now, omega arith)

pub returns-in_err-rest : goal.returns-in_err-rest
returns-in_err-rest c = let h : 0 < length c.loop-rest.rest.now = omega (arith, eqb-false (length c.loop-rest.rest.now) 0 (sym c.loop-rest-test.ensures)) in
    rw c.from_residual.ensures
    (sym (none-few (rows_of 0 no_values c.args.text.now) (count-bad c.args.text.now c.loop-rest.row c.loop-rest.number c.loop-rest.rest.now c.loop-rest.invariant.0 h (sym c.in_err-rest.ensures))))

pub returns-then-number-eq-MOST : goal.returns-then-number-eq-MOST
returns-then-number-eq-MOST c = let h : 0 < length c.loop-rest.rest.now = omega (arith, eqb-false (length c.loop-rest.rest.now) 0 (sym c.loop-rest-test.ensures)) in
    let more = count-more c.args.text.now c.loop-rest.row c.loop-rest.number c.loop-rest.rest.now c.loop-rest.invariant.0 h c.after_row.new.row c.in_ok-rest.rest.now (sym c.in_ok-rest.ensures) c.after_row.array_long in
    sym (count-over c.args.text.now c.after_row.new.row _ c.in_ok-rest.rest.now more (omega (arith, c.if-number-eq-MOST.true)))

pub loop-rest-smaller : goal.loop-rest-smaller
loop-rest-smaller c = omega (arith, timed-shorter c.loop-rest.number c.loop-rest.row c.loop-rest.rest.now c.after_row.new.row c.in_ok-rest.rest.now (sym c.in_ok-rest.ensures))

pub loop-rest-preserved : goal.loop-rest-preserved
loop-rest-preserved c = let h : 0 < length c.loop-rest.rest.now = omega (arith, eqb-false (length c.loop-rest.rest.now) 0 (sym c.loop-rest-test.ensures)) in (
  rw add-one (count-more c.args.text.now c.loop-rest.row c.loop-rest.number c.loop-rest.rest.now c.loop-rest.invariant.0 h c.after_row.new.row c.in_ok-rest.rest.now (sym c.in_ok-rest.ensures) c.after_row.array_long),
  omega (arith, c.loop-rest.invariant.1, c.if-number-eq-MOST.false),
)

pub returns : goal.returns
returns c = sym (counted-few (rows_of 0 no_values c.args.text.now) c.loop-rest.number
    (count-end c.args.text.now c.loop-rest.row c.loop-rest.number c.loop-rest.rest.now c.loop-rest.invariant.0 (eqb-true (length c.loop-rest.rest.now) 0 (sym c.loop-rest-test.ensures)))
    c.loop-rest.invariant.1)
