-- `lengths::rows_bytes` meets its contract. The loop's invariant: the lines of the rows passed are counted.
use Prim.Native.Nat.{◌+◌}
use native.Mathlib.Omega.{arith}
use Rattle.dump.specs.ways.Places.{lines_to}
use Rattle.dump.proofs.LengthLaws.{row-bytes}
use Rattle.dump.proofs.Places.{lines-length}
use Rattle.dump.proofs.lengths.rows_bytes.Goals as goal

pub loop-row-init : goal.loop-row-init
unfolding lines_to
loop-row-init c = omega arith

pub overflow_add-bytes : goal.overflow_add-bytes
overflow_add-bytes c = omega (arith, c.loop-row.invariant, c.decimal_digits.ensures, row-bytes c.args.cells.now c.loop-row.row, lines-length c.args.cells.now (c.loop-row.row + 1), c.loop-row-test.true, c.requires)

pub overflow_add-bytes-in-loop-row : goal.overflow_add-bytes-in-loop-row
overflow_add-bytes-in-loop-row c = omega (arith, c.loop-row.invariant, c.decimal_digits.ensures, row-bytes c.args.cells.now c.loop-row.row, lines-length c.args.cells.now (c.loop-row.row + 1), c.loop-row-test.true, c.requires)

pub overflow_add-bytes-in-loop-row-2 : goal.overflow_add-bytes-in-loop-row-2
overflow_add-bytes-in-loop-row-2 c = omega (arith, c.loop-row.invariant, c.decimal_digits.ensures, c.changes_bytes-bytes.ensures, row-bytes c.args.cells.now c.loop-row.row, lines-length c.args.cells.now (c.loop-row.row + 1), c.loop-row-test.true, c.requires)

pub loop-row-preserved : goal.loop-row-preserved
loop-row-preserved c = omega (arith, c.loop-row.invariant, c.decimal_digits.ensures, c.changes_bytes-bytes.ensures, row-bytes c.args.cells.now c.loop-row.row)
