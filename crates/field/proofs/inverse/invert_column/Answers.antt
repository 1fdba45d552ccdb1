-- `inverse::invert_column` meets its contract: the loop keeps the buffer with the column of the first `row` rows inverted, and in its array
-- at each place 0 or the inverse of the place.
use native.Mathlib.Omega.{arith}
use Rattle.std.proofs.lemmas.Grind.{common_steps}
use Rattle.field.proofs.Columns.{column-step, column-end}
use Rattle.field.proofs.inverse.invert_column.Goals as goal

pub loop-row-preserved : goal.loop-row-preserved
loop-row-preserved c = (column-step c.args.width c.args.column c.if-width-column.false c.args.cells.now c.loop-row.cells c.loop-row.row c.inverse_kept.result c.loop-row.invariant.0 (grind (arith, common_steps)) c.inverse_kept.ensures.value, c.inverse_kept.ensures.kept_inverses)

pub returns : goal.returns
returns c = column-end c.args.width c.args.column c.if-width-column.false c.args.cells.now c.loop-row.cells c.loop-row.row c.args.rows c.div_ceil-held.result c.loop-row.invariant.0 (omega arith) (grind (arith, common_steps))
