-- `core_row` meets its contract.
use mathlib.Core.Path.{◌∙◌, sym, ap}
use native.Mathlib.Omega.{arith}
use lib.ListN.{length}
use Rattle.exports.proofs.PlaceLaws.{part-cells, none-starts, some-passes, some-starts, row_inside}
use Rattle.exports.proofs.core_row.Goals as goal

pub returns-then-part-eq0 : goal.returns-then-part-eq0
returns-then-part-eq0 c = let long = ap length c.row-part.ensures.cells ∙ part-cells c.args.cells.now c.args.number in
    let none = sym long ∙ c.if-part-eq0.true in
    (none-starts (length c.args.cells.now) c.args.number none, sym none)

pub overflow_mul-result : goal.overflow_mul-result
overflow_mul-result c = let long = ap length c.row-part.ensures.cells ∙ part-cells c.args.cells.now c.args.number in
    let inside = row_inside (length c.args.cells.now) c.args.number (some-passes (length c.args.cells.now) c.args.number (λ e. c.if-part-eq0.false (long ∙ e))) in
    omega (arith, inside)

pub returns : goal.returns
returns c = let long = ap length c.row-part.ensures.cells ∙ part-cells c.args.cells.now c.args.number in
    (some-starts (length c.args.cells.now) c.args.number (λ e. c.if-part-eq0.false (long ∙ e)), long)
