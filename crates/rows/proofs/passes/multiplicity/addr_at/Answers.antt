-- The address of a row is its cell 6.
use mathlib.Core.Path.{sym, ◌∙◌}
use native.Mathlib.Omega.{arith}
use Rattle.rows.proofs.passes.RowCells.{row_read}
use Rattle.rows.proofs.passes.multiplicity.addr_at.Goals as goal

pub returns : goal.returns
returns c = c.cell.ensures ∙ sym (row_read _ _ 6 (omega arith))
