-- A flagged END: h4 is exactly 1, and the opcode is that of END.
use mathlib.Core.Path.{sym, ◌∙◌}
use Rattle.rows.proofs.passes.RowCells.{flagged-yes, flagged-no}
use Rattle.rows.proofs.passes.multiplicity.is_flagged_end.Goals as goal

pub returns-then-cell-eq-ONE : goal.returns-then-cell-eq-ONE
returns-then-cell-eq-ONE c = c.has_opcode.ensures ∙ sym (flagged-yes c.args.profile c.args.buffer.now c.args.i (sym c.cell.ensures ∙ c.if-cell-eq-ONE.true))

pub returns-else-cell-eq-ONE : goal.returns-else-cell-eq-ONE
returns-else-cell-eq-ONE c = sym (flagged-no c.args.profile c.args.buffer.now c.args.i (λ e. c.if-cell-eq-ONE.false (c.cell.ensures ∙ e)))
