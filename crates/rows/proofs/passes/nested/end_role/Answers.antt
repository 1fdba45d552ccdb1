-- `nested::end_role` meets its contract.
use mathlib.Core.Path.{sym, ◌∙◌}
use native.Mathlib.Omega.{arith}
use borrow.Author.Tests.{eq-eqb, ne_eqb}
use Rattle.rows.specs.records.Buffers.{buffer_row, opcode_of}
use Rattle.rows.specs.ways.OpenLoops.{RoleOf}
use Rattle.rows.proofs.passes.RowCells.{flagged-yes, flagged-no}
use Rattle.rows.proofs.passes.nested.end_role.Goals as goal

pub returns-then-cell-ne-ONE : goal.returns-then-cell-ne-ONE
unfolding RoleOf
returns-then-cell-ne-ONE c = (
  ne_eqb (opcode_of (buffer_row c.args.i c.args.buffer.now)) _ (λ e. c.if-profile.false (sym e ∙ c.requires.2)),
  flagged-no c.args.profile c.args.buffer.now c.args.i (λ e. c.if-cell-ne-ONE.true (c.cell.ensures ∙ e)),
)

pub returns-then-addr_at : goal.returns-then-addr_at
unfolding RoleOf
returns-then-addr_at c = (
  ne_eqb (opcode_of (buffer_row c.args.i c.args.buffer.now)) _ (λ e. c.if-profile.false (sym e ∙ c.requires.2)),
  flagged-yes c.args.profile c.args.buffer.now c.args.i (sym c.cell.ensures ∙ c.if-cell-ne-ONE.false) ∙ eq-eqb _ _ c.requires.2,
  omega (arith, c.if-depth-eq0.false),
  sym c.addr_at.ensures ∙ c.if-addr_at.true ∙ c.addr_at-2.ensures,
)

pub returns-then-profile : goal.returns-then-profile
unfolding RoleOf
returns-then-profile c = tt

pub returns-then-depth-eq0 : goal.returns-then-depth-eq0
unfolding RoleOf
returns-then-depth-eq0 c = tt

pub returns : goal.returns
unfolding RoleOf
returns c = tt
