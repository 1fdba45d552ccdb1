-- `token::row_kind` meets its contract.
use mathlib.Core.Path.{◌∙◌, sym}
use Prim.Native.Nat.{◌/◌, ◌<◌}
use native.Mathlib.Omega.{arith}
use borrow.Author.Rules.{rules}
use lib.ListN.{length}
use Rattle.theory_readings.specs.Readings.{row_at, all_rows}
use Rattle.reader.specs.Rows.{word_in, row_kind_of}
use Rattle.reader.proofs.RowTokens.{rows_in, token-of, token-past}
use Rattle.reader.proofs.CellTokens.{cell-of, kind-control, kind-op, kind-none}
use Rattle.reader.proofs.token.row_kind.Goals as goal

pub returns-then-cells-row : goal.returns-then-cells-row
unfolding row_kind_of
returns-then-cells-row c = rw (token-past (word_in c.args.profile c.args.cells.now) c.args.row (omega (arith, rows_in c.args.profile c.args.cells.now, c.if-cells-row.true)))

pub returns-then-cell-eq0 : goal.returns-then-cell-eq0
returns-then-cell-eq0 c = let i : c.args.row < length c.args.cells.now / 49 = search rules in
    rw (c.control-kind.ensures, c.opcode.ensures, token-of c.args.profile c.args.cells.now c.args.row i)
    (kind-control c.args.profile (row_at (all_rows c.args.cells.now) c.args.row)
    (sym c.are_bits.ensures ∙ c.if-are_bits.true)
    (cell-of c.args.cells.now c.args.row 22 i (omega arith) ∙ sym c.cell.ensures ∙ c.if-cell-eq0.true))

pub returns-then-are_bits : goal.returns-then-are_bits
returns-then-are_bits c = let i : c.args.row < length c.args.cells.now / 49 = search rules in
    rw (c.op.ensures, c.control-kind.ensures, c.opcode.ensures, token-of c.args.profile c.args.cells.now c.args.row i)
    (kind-op c.args.profile (row_at (all_rows c.args.cells.now) c.args.row)
    (sym c.are_bits.ensures ∙ c.if-are_bits.true)
    (λ e. c.if-cell-eq0.false (c.cell.ensures ∙ sym (cell-of c.args.cells.now c.args.row 22 i (omega arith)) ∙ e)))

pub returns : goal.returns
returns c = rw (token-of c.args.profile c.args.cells.now c.args.row (search rules)) (kind-none _ _ (sym c.are_bits.ensures ∙ c.if-are_bits.false))
