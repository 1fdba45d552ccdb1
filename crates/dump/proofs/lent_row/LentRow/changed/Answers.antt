-- `LentRow::changed` meets its contract.
use mathlib.Core.Path.{◌∙◌, sym, ap}
use Prim.Native.Nat.{ℕ, ◌%◌}
use borrow.Author.Tests.{eq-eqb, ne_eqb}
use Rattle.field.specs.Modulus.{P}
use Rattle.field.specs.Cells.{cell_at}
use Rattle.dump.proofs.Places.{first-changed, old-next}
use Rattle.dump.proofs.lent_row.LentRow.changed.Goals as goal

pub returns-then-self-eq0 : goal.returns-then-self-eq0
returns-then-self-eq0 c = (first-changed c.args.self.now.cells.now c.args.self.now.row c.args.column c.if-self-eq0.true, c.cell.ensures)

pub returns-then-self-before : goal.returns-then-self-before
unfolding cell_at
returns-then-self-before c = eq-eqb _ _ (sym (old-next c.args.self.now.cells.now c.args.self.now.row c.args.column c.if-self-eq0.false) ∙ ap (λ (n : ℕ). n % P) c.if-self-before.true)

pub returns-then-cell-value : goal.returns-then-cell-value
returns-then-cell-value c = let old = c.cell-2.ensures ∙ old-next c.args.self.now.cells.now c.args.self.now.row c.args.column c.if-self-eq0.false in
    eq-eqb _ _ (sym old ∙ c.if-cell-value.true ∙ c.cell-value.ensures)

pub returns : goal.returns
returns c = let old = c.cell-2.ensures ∙ old-next c.args.self.now.cells.now c.args.self.now.row c.args.column c.if-self-eq0.false in
    (ne_eqb _ _ (λ z. c.if-cell-value.false (old ∙ z ∙ sym c.cell-value.ensures)), c.cell-value.ensures)
