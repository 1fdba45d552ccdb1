-- `grammar::ask` meets its contract.
use mathlib.Core.Path.{◌∙◌, sym}
use borrow.Author.Rules.{rules}
use borrow.Author.Tests.{eq-eqb, ne_eqb}
use Rattle.reader.specs.ways.Parts.{wrong_unless}
use Rattle.reader.proofs.CellTokens.{cell-of}
use Rattle.reader.proofs.grammar.ask.Goals as goal

pub returns-then-cell-value : goal.returns-then-cell-value
unfolding wrong_unless
returns-then-cell-value c = rw (eq-eqb _ _ (cell-of c.args.cells.now c.args.row c.args.k (search rules) (search rules) ∙ sym c.cell.ensures ∙ c.if-cell-value.true))

pub returns-else-cell-value : goal.returns-else-cell-value
unfolding wrong_unless
returns-else-cell-value c = rw (ne_eqb _ _ (λ e. c.if-cell-value.false (c.cell.ensures ∙ sym (cell-of c.args.cells.now c.args.row c.args.k (search rules) (search rules)) ∙ e)))
