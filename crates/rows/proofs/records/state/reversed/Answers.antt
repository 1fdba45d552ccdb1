-- `state::reversed` meets its contract.
use mathlib.Core.Path.{◌∙◌, sym}
use borrow.Author.Rules.{rules}
use Rattle.rows.proofs.records.Windows.{reversed_16}
use Rattle.rows.proofs.records.state.reversed.Goals as goal

pub returns : goal.returns
returns c = c.reverse.ensures.after ∙ sym (reversed_16 c.args.top (search rules))
