-- `helper_column::invert_helpers` meets its contract.
use mathlib.Core.Path.{◌∙◌}
use Rattle.rows.proofs.passes.InvertedRows.{inverted-rows}
use Rattle.rows.proofs.passes.helper_column.invert_helpers.Goals as goal

pub returns : goal.returns
returns c = c.invert_column.ensures ∙ inverted-rows c.args.rows c.args.buffer.now c.requires
