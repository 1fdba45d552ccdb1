-- `fixup::fixup_stack_and_system_rows` meets its contract.
use mathlib.Core.Path.{sym}
use Rattle.rows.proofs.passes.Counts.{passed}
use Rattle.rows.proofs.passes.fixup.fixup_stack_and_system_rows.Goals as goal

pub fixup_rows-requires : goal.fixup_rows-requires
fixup_rows-requires c = passed _ _ _ _ (sym c.in_ok-check_fixup.ensures)
