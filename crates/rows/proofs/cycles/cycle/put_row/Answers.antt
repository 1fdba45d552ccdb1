-- `cycle::put_row` meets its contract.
use mathlib.Core.Path.{◌∙◌}
use Rattle.rows.proofs.records.Rooms.{row_within}
use Rattle.rows.proofs.cycles.cycle.put_row.Goals as goal

pub returns-then-write : goal.returns-then-write
returns-then-write c = rw (c.if-write.true, ← c.last_system.ensures, ← c.last_stack.ensures) (c.write_row.ensures ∙ row_within _ _ _ c.requires)
