-- `read_text::whole_first` meets its contract.
use mathlib.Core.Path.{◌∙◌}
use Rattle.theory_dumps.specs.ways.Undump.{no_values}
use Rattle.dump.specs.ways.Reading.{timed_row}
use Rattle.dump.proofs.UndumpLaws.{whole-by, whole-none}
use Rattle.dump.proofs.read_text.whole_first.Goals as goal

pub returns-in-Some : goal.returns-in-Some
returns-in-Some c = c.has_all.ensures ∙ whole-by (timed_row 0 no_values c.args.text.now) c.after_row.new.row c.in-Some.field-0.now c.in-Some.ensures

pub returns-in-None : goal.returns-in-None
returns-in-None c = whole-none (timed_row 0 no_values c.args.text.now) c.in-None.ensures
