-- `lines::put_changes` meets its contract. The loop's invariant: the lines of the columns passed are put.
use Rattle.dump.specs.ways.Putting.{Put}
use Rattle.dump.specs.ways.Places.{changes_to}
use Rattle.dump.proofs.lines.put_changes.Given as goal

abbrev pub invariant-loop-column : goal.invariant-loop-column
invariant-loop-column l = Put l.initial.text l.at (changes_to l.row.cells.now l.row.row l.column) l.text l.end
