-- `lines::put_rows` meets its contract. The loop's invariant: the lines of the rows passed are put.
use Rattle.dump.specs.ways.Putting.{Put}
use Rattle.dump.specs.ways.Places.{lines_to}
use Rattle.dump.proofs.lines.put_rows.Given as goal

abbrev pub invariant-loop-row : goal.invariant-loop-row
invariant-loop-row l = Put l.initial.text l.at (lines_to l.cells l.row) l.text l.end
