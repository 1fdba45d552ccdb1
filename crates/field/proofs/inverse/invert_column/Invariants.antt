-- `inverse::invert_column` meets its contract: the loop keeps the buffer with the column of the first `row` rows inverted, and in its array
-- at each place 0 or the inverse of the place.
use mathlib.Core.Path.{◌≡◌}
use Rattle.field.specs.Column.{invert_column}
use Rattle.field.specs.ways.KeptInverses.{KeptInverses}
use Rattle.field.proofs.inverse.invert_column.Given as goal

abbrev pub invariant-loop-row : goal.invariant-loop-row
invariant-loop-row l = (l.cells ≡ invert_column l.initial.cells l.row l.width l.column) × KeptInverses l.kept
