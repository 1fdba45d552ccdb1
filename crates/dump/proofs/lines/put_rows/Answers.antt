-- `lines::put_rows` meets its contract. The loop's invariant: the lines of the rows passed are put.
use mathlib.Core.Path.{◌∙◌}
use mathlib.Core.List.{append_assoc}
use native.Mathlib.Omega.{arith}
use Rattle.theory_dumps.specs.Dumps.{time_line}
use Rattle.theory_dumps.proofs.LineLengths.{time-length}
use Rattle.dump.specs.ways.Places.{changes_to, lines_to}
use Rattle.dump.proofs.Putting.{put-none, put_then, put_is}
use Rattle.dump.proofs.Places.{lines_next, lines-length}
use Rattle.dump.proofs.lines.put_rows.Goals as goal

pub loop-row-init : goal.loop-row-init
unfolding lines_to
loop-row-init c = put-none c.args.text.now c.args.at

pub put_time-end-requires : goal.put_time-end-requires
put_time-end-requires c = omega (arith, c.loop-row.invariant.is_end, lines-length c.args.cells.now c.loop-row.row, c.requires.0, c.requires.1, c.loop-row-test.true)

pub put_changes-end-requires : goal.put_changes-end-requires
put_changes-end-requires c = omega (arith, c.put_time-end.ensures.is_end, time-length c.loop-row.row, c.loop-row.invariant.is_end, lines-length c.args.cells.now c.loop-row.row, c.requires.0, c.requires.1, c.loop-row-test.true)

pub loop-row-preserved : goal.loop-row-preserved
loop-row-preserved c = put_is
    (append_assoc (lines_to c.args.cells.now c.loop-row.row) (time_line c.loop-row.row) (changes_to c.args.cells.now c.loop-row.row 49) ∙ lines_next c.args.cells.now c.loop-row.row)
    (put_then (put_then c.loop-row.invariant c.put_time-end.ensures) c.put_changes-end.ensures)
