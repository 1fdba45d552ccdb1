-- `lines::put_changes` meets its contract. The loop's invariant: the lines of the columns passed are put.
use mathlib.Core.Path.{◌∙◌, ap}
use mathlib.Core.List.{◌++◌}
use Prim.Native.Nat.{ℕ}
use native.Mathlib.Omega.{arith}
use Rattle.theory_dumps.specs.Dumps.{value_line}
use Rattle.dump.specs.ways.Places.{changes_to}
use Rattle.dump.proofs.Putting.{put-none, put_then, put_is}
use Rattle.dump.proofs.Places.{column-same, column-more, changes-length}
use Rattle.dump.proofs.lines.put_changes.Goals as goal
use Rattle.dump.proofs.lines.put_changes.Goals.{in-Some, in_default}

pub loop-column-init : goal.loop-column-init
unfolding changes_to
loop-column-init c = put-none c.args.text.now c.args.at

pub put_value-end-requires : goal.put_value-end-requires
put_value-end-requires c = (
  omega (arith, c.loop-column.invariant.is_end, changes-length c.args.row.now.cells.now c.args.row.now.row c.loop-column.column, c.requires),
  c.loop-column-test.true,
)

pub loop-column-preserved : goal.loop-column-preserved
loop-column-preserved c = elim c.match-changed.branch [
  | in-Some w ↦ rw (w.text-is, w.end-is)
      (put_is (ap (λ (v : ℕ). changes_to c.args.row.now.cells.now c.args.row.now.row c.loop-column.column ++ value_line c.loop-column.column v) w.in-Some.ensures.1 ∙ column-more c.args.row.now.cells.now c.args.row.now.row c.loop-column.column w.in-Some.ensures.0)
      (put_then c.loop-column.invariant w.put_value-end.ensures))
  | in_default w ↦ rw (w.text-is, w.end-is) (put_is (column-same c.args.row.now.cells.now c.args.row.now.row c.loop-column.column w.in_default.ensures) c.loop-column.invariant)
]
