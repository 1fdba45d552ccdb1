-- `row::copy_in` meets its contract. The loop's invariant: the first j cells are copied.
use mathlib.Core.Path.{◌≡◌}
use Prim.Native.Nat.{◌+◌, ◌≤◌}
use lib.ListN.{length}
use lib.Seq.{paste}
use Rattle.field.specs.Cells.{reduced}
use Rattle.rows.proofs.records.row.copy_in.Given as goal

abbrev pub invariant-loop-j : goal.invariant-loop-j
invariant-loop-j l =
    (l.dst ≡ paste l.initial.dst l.at (reduced l.src) l.j) × (l.j ≤ length l.src) × (length l.dst ≡ length l.initial.dst) × (l.at + length l.src ≤ length l.initial.dst)
