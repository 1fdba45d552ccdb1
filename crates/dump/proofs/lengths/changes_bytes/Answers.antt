-- `lengths::changes_bytes` meets its contract. The loop's invariant: the lines of the columns passed are counted.
use mathlib.Core.Path.{◌≡◌, ap}
use mathlib.Core.List.{List}
use Prim.Native.Nat.{ℕ}
use native.Mathlib.Omega.{arith}
use lib.ListN.{length}
use Rattle.theory_dumps.specs.Numerals.{binary}
use Rattle.theory_dumps.proofs.NumeralLaws.{few-digits}
use Rattle.dump.specs.ways.Places.{value_at, changes_to}
use Rattle.dump.proofs.LengthLaws.{column-bytes}
use Rattle.dump.proofs.Places.{column-same, changes-length}
use Rattle.dump.proofs.lengths.changes_bytes.Goals as goal
use Rattle.dump.proofs.lengths.changes_bytes.Goals.{in-Some, in_default}

pub loop-column-init : goal.loop-column-init
unfolding changes_to
loop-column-init c = omega arith

pub overflow_add-bytes : goal.overflow_add-bytes
overflow_add-bytes c = omega (arith, c.binary_digits.ensures, few-digits 2 64 c.in-Some.value)

pub overflow_add-bytes-in-Some : goal.overflow_add-bytes-in-Some
overflow_add-bytes-in-Some c = omega (arith, c.binary_digits.ensures, few-digits 2 64 c.in-Some.value, c.loop-column.invariant, changes-length c.args.row.now.cells.now c.args.row.now.row c.loop-column.column)

pub loop-column-preserved : goal.loop-column-preserved
loop-column-preserved c = elim c.match-changed.branch [
  | in-Some w ↦ (let e : length (binary w.in-Some.value) ≡ length (binary (value_at c.args.row.now.cells.now c.args.row.now.row c.loop-column.column)) = ap (λ (n : ℕ). length (binary n)) w.in-Some.ensures.1 in
      omega (arith, w.bytes-is, w.binary_digits.ensures, c.loop-column.invariant, column-bytes c.args.row.now.cells.now c.args.row.now.row c.loop-column.column w.in-Some.ensures.0))
  | in_default w ↦ omega (arith, w.bytes-is, c.loop-column.invariant, ap (λ (l : List ℕ). length l) (column-same c.args.row.now.cells.now c.args.row.now.row c.loop-column.column w.in_default.ensures))
]
