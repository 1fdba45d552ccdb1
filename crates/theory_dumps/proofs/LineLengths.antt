-- How long the lines of a dump are at most.
use mathlib.Core.List.{[], ◌∷◌}
use Prim.Native.Nat.{ℕ, ◌≤◌}
use native.Mathlib.Omega.{arith}
use lib.ListN.{length, length-append}
use Rattle.theory_dumps.specs.Numerals.{decimal, binary}
use Rattle.theory_dumps.specs.Dumps.{identifier, time_line, value_line}
use Rattle.theory_dumps.proofs.NumeralLaws.{few-digits}

pub time-length : (row : ℕ) → length (time_line row) ≤ 22
unfolding time_line
time-length row = omega (arith, few-digits 10 20 row, length-append (decimal row) (10 ∷ []))

pub value-length : (column value : ℕ) → length (value_line column value) ≤ 68
unfolding value_line
value-length column value = omega (arith, few-digits 2 64 value, length-append (binary value) (32 ∷ identifier column ∷ 10 ∷ []))
