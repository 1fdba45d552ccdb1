-- Laws of how many bytes lines take.
use mathlib.Core.Path.{◌≡◌, ◌∙◌, refl, sym, ap}
use mathlib.Core.Bool.{false}
use mathlib.Core.List.{List, [], ◌∷◌}
use Prim.Native.Nat.{ℕ, zero, suc, ◌+◌, ◌*◌, ◌^◌, ◌≤◌, ◌<◌}
use native.Mathlib.Nat.{pow-succ'}
use native.Mathlib.Omega.{arith}
use native.Mathlib.Numerals.{add-one}
use lib.Dec.{eqb}
use lib.ListN.{length, length-append}
use Rattle.theory_dumps.specs.Numerals.{binary, decimal, numeral_within}
use Rattle.theory_dumps.proofs.NumeralLaws.{one-digit}
use Rattle.theory_dumps.proofs.NumeralLengths.{digits-count}
use Rattle.theory_dumps.specs.Dumps.{identifier, time_line, value_line}
use Rattle.dump.specs.ways.Places.{value_at, old_at, changes_to, lines_of, lines_to}
use Rattle.dump.proofs.Places.{column-more, lines_next}

-- digits by the power of the base that is not above the number
pub digits-by : (base m n k : ℕ) → 1 < base → base ^ k ≤ n → n < base * base ^ k → k < m → k + 1 ≡ length (numeral_within base m n)
digits-by base m n k b l h r = add-one k ∙ sym (digits-count base k m n b l (rw (pow-succ' base k) h) r)

-- of 0 there is one, as of 1
pub one-for-zero : (base m : ℕ) → 1 < base → 0 < m → length (numeral_within base m 0) ≡ length (numeral_within base m 1)
one-for-zero base zero b h = absurd (omega arith)
one-for-zero base (suc m) b h = ap (λ (l : List ℕ). length l) (one-digit base m 0 (omega arith)) ∙ sym (ap (λ (l : List ℕ). length l) (one-digit base m 1 b))

pub at-least-one : (base m n x : ℕ) → 1 < base → 0 < m → (0 < n → x ≡ n) → (n ≡ 0 → x ≡ 1) → length (numeral_within base m x) ≡ length (numeral_within base m n)
at-least-one base m zero x b h a z = rw (z refl) (sym (one-for-zero base m b h))
at-least-one base m (suc n) x b h a z = rw (a (omega arith)) refl

pub value-bytes : (column value : ℕ) → length (value_line column value) ≡ 4 + length (binary value)
unfolding value_line
value-bytes column value = omega (arith, length-append (binary value) (32 ∷ identifier column ∷ 10 ∷ []))

pub time-bytes : (row : ℕ) → length (time_line row) ≡ 2 + length (decimal row)
unfolding time_line
time-bytes row = omega (arith, length-append (decimal row) (10 ∷ []))

-- one more column, whose value changed
pub column-bytes : (cells : List ℕ) (row n : ℕ) → eqb (old_at cells row n) (value_at cells row n) ≡ false
    → length (changes_to cells row n) + (4 + length (binary (value_at cells row n))) ≡ length (changes_to cells row (n + 1))
column-bytes cells row n e =
    omega (arith, ap (λ (l : List ℕ). length l) (column-more cells row n e), length-append (changes_to cells row n) (value_line n (value_at cells row n)), value-bytes n (value_at cells row n))

pub row-bytes : (cells : List ℕ) (n : ℕ) → length (lines_to cells n) + (2 + length (decimal n)) + length (changes_to cells n 49) ≡ length (lines_to cells (n + 1))
row-bytes cells n =
    omega (arith, length-append (lines_to cells n) (lines_of cells n), length-append (time_line n) (changes_to cells n 49), time-bytes n, ap (λ (l : List ℕ). length l) (lines_next cells n))
