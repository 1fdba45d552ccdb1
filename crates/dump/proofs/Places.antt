-- Laws of a dump's lines by places: how long they are at most, and one more column or row.
use mathlib.Core.Path.{◌≡◌, ◌∙◌, refl, sym, ap}
use mathlib.Core.Bool.{Bool, true, false}
use mathlib.Core.List.{List, [], ◌++◌, append-nil}
use Prim.Native.Nat.{ℕ, zero, suc, ◌+◌, ◌-◌, ◌*◌, ◌≤◌}
use native.Mathlib.Omega.{arith}
use native.Mathlib.Numerals.{add-one}
use borrow.Author.Tests.{ne_eqb}
use lib.Dec.{eqb}
use lib.ListN.{length, length-append}
use Rattle.field.specs.Modulus.{P}
use Rattle.field.specs.Cells.{cell_at}
use Rattle.groups.specs.Answer.{pick}
use Rattle.theory_dumps.specs.Dumps.{time_line, value_line}
use Rattle.theory_dumps.proofs.LineLengths.{time-length, value-length}
use Rattle.dump.specs.ways.Places.{value_at, old_at, change_line, changes_to, lines_of, lines_to}

-- before the first row no column has a value
pub first-changed : (cells : List ℕ) (row column : ℕ) → row ≡ 0 → eqb (old_at cells row column) (value_at cells row column) ≡ false
unfolding old_at cell_at
first-changed cells row column e = rw e (ne_eqb P (value_at cells 0 column) (λ z. omega arith))

pub old-next : (cells : List ℕ) (row column : ℕ) → ¬ (row ≡ 0) → value_at cells (row - 1) column ≡ old_at cells row column
unfolding old_at
old-next cells zero column h = absurd (h refl)
old-next cells (suc row) column h = let e : suc row - 1 ≡ row = omega arith in rw e refl

no_line : (column old value : ℕ) → eqb old value ≡ true → change_line column old value ≡ []
unfolding change_line
no_line column old value e = rw e

a-line : (column old value : ℕ) → eqb old value ≡ false → change_line column old value ≡ value_line column value
unfolding change_line
a-line column old value e = rw e

-- one more column, one more row
changes-next : (cells : List ℕ) (row n : ℕ) → changes_to cells row n ++ change_line n (old_at cells row n) (value_at cells row n) ≡ changes_to cells row (n + 1)
unfolding changes_to
changes-next cells row n = rw (add-one n) refl

-- whose value did not change, or did
pub column-same : (cells : List ℕ) (row n : ℕ) → eqb (old_at cells row n) (value_at cells row n) ≡ true → changes_to cells row n ≡ changes_to cells row (n + 1)
column-same cells row n e =
    sym (append-nil (changes_to cells row n)) ∙ ap (λ (l : List ℕ). changes_to cells row n ++ l) (sym (no_line n (old_at cells row n) (value_at cells row n) e)) ∙ changes-next cells row n

pub column-more : (cells : List ℕ) (row n : ℕ) → eqb (old_at cells row n) (value_at cells row n) ≡ false → changes_to cells row n ++ value_line n (value_at cells row n) ≡ changes_to cells row (n + 1)
column-more cells row n e =
    ap (λ (l : List ℕ). changes_to cells row n ++ l) (sym (a-line n (old_at cells row n) (value_at cells row n) e)) ∙ changes-next cells row n

pub lines_next : (cells : List ℕ) (n : ℕ) → lines_to cells n ++ lines_of cells n ≡ lines_to cells (n + 1)
unfolding lines_to
lines_next cells n = rw (add-one n) refl

-- LENGTHS

change-length : (column old value : ℕ) → length (change_line column old value) ≤ 68
unfolding change_line
change-length column old value = go (eqb old value) (value-length column value)
  where
    go : (t : Bool) → length (value_line column value) ≤ 68 → length (pick t [] (value_line column value)) ≤ 68
    go true h = omega arith
    go false h = h

pub changes-length : (cells : List ℕ) (row n : ℕ) → length (changes_to cells row n) ≤ 68 * n
unfolding changes_to
changes-length cells row zero = omega arith
changes-length cells row (suc n) =
    let line = change_line n (old_at cells row n) (value_at cells row n) in
    omega (arith, changes-length cells row n, change-length n (old_at cells row n) (value_at cells row n), length-append (changes_to cells row n) line)

pub lines-length : (cells : List ℕ) (n : ℕ) → length (lines_to cells n) ≤ 3354 * n
unfolding lines_to
lines-length cells zero = omega arith
lines-length cells (suc n) =
    omega (arith, lines-length cells n, time-length n, changes-length cells n 49, length-append (time_line n) (changes_to cells n 49), length-append (lines_to cells n) (lines_of cells n))
