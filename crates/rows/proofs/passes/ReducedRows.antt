-- Rows of reduced cells (N2): the rows of a reduced buffer are the reduced rows, and a row's opcode is that of its reduced cells.
use mathlib.Core.Path.{◌≡◌, ◌∙◌, refl, sym, ap, ap₂}
use mathlib.Core.List.{List, ◌∷◌, map}
use Prim.Native.Nat.{ℕ, zero, suc}
use lib.ListN.{take, drop}
use Rattle.field.specs.Cells.{reduced}
use Rattle.field.proofs.CellLaws.{reduced-take, reduced-drop, reduced-twice}
use Rattle.rows.specs.records.Buffers.{rows_of, low_bits, opcode_of}

pub bits-reduced : (row : List ℕ) → reduced (take 7 (drop 7 (reduced row))) ≡ reduced (take 7 (drop 7 row))
bits-reduced row =
    ap reduced (ap (take 7) (sym (reduced-drop 7 row)) ∙ sym (reduced-take 7 (drop 7 row))) ∙ reduced-twice (take 7 (drop 7 row))

pub opcode-reduced : (row : List ℕ) → opcode_of (reduced row) ≡ opcode_of row
unfolding opcode_of
opcode-reduced row = ap low_bits (bits-reduced row)

pub rows-reduced : (n : ℕ) (cells : List ℕ) → rows_of n (reduced cells) ≡ map reduced (rows_of n cells)
unfolding rows_of
rows-reduced zero cells = refl
rows-reduced (suc n) cells =
    ap₂ (λ x y. x ∷ y) (sym (reduced-take 49 cells)) (ap (rows_of n) (sym (reduced-drop 49 cells)) ∙ rows-reduced n (drop 49 cells))
