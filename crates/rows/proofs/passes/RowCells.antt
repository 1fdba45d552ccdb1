-- The cells of a buffer's row, and what rows of two buffers that are alike have in common.
use mathlib.Core.Path.{◌≡◌, refl, sym, ap, ◌∙◌}
use mathlib.Core.Bool.{false, and-true, and-false}
use mathlib.Core.List.{List, [], ◌∷◌}
use Prim.Native.Nat.{ℕ, zero, suc, ◌+◌, ◌*◌, ◌/◌, ◌%◌, ◌<◌, ◌≤◌}
use native.Mathlib.Omega.{arith}
use native.Mathlib.Decide.{ℕ_discrete}
use lib.Dec.{eqb, ltb}
use lib.ListN.{length, get_or, set, take, drop, length-set}
use lib.Seq.{get_or-take, get_or-drop, get_or-set_other}
use borrow.Author.Tests.{eq-eqb, ne_eqb, lt-ltb, le-ltb}
use Rattle.field.specs.Modulus.{P}
use Rattle.field.specs.Cells.{cell_at, reduced}
use Rattle.field.proofs.CellLaws.{get_or-reduced, reduced-take}
use Rattle.rows.specs.declared.records.profile.Profile.{Profile}
use Rattle.rows.specs.records.Buffers.{h4_of, buffer_row, low_bits, opcode_of}
use Rattle.rows.specs.passes.Passes.{flagged_end}
use Rattle.rows.specs.ways.LoopCounts.{Alike}

pub row-cell : (c : List ℕ) (i k : ℕ) → k < 49 → get_or (buffer_row i c) k 0 ≡ get_or c (49 * i + k) 0
unfolding buffer_row
row-cell c i k h = get_or-take 49 (drop (49 * i) c) k 0 h ∙ get_or-drop (49 * i) c k 0

-- the same, as it is read
pub row_read : (c : List ℕ) (i k : ℕ) → k < 49 → cell_at (buffer_row i c) k ≡ cell_at c (49 * i + k)
unfolding cell_at
row_read c i k h = ap (λ x. x % P) (row-cell c i k h)

seven : (l : List ℕ)
    → low_bits (take 7 l) ≡ get_or l 0 0 % 2 + 2 * (get_or l 1 0 % 2) + 4 * (get_or l 2 0 % 2) + 8 * (get_or l 3 0 % 2) + 16 * (get_or l 4 0 % 2) + 32 * (get_or l 5 0 % 2) + 64 * (get_or l 6 0 % 2)
unfolding low_bits
seven [] = refl
seven (a ∷ []) = omega arith
seven (a ∷ b ∷ []) = omega arith
seven (a ∷ b ∷ c ∷ []) = omega arith
seven (a ∷ b ∷ c ∷ d ∷ []) = omega arith
seven (a ∷ b ∷ c ∷ d ∷ e ∷ []) = omega arith
seven (a ∷ b ∷ c ∷ d ∷ e ∷ f ∷ []) = omega arith
seven (a ∷ b ∷ c ∷ d ∷ e ∷ f ∷ g ∷ l) = omega arith

bit : (c : List ℕ) (i k : ℕ) → 7 + k < 49 → get_or (reduced (drop 7 (buffer_row i c))) k 0 ≡ cell_at c (49 * i + (7 + k))
unfolding cell_at
bit c i k h = get_or-reduced (drop 7 (buffer_row i c)) k ∙ ap (λ x. x % P) (get_or-drop 7 (buffer_row i c) k 0 ∙ row-cell c i (7 + k) h)

-- the opcode of row i from the buffer's cells
pub opcode-cells : (c : List ℕ) (i : ℕ)
    → opcode_of (buffer_row i c) ≡ cell_at c (49 * i + 7) % 2 + 2 * (cell_at c (49 * i + 8) % 2) + 4 * (cell_at c (49 * i + 9) % 2) + 8 * (cell_at c (49 * i + 10) % 2) + 16 * (cell_at c (49 * i + 11) % 2) + 32 * (cell_at c (49 * i + 12) % 2) + 64 * (cell_at c (49 * i + 13) % 2)
unfolding opcode_of
opcode-cells c i =
    ap low_bits (reduced-take 7 (drop 7 (buffer_row i c))) ∙ seven (reduced (drop 7 (buffer_row i c)))
    ∙ rw (bit c i 0 (omega arith), bit c i 1 (omega arith), bit c i 2 (omega arith), bit c i 3 (omega arith), bit c i 4 (omega arith), bit c i 5 (omega arith), bit c i 6 (omega arith))

-- rows with the same bit cells have one opcode
pub opcode-same : (a b : List ℕ) → ((k : ℕ) → k < 7 → get_or a (7 + k) 0 ≡ get_or b (7 + k) 0) → opcode_of a ≡ opcode_of b
unfolding opcode_of cell_at
opcode-same a b h =
    ap low_bits (reduced-take 7 (drop 7 a)) ∙ seven (reduced (drop 7 a))
    ∙ rw (at 0 (omega arith), at 1 (omega arith), at 2 (omega arith), at 3 (omega arith), at 4 (omega arith), at 5 (omega arith), at 6 (omega arith))
    (sym (ap low_bits (reduced-take 7 (drop 7 b)) ∙ seven (reduced (drop 7 b))))
  where
    at : (k : ℕ) → k < 7 → get_or (reduced (drop 7 a)) k 0 ≡ get_or (reduced (drop 7 b)) k 0
    at k l = get_or-reduced (drop 7 a) k ∙ ap (λ (x : ℕ). x % P) (get_or-drop 7 a k 0 ∙ h k l ∙ sym (get_or-drop 7 b k 0)) ∙ sym (get_or-reduced (drop 7 b) k)

-- the rows without the highest bit are those of a low opcode
pub low-opcode : (c : List ℕ) (i : ℕ) → eqb (cell_at c (49 * i + 13) % 2) 0 ≡ ltb (opcode_of (buffer_row i c)) 64
low-opcode c i = by_bit (ℕ_discrete (cell_at c (49 * i + 13) % 2) 0)
  where
    by_bit : Dec (cell_at c (49 * i + 13) % 2 ≡ 0) → eqb (cell_at c (49 * i + 13) % 2) 0 ≡ ltb (opcode_of (buffer_row i c)) 64
    by_bit (yes e) = eq-eqb _ _ e ∙ sym (lt-ltb (opcode_of (buffer_row i c)) 64 (omega (arith, opcode-cells c i, e)))
    by_bit (no n) = ne_eqb _ _ n ∙ sym (le-ltb (opcode_of (buffer_row i c)) 64 (omega (arith, opcode-cells c i, n)))

drop_past : (n : ℕ) (c : List ℕ) → length c ≤ n → drop n c ≡ []
drop_past zero [] h = refl
drop_past zero (x ∷ c) h = absurd (omega arith)
drop_past (suc n) [] h = refl
drop_past (suc n) (x ∷ c) h = drop_past n c (omega arith)

-- a row past the end has the opcode 0
pub opcode-past : (c : List ℕ) (i : ℕ) → length c / 49 < i → 0 ≡ opcode_of (buffer_row i c)
unfolding opcode_of buffer_row low_bits reduced
opcode-past c i h = rw (drop_past (49 * i) c (omega arith)) refl

pub flagged-yes : (p : Profile) (c : List ℕ) (i : ℕ) → cell_at c (49 * i + 18) ≡ 1 → flagged_end p (buffer_row i c) ≡ eqb (opcode_of (buffer_row i c)) p.end
unfolding flagged_end
flagged-yes p c i e = rw (eq-eqb (h4_of (buffer_row i c)) 1 (row_read c i 18 (omega arith) ∙ e)) (and-true (eqb (opcode_of (buffer_row i c)) p.end))

pub flagged-no : (p : Profile) (c : List ℕ) (i : ℕ) → (cell_at c (49 * i + 18) ≡ 1 → ⊥) → flagged_end p (buffer_row i c) ≡ false
unfolding flagged_end
flagged-no p c i n = rw (ne_eqb (h4_of (buffer_row i c)) 1 (λ e. n (sym (row_read c i 18 (omega arith)) ∙ e))) (and-false (eqb (opcode_of (buffer_row i c)) p.end))

pub alike_refl : (a : List ℕ) → Alike a a
alike_refl a = record { size = refl; cells = λ i k h. refl }

pub alike-trans : (a b c : List ℕ) → Alike a b → Alike b c → Alike a c
alike-trans a b c g h = record { size = g.size ∙ h.size; cells = λ i k l. g.cells i k l ∙ h.cells i k l }

-- another group_count changes no cell before it
pub alike_set : (a b : List ℕ) (i v : ℕ) → Alike a b → Alike (set a (49 * i + 23) v) b
alike_set a b i v g = record {
  size = length-set a (49 * i + 23) v ∙ g.size;
  cells = λ j k h. get_or-set_other a (49 * i + 23) (49 * j + k) v 0 (λ e. omega arith) ∙ g.cells j k h;
}

module _ (a b : List ℕ) (g : Alike a b) (i : ℕ) where
  read_alike : (k : ℕ) → k < 23 → cell_at a (49 * i + k) ≡ cell_at b (49 * i + k)
  unfolding cell_at
  read_alike k h = ap (λ x. x % P) (g.cells i k h)

  pub cell-alike : (k : ℕ) → k < 23 → cell_at (buffer_row i a) k ≡ cell_at (buffer_row i b) k
  cell-alike k h = row_read a i k (omega arith) ∙ read_alike k h ∙ sym (row_read b i k (omega arith))

  pub opcode-alike : opcode_of (buffer_row i a) ≡ opcode_of (buffer_row i b)
  opcode-alike =
      opcode-cells a i
      ∙ rw (read_alike 7 (omega arith), read_alike 8 (omega arith), read_alike 9 (omega arith), read_alike 10 (omega arith), read_alike 11 (omega arith), read_alike 12 (omega arith), read_alike 13 (omega arith))
      (sym (opcode-cells b i))

  pub flagged_alike : (p : Profile) → flagged_end p (buffer_row i a) ≡ flagged_end p (buffer_row i b)
  unfolding flagged_end
  flagged_alike p = rw (opcode-alike, cell-alike 18 (omega arith))
