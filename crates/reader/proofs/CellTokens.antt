-- The token of a row from the buffer's cells.
use mathlib.Core.Path.{◌≡◌, ◌∙◌, refl, ap}
use mathlib.Core.Bool.{Bool, true, false, not, ◌&&◌, ◌||◌, and-true}
use mathlib.Core.List.{List, [], ◌∷◌, map}
use types.Run.{OneOf}
use Prim.Native.Nat.{ℕ, ◌+◌, ◌*◌, ◌/◌, ◌%◌, ◌<◌}
use native.Mathlib.Omega.{arith}
use borrow.Author.Tests.{eq-eqb, ne_eqb}
use lib.Dec.{eqb, ltb}
use lib.ListN.{length, get_or, take, drop}
use Rattle.field.specs.Modulus.{P}
use Rattle.field.specs.Cells.{cell_at, reduced}
use Rattle.field.proofs.CellLaws.{cell-drop}
use Rattle.groups.specs.Answer.{pick}
use Rattle.rows.specs.declared.records.profile.Profile.{Profile}
use Rattle.rows.specs.records.Profiles.{is_one_of}
use Rattle.rows.specs.records.Buffers.{buffer_row as row_in, opcode_of}
use Rattle.rows.proofs.passes.RowCells.{row-cell, opcode-cells}
use Rattle.theory_readings.specs.Tokens.{Kind, Token, start, repeat, end, halt, nothing, controls, token_beside, control_token, control_opcodes, is_op_opcode, op_token, in_span_of, op_bits_of, all_bits, token_of}
use Rattle.theory_readings.specs.Readings.{row_at, all_rows}
use Rattle.reader.specs.Rows.{row_kind_of, op_kind}
use Rattle.reader.specs.declared.token.RowKind.{RowKind}
use Rattle.reader.specs.declared.token.RowKind.TheVariants.{Span, Join, One, Loop, Op, Respan, Repeat, End, Halt, Nothing}
use Rattle.reader.proofs.RowTokens.{row-of, Something, tag, among}

-- CELLS

-- cell k of row i
pub cell-of : (cells : List ℕ) (i k : ℕ) → i < length cells / 49 → k < 49 → cell_at (row_at (all_rows cells) i) k ≡ cell_at cells (49 * i + k)
unfolding cell_at
cell-of cells i k h l = ap (λ (row : List ℕ). get_or row k 0 % P) (row-of cells i h) ∙ ap (λ (x : ℕ). x % P) (row-cell cells i k l)

-- its opcode, of 7 bits
pub opcode-of : (cells : List ℕ) (i : ℕ) → i < length cells / 49 → opcode_of (row_at (all_rows cells) i) ≡ opcode_of (row_in i cells)
opcode-of cells i h = ap opcode_of (row-of cells i h)

pub opcode-below : (cells : List ℕ) (i : ℕ) → opcode_of (row_in i cells) < 128
opcode-below cells i = omega (arith, opcode-cells cells i)

abbrev bit : ℕ → Bool
bit x = ltb x 2

seven-bits : (l : List ℕ)
    → all_bits (reduced (take 7 l)) ≡ (bit (cell_at l 0) && (bit (cell_at l 1) && (bit (cell_at l 2) && (bit (cell_at l 3) && (bit (cell_at l 4) && (bit (cell_at l 5) && bit (cell_at l 6)))))))
unfolding all_bits reduced cell_at
seven-bits [] = refl
seven-bits (a ∷ []) = refl
seven-bits (a ∷ b ∷ []) = refl
seven-bits (a ∷ b ∷ c ∷ []) = refl
seven-bits (a ∷ b ∷ c ∷ d ∷ []) = refl
seven-bits (a ∷ b ∷ c ∷ d ∷ e ∷ []) = refl
seven-bits (a ∷ b ∷ c ∷ d ∷ e ∷ f ∷ []) = refl
seven-bits (a ∷ b ∷ c ∷ d ∷ e ∷ f ∷ g ∷ l) = rw (and-true (bit (g % P)))

pub bits_of : (cells : List ℕ) (i : ℕ) → i < length cells / 49
    → all_bits (in_span_of (row_at (all_rows cells) i) ∷ op_bits_of (row_at (all_rows cells) i))
    ≡ (bit (cell_at cells (49 * i + 22)) && (bit (cell_at cells (49 * i + 7)) && (bit (cell_at cells (49 * i + 8)) && (bit (cell_at cells (49 * i + 9)) && (bit (cell_at cells (49 * i + 10)) && (bit (cell_at cells (49 * i + 11)) && (bit (cell_at cells (49 * i + 12)) && bit (cell_at cells (49 * i + 13)))))))))
unfolding all_bits
bits_of cells i h =
    let row : List ℕ = row_at (all_rows cells) i in
    let at : (k : ℕ) → 7 + k < 49 → cell_at (drop 7 row) k ≡ cell_at cells (49 * i + (7 + k)) = λ k l. cell-drop 7 row k ∙ cell-of cells i (7 + k) h l in
    rw (seven-bits (drop 7 row), cell-of cells i 22 h (omega arith), at 0 (omega arith), at 1 (omega arith), at 2 (omega arith), at 3 (omega arith), at 4 (omega arith), at 5 (omega arith), at 6 (omega arith))

-- KINDS

-- an op has none of the control rows' opcodes
abbrev AllSomething : List (ℕ × Token) → Type 0
AllSomething [] = Unit {0}
AllSomething (x ∷ l) = Something (row_kind_of x.1) × AllSomething l

no-op : (t : Token) → Something (row_kind_of t) → op_kind (row_kind_of t) ≡ Nothing
unfolding row_kind_of op_kind
no-op (start Kind.span) h = refl
no-op (start Kind.join) h = refl
no-op (start Kind.loop) h = refl
no-op (start (Kind.one k)) h = refl
no-op (Token.op c) h = refl
no-op Token.respan h = refl
no-op repeat h = refl
no-op end h = refl
no-op halt h = refl
no-op nothing h = absurd h

op-next : (opcode : ℕ) (t u : Token) (a b : Bool) → Something (row_kind_of t) → op_kind (row_kind_of u) ≡ row_kind_of (pick (not b) (Token.op opcode) nothing) →
    op_kind (row_kind_of (pick a t u)) ≡ row_kind_of (pick (not (a || b)) (Token.op opcode) nothing)
unfolding row_kind_of
op-next opcode t u true b h e = no-op t h
op-next opcode t u false b h e = e

op-beside : (opcode : ℕ) (l : List (ℕ × Token)) → AllSomething l → op_kind (row_kind_of (token_beside opcode l nothing)) ≡ row_kind_of (pick (not (is_one_of opcode (map (λ (x : ℕ × Token). x.0) l))) (Token.op opcode) nothing)
unfolding token_beside is_one_of op_kind row_kind_of
op-beside opcode [] h = refl
op-beside opcode (x ∷ l) h = op-next opcode x.1 (token_beside opcode l nothing) (eqb opcode x.0) (is_one_of opcode (map (λ (y : ℕ × Token). y.0) l)) h.0 (op-beside opcode l h.1)

all-controls : (p : Profile) → AllSomething (controls p)
unfolding controls row_kind_of
all-controls p = (tt, (tt, (tt, (tt, (tt, (tt, (tt, (tt, (tt, (tt, (tt, (tt, tt))))))))))))

op-of-control : (p : Profile) (opcode : ℕ) → op_kind (row_kind_of (control_token p opcode)) ≡ row_kind_of (op_token p opcode)
unfolding control_token op_token is_op_opcode control_opcodes
op-of-control p opcode = op-beside opcode (controls p) (all-controls p)

module _ (p : Profile) (row : List ℕ) where
  pub kind-control : all_bits (in_span_of row ∷ op_bits_of row) ≡ true → in_span_of row ≡ 0 → row_kind_of (control_token p (opcode_of row)) ≡ row_kind_of (token_of p row)
  unfolding token_of
  kind-control h e = rw (h, eq-eqb (in_span_of row) 0 e)

  pub kind-op : all_bits (in_span_of row ∷ op_bits_of row) ≡ true → (in_span_of row ≡ 0 → ⊥) → op_kind (row_kind_of (control_token p (opcode_of row))) ≡ row_kind_of (token_of p row)
  unfolding token_of
  kind-op h e = rw (h, ne_eqb (in_span_of row) 0 e) (op-of-control p (opcode_of row))

  pub kind-none : all_bits (in_span_of row ∷ op_bits_of row) ≡ false → Nothing ≡ row_kind_of (token_of p row)
  unfolding token_of row_kind_of
  kind-none h = rw h

pub op-no : (k : RowKind) → OneOf (0 ∷ 1 ∷ 2 ∷ 3 ∷ 4 ∷ 5 ∷ 6 ∷ 7 ∷ 8 ∷ []) (tag k) → Nothing ≡ op_kind k
unfolding op_kind
op-no Span h = refl
op-no Join h = refl
op-no One h = refl
op-no Loop h = refl
op-no Op h = refl
op-no Respan h = refl
op-no Repeat h = refl
op-no End h = refl
op-no Halt h = refl
op-no Nothing h = absurd (among 0 (1 ∷ 2 ∷ 3 ∷ 4 ∷ 5 ∷ 6 ∷ 7 ∷ 8 ∷ []) 9 h)
