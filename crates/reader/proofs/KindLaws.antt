-- Laws of the table of kinds and of the kinds that are kept.
use mathlib.Core.Path.{◌≡◌, ◌∙◌, refl, sym, ap}
use mathlib.Core.Bool.{Bool, true, false, ◌&&◌}
use mathlib.Core.List.{List, ◌∷◌}
use Prim.Native.Nat.{ℕ, zero, suc, ◌+◌, ◌*◌, ◌-◌, ◌/◌, ◌%◌, ◌≤◌, ◌<◌}
use native.Mathlib.Nat.{mod-eq_of_lt}
use native.Mathlib.Omega.{arith}
use native.Mathlib.Decide.{dec_lt}
use borrow.Author.Tests.{eqb-true, eqb-false, ltb-true, lt-ltb, le-ltb}
use lib.Dec.{eqb, ltb}
use lib.ListN.{length, get_or, set, replicate, length-replicate, get_or-replicate, length-set}
use lib.Seq.{get_or-set_same, get_or-set_other}
use Rattle.field.specs.Cells.{cell_at}
use Rattle.groups.specs.Answer.{pick}
use Rattle.groups.proofs.OneGroup.{both}
use Rattle.rows.specs.declared.records.profile.Profile.{Profile}
use Rattle.rows.specs.records.Buffers.{opcode_of}
use Rattle.rows.proofs.passes.RowCells.{opcode-cells}
use Rattle.theory_readings.specs.Tokens.{control_token, in_span_of, op_bits_of, all_bits, token_of}
use Rattle.theory_readings.specs.Readings.{row_at, all_rows}
use Rattle.reader.specs.Rows.{word_in, token_in, row_kind_of, op_kind}
use Rattle.reader.specs.KeptKinds.{kind_numbered, kind_of_code, unknown_kind, KindTable, TellsKind, KeptKinds}
use Rattle.reader.specs.ways.TellsKinds.{TellsByTable, KeepsNothing}
use Rattle.reader.specs.declared.token.RowKind.TheVariants.{Nothing}
use Rattle.reader.proofs.RowTokens.{token-of}
use Rattle.reader.proofs.CellTokens.{cell-of, opcode-of, bits_of, kind-control, kind-op}

-- NUMBERS

abbrev Not : ℕ → ℕ → Type 0
Not n k = n ≡ k → ⊥

-- a number that is none of the nine
pub numbered-rest : (n : ℕ) → ((((((((Unit {0} × Not n 0) × Not n 1) × Not n 2) × Not n 3) × Not n 4) × Not n 5) × Not n 6) × Not n 7) × Not n 8 → Nothing ≡ kind_numbered n
unfolding kind_numbered
numbered-rest zero r = absurd (r.0.0.0.0.0.0.0.0.1 refl)
numbered-rest (suc zero) r = absurd (r.0.0.0.0.0.0.0.1 refl)
numbered-rest (suc (suc zero)) r = absurd (r.0.0.0.0.0.0.1 refl)
numbered-rest (suc (suc (suc zero))) r = absurd (r.0.0.0.0.0.1 refl)
numbered-rest (suc (suc (suc (suc zero)))) r = absurd (r.0.0.0.0.1 refl)
numbered-rest (suc (suc (suc (suc (suc zero))))) r = absurd (r.0.0.0.1 refl)
numbered-rest (suc (suc (suc (suc (suc (suc zero)))))) r = absurd (r.0.0.1 refl)
numbered-rest (suc (suc (suc (suc (suc (suc (suc zero))))))) r = absurd (r.0.1 refl)
numbered-rest (suc (suc (suc (suc (suc (suc (suc (suc zero)))))))) r = absurd (r.1 refl)
numbered-rest (suc (suc (suc (suc (suc (suc (suc (suc (suc n))))))))) r = refl

-- THE TABLE

-- the table up to a code, each kind told
pub record TableTo (p : Profile) (table : List ℕ) (to : ℕ) : Type 0 where
  pub places : length table ≡ 256
  pub below : to ≤ 256
  pub at_code : (code : ℕ) → code < to → kind_numbered (get_or table code 0) ≡ kind_of_code p code

module _ (p : Profile) where
  pub table_none : TableTo p (replicate 256 unknown_kind) 0
  table_none = record { places = length-replicate {A = ℕ} 256 unknown_kind; below = omega arith; at_code = λ code h. absurd (omega arith) }

  pub table_more : (table : List ℕ) (to n : ℕ) → TableTo p table to → to < 256 → kind_numbered n ≡ kind_of_code p to → TableTo p (set table to n) (to + 1)
  table_more table to n t h e = record { places = length-set table to n ∙ t.places; below = omega arith; at_code = λ code k. by code (eqb code to) refl k }
    where
      by : (code : ℕ) (same : Bool) → eqb code to ≡ same → code < to + 1 → kind_numbered (get_or (set table to n) code 0) ≡ kind_of_code p code
      by code true s k =
          let is : code ≡ to = eqb-true code to s in
          rw (is, get_or-set_same table to n 0 (omega (arith, t.places))) e
      by code false s k = rw (get_or-set_other table to code n 0 (eqb-false code to s)) (t.at_code code (omega (arith, eqb-false code to s)))

  pub table-all : (table : List ℕ) (to : ℕ) → TableTo p table to → 256 ≤ to → KindTable p table
  table-all table to t h = record { places = t.places; at_code = λ code k told. t.at_code code (omega arith) }

  -- one that tells nothing
  pub table-unknown : KindTable p (replicate 256 unknown_kind)
  table-unknown = record {
    places = length-replicate {A = ℕ} 256 unknown_kind;
    at_code = λ code k told. absurd (omega (arith, told, get_or-replicate {A = ℕ} 256 code unknown_kind 0 k));
  }

-- THE LIST

-- how many numbers the lists have, as in `src/kept.rt`
abbrev pub few_rows : ℕ
few_rows = 6

abbrev pub short_list : ℕ
short_list = 4096

abbrev pub long_list : ℕ
long_list = 65536

-- one more row of which nothing is known
pub forget-more : (kinds : List ℕ) (row : ℕ) → row < length kinds → ((i : ℕ) → i < row → get_or kinds i 0 ≡ unknown_kind) → (i : ℕ) → i < row + 1 → get_or (set kinds row unknown_kind) i 0 ≡ unknown_kind
forget-more kinds row inside before i h = by (eqb i row) refl
  where
    by : (same : Bool) → eqb i row ≡ same → get_or (set kinds row unknown_kind) i 0 ≡ unknown_kind
    by true s =
        let is : i ≡ row = eqb-true i row s in
        rw is (get_or-set_same kinds row unknown_kind 0 inside)
    by false s = rw (get_or-set_other kinds row i unknown_kind 0 (eqb-false i row s)) (before i (omega (arith, eqb-false i row s)))

module _ (p : Profile) (cells table : List ℕ) where
  -- nothing is kept
  pub kinds-unknown : (kinds : List ℕ) → KindTable p table → KeepsNothing kinds → KeptKinds p cells table kinds
  kinds-unknown kinds t none = record { by_table = t; at_row = λ row h k. absurd (omega (arith, k, none row h)) }

  pub kinds-none : (n : ℕ) → KindTable p table → KeptKinds p cells table (replicate n unknown_kind)
  kinds-none n t =
      kinds-unknown (replicate n unknown_kind) t
      (λ row h. get_or-replicate {A = ℕ} n row unknown_kind 0 (omega (arith, h, length-replicate {A = ℕ} n unknown_kind)))

  -- one more
  pub kinds-more : (kinds : List ℕ) (row n : ℕ) → KeptKinds p cells table kinds → TellsKind p cells row n → KeptKinds p cells table (set kinds row n)
  kinds-more kinds row n kept told = record { by_table = kept.by_table; at_row = λ i h. by i (eqb i row) refl (omega (arith, h, length-set kinds row n)) }
    where
      by : (i : ℕ) (same : Bool) → eqb i row ≡ same → i < length kinds → TellsKind p cells i (get_or (set kinds row n) i 0)
      by i true s h =
          let is : i ≡ row = eqb-true i row s in
          rw (is, get_or-set_same kinds row n 0 (omega (arith, is, h))) told
      by i false s h = rw (get_or-set_other kinds row i n 0 (eqb-false i row s)) (kept.at_row i h)

-- THE BITS OF A ROW

-- number k of a row, as it stands
abbrev pub cell_in : (cells : List ℕ) → (row k : ℕ) → ℕ
cell_in cells row k = get_or cells (49 * row + k) 0

-- the op bits and in_span are bits
abbrev pub RowBits : (cells : List ℕ) → (row : ℕ) → Type 0
RowBits cells row =
    (cell_in cells row 7 < 2) × (cell_in cells row 8 < 2) × (cell_in cells row 9 < 2) × (cell_in cells row 10 < 2) × (cell_in cells row 11 < 2)
    × (cell_in cells row 12 < 2) × (cell_in cells row 13 < 2) × (cell_in cells row 22 < 2)

pub row-bits : (cells : List ℕ) (row : ℕ)
    → (ltb (cell_in cells row 7) 2 && (ltb (cell_in cells row 8) 2 && (ltb (cell_in cells row 9) 2 && (ltb (cell_in cells row 10) 2 && (ltb (cell_in cells row 11) 2 && (ltb (cell_in cells row 12) 2 && (ltb (cell_in cells row 13) 2 && ltb (cell_in cells row 22) 2))))))) ≡ true
    → RowBits cells row
row-bits cells row t =
    let (ta, t1) = both (ltb (cell_in cells row 7) 2) _ t in
    let (tb, t2) = both (ltb (cell_in cells row 8) 2) _ t1 in
    let (tc, t3) = both (ltb (cell_in cells row 9) 2) _ t2 in
    let (td, t4) = both (ltb (cell_in cells row 10) 2) _ t3 in
    let (te, t5) = both (ltb (cell_in cells row 11) 2) _ t4 in
    let (tf, t6) = both (ltb (cell_in cells row 12) 2) _ t5 in
    let (tg, th) = both (ltb (cell_in cells row 13) 2) _ t6 in
    (below 7 ta, below 8 tb, below 9 tc, below 10 td, below 11 te, below 12 tf, below 13 tg, below 22 th)
  where
    below : (k : ℕ) → ltb (cell_in cells row k) 2 ≡ true → cell_in cells row k < 2
    below k h = ltb-true (cell_in cells row k) 2 h

module _ (cells : List ℕ) (row : ℕ) (inside : row < length cells / 49) where
  abbrev cell : ℕ → ℕ
  cell k = cell_in cells row k

  abbrev opcode_there : ℕ
  opcode_there = cell 7 + 2 * cell 8 + 4 * cell 9 + 8 * cell 10 + 16 * cell 11 + 32 * cell 12 + 64 * cell 13

  -- a bit is read as it stands
  as-it-stands : (k : ℕ) → cell k < 2 → cell_at cells (49 * row + k) ≡ cell k
  unfolding cell_at
  as-it-stands k h = mod-eq_of_lt (omega arith)

  lowest : (k : ℕ) → cell k < 2 → cell_at cells (49 * row + k) % 2 ≡ cell k
  lowest k h = ap (λ (x : ℕ). x % 2) (as-it-stands k h) ∙ mod-eq_of_lt h

  a-bit : (k : ℕ) → cell k < 2 → ltb (cell_at cells (49 * row + k)) 2 ≡ true
  a-bit k h = rw (as-it-stands k h) (lt-ltb (cell k) 2 h)

  module _ (bits : RowBits cells row) where
    opcode_is : opcode_of (row_at (all_rows cells) row) ≡ opcode_there
    opcode_is =
        opcode-of cells row inside ∙ opcode-cells cells row
        ∙ rw (lowest 7 bits.0, lowest 8 bits.1, lowest 9 bits.2, lowest 10 bits.3, lowest 11 bits.4, lowest 12 bits.5, lowest 13 bits.6)

    all-bits : all_bits (in_span_of (row_at (all_rows cells) row) ∷ op_bits_of (row_at (all_rows cells) row)) ≡ true
    all-bits =
        bits_of cells row inside
        ∙ rw (a-bit 22 bits.7, a-bit 7 bits.0, a-bit 8 bits.1, a-bit 9 bits.2, a-bit 10 bits.3, a-bit 11 bits.4, a-bit 12 bits.5, a-bit 13 bits.6)

    in-span-is : in_span_of (row_at (all_rows cells) row) ≡ cell 22
    in-span-is = cell-of cells row 22 inside (omega arith) ∙ as-it-stands 22 bits.7

    -- the kind of the row, by what its bits spell
    pub kind-by-code : (p : Profile) → kind_of_code p (opcode_there + 128 * cell 22) ≡ row_kind_of (token_in (word_in p cells) row)
    unfolding kind_of_code
    kind-by-code p = rw (token-of p cells row inside) (at (dec_lt (cell 22) 1))
      where
        at : Dec (cell 22 < 1) → pick (ltb (opcode_there + 128 * cell 22) 128) (row_kind_of (control_token p (opcode_there + 128 * cell 22))) (op_kind (row_kind_of (control_token p (opcode_there + 128 * cell 22 - 128)))) ≡ row_kind_of (token_of p (row_at (all_rows cells) row))
        at (yes z) =
            let e : opcode_there + 128 * cell 22 ≡ opcode_there = omega arith in
            rw (lt-ltb (opcode_there + 128 * cell 22) 128 (omega (arith, bits)))
            (ap (λ (x : ℕ). row_kind_of (control_token p x)) (e ∙ sym opcode_is) ∙ kind-control p _ all-bits (in-span-is ∙ omega arith))
        at (no n) =
            let e : opcode_there + 128 * cell 22 - 128 ≡ opcode_there = omega (arith, n, bits.7) in
            rw (le-ltb (opcode_there + 128 * cell 22) 128 (omega (arith, n)))
            (ap (λ (x : ℕ). op_kind (row_kind_of (control_token p x))) (e ∙ sym opcode_is) ∙ kind-op p _ all-bits (λ z. n (omega (arith, z, in-span-is))))

    -- and by the table
    pub told-by-table : (table : List ℕ) → TellsByTable table cells row (get_or table (opcode_there + 128 * cell 22) 0)
    told-by-table table p t h =
        t.at_code (opcode_there + 128 * cell 22) (omega (arith, bits)) h
        ∙ kind-by-code p

-- nothing is told
pub told_none : (table cells : List ℕ) (row : ℕ) → TellsByTable table cells row unknown_kind
told_none table cells row p t h = absurd (omega arith)
