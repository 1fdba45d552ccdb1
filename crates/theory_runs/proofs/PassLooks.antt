-- What the rows show after each finishing pass: the second counts, the fourth and fifth add HALT rows, the others change nothing.
use mathlib.Core.Path.{◌≡◌, ◌∙◌, refl, sym, ap, ap₂, fun_ext}
use mathlib.Core.Bool.{Bool, true, false, ◌&&◌}
use mathlib.Core.List.{List, [], ◌∷◌, ◌++◌, map, append_assoc}
use Prim.Native.Nat.{ℕ, zero, suc, pred, ◌+◌, ◌%◌, ◌<◌}
use native.Mathlib.Nat.{zero-add, suc-add}
use native.Mathlib.Omega.{arith}
use borrow.Author.Tests.{eqb-true}
use lib.Dec.{eqb}
use lib.ListN.{length, take, drop, get_or, set, length-append, length-take, length-drop, length-set}
use lib.Seq.{take_at, drop_at, take-take, drop-drop, take-set-le, take-set-lt, drop-set-add, get_or-set_same, get_or-set_other, take-nil, drop-nil}
use Rattle.field.specs.Modulus.{P}
use Rattle.field.specs.Cells.{cell_at, reduced}
use Rattle.field.specs.Inverse.{inverse_of}
use Rattle.field.proofs.CellLaws.{read_small, length-reduced, reduced-take, reduced-drop, cell-take, cell-drop}
use Rattle.groups.specs.Answer.{pick}
use Rattle.rows.specs.declared.records.profile.Profile.{Profile}
use Rattle.rows.specs.records.Profiles.{opcodes, profile_wrong}
use Rattle.rows.specs.records.DecoderRows.{zero_word, control_flow, decoder_cells}
use Rattle.rows.specs.records.Built.{reversed16, no_system, no_stack, system_cells, stack_cells}
use Rattle.rows.specs.records.Cells.{row_cells}
use Rattle.rows.specs.records.Buffers.{addr_of, h4_of, low_bits, opcode_of}
use Rattle.rows.specs.passes.Passes.{with_sides, first_row, later_rows, fixed_up, flagged_end, body_ends, with_counts, multiplied, inverted, first_half, halt_decoder, halt_stack, halt_row, padding_row, padding_rows}
use Rattle.rows.proofs.passes.RowLists.{Wide}
use Rattle.rows.proofs.passes.FirstRows.{Cells25, decoder-length, six-cells}
use Rattle.theory_readings.specs.Tokens.{Token, control_token, op_token, count_of, all_bits, token_of}
use Rattle.theory_reductions.proofs.CellsBelow.{ends-most}
use Rattle.theory_runs.specs.Written.{decoders_of}
use Rattle.theory_runs.proofs.Opcodes.{apart-at}
use Rattle.theory_runs.proofs.Looks.{Mark, none, flag, count, Seen, seen, mark_of, look, looks, halt-look}
use Rattle.theory_runs.proofs.Tallied.{heads, if_flag, hits, behind, recount, counted}

-- the 24 decoder cells of a row
abbrev pub decoder_of : List ℕ → List ℕ
decoder_of row = take 24 (drop 6 row)

-- a row shows what its decoder cells say
unfoldable look_by : Profile → List ℕ → Seen
look_by p cells =
    seen
    (pick (all_bits (cell_at cells 16 ∷ reduced (take 7 (drop 1 cells)))) (pick (eqb (cell_at cells 16) 0) (control_token p (low_bits (reduced (take 7 (drop 1 cells))))) (op_token p (low_bits (reduced (take 7 (drop 1 cells)))))) Token.nothing)
    (cell_at cells 0)
    (pick (eqb (low_bits (reduced (take 7 (drop 1 cells)))) p.end) (flag (cell_at cells 12)) (pick (eqb (low_bits (reduced (take 7 (drop 1 cells)))) p.loop_op) (count (cell_at cells 17)) none))

drop-take : (i n : ℕ) (l : List ℕ) → drop i (take (i + n) l) ≡ take n (drop i l)
drop-take zero n l = ap (λ k. take k l) (zero-add n)
drop-take (suc i) n [] = rw (take-nil, drop-nil, take-nil)
drop-take (suc i) n (x ∷ l) = rw suc-add (drop-take i n l)

pub cell-by : (row : List ℕ) (k : ℕ) → k < 24 → cell_at row (6 + k) ≡ cell_at (decoder_of row) k
cell-by row k h = sym (cell-take 24 (drop 6 row) k h ∙ cell-drop 6 row k)

pub bits-by : (row : List ℕ) → take 7 (drop 7 row) ≡ take 7 (drop 1 (decoder_of row))
bits-by row = sym (ap (take 7) (drop-take 1 23 (drop 6 row)) ∙ take-take 7 23 (drop 1 (drop 6 row)) (omega arith) ∙ ap (take 7) (drop-drop 1 6 row))

look-by : (p : Profile) (row : List ℕ) → look p row ≡ look_by p (decoder_of row)
unfolding look look_by token_of mark_of opcode_of
look-by p row =
    rw (bits-by row, cell-by row 0 (omega arith), cell-by row 12 (omega arith), cell-by row 16 (omega arith), cell-by row 17 (omega arith))

pub same-look : (p : Profile) (a b : List ℕ) → decoder_of a ≡ decoder_of b → look p a ≡ look p b
same-look p a b e = look-by p a ∙ ap (look_by p) e ∙ sym (look-by p b)

looks-by : (p : Profile) (rows : List (List ℕ)) → looks p rows ≡ map (look_by p) (decoders_of rows)
unfolding looks decoders_of
looks-by p [] = refl
looks-by p (row ∷ rows) = ap₂ (λ x l. x ∷ l) (look-by p row) (looks-by p rows)

pub same-looks : (p : Profile) (a b : List (List ℕ)) → decoders_of a ≡ decoders_of b → looks p a ≡ looks p b
same-looks p a b e = looks-by p a ∙ ap (map (look_by p)) e ∙ sym (looks-by p b)

-- the cells of a row's sides are not shown
pub sides-decoder : (system decoder stack : List ℕ) → length system ≡ 6 → length decoder ≡ 24 → decoder_of (system ++ decoder ++ stack) ≡ decoder
sides-decoder system decoder stack e f =
    ap (λ y. take 24 (drop 6 y)) (append_assoc system decoder stack) ∙ ap (take 24) (drop_at system (decoder ++ stack) 6 e) ∙ take_at decoder stack 24 f

with-decoder : (system stack row : List ℕ) → length system ≡ 6 → length row ≡ 49 → decoder_of (with_sides system stack row) ≡ decoder_of row
unfolding with_sides
with-decoder system stack row e f = sides-decoder system (decoder_of row) stack e (decoder-length row f)

-- PASS 1

later-looks : (p : Profile) (rows lasts : List (List ℕ)) (size left : ℕ) → Cells25 lasts → Wide rows → looks p (later_rows size left lasts rows) ≡ looks p rows
unfolding looks later_rows Wide Cells25
later-looks p [] lasts size left c w = refl
later-looks p (row ∷ rows) lasts size (suc left) c w = ap (λ y. look p row ∷ y) (later-looks p rows lasts size left c w.1)
later-looks p (row ∷ rows) [] size zero c w = ap (λ y. look p row ∷ y) (later-looks p rows [] size zero tt w.1)
later-looks p (row ∷ rows) (last ∷ lasts) size zero c w =
    ap₂ (λ x y. x ∷ y) (same-look p (with_sides (take 6 last) (drop 6 last) row) row (with-decoder (take 6 last) (drop 6 last) row (length-take 6 last ∙ omega (arith, c.0)) w.0))
    (later-looks p rows lasts size (pred size) c.1 w.1)

pub fixed-looks : (p : Profile) (rows lasts : List (List ℕ)) (size : ℕ) (top : List ℕ) → Cells25 lasts → Wide rows → looks p (fixed_up size top lasts rows) ≡ looks p rows
unfolding looks fixed_up first_row Wide
fixed-looks p [] lasts size top c w = refl
fixed-looks p (row ∷ rows) lasts size top c w =
    ap₂ (λ x y. x ∷ y) (same-look p (with_sides (take 6 row) (reduced (reversed16 top ++ (16 ∷ 0 ∷ 0 ∷ []))) row) row (with-decoder (take 6 row) (reduced (reversed16 top ++ (16 ∷ 0 ∷ 0 ∷ []))) row (six-cells row 49 w.0 (omega arith)) w.0))
    (later-looks p rows lasts size (pred size) c w.1)

-- PASS 2

-- an END's flag counts, and nothing else does
mark-hit : (e l h t : Bool) (x c : ℕ) → eqb x 1 ≡ h → pick ((e && h) && t) 1 0 ≡ if_flag (pick e (flag x) (pick l (count c) none)) (pick t 1 0)
unfolding if_flag
mark-hit true l true true x c i = rw i
mark-hit true l true false x c i = rw i
mark-hit true l false t x c i = rw i
mark-hit false true h t x c i = refl
mark-hit false false h t x c i = refl

-- nothing is behind a last row
mark-last : (e l h : Bool) (x c : ℕ) → eqb x 1 ≡ h → if_flag (pick e (flag x) (pick l (count c) none)) 0 + 0 ≡ 0
unfolding if_flag
mark-last true l true x c i = rw i
mark-last true l false x c i = rw i
mark-last false true h x c i = refl
mark-last false false h x c i = refl

pub ends-hits : (p : Profile) (x : ℕ) (rows : List (List ℕ)) → body_ends p x rows ≡ hits x (looks p rows)
unfolding body_ends hits heads looks look mark_of flagged_end
ends-hits p x [] = refl
ends-hits p x (row ∷ []) =
    sym (mark-last (eqb (opcode_of row) p.end) (eqb (opcode_of row) p.loop_op) (eqb (h4_of row) 1) (h4_of row) (count_of row) refl)
ends-hits p x (row ∷ next ∷ rows) =
    ap₂ (λ a b. a + b) (mark-hit (eqb (opcode_of row) p.end) (eqb (opcode_of row) p.loop_op) (eqb (h4_of row) 1) (eqb (addr_of next) x) (h4_of row) (count_of row) refl) (ends-hits p x (next ∷ rows))

-- a row with another count
pub count-decoder : (row : List ℕ) (v : ℕ) → decoder_of (set row 23 v) ≡ set (decoder_of row) 17 v
count-decoder row v = ap (take 24) (drop-set-add 6 row 17 v) ∙ take-set-lt 24 (drop 6 row) 17 v (omega arith)

pub count_bits : (cells : List ℕ) (v : ℕ) → take 7 (drop 1 (set cells 17 v)) ≡ take 7 (drop 1 cells)
count_bits cells v = ap (take 7) (drop-set-add 1 cells 16 v) ∙ take-set-le 7 (drop 1 cells) 16 v (omega arith)

pub cell_other : (cells : List ℕ) (i k v : ℕ) → ¬ (k ≡ i) → cell_at (set cells i v) k ≡ cell_at cells k
unfolding cell_at
cell_other cells i k v n = ap (λ (x : ℕ). x % P) (get_or-set_other cells i k v 0 n)

pub cell_set : (cells : List ℕ) (i v : ℕ) → i < length cells → v < P → cell_at (set cells i v) i ≡ v
unfolding cell_at
cell_set cells i v h l = ap (λ (x : ℕ). x % P) (get_or-set_same cells i v 0 h) ∙ read_small v l

count-look : (p : Profile) (row : List ℕ) (v : ℕ) → length row ≡ 49 → v < P → eqb (opcode_of row) p.end ≡ false → eqb (opcode_of row) p.loop_op ≡ true → look p (set row 23 v) ≡ seen (token_of p row) (addr_of row) (count v)
unfolding look_by token_of opcode_of
count-look p row v w l e f =
    let d : List ℕ = decoder_of row in
    look-by p (set row 23 v) ∙ ap (look_by p) (count-decoder row v)
    ∙ rw (count_bits d v, cell_other d 17 0 v (λ z. omega arith), cell_other d 17 12 v (λ z. omega arith), cell_other d 17 16 v (λ z. omega arith), cell_set d 17 v (omega (arith, decoder-length row w)) l, ← (bits-by row), ← (cell-by row 0 (omega arith)), ← (cell-by row 16 (omega arith)), e, f)

last-count : (m : ℕ → ℕ) (mark : Mark) → recount m mark [] ≡ mark
unfolding recount behind
last-count m none = refl
last-count m (flag h) = refl
last-count m (count c) = refl

module _ (p : Profile) (right : profile_wrong p ≡ false) (m : ℕ → ℕ) (low : (x : ℕ) → m x < P) where
  loop-no-end : (o : ℕ) → o ≡ p.loop_op → eqb o p.end ≡ false
  unfolding opcodes
  loop-no-end o e = rw e (apart-at p right 4 11 (omega arith) (omega arith) (λ z. omega arith))

  row_count : (row next : List ℕ) (l : List Seen) (e f : Bool) → length row ≡ 49 → eqb (opcode_of row) p.end ≡ e → eqb (opcode_of row) p.loop_op ≡ f →
      look p (pick f (set row 23 (m (addr_of next))) row) ≡ seen (token_of p row) (addr_of row) (recount m (pick e (flag (h4_of row)) (pick f (count (count_of row)) none)) (look p next ∷ l))
  unfolding look mark_of recount behind
  row_count row next l true true w i j = let z : true ≡ false = sym i ∙ loop-no-end (opcode_of row) (eqb-true (opcode_of row) p.loop_op j) in let z' : ◌≡◌ {A = ℕ} 0 1 = cc in absurd (omega arith)
  row_count row next l false true w i j = count-look p row (m (addr_of next)) w (low (addr_of next)) i j
  row_count row next l true false w i j = rw i
  row_count row next l false false w i j = rw (i, j)

  pub counts-looks : (rows : List (List ℕ)) → Wide rows → looks p (with_counts p m rows) ≡ counted m (looks p rows)
  unfolding looks with_counts counted look mark_of Wide
  counts-looks [] w = refl
  counts-looks (row ∷ []) w = ap (λ k. seen (token_of p row) (addr_of row) k ∷ []) (sym (last-count m (mark_of p row)))
  counts-looks (row ∷ next ∷ rows) w =
      ap₂ (λ x y. x ∷ y) (row_count row next (looks p rows) (eqb (opcode_of row) p.end) (eqb (opcode_of row) p.loop_op) w.0 refl refl) (counts-looks (next ∷ rows) w.1)

pub multiplied-looks : (p : Profile) → profile_wrong p ≡ false → (rows : List (List ℕ)) → length rows < P → Wide rows → looks p (multiplied p rows) ≡ counted (λ x. hits x (looks p rows)) (looks p rows)
unfolding multiplied
multiplied-looks p right rows few w = counts-looks p right (λ x. body_ends p x rows) (λ x. omega (arith, ends-most p x rows)) rows w ∙ ap (λ m. counted m (looks p rows)) (fun_ext (λ x. ends-hits p x rows))

-- PASS 3

pub helper-decoder : (row : List ℕ) (v : ℕ) → decoder_of (set row 48 v) ≡ decoder_of row
helper-decoder row v = ap (take 24) (drop-set-add 6 row 42 v) ∙ take-set-le 24 (drop 6 row) 42 v (omega arith)

pub inverted-looks : (p : Profile) (rows : List (List ℕ)) → looks p (inverted rows) ≡ looks p rows
unfolding looks inverted
inverted-looks p [] = refl
inverted-looks p (row ∷ rows) =
    ap₂ (λ x y. x ∷ y) (same-look p (set row 48 (inverse_of (get_or row 48 0))) row (helper-decoder row (inverse_of (get_or row 48 0)))) (inverted-looks p rows)

pub inverted-wide : (rows : List (List ℕ)) → Wide rows → Wide (inverted rows)
unfolding inverted Wide
inverted-wide [] w = tt
inverted-wide (row ∷ rows) w = (length-set row 48 (inverse_of (get_or row 48 0)) ∙ w.0, inverted-wide rows w.1)

pub inverted-length : (rows : List (List ℕ)) → length (inverted rows) ≡ length rows
unfolding inverted
inverted-length [] = refl
inverted-length (row ∷ rows) = ap suc (inverted-length rows)

-- PASSES 4 AND 5

-- a row of 49 cells that shows HALT
pub record Halting (p : Profile) (row : List ℕ) : Type 0 where
  pub wide : length row ≡ 49
  pub shows_halt : look p row ≡ seen Token.halt 0 none

unfoldable pub AllHalting : Profile → List (List ℕ) → Type 0
AllHalting p [] = Unit {0}
AllHalting p (row ∷ rows) = Halting p row × AllHalting p rows

halt-decoder-length : (p : Profile) (before : List ℕ) → length (halt_decoder p before) ≡ 24
unfolding halt_decoder decoder_cells
halt-decoder-length p before = refl

reduced-decoder : (row : List ℕ) → decoder_of (reduced row) ≡ reduced (decoder_of row)
reduced-decoder row = sym (reduced-take 24 (drop 6 row) ∙ ap (take 24) (reduced-drop 6 row))

halting-row : (p : Profile) → profile_wrong p ≡ false → (system before stack : List ℕ) → length system ≡ 6 → length stack ≡ 19 → Halting p (reduced (system ++ halt_decoder p before ++ stack))
unfolding halt_decoder control_flow row_cells system_cells decoder_cells no_system
halting-row p right system before stack e f = record {
  wide = length-reduced (system ++ halt_decoder p before ++ stack) ∙ rw (length-append, length-append) (omega (arith, halt-decoder-length p before));
  shows_halt =
      same-look p (reduced (system ++ halt_decoder p before ++ stack)) (row_cells no_system (control_flow p.halt (first_half before) zero_word 0) no_stack)
      (reduced-decoder (system ++ halt_decoder p before ++ stack) ∙ ap reduced (sides-decoder system (halt_decoder p before) stack e refl) ∙ unfold reduced stack_cells in refl)
      ∙ halt-look p no_system (control_flow p.halt (first_half before) zero_word 0) no_stack right (record { addr_is = refl; opcode_is = refl; inside_is = refl });
}

pub halting-halt : (p : Profile) → profile_wrong p ≡ false → (built before : List ℕ) → length built ≡ 25 → Halting p (halt_row p built before)
unfolding halt_row halt_stack
halting-halt p right built before e =
    halting-row p right (take 6 built) before (halt_stack built) (length-take 6 built ∙ omega arith) (simp (length-append, length-take, length-drop) (omega arith))

halting-padding : (p : Profile) → profile_wrong p ≡ false → (number : ℕ) (before : List ℕ) → length before ≡ 49 → Halting p (padding_row p number before)
unfolding padding_row
halting-padding p right number before e =
    halting-row p right (number ∷ 0 ∷ 0 ∷ 0 ∷ 0 ∷ 0 ∷ []) before (take 19 (drop 30 before)) refl (simp (length-take, length-drop) (omega arith))

pub halting-paddings : (p : Profile) → profile_wrong p ≡ false → (n number : ℕ) (before : List ℕ) → length before ≡ 49 → AllHalting p (padding_rows p n number before)
unfolding AllHalting padding_rows
halting-paddings p right zero number before e = tt
halting-paddings p right (suc n) number before e = (halting-padding p right number before e, halting-paddings p right n (suc number) before e)

pub halting-wide : (p : Profile) (rows : List (List ℕ)) → AllHalting p rows → Wide rows
unfolding AllHalting Wide
halting-wide p [] h = tt
halting-wide p (row ∷ rows) h = (h.0.wide, halting-wide p rows h.1)

pub length-paddings : (p : Profile) (n number : ℕ) (before : List ℕ) → length (padding_rows p n number before) ≡ n
unfolding padding_rows
length-paddings p zero number before = refl
length-paddings p (suc n) number before = ap suc (length-paddings p n (suc number) before)
