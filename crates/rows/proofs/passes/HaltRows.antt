-- Laws of the HALT rows: what the row before gives them, the one behind the program, and the padding row by row.
use mathlib.Core.Path.{◌≡◌, ◌∙◌, refl, sym, ap, ap₂}
use mathlib.Core.List.{List, [], ◌∷◌, ◌++◌, append_assoc, append-nil}
use Prim.Native.Nat.{ℕ, zero, suc, ◌+◌, ◌-◌, ◌*◌, ◌≤◌, ◌<◌}
use native.Mathlib.Omega.{arith}
use lib.ListN.{length, take, drop, length-append, length-take, length-drop}
use lib.Seq.{take-take, drop-drop}
use Rattle.field.specs.Cells.{cell_at}
use Rattle.field.specs.Inverse.{inverse_of}
use Rattle.field.proofs.CellLaws.{length-reduced, cell-drop, cell-take}
use Rattle.field.proofs.InverseLaws.{inverse-reduced}
use Rattle.rows.specs.declared.records.profile.Profile.{Profile}
use Rattle.rows.specs.declared.records.decoder_row.DecoderRow.{DecoderRow}
use Rattle.rows.specs.declared.records.state.SystemCols.{SystemCols}
use Rattle.rows.specs.declared.records.state.StackCols.{StackCols}
use Rattle.rows.specs.records.DecoderRows.{zero_word, decoder_cells, control_flow}
use Rattle.rows.specs.records.Built.{system_cells, stack_cells}
use Rattle.rows.specs.records.Cells.{row_cells, put_row}
use Rattle.rows.specs.records.Buffers.{rows_of, flat, on_rows, last_row}
use Rattle.rows.specs.passes.Passes.{word_from, first_half, halt_decoder, halt_stack, halt_row, halted, padding_row, padding_rows, padded}
use Rattle.rows.proofs.records.Windows.{window}
use Rattle.rows.proofs.passes.RowLists.{Wide, wide-app, length-rows, wide_rows, as_rows, last-rows, last-cell, length_last, put-behind}

-- h0 to h3 of the last row stand 35 cells before its end
pub last_half : (n : ℕ) (b : List ℕ) → 0 < n → first_half (last_row (rows_of n b)) ≡ word_from b (49 * n - 35)
last_half zero b h = absurd (omega arith)
last_half (suc n) b h =
    let a : 49 * suc n - 35 ≡ 49 * n + 14 = omega arith in
    let a1 : 49 * n + 14 + 1 ≡ 49 * n + 15 = omega arith in
    let a2 : 49 * n + 14 + 2 ≡ 49 * n + 16 = omega arith in
    let a3 : 49 * n + 14 + 3 ≡ 49 * n + 17 = omega arith in
    rw (a, a1, a2, a3, last-cell n b 14 (omega arith), last-cell n b 15 (omega arith), last-cell n b 16 (omega arith), last-cell n b 17 (omega arith))

-- its stack cells are its last 19
pub last-stack : (n : ℕ) (b : List ℕ) → 0 < n → take 19 (drop 30 (last_row (rows_of n b))) ≡ take 19 (drop (49 * n - 19) b)
last-stack zero b h = absurd (omega arith)
last-stack (suc n) b h =
    let e : 49 * n + 30 ≡ 49 * suc n - 19 = omega arith in
    ap (λ (l : List ℕ). take 19 (drop 30 l)) (last-rows n b) ∙ window (drop (49 * n) b) 30 19 49 (omega arith)
    ∙ ap (take 19) (drop-drop 30 (49 * n) b ∙ ap (λ (k : ℕ). drop k b) e)

pub length-row : (system : SystemCols) (d : DecoderRow) (stack : StackCols) → length (row_cells system d stack) ≡ 49
unfolding row_cells system_cells decoder_cells stack_cells
length-row system d stack = length-reduced (system_cells system ++ decoder_cells d ++ stack_cells stack)

-- the stack cells of the HALT row are the built ones with the inverse of the helper
pub halt-stack : (built : List ℕ) (stack : StackCols) → stack_cells stack ≡ take 19 (drop 6 built) →
    stack_cells (record { top = stack.top; b0 = stack.b0; b1 = stack.b1; h0 = inverse_of stack.h0 }) ≡ halt_stack built
unfolding stack_cells halt_stack
halt-stack built stack e =
    let first : take 18 (stack_cells stack) ≡ take 18 (drop 6 built) = ap (take 18) e ∙ take-take 18 19 (drop 6 built) (omega arith) in
    let helper : cell_at (stack_cells stack) 18 ≡ cell_at built 24 = ap (λ (l : List ℕ). cell_at l 18) e ∙ cell-take 19 (drop 6 built) 18 (omega arith) ∙ cell-drop 6 built 18 in
    let inverse : inverse_of stack.h0 ≡ inverse_of (cell_at built 24) = sym (inverse-reduced stack.h0 (cell_at built 24) (sym helper ∙ unfold cell_at in refl)) in
    ap₂ (λ (l : List ℕ) (x : ℕ). l ++ (x ∷ [])) first inverse

module _ (p : Profile) (before : List ℕ) (system : SystemCols) (d : DecoderRow) (stack : StackCols) (is : d ≡ control_flow p.halt (first_half before) zero_word 0) where
  pub halt-row : (built : List ℕ) → system_cells system ≡ take 6 built → stack_cells stack ≡ halt_stack built → row_cells system d stack ≡ halt_row p built before
  unfolding row_cells halt_row halt_decoder
  halt-row built s k = rw (is, s, k)

  pub padding-row : (number : ℕ) → system_cells system ≡ number ∷ 0 ∷ 0 ∷ 0 ∷ 0 ∷ 0 ∷ [] → stack_cells stack ≡ take 19 (drop 30 before) → row_cells system d stack ≡ padding_row p number before
  unfolding row_cells padding_row halt_decoder
  padding-row number s k = rw (is, s, k)

-- the HALT row behind the first n rows
pub put-halt : (p : Profile) (built b : List ℕ) (n : ℕ) {x : List ℕ} → 49 * n ≤ length b → x ≡ halt_row p built (last_row (rows_of n b)) → put_row b n x ≡ on_rows n (halted p built) b
unfolding on_rows halted
put-halt p built b n {x} h is =
    let e : flat (rows_of n b) ++ drop (49 * length (rows_of n b)) b ≡ b = rw (length-rows n b) (sym (as_rows n b)) in
    rw (← is) (rw (e, length-rows n b) at (put-behind (rows_of n b) x b (wide_rows n b h)))

padding-wide : (p : Profile) (k : ℕ) (before : List ℕ) → length before ≡ 49 → length (padding_row p k before) ≡ 49
unfolding padding_row halt_decoder decoder_cells control_flow
padding-wide p k before e = simp (length-reduced, length-take, length-drop) (omega arith)

paddings-wide : (p : Profile) (n k : ℕ) (before : List ℕ) → length before ≡ 49 → Wide (padding_rows p n k before)
unfolding padding_rows Wide
paddings-wide p zero k before e = tt
paddings-wide p (suc n) k before e = (padding-wide p k before e, paddings-wide p n (suc k) before e)

padded-wide : (p : Profile) (rows : List (List ℕ)) (r : ℕ) → Wide rows → length (last_row rows) ≡ 49 → Wide (padded p r rows)
unfolding padded
padded-wide p rows r w e = wide-app rows _ w (paddings-wide p _ _ _ e)

length-paddings : (p : Profile) (n k : ℕ) (before : List ℕ) → length (padding_rows p n k before) ≡ n
unfolding padding_rows
length-paddings p zero k before = refl
length-paddings p (suc n) k before = ap suc (length-paddings p n (suc k) before)

-- one padding row more
paddings-more : (p : Profile) (n k : ℕ) (before : List ℕ) → padding_rows p n k before ++ (padding_row p (k + n) before ∷ []) ≡ padding_rows p (suc n) k before
unfolding padding_rows
paddings-more p zero k before = let e : k + 0 ≡ k = omega arith in rw e
paddings-more p (suc n) k before =
    let e : k + suc n ≡ suc k + n = omega arith in
    rw e (ap (λ (l : List (List ℕ)). padding_row p k before ∷ l) (paddings-more p n (suc k) before))

pub length-padded : (p : Profile) (rows : List (List ℕ)) (r : ℕ) → length rows ≤ r → length (padded p r rows) ≡ r
unfolding padded
length-padded p rows r h = simp (length-append, length-paddings) (omega arith)

padded-more : (p : Profile) (rows : List (List ℕ)) (r : ℕ) → length rows ≤ r → padded p r rows ++ (padding_row p r (last_row rows) ∷ []) ≡ padded p (r + 1) rows
unfolding padded
padded-more p rows r h =
    let s : suc (r - length rows) ≡ r + 1 - length rows = omega arith in
    let j : length rows + (r - length rows) ≡ r = omega arith in
    rw append_assoc (ap (λ (l : List (List ℕ)). rows ++ l) (rw (j, s) at (paddings-more p (r - length rows) (length rows) (last_row rows))))

-- nothing is padded up to the rows that are there
pub padded-none : (p : Profile) (b : List ℕ) (n : ℕ) → on_rows n (padded p n) b ≡ b
unfolding on_rows padded padding_rows
padded-none p b n =
    let z : n - n ≡ 0 = omega arith in
    rw (length-rows n b, z, append-nil, length-rows n b) (sym (as_rows n b))

-- the padding row of number r, written behind the rows that are padded up to r
pub put-padding : (p : Profile) (b : List ℕ) (n r : ℕ) {buffer x : List ℕ} → 0 < n → 49 * n ≤ length b → n ≤ r → buffer ≡ on_rows n (padded p r) b → x ≡ padding_row p r (last_row (rows_of n b)) → put_row buffer r x ≡ on_rows n (padded p (r + 1)) b
unfolding on_rows
put-padding p b n r some fits behind e is =
    let rows : List (List ℕ) = rows_of n b in
    let h : length rows ≤ r = rw (length-rows n b) behind in
    let w : Wide (padded p r rows) = padded-wide p rows r (wide_rows n b fits) (length_last n b some fits) in
    let k : length (padded p r rows) ≡ r = length-padded p rows r h in
    rw (e, is, k) (rw (k, padded-more p rows r h) at (put-behind (padded p r rows) (padding_row p r (last_row rows)) b w))
