-- "Inputs that were answered get the same cells as before." (N2) The finishing passes: where the cells that it reads are below p, each definition that
-- N2 changed is the one from before, clause by clause. What it cites is meant as it stands now, since what N2 changed there has a theorem of its own;
-- `halt_stack` is N4's, which has the inverse of the helper.
use mathlib.Core.Path.{◌≡◌, refl}
use mathlib.Core.Bool.{Bool, false, ◌||◌}
use mathlib.Core.List.{List, [], ◌∷◌, ◌++◌}
use mathlib.Core.Logic.{◌↔◌}
use Prim.Native.Nat.{ℕ, suc, ◌+◌, ◌*◌, ◌<◌}
use native.Mathlib.Omega.{arith}
use lib.Dec.{ltb, eqb}
use lib.ListN.{length, take, drop, get_or}
use Rattle.field.specs.Modulus.{P}
use Rattle.field.specs.Bounds.{any_from}
use Rattle.field.specs.Cells.{cell_at}
use Rattle.field.specs.Inverse.{inverse_of}
use Rattle.field.proofs.InverseLaws.{inverse-below}
use Rattle.rows.specs.declared.records.profile.Profile.{Profile}
use Rattle.rows.specs.records.Profiles.{profile_wrong}
use Rattle.rows.specs.records.DecoderRows.{zero_word, word_cells, control_flow}
use Rattle.rows.specs.records.Built.{reversed16}
use Rattle.rows.specs.records.Buffers.{rows_of, addr_of, h4_of, low_bits, opcode_of, buffer_wrong, fewer_rows}
use Rattle.rows.specs.passes.Passes.{with_sides, first_row, built_of, loop_without_body, first_half, halt_decoder, halt_stack, halt_row, padding_row, sum_of, not_full, no_fragment, fragments_wrong, refusal1, refusal2, refusal3, refusal4, refusal5, height_wrong, refusal_all}
use Rattle.groups.specs.Answer.{first_of}
use Rattle.rows.proofs.passes.Checks.{neither, none_first}
use Rattle.theory_reductions.specs.Below.{Below}
use Rattle.theory_before_n2.specs.BeforeN2.{rows_big}
use Rattle.theory_reductions.proofs.CellsBelow.{below_app, below-take, below-drop}
use Rattle.theory_before_n2.proofs.FoundBelow.{below-decoder}
use Rattle.theory_before_n2.proofs.MadeBelow.{below-control, below_none}
use Rattle.theory_before_n2.proofs.SameCells.{below_at, below-16, below-reversed, below_of, of-below, same-cell_at, same-reduced}

-- REFUSAL 1

-- the test of the first n rows
pub tested-rows_big : (n : ℕ) (buffer : List ℕ) → (rows_big n buffer ≡ false) ↔ Below (take (49 * n) buffer)
unfolding rows_big
tested-rows_big n buffer = (below_of (take (49 * n) buffer), of-below (take (49 * n) buffer))

-- a call that was answered had passed the test: of its rows,
pub answered-rows : (n : ℕ) (buffer : List ℕ) (rest : List (Bool × ℕ)) → first_of ((rows_big n buffer, 1) ∷ rest) ≡ 0 → Below (take (49 * n) buffer)
answered-rows n buffer rest e = (tested-rows_big n buffer).0 (none_first (rows_big n buffer) 0 rest e).0

-- of its rows and built cells,
pub answered-built : (n : ℕ) (buffer built : List ℕ) (rest : List (Bool × ℕ))
    → first_of ((rows_big n buffer || any_from P built, 1) ∷ rest) ≡ 0 → Below (take (49 * n) buffer) × Below built
answered-built n buffer built rest e =
    let (a, b) = neither (rows_big n buffer) (any_from P built) (none_first (rows_big n buffer || any_from P built) 0 rest e).0 in
    ((tested-rows_big n buffer).0 a, below_of built b)

-- and of its rows, built cells and first stack top
pub answered-top : (n : ℕ) (buffer built top : List ℕ) (rest : List (Bool × ℕ))
    → first_of ((rows_big n buffer || (any_from P built || any_from P top), 1) ∷ rest) ≡ 0 → Below (take (49 * n) buffer) × Below built × Below top
answered-top n buffer built top rest e =
    let (a, b) = neither (rows_big n buffer) (any_from P built || any_from P top) (none_first (rows_big n buffer || (any_from P built || any_from P top)) 0 rest e).0 in
    let (c, d) = neither (any_from P built) (any_from P top) b in
    ((tested-rows_big n buffer).0 a, below_of built c, below_of top d)

-- CELLS OF A ROW

-- the address
pub same-addr_of : (row : List ℕ) → get_or row 6 0 < P → addr_of row ≡ get_or row 6 0
same-addr_of row h = same-cell_at row 6 h

-- h4
pub same-h4_of : (row : List ℕ) → get_or row 18 0 < P → h4_of row ≡ get_or row 18 0
same-h4_of row h = same-cell_at row 18 h

-- the opcode
pub same-opcode_of : (row : List ℕ) → Below (take 7 (drop 7 row)) → opcode_of row ≡ low_bits (take 7 (drop 7 row))
unfolding opcode_of
same-opcode_of row h = rw (same-reduced (take 7 (drop 7 row)) h)

-- PASS 1

below-first : (top : List ℕ) → Below top → Below (reversed16 top ++ (16 ∷ 0 ∷ 0 ∷ []))
unfolding Below
below-first top h = below_app (reversed16 top) (16 ∷ 0 ∷ 0 ∷ []) (below-reversed top (below-16 top h)) (omega arith)

-- row 0
pub same-first_row : (top row : List ℕ) → Below top → first_row top row ≡ with_sides (take 6 row) (reversed16 top ++ (16 ∷ 0 ∷ 0 ∷ [])) row
unfolding first_row
same-first_row top row h = rw (same-reduced (reversed16 top ++ (16 ∷ 0 ∷ 0 ∷ [])) (below-first top h))

-- the built cells of a fragment; of no fragment there are none, as before
pub same-built_of : (n : ℕ) (built : List ℕ) → Below (take 25 built) → built_of (suc n) built ≡ take 25 built ∷ built_of n (drop 25 built)
unfolding built_of
same-built_of n built h = rw (same-reduced (take 25 built) h)

-- PASSES 4 AND 5

-- h0 to h3 of a row
pub same-first_half : (row : List ℕ) → first_half row ≡ (get_or row 14 0, get_or row 15 0, get_or row 16 0, get_or row 17 0)
same-first_half row = refl

-- the decoder cells of a HALT row
below-halt : (p : Profile) (before : List ℕ) → Below before → Below (halt_decoder p before)
unfolding halt_decoder Below
below-halt p before h =
    let half : Below (word_cells (first_half before)) = (below_at before 14 h, (below_at before 15 h, (below_at before 16 h, (below_at before 17 h, tt)))) in
    below-decoder (control_flow p.halt (first_half before) zero_word 0) (below-control p.halt (first_half before) zero_word 0 half below_none (omega arith))

-- the HALT row
pub same-halt_row : (p : Profile) (built before : List ℕ) → Below built → Below before → halt_row p built before ≡ take 6 built ++ halt_decoder p before ++ halt_stack built
unfolding halt_row halt_stack Below
same-halt_row p built before h k =
    same-reduced (take 6 built ++ halt_decoder p before ++ halt_stack built)
    (below_app (take 6 built ++ halt_decoder p before) (halt_stack built)
    (below_app (take 6 built) (halt_decoder p before) (below-take 6 built h) (below-halt p before k))
    (below_app (take 18 (drop 6 built)) (inverse_of (cell_at built 24) ∷ []) (below-take 18 (drop 6 built) (below-drop 6 built h)) (inverse-below (cell_at built 24), tt)))

-- a padding row
pub same-padding_row : (p : Profile) (number : ℕ) (before : List ℕ)
    → number < P → Below before → padding_row p number before ≡ (number ∷ 0 ∷ 0 ∷ 0 ∷ 0 ∷ 0 ∷ []) ++ halt_decoder p before ++ take 19 (drop 30 before)
unfolding padding_row Below
same-padding_row p number before h k =
    same-reduced ((number ∷ 0 ∷ 0 ∷ 0 ∷ 0 ∷ 0 ∷ []) ++ halt_decoder p before ++ take 19 (drop 30 before))
    (below_app ((number ∷ 0 ∷ 0 ∷ 0 ∷ 0 ∷ 0 ∷ []) ++ halt_decoder p before) (take 19 (drop 30 before))
    (below_app (number ∷ 0 ∷ 0 ∷ 0 ∷ 0 ∷ 0 ∷ []) (halt_decoder p before) (omega arith) (below-halt p before k))
    (below-take 19 (drop 30 before) (below-drop 30 before k)))

-- WHAT THE PASSES REFUSE: 1 is not answered

-- pass 1
pub same-refusal1 : (buffer : List ℕ) (size : ℕ) (counts built top : List ℕ)
    → Below (take (49 * sum_of counts) buffer) → Below built → Below top → refusal1 buffer size counts built ≡
    first_of
    ((rows_big (sum_of counts) buffer || (any_from P built || any_from P top), 1)
    ∷ (fragments_wrong (length buffer) size counts built, 11)
    ∷ (no_fragment counts, 26)
    ∷ (not_full size counts, 25)
    ∷ [])
unfolding refusal1 first_of
same-refusal1 buffer size counts built top h k m = rw ((tested-rows_big (sum_of counts) buffer).1 h, of-below built k, of-below top m)

-- pass 2
pub same-refusal2 : (p : Profile) (buffer : List ℕ) (rows : ℕ) → Below (take (49 * rows) buffer) → refusal2 p buffer rows ≡
    first_of
    ((rows_big rows buffer, 1)
    ∷ (profile_wrong p, 2)
    ∷ (buffer_wrong (length buffer) || fewer_rows (length buffer) rows, 11)
    ∷ (loop_without_body p (rows_of rows buffer), 14)
    ∷ [])
unfolding refusal2 first_of
same-refusal2 p buffer rows h = rw ((tested-rows_big rows buffer).1 h)

-- pass 3
pub same-refusal3 : (buffer : List ℕ) (rows : ℕ)
    → Below (take (49 * rows) buffer)
    → refusal3 buffer rows ≡ first_of ((rows_big rows buffer, 1) ∷ (buffer_wrong (length buffer) || fewer_rows (length buffer) rows, 11) ∷ [])
unfolding refusal3 first_of
same-refusal3 buffer rows h = rw ((tested-rows_big rows buffer).1 h)

-- pass 4
pub same-refusal4 : (p : Profile) (buffer : List ℕ) (rows : ℕ) (built : List ℕ) → Below (take (49 * rows) buffer) → Below built → refusal4 p buffer rows ≡
    first_of
    ((rows_big rows buffer || any_from P built, 1)
    ∷ (profile_wrong p, 2)
    ∷ (buffer_wrong (length buffer) || fewer_rows (length buffer) (rows + 1), 11)
    ∷ [])
unfolding refusal4 first_of
same-refusal4 p buffer rows built h k = rw ((tested-rows_big rows buffer).1 h, of-below built k)

-- pass 5
pub same-refusal5 : (p : Profile) (buffer : List ℕ) (rows height : ℕ) → Below (take (49 * rows) buffer) → refusal5 p buffer rows height ≡
    first_of
    ((rows_big rows buffer, 1)
    ∷ (profile_wrong p, 2)
    ∷ (buffer_wrong (length buffer) || (eqb rows 0 || (ltb height rows || fewer_rows (length buffer) height)), 11)
    ∷ [])
unfolding refusal5 first_of
same-refusal5 p buffer rows height h = rw ((tested-rows_big rows buffer).1 h)

-- the finisher
pub same-refusal_all : (p : Profile) (buffer : List ℕ) (size : ℕ) (counts built top : List ℕ) (height : ℕ)
    → Below (take (49 * sum_of counts) buffer) → Below built → Below top → refusal_all p buffer size counts built height ≡
    first_of
    ((rows_big (sum_of counts) buffer || (any_from P built || any_from P top), 1)
    ∷ (profile_wrong p, 2)
    ∷ (fragments_wrong (length buffer) size counts built || height_wrong (length buffer) (sum_of counts) height, 11)
    ∷ (no_fragment counts, 26)
    ∷ (not_full size counts, 25)
    ∷ (loop_without_body p (rows_of (sum_of counts) buffer), 14)
    ∷ [])
unfolding refusal_all first_of
same-refusal_all p buffer size counts built top height h k m = rw ((tested-rows_big (sum_of counts) buffer).1 h, of-below built k, of-below top m)
