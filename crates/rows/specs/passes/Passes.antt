-- Document 01, "Finishing passes, in order": each pass on the list of rows, and what it refuses.
use Rattle.std.specs.Prelude.{Bool, true, false, ◌&&◌, ◌||◌, List, [], ◌∷◌, ◌++◌, ℕ, zero, suc, pred, ◌+◌, ◌-◌, ◌*◌, leb, ltb, eqb, length, take, drop, get_or, set}
use Rattle.field.specs.Cells.{cell_at, reduced}
use Rattle.field.specs.Inverse.{inverse_of}
use Rattle.groups.specs.Answer.{pick, first_of}
use Rattle.groups.specs.Constants.{addr_column, hasher_column, count_column, helper_column, bad_profile, bad_length, no_body_end, fragment_not_full, no_fragments, stack_column}
use Rattle.groups.specs.declared.word.Word.{Word}
use Rattle.rows.specs.declared.records.profile.Profile.{Profile}
use Rattle.rows.specs.records.Profiles.{profile_wrong}
use Rattle.rows.specs.records.DecoderRows.{zero_word, control_flow, decoder_cells}
use Rattle.rows.specs.records.Built.{reversed16}
use Rattle.rows.specs.records.Buffers.{rows_of, on_rows, last_row, addr_of, h4_of, opcode_of, buffer_wrong, fewer_rows}

-- PASS 1

-- a row with other system cells (6) and stack cells (19), its decoder cells as they are
unfoldable pub with_sides : (system stack row : List ℕ) → List ℕ
with_sides system stack row = system ++ take 24 (drop addr_column row) ++ stack

-- "row 0 gets the reversed first stack top, depth 16, 0, 0"
unfoldable pub first_row : (top row : List ℕ) → List ℕ
first_row top row = with_sides (take 6 row) (reduced (reversed16 top ++ (16 ∷ 0 ∷ 0 ∷ []))) row

-- "each later fragment's first row gets the previous fragment's last built cells": `lasts` are 25 cells a fragment, and the next first row
-- is `left` rows on
unfoldable pub later_rows : (size left : ℕ) → (lasts : List (List ℕ)) → List (List ℕ) → List (List ℕ)
later_rows size left lasts [] = []
later_rows size (suc left) lasts (row ∷ rows) = row ∷ later_rows size left lasts rows
later_rows size zero [] (row ∷ rows) = row ∷ later_rows size zero [] rows
later_rows size zero (last ∷ lasts) (row ∷ rows) = with_sides (take 6 last) (drop 6 last) row ∷ later_rows size (pred size) lasts rows

unfoldable pub fixed_up : (size : ℕ) → (top : List ℕ) → (lasts : List (List ℕ)) → List (List ℕ) → List (List ℕ)
fixed_up size top lasts [] = []
fixed_up size top lasts (row ∷ rows) = first_row top row ∷ later_rows size (pred size) lasts rows

-- the built cells of the first n fragments, 25 each, as they are read
unfoldable pub built_of : (n : ℕ) → (built : List ℕ) → List (List ℕ)
built_of zero built = []
built_of (suc n) built = reduced (take 25 built) ∷ built_of n (drop 25 built)

-- PASS 2

-- an END row whose h4 is exactly 1
unfoldable pub flagged_end : Profile → List ℕ → Bool
flagged_end p row = eqb (opcode_of row) p.end && eqb (h4_of row) 1

-- "the number of END rows, not last, whose h4 is exactly 1 and whose successor has the LOOP successor's address"
unfoldable pub body_ends : Profile → (addr : ℕ) → List (List ℕ) → ℕ
body_ends p addr [] = 0
body_ends p addr (row ∷ []) = 0
body_ends p addr (row ∷ next ∷ rows) = pick (flagged_end p row && eqb (addr_of next) addr) 1 0 + body_ends p addr (next ∷ rows)

-- "for each LOOP row but the last row, group_count = ..", the count being given by the successor's address
unfoldable pub with_counts : Profile → (count : ℕ → ℕ) → List (List ℕ) → List (List ℕ)
with_counts p count [] = []
with_counts p count (row ∷ []) = row ∷ []
with_counts p count (row ∷ next ∷ rows) =
    pick (eqb (opcode_of row) p.loop_op) (set row count_column (count (addr_of next))) row ∷ with_counts p count (next ∷ rows)

-- Refusal 14: "LOOP without body END": the count of a LOOP row but the last comes to 0
unfoldable pub any_without_body : Profile → (count : ℕ → ℕ) → List (List ℕ) → Bool
any_without_body p count [] = false
any_without_body p count (row ∷ []) = false
any_without_body p count (row ∷ next ∷ rows) =
    (eqb (opcode_of row) p.loop_op && eqb (count (addr_of next)) 0) || any_without_body p count (next ∷ rows)

unfoldable pub multiplied : Profile → List (List ℕ) → List (List ℕ)
multiplied p rows = with_counts p (λ addr. body_ends p addr rows) rows

unfoldable pub loop_without_body : Profile → List (List ℕ) → Bool
loop_without_body p rows = any_without_body p (λ addr. body_ends p addr rows) rows

-- PASS 3

-- "Each helper cell becomes its inverse, 0 staying 0."
unfoldable pub inverted : List (List ℕ) → List (List ℕ)
inverted [] = []
inverted (row ∷ rows) = set row helper_column (inverse_of (get_or row helper_column 0)) ∷ inverted rows

-- PASS 4

-- the four numbers from number i on
abbrev pub word_from : List ℕ → (i : ℕ) → Word
word_from cells i = (get_or cells i 0, get_or cells (i + 1) 0, get_or cells (i + 2) 0, get_or cells (i + 3) 0)

-- h0 to h3 of a row
abbrev pub first_half : List ℕ → Word
first_half row = word_from row hasher_column

-- the decoder cells of a HALT row: "h0 to h3 of the row before (0 if there is none); the rest 0 but opcode and extra"
unfoldable pub halt_decoder : Profile → (before : List ℕ) → List ℕ
halt_decoder p before = decoder_cells (control_flow p.halt (first_half before) zero_word 0)

-- the stack cells of the HALT row: the last built ones, but "the inverse of the last built helper, depth − 16, 0 for depth 16" (N4). The helper
-- is the last of the 25 built cells, read as a cell; the depth cell beside it is not looked at
unfoldable pub halt_stack : (built : List ℕ) → List ℕ
halt_stack built = take 18 (drop 6 built) ++ (inverse_of (cell_at built 24) ∷ [])

-- "One HALT row: last built system and stack cells"; "Every cell that a call writes is reduced"
unfoldable pub halt_row : Profile → (built before : List ℕ) → List ℕ
halt_row p built before = reduced (take 6 built ++ halt_decoder p before ++ halt_stack built)

unfoldable pub halted : Profile → (built : List ℕ) → List (List ℕ) → List (List ℕ)
halted p built rows = rows ++ (halt_row p built (last_row rows) ∷ [])

-- PASS 5

-- "HALT rows with h0 to h3 and stack of the last, clk the row's number, ctx and fn_hash 0"; the helper too: "padding repeats it" (N4)
unfoldable pub padding_row : Profile → (number : ℕ) → (before : List ℕ) → List ℕ
padding_row p number before = reduced ((number ∷ 0 ∷ 0 ∷ 0 ∷ 0 ∷ 0 ∷ []) ++ halt_decoder p before ++ take 19 (drop stack_column before))

-- n padding rows, the first of them having the given number
unfoldable pub padding_rows : Profile → (n number : ℕ) → (before : List ℕ) → List (List ℕ)
padding_rows p zero number before = []
padding_rows p (suc n) number before = padding_row p number before ∷ padding_rows p n (suc number) before

unfoldable pub padded : Profile → (height : ℕ) → List (List ℕ) → List (List ℕ)
padded p height rows = rows ++ padding_rows p (height - length rows) (length rows) (last_row rows)

-- WHAT THE PASSES REFUSE

-- the sum of the fragments' row counts
unfoldable pub sum_of : List ℕ → ℕ
sum_of [] = 0
sum_of (count ∷ counts) = count + sum_of counts

-- Refusal 11: "a fragment's count above" the fragment size
unfoldable pub any_above : (limit : ℕ) → List ℕ → Bool
any_above limit [] = false
any_above limit (x ∷ xs) = ltb limit x || any_above limit xs

-- Refusal 25: "a fragment but the last is not full, or the last is empty"
unfoldable pub not_full : (size : ℕ) → (counts : List ℕ) → Bool
not_full size [] = false
not_full size (count ∷ []) = eqb count 0
not_full size (count ∷ next ∷ counts) = ltb count size || not_full size (next ∷ counts)

-- Refusal 26: "no fragment"
abbrev pub no_fragment : List ℕ → Bool
no_fragment [] = true
no_fragment (count ∷ counts) = false

-- Refusal 11 of the fragments: "fragment size 0, a fragment's count above it", fewer rows than said, fewer than 25 built cells a fragment
unfoldable pub fragments_wrong : (cells size : ℕ) → (counts built : List ℕ) → Bool
fragments_wrong cells size counts built =
    buffer_wrong cells || (fewer_rows cells (sum_of counts) || (eqb size 0 || (any_above size counts || ltb (length built) (25 * length counts))))

unfoldable pub refusal1 : (buffer : List ℕ) → (size : ℕ) → (counts built : List ℕ) → ℕ
refusal1 buffer size counts built =
    first_of
    ((fragments_wrong (length buffer) size counts built, bad_length)
    ∷ (no_fragment counts, no_fragments)
    ∷ (not_full size counts, fragment_not_full)
    ∷ [])

unfoldable pub refusal2 : Profile → (buffer : List ℕ) → (rows : ℕ) → ℕ
refusal2 p buffer rows =
    first_of
    ((profile_wrong p, bad_profile)
    ∷ (buffer_wrong (length buffer) || fewer_rows (length buffer) rows, bad_length)
    ∷ (loop_without_body p (rows_of rows buffer), no_body_end)
    ∷ [])

unfoldable pub refusal3 : (buffer : List ℕ) → (rows : ℕ) → ℕ
refusal3 buffer rows =
    first_of ((buffer_wrong (length buffer) || fewer_rows (length buffer) rows, bad_length) ∷ [])

unfoldable pub refusal4 : Profile → (buffer : List ℕ) → (rows : ℕ) → ℕ
refusal4 p buffer rows =
    first_of
    ((profile_wrong p, bad_profile)
    ∷ (buffer_wrong (length buffer) || fewer_rows (length buffer) (rows + 1), bad_length)
    ∷ [])

unfoldable pub refusal5 : Profile → (buffer : List ℕ) → (rows height : ℕ) → ℕ
refusal5 p buffer rows height =
    first_of
    ((profile_wrong p, bad_profile)
    ∷ (buffer_wrong (length buffer) || (eqb rows 0 || (ltb height rows || fewer_rows (length buffer) height)), bad_length)
    ∷ [])

-- a buffer that a refused call leaves as it was
abbrev pub unless_refused : (number : ℕ) → (before after : List ℕ) → List ℕ
unless_refused zero before after = after
unless_refused (suc n) before after = before

-- THE FINISHER

-- Refusal 11: "height below rows with HALT", and fewer rows than the height
unfoldable pub height_wrong : (cells rows height : ℕ) → Bool
height_wrong cells rows height = leb height rows || fewer_rows cells height

unfoldable pub refusal_all : Profile → (buffer : List ℕ) → (size : ℕ) → (counts built : List ℕ) → (height : ℕ) → ℕ
refusal_all p buffer size counts built height =
    first_of
    ((profile_wrong p, bad_profile)
    ∷ (fragments_wrong (length buffer) size counts built || height_wrong (length buffer) (sum_of counts) height, bad_length)
    ∷ (no_fragment counts, no_fragments)
    ∷ (not_full size counts, fragment_not_full)
    ∷ (loop_without_body p (rows_of (sum_of counts) buffer), no_body_end)
    ∷ [])

-- the built cells of the last fragment
unfoldable pub last_built : (counts built : List ℕ) → List ℕ
last_built counts built = take 25 (drop (25 * (length counts - 1)) built)

-- the five passes in order, each on what the one before left
unfoldable pub all_passes : Profile → (size : ℕ) → (counts built top : List ℕ) → (height : ℕ) → List ℕ → List ℕ
all_passes p size counts built top height buffer =
    on_rows (sum_of counts + 1) (padded p height)
    (on_rows (sum_of counts) (halted p (last_built counts built))
    (on_rows (sum_of counts) inverted
    (on_rows (sum_of counts) (multiplied p)
    (on_rows (sum_of counts) (fixed_up size top (built_of (length counts - 1) built)) buffer))))
