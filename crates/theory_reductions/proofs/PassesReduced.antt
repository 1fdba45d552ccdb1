-- The finishing passes over numbers of which some are from p on (N2): what comes of them is what comes of the reduced ones, the numbers answered
-- and the cells left, for each of the five passes and for the finisher, whether the call is refused or not.
use mathlib.Core.Path.{◌≡◌, ◌∙◌, refl, sym, ap, ap₂, fun_ext}
use mathlib.Core.Bool.{Bool, true, false}
use mathlib.Core.List.{List, [], ◌∷◌, ◌++◌, map}
use Prim.Native.Nat.{ℕ, zero, suc, pred, ◌-◌, ◌*◌, ◌%◌, ◌<◌}
use native.Mathlib.Omega.{arith}
use lib.ListN.{length, take, drop, get_or, set, length-map}
use Rattle.field.specs.Modulus.{P}
use Rattle.field.specs.Cells.{cell_at, reduced}
use Rattle.field.specs.Inverse.{inverse_of}
use Rattle.field.proofs.CellLaws.{read_small, length-reduced, get_or-reduced, cell-reduced, reduced-append, reduced-twice, reduced-take, reduced-drop}
use Rattle.field.proofs.InverseLaws.{inverse-below, inverse-reduced}
use Rattle.groups.specs.Answer.{pick}
use Rattle.rows.specs.declared.records.profile.Profile.{Profile}
use Rattle.rows.specs.records.DecoderRows.{control_flow, decoder_cells}
use Rattle.rows.specs.records.Built.{reversed16}
use Rattle.rows.specs.records.Buffers.{rows_of, flat, on_rows, last_row, addr_of}
use Rattle.rows.specs.passes.Passes.{with_sides, first_row, later_rows, fixed_up, built_of, flagged_end, body_ends, with_counts, any_without_body, multiplied, loop_without_body, inverted}
use Rattle.rows.specs.passes.Passes.{halt_decoder, halt_stack, halt_row, halted, padding_row, padding_rows, padded, last_built, all_passes}
use Rattle.rows.specs.passes.Passes.{sum_of, fragments_wrong, refusal1, refusal2, refusal3, refusal4, refusal5, refusal_all, unless_refused}
use Rattle.rows.proofs.passes.RowLists.{length-rows}
use Rattle.rows.proofs.passes.ReducedRows.{opcode-reduced, rows-reduced}
use Rattle.rows.proofs.passes.Finishing.{held-2, sum-held, passed-all}
use Rattle.theory_reductions.specs.Left.{left1, left2, left3, left4, left5, left_all}
use Rattle.theory_reductions.proofs.CellsBelow.{ends-most}

-- ROWS

-- a number of the reduced list, read
number_read : (l : List ℕ) (i : ℕ) → get_or (reduced l) i 0 % P ≡ get_or l i 0 % P
unfolding cell_at
number_read l i = cell-reduced l i

reduced-set : (l : List ℕ) (i v : ℕ) → v < P → reduced (set l i v) ≡ set (reduced l) i v
unfolding reduced
reduced-set [] i v h = refl
reduced-set (x ∷ l) zero v h = rw (read_small v h)
reduced-set (x ∷ l) (suc i) v h = ap (λ y. x % P ∷ y) (reduced-set l i v h)

reduced-flat : (rows : List (List ℕ)) → reduced (flat rows) ≡ flat (map reduced rows)
unfolding flat reduced
reduced-flat [] = refl
reduced-flat (row ∷ rows) = reduced-append row (flat rows) ∙ ap (λ y. reduced row ++ y) (reduced-flat rows)

reduced-rows : (l m : List (List ℕ)) → map reduced (l ++ m) ≡ map reduced l ++ map reduced m
reduced-rows [] m = refl
reduced-rows (row ∷ l) m = ap (λ y. reduced row ∷ y) (reduced-rows l m)

-- where rows may be reduced before f or after it, so may a buffer
on-rows-reduced : (n : ℕ) (f : List (List ℕ) → List (List ℕ)) (buffer : List ℕ) → map reduced (f (rows_of n buffer)) ≡ f (map reduced (rows_of n buffer))
    → reduced (on_rows n f buffer) ≡ on_rows n f (reduced buffer)
unfolding on_rows
on-rows-reduced n f buffer e =
    let rows : List (List ℕ) = f (rows_of n buffer) in
    rw (rows-reduced n buffer, ← e, length-map rows reduced, reduced-append (flat rows), reduced-flat rows, reduced-drop (49 * length rows) buffer)

-- PASS 1

sides-reduced : (system stack row : List ℕ) → reduced (with_sides system stack row) ≡ with_sides (reduced system) (reduced stack) (reduced row)
unfolding with_sides
sides-reduced system stack row = simp (reduced-append, reduced-take, reduced-drop)

first_reduced : (top row : List ℕ) → reduced (first_row top row) ≡ first_row top (reduced row)
unfolding first_row
first_reduced top row =
    let stack : List ℕ = reversed16 top ++ (16 ∷ 0 ∷ 0 ∷ []) in
    sides-reduced (take 6 row) (reduced stack) row ∙ rw (reduced-take 6 row, reduced-twice stack)

later-reduced : (rows lasts : List (List ℕ)) (size left : ℕ) → map reduced (later_rows size left lasts rows) ≡ later_rows size left (map reduced lasts) (map reduced rows)
unfolding later_rows
later-reduced [] lasts size left = refl
later-reduced (row ∷ rows) lasts size (suc left) = ap (λ y. reduced row ∷ y) (later-reduced rows lasts size left)
later-reduced (row ∷ rows) [] size zero = ap (λ y. reduced row ∷ y) (later-reduced rows [] size zero)
later-reduced (row ∷ rows) (last ∷ lasts) size zero =
    ap₂ (λ x y. x ∷ y) (sides-reduced (take 6 last) (drop 6 last) row ∙ rw (reduced-take 6 last, reduced-drop 6 last)) (later-reduced rows lasts size (pred size))

fixed-reduced : (size : ℕ) (top : List ℕ) (lasts rows : List (List ℕ)) → map reduced (fixed_up size top lasts rows) ≡ fixed_up size top (map reduced lasts) (map reduced rows)
unfolding fixed_up
fixed-reduced size top lasts [] = refl
fixed-reduced size top lasts (row ∷ rows) = ap₂ (λ x y. x ∷ y) (first_reduced top row) (later-reduced rows lasts size (pred size))

-- the first numbers of a list are read as those of the reduced list
take-read : (n : ℕ) (l : List ℕ) → reduced (take n (reduced l)) ≡ reduced (take n l)
take-read n l = rw (← reduced-take n l) (reduced-twice (take n l))

-- built cells that were read are reduced
built-reduced : (n : ℕ) (built : List ℕ) → map reduced (built_of n built) ≡ built_of n built
unfolding built_of
built-reduced zero built = refl
built-reduced (suc n) built = ap₂ (λ x y. x ∷ y) (reduced-twice (take 25 built)) (built-reduced n (drop 25 built))

-- built cells, and the first stack top, are read as the reduced ones are
built-read : (n : ℕ) (built : List ℕ) → built_of n (reduced built) ≡ built_of n built
unfolding built_of
built-read zero built = refl
built-read (suc n) built = ap₂ (λ x y. x ∷ y) (take-read 25 built) (ap (built_of n) (sym (reduced-drop 25 built)) ∙ built-read n (drop 25 built))

first_read : (top row : List ℕ) → first_row (reduced top) row ≡ first_row top row
unfolding first_row reduced
first_read top row = simp number_read

fixed-read : (size : ℕ) (top : List ℕ) (lasts : List (List ℕ)) → fixed_up size (reduced top) lasts ≡ fixed_up size top lasts
unfolding fixed_up
fixed-read size top lasts = fun_ext go
  where
    go : (rows : List (List ℕ)) → fixed_up size (reduced top) lasts rows ≡ fixed_up size top lasts rows
    go [] = refl
    go (row ∷ rows) = rw (first_read top row)

-- PASS 2

pub flagged-reduced : (p : Profile) (row : List ℕ) → flagged_end p (reduced row) ≡ flagged_end p row
unfolding flagged_end
flagged-reduced p row = rw (opcode-reduced row, cell-reduced row 18)

ends-reduced : (p : Profile) (x : ℕ) (rows : List (List ℕ)) → body_ends p x (map reduced rows) ≡ body_ends p x rows
unfolding body_ends
ends-reduced p x [] = refl
ends-reduced p x (row ∷ []) = refl
ends-reduced p x (row ∷ next ∷ rows) = rw (flagged-reduced p row, cell-reduced next 6, ends-reduced p x (next ∷ rows))

reduced-pick : (t : Bool) (l m : List ℕ) → reduced (pick t l m) ≡ pick t (reduced l) (reduced m)
reduced-pick true l m = refl
reduced-pick false l m = refl

counts-reduced : (p : Profile) (m : ℕ → ℕ) (rows : List (List ℕ)) → ((x : ℕ) → m x < P) → map reduced (with_counts p m rows) ≡ with_counts p m (map reduced rows)
unfolding with_counts
counts-reduced p m [] k = refl
counts-reduced p m (row ∷ []) k = refl
counts-reduced p m (row ∷ next ∷ rows) k =
    let count : ℕ = m (addr_of next) in
    rw (opcode-reduced row, cell-reduced next 6, ← counts-reduced p m (next ∷ rows) k, ← reduced-set row 23 count (k (addr_of next)), reduced-pick _ (set row 23 count) row)

without-reduced : (p : Profile) (m : ℕ → ℕ) (rows : List (List ℕ)) → any_without_body p m (map reduced rows) ≡ any_without_body p m rows
unfolding any_without_body
without-reduced p m [] = refl
without-reduced p m (row ∷ []) = refl
without-reduced p m (row ∷ next ∷ rows) = rw (opcode-reduced row, cell-reduced next 6, without-reduced p m (next ∷ rows))

-- a count is at most the number of rows
multiplied-reduced : (p : Profile) (rows : List (List ℕ)) → length rows < P → map reduced (multiplied p rows) ≡ multiplied p (map reduced rows)
unfolding multiplied
multiplied-reduced p rows few =
    counts-reduced p (λ x. body_ends p x rows) rows (λ x. omega (arith, ends-most p x rows))
    ∙ ap (λ m. with_counts p m (map reduced rows)) (fun_ext (λ x. sym (ends-reduced p x rows)))

loop-reduced : (p : Profile) (rows : List (List ℕ)) → loop_without_body p (map reduced rows) ≡ loop_without_body p rows
unfolding loop_without_body
loop-reduced p rows =
    without-reduced p (λ x. body_ends p x (map reduced rows)) rows ∙ ap (λ m. any_without_body p m rows) (fun_ext (λ x. ends-reduced p x rows))

-- PASS 3

inverted-reduced : (rows : List (List ℕ)) → map reduced (inverted rows) ≡ inverted (map reduced rows)
unfolding inverted cell_at
inverted-reduced [] = refl
inverted-reduced (row ∷ rows) =
    let x : ℕ = get_or row 48 0 in
    rw (reduced-set row 48 (inverse_of x) (inverse-below x), inverted-reduced rows, inverse-reduced x (get_or (reduced row) 48 0) (get_or-reduced row 48))

-- PASSES 4 AND 5

decoder-reduced : (p : Profile) (before : List ℕ) → reduced (halt_decoder p (reduced before)) ≡ reduced (halt_decoder p before)
unfolding halt_decoder decoder_cells control_flow reduced
decoder-reduced p before = simp number_read

last-reduced : (rows : List (List ℕ)) → last_row (map reduced rows) ≡ reduced (last_row rows)
unfolding last_row reduced
last-reduced [] = refl
last-reduced (row ∷ []) = refl
last-reduced (row ∷ next ∷ rows) = last-reduced (next ∷ rows)

halt-twice : (p : Profile) (built before : List ℕ) → reduced (halt_row p built before) ≡ halt_row p built before
unfolding halt_row
halt-twice p built before = reduced-twice _

halt-before : (p : Profile) (built before : List ℕ) → halt_row p built (reduced before) ≡ halt_row p built before
unfolding halt_row
halt-before p built before = simp (reduced-append, decoder-reduced)

halt-read : (p : Profile) (built before : List ℕ) → halt_row p (reduced built) before ≡ halt_row p built before
unfolding halt_row halt_stack
halt-read p built before = simp (reduced-append, reduced-take, reduced-drop, reduced-twice, cell-reduced)

halted-reduced : (p : Profile) (built : List ℕ) (rows : List (List ℕ)) → map reduced (halted p built rows) ≡ halted p built (map reduced rows)
unfolding halted
halted-reduced p built rows =
    rw (reduced-rows rows (halt_row p built (last_row rows) ∷ []), last-reduced rows, halt-before p built (last_row rows), halt-twice p built (last_row rows))

halted-read : (p : Profile) (built : List ℕ) → halted p (reduced built) ≡ halted p built
unfolding halted
halted-read p built = fun_ext (λ rows. rw (halt-read p built (last_row rows)))

padding-reduced : (p : Profile) (number : ℕ) (before : List ℕ) → reduced (padding_row p number before) ≡ padding_row p number (reduced before)
unfolding padding_row
padding-reduced p number before = simp (reduced-append, decoder-reduced, reduced-take, reduced-drop, reduced-twice)

paddings-reduced : (p : Profile) (n number : ℕ) (before : List ℕ) → map reduced (padding_rows p n number before) ≡ padding_rows p n number (reduced before)
unfolding padding_rows
paddings-reduced p zero number before = refl
paddings-reduced p (suc n) number before = ap₂ (λ x y. x ∷ y) (padding-reduced p number before) (paddings-reduced p n (suc number) before)

padded-reduced : (p : Profile) (height : ℕ) (rows : List (List ℕ)) → map reduced (padded p height rows) ≡ padded p height (map reduced rows)
unfolding padded
padded-reduced p height rows =
    let n : ℕ = length rows in
    rw (length-map rows reduced, last-reduced rows, reduced-rows rows (padding_rows p (height - n) n (last_row rows)), paddings-reduced p (height - n) n (last_row rows))

-- EACH PASS ON A BUFFER, WHERE NOTHING IS REFUSED

pass1-reduced : (n size : ℕ) (top : List ℕ) (m : ℕ) (built buffer : List ℕ)
    → reduced (on_rows n (fixed_up size top (built_of m built)) buffer) ≡ on_rows n (fixed_up size top (built_of m built)) (reduced buffer)
pass1-reduced n size top m built buffer =
    on-rows-reduced n (fixed_up size top (built_of m built)) buffer
    (fixed-reduced size top (built_of m built) (rows_of n buffer) ∙ ap (λ lasts. fixed_up size top lasts (map reduced (rows_of n buffer))) (built-reduced m built))

pass2-reduced : (p : Profile) (n : ℕ) (buffer : List ℕ) → n < P → reduced (on_rows n (multiplied p) buffer) ≡ on_rows n (multiplied p) (reduced buffer)
pass2-reduced p n buffer few = on-rows-reduced n (multiplied p) buffer (multiplied-reduced p (rows_of n buffer) (rw (length-rows n buffer) few))

pass3-reduced : (n : ℕ) (buffer : List ℕ) → reduced (on_rows n inverted buffer) ≡ on_rows n inverted (reduced buffer)
pass3-reduced n buffer = on-rows-reduced n inverted buffer (inverted-reduced (rows_of n buffer))

pass4-reduced : (p : Profile) (n : ℕ) (built buffer : List ℕ) → reduced (on_rows n (halted p built) buffer) ≡ on_rows n (halted p built) (reduced buffer)
pass4-reduced p n built buffer = on-rows-reduced n (halted p built) buffer (halted-reduced p built (rows_of n buffer))

pass5-reduced : (p : Profile) (n height : ℕ) (buffer : List ℕ) → reduced (on_rows n (padded p height) buffer) ≡ on_rows n (padded p height) (reduced buffer)
pass5-reduced p n height buffer = on-rows-reduced n (padded p height) buffer (padded-reduced p height (rows_of n buffer))

all-reduced : (p : Profile) (size : ℕ) (counts built top : List ℕ) (height : ℕ) (buffer : List ℕ) → sum_of counts < P
    → reduced (all_passes p size counts built top height buffer) ≡ all_passes p size counts built top height (reduced buffer)
unfolding all_passes
all-reduced p size counts built top height buffer few = rw (pass5-reduced, pass4-reduced, pass3-reduced, pass2-reduced, pass1-reduced)

-- THE NUMBERS ANSWERED

refusal1-built : (buffer : List ℕ) (size : ℕ) (counts built : List ℕ) → refusal1 buffer size counts (reduced built) ≡ refusal1 buffer size counts built
unfolding refusal1 fragments_wrong
refusal1-built buffer size counts built = rw (length-reduced built)

refusal1-buffer : (buffer : List ℕ) (size : ℕ) (counts built : List ℕ) → refusal1 (reduced buffer) size counts built ≡ refusal1 buffer size counts built
unfolding refusal1
refusal1-buffer buffer size counts built = rw (length-reduced buffer)

pub refusal1-reduced : (buffer : List ℕ) (size : ℕ) (counts built : List ℕ) → refusal1 (reduced buffer) size counts (reduced built) ≡ refusal1 buffer size counts built
refusal1-reduced buffer size counts built = refusal1-buffer buffer size counts (reduced built) ∙ refusal1-built buffer size counts built

pub refusal2-reduced : (p : Profile) (buffer : List ℕ) (rows : ℕ) → refusal2 p (reduced buffer) rows ≡ refusal2 p buffer rows
unfolding refusal2
refusal2-reduced p buffer rows = rw (length-reduced buffer, rows-reduced rows buffer, loop-reduced p (rows_of rows buffer))

pub refusal3-reduced : (buffer : List ℕ) (rows : ℕ) → refusal3 (reduced buffer) rows ≡ refusal3 buffer rows
unfolding refusal3
refusal3-reduced buffer rows = rw (length-reduced buffer)

pub refusal4-reduced : (p : Profile) (buffer : List ℕ) (rows : ℕ) → refusal4 p (reduced buffer) rows ≡ refusal4 p buffer rows
unfolding refusal4
refusal4-reduced p buffer rows = rw (length-reduced buffer)

pub refusal5-reduced : (p : Profile) (buffer : List ℕ) (rows height : ℕ) → refusal5 p (reduced buffer) rows height ≡ refusal5 p buffer rows height
unfolding refusal5
refusal5-reduced p buffer rows height = rw (length-reduced buffer)

refusal_all-built : (p : Profile) (buffer : List ℕ) (size : ℕ) (counts built : List ℕ) (height : ℕ)
    → refusal_all p buffer size counts (reduced built) height ≡ refusal_all p buffer size counts built height
unfolding refusal_all fragments_wrong
refusal_all-built p buffer size counts built height = rw (length-reduced built)

refusal_all-buffer : (p : Profile) (buffer : List ℕ) (size : ℕ) (counts built : List ℕ) (height : ℕ)
    → refusal_all p (reduced buffer) size counts built height ≡ refusal_all p buffer size counts built height
unfolding refusal_all
refusal_all-buffer p buffer size counts built height =
    rw (length-reduced buffer, rows-reduced (sum_of counts) buffer, loop-reduced p (rows_of (sum_of counts) buffer))

pub refusal_all-reduced : (p : Profile) (buffer : List ℕ) (size : ℕ) (counts built : List ℕ) (height : ℕ)
    → refusal_all p (reduced buffer) size counts (reduced built) height ≡ refusal_all p buffer size counts built height
refusal_all-reduced p buffer size counts built height =
    refusal_all-buffer p buffer size counts (reduced built) height ∙ refusal_all-built p buffer size counts built height

-- THE BUILT CELLS AND THE FIRST STACK TOP

pub left1-inputs : (size : ℕ) (counts built top buffer : List ℕ) → left1 size counts (reduced built) (reduced top) buffer ≡ left1 size counts built top buffer
unfolding left1
left1-inputs size counts built top buffer =
    let n : ℕ = length counts - 1 in
    rw (refusal1-built buffer size counts built, built-read n built, fixed-read size top (built_of n built))

pub left4-inputs : (p : Profile) (rows : ℕ) (built buffer : List ℕ) → left4 p rows (reduced built) buffer ≡ left4 p rows built buffer
unfolding left4
left4-inputs p rows built buffer = rw (halted-read p built)

last-read : (counts built : List ℕ) → last_built counts (reduced built) ≡ reduced (last_built counts built)
unfolding last_built
last-read counts built = simp (reduced-take, reduced-drop)

pub left_all-inputs : (p : Profile) (size : ℕ) (counts built top : List ℕ) (height : ℕ) (buffer : List ℕ)
    → left_all p size counts (reduced built) (reduced top) height buffer ≡ left_all p size counts built top height buffer
unfolding left_all all_passes
left_all-inputs p size counts built top height buffer =
    let n : ℕ = length counts - 1 in
    rw (refusal_all-built p buffer size counts built height, last-read counts built, halted-read p (last_built counts built), built-read n built, fixed-read size top (built_of n built))

-- THE BUFFER

-- a refused call leaves the buffer, and else only what the call writes is to be seen to
unless-reduced : (number read : ℕ) (before after other : List ℕ) → read ≡ number → (number ≡ 0 → reduced after ≡ other)
    → reduced (unless_refused number before after) ≡ unless_refused read (reduced before) other
unless-reduced zero read before after other e h = rw e (h refl)
unless-reduced (suc n) read before after other e h = rw e

pub left1-reduced : (size : ℕ) (counts built top buffer : List ℕ) → reduced (left1 size counts built top buffer) ≡ left1 size counts built top (reduced buffer)
unfolding left1
left1-reduced size counts built top buffer =
    unless-reduced _ _ _ _ _ (refusal1-buffer buffer size counts built) (λ _. pass1-reduced (sum_of counts) size top (length counts - 1) built buffer)

pub left2-reduced : (p : Profile) (rows : ℕ) (buffer : List ℕ) → reduced (left2 p rows buffer) ≡ left2 p rows (reduced buffer)
unfolding left2
left2-reduced p rows buffer =
    unless-reduced _ _ _ _ _ (refusal2-reduced p buffer rows) (λ e. pass2-reduced p rows buffer (omega (arith, (held-2 p buffer rows e).few)))

pub left3-reduced : (rows : ℕ) (buffer : List ℕ) → reduced (left3 rows buffer) ≡ left3 rows (reduced buffer)
unfolding left3
left3-reduced rows buffer = unless-reduced _ _ _ _ _ (refusal3-reduced buffer rows) (λ _. pass3-reduced rows buffer)

pub left4-reduced : (p : Profile) (rows : ℕ) (built buffer : List ℕ) → reduced (left4 p rows built buffer) ≡ left4 p rows built (reduced buffer)
unfolding left4
left4-reduced p rows built buffer = unless-reduced _ _ _ _ _ (refusal4-reduced p buffer rows) (λ _. pass4-reduced p rows built buffer)

pub left5-reduced : (p : Profile) (rows height : ℕ) (buffer : List ℕ) → reduced (left5 p rows height buffer) ≡ left5 p rows height (reduced buffer)
unfolding left5
left5-reduced p rows height buffer = unless-reduced _ _ _ _ _ (refusal5-reduced p buffer rows height) (λ _. pass5-reduced p rows height buffer)

pub left_all-reduced : (p : Profile) (size : ℕ) (counts built top : List ℕ) (height : ℕ) (buffer : List ℕ)
    → reduced (left_all p size counts built top height buffer) ≡ left_all p size counts built top height (reduced buffer)
unfolding left_all
left_all-reduced p size counts built top height buffer =
    unless-reduced _ _ _ _ _ (refusal_all-buffer p buffer size counts built height) (λ e. all-reduced p size counts built top height buffer (few e))
  where
    few : refusal_all p buffer size counts built height ≡ 0 → sum_of counts < P
    few e = omega (arith, (sum-held (length buffer) size counts built (passed-all p buffer size counts built height e).fragments).few)
