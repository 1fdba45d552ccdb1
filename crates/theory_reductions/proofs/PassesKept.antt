-- "Every cell that a call writes is reduced; cells it does not write stay" (N2): what each of the five passes, and the finisher, leaves of a
-- buffer, refused or not.
use mathlib.Core.Path.{◌≡◌, ◌∙◌, refl, sym, ap}
use mathlib.Core.Logic.{◌⊎◌, inl, inr}
use mathlib.Core.Bool.{Bool, true, false}
use mathlib.Core.List.{List, [], ◌∷◌, ◌++◌}
use Prim.Native.Nat.{ℕ, zero, suc, pred, ◌+◌, ◌-◌, ◌*◌, ◌≤◌, ◌<◌}
use native.Mathlib.Nat.{zero-add, suc-add}
use native.Mathlib.Omega.{arith}
use lib.Dec.{eqb}
use lib.ListN.{length, take, drop, get_or, set, length-append, length-take, length-drop, take-append-drop}
use lib.Seq.{take-add, length-take-le}
use Rattle.field.specs.Modulus.{P}
use Rattle.field.specs.Cells.{reduced}
use Rattle.field.specs.Inverse.{inverse_of}
use Rattle.field.proofs.CellLaws.{length-reduced}
use Rattle.field.proofs.InverseLaws.{inverse-below}
use Rattle.groups.specs.Answer.{pick}
use Rattle.rows.specs.declared.records.profile.Profile.{Profile}
use Rattle.rows.specs.records.DecoderRows.{control_flow, decoder_cells}
use Rattle.rows.specs.records.Built.{reversed16}
use Rattle.rows.specs.records.Buffers.{rows_of, flat, on_rows, last_row, addr_of, opcode_of}
use Rattle.rows.specs.passes.Passes.{with_sides, first_row, later_rows, fixed_up, built_of, body_ends, with_counts, multiplied, inverted}
use Rattle.rows.specs.passes.Passes.{halt_decoder, halt_stack, halt_row, halted, padding_row, padding_rows, padded, last_built, all_passes}
use Rattle.rows.specs.passes.Passes.{sum_of, refusal1, refusal2, refusal3, refusal4, refusal5, refusal_all, unless_refused}
use Rattle.rows.proofs.passes.Counts.{fits, passed}
use Rattle.rows.proofs.passes.Finishing.{Ready, ready, held-2, passed-all, sum-uncapped}
use Rattle.rows.proofs.passes.Refusals.{fits4, fits5}
use Rattle.rows.proofs.passes.RowLists.{Wide, length-rows, wide_rows, as_rows, drop-rows, length_last}
use Rattle.theory_reductions.specs.Below.{Below}
use Rattle.theory_reductions.specs.Left.{Kept, left1, left2, left3, left4, left5, left_all}
use Rattle.theory_reductions.proofs.CellsBelow.{below-reduced, below-take, below-drop, ends-most}

-- CELLS

-- nothing is written
pub stays : (l : List ℕ) → Kept l l
stays l = record { size = refl; cells = λ i. inl refl }

pub kept_trans : (a b c : List ℕ) → Kept a b → Kept b c → Kept a c
kept_trans a b c k h = record { size = h.size ∙ k.size; cells = λ i. go i (h.cells i) (k.cells i) }
  where
    go : (i : ℕ) → (get_or c i 0 ≡ get_or b i 0) ⊎ (get_or c i 0 < P) → (get_or b i 0 ≡ get_or a i 0) ⊎ (get_or b i 0 < P) → (get_or c i 0 ≡ get_or a i 0) ⊎ (get_or c i 0 < P)
    go i (inl e) (inl f) = inl (e ∙ f)
    go i (inl e) (inr l) = inr (rw e l)
    go i (inr l) f = inr l

kept_cons : (x y : ℕ) (l m : List ℕ) → (y ≡ x) ⊎ (y < P) → Kept l m → Kept (x ∷ l) (y ∷ m)
kept_cons x y l m t k = record { size = ap suc k.size; cells = at }
  where
    at : (i : ℕ) → (get_or (y ∷ m) i 0 ≡ get_or (x ∷ l) i 0) ⊎ (get_or (y ∷ m) i 0 < P)
    at zero = t
    at (suc i) = k.cells i

pub kept-app : (a b c d : List ℕ) → Kept a b → Kept c d → Kept (a ++ c) (b ++ d)
kept-app [] [] c d k h = h
kept-app [] (y ∷ b) c d k h = absurd (omega (arith, k.size))
kept-app (x ∷ a) [] c d k h = absurd (omega (arith, k.size))
kept-app (x ∷ a) (y ∷ b) c d k h =
    kept_cons x y (a ++ c) (b ++ d) (k.cells 0) (kept-app a b c d (record { size = omega (arith, k.size); cells = λ i. k.cells (suc i) }) h)

-- all is written
pub all-written : (l m : List ℕ) → length m ≡ length l → Below m → Kept l m
unfolding Below
all-written [] [] e h = stays []
all-written [] (y ∷ m) e h = absurd (omega arith)
all-written (x ∷ l) [] e h = absurd (omega arith)
all-written (x ∷ l) (y ∷ m) e h = kept_cons x y l m (inr h.0) (all-written l m (omega arith) h.1)

-- one cell is written
pub set-kept : (l : List ℕ) (i v : ℕ) → v < P → Kept l (set l i v)
set-kept [] i v h = stays []
set-kept (x ∷ l) zero v h = kept_cons x v l l (inr h) (stays l)
set-kept (x ∷ l) (suc i) v h = kept_cons x x l (set l i v) (inl refl) (set-kept l i v h)

-- ROWS

data KeptRows : List (List ℕ) → List (List ℕ) → Type 0 where
  none : KeptRows [] []
  more : {row new : List ℕ} {rows news : List (List ℕ)} → Kept row new → KeptRows rows news → KeptRows (row ∷ rows) (new ∷ news)

rows_stay : (rows : List (List ℕ)) → KeptRows rows rows
rows_stay [] = none
rows_stay (row ∷ rows) = more (stays row) (rows_stay rows)

rows-kept-app : {a b c d : List (List ℕ)} → KeptRows a b → KeptRows c d → KeptRows (a ++ c) (b ++ d)
rows-kept-app none h = h
rows-kept-app (more k r) h = more k (rows-kept-app r h)

rows-kept-length : {a b : List (List ℕ)} → KeptRows a b → length b ≡ length a
rows-kept-length none = refl
rows-kept-length (more k r) = ap suc (rows-kept-length r)

flat-kept : {a b : List (List ℕ)} → KeptRows a b → Kept (flat a) (flat b)
unfolding flat
flat-kept none = stays []
flat-kept (more k r) = kept-app _ _ _ _ k (flat-kept r)

rows-add : (n m : ℕ) (b : List ℕ) → rows_of (n + m) b ≡ rows_of n b ++ rows_of m (drop (49 * n) b)
unfolding rows_of
rows-add zero m b = rw zero-add
rows-add (suc n) m b = rw (suc-add, rows-add n m (drop 49 b), drop-rows n b)

-- where f makes the first m rows of a buffer's first n
on-rows-kept : (n m : ℕ) (f : List (List ℕ) → List (List ℕ)) (b : List ℕ) → KeptRows (rows_of m b) (f (rows_of n b)) → Kept b (on_rows n f b)
unfolding on_rows
on-rows-kept n m f b k =
    let e : length (f (rows_of n b)) ≡ m = rows-kept-length k ∙ length-rows m b in
    let rest : List ℕ = drop (49 * m) b in
    rw e (rw (← as_rows m b) at (kept-app (flat (rows_of m b)) (flat (f (rows_of n b))) rest rest (flat-kept k) (stays rest)))

-- PASS 1

-- a row gets other system and stack cells
sides-kept : (system stack row : List ℕ) → length row ≡ 49 → length stack ≡ 19 → Kept (take 6 row) system → Below stack → Kept row (with_sides system stack row)
unfolding with_sides
sides-kept system stack row w e k h =
    let decoder : List ℕ = take 24 (drop 6 row) in
    let parts : take 6 row ++ decoder ++ drop 30 row ≡ row = rw (← take-add 6 24 row) (take-append-drop 30 row) in
    let front : Kept (take 6 row ++ decoder) (system ++ decoder) = kept-app (take 6 row) system decoder decoder k (stays decoder) in
    let behind : Kept (drop 30 row) stack = all-written (drop 30 row) stack (omega (arith, length-drop 30 row)) h in
    rw parts at (kept-app (take 6 row ++ decoder) (system ++ decoder) (drop 30 row) stack front behind)

-- each has 25 cells below p
unfoldable Built : List (List ℕ) → Type 0
Built [] = Unit {0}
Built (cells ∷ others) = (length cells ≡ 25) × Below cells × Built others

built-cells : (n : ℕ) (built : List ℕ) → 25 * n ≤ length built → Built (built_of n built)
unfolding built_of Built
built-cells zero built h = tt
built-cells (suc n) built h =
    (length-reduced (take 25 built) ∙ length-take-le 25 built (omega arith), below-reduced (take 25 built), built-cells n (drop 25 built) (omega (arith, length-drop 25 built)))

first-kept : (top row : List ℕ) → length row ≡ 49 → Kept row (first_row top row)
unfolding first_row
first-kept top row w =
    let stack : List ℕ = reversed16 top ++ (16 ∷ 0 ∷ 0 ∷ []) in
    sides-kept (take 6 row) (reduced stack) row w (length-reduced stack) (stays (take 6 row)) (below-reduced stack)

last-kept : (cells row : List ℕ) → length cells ≡ 25 → Below cells → length row ≡ 49 → Kept row (with_sides (take 6 cells) (drop 6 cells) row)
last-kept cells row e h w =
    sides-kept (take 6 cells) (drop 6 cells) row w (omega (arith, length-drop 6 cells))
    (all-written (take 6 row) (take 6 cells) (omega (arith, length-take 6 row, length-take 6 cells)) (below-take 6 cells h)) (below-drop 6 cells h)

later-kept : (rows lasts : List (List ℕ)) (size left : ℕ) → Wide rows → Built lasts → KeptRows rows (later_rows size left lasts rows)
unfolding later_rows Wide Built
later-kept [] lasts size left w h = none
later-kept (row ∷ rows) lasts size (suc left) w h = more (stays row) (later-kept rows lasts size left w.1 h)
later-kept (row ∷ rows) [] size zero w h = more (stays row) (later-kept rows [] size zero w.1 tt)
later-kept (row ∷ rows) (last ∷ lasts) size zero w h =
    more (last-kept last row h.0 h.1 w.0) (later-kept rows lasts size (pred size) w.1 h.2)

fixed_kept : (size : ℕ) (top : List ℕ) (lasts rows : List (List ℕ)) → Wide rows → Built lasts → KeptRows rows (fixed_up size top lasts rows)
unfolding fixed_up Wide
fixed_kept size top lasts [] w h = none
fixed_kept size top lasts (row ∷ rows) w h = more (first-kept top row w.0) (later-kept rows lasts size (pred size) w.1 h)

-- PASS 2

pub pick-kept : (t : Bool) (l m : List ℕ) → Kept l m → Kept l (pick t m l)
pick-kept true l m k = k
pick-kept false l m k = stays l

counts-kept : (p : Profile) (m : ℕ → ℕ) (rows : List (List ℕ)) → ((x : ℕ) → m x < P) → KeptRows rows (with_counts p m rows)
unfolding with_counts
counts-kept p m [] k = none
counts-kept p m (row ∷ []) k = more (stays row) none
counts-kept p m (row ∷ next ∷ rows) k =
    let count : ℕ = m (addr_of next) in
    more (pick-kept (eqb (opcode_of row) p.loop_op) row (set row 23 count) (set-kept row 23 count (k (addr_of next)))) (counts-kept p m (next ∷ rows) k)

multiplied-kept : (p : Profile) (rows : List (List ℕ)) → length rows < P → KeptRows rows (multiplied p rows)
unfolding multiplied
multiplied-kept p rows few = counts-kept p (λ x. body_ends p x rows) rows (λ x. omega (arith, ends-most p x rows))

-- PASS 3

inverted-kept : (rows : List (List ℕ)) → KeptRows rows (inverted rows)
unfolding inverted
inverted-kept [] = none
inverted-kept (row ∷ rows) = more (set-kept row 48 (inverse_of (get_or row 48 0)) (inverse-below (get_or row 48 0))) (inverted-kept rows)

-- PASSES 4 AND 5

halt-kept : (p : Profile) (built before row : List ℕ) → 25 ≤ length built → length row ≡ 49 → Kept row (halt_row p built before)
unfolding halt_row halt_decoder halt_stack decoder_cells control_flow
halt-kept p built before row h w =
    all-written row (halt_row p built before) (simp (length-reduced, length-append, length-take, length-drop) (omega arith)) (below-reduced _)

padding-kept : (p : Profile) (number : ℕ) (before row : List ℕ) → length before ≡ 49 → length row ≡ 49 → Kept row (padding_row p number before)
unfolding padding_row halt_decoder decoder_cells control_flow
padding-kept p number before row h w =
    all-written row (padding_row p number before) (simp (length-reduced, length-take, length-drop) (omega arith)) (below-reduced _)

paddings-kept : (p : Profile) (n number : ℕ) (before b : List ℕ) → length before ≡ 49 → 49 * n ≤ length b → KeptRows (rows_of n b) (padding_rows p n number before)
unfolding padding_rows rows_of
paddings-kept p zero number before b w h = none
paddings-kept p (suc n) number before b w h =
    more (padding-kept p number before (take 49 b) w (length-take-le 49 b (omega arith)))
    (paddings-kept p n (suc number) before (drop 49 b) w (omega (arith, length-drop 49 b)))

-- EACH PASS ON A BUFFER, WHERE NOTHING IS REFUSED

pass1-kept : (n size : ℕ) (top : List ℕ) (m : ℕ) (built b : List ℕ) → 49 * n ≤ length b → 25 * m ≤ length built → Kept b (on_rows n (fixed_up size top (built_of m built)) b)
pass1-kept n size top m built b h k =
    on-rows-kept n n (fixed_up size top (built_of m built)) b (fixed_kept size top (built_of m built) (rows_of n b) (wide_rows n b h) (built-cells m built k))

pass2-kept : (p : Profile) (n : ℕ) (b : List ℕ) → n < P → Kept b (on_rows n (multiplied p) b)
pass2-kept p n b few = on-rows-kept n n (multiplied p) b (multiplied-kept p (rows_of n b) (rw (length-rows n b) few))

pass3-kept : (n : ℕ) (b : List ℕ) → Kept b (on_rows n inverted b)
pass3-kept n b = on-rows-kept n n inverted b (inverted-kept (rows_of n b))

pass4-kept : (p : Profile) (n : ℕ) (built b : List ℕ) → 49 * n + 49 ≤ length b → 25 ≤ length built → Kept b (on_rows n (halted p built) b)
unfolding halted rows_of
pass4-kept p n built b h k =
    let row : List ℕ = take 49 (drop (49 * n) b) in
    let w : length row ≡ 49 = length-take-le 49 (drop (49 * n) b) (omega (arith, length-drop (49 * n) b)) in
    on-rows-kept n (n + 1) (halted p built) b
    (rw (rows-add n 1 b) (rows-kept-app (rows_stay (rows_of n b)) (more (halt-kept p built (last_row (rows_of n b)) row k w) none)))

pass5-kept : (p : Profile) (n height : ℕ) (b : List ℕ) → 0 < n → n ≤ height → 49 * height ≤ length b → Kept b (on_rows n (padded p height) b)
unfolding padded
pass5-kept p n height b some high h =
    let behind : List ℕ = drop (49 * n) b in
    let w : length (last_row (rows_of n b)) ≡ 49 = length_last n b some (omega arith) in
    let k = paddings-kept p (height - n) n (last_row (rows_of n b)) behind w (omega (arith, length-drop (49 * n) b)) in
    on-rows-kept n (n + (height - n)) (padded p height) b
    (rw (length-rows n b, rows-add n (height - n) b) (rows-kept-app (rows_stay (rows_of n b)) k))

-- THE CALLS, REFUSED OR NOT

unless-kept : (number : ℕ) (before after : List ℕ) → (number ≡ 0 → Kept before after) → Kept before (unless_refused number before after)
unless-kept zero before after h = h refl
unless-kept (suc n) before after h = stays before

pub left1-kept : (size : ℕ) (counts built top buffer : List ℕ) → Kept buffer (left1 size counts built top buffer)
unfolding left1
left1-kept size counts built top buffer = unless-kept (refusal1 buffer size counts built) buffer _ go
  where
    go : refusal1 buffer size counts built ≡ 0 → Kept buffer (on_rows (sum_of counts) (fixed_up size top (built_of (length counts - 1) built)) buffer)
    go e =
        let h = passed buffer size counts built e in
        let f = fits (length buffer) size counts built h.0 h.1 h.2 in
        pass1-kept (sum_of counts) size top (length counts - 1) built buffer f.in_buffer (omega (arith, f.in_built))

pub left2-kept : (p : Profile) (rows : ℕ) (buffer : List ℕ) → Kept buffer (left2 p rows buffer)
unfolding left2
left2-kept p rows buffer =
    unless-kept (refusal2 p buffer rows) buffer _ (λ e. let h = held-2 p buffer rows e in pass2-kept p rows buffer (omega arith))

pub left3-kept : (rows : ℕ) (buffer : List ℕ) → Kept buffer (left3 rows buffer)
unfolding left3
left3-kept rows buffer = unless-kept (refusal3 buffer rows) buffer _ (λ _. pass3-kept rows buffer)

-- the call takes an array of 25 built cells
pub left4-kept : (p : Profile) (rows : ℕ) (built buffer : List ℕ) → 25 ≤ length built → Kept buffer (left4 p rows built buffer)
unfolding left4
left4-kept p rows built buffer h = unless-kept (refusal4 p buffer rows) buffer _ (λ e. pass4-kept p rows built buffer (fits4 p buffer rows e) h)

pub left5-kept : (p : Profile) (rows height : ℕ) (buffer : List ℕ) → Kept buffer (left5 p rows height buffer)
unfolding left5
left5-kept p rows height buffer =
    unless-kept (refusal5 p buffer rows height) buffer _
    (λ e. let r = fits5 p buffer rows height e in pass5-kept p rows height buffer r.some r.high r.fits)

last_built_lem : (counts built : List ℕ) → 0 < length counts → 25 * length counts ≤ length built → 25 ≤ length (last_built counts built)
unfolding last_built
last_built_lem counts built some h = simp (length-take, length-drop) (omega arith)

all-kept : (p : Profile) (size : ℕ) (counts built top : List ℕ) (height : ℕ) (buffer : List ℕ) → Ready (length buffer) (sum_of counts) height counts built
    → Kept buffer (all_passes p size counts built top height buffer)
unfolding all_passes
all-kept p size counts built top height buffer r =
    let n : ℕ = sum_of counts in
    let m : ℕ = length counts - 1 in
    let b1 : List ℕ = on_rows n (fixed_up size top (built_of m built)) buffer in
    let b2 : List ℕ = on_rows n (multiplied p) b1 in
    let b3 : List ℕ = on_rows n inverted b2 in
    let b4 : List ℕ = on_rows n (halted p (last_built counts built)) b3 in
    let k1 : Kept buffer b1 = pass1-kept n size top m built buffer r.in_buffer (omega arith) in
    let k2 : Kept buffer b2 = kept_trans buffer b1 b2 k1 (pass2-kept p n b1 (omega arith)) in
    let k3 : Kept buffer b3 = kept_trans buffer b2 b3 k2 (pass3-kept n b2) in
    let h4 : Kept b3 b4 = pass4-kept p n (last_built counts built) b3 (omega arith) (last_built_lem counts built r.some r.in_built) in
    let k4 : Kept buffer b4 = kept_trans buffer b3 b4 k3 h4 in
    kept_trans buffer b4 _ k4 (pass5-kept p (n + 1) height b4 (omega arith) (omega arith) (omega arith))

pub left_all-kept : (p : Profile) (size : ℕ) (counts built top : List ℕ) (height : ℕ) (buffer : List ℕ) → Kept buffer (left_all p size counts built top height buffer)
unfolding left_all
left_all-kept p size counts built top height buffer =
    unless-kept (refusal_all p buffer size counts built height) buffer _ (λ e. all-kept p size counts built top height buffer (go e))
  where
    go : refusal_all p buffer size counts built height ≡ 0 → Ready (length buffer) (sum_of counts) height counts built
    go e =
        let s = passed-all p buffer size counts built height e in
        let sum = sum-uncapped (length buffer) size counts built s.fragments in
        ready (length buffer) size (sum_of counts) height counts built s.fragments s.height_right s.fragment s.full (sym sum)
