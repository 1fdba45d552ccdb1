-- Laws of the cells at the two sides of a row: written by copies, they are the row with other sides.
use mathlib.Core.Path.{◌≡◌, ◌∙◌, sym, ap}
use mathlib.Core.List.{List, [], ◌∷◌, ◌++◌, append_assoc}
use Prim.Native.Nat.{ℕ, zero, suc, ◌+◌, ◌*◌, ◌≤◌}
use native.Mathlib.Nat.{zero-add, suc-add}
use native.Mathlib.Omega.{arith}
use lib.ListN.{length, take, drop, length-append, length-drop}
use lib.Seq.{paste, length_paste_head, take-length, take-take, take-add, take-nil, drop-nil, drop-drop, take-append-add, drop-append-add, length-take-le}
use Rattle.rows.specs.records.Cells.{put_row}
use Rattle.rows.specs.passes.Passes.{with_sides}

drop-take : (i n : ℕ) (l : List ℕ) → drop i (take (i + n) l) ≡ take n (drop i l)
drop-take zero n l = ap (λ k. take k l) (zero-add n)
drop-take (suc i) n [] = rw (take-nil, drop-nil, take-nil)
drop-take (suc i) n (x ∷ l) = rw suc-add (drop-take i n l)

-- the decoder cells of a row of a buffer
decoder : (l : List ℕ) → take 24 (drop 6 (take 49 l)) ≡ take 24 (drop 6 l)
decoder l = ap (take 24) (drop-take 6 43 l) ∙ take-take 24 43 (drop 6 l) (omega arith)

-- row 0 with other stack cells
pub stack-copied : (buffer stack : List ℕ) → length stack ≡ 19 → paste buffer 30 stack (length stack) ≡ put_row buffer 0 (with_sides (take 6 (take 49 buffer)) stack (take 49 buffer))
unfolding put_row with_sides
stack-copied buffer stack e =
    let f : take 6 (take 49 buffer) ++ take 24 (drop 6 (take 49 buffer)) ≡ take 30 buffer =
    sym (take-add 6 24 (take 49 buffer)) ∙ take-take 30 49 buffer (omega arith) in
    rw (take-length, e, f)

-- a row with other system and stack cells
pub sides-copied : (buffer system stack : List ℕ) (row : ℕ) → 49 * row + 49 ≤ length buffer → length system ≡ 6 → length stack ≡ 19
    → paste (paste buffer (49 * row) system (length system)) (49 * row + 30) stack (length stack)
    ≡ put_row buffer row (with_sides system stack (take 49 (drop (49 * row) buffer)))
unfolding put_row with_sides
sides-copied buffer system stack row h e f =
    let front : List ℕ = take (49 * row) buffer ++ system in
    let behind : List ℕ = drop (49 * row + 6) buffer in
    let long : length front ≡ 49 * row + 6 = length-append (take (49 * row) buffer) system ∙ omega (arith, length-take-le (49 * row) buffer (omega arith)) in
    let a : 49 * row + 30 ≡ length front + 24 = omega arith in
    let b : length front + 24 + 19 ≡ length front + 43 = omega arith in
    let d : 49 * row + 6 + 43 ≡ 49 * row + 49 = omega arith in
    rw (take-length, take-length, e, f, a, b, take-append-add front behind 24, drop-append-add front behind 43, drop-drop 43 (49 * row + 6) buffer, d, decoder, drop-drop 6 (49 * row) buffer)
    (simp append_assoc)

-- cells copied in leave the length
pub length-paste : (buffer : List ℕ) (at : ℕ) (cells : List ℕ) → at + length cells ≤ length buffer → length (paste buffer at cells (length cells)) ≡ length buffer
length-paste buffer at cells h =
    let front = length_paste_head buffer at cells (length cells) (omega arith) (omega arith) in
    let behind = length-drop (at + length cells) buffer in
    length-append (take at buffer ++ take (length cells) cells) (drop (at + length cells) buffer) ∙ omega (arith, front, behind)
