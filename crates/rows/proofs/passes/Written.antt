-- Writing counts into the LOOP rows of a buffer, row by row.
use mathlib.Core.Path.{◌≡◌, refl, sym, ◌∙◌, ap, fun_ext}
use mathlib.Core.Bool.{Bool, true, false}
use mathlib.Core.List.{List, [], ◌∷◌, ◌++◌, append_assoc}
use Prim.Native.Nat.{ℕ, suc, ◌+◌, ◌-◌, ◌*◌, ◌≤◌, ◌<◌}
use native.Mathlib.Omega.{arith}
use lib.ListN.{length, set, take, drop, take-append-drop, length-set}
use lib.Seq.{take-add, take-set-le, take-set-lt, drop-set-add, drop-set-lt}
use Rattle.rows.specs.declared.records.profile.Profile.{Profile}
use Rattle.groups.specs.Answer.{pick}
use Rattle.rows.specs.records.Buffers.{rows_of, flat, on_rows, buffer_row, addr_of}
use Rattle.rows.specs.passes.Passes.{body_ends, with_counts, multiplied}
use Rattle.rows.specs.ways.LoopCounts.{rows_from, is_loop, next_addr, ends_in, counted_from, Alike}
use Rattle.rows.proofs.passes.RowLists.{Wide, length-rows, flat_rows, on-rows}
use Rattle.rows.proofs.passes.RowsFrom.{counts_step, counts-last, rows-first, ends-alike}

counts-length : (p : Profile) (count : ℕ → ℕ) (rows : List (List ℕ)) → length (with_counts p count rows) ≡ length rows
unfolding with_counts
counts-length p count [] = refl
counts-length p count (row ∷ []) = refl
counts-length p count (row ∷ next ∷ rows) = ap suc (counts-length p count (next ∷ rows))

pick-wide : (t : Bool) (row : List ℕ) (v : ℕ) → length row ≡ 49 → length (pick t (set row 23 v) row) ≡ 49
pick-wide true row v h = length-set row 23 v ∙ h
pick-wide false row v h = h

counts-wide : (p : Profile) (count : ℕ → ℕ) (rows : List (List ℕ)) → Wide rows → Wide (with_counts p count rows)
unfolding with_counts Wide
counts-wide p count [] w = tt
counts-wide p count (row ∷ []) w = w
counts-wide p count (row ∷ next ∷ rows) w = (pick-wide (is_loop p row) row (count (addr_of next)) w.0, counts-wide p count (next ∷ rows) w.1)

pub multiplied-length : (p : Profile) (rows : List (List ℕ)) → length (multiplied p rows) ≡ length rows
unfolding multiplied
multiplied-length p rows = counts-length p (λ x. body_ends p x rows) rows

pub multiplied-wide : (p : Profile) (rows : List (List ℕ)) → Wide rows → Wide (multiplied p rows)
unfolding multiplied
multiplied-wide p rows w = counts-wide p (λ x. body_ends p x rows) rows w

-- the pass is that from the first row on
pub counted-first : (p : Profile) (rows : ℕ) (c : List ℕ) → on_rows rows (multiplied p) c ≡ counted_from p (ends_in p rows c) rows 0 c
unfolding on_rows multiplied counted_from
counted-first p rows c =
    on-rows rows (with_counts p (ends_in p rows c)) c (counts-length p (ends_in p rows c) (rows_of rows c) ∙ length-rows rows c) ∙ rw (rows-first rows c)

-- behind the last LOOP row nothing is left to do
pub counted-last : (p : Profile) (count : ℕ → ℕ) (rows i : ℕ) (c : List ℕ) → i ≤ rows → rows ≤ i + 1 → counted_from p count rows i c ≡ c
unfolding counted_from rows_from
counted-last p count rows i c l h =
    let e : 49 * i + 49 * (rows - i) ≡ 49 * rows = omega arith in
    rw (counts-last p count rows i c h, flat_rows (rows - i) (drop (49 * i) c), ← take-add (49 * i) (49 * (rows - i)) c, e)
    (take-append-drop (49 * rows) c)

module _ (p : Profile) (count : ℕ → ℕ) (rows i : ℕ) (c : List ℕ) (h : i + 1 < rows) where
  front : (a : List ℕ) → take (49 * (i + 1)) a ≡ take (49 * i) a ++ buffer_row i a
  unfolding buffer_row
  front a =
      let e : 49 * (i + 1) ≡ 49 * i + 49 = omega arith in
      rw (e, take-add (49 * i) 49 a)

  -- a row that is no LOOP row
  pub counted_skip : is_loop p (buffer_row i c) ≡ false → counted_from p count rows (i + 1) c ≡ counted_from p count rows i c
  unfolding counted_from flat
  counted_skip e = rw (counts_step p count rows i c h, e, front c) (simp append_assoc)

  module _ (v : ℕ) where
    set-row : buffer_row i (set c (49 * i + 23) v) ≡ set (buffer_row i c) 23 v
    unfolding buffer_row
    set-row = rw (drop-set-add (49 * i) c 23 v, take-set-lt 49 (drop (49 * i) c) 23 v (omega arith))

    set-behind : rows_from rows (i + 1) (set c (49 * i + 23) v) ≡ rows_from rows (i + 1) c
    unfolding rows_from
    set-behind = rw (drop-set-lt (49 * (i + 1)) c (49 * i + 23) v (omega arith))

    set_front : take (49 * (i + 1)) (set c (49 * i + 23) v) ≡ take (49 * i) c ++ set (buffer_row i c) 23 v
    set_front = front (set c (49 * i + 23) v) ∙ rw (set-row, take-set-le (49 * i) c (49 * i + 23) v (omega arith))

  -- a LOOP row that gets its count
  pub counted-loop : is_loop p (buffer_row i c) ≡ true → counted_from p count rows (i + 1) (set c (49 * i + 23) (count (next_addr i c))) ≡ counted_from p count rows i c
  unfolding counted_from flat
  counted-loop e =
      let v = count (next_addr i c) in
      rw (counts_step p count rows i c h, e, set_front v, set-behind v, drop-set-lt (49 * rows) c (49 * i + 23) v (omega arith)) (simp append_assoc)

-- the counts are those of a buffer that is alike
pub counted-on : (p : Profile) (rows from next : ℕ) (old now first all : List ℕ) → Alike old first → counted_from p (ends_in p rows old) rows next now ≡ counted_from p (ends_in p rows old) rows from old
    → counted_from p (ends_in p rows first) rows from old ≡ all → counted_from p (ends_in p rows first) rows next now ≡ all
counted-on p rows from next old now first all g e f =
    let s : ends_in p rows first ≡ ends_in p rows old = sym (fun_ext (λ x. ends-alike p x rows old first g)) in
    ap (λ count. counted_from p count rows next now) s ∙ e ∙ ap (λ count. counted_from p count rows from old) (sym s) ∙ f
