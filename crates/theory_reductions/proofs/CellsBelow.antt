-- "Every cell that a call writes is reduced": rows of cells below p stay so through the five passes, whatever built cells and first stack top they
-- are given.
use mathlib.Core.Bool.{Bool, true, false, ◌&&◌}
use mathlib.Core.List.{List, [], ◌∷◌, ◌++◌}
use Prim.Native.Nat.{ℕ, zero, suc, pred, ◌-◌, ◌≤◌, ◌<◌}
use native.Mathlib.Omega.{arith}
use lib.Dec.{eqb}
use lib.ListN.{length, take, drop, get_or, set}
use Rattle.field.specs.Modulus.{P}
use Rattle.field.specs.Cells.{reduced}
use Rattle.field.specs.Inverse.{inverse_of}
use Rattle.field.proofs.CellLaws.{read_below}
use Rattle.field.proofs.InverseLaws.{inverse-below}
use Rattle.groups.specs.Answer.{pick}
use Rattle.rows.specs.declared.records.profile.Profile.{Profile}
use Rattle.rows.specs.records.Built.{reversed16}
use Rattle.rows.specs.records.Buffers.{flat, last_row, addr_of, opcode_of}
use Rattle.rows.specs.passes.Passes.{with_sides, first_row, later_rows, fixed_up, flagged_end, body_ends, with_counts, multiplied, inverted, halt_row, halted, padding_row, padding_rows, padded}
use Rattle.theory_reductions.specs.Below.{Below, BelowAll}

-- reduced cells are below p
pub below-reduced : (l : List ℕ) → Below (reduced l)
unfolding reduced Below
below-reduced [] = tt
below-reduced (x ∷ l) = (read_below x, below-reduced l)

pub below_app : (l m : List ℕ) → Below l → Below m → Below (l ++ m)
unfolding Below
below_app [] m h k = k
below_app (x ∷ l) m h k = (h.0, below_app l m h.1 k)

pub below-all-app : (l m : List (List ℕ)) → BelowAll l → BelowAll m → BelowAll (l ++ m)
unfolding BelowAll
below-all-app [] m h k = k
below-all-app (x ∷ l) m h k = (h.0, below-all-app l m h.1 k)

pub below-take : (n : ℕ) (l : List ℕ) → Below l → Below (take n l)
unfolding Below
below-take zero l h = tt
below-take (suc n) [] h = tt
below-take (suc n) (x ∷ l) h = (h.0, below-take n l h.1)

pub below-drop : (n : ℕ) (l : List ℕ) → Below l → Below (drop n l)
unfolding Below
below-drop zero l h = h
below-drop (suc n) [] h = tt
below-drop (suc n) (x ∷ l) h = below-drop n l h.1

below_set : (l : List ℕ) (i v : ℕ) → v < P → Below l → Below (set l i v)
unfolding Below
below_set [] i v e h = tt
below_set (x ∷ l) zero v e h = (e, h.1)
below_set (x ∷ l) (suc i) v e h = (h.0, below_set l i v e h.1)

pub below-flat : (rows : List (List ℕ)) → BelowAll rows → Below (flat rows)
unfolding flat BelowAll Below
below-flat [] h = tt
below-flat (row ∷ rows) h = below_app row (flat rows) h.0 (below-flat rows h.1)

-- PASS 1

below-sides : (system stack row : List ℕ) → Below system → Below stack → Below row → Below (with_sides system stack row)
unfolding with_sides
below-sides system stack row s k h = below_app (system ++ take 24 (drop 6 row)) stack (below_app system (take 24 (drop 6 row)) s (below-take 24 (drop 6 row) (below-drop 6 row h))) k

below-later : (rows lasts : List (List ℕ)) (size left : ℕ) → BelowAll lasts → BelowAll rows → BelowAll (later_rows size left lasts rows)
unfolding BelowAll later_rows
below-later [] lasts size left c h = tt
below-later (row ∷ rows) lasts size (suc left) c h = (h.0, below-later rows lasts size left c h.1)
below-later (row ∷ rows) [] size zero c h = (h.0, below-later rows [] size zero tt h.1)
below-later (row ∷ rows) (last ∷ lasts) size zero c h =
    (below-sides (take 6 last) (drop 6 last) row (below-take 6 last c.0) (below-drop 6 last c.0) h.0, below-later rows lasts size (pred size) c.1 h.1)

pub below-fixed : (rows lasts : List (List ℕ)) (size : ℕ) (top : List ℕ) → BelowAll lasts → BelowAll rows → BelowAll (fixed_up size top lasts rows)
unfolding BelowAll fixed_up first_row
below-fixed [] lasts size top c h = tt
below-fixed (row ∷ rows) lasts size top c h =
    (below-sides (take 6 row) (reduced (reversed16 top ++ (16 ∷ 0 ∷ 0 ∷ []))) row (below-take 6 row h.0) (below-reduced (reversed16 top ++ (16 ∷ 0 ∷ 0 ∷ []))) h.0, below-later rows lasts size (pred size) c h.1)

-- PASS 2: a count is at most the number of rows

pick-one : (t : Bool) → pick t 1 0 ≤ 1
pick-one true = omega arith
pick-one false = omega arith

pub ends-most : (p : Profile) (x : ℕ) (rows : List (List ℕ)) → body_ends p x rows ≤ length rows
unfolding body_ends
ends-most p x [] = omega arith
ends-most p x (row ∷ []) = omega arith
ends-most p x (row ∷ next ∷ rows) = omega (arith, pick-one (flagged_end p row && eqb (addr_of next) x), ends-most p x (next ∷ rows))

below-pick : (t : Bool) (row : List ℕ) (v : ℕ) → v < P → Below row → Below (pick t (set row 23 v) row)
below-pick true row v e h = below_set row 23 v e h
below-pick false row v e h = h

below-counts : (p : Profile) (m : ℕ → ℕ) (rows : List (List ℕ)) → ((x : ℕ) → m x < P) → BelowAll rows → BelowAll (with_counts p m rows)
unfolding BelowAll with_counts
below-counts p m [] k h = tt
below-counts p m (row ∷ []) k h = h
below-counts p m (row ∷ next ∷ rows) k h =
    (below-pick (eqb (opcode_of row) p.loop_op) row (m (addr_of next)) (k (addr_of next)) h.0, below-counts p m (next ∷ rows) k h.1)

pub below-multiplied : (p : Profile) (rows : List (List ℕ)) → length rows < P → BelowAll rows → BelowAll (multiplied p rows)
unfolding multiplied
below-multiplied p rows few h = below-counts p (λ x. body_ends p x rows) rows (λ x. omega (arith, ends-most p x rows)) h

-- PASS 3

pub below-inverted : (rows : List (List ℕ)) → BelowAll rows → BelowAll (inverted rows)
unfolding BelowAll inverted
below-inverted [] h = tt
below-inverted (row ∷ rows) h = (below_set row 48 (inverse_of (get_or row 48 0)) (inverse-below (get_or row 48 0)) h.0, below-inverted rows h.1)

-- PASSES 4 AND 5

pub below-halted : (p : Profile) (built : List ℕ) (rows : List (List ℕ)) → BelowAll rows → BelowAll (halted p built rows)
unfolding halted halt_row BelowAll
below-halted p built rows h = below-all-app rows (halt_row p built (last_row rows) ∷ []) h (below-reduced _, tt)

below-paddings : (p : Profile) (n number : ℕ) (before : List ℕ) → BelowAll (padding_rows p n number before)
unfolding padding_rows padding_row BelowAll
below-paddings p zero number before = tt
below-paddings p (suc n) number before = (below-reduced _, below-paddings p n (suc number) before)

pub below-padded : (p : Profile) (height : ℕ) (rows : List (List ℕ)) → BelowAll rows → BelowAll (padded p height rows)
unfolding padded
below-padded p height rows h =
    below-all-app rows (padding_rows p (height - length rows) (length rows) (last_row rows)) h (below-paddings p (height - length rows) (length rows) (last_row rows))
