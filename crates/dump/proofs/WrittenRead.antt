-- "so that the reduced cells come back for every buffer of at least one row": the rows of a dump that is written are cells below p, at least one row, and
-- their cells are the buffer's reduced cells.
use mathlib.Core.Path.{◌≡◌, ◌∙◌, refl, sym, ap}
use mathlib.Core.Bool.{false}
use mathlib.Core.List.{List, [], ◌∷◌}
use Prim.Native.Nat.{ℕ, zero, suc, ◌*◌, ◌/◌, ◌≤◌}
use native.Mathlib.Omega.{arith}
use lib.ListN.{length, take, drop, length-drop}
use lib.Seq.{length-take-le, take_all}
use Rattle.field.specs.Cells.{reduced}
use Rattle.field.proofs.CellLaws.{length-reduced, reduced-take, reduced-drop}
use Rattle.rows.specs.records.Buffers.{rows_of, flat}
use Rattle.rows.proofs.passes.RowLists.{length-rows, flat_rows}
use Rattle.theory_readings.specs.Readings.{all_rows}
use Rattle.theory_dumps.specs.Dumps.{dump}
use Rattle.theory_dumps.proofs.ReadBack.{Below, Rows, Dumped}
use Rattle.dump.specs.Dumping.{rows_wrong}
use Rattle.dump.proofs.Writing.{whole}

below-reduced : (l : List ℕ) → Below (reduced l)
unfolding Below reduced
below-reduced [] = tt
below-reduced (x ∷ l) = (omega arith, below-reduced l)

rows-cells : (n : ℕ) (cells : List ℕ) → 49 * n ≤ length cells → Rows (rows_of n (reduced cells))
unfolding Rows rows_of
rows-cells zero cells h = tt
rows-cells (suc n) cells h =
    let row : take 49 (reduced cells) ≡ reduced (take 49 cells) = sym (reduced-take 49 cells) in
    let wide : length (take 49 (reduced cells)) ≡ 49 = length-take-le 49 (reduced cells) (omega (arith, length-reduced cells)) in
    ((wide, rw row (below-reduced (take 49 cells))), rw (← (reduced-drop 49 cells)) (rows-cells n (drop 49 cells) (omega (arith, length-drop 49 cells))))

module _ (cells : List ℕ) (right : rows_wrong (length cells) ≡ false) where
  abbrev rows : List (List ℕ)
  rows = all_rows (reduced cells)

  pub many : length rows ≡ length cells / 49
  unfolding all_rows
  many = length-rows (length (reduced cells) / 49) (reduced cells) ∙ ap (λ (n : ℕ). n / 49) (length-reduced cells)

  pub dumped : Dumped (dump cells) rows
  unfolding dump all_rows
  dumped =
      let (a, b, c) = whole (length cells) right in
      record {
        some_rows = omega (arith, many);
        cells = rows-cells (length (reduced cells) / 49) cells (omega (arith, length-reduced cells));
        is_dump = refl;
      }

  -- their cells are the reduced cells
  pub read-cells : flat rows ≡ reduced cells
  unfolding all_rows
  read-cells =
      let (a, b, c) = whole (length cells) right in
      flat_rows (length (reduced cells) / 49) (reduced cells) ∙ take_all (49 * (length (reduced cells) / 49)) (reduced cells) (omega (arith, length-reduced cells))
