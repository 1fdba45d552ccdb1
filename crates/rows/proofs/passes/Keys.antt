-- The keys of the LOOP rows that are taken: row by row, sorted, and with their counts.
use mathlib.Core.Path.{◌≡◌, sym, ◌∙◌, ap}
use mathlib.Core.Bool.{true, false}
use mathlib.Core.List.{List}
use Prim.Native.Nat.{ℕ, ◌+◌, ◌≤◌, ◌<◌}
use native.Mathlib.Omega.{arith}
use native.Mathlib.Decide.{ℕ_discrete}
use lib.ListN.{length, take, set}
use Rattle.rows.specs.ways.Order.{occurrences, Ordered}
use Rattle.rows.proofs.sorted.Counts.{count-more}
use Rattle.rows.proofs.records.Occurrences.{hit_same}
use Rattle.rows.specs.declared.records.profile.Profile.{Profile}
use Rattle.rows.specs.records.Buffers.{buffer_row}
use Rattle.rows.specs.ways.LoopCounts.{is_loop, next_addr, ends_in, Tallied, Held, Table}

module _ (p : Profile) (c : List ℕ) (from next : ℕ) where
  skip_at : (keys : List ℕ) → is_loop p (buffer_row next c) ≡ false → Held p c from next keys → (j : ℕ) → from ≤ j → j < next + 1 → is_loop p (buffer_row j c) ≡ true → Dec (j ≡ next) → 0 < occurrences (next_addr j c) keys
  skip_at keys f g j a b l (yes e) = let z : ◌≡◌ {A = ℕ} 0 1 = cc (sym f ∙ ap (λ k. is_loop p (buffer_row k c)) (sym e) ∙ l) in absurd (omega arith)
  skip_at keys f g j a b l (no n) = g j a (omega (arith, n)) l

  -- a row that is no LOOP row
  pub held-skip : (keys : List ℕ) → is_loop p (buffer_row next c) ≡ false → Held p c from next keys → Held p c from (next + 1) keys
  held-skip keys f g j a b l = skip_at keys f g j a b l (ℕ_discrete j next)

  module _ (keys : List ℕ) (count v : ℕ) (fits : count < length keys) (is : v ≡ next_addr next c) where
    more-at : Held p c from next (take count keys) → (j : ℕ) → from ≤ j → j < next + 1 → is_loop p (buffer_row j c) ≡ true → Dec (j ≡ next) → 0 < occurrences (next_addr j c) (take (count + 1) (set keys count v))
    more-at g j a b l (yes e) =
        let s : v ≡ next_addr j c = is ∙ ap (λ k. next_addr k c) (sym e) in
        omega (arith, count-more keys count v fits (next_addr j c), hit_same v (next_addr j c) s)
    more-at g j a b l (no n) = omega (arith, count-more keys count v fits (next_addr j c), g j a (omega (arith, n)) l)

    -- a LOOP row, and its key behind the others
    pub held_more : Held p c from next (take count keys) → Held p c from (next + 1) (take (count + 1) (set keys count v))
    held_more g j a b l = more-at g j a b l (ℕ_discrete j next)

-- what a LOOP row that was taken finds under its key
pub table-count : (p : Profile) (c : List ℕ) (rows from next : ℕ) (keys counts : List ℕ) → Table p c rows from next keys counts → (i : ℕ) → from ≤ i → i < next → is_loop p (buffer_row i c) ≡ true
    → (x r : ℕ) → x ≡ next_addr i c → (Ordered keys → 0 < occurrences x keys → (count : ℕ → ℕ) → Tallied keys counts count → r ≡ count x) → r ≡ ends_in p rows c (next_addr i c)
table-count p c rows from next keys counts t i a b l x r e f = f t.order (rw e (t.held i a b l)) (ends_in p rows c) t.tallied ∙ ap (ends_in p rows c) e
