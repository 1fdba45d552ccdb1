-- Change request N9: what a tally tells of its fragment's rows.
use mathlib.Core.Path.{◌≡◌, ◌∙◌, refl, sym, ap, ap₂}
use mathlib.Core.Bool.{Bool, true, false, ◌&&◌}
use mathlib.Core.List.{List, [], ◌∷◌, ◌++◌, append_assoc, append-nil}
use Prim.Native.Nat.{ℕ, zero, suc, ◌+◌, ◌*◌, ◌/◌, ◌%◌, ◌≤◌, ◌<◌}
use native.Mathlib.Omega.{arith}
use borrow.Author.Tests.{leb-false}
use lib.Dec.{eqb}
use lib.ListN.{length, drop, length-append}
use Rattle.field.specs.Modulus.{P}
use Rattle.field.specs.Cells.{cell_at, reduced}
use Rattle.field.proofs.CellLaws.{read_twice}
use Rattle.groups.specs.Answer.{Answer, accepted, refused, pick}
use Rattle.rows.specs.ways.Order.{occurrences}
use Rattle.rows.specs.declared.records.profile.Profile.{Profile}
use Rattle.rows.specs.declared.records.continuation.StoredValues.{StoredValues}
use Rattle.rows.specs.declared.cycles.made.MadeRow.{MadeRow}
use Rattle.rows.specs.declared.cycles.tracer.CoreTraceGenerationTracer.{CoreTraceGenerationTracer}
use Rattle.rows.specs.records.Addresses.{Queues}
use Rattle.rows.specs.records.Buffers.{rows_of, buffer_row, flat, addr_of}
use Rattle.rows.specs.records.Cells.{row_cells, put_row}
use Rattle.rows.specs.records.DecoderRows.{decoder_cells}
use Rattle.rows.specs.records.Built.{system_cells, stack_cells}
use Rattle.rows.specs.passes.Passes.{flagged_end}
use Rattle.rows.specs.declared.records.address_state.Cursor.{Cursor}
use Rattle.rows.specs.cycles.Cycles.{fresh, storing_of, stored_in, tracer_after, fragment_after, last_system, last_stack}
use Rattle.rows.specs.cycles.LentTally.{place_for, counted_at, cannot_count, counts_next, row_addr, tally_after}
use Rattle.rows.proofs.passes.RowLists.{Wide, wide_rows, length-rows, wide-app, as_rows, rows-flat, put-behind, drop-rows}
use Rattle.theory_runs.specs.Calls.{Handed, Call, store, finish}
use Rattle.theory_runs.specs.LiveCalls.{LiveHeld, LentCall, FreshFragment, Zeros, live_fresh, live_answered, live_after, live_after_each, fresh_end}
use Rattle.theory_runs.specs.TallyClaims.{successors, once_from, once_each, written_so_far, TallyTells, tallied_at}
use Rattle.theory_runs.proofs.Answers.{accepted-came}
use Rattle.theory_runs.proofs.Folded.{row-wide}
use Rattle.theory_runs.proofs.LiveRuns.{came-live}
use Rattle.theory_runs.proofs.TallySteps.{Standing, standing-none, standing-tells, standing-once, standing-count}

-- ROWS

rows_snoc : (n : ℕ) (c : List ℕ) → rows_of (suc n) c ≡ rows_of n c ++ (buffer_row n c ∷ [])
unfolding rows_of buffer_row
rows_snoc zero c = refl
rows_snoc (suc n) c = rw (rows_snoc n (drop 49 c), buffer_row, drop-rows n c)

-- a row written behind others
rows-put : (cells : List ℕ) (r : ℕ) (x : List ℕ) → length x ≡ 49 → 49 * r + 49 ≤ length cells → rows_of (r + 1) (put_row cells r x) ≡ rows_of r cells ++ (x ∷ [])
unfolding Wide
rows-put cells r x e h =
    let rows : List (List ℕ) = rows_of r cells in
    let w : Wide rows = wide_rows r cells (omega arith) in
    let len : length rows ≡ r = length-rows r cells in
    let there : cells ≡ flat rows ++ drop (49 * length rows) cells = as_rows r cells ∙ ap (λ n. flat rows ++ drop (49 * n) cells) (sym len) in
    let put : put_row cells r x ≡ flat (rows ++ (x ∷ [])) ++ drop (49 * length (rows ++ (x ∷ []))) cells = ap₂ (λ y n. put_row y n x) there (sym len) ∙ put-behind rows x cells w in
    let count : r + 1 ≡ length (rows ++ (x ∷ [])) = omega (arith, len, length-append rows (x ∷ [])) in
    ap₂ rows_of count put ∙ rows-flat (rows ++ (x ∷ [])) _ (wide-app rows (x ∷ []) w (e, tt))

row-addr : (t : CoreTraceGenerationTracer) (m : MadeRow) → addr_of (row_cells (last_system t) m.row (last_stack t)) ≡ row_addr m
unfolding row_cells reduced system_cells decoder_cells stack_cells cell_at
row-addr t m = read_twice m.row.addr

module _ (p : Profile) where
  successors-snoc : (l : List (List ℕ)) (a b : List ℕ) → successors p ((l ++ (a ∷ [])) ++ (b ∷ [])) ≡ successors p (l ++ (a ∷ [])) ++ pick (flagged_end p a) (addr_of b ∷ []) []
  unfolding successors
  successors-snoc [] a b = append-nil _
  successors-snoc (c ∷ []) a b = simp append-nil
  successors-snoc (c ∷ d ∷ l) a b = rw (successors-snoc (d ∷ l) a b) (sym (append_assoc (pick (flagged_end p c) (addr_of d ∷ []) []) (successors p (d ∷ l ++ (a ∷ []))) _))

  -- ONE CYCLE

  flagged : (b : Bool) (addrs tally : List ℕ) (addr : ℕ) → 512 ≤ length tally → addr % P ≡ addr → (b && cannot_count tally (place_for tally addr)) ≡ false → Standing (once_each addrs) addrs tally →
      Standing (once_each (addrs ++ pick b (addr ∷ []) [])) (addrs ++ pick b (addr ∷ []) []) (pick b (counted_at tally addr (place_for tally addr)) tally)
  flagged true addrs tally addr long cell left s = standing-once addrs tally addr s long cell left
  flagged false addrs tally addr long cell left s = rw (append-nil addrs) s

  -- what stands of the first rows of a fragment
  abbrev Stands : (rows : List (List ℕ)) → (tally : List ℕ) → Type 0
  Stands rows tally = Standing (once_each (successors p rows)) (successors p rows) tally

  row_more : (cells tally x : List ℕ) (m : MadeRow) (r : ℕ) → addr_of x ≡ row_addr m → 512 ≤ length tally → (counts_next p cells r && cannot_count tally (place_for tally (row_addr m))) ≡ false →
      Stands (rows_of r cells) tally → Stands (rows_of r cells ++ (x ∷ [])) (tally_after p tally cells r (accepted m))
  unfolding tally_after counts_next rows_of successors
  row_more cells tally x m zero e long left s = s
  row_more cells tally x m (suc k) e long left s =
      let f : Bool = flagged_end p (buffer_row k cells) in
      let more : successors p (rows_of (suc k) cells ++ (x ∷ [])) ≡ successors p (rows_of (suc k) cells) ++ pick f (row_addr m ∷ []) [] =
      ap (λ l. successors p (l ++ (x ∷ []))) (rows_snoc k cells) ∙ successors-snoc (rows_of k cells) (buffer_row k cells) x
      ∙ ap₂ (λ l y. successors p l ++ pick f (y ∷ []) []) (sym (rows_snoc k cells)) e in
      rw more (flagged f (successors p (rows_of (suc k) cells)) tally (row_addr m) long (read_twice m.row.addr) left s)

  abbrev StandsLive : LiveHeld → Type 0
  StandsLive z = Stands (written_so_far z) z.tally

  module _ (q : Queues) where
    stands-finish : (z : LiveHeld) (i : Handed) (a : Answer MadeRow) → live_answered p q z i ≡ a → StandsLive z → StandsLive (live_after p q z (finish i))
    unfolding live_after tracer_after fragment_after tally_after
    stands-finish z i (refused n) e s = rw e s
    stands-finish z i (accepted m) e s =
        let c = came-live p q z i m e in
        let o = accepted-came p i.forest q i.stack i.registers (length z.held.cells) z.held.tracer m c.plain in
        let r : ℕ = z.held.tracer.row_write_index in
        let room : r < length z.held.cells / 49 = leb-false _ _ o.room in
        let x : List ℕ = row_cells (last_system z.held.tracer) m.row (last_stack z.held.tracer) in
        rw (e, rows-put z.held.cells r x (row-wide z.held.tracer m) (omega arith))
        (row_more z.held.cells z.tally x m r (row-addr z.held.tracer m) c.places c.counts s)

    stored-rows : (t : CoreTraceGenerationTracer) (values : StoredValues) → (stored_in t values).row_write_index ≡ t.row_write_index
    unfolding stored_in
    stored-rows t values = one (eqb t.refusal 0)
      where
        one : (b : Bool) → (pick b (storing_of t values) t).row_write_index ≡ t.row_write_index
        one true = refl
        one false = refl

    stands-store : (z : LiveHeld) (values : StoredValues) → StandsLive z → StandsLive (live_after p q z (store values))
    unfolding live_after
    stands-store z values s = rw (stored-rows z.held.tracer values) s

    stands-call : (z : LiveHeld) (c : Call) → StandsLive z → StandsLive (live_after p q z c)
    stands-call z (store values) s = stands-store z values s
    stands-call z (finish i) s = stands-finish z i (live_answered p q z i) refl s

  stands-each : (calls : List LentCall) (z : LiveHeld) → StandsLive z → StandsLive (live_after_each p calls z)
  unfolding live_after_each
  stands-each [] z s = s
  stands-each (c ∷ calls) z s = stands-each calls (live_after p c.queues z c.called) (stands-call c.queues z c.called s)

  stands-fresh : (here : Cursor) (cells tally : List ℕ) → Zeros tally → StandsLive (live_fresh here cells tally)
  unfolding fresh rows_of successors once_from
  stands-fresh here cells tally zeros = standing-none tally zeros

  stands-end : (fragment : FreshFragment) → StandsLive (fresh_end p fragment)
  stands-end fragment =
      stands-each fragment.calls (live_fresh fragment.here fragment.cells fragment.tally) (stands-fresh fragment.here fragment.cells fragment.tally fragment.zeros)

  -- "Lent as zeros to a fresh tracer, with one profile and nobody else storing to it or the rows, the tally holds after every cycle, for the rows
  -- written so far in this fragment, exactly each successor address of a flagged END, with its number, in order of first appearance": after any
  -- calls, refused or not
  pub tally-told : (fragment : FreshFragment) → TallyTells p (fresh_end p fragment)
  tally-told fragment = standing-tells _ _ (stands-end fragment)

  -- so the count of an address is its number
  pub tally-count : (fragment : FreshFragment) (addr : ℕ) → tallied_at addr (fresh_end p fragment).tally ≡ occurrences addr (successors p (written_so_far (fresh_end p fragment)))
  tally-count fragment addr = standing-count _ _ _ (stands-end fragment) addr
