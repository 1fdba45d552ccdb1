-- "everywhere a cell comes in" and "Every cell that a call writes is reduced" (N2), of a finish that is lent a tally (N9): the addresses in the tally
-- are cells, and the row before is looked at by its reduced cells.
use mathlib.Core.Path.{◌≡◌, ◌∙◌, refl, sym, ap, ap₂}
use mathlib.Core.Bool.{Bool, true, false, ◌&&◌}
use mathlib.Core.List.{List, [], ◌∷◌, ◌++◌}
use Prim.Native.Nat.{ℕ, zero, suc, ◌+◌, ◌*◌, ◌%◌, ◌<◌}
use native.Mathlib.Omega.{arith}
use borrow.Author.Tests.{leb-false}
use lib.Dec.{leb, eqb}
use lib.ListN.{length, take, drop, set}
use Rattle.field.specs.Modulus.{P}
use Rattle.field.specs.Cells.{read, cell_at, reduced}
use Rattle.field.proofs.CellLaws.{read_below, read_twice, length-reduced, reduced-append, reduced-twice, reduced-take, reduced-drop}
use Rattle.groups.specs.Answer.{Answer, accepted, refused, pick, refusal}
use Rattle.groups.specs.Helpers.{read_registers}
use Rattle.groups.specs.declared.helpers.OperationHelperRegisters.{OperationHelperRegisters}
use Rattle.groups.proofs.OneGroup.{neither}
use Rattle.rows.specs.declared.records.profile.Profile.{Profile}
use Rattle.rows.specs.declared.records.state.SystemState.{SystemState}
use Rattle.rows.specs.declared.records.state.StackState.{StackState}
use Rattle.rows.specs.declared.cycles.made.MadeRow.{MadeRow}
use Rattle.rows.specs.declared.cycles.scan.Scan.{Scan}
use Rattle.rows.specs.declared.cycles.tracer.CoreTraceGenerationTracer.{CoreTraceGenerationTracer}
use Rattle.rows.specs.records.Forests.{Forest}
use Rattle.rows.specs.records.Addresses.{Queues}
use Rattle.rows.specs.records.Buffers.{buffer_row}
use Rattle.rows.specs.records.Cells.{row_cells, put_row}
use Rattle.rows.specs.passes.Passes.{flagged_end}
use Rattle.rows.specs.cycles.Scans.{scan_of}
use Rattle.rows.specs.cycles.Cycles.{refuse_if, tracer_after, following_of, fragment_after}
use Rattle.rows.specs.cycles.LentTally.{count_in, is_free, is_of, first_from, place_for, counted_at, cannot_count, counts_next, row_addr, with_tally, unless_full, tally_after, tallied_cycle}
use Rattle.theory_reductions.specs.Inputs.{read_forest, read_queues, read_system_state, read_stack_state, read_tracer, read_places, tally_cell, read_tally}
use Rattle.theory_reductions.specs.ways.ReadSteps.{read_row, read_made}
use Rattle.theory_reductions.specs.Left.{Kept}
use Rattle.theory_reductions.proofs.StatesRead.{Gives, if-gives}
use Rattle.theory_reductions.proofs.MadeReduced.{Same}
use Rattle.theory_reductions.proofs.CyclesReduced.{if-alike, cycle-with-reduced, same_number, same-fragment, same-tracer, read-following}
use Rattle.theory_reductions.proofs.RecordsReduced.{place_read, places-length, cell_same}
use Rattle.theory_reductions.proofs.PassesReduced.{flagged-reduced}
use Rattle.theory_reductions.proofs.PassesKept.{stays, kept_trans, set-kept}
use Rattle.theory_reductions.proofs.WrittenBelow.{Room, room-left, after_kept}

-- THE PLACES OF A TALLY

module _ (tally : List ℕ) where
  count-read : (place : ℕ) → count_in (read_tally tally) place ≡ count_in tally place
  unfolding read_tally
  count-read place =
      let odd : (0 + (2 * place + 1)) % 2 ≡ 1 = omega arith in
      place_read tally_cell tally 0 (2 * place + 1) ∙ ap (λ n. pick (eqb n 0) (read (count_in tally place)) (count_in tally place)) odd

  free-read : (place : ℕ) → is_free (read_tally tally) place ≡ is_free tally place
  unfolding is_free
  free-read place = rw (count-read place)

  addr_read : (place : ℕ) → cell_at (read_tally tally) (2 * place) ≡ cell_at tally (2 * place)
  unfolding read_tally
  addr_read place = cell_same tally_cell tally (2 * place)

  in-use-read : (addr place : ℕ) → is_of (read_tally tally) addr place ≡ is_of tally addr place
  unfolding is_of
  in-use-read addr place = rw (free-read place, addr_read place)

  length-read : length (read_tally tally) ≡ length tally
  unfolding read_tally
  length-read = places-length tally_cell tally 0

  none_read : (place : ℕ) → cannot_count (read_tally tally) place ≡ cannot_count tally place
  unfolding cannot_count
  none_read place = rw (count-read place)

first-same : (a b : ℕ → Bool) → ((k : ℕ) → a k ≡ b k) → (place n : ℕ) → first_from a place n ≡ first_from b place n
unfolding first_from
first-same a b h place zero = refl
first-same a b h place (suc n) = rw (h place, first-same a b h (suc place) n)

place-for-read : (tally : List ℕ) (addr : ℕ) → place_for (read_tally tally) addr ≡ place_for tally addr
unfolding place_for
place-for-read tally addr =
    rw (first-same (is_of (read_tally tally) addr) (is_of tally addr) (in-use-read tally addr) 0 256, first-same (is_free (read_tally tally)) (is_free tally) (free-read tally) 0 256)

-- a number stored where it is read as itself
set-read : (is_cell : ℕ → Bool) (l : List ℕ) (i k v : ℕ) → pick (is_cell (i + k)) (read v) v ≡ v → set (read_places is_cell i l) k v ≡ read_places is_cell i (set l k v)
unfolding read_places
set-read is_cell [] i k v h = refl
set-read is_cell (x ∷ l) i zero v h = let e : i + 0 ≡ i = omega arith in ap (λ y. y ∷ read_places is_cell (suc i) l) (sym (rw e at h))
set-read is_cell (x ∷ l) i (suc k) v h =
    let e : i + suc k ≡ suc i + k = omega arith in ap (λ y. pick (is_cell i) (read x) x ∷ y) (set-read is_cell l (suc i) k v (rw e at h))

pick_same : (t : Bool) (v : ℕ) → v % P ≡ v → pick t (read v) v ≡ v
pick_same true v h = h
pick_same false v h = refl

-- a count is stored as it is
set-count : (tally : List ℕ) (place v : ℕ) → set (read_tally tally) (2 * place + 1) v ≡ read_tally (set tally (2 * place + 1) v)
unfolding read_tally
set-count tally place v =
    let odd : (0 + (2 * place + 1)) % 2 ≡ 1 = omega arith in set-read tally_cell tally 0 (2 * place + 1) v (ap (λ n. pick (eqb n 0) (read v) v) odd)

set-addr : (tally : List ℕ) (place addr : ℕ) → addr % P ≡ addr → set (read_tally tally) (2 * place) addr ≡ read_tally (set tally (2 * place) addr)
unfolding read_tally
set-addr tally place addr h = set-read tally_cell tally 0 (2 * place) addr (pick_same (tally_cell (0 + 2 * place)) addr h)

counted-read : (tally : List ℕ) (addr place : ℕ) → addr % P ≡ addr → counted_at (read_tally tally) addr place ≡ read_tally (counted_at tally addr place)
unfolding counted_at
counted-read tally addr place h = rw (free-read tally place, count-read tally place) (one (is_free tally place))
  where
    one : (t : Bool) → pick t (set (set (read_tally tally) (2 * place) addr) (2 * place + 1) 1) (set (read_tally tally) (2 * place + 1) (count_in tally place + 1))
        ≡ read_tally (pick t (set (set tally (2 * place) addr) (2 * place + 1) 1) (set tally (2 * place + 1) (count_in tally place + 1)))
    one true = ap (λ l. set l (2 * place + 1) 1) (set-addr tally place addr h) ∙ set-count (set tally (2 * place) addr) place 1
    one false = set-count tally place (count_in tally place + 1)

-- THE ROW BEFORE

counts-reduced : (p : Profile) (fragment : List ℕ) (rows : ℕ) → counts_next p (reduced fragment) rows ≡ counts_next p fragment rows
unfolding counts_next buffer_row
counts-reduced p fragment zero = refl
counts-reduced p fragment (suc k) =
    ap (λ l. flagged_end p (take 49 l)) (sym (reduced-drop (49 * k) fragment)) ∙ ap (flagged_end p) (sym (reduced-take 49 (drop (49 * k) fragment)))
    ∙ flagged-reduced p (take 49 (drop (49 * k) fragment))

-- a row of reduced cells, in a reduced fragment
put-reduced : (fragment : List ℕ) (r : ℕ) (x : List ℕ) → reduced x ≡ x → put_row (reduced fragment) r x ≡ reduced (put_row fragment r x)
unfolding put_row
put-reduced fragment r x h =
    sym (reduced-append (take (49 * r) fragment ++ x) (drop (49 * r + 49) fragment)
    ∙ ap₂ (λ a b. a ++ b) (reduced-append (take (49 * r) fragment) x ∙ ap₂ (λ a b. a ++ b) (reduced-take (49 * r) fragment) h) (reduced-drop (49 * r + 49) fragment))

after-reduced : (fragment : List ℕ) (t : CoreTraceGenerationTracer) (a : Answer MadeRow) → fragment_after (reduced fragment) t a ≡ reduced (fragment_after fragment t a)
unfolding fragment_after row_cells
after-reduced fragment t (accepted m) = put-reduced fragment t.row_write_index _ (reduced-twice _)
after-reduced fragment t (refused n) = refl

-- THE ANSWER AND THE TALLY

same-addr : (m m' : MadeRow) → read_made m ≡ read_made m' → row_addr m ≡ row_addr m'
unfolding read_made read_row
same-addr m m' h = ap (λ (x : MadeRow). x.row.addr) h

module _ (p : Profile) (tally fragment : List ℕ) (rows : ℕ) where
  tallied-alike : (a b : Answer MadeRow) → Same a b → Same (unless_full p (read_tally tally) (reduced fragment) rows a) (unless_full p tally fragment rows b)
  unfolding unless_full
  tallied-alike (accepted m) (accepted m') h =
      let e : read_made m ≡ read_made m' = cc in
      rw (counts-reduced p fragment rows, same-addr m m' e, place-for-read tally (row_addr m'), none_read tally (place_for tally (row_addr m')))
      (if-alike (counts_next p fragment rows && cannot_count tally (place_for tally (row_addr m'))) 32 (accepted m) (accepted m') h)
  tallied-alike (accepted m) (refused n) h = cc
  tallied-alike (refused n) (accepted m) h = cc
  tallied-alike (refused n) (refused n') h = h

  same-tally : (a b : Answer MadeRow) → Same a b → tally_after p (read_tally tally) (reduced fragment) rows a ≡ read_tally (tally_after p tally fragment rows b)
  unfolding tally_after
  same-tally (accepted m) (accepted m') h =
      let e : read_made m ≡ read_made m' = cc in
      rw (counts-reduced p fragment rows, same-addr m m' e, place-for-read tally (row_addr m'), counted-read tally (row_addr m') (place_for tally (row_addr m')) (read_twice m'.row.addr))
      (one (counts_next p fragment rows) (counted_at tally (row_addr m') (place_for tally (row_addr m'))))
    where
      one : (t : Bool) (l : List ℕ) → pick t (read_tally l) (read_tally tally) ≡ read_tally (pick t l tally)
      one true l = refl
      one false l = refl
  same-tally (accepted m) (refused n) h = cc
  same-tally (refused n) (accepted m) h = cc
  same-tally (refused n) (refused n') h = refl

  -- WHAT IS WRITTEN

  counted-kept : (counts : Bool) (addr place : ℕ) → addr < P → (counts && cannot_count tally place) ≡ false → Kept tally (pick counts (counted_at tally addr place) tally)
  unfolding counted_at cannot_count
  counted-kept true addr place h e = one (is_free tally place)
    where
      few : count_in tally place < 16777216
      few = leb-false 16777216 (count_in tally place) (neither (leb 256 place) (leb 16777216 (count_in tally place)) e).1

      one : (t : Bool) → Kept tally (pick t (set (set tally (2 * place) addr) (2 * place + 1) 1) (set tally (2 * place + 1) (count_in tally place + 1)))
      one true = kept_trans tally (set tally (2 * place) addr) _ (set-kept tally (2 * place) addr h) (set-kept (set tally (2 * place) addr) (2 * place + 1) 1 (omega arith))
      one false = set-kept tally (2 * place + 1) (count_in tally place + 1) (omega (arith, few))
  counted-kept false addr place h e = stays tally

  left-kept : (a : Answer MadeRow) → Kept tally (tally_after p tally fragment rows (unless_full p tally fragment rows a))
  unfolding unless_full tally_after
  left-kept (refused n) = stays tally
  left-kept (accepted m) = one (counts_next p fragment rows && cannot_count tally (place_for tally (row_addr m))) refl
    where
      one : (full : Bool) → (counts_next p fragment rows && cannot_count tally (place_for tally (row_addr m))) ≡ full → Kept tally (tally_after p tally fragment rows (refuse_if full 32 (accepted m)))
      one true e = stays tally
      one false e = counted-kept (counts_next p fragment rows) (row_addr m) (place_for tally (row_addr m)) (read_below m.row.addr) e

  tallied-room : (cells : ℕ) (t : CoreTraceGenerationTracer) (a : Answer MadeRow) → Gives (Room cells t) a → Gives (Room cells t) (unless_full p tally fragment rows a)
  unfolding unless_full
  tallied-room cells t (accepted m) h = if-gives (Room cells t) (counts_next p fragment rows && cannot_count tally (place_for tally (row_addr m))) 32 (accepted m) h
  tallied-room cells t (refused n) h = h

-- THE CALL

module _ (p : Profile) (f : Forest) (q : Queues) (system : SystemState) (stack : StackState) (registers : OperationHelperRegisters) (tally fragment : List ℕ) (t : CoreTraceGenerationTracer) where
  -- what a finish answers, and what it answers of the inputs read
  abbrev here : Answer MadeRow
  here = tallied_cycle p f q stack registers tally fragment t

  abbrev of-read : Answer MadeRow
  of-read = tallied_cycle p (read_forest f) (read_queues q) (read_stack_state stack) (read_registers registers) (read_tally tally) (reduced fragment) (read_tracer t)

  abbrev scan : Scan
  scan = with_tally (length tally) (scan_of p f.nodes f.batches f.ops)

  tally-alike : Same of-read here
  unfolding tallied_cycle read_forest read_tracer
  tally-alike =
      rw (length-reduced fragment, length-read tally)
      (tallied-alike p tally fragment t.row_write_index _ _ (cycle-with-reduced p f q stack registers (length fragment) t scan))

  pub tally-number : refusal of-read ≡ refusal here
  tally-number = same_number of-read here tally-alike

  pub tally-following : following_of of-read ≡ following_of here
  tally-following = sym (read-following of-read) ∙ ap following_of tally-alike ∙ read-following here

  pub tally-tracer : read_tracer (tracer_after (read_system_state system) (read_stack_state stack) (read_tracer t) of-read) ≡ read_tracer (tracer_after system stack t here)
  tally-tracer = same-tracer system stack t of-read here tally-alike

  pub tally-row : fragment_after (reduced fragment) (read_tracer t) of-read ≡ reduced (fragment_after fragment t here)
  tally-row = after-reduced fragment (read_tracer t) of-read ∙ ap reduced (same-fragment fragment t of-read here tally-alike)

  pub tally-reduced : tally_after p (read_tally tally) (reduced fragment) t.row_write_index of-read ≡ read_tally (tally_after p tally fragment t.row_write_index here)
  tally-reduced = same-tally p tally fragment t.row_write_index of-read here tally-alike

  -- each number of the tally and of the fragment is the number that stood there or is below p
  pub tally-kept : Kept tally (tally_after p tally fragment t.row_write_index here)
  unfolding tallied_cycle
  tally-kept = left-kept p tally fragment t.row_write_index _

  pub tally-row-kept : Kept fragment (fragment_after fragment t here)
  unfolding tallied_cycle
  tally-row-kept =
      after_kept fragment (length fragment) t _ refl
      (tallied-room p tally fragment t.row_write_index (length fragment) t _ (room-left scan p f q stack registers (length fragment) t))
