-- Change request N9: the tallies of a run's fragments, with the flagged ENDs that end a fragment, add up to every count that pass 2 sets.
use mathlib.Core.Path.{◌≡◌, ◌∙◌, refl, sym, ap, ap₂, subst}
use mathlib.Core.Bool.{Bool, true, false, ◌&&◌, ◌||◌}
use mathlib.Core.List.{List, [], ◌∷◌, ◌++◌, append-nil}
use Prim.Native.Nat.{ℕ, zero, suc, ◌+◌, ◌-◌, ◌*◌, ◌/◌, ◌≤◌, ◌<◌}
use native.Mathlib.Omega.{arith}
use borrow.Author.Tests.{ltb-false, eqb-false, eq-eqb}
use lib.Dec.{ltb, eqb}
use lib.ListN.{length, take, drop, get_or, set, length-append, get_or-append}
use Rattle.field.specs.Modulus.{P}
use Rattle.field.specs.Cells.{cell_at, reduced}
use Rattle.field.specs.Inverse.{inverse_of}
use Rattle.groups.specs.Answer.{pick}
use Rattle.groups.proofs.OneGroup.{neither}
use Rattle.rows.specs.ways.Order.{hit, occurrences}
use Rattle.rows.specs.declared.records.profile.Profile.{Profile}
use Rattle.rows.specs.declared.cycles.tracer.TracerFinalState.{TracerFinalState}
use Rattle.rows.specs.records.Addresses.{Queues}
use Rattle.rows.specs.records.Buffers.{rows_of, buffer_row, flat, on_rows, last_row, addr_of, low_bits, opcode_of, buffer_wrong, fewer_rows}
use Rattle.rows.specs.passes.Passes.{fixed_up, built_of, flagged_end, body_ends, with_counts, multiplied, inverted, halt_row, halted, padded, sum_of, not_full, refusal2}
use Rattle.rows.specs.declared.records.address_state.Cursor.{Cursor}
use Rattle.rows.specs.cycles.Cycles.{final_state, for_passes}
use Rattle.rows.proofs.passes.Checks.{none_first}
use Rattle.rows.proofs.records.Occurrences.{occurrences-append}
use Rattle.rows.proofs.passes.RowLists.{Wide, wide_rows, length-rows, row-at, rows-flat}
use Rattle.rows.proofs.passes.FirstRows.{fixed-wide, fixed-length}
use Rattle.rows.proofs.passes.Written.{multiplied-wide, multiplied-length}
use Rattle.theory_reductions.proofs.CellsBelow.{ends-most}
use Rattle.theory_runs.specs.Calls.{Fragment, opened, closed, cursor_of, AllAccepted, final_states, counts_of, built_cells, OneSize}
use Rattle.theory_runs.specs.LiveCalls.{LiveHeld, LiveCall, call, lend, LiveFragment, plain_calls, plain_of, plain_all, live_after, live_after_all, LiveAccepted, live_opened, live_closed, live_cursor, AllLiveAccepted, live_ends, live_finals, NoneLent, LentAsZeros, LentCall, live_after_each, FreshFragment, fresh_ends}
use Rattle.theory_runs.specs.Written.{rows_in, rows_run, decoders_of}
use Rattle.theory_runs.specs.LiveFinished.{live_by_five, live_by_finisher, LiveFivePass, LiveFinisherPasses}
use Rattle.theory_runs.specs.TallyClaims.{successors, written_so_far, tallies_at, crossing, crossings, over_fragments, rows_of_all, NoneEmpty, HoldsDecoders, CountsSet}
use Rattle.theory_runs.proofs.Folded.{fragment-holding, count-rows, rows-wide, sum_rows}
use Rattle.theory_runs.proofs.LiveRuns.{live-calls, live-as-calls}
use Rattle.theory_runs.proofs.LiveTraces.{live_written, live-written-by-five}
use Rattle.theory_runs.proofs.Tallied.{hits}
use Rattle.theory_runs.proofs.PassLooks.{decoder_of, same-looks, cell-by, bits-by, count-decoder, count_bits, cell_other, cell_set, helper-decoder, fixed-looks, ends-hits, inverted-length}
use Rattle.theory_runs.proofs.TallyTheorems.{tally-count}
use Rattle.theory_runs.proofs.TraceOfRun.{few-rows, PassesChecked, run-rows, run-lasts, run-wide, run_length, by-finisher, by-five}

-- THE ENDS OF SOME ROWS

one-successor : (f : Bool) (a addr : ℕ) → pick (f && eqb a addr) 1 0 ≡ occurrences addr (pick f (a ∷ []) [])
unfolding occurrences hit
one-successor true a addr = omega arith
one-successor false a addr = refl

module _ (p : Profile) (addr : ℕ) where
  -- the body ENDs of an address are its times among the successors
  ends-are : (rows : List (List ℕ)) → body_ends p addr rows ≡ occurrences addr (successors p rows)
  unfolding body_ends successors occurrences
  ends-are [] = refl
  ends-are (row ∷ []) = refl
  ends-are (row ∷ next ∷ rows) =
      omega (arith, one-successor (flagged_end p row) (addr_of next) addr, ends-are (next ∷ rows), occurrences-append addr (pick (flagged_end p row) (addr_of next ∷ []) []) (successors p (next ∷ rows)))

  crossing-cons : (row second : List ℕ) (rows next : List (List ℕ)) → crossing p addr (row ∷ second ∷ rows) next ≡ crossing p addr (second ∷ rows) next
  unfolding crossing last_row
  crossing-cons row second rows [] = refl
  crossing-cons row second rows (successor ∷ next) = refl

  crossing-more : (rows next more : List (List ℕ)) → 0 < length next → crossing p addr rows (next ++ more) ≡ crossing p addr rows next
  unfolding crossing
  crossing-more rows [] more h = absurd (omega arith)
  crossing-more rows (successor ∷ next) more h = refl

  -- those of rows and more rows
  ends-app : (rows more : List (List ℕ)) → 0 < length rows → body_ends p addr (rows ++ more) ≡ body_ends p addr rows + crossing p addr rows more + body_ends p addr more
  unfolding body_ends last_row crossing
  ends-app [] more h = absurd (omega arith)
  ends-app (row ∷ []) [] h = refl
  ends-app (row ∷ []) (next ∷ more) h = omega arith
  ends-app (row ∷ second ∷ rows) more h = omega (arith, ends-app (second ∷ rows) more (omega arith), crossing-cons row second rows more)

-- ALL FRAGMENTS

unfoldable ends_each : Profile → (addr : ℕ) → List LiveHeld → ℕ
ends_each p addr [] = 0
ends_each p addr (z ∷ more) = body_ends p addr (written_so_far z) + ends_each p addr more

module _ (p : Profile) (addr : ℕ) where
  some_rows : (z : LiveHeld) → 0 < z.held.tracer.row_write_index → 0 < length (written_so_far z)
  some_rows z h = omega (arith, h, length-rows z.held.tracer.row_write_index z.held.cells)

  ends-joined : (ends : List LiveHeld) → NoneEmpty ends → body_ends p addr (rows_of_all ends) ≡ ends_each p addr ends + crossings p addr ends
  unfolding NoneEmpty rows_of_all ends_each crossings body_ends
  ends-joined [] n = refl
  ends-joined (z ∷ []) n = rw (append-nil (written_so_far z)) (omega arith)
  ends-joined (z ∷ next ∷ more) n =
      omega (
        arith,
        ends-app p addr (written_so_far z) (rows_of_all (next ∷ more)) (some_rows z n.0),
        crossing-more p addr (written_so_far z) (written_so_far next) (rows_of_all more) (some_rows next n.1.0),
        ends-joined (next ∷ more) n.1,
      )

  ends-tallied : (fragments : List FreshFragment) → ends_each p addr (fresh_ends p fragments) ≡ tallies_at addr (fresh_ends p fragments)
  unfolding ends_each fresh_ends tallies_at
  ends-tallied [] = refl
  ends-tallied (fragment ∷ fragments) = ap₂ (λ a b. a + b) (ends-are p addr _ ∙ sym (tally-count p fragment addr)) (ends-tallied fragments)

  -- the body ENDs of all rows, by the tallies and the crossings
  ends-over : (fragments : List FreshFragment) (ends : List LiveHeld) → fresh_ends p fragments ≡ ends → NoneEmpty ends → body_ends p addr (rows_of_all ends) ≡ over_fragments p ends addr
  ends-over fragments ends e n =
      ends-joined ends n ∙ ap (λ a. a + crossings p addr ends) (ap (ends_each p addr) (sym e) ∙ ends-tallied fragments ∙ ap (tallies_at addr) e)

-- THE FRAGMENTS OF A RUN

-- a fragment's calls, each with the run's queues
unfoldable each_of : Queues → List LiveCall → List LentCall
each_of q [] = []
each_of q (call c ∷ calls) = record { queues = q; called = c } ∷ each_of q calls
each_of q (lend tally ∷ calls) = each_of q calls

module _ (p : Profile) (q : Queues) where
  all-each : (calls : List LiveCall) (z : LiveHeld) → NoneLent calls → live_after_each p (each_of q calls) z ≡ live_after_all p q calls z
  unfolding NoneLent each_of live_after_each live_after_all
  all-each [] z n = refl
  all-each (call c ∷ calls) z n = all-each calls (live_after p q z c) n
  all-each (lend tally ∷ calls) z n = absurd n

  unfoldable fresh_of : (fragments : List LiveFragment) → LentAsZeros fragments → Cursor → List FreshFragment
  unfolding LentAsZeros
  fresh_of [] l here = []
  fresh_of (fragment ∷ fragments) l here =
      record { here = here; cells = fragment.cells; tally = fragment.tally; zeros = l.0; calls = each_of q fragment.calls } ∷ fresh_of fragments l.2 (live_cursor p q here fragment)

  fresh-ends : (fragments : List LiveFragment) (l : LentAsZeros fragments) (here : Cursor) → fresh_ends p (fresh_of fragments l here) ≡ live_ends p q fragments here
  unfolding LentAsZeros fresh_of fresh_ends live_ends
  fresh-ends [] l here = refl
  fresh-ends (fragment ∷ fragments) l here =
      ap₂ (λ z more. z ∷ more) (all-each fragment.calls (live_opened p q here fragment) l.1) (fresh-ends fragments l.2 (live_cursor p q here fragment))

  -- the rows that a fragment holds are those that its cycles wrote
  rows-held : (here : Cursor) (fragment : LiveFragment) → LiveAccepted p q fragment.calls (live_opened p q here fragment) →
      written_so_far (live_closed p q here fragment) ≡ rows_in p q (plain_calls fragment.calls) (opened p q here (plain_of fragment))
  rows-held here fragment a =
      let (plain, same) = live-calls p q fragment.calls (live_opened p q here fragment) a in
      let h = fragment-holding p q here (plain_of fragment) plain in
      rw same (ap₂ rows_of h.count_is h.cells_are ∙ rows-flat (rows_in p q (plain_calls fragment.calls) (opened p q here (plain_of fragment))) _ h.wide)

  rows-joined : (fragments : List LiveFragment) (here : Cursor) → AllLiveAccepted p q fragments here → rows_of_all (live_ends p q fragments here) ≡ rows_run p q (plain_all fragments) here
  unfolding rows_of_all live_ends rows_run plain_all AllLiveAccepted
  rows-joined [] here a = refl
  rows-joined (fragment ∷ fragments) here a =
      let same = (live-calls p q fragment.calls (live_opened p q here fragment) a.0).1 in
      ap₂ (λ x y. x ++ y) (rows-held here fragment a.0) (rows-joined fragments (live_cursor p q here fragment) a.1 ∙ ap (λ z. rows_run p q (plain_all fragments) (cursor_of p q z)) same)

  abbrev handed : Cursor → LiveFragment → ℕ
  handed here fragment = (for_passes (final_state (closed p q here (plain_of fragment)).tracer)).count

  count_held : (here : Cursor) (fragment : LiveFragment) → LiveAccepted p q fragment.calls (live_opened p q here fragment) →
      (live_closed p q here fragment).held.tracer.row_write_index ≡ handed here fragment
  count_held here fragment a =
      sym (length-rows (live_closed p q here fragment).held.tracer.row_write_index (live_closed p q here fragment).held.cells) ∙ ap length (rows-held here fragment a)
      ∙ sym (count-rows p q here (plain_of fragment) (live-calls p q fragment.calls (live_opened p q here fragment) a).0)

  none-empty : (size : ℕ) (fragments : List LiveFragment) (here : Cursor) → 0 < size → AllLiveAccepted p q fragments here → not_full size (counts_of (final_states p q (plain_all fragments) here)) ≡ false → NoneEmpty (live_ends p q fragments here)
  unfolding NoneEmpty live_ends not_full counts_of final_states plain_all AllLiveAccepted
  none-empty size [] here some a e = tt
  none-empty size (fragment ∷ []) here some a e = (omega (arith, count_held here fragment a.0, eqb-false (handed here fragment) 0 e), tt)
  none-empty size (fragment ∷ next ∷ fragments) here some a e =
      let there : live_cursor p q here fragment ≡ cursor_of p q (closed p q here (plain_of fragment)) = ap (cursor_of p q) (live-calls p q fragment.calls (live_opened p q here fragment) a.0).1 in
      let (full, rest) = neither (ltb (handed here fragment) size) (not_full size (counts_of (final_states p q (plain_all (next ∷ fragments)) (cursor_of p q (closed p q here (plain_of fragment)))))) e in
      (omega (arith, count_held here fragment a.0, ltb-false (handed here fragment) size full), none-empty size (next ∷ fragments) (live_cursor p q here fragment) some a.1 (subst (λ x. not_full size (counts_of (final_states p q (plain_all (next ∷ fragments)) x)) ≡ false) (sym there) rest))

  run-over : (size : ℕ) (fragments : List LiveFragment) (here : Cursor) → LentAsZeros fragments → 0 < size → AllLiveAccepted p q fragments here → not_full size (counts_of (final_states p q (plain_all fragments) here)) ≡ false →
      (addr : ℕ) → body_ends p addr (rows_run p q (plain_all fragments) here) ≡ over_fragments p (live_ends p q fragments here) addr
  run-over size fragments here l some a full addr =
      ap (body_ends p addr) (sym (rows-joined fragments here a)) ∙ ends-over p addr (fresh_of fragments l here) (live_ends p q fragments here) (fresh-ends fragments l here) (none-empty size fragments here some a full)

-- THE COUNTS THAT PASS 2 SETS

wide_at : (rows : List (List ℕ)) (i : ℕ) → Wide rows → i < length rows → length (get_or rows i []) ≡ 49
unfolding Wide
wide_at [] i w h = absurd (omega arith)
wide_at (row ∷ rows) zero w h = w.0
wide_at (row ∷ rows) (suc i) w h = wide_at rows i w.1 (omega arith)

-- what a row's decoder cells say
same-opcode : (a b : List ℕ) → decoder_of a ≡ decoder_of b → opcode_of a ≡ opcode_of b
unfolding opcode_of
same-opcode a b e = ap (λ x. low_bits (reduced x)) (bits-by a ∙ ap (λ d. take 7 (drop 1 d)) e ∙ sym (bits-by b))

same-cell : (a b : List ℕ) (k : ℕ) → k < 24 → decoder_of a ≡ decoder_of b → cell_at a (6 + k) ≡ cell_at b (6 + k)
same-cell a b k h e = cell-by a k h ∙ ap (λ d. cell_at d k) e ∙ sym (cell-by b k h)

-- a row with another count has its opcode and its address
counted-opcode : (row : List ℕ) (v : ℕ) → opcode_of (set row 23 v) ≡ opcode_of row
unfolding opcode_of
counted-opcode row v =
    ap (λ x. low_bits (reduced x)) (bits-by (set row 23 v) ∙ ap (λ d. take 7 (drop 1 d)) (count-decoder row v) ∙ count_bits (decoder_of row) v ∙ sym (bits-by row))

pick-opcode : (t : Bool) (row : List ℕ) (v : ℕ) → opcode_of (pick t (set row 23 v) row) ≡ opcode_of row
pick-opcode true row v = counted-opcode row v
pick-opcode false row v = refl

pick-addr : (t : Bool) (row : List ℕ) (v : ℕ) → addr_of (pick t (set row 23 v) row) ≡ addr_of row
pick-addr true row v = cell_other row 23 6 v (λ e. omega arith)
pick-addr false row v = refl

module _ (p : Profile) (count : ℕ → ℕ) where
  counts-addr : (rows : List (List ℕ)) (i : ℕ) → addr_of (get_or (with_counts p count rows) i []) ≡ addr_of (get_or rows i [])
  unfolding with_counts
  counts-addr [] i = refl
  counts-addr (row ∷ []) i = refl
  counts-addr (row ∷ next ∷ rows) zero = pick-addr (eqb (opcode_of row) p.loop_op) row (count (addr_of next))
  counts-addr (row ∷ next ∷ rows) (suc i) = counts-addr (next ∷ rows) i

  counts-at : (rows : List (List ℕ)) (i : ℕ) → i + 1 < length rows →
      get_or (with_counts p count rows) i [] ≡ pick (eqb (opcode_of (get_or rows i [])) p.loop_op) (set (get_or rows i []) 23 (count (addr_of (get_or rows (i + 1) [])))) (get_or rows i [])
  unfolding with_counts
  counts-at [] i h = absurd (omega arith)
  counts-at (row ∷ []) i h = absurd (omega arith)
  counts-at (row ∷ next ∷ rows) zero h = refl
  counts-at (row ∷ next ∷ rows) (suc i) h = let e : suc i + 1 ≡ suc (i + 1) = omega arith in rw e (counts-at (next ∷ rows) i (omega arith))

  module _ (low : (x : ℕ) → count x < P) where
    -- a LOOP row but the last has the count of the address behind it
    counts-set : (rows : List (List ℕ)) (i : ℕ) → Wide rows → i + 1 < length rows → opcode_of (get_or (with_counts p count rows) i []) ≡ p.loop_op →
        cell_at (get_or (with_counts p count rows) i []) 23 ≡ count (addr_of (get_or (with_counts p count rows) (i + 1) []))
    counts-set rows i w h e =
        let row : List ℕ = get_or rows i [] in
        let v : ℕ = count (addr_of (get_or rows (i + 1) [])) in
        let at = counts-at rows i h in
        let is : opcode_of row ≡ p.loop_op = sym (pick-opcode (eqb (opcode_of row) p.loop_op) row v) ∙ ap opcode_of (sym at) ∙ e in
        let wide : length row ≡ 49 = wide_at rows i w (omega arith) in
        rw (counts-addr rows (i + 1), at, eq-eqb (opcode_of row) p.loop_op is) (cell_set row 23 v (omega arith) (low (addr_of (get_or rows (i + 1) []))))

-- PASS 2 BY ITSELF

in_buffer : (cells rows : ℕ) → (buffer_wrong cells || fewer_rows cells rows) ≡ false → (49 * rows ≤ cells) × (rows ≤ 16777216)
unfolding fewer_rows
in_buffer cells rows e =
    let (a, b) = neither (buffer_wrong cells) (ltb (cells / 49) rows) e in
    let c = ltb-false (cells / 49) rows b in
    (omega arith, omega (arith, few-rows cells a))

-- what pass 2 by itself sets
set-alone : (p : Profile) (n : ℕ) (buffer : List ℕ) → refusal2 p buffer n ≡ 0 → CountsSet p (λ addr. body_ends p addr (rows_of n buffer)) n (on_rows n (multiplied p) buffer)
unfolding buffer_row multiplied on_rows refusal2
set-alone p n buffer e i h is =
    let rows : List (List ℕ) = rows_of n buffer in
    let (long, few) = in_buffer (length buffer) n (none_first _ _ _ (none_first _ _ _ e).1).0 in
    let wide : Wide rows = wide_rows n buffer long in
    let count : ℕ → ℕ = λ x. body_ends p x rows in
    let set2 : List (List ℕ) = multiplied p rows in
    let rest : List ℕ = drop (49 * length set2) buffer in
    let wide2 : Wide set2 = multiplied-wide p rows wide in
    let long1 : length rows ≡ n = length-rows n buffer in
    let long2 : length set2 ≡ length rows = multiplied-length p rows in
    let at : (k : ℕ) → k < n → buffer_row k (on_rows n (multiplied p) buffer) ≡ get_or set2 k [] = λ k g. row-at set2 rest k wide2 (omega arith) in
    let this = at i (omega arith) in
    let next = at (i + 1) h in
    ap (λ x. cell_at x 23) this ∙ counts-set p count (λ x. omega (arith, ends-most p x rows)) rows i wide (omega arith) (sym (ap opcode_of this) ∙ is) ∙ ap (λ x. count (addr_of x)) (sym next)

-- the body ENDs are seen in the decoder cells
same_ends : (p : Profile) (addr : ℕ) (rows others : List (List ℕ)) → decoders_of rows ≡ decoders_of others → body_ends p addr rows ≡ body_ends p addr others
same_ends p addr rows others e =
    ends-hits p addr rows ∙ ap (hits addr) (same-looks p rows others e) ∙ sym (ends-hits p addr others)

-- fragments by themselves, the decoder cells of whose rows stand one after another in a buffer
pub tallies-add-up : (p : Profile) (fragments : List FreshFragment) (buffer : List ℕ) → NoneEmpty (fresh_ends p fragments) → HoldsDecoders buffer (rows_of_all (fresh_ends p fragments)) →
    refusal2 p buffer (length (rows_of_all (fresh_ends p fragments))) ≡ 0 →
    CountsSet p (over_fragments p (fresh_ends p fragments)) (length (rows_of_all (fresh_ends p fragments))) (on_rows (length (rows_of_all (fresh_ends p fragments))) (multiplied p) buffer)
tallies-add-up p fragments buffer some held e i h is =
    let rows : List (List ℕ) = rows_of_all (fresh_ends p fragments) in
    let addr : ℕ = addr_of (buffer_row (i + 1) (on_rows (length rows) (multiplied p) buffer)) in
    set-alone p (length rows) buffer e i h is ∙ same_ends p addr (rows_of (length rows) buffer) rows held ∙ ends-over p addr fragments (fresh_ends p fragments) refl some

-- pass 3 leaves the decoder cells
inverted-decoder : (rows : List (List ℕ)) (i : ℕ) → decoder_of (get_or (inverted rows) i []) ≡ decoder_of (get_or rows i [])
unfolding inverted
inverted-decoder [] i = refl
inverted-decoder (row ∷ rows) zero = helper-decoder row (inverse_of (get_or row 48 0))
inverted-decoder (row ∷ rows) (suc i) = inverted-decoder rows i

-- the rows in front of the HALT rows
front : (p : Profile) (built : List ℕ) (height : ℕ) (rows : List (List ℕ)) (i : ℕ) → i < length rows → get_or (padded p height (halted p built rows)) i [] ≡ get_or rows i []
unfolding padded halted
front p built height rows i h =
    let halt : List (List ℕ) = halt_row p built (last_row rows) ∷ [] in
    get_or-append (rows ++ halt) _ [] i (omega (arith, length-append rows halt)) ∙ get_or-append rows halt [] i h

-- AFTER THE PASSES

module _ (p : Profile) (q : Queues) (size : ℕ) (fragments : List LiveFragment) (here : Cursor) (zeros : LentAsZeros fragments) (none_refused : AllLiveAccepted p q fragments here) where
  abbrev plain : List Fragment
  plain = plain_all fragments

  abbrev ends : List LiveHeld
  ends = live_ends p q fragments here

  abbrev finals : List TracerFinalState
  finals = final_states p q plain here

  accepted : AllAccepted p q plain here
  accepted = (live-as-calls p q fragments here none_refused).none_refused

  module _ (one_size : OneSize size plain (counts_of finals)) (others top : List ℕ) (height : ℕ) where
    run-set : PassesChecked p q size plain here accepted one_size others top height → CountsSet p (over_fragments p ends) (sum_of (counts_of finals)) (flat (run-rows p q size plain here accepted one_size others top height))
    unfolding buffer_row multiplied
    run-set c i h is =
        let rows : List (List ℕ) = rows_run p q plain here in
        let lasts : List (List ℕ) = built_of (length (counts_of finals) - 1) (built_cells finals) in
        let lasts-25 = run-lasts p q size plain here accepted one_size others top height c in
        let wide : Wide rows = rows-wide p q plain here accepted in
        let rows1 : List (List ℕ) = fixed_up size top lasts rows in
        let rows2 : List (List ℕ) = multiplied p rows1 in
        let rows3 : List (List ℕ) = inverted rows2 in
        let all : List (List ℕ) = run-rows p q size plain here accepted one_size others top height in
        let sum : sum_of (counts_of finals) ≡ length rows = sum_rows p q plain here accepted in
        let long1 : length rows1 ≡ length rows = fixed-length rows lasts size top in
        let long3 : length rows3 ≡ length rows = inverted-length rows2 ∙ multiplied-length p rows1 ∙ long1 in
        let all-wide = run-wide p q size plain here accepted one_size others top height c in
        let all-long : length all ≡ height = run_length p q size plain here accepted one_size others top height c in
        let few = c.few in
        let room = c.room in
        let this : buffer_row i (flat all) ≡ get_or rows3 i [] =
        ap (λ x. take 49 (drop (49 * i) x)) (sym (append-nil (flat all))) ∙ row-at all [] i all-wide (omega arith) ∙ front p _ height rows3 i (omega arith) in
        let next : buffer_row (i + 1) (flat all) ≡ get_or rows3 (i + 1) [] =
        ap (λ x. take 49 (drop (49 * (i + 1)) x)) (sym (append-nil (flat all))) ∙ row-at all [] (i + 1) all-wide (omega arith) ∙ front p _ height rows3 (i + 1) (omega arith) in
        let count : ℕ → ℕ = λ x. body_ends p x rows1 in
        let loop : opcode_of (get_or rows2 i []) ≡ p.loop_op = sym (same-opcode (get_or rows3 i []) (get_or rows2 i []) (inverted-decoder rows2 i)) ∙ ap opcode_of (sym this) ∙ is in
        let was : cell_at (get_or rows2 i []) 23 ≡ count (addr_of (get_or rows2 (i + 1) [])) =
        counts-set p count (λ x. omega (arith, ends-most p x rows1)) rows1 i (fixed-wide rows lasts size top lasts-25 wide) (omega arith) loop in
        let addr : ℕ = addr_of (buffer_row (i + 1) (flat all)) in
        let at : addr_of (get_or rows2 (i + 1) []) ≡ addr = sym (ap addr_of next ∙ same-cell (get_or rows3 (i + 1) []) (get_or rows2 (i + 1) []) 0 (omega arith) (inverted-decoder rows2 (i + 1))) in
        let over : count addr ≡ over_fragments p ends addr =
        ends-hits p addr rows1 ∙ ap (hits addr) (fixed-looks p rows lasts size top lasts-25 wide) ∙ sym (ends-hits p addr rows)
        ∙ run-over p q size fragments here zeros c.some_size none_refused c.full addr in
        ap (λ x. cell_at x 23) this ∙ same-cell (get_or rows3 i []) (get_or rows2 i []) 17 (omega arith) (inverted-decoder rows2 i) ∙ was ∙ ap count at ∙ over

  -- "The fragments' tallies, with 1 more for each flagged END that ends a fragment and has its successor in the next, must add up to every count it
  -- sets": of fragments on fresh tracers with tallies of zeros, no call refused, all full but the last (no proper run is asked for), after the
  -- finisher
  pub tallies-add-up-finished : (others top : List ℕ) (height : ℕ) → OneSize size plain (counts_of (live_finals ends)) → LiveFinisherPasses p q size fragments here others top height →
      CountsSet p (over_fragments p ends) (sum_of (counts_of (live_finals ends))) (live_by_finisher p q size fragments here others top height)
  tallies-add-up-finished others top height one_size =
      let same = live-as-calls p q fragments here none_refused in
      let sizes = rw same.same_finals at one_size in
      let Q : List ℕ → Type 0 = CountsSet p (over_fragments p ends) (sum_of (counts_of (live_finals ends))) in
      live_written p q size fragments here none_refused others top height Q
      (by-finisher p q size plain here accepted sizes others top height Q (λ c. rw same.same_finals (run-set sizes others top height c)))

  -- and after the five calls, one after another
  pub tallies-add-up-five : (others top : List ℕ) (height : ℕ) → OneSize size plain (counts_of (live_finals ends)) → LiveFivePass p q size fragments here others top height →
      CountsSet p (over_fragments p ends) (sum_of (counts_of (live_finals ends))) (live_by_five p q size fragments here others top height)
  tallies-add-up-five others top height one_size =
      let same = live-as-calls p q fragments here none_refused in
      let sizes = rw same.same_finals at one_size in
      let Q : List ℕ → Type 0 = CountsSet p (over_fragments p ends) (sum_of (counts_of (live_finals ends))) in
      live-written-by-five p q size fragments here none_refused others top height Q
      (by-five p q size plain here accepted sizes others top height Q (λ c. rw same.same_finals (run-set sizes others top height c)))
