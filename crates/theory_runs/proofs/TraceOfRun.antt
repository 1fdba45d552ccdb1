-- Demand 3, second half: what is written of a proper run is a trace, and its reading is the nesting that ran.
use mathlib.Core.Path.{◌≡◌, ◌∙◌, sym, ap, ap₂}
use mathlib.Core.Bool.{Bool, false, ◌||◌}
use mathlib.Core.List.{List, [], ◌∷◌, ◌++◌, append_assoc, append-nil}
use Prim.Native.Nat.{ℕ, zero, suc, ◌+◌, ◌-◌, ◌*◌, ◌/◌, ◌%◌, ◌≤◌, ◌<◌}
use native.Mathlib.Omega.{arith}
use borrow.Author.Tests.{eqb-false, ltb-false, leb-false, le-ltb}
use lib.Dec.{leb, ltb, eqb}
use lib.ListN.{length, take, drop, length-take, length-drop}
use lib.Seq.{take_at}
use Rattle.groups.specs.declared.batch.BasicBlockNode.{BasicBlockNode}
use Rattle.rows.specs.declared.records.profile.Profile.{Profile}
use Rattle.rows.specs.records.Forests.{Forest}
use Rattle.rows.specs.records.Addresses.{Queues, read_state}
use Rattle.field.proofs.CellLaws.{length-reduced}
use Rattle.rows.specs.records.Profiles.{profile_wrong}
use Rattle.rows.specs.declared.records.address_state.Cursor.{Cursor}
use Rattle.rows.specs.records.Buffers.{rows_of, flat, on_rows, buffer_wrong, fewer_rows}
use Rattle.rows.specs.passes.Passes.{fixed_up, built_of, multiplied, inverted, halted, padded, sum_of, any_above, no_fragment, not_full, fragments_wrong, height_wrong, last_built, refusal1, refusal2, refusal5, unless_refused, refusal_all, all_passes}
use Rattle.groups.specs.Answer.{first_of}
use Rattle.rows.proofs.passes.Checks.{neither, none_first}
use Rattle.rows.proofs.passes.RowLists.{Wide, length-flat, rows-flat}
use Rattle.rows.proofs.passes.FirstRows.{Cells25, fixed-wide, fixed-length}
use Rattle.rows.proofs.passes.Written.{multiplied-wide, multiplied-length}
use Rattle.theory_readings.specs.Readings.{buffer_refusal, all_rows, Trace}
use Rattle.theory_runs.specs.Calls.{Fragment, AllAccepted, final_states, counts_of, OneSize}
use Rattle.theory_runs.specs.Happened.{Cycle, cycles_of}
use Rattle.theory_runs.specs.ProperRuns.{InBlock, Run, RunPasses}
use Rattle.theory_runs.specs.Written.{rows_run}
use Rattle.theory_runs.specs.Finished.{Runs, nesting, buffer1, buffer2, buffer3, buffer4, buffer5, FiveAccepted, finisher_buffer, run_counts, run_built, run_buffer, written_by_five, written_by_finisher, FivePass, FinisherPasses}
use Rattle.theory_runs.proofs.Looks.{Fine}
use Rattle.theory_runs.proofs.Folded.{AllFine, rows-wide, sum_rows, cells-rows, rows-laid}
use Rattle.theory_reductions.specs.Below.{BelowAll}
use Rattle.theory_reductions.proofs.CellsBelow.{below-reduced, below-fixed, below-multiplied, below-inverted, below-halted, below-padded}
use Rattle.theory_runs.proofs.StartsReduced.{starts-reduced}
use Rattle.theory_runs.proofs.PassLooks.{inverted-wide, inverted-length}
use Rattle.theory_runs.proofs.FinishedRows.{all-rows, halted-wide, halted-length, all-wide, all-length, all-reading}

-- THE CYCLES OF A PROPER RUN

module _ (p : Profile) (q : Queues) where
  block-fine : {f : Forest} {id : ℕ} {block : BasicBlockNode} {index op : ℕ} {body : Bool} {a x g : ℕ} {cycles rest : List Cycle} → InBlock p f id block index op body a x g cycles rest → AllFine p q rest → AllFine p q cycles
  unfolding AllFine Fine
  block-fine (InBlock.ended size most) h = (tt, h)
  block-fine (InBlock.operation opcode has is d) h = (is, block-fine d h)
  block-fine (InBlock.respan size more d) h = (tt, block-fine d h)

  mutual
    unfolding AllFine Fine

    pub run-fine : {f : Forest} {id : ℕ} {body : Bool} {a b g : ℕ} {cycles rest : List Cycle} → Run p f id body a b g cycles rest → AllFine p q rest → AllFine p q cycles
    run-fine (Run.block holds d) h = (tt, block-fine d h)
    run-fine (Run.join holds d e) h = (tt, run-fine d (run-fine e (tt, h)))
    run-fine (Run.one kind child d) h = (tt, run-fine d (tt, h))
    run-fine (Run.loop holds d) h = (tt, passes-fine d h)

    passes-fine : {f : Forest} {id child : ℕ} {body : Bool} {a b g : ℕ} {cycles rest : List Cycle} → RunPasses p f id child body a b g cycles rest → AllFine p q rest → AllFine p q cycles
    passes-fine (RunPasses.ended d) h = run-fine d (tt, h)
    passes-fine (RunPasses.again d e) h = run-fine d (tt, passes-fine e h)

-- THE BUFFER

-- what f makes of the rows in front
on-front : (n : ℕ) (f : List (List ℕ) → List (List ℕ)) (buffer rest : List ℕ) (rows : List (List ℕ)) → buffer ≡ flat rows ++ rest → n ≡ length rows → Wide rows →
    on_rows n f buffer ≡ flat (f rows) ++ drop (49 * length (f rows)) buffer
unfolding on_rows
on-front n f buffer rest rows e k w =
    ap (λ (l : List (List ℕ)). flat (f l) ++ drop (49 * length (f l)) buffer) (ap₂ rows_of k e ∙ rows-flat rows rest w)

-- 25 cells each
built-25 : (n : ℕ) (built : List ℕ) → 25 * n ≤ length built → Cells25 (built_of n built)
unfolding built_of Cells25
built-25 zero built h = tt
built-25 (suc n) built h = (length-reduced (take 25 built) ∙ length-take 25 built ∙ omega arith, built-25 n (drop 25 built) (omega (arith, length-drop 25 built)))

built-below : (n : ℕ) (built : List ℕ) → BelowAll (built_of n built)
unfolding built_of BelowAll
built-below zero built = tt
built-below (suc n) built = (below-reduced (take 25 built), built-below n (drop 25 built))

-- all rows of a buffer that is rows alone
all-flat : (rows : List (List ℕ)) → Wide rows → all_rows (flat rows) ≡ rows
unfolding all_rows
all-flat rows w =
    let e : length (flat rows) / 49 ≡ length rows = omega (arith, length-flat rows w) in
    ap₂ rows_of e (sym (append-nil (flat rows))) ∙ rows-flat rows [] w

-- the five passes on a buffer with the rows in front
module _ (p : Profile) (size : ℕ) (counts built top : List ℕ) (height : ℕ) (buffer rest : List ℕ) (rows : List (List ℕ))
    (holds : buffer ≡ flat rows ++ rest) (sum : sum_of counts ≡ length rows) (wide : Wide rows) (right : profile_wrong p ≡ false)
    (in_built : 25 * length counts ≤ length built) (some : 0 < length counts) (room : length rows < height) where
  abbrev pub lasts : List (List ℕ)
  lasts = built_of (length counts - 1) built

  abbrev pub last_built_lem : List ℕ
  last_built_lem = last_built counts built

  pub lasts-25 : Cells25 lasts
  lasts-25 = built-25 (length counts - 1) built (omega arith)

  pub last-25 : length last_built_lem ≡ 25
  unfolding last_built
  last-25 = simp (length-take, length-drop) (omega arith)

  abbrev pub finished : List (List ℕ)
  finished = all-rows p right size top lasts last_built_lem height rows lasts-25 last-25 wide room

  pub passes-rows : take (49 * height) (all_passes p size counts built top height buffer) ≡ flat finished
  unfolding all_passes
  passes-rows =
      let rows1 : List (List ℕ) = fixed_up size top lasts rows in
      let rows2 : List (List ℕ) = multiplied p rows1 in
      let rows3 : List (List ℕ) = inverted rows2 in
      let rows4 : List (List ℕ) = halted p last_built_lem rows3 in
      let w1 : Wide rows1 = fixed-wide rows lasts size top lasts-25 wide in
      let w2 : Wide rows2 = multiplied-wide p rows1 w1 in
      let w3 : Wide rows3 = inverted-wide rows2 w2 in
      let w4 : Wide rows4 = halted-wide p right size top lasts last_built_lem height rows lasts-25 last-25 wide room in
      let l1 : sum_of counts ≡ length rows1 = sum ∙ sym (fixed-length rows lasts size top) in
      let l2 : sum_of counts ≡ length rows2 = l1 ∙ sym (multiplied-length p rows1) in
      let l3 : sum_of counts ≡ length rows3 = l2 ∙ sym (inverted-length rows2) in
      let l4 : sum_of counts + 1 ≡ length rows4 = omega (arith, sum, halted-length p right size top lasts last_built_lem height rows lasts-25 last-25 wide room) in
      let b1 : List ℕ = on_rows (sum_of counts) (fixed_up size top lasts) buffer in
      let b2 : List ℕ = on_rows (sum_of counts) (multiplied p) b1 in
      let b3 : List ℕ = on_rows (sum_of counts) inverted b2 in
      let b4 : List ℕ = on_rows (sum_of counts) (halted p last_built_lem) b3 in
      let e1 = on-front (sum_of counts) (fixed_up size top lasts) buffer rest rows holds sum wide in
      let e2 = on-front (sum_of counts) (multiplied p) b1 (drop (49 * length rows1) buffer) rows1 e1 l1 w1 in
      let e3 = on-front (sum_of counts) inverted b2 (drop (49 * length rows2) b1) rows2 e2 l2 w2 in
      let e4 = on-front (sum_of counts) (halted p last_built_lem) b3 (drop (49 * length rows3) b2) rows3 e3 l3 w3 in
      let e5 = on-front (sum_of counts + 1) (padded p height) b4 (drop (49 * length rows4) b3) rows4 e4 l4 w4 in
      let w5 = all-wide p right size top lasts last_built_lem height rows lasts-25 last-25 wide room in
      let l5 = all-length p right size top lasts last_built_lem height rows lasts-25 last-25 wide room in
      ap (take (49 * height)) e5 ∙ take_at (flat finished) (drop (49 * length finished) b4) (49 * height) (length-flat finished w5 ∙ ap (λ (n : ℕ). 49 * n) l5)

  module _ (few : height ≤ 16777216) (rows-below : BelowAll rows) where
    pub finished-below : BelowAll finished
    finished-below =
        let rows1 : List (List ℕ) = fixed_up size top lasts rows in
        let rows2 : List (List ℕ) = multiplied p rows1 in
        let rows3 : List (List ℕ) = inverted rows2 in
        let rows4 : List (List ℕ) = halted p last_built_lem rows3 in
        let h1 = below-fixed rows lasts size top (built-below (length counts - 1) built) rows-below in
        let h2 = below-multiplied p rows1 (omega (arith, fixed-length rows lasts size top)) h1 in
        let h3 = below-inverted rows2 h2 in
        let h4 = below-halted p last_built_lem rows3 h3 in
        below-padded p height rows4 h4

  module _ (few : height ≤ 16777216) where
    -- 2 and 11 pass
    buffer-passes : buffer_refusal p (flat finished) ≡ 0
    unfolding buffer_refusal first_of buffer_wrong
    buffer-passes =
        let w5 = all-wide p right size top lasts last_built_lem height rows lasts-25 last-25 wide room in
        let l5 = all-length p right size top lasts last_built_lem height rows lasts-25 last-25 wide room in
        let long : length (flat finished) ≡ 49 * height = length-flat finished w5 ∙ ap (λ (n : ℕ). 49 * n) l5 in
        rw (right, long, le-ltb 0 (49 * height % 49) (omega arith), le-ltb 16777216 (49 * height / 49) (omega arith))

-- WHAT THE PASSES REFUSE

-- what is known where none of the checks holds
pub record Checked (p : Profile) (size : ℕ) (counts built top : List ℕ) (height : ℕ) (buffer : List ℕ) : Type 0 where
  pub right : profile_wrong p ≡ false
  pub some : 0 < length counts
  pub in_built : 25 * length counts ≤ length built
  pub room : sum_of counts < height
  pub few : height ≤ 16777216
  pub some_size : 0 < size
  pub full : not_full size counts ≡ false

some-counts : (counts : List ℕ) → no_fragment counts ≡ false → 0 < length counts
some-counts [] e = let z : ◌≡◌ {A = ℕ} 0 1 = cc in absurd (omega arith)
some-counts (count ∷ counts) e = omega arith

pub few-rows : (cells : ℕ) → buffer_wrong cells ≡ false → cells / 49 ≤ 16777216
unfolding buffer_wrong
few-rows cells e = ltb-false 16777216 (cells / 49) (neither (ltb 0 (cells % 49)) (ltb 16777216 (cells / 49)) e).1

built-fits : (cells size : ℕ) (counts built : List ℕ) → fragments_wrong cells size counts built ≡ false → (buffer_wrong cells ≡ false) × (25 * length counts ≤ length built) × (0 < size)
unfolding fragments_wrong
built-fits cells size counts built e =
    let (a, b) = neither (buffer_wrong cells) _ e in
    let c = (neither (fewer_rows cells (sum_of counts)) _ b).1 in
    let (some, d) = neither (eqb size 0) _ c in
    let f = (neither (any_above size counts) (ltb (length built) (25 * length counts)) d).1 in
    (a, ltb-false (length built) (25 * length counts) f, omega (arith, eqb-false size 0 some))

height-fits : (cells rows height : ℕ) → height_wrong cells rows height ≡ false → (rows < height) × (height ≤ cells / 49)
unfolding height_wrong fewer_rows
height-fits cells rows height e =
    let (a, b) = neither (leb height rows) (ltb (cells / 49) height) e in
    (leb-false height rows a, ltb-false (cells / 49) height b)

pub checked-finisher : (p : Profile) (size : ℕ) (counts built top : List ℕ) (height : ℕ) (buffer : List ℕ) → refusal_all p buffer size counts built height ≡ 0 → Checked p size counts built top height buffer
unfolding refusal_all
checked-finisher p size counts built top height buffer e =
    let (c, d) = none_first _ _ _ e in
    let (f, g) = none_first _ _ _ d in
    let (h, i) = none_first _ _ _ g in
    let (j, k) = neither (fragments_wrong (length buffer) size counts built) (height_wrong (length buffer) (sum_of counts) height) f in
    let (o, r, n) = built-fits (length buffer) size counts built j in
    let (s, t) = height-fits (length buffer) (sum_of counts) height k in
    record { right = c; some = some-counts counts h; in_built = r; room = s; few = omega (arith, few-rows (length buffer) o); some_size = n; full = (none_first _ _ _ i).0 }

height-fits-5 : (cells rows height : ℕ) → (buffer_wrong cells || (eqb (rows + 1) 0 || (ltb height (rows + 1) || fewer_rows cells height))) ≡ false → (rows < height) × (height ≤ 16777216)
unfolding fewer_rows
height-fits-5 cells rows height e =
    let (a, b) = neither (buffer_wrong cells) _ e in
    let c = (neither (eqb (rows + 1) 0) _ b).1 in
    let (d, f) = neither (ltb height (rows + 1)) (ltb (cells / 49) height) c in
    (omega (arith, ltb-false height (rows + 1) d), omega (arith, few-rows cells a, ltb-false (cells / 49) height f))

not-refused : (number : ℕ) (before after : List ℕ) → number ≡ 0 → unless_refused number before after ≡ after
not-refused number before after e = rw e

module _ (p : Profile) (size : ℕ) (counts built top : List ℕ) (height : ℕ) (buffer : List ℕ) (five : FiveAccepted p size counts built top height buffer) where
  pub checked-five : Checked p size counts built top height buffer
  unfolding refusal1 refusal2 refusal5
  checked-five =
      let (c, d) = none_first _ _ _ five.first in
      let (f, g) = none_first _ _ _ d in
      let (o, r, n) = built-fits (length buffer) size counts built c in
      let right = (none_first _ _ _ five.second).0 in
      let cells = (none_first _ _ _ (none_first _ _ _ five.fifth).1).0 in
      let (s, t) = height-fits-5 (length (buffer4 p size counts built top height buffer)) (sum_of counts) height cells in
      record { right = right; some = some-counts counts f; in_built = r; room = s; few = t; some_size = n; full = (none_first _ _ _ g).0 }

  -- the five calls do what the finisher does
  pub five-all : buffer5 p size counts built top height buffer ≡ all_passes p size counts built top height buffer
  unfolding buffer1 buffer2 buffer3 buffer4 buffer5 all_passes
  five-all =
      let rows : ℕ = sum_of counts in
      let e1 : buffer1 p size counts built top height buffer ≡ on_rows rows (fixed_up size top (built_of (length counts - 1) built)) buffer = not-refused _ buffer _ five.first in
      let e2 : buffer2 p size counts built top height buffer ≡ on_rows rows (multiplied p) (buffer1 p size counts built top height buffer) = not-refused _ _ _ five.second in
      let e3 : buffer3 p size counts built top height buffer ≡ on_rows rows inverted (buffer2 p size counts built top height buffer) = not-refused _ _ _ five.third in
      let e4 : buffer4 p size counts built top height buffer ≡ on_rows rows (halted p (last_built counts built)) (buffer3 p size counts built top height buffer) = not-refused _ _ _ five.fourth in
      let e5 : buffer5 p size counts built top height buffer ≡ on_rows (rows + 1) (padded p height) (buffer4 p size counts built top height buffer) = not-refused _ _ _ five.fifth in
      e5 ∙ ap (on_rows (rows + 1) (padded p height)) (e4 ∙ ap (on_rows rows (halted p (last_built counts built))) (e3 ∙ ap (on_rows rows inverted) (e2 ∙ ap (on_rows rows (multiplied p)) e1)))

-- THE ROWS OF A RUN

-- any list of calls, none refused, all fragments but the last full
module _ (p : Profile) (q : Queues) (size : ℕ) (fragments : List Fragment) (here : Cursor) (none_refused : AllAccepted p q fragments here) (one_size : OneSize size fragments (counts_of (final_states p q fragments here))) (others top : List ℕ) (height : ℕ) where
  abbrev counts : List ℕ
  counts = run_counts p q size fragments here others top height

  abbrev built : List ℕ
  built = run_built p q size fragments here others top height

  abbrev buffer : List ℕ
  buffer = run_buffer p q size fragments here others top height

  abbrev rows : List (List ℕ)
  rows = rows_run p q fragments here

  -- its rows stand in front
  rows-first : (rest : List ℕ) × (buffer ≡ flat rows ++ rest)
  rows-first =
      let (rest, cells) = cells-rows p q size fragments here none_refused one_size in
      (rest ++ others, ap (λ y. y ++ others) cells ∙ append_assoc (flat rows) rest others)

  sum : sum_of counts ≡ length rows
  sum = sum_rows p q fragments here none_refused

  wide : Wide rows
  wide = rows-wide p q fragments here none_refused

  -- the first height rows after the passes
  abbrev pub run-rows : List (List ℕ)
  run-rows = padded p height (halted p (last_built counts built) (inverted (multiplied p (fixed_up size top (built_of (length counts - 1) built) rows))))

  -- no pass refuses
  abbrev pub PassesChecked : Type 0
  PassesChecked = Checked p size counts built top height buffer

  module _ (c : PassesChecked) where
    room : length rows < height
    room = omega (arith, sum, c.room)

    pub run-lasts : Cells25 (built_of (length counts - 1) built)
    run-lasts = lasts-25 p size counts built top height buffer rows-first.0 rows rows-first.1 sum wide c.right c.in_built c.some room

    run-last : length (last_built counts built) ≡ 25
    run-last = last-25 p size counts built top height buffer rows-first.0 rows rows-first.1 sum wide c.right c.in_built c.some room

    run-written : take (49 * height) (all_passes p size counts built top height buffer) ≡ flat run-rows
    run-written = passes-rows p size counts built top height buffer rows-first.0 rows rows-first.1 sum wide c.right c.in_built c.some room

    pub run-wide : Wide run-rows
    run-wide = all-wide p c.right size top (built_of (length counts - 1) built) (last_built counts built) height rows run-lasts run-last wide room

    pub run_length : length run-rows ≡ height
    run_length = all-length p c.right size top (built_of (length counts - 1) built) (last_built counts built) height rows run-lasts run-last wide room

    pub rows-below : BelowAll rows → BelowAll run-rows
    rows-below = finished-below p size counts built top height buffer rows-first.0 rows rows-first.1 sum wide c.right c.in_built c.some room c.few

    run-passes : buffer_refusal p (flat run-rows) ≡ 0
    run-passes = buffer-passes p size counts built top height buffer rows-first.0 rows rows-first.1 sum wide c.right c.in_built c.some room c.few

    -- of a proper run they are a trace
    run-trace : (runs : Runs p q size fragments here) → Trace p (flat run-rows) (nesting runs)
    unfolding Trace AllFine
    run-trace runs =
        let laid-rows = rows-laid p q fragments here none_refused (run-fine p q runs.proper tt) in
        let reading = all-reading p c.right size top (built_of (length counts - 1) built) (last_built counts built) height rows run-lasts run-last wide room (cycles_of q fragments here.at) (read_state here.state) laid-rows (omega (arith, c.few, room)) runs.proper (rw (starts-reduced q fragments here.at) runs.loops_apart) runs.shallow in
        rw (all-flat run-rows run-wide) (run-passes, reading)

  -- what holds of their cells holds of what is written: by the finisher, and by the five calls one after another
  module _ (Q : List ℕ → Type 0) (h : PassesChecked → Q (flat run-rows)) where
    pub by-finisher : FinisherPasses p q size fragments here others top height → Q (written_by_finisher p q size fragments here others top height)
    unfolding finisher_buffer
    by-finisher e = let c = checked-finisher p size counts built top height buffer e in rw (e, run-written c) (h c)

    pub by-five : FivePass p q size fragments here others top height → Q (written_by_five p q size fragments here others top height)
    by-five five = let c = checked-five p size counts built top height buffer five in rw (five-all p size counts built top height buffer five, run-written c) (h c)

-- THE THEOREM

module _ (p : Profile) (q : Queues) (size : ℕ) (fragments : List Fragment) (here : Cursor) (runs : Runs p q size fragments here) (others top : List ℕ) (height : ℕ) where
  -- "what is then written is such a trace, its reading is the nesting of blocks and operations that ran .., and each LOOP row's count is the
  -- number of passes of its body": for the finisher
  pub finisher-trace : FinisherPasses p q size fragments here others top height → Trace p (written_by_finisher p q size fragments here others top height) (nesting runs)
  finisher-trace =
      by-finisher p q size fragments here runs.accepted runs.one_size others top height (λ cells. Trace p cells (nesting runs)) (λ c. run-trace p q size fragments here runs.accepted runs.one_size others top height c runs)

  -- and for the five calls, one after another
  pub five-trace : FivePass p q size fragments here others top height → Trace p (written_by_five p q size fragments here others top height) (nesting runs)
  five-trace =
      by-five p q size fragments here runs.accepted runs.one_size others top height (λ cells. Trace p cells (nesting runs)) (λ c. run-trace p q size fragments here runs.accepted runs.one_size others top height c runs)
