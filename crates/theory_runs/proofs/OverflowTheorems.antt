-- Change request N4: the overflow rule holds in each of the first height rows that are written of a run. The run need not be proper.
use mathlib.Core.Path.{◌≡◌, ◌∙◌, sym, ap}
use mathlib.Core.List.{List, [], ◌∷◌, append-nil}
use Prim.Native.Nat.{ℕ, ◌-◌, ◌*◌, ◌%◌, ◌≤◌, ◌<◌}
use native.Mathlib.Nat.{mul_comm}
use native.Mathlib.Omega.{arith}
use lib.ListN.{length, get_or}
use Rattle.field.specs.Modulus.{P}
use Rattle.field.specs.Inverse.{inverse_of}
use Rattle.field.proofs.CellLaws.{read_small}
use Rattle.field.proofs.InverseLaws.{inverse-law, inverse-mod, inverse-zero}
use Rattle.rows.specs.declared.records.profile.Profile.{Profile}
use Rattle.rows.specs.records.Addresses.{Queues}
use Rattle.rows.specs.records.Buffers.{buffer_row, flat}
use Rattle.rows.specs.declared.records.address_state.Cursor.{Cursor}
use Rattle.rows.specs.passes.Passes.{fixed_up, built_of, last_built}
use Rattle.rows.proofs.passes.RowLists.{Wide, row-at}
use Rattle.rows.proofs.passes.FirstRows.{fixed-wide}
use Rattle.rows.proofs.passes.Written.{multiplied-wide}
use Rattle.theory_runs.specs.Calls.{Call, store, finish, Fragment, AllAccepted, final_states, counts_of, OneSize}
use Rattle.theory_runs.specs.Written.{rows_run}
use Rattle.theory_runs.specs.Finished.{run_counts, run_built, written_by_five, written_by_finisher, FivePass, FinisherPasses}
use Rattle.theory_runs.specs.Overflow.{b0_cell, helper_cell, OverflowRule, Is32, DepthInRange, Depths32, AllDepths32}
use Rattle.theory_runs.proofs.Folded.{rows-wide}
use Rattle.theory_runs.proofs.Unfragmented.{counts-length, fixed-items, items_each, together}
use Rattle.theory_runs.proofs.TraceOfRun.{PassesChecked, run-lasts, run-rows, run-wide, run_length, by-finisher, by-five}
use Rattle.theory_runs.proofs.OverflowRows.{Every, every-at, EachDepth, AllDepths, BuiltRow, InvertedRow, run-deep, run-last, fixed-built, passed-inverted}

-- A ROW

-- the helper is the inverse of the depth less 16, both modulo p
less-16 : (depth b : ℕ) → 16 ≤ depth → b ≡ depth % P → 16 ≤ b → (depth - 16) % P ≡ b - 16
less-16 depth b least e h = omega (arith)

module _ (Known : ℕ → Type 0) where
  row-rule : (row : List ℕ) → InvertedRow Known row → OverflowRule row
  row-rule row h = record {
    above_16 = λ more.
        let b : ℕ = b0_cell row in
        let y : ℕ = helper_cell row in
        let e : (h.depth - 16) % P ≡ b - 16 = less-16 h.depth b h.deep.least h.b0_is (omega arith) in
        let i : y ≡ inverse_of (b - 16) = h.helper_is ∙ sym (inverse-mod (h.depth - 16)) ∙ ap inverse_of e in
        let n : (b - 16) % P ≡ b - 16 = read_small (b - 16) (omega (arith, h.b0_is)) in
        ap (λ (x : ℕ). x % P) (mul_comm y (b - 16) ∙ ap (λ (x : ℕ). (b - 16) * x) i) ∙ ((inverse-law (b - 16)).of_nonzero (λ z. omega (arith, n, z))).1;
    at_16 = λ e16.
        let e : (h.depth - 16) % P ≡ b0_cell row - 16 = less-16 h.depth (b0_cell row) h.deep.least h.b0_is (omega arith) in
        h.helper_is ∙ sym (inverse-mod (h.depth - 16)) ∙ ap inverse_of (e ∙ omega arith) ∙ inverse-zero;
  }

row-in-range : (row : List ℕ) → InvertedRow Is32 row → DepthInRange row
row-in-range row h =
    let e : b0_cell row ≡ h.depth = h.b0_is ∙ read_small h.depth (omega (arith, h.deep.known)) in
    (omega (arith, e, h.deep.least), omega (arith, e, h.deep.known))

-- THE DEPTHS OF THE CYCLES

-- nothing is asked of them
abbrev Any : ℕ → Type 0
Any depth = Unit {0}

any-depth : (calls : List Call) → EachDepth Any calls
unfolding EachDepth
any-depth [] = tt
any-depth (store values ∷ calls) = any-depth calls
any-depth (finish i ∷ calls) = (tt, any-depth calls)

any-depths : (fragments : List Fragment) → AllDepths Any fragments
unfolding AllDepths
any-depths [] = tt
any-depths (fragment ∷ fragments) = (any-depth fragment.calls, any-depths fragments)

-- they are of 32 bits
each-32 : (calls : List Call) → Depths32 calls → EachDepth Is32 calls
unfolding Depths32 EachDepth
each-32 [] h = tt
each-32 (store values ∷ calls) h = each-32 calls h
each-32 (finish i ∷ calls) h = (h.0, each-32 calls h.1)

all-32 : (fragments : List Fragment) → AllDepths32 fragments → AllDepths Is32 fragments
unfolding AllDepths32 AllDepths
all-32 [] h = tt
all-32 (fragment ∷ fragments) h = (each-32 fragment.calls h.0, all-32 fragments h.1)

-- AFTER THE PASSES

module _ (p : Profile) (q : Queues) (size : ℕ) (fragments : List Fragment) (here : Cursor) (none_refused : AllAccepted p q fragments here) (one_size : OneSize size fragments (counts_of (final_states p q fragments here))) (others top : List ℕ) (height : ℕ) where
  -- of each row of a buffer
  abbrev EachRow : (List ℕ → Type 0) → List ℕ → Type 0
  EachRow Q cells = (i : ℕ) → i < height → Q (buffer_row i cells)

  module _ (Known : ℕ → Type 0) (first : Known 16) (depths : AllDepths Known fragments) where
    run-inverted : (c : PassesChecked p q size fragments here none_refused one_size others top height) → Every (InvertedRow Known) (run-rows p q size fragments here none_refused one_size others top height)
    run-inverted c =
        let counts : List ℕ = run_counts p q size fragments here others top height in
        let built : List ℕ = run_built p q size fragments here others top height in
        let lasts : List (List ℕ) = built_of (length counts - 1) built in
        let rows : List (List ℕ) = rows_run p q fragments here in
        let fixed : List (List ℕ) = fixed_up size top lasts rows in
        let fixed-rows : Every (BuiltRow Known) fixed = rw (fixed-items p q size size fragments here top c.some_size none_refused one_size) (fixed-built Known size top (together (items_each p q fragments here)) first (run-deep Known p q fragments here none_refused depths)) in
        let last = run-last Known p q size fragments here none_refused depths (omega (arith, counts-length p q fragments here, c.some)) c.full in
        let wide : Wide fixed = fixed-wide rows lasts size top (run-lasts p q size fragments here none_refused one_size others top height c) (rows-wide p q fragments here none_refused) in
        passed-inverted Known p height (last_built counts built) last.system last.stack fixed last.cells_are last.is_built (multiplied-wide p fixed wide) fixed-rows

    each-inverted : (Q : List ℕ → Type 0) → ((row : List ℕ) → InvertedRow Known row → Q row) → (c : PassesChecked p q size fragments here none_refused one_size others top height) →
        EachRow Q (flat (run-rows p q size fragments here none_refused one_size others top height))
    unfolding buffer_row
    each-inverted Q h c i low =
        let rows : List (List ℕ) = run-rows p q size fragments here none_refused one_size others top height in
        let is_row : i < length rows = omega (arith, run_length p q size fragments here none_refused one_size others top height c, low) in
        rw (← (append-nil (flat rows)), row-at rows [] i (run-wide p q size fragments here none_refused one_size others top height c) is_row) (h (get_or rows i []) (every-at (InvertedRow Known) rows i (run-inverted c) is_row))

  -- the overflow rule, after the finisher and after the five calls one after another
  pub finisher-overflow : FinisherPasses p q size fragments here others top height → (i : ℕ) → i < height → OverflowRule (buffer_row i (written_by_finisher p q size fragments here others top height))
  finisher-overflow = by-finisher p q size fragments here none_refused one_size others top height (EachRow OverflowRule) (each-inverted Any tt (any-depths fragments) OverflowRule (row-rule Any))

  pub five-overflow : FivePass p q size fragments here others top height → (i : ℕ) → i < height → OverflowRule (buffer_row i (written_by_five p q size fragments here others top height))
  five-overflow = by-five p q size fragments here none_refused one_size others top height (EachRow OverflowRule) (each-inverted Any tt (any-depths fragments) OverflowRule (row-rule Any))

  -- and no row is left out by it, where the depths are of 32 bits
  pub finisher-depths : AllDepths32 fragments → FinisherPasses p q size fragments here others top height → (i : ℕ) → i < height → DepthInRange (buffer_row i (written_by_finisher p q size fragments here others top height))
  finisher-depths depths = by-finisher p q size fragments here none_refused one_size others top height (EachRow DepthInRange) (each-inverted Is32 (omega arith) (all-32 fragments depths) DepthInRange row-in-range)

  pub five-depths : AllDepths32 fragments → FivePass p q size fragments here others top height → (i : ℕ) → i < height → DepthInRange (buffer_row i (written_by_five p q size fragments here others top height))
  five-depths depths = by-five p q size fragments here none_refused one_size others top height (EachRow DepthInRange) (each-inverted Is32 (omega arith) (all-32 fragments depths) DepthInRange row-in-range)
