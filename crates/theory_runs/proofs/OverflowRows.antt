-- In each row that is written of a run b0 is a depth, that of a cycle or 16, and the helper is the inverse of it less 16. The run need not be proper.
use mathlib.Core.Path.{◌≡◌, ◌∙◌, refl, ap}
use mathlib.Core.Bool.{Bool, true, false}
use mathlib.Core.List.{List, [], ◌∷◌, ◌++◌}
use Prim.Native.Nat.{ℕ, zero, suc, pred, ◌+◌, ◌-◌, ◌%◌, ◌≤◌, ◌<◌}
use native.Mathlib.Omega.{arith}
use borrow.Author.Tests.{ltb-false}
use lib.Dec.{eqb}
use lib.ListN.{length, take, drop, get_or, set}
use lib.Seq.{get_or-set_same, get_or-set_other}
use Rattle.field.specs.Modulus.{P}
use Rattle.field.specs.Cells.{cell_at, reduced}
use Rattle.field.specs.Inverse.{inverse_of}
use Rattle.field.proofs.CellLaws.{read_small, read_twice, get_or-reduced, cell-drop, cell-take}
use Rattle.field.proofs.InverseLaws.{inverse-below, inverse-mod}
use Rattle.groups.specs.Answer.{pick}
use Rattle.rows.specs.declared.records.profile.Profile.{Profile}
use Rattle.rows.specs.declared.records.decoder_row.DecoderRow.{DecoderRow}
use Rattle.rows.specs.declared.records.state.StackState.{StackState}
use Rattle.rows.specs.declared.records.state.SystemCols.{SystemCols}
use Rattle.rows.specs.declared.records.state.StackCols.{StackCols}
use Rattle.rows.specs.records.Addresses.{Queues}
use Rattle.rows.specs.records.DecoderRows.{decoder_cells, control_flow}
use Rattle.rows.specs.records.Built.{built_system, built_stack, no_system, no_stack, system_cells, stack_cells}
use Rattle.rows.specs.records.Cells.{row_cells}
use Rattle.rows.specs.records.Buffers.{addr_of, opcode_of, last_row}
use Rattle.rows.specs.declared.records.address_state.Cursor.{Cursor}
use Rattle.rows.specs.passes.Passes.{with_sides, first_row, fixed_up, body_ends, with_counts, multiplied, inverted, halt_decoder, halt_stack, halt_row, halted, padding_row, padding_rows, padded, not_full, last_built}
use Rattle.rows.proofs.passes.RowLists.{Wide}
use Rattle.theory_runs.specs.Calls.{Call, store, finish, Fragment, Held, answered, after, Accepted, opened, closed, cursor_of, AllAccepted, final_states, counts_of, built_cells}
use Rattle.theory_runs.specs.Overflow.{b0_cell, helper_cell}
use Rattle.theory_runs.proofs.Folded.{stepped}
use Rattle.theory_runs.proofs.FinishedRows.{last_snoc}
use Rattle.theory_runs.proofs.Unfragmented.{Item, sided, last_s, last_k, item_made, items_in, items_each, together, cells25, later-none, some-items, last-cells}

-- EVERY ROW

unfoldable pub Every : (List ℕ → Type 0) → List (List ℕ) → Type 0
Every Q [] = Unit {0}
Every Q (row ∷ rows) = Q row × Every Q rows

every-app : (Q : List ℕ → Type 0) (l m : List (List ℕ)) → Every Q l → Every Q m → Every Q (l ++ m)
unfolding Every
every-app Q [] m h k = k
every-app Q (row ∷ l) m h k = (h.0, every-app Q l m h.1 k)

pub every-at : (Q : List ℕ → Type 0) (rows : List (List ℕ)) (i : ℕ) → Every Q rows → i < length rows → Q (get_or rows i [])
unfolding Every
every-at Q [] i h k = absurd (omega arith)
every-at Q (row ∷ rows) zero h k = h.0
every-at Q (row ∷ rows) (suc i) h k = every-at Q rows i h.1 (omega arith)

-- what else is known of the depths
module _ (Known : ℕ → Type 0) where
  -- of those that cycles are handed
  unfoldable pub EachDepth : List Call → Type 0
  EachDepth [] = Unit {0}
  EachDepth (store values ∷ calls) = EachDepth calls
  EachDepth (finish i ∷ calls) = Known i.stack.stack_depth × EachDepth calls

  unfoldable pub AllDepths : List Fragment → Type 0
  AllDepths [] = Unit {0}
  AllDepths (fragment ∷ fragments) = EachDepth fragment.calls × AllDepths fragments

  -- DEPTHS

  -- of a cycle that is accepted
  pub record Deep (depth : ℕ) : Type 0 where
    pub least : 16 ≤ depth
    pub known : Known depth

  -- b0 and the helper as they are built
  pub record Built (b h : ℕ) : Type 0 where
    pub depth : ℕ
    pub deep : Deep depth
    pub b0_is : b ≡ depth % P
    pub helper_is : h ≡ (depth - 16) % P

  -- and with the helper inverted
  pub record Inverted (b h : ℕ) : Type 0 where
    pub depth : ℕ
    pub deep : Deep depth
    pub b0_is : b ≡ depth % P
    pub helper_is : h ≡ inverse_of (depth - 16)

  abbrev pub BuiltStack : StackCols → Type 0
  BuiltStack k = Built (k.b0 % P) (k.h0 % P)

  abbrev pub BuiltRow : List ℕ → Type 0
  BuiltRow row = Built (b0_cell row) (helper_cell row)

  abbrev pub InvertedRow : List ℕ → Type 0
  InvertedRow row = Inverted (b0_cell row) (helper_cell row)

  -- THE CYCLES

  unfoldable pub EachItem : List Item → Type 0
  EachItem [] = Unit {0}
  EachItem (x ∷ l) = Deep x.0.stack.stack_depth × EachItem l

  items-app : (l m : List Item) → EachItem l → EachItem m → EachItem (l ++ m)
  unfolding EachItem
  items-app [] m h k = k
  items-app (x ∷ l) m h k = (h.0, items-app l m h.1 k)

  state-built : (stack : StackState) → Deep stack.stack_depth → BuiltStack (built_stack stack)
  unfolding built_stack
  state-built stack deep = record { depth = stack.stack_depth; deep = deep; b0_is = refl; helper_is = refl }

  last-cols : (l : List Item) (k : StackCols) → BuiltStack k → EachItem l → BuiltStack (last_k k l)
  unfolding last_k EachItem
  last-cols [] k h e = h
  last-cols (x ∷ l) k h e = last-cols l (built_stack x.0.stack) (state-built x.0.stack e.0) e.1

  row-built : (s : SystemCols) (d : DecoderRow) (k : StackCols) → BuiltStack k → BuiltRow (row_cells s d k)
  unfolding row_cells system_cells decoder_cells stack_cells reduced
  row-built s d k h = h

  sided-built : (l : List Item) (s : SystemCols) (k : StackCols) → BuiltStack k → EachItem l → Every BuiltRow (sided s k l)
  unfolding sided Every EachItem
  sided-built [] s k h e = tt
  sided-built (x ∷ l) s k h e =
      (row-built s x.1 k h, sided-built l (built_system x.0.system) (built_stack x.0.stack) (state-built x.0.stack e.0) e.1)

  module _ (p : Profile) (q : Queues) where
    calls-deep : (calls : List Call) (z : Held) → Accepted p q calls z → EachDepth calls → EachItem (items_in p q calls z)
    unfolding Accepted EachDepth items_in EachItem
    calls-deep [] z a h = tt
    calls-deep (store values ∷ calls) z a h = calls-deep calls (after p q z (store values)) a.1 h
    calls-deep (finish i ∷ calls) z a h =
        let s = stepped p q z i a.0 in
        let deep : Deep i.stack.stack_depth = record { least = ltb-false i.stack.stack_depth 16 s.came_from.deep; known = h.0 } in
        let one : EachItem (item_made i (answered p q z i)) = unfold item_made in rw s.answer (deep, tt) in
        items-app (item_made i (answered p q z i)) (items_in p q calls (after p q z (finish i))) one (calls-deep calls (after p q z (finish i)) a.1 h.1)

    pub run-deep : (fragments : List Fragment) (here : Cursor) → AllAccepted p q fragments here → AllDepths fragments → EachItem (together (items_each p q fragments here))
    unfolding AllAccepted AllDepths items_each together EachItem
    run-deep [] here a h = tt
    run-deep (fragment ∷ fragments) here a h =
        items-app (items_in p q fragment.calls (opened p q here fragment)) (together (items_each p q fragments (cursor_of p q (closed p q here fragment))))
        (calls-deep fragment.calls (opened p q here fragment) a.0 h.0) (run-deep fragments (cursor_of p q (closed p q here fragment)) a.1 h.1)

    -- THE LAST BUILT CELLS

    -- the last fragment has a row
    last-item : (l : List Item) → EachItem l → 0 < length l → BuiltStack (last_k no_stack l)
    unfolding last_k EachItem
    last-item [] e some = absurd (omega arith)
    last-item (x ∷ l) e some = last-cols l (built_stack x.0.stack) (state-built x.0.stack e.0) e.1

    pub record BuiltByCycle (cells : List ℕ) : Type 0 where
      pub system : SystemCols
      pub stack : StackCols
      pub cells_are : cells ≡ reduced (cells25 system stack)
      pub is_built : BuiltStack stack

    pub run-last : (size : ℕ) (fragments : List Fragment) (here : Cursor) → AllAccepted p q fragments here → AllDepths fragments → 0 < length fragments → not_full size (counts_of (final_states p q fragments here)) ≡ false →
        BuiltByCycle (last_built (counts_of (final_states p q fragments here)) (built_cells (final_states p q fragments here)))
    run-last size fragments here a h some full =
        let l : List Item = together (items_each p q fragments here) in
        record {
          system = last_s no_system l;
          stack = last_k no_stack l;
          cells_are = last-cells p q size fragments here a some full;
          is_built = last-item l (run-deep fragments here a h) (some-items p q size fragments here a some full);
        }

  -- THE PASSES

  first-built : (top : List ℕ) (s : SystemCols) (d : DecoderRow) (k : StackCols) → Known 16 → BuiltRow (first_row top (row_cells s d k))
  unfolding first_row with_sides row_cells system_cells decoder_cells stack_cells reduced
  first-built top s d k h = record { depth = 16; deep = record { least = omega arith; known = h }; b0_is = refl; helper_is = refl }

  pub fixed-built : (size : ℕ) (top : List ℕ) (l : List Item) → Known 16 → EachItem l → Every BuiltRow (fixed_up size top [] (sided no_system no_stack l))
  unfolding fixed_up sided Every EachItem
  fixed-built size top [] h e = tt
  fixed-built size top (x ∷ l) h e =
      (first-built top no_system x.1 no_stack h, rw (later-none _ size (pred size)) (sided-built l (built_system x.0.system) (built_stack x.0.stack) (state-built x.0.stack e.0) e.1))

  count-built : (t : Bool) (row : List ℕ) (v : ℕ) → BuiltRow row → BuiltRow (pick t (set row 23 v) row)
  count-built true row v h = rw (get_or-set_other row 23 46 v 0 (λ z. omega arith), get_or-set_other row 23 48 v 0 (λ z. omega arith)) h
  count-built false row v h = h

  counts-built : (p : Profile) (m : ℕ → ℕ) (rows : List (List ℕ)) → Every BuiltRow rows → Every BuiltRow (with_counts p m rows)
  unfolding with_counts Every
  counts-built p m [] h = tt
  counts-built p m (row ∷ []) h = h
  counts-built p m (row ∷ next ∷ rows) h = (count-built (eqb (opcode_of row) p.loop_op) row (m (addr_of next)) h.0, counts-built p m (next ∷ rows) h.1)

  inverted-row : (row : List ℕ) → length row ≡ 49 → BuiltRow row → InvertedRow (set row 48 (inverse_of (get_or row 48 0)))
  inverted-row row wide h = record {
    depth = h.depth;
    deep = h.deep;
    b0_is = get_or-set_other row 48 46 (inverse_of (get_or row 48 0)) 0 (λ z. omega arith) ∙ h.b0_is;
    helper_is = get_or-set_same row 48 (inverse_of (get_or row 48 0)) 0 (omega (arith, wide)) ∙ ap inverse_of h.helper_is ∙ inverse-mod (h.depth - 16);
  }

  all-inverted : (rows : List (List ℕ)) → Wide rows → Every BuiltRow rows → Every InvertedRow (inverted rows)
  unfolding inverted Wide Every
  all-inverted [] w h = tt
  all-inverted (row ∷ rows) w h = (inverted-row row w.0 h.0, all-inverted rows w.1 h.1)

  halt-inverted : (p : Profile) (s : SystemCols) (k : StackCols) (before : List ℕ) → BuiltStack k → InvertedRow (halt_row p (reduced (cells25 s k)) before)
  unfolding halt_row halt_stack halt_decoder decoder_cells control_flow system_cells stack_cells reduced cell_at
  halt-inverted p s k before h = record {
    depth = h.depth;
    deep = h.deep;
    b0_is = read_twice k.b0 ∙ h.b0_is;
    helper_is =
        read_small (inverse_of (k.h0 % P % P)) (inverse-below (k.h0 % P % P)) ∙ inverse-mod (k.h0 % P) ∙ ap inverse_of h.helper_is ∙ inverse-mod (h.depth - 16);
  }

  -- a cell of the stack part of a padding row
  padding-cell : (before : List ℕ) (i : ℕ) → i < 19 → get_or (reduced (take 19 (drop 30 before))) i 0 ≡ get_or before (30 + i) 0 % P
  unfolding cell_at
  padding-cell before i h = get_or-reduced (take 19 (drop 30 before)) i ∙ cell-take 19 (drop 30 before) i h ∙ cell-drop 30 before i

  padding-inverted : (p : Profile) (number : ℕ) (before : List ℕ) → InvertedRow before → InvertedRow (padding_row p number before)
  unfolding padding_row halt_decoder decoder_cells control_flow reduced
  padding-inverted p number before h = record {
    depth = h.depth;
    deep = h.deep;
    b0_is = padding-cell before 16 (omega arith) ∙ ap (λ (x : ℕ). x % P) h.b0_is ∙ read_twice h.depth;
    helper_is =
        padding-cell before 18 (omega arith) ∙ ap (λ (x : ℕ). x % P) h.helper_is ∙ read_small (inverse_of (h.depth - 16)) (inverse-below (h.depth - 16));
  }

  paddings-inverted : (p : Profile) (n number : ℕ) (before : List ℕ) → InvertedRow before → Every InvertedRow (padding_rows p n number before)
  unfolding padding_rows Every
  paddings-inverted p zero number before h = tt
  paddings-inverted p (suc n) number before h = (padding-inverted p number before h, paddings-inverted p n (suc number) before h)

  -- all five
  pub passed-inverted : (p : Profile) (height : ℕ) (built : List ℕ) (s : SystemCols) (k : StackCols) (rows : List (List ℕ)) → built ≡ reduced (cells25 s k) → BuiltStack k → Wide (multiplied p rows) → Every BuiltRow rows →
      Every InvertedRow (padded p height (halted p built (inverted (multiplied p rows))))
  unfolding multiplied halted padded
  passed-inverted p height built s k rows is stack wide h =
      let rows3 : List (List ℕ) = inverted (multiplied p rows) in
      let halt : List ℕ = halt_row p built (last_row rows3) in
      let last : InvertedRow halt = rw is (halt-inverted p s k (last_row rows3) stack) in
      let three : Every InvertedRow rows3 = all-inverted (multiplied p rows) wide (counts-built p (λ x. body_ends p x rows) rows h) in
      let four : Every InvertedRow (rows3 ++ (halt ∷ [])) = every-app InvertedRow rows3 (halt ∷ []) three (unfold Every in (last, tt)) in
      every-app InvertedRow (rows3 ++ (halt ∷ [])) _ four
      (paddings-inverted p (height - length (rows3 ++ (halt ∷ []))) (length (rows3 ++ (halt ∷ []))) (last_row (rows3 ++ (halt ∷ []))) (rw (last_snoc rows3 halt) last))
