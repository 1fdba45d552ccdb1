-- The LOOP rows of a trace are the loops of its reading, and their count cells are their passes.
use mathlib.Core.Path.{◌≡◌, ◌∙◌, refl, sym, ap, ap₂}
use mathlib.Core.List.{List, [], ◌∷◌, Memᴰ}
use mathlib.Core.Logic.{◌⊎◌, inl, inr, ⊎_elim}
use Prim.Native.Nat.{ℕ, zero, suc, ◌+◌, ◌*◌, ◌/◌, ◌<◌}
use native.Mathlib.Omega.{arith}
use lib.ListN.{length, take, drop}
use Rattle.field.specs.Cells.{cell_at}
use Rattle.field.proofs.CellLaws.{cell-take, cell-drop}
use Rattle.rows.specs.declared.records.profile.Profile.{Profile}
use Rattle.rows.specs.records.Buffers.{rows_of}
use Rattle.rows.proofs.passes.RowLists.{length-rows, wide_rows, row-at, as_rows}
use Rattle.theory_readings.specs.Tokens.{Kind, Token, start, repeat, end, halt, token_of, tokens_of, count_of}
use Rattle.theory_readings.specs.Readings.{Ops, Block, Passes, Row, numbered, spell_ops, spell, spell_passes, OnlyHalts, Halts, WordOf, Ask, flag, count, passes_in, asks_of, asks_of_passes, asks, row_at, Meets, AllMet, Reading, all_rows, Trace}
use Rattle.theory_read_back.specs.Loops.{LoopIn, LoopInPasses}
use Rattle.theory_read_back.specs.ReadBack.{CountsPasses}

-- a LOOP in a row
abbrev looping : ℕ → Row
looping n = (n, start Kind.loop)

-- FROM THE WORD TO THE TREE

-- a row that is no LOOP
other : {A : Type 0} (n m : ℕ) (t : Token) → looping n ≡ (m, t) → (start Kind.loop ≡ t → ◌≡◌ {A = ℕ} 0 1) → A
other n m t e h = let z = h (ap (λ (x : Row). x.1) e) in absurd (omega arith)

behind-ops : (o : Ops) (rest : List Row) (n : ℕ) → Memᴰ (looping n) (spell_ops o rest) → Memᴰ (looping n) rest
unfolding spell_ops
behind-ops (Ops.ended m) rest n h = ⊎_elim (λ e. other n m end e (λ w. cc)) (λ k. k) (mathlib.Core.List.Memᴰ.cases_cons h)
behind-ops (Ops.op m opcode o) rest n h = ⊎_elim (λ e. other n m (Token.op opcode) e (λ w. cc)) (behind-ops o rest n) (mathlib.Core.List.Memᴰ.cases_cons h)
behind-ops (Ops.respan m o) rest n h = ⊎_elim (λ e. other n m Token.respan e (λ w. cc)) (behind-ops o rest n) (mathlib.Core.List.Memᴰ.cases_cons h)

-- a LOOP row among those that a tree spells is a loop of the tree, or stands behind them
abbrev Found : Block → ℕ → List Row → Type 0
Found b n rest = ((passes : Passes) × LoopIn b n passes) ⊎ Memᴰ (looping n) rest

abbrev FoundInPasses : Passes → ℕ → List Row → Type 0
FoundInPasses own n rest = ((passes : Passes) × LoopInPasses own n passes) ⊎ Memᴰ (looping n) rest

behind-end : {A : Type 0} (n m : ℕ) (rest : List Row) → (Memᴰ (looping n) rest → A) → Memᴰ (looping n) ((m, end) ∷ rest) → A
behind-end n m rest f h = ⊎_elim (λ e. other n m end e (λ w. cc)) f (mathlib.Core.List.Memᴰ.cases_cons h)

behind-repeat : {A : Type 0} (n m : ℕ) (rest : List Row) → (Memᴰ (looping n) rest → A) → Memᴰ (looping n) ((m, repeat) ∷ rest) → A
behind-repeat n m rest f h = ⊎_elim (λ e. other n m repeat e (λ w. cc)) f (mathlib.Core.List.Memᴰ.cases_cons h)

mutual
  unfolding spell spell_passes LoopIn LoopInPasses

  spelled-loop : (b : Block) (rest : List Row) (n : ℕ) → Memᴰ (looping n) (spell b rest) → Found b n rest
  spelled-loop (Block.span m ops) rest n h =
      ⊎_elim (λ e. other n m (start Kind.span) e (λ w. cc)) (λ k. inr (behind-ops ops rest n k)) (mathlib.Core.List.Memᴰ.cases_cons h)
  spelled-loop (Block.join m a b end_row) rest n h =
      ⊎_elim (λ e. other n m (start Kind.join) e (λ w. cc))
      (λ k. ⊎_elim (λ x. inl (x.0, inl x.1))
      (λ i. ⊎_elim (λ x. inl (x.0, inr x.1)) (λ j. behind-end n end_row rest (λ r. inr r) j) (spelled-loop b ((end_row, end) ∷ rest) n i))
      (spelled-loop a (spell b ((end_row, end) ∷ rest)) n k))
      (mathlib.Core.List.Memᴰ.cases_cons h)
  spelled-loop (Block.one kind m a end_row) rest n h =
      ⊎_elim (λ e. other n m (start (Kind.one kind)) e (λ w. cc))
      (λ k. ⊎_elim (λ x. inl x) (λ j. behind-end n end_row rest (λ r. inr r) j) (spelled-loop a ((end_row, end) ∷ rest) n k))
      (mathlib.Core.List.Memᴰ.cases_cons h)
  spelled-loop (Block.loop m own) rest n h =
      ⊎_elim (λ e. inl (own, inl (ap (λ (x : Row). x.0) e, refl)))
      (λ k. ⊎_elim (λ x. inl (x.0, inr x.1)) (λ r. inr r) (spelled-passes own rest n k))
      (mathlib.Core.List.Memᴰ.cases_cons h)

  spelled-passes : (own : Passes) (rest : List Row) (n : ℕ) → Memᴰ (looping n) (spell_passes own rest) → FoundInPasses own n rest
  spelled-passes (Passes.ended a end_row) rest n h =
      ⊎_elim (λ x. inl x) (λ j. behind-end n end_row rest (λ r. inr r) j) (spelled-loop a ((end_row, end) ∷ rest) n h)
  spelled-passes (Passes.repeated a repeat_row more) rest n h =
      ⊎_elim (λ x. inl (x.0, inl x.1))
      (λ j. behind-repeat n repeat_row (spell_passes more rest) (λ k. ⊎_elim (λ x. inl (x.0, inr x.1)) (λ r. inr r) (spelled-passes more rest n k)) j)
      (spelled-loop a ((repeat_row, repeat) ∷ spell_passes more rest) n h)

-- FROM THE TREE TO THE WORD

ops-behind : (o : Ops) (rest : List Row) (x : Row) → Memᴰ x rest → Memᴰ x (spell_ops o rest)
unfolding spell_ops
ops-behind (Ops.ended m) rest x h = mathlib.Core.List.Memᴰ.tail h
ops-behind (Ops.op m opcode o) rest x h = mathlib.Core.List.Memᴰ.tail (ops-behind o rest x h)
ops-behind (Ops.respan m o) rest x h = mathlib.Core.List.Memᴰ.tail (ops-behind o rest x h)

mutual
  unfolding spell spell_passes

  spell-behind : (b : Block) (rest : List Row) (x : Row) → Memᴰ x rest → Memᴰ x (spell b rest)
  spell-behind (Block.span m ops) rest x h = mathlib.Core.List.Memᴰ.tail (ops-behind ops rest x h)
  spell-behind (Block.join m a b end_row) rest x h =
      mathlib.Core.List.Memᴰ.tail (spell-behind a (spell b ((end_row, end) ∷ rest)) x (spell-behind b ((end_row, end) ∷ rest) x (mathlib.Core.List.Memᴰ.tail h)))
  spell-behind (Block.one kind m a end_row) rest x h = mathlib.Core.List.Memᴰ.tail (spell-behind a ((end_row, end) ∷ rest) x (mathlib.Core.List.Memᴰ.tail h))
  spell-behind (Block.loop m own) rest x h = mathlib.Core.List.Memᴰ.tail (passes-behind own rest x h)

  passes-behind : (own : Passes) (rest : List Row) (x : Row) → Memᴰ x rest → Memᴰ x (spell_passes own rest)
  passes-behind (Passes.ended a end_row) rest x h = spell-behind a ((end_row, end) ∷ rest) x (mathlib.Core.List.Memᴰ.tail h)
  passes-behind (Passes.repeated a repeat_row more) rest x h =
      spell-behind a ((repeat_row, repeat) ∷ spell_passes more rest) x (mathlib.Core.List.Memᴰ.tail (passes-behind more rest x h))

mutual
  unfolding spell spell_passes LoopIn LoopInPasses

  loop-spelled : (b : Block) (rest : List Row) (n : ℕ) (passes : Passes) → LoopIn b n passes → Memᴰ (looping n) (spell b rest)
  loop-spelled (Block.span m ops) rest n passes h = absurd h
  loop-spelled (Block.join m a b end_row) rest n passes (inl h) = mathlib.Core.List.Memᴰ.tail (loop-spelled a (spell b ((end_row, end) ∷ rest)) n passes h)
  loop-spelled (Block.join m a b end_row) rest n passes (inr h) =
      mathlib.Core.List.Memᴰ.tail (spell-behind a (spell b ((end_row, end) ∷ rest)) (looping n) (loop-spelled b ((end_row, end) ∷ rest) n passes h))
  loop-spelled (Block.one kind m a end_row) rest n passes h = mathlib.Core.List.Memᴰ.tail (loop-spelled a ((end_row, end) ∷ rest) n passes h)
  loop-spelled (Block.loop m own) rest n passes (inl h) = mathlib.Core.List.Memᴰ.head (ap looping h.0)
  loop-spelled (Block.loop m own) rest n passes (inr h) = mathlib.Core.List.Memᴰ.tail (passes-spelled own rest n passes h)

  passes-spelled : (own : Passes) (rest : List Row) (n : ℕ) (passes : Passes) → LoopInPasses own n passes → Memᴰ (looping n) (spell_passes own rest)
  passes-spelled (Passes.ended a end_row) rest n passes h = loop-spelled a ((end_row, end) ∷ rest) n passes h
  passes-spelled (Passes.repeated a repeat_row more) rest n passes (inl h) = loop-spelled a ((repeat_row, repeat) ∷ spell_passes more rest) n passes h
  passes-spelled (Passes.repeated a repeat_row more) rest n passes (inr h) =
      spell-behind a ((repeat_row, repeat) ∷ spell_passes more rest) (looping n) (mathlib.Core.List.Memᴰ.tail (passes-spelled more rest n passes h))

-- WHAT IS ASKED OF ITS COUNT

mutual
  unfolding asks_of asks_of_passes

  asks-behind : (b : Block) (body : ℕ) (rest : List Ask) (x : Ask) → Memᴰ x rest → Memᴰ x (asks_of body b rest)
  asks-behind (Block.span m ops) body rest x h = mathlib.Core.List.Memᴰ.tail h
  asks-behind (Block.join m a b end_row) body rest x h =
      asks-behind a 0 (asks_of 0 b (flag end_row body ∷ rest)) x (asks-behind b 0 (flag end_row body ∷ rest) x (mathlib.Core.List.Memᴰ.tail h))
  asks-behind (Block.one kind m a end_row) body rest x h = asks-behind a 0 (flag end_row body ∷ rest) x (mathlib.Core.List.Memᴰ.tail h)
  asks-behind (Block.loop m own) body rest x h = mathlib.Core.List.Memᴰ.tail (passes-asks-behind own body rest x h)

  passes-asks-behind : (own : Passes) (body : ℕ) (rest : List Ask) (x : Ask) → Memᴰ x rest → Memᴰ x (asks_of_passes body own rest)
  passes-asks-behind (Passes.ended a end_row) body rest x h = asks-behind a 1 (flag end_row body ∷ rest) x (mathlib.Core.List.Memᴰ.tail h)
  passes-asks-behind (Passes.repeated a repeat_row more) body rest x h =
      asks-behind a 1 (asks_of_passes body more rest) x (passes-asks-behind more body rest x h)

abbrev counting : ℕ → Passes → Ask
counting n passes = count n (passes_in passes)

mutual
  unfolding asks_of asks_of_passes LoopIn LoopInPasses

  loop-asked : (b : Block) (body : ℕ) (rest : List Ask) (n : ℕ) (passes : Passes) → LoopIn b n passes → Memᴰ (counting n passes) (asks_of body b rest)
  loop-asked (Block.span m ops) body rest n passes h = absurd h
  loop-asked (Block.join m a b end_row) body rest n passes (inl h) = loop-asked a 0 (asks_of 0 b (flag end_row body ∷ rest)) n passes h
  loop-asked (Block.join m a b end_row) body rest n passes (inr h) =
      asks-behind a 0 (asks_of 0 b (flag end_row body ∷ rest)) (counting n passes) (loop-asked b 0 (flag end_row body ∷ rest) n passes h)
  loop-asked (Block.one kind m a end_row) body rest n passes h = loop-asked a 0 (flag end_row body ∷ rest) n passes h
  loop-asked (Block.loop m own) body rest n passes (inl h) = mathlib.Core.List.Memᴰ.head (ap₂ counting h.0 h.1)
  loop-asked (Block.loop m own) body rest n passes (inr h) = mathlib.Core.List.Memᴰ.tail (passes-asked own body rest n passes h)

  passes-asked : (own : Passes) (body : ℕ) (rest : List Ask) (n : ℕ) (passes : Passes) → LoopInPasses own n passes → Memᴰ (counting n passes) (asks_of_passes body own rest)
  passes-asked (Passes.ended a end_row) body rest n passes h = loop-asked a 1 (flag end_row body ∷ rest) n passes h
  passes-asked (Passes.repeated a repeat_row more) body rest n passes (inl h) = loop-asked a 1 (asks_of_passes body more rest) n passes h
  passes-asked (Passes.repeated a repeat_row more) body rest n passes (inr h) =
      asks-behind a 1 (asks_of_passes body more rest) (counting n passes) (passes-asked more body rest n passes h)

-- THE ROWS

only-halts : (rest : List Row) (n : ℕ) → OnlyHalts rest → Memᴰ (looping n) rest → ⊥
unfolding OnlyHalts
only-halts [] n h k = mathlib.Core.List.Memᴰ.not-nil k
only-halts (x ∷ rest) n h k =
    ⊎_elim (λ e. let f : start Kind.loop ≡ halt = ap (λ (y : Row). y.1) e ∙ h.0 in let z : ◌≡◌ {A = ℕ} 0 1 = cc in omega arith) (only-halts rest n h.1) (mathlib.Core.List.Memᴰ.cases_cons k)

no-loop-behind : (rest : List Row) (n : ℕ) → Halts rest → Memᴰ (looping n) rest → ⊥
unfolding Halts OnlyHalts
no-loop-behind [] n h k = h
no-loop-behind (x ∷ rest) n h k = only-halts (x ∷ rest) n h k

module _ (p : Profile) where
  row-numbered : (rows : List (List ℕ)) (m k : ℕ) → k < length rows → Memᴰ (m + k, token_of p (row_at rows k)) (numbered m (tokens_of p rows))
  unfolding numbered tokens_of
  row-numbered [] m k h = absurd (omega arith)
  row-numbered (row ∷ rows) m zero h = let e : m + 0 ≡ m = omega arith in mathlib.Core.List.Memᴰ.head (ap (λ (i : ℕ). (i, token_of p row)) e)
  row-numbered (row ∷ rows) m (suc k) h =
      let e : m + suc k ≡ suc m + k = omega arith in
      mathlib.Core.List.Memᴰ.tail (mathlib.Core.List.Memᴰ.cast (ap (λ (i : ℕ). (i, token_of p (row_at rows k))) e) (row-numbered rows (suc m) k (omega arith)))

  numbered-row : (rows : List (List ℕ)) (m n : ℕ) (t : Token) → Memᴰ (n, t) (numbered m (tokens_of p rows)) →
      (k : ℕ) × (n ≡ m + k) × (k < length rows) × (token_of p (row_at rows k) ≡ t)
  unfolding numbered tokens_of
  numbered-row [] m n t h = absurd (mathlib.Core.List.Memᴰ.not-nil h)
  numbered-row (row ∷ rows) m n t h =
      ⊎_elim (λ e. (0, ap (λ (x : Row). x.0) e ∙ omega arith, omega arith, sym (ap (λ (x : Row). x.1) e)))
      (λ i. let (k, at, below, is) = numbered-row rows (suc m) n t i in (suc k, at ∙ omega arith, omega arith, is))
      (mathlib.Core.List.Memᴰ.cases_cons h)

-- the count of a row in the buffer
count-cell : (cells : List ℕ) (n : ℕ) → n < length cells / 49 → count_of (row_at (all_rows cells) n) ≡ cell_at cells (49 * n + 23)
unfolding all_rows
count-cell cells n h =
    let rows = length cells / 49 in
    let whole : take 49 (drop (49 * n) cells) ≡ row_at (rows_of rows cells) n =
    ap (λ (c : List ℕ). take 49 (drop (49 * n) c)) (as_rows rows cells)
    ∙ row-at (rows_of rows cells) (drop (49 * rows) cells) n (wide_rows rows cells (omega arith)) (omega (arith, length-rows rows cells)) in
    ap count_of (sym whole) ∙ cell-take 49 (drop (49 * n) cells) 23 (omega arith) ∙ cell-drop (49 * n) cells 23

rows-many : (cells : List ℕ) → length (all_rows cells) ≡ length cells / 49
unfolding all_rows
rows-many cells = length-rows (length cells / 49) cells

module _ (p : Profile) (cells : List ℕ) (b : Block) (t : Trace p cells b) where
  counted : (n : ℕ) (own : Passes) → n < length cells / 49 → LoopIn b n own → cell_at cells (49 * n + 23) ≡ passes_in own
  unfolding Trace Reading asks AllMet Meets
  counted n own low h = sym (count-cell cells n low) ∙ t.1.2 (counting n own) (loop-asked b 0 [] n own h)

  row-loop : (n : ℕ) → n < length cells / 49 → token_of p (row_at (all_rows cells) n) ≡ start Kind.loop → (passes : Passes) × LoopIn b n passes
  unfolding Trace Reading WordOf
  row-loop n low is =
      let (rest, spelled, halts) = t.1.0 in
      let e : n ≡ 0 + n = omega arith in
      let at : Memᴰ (looping n) (spell b rest) =
      rw (← spelled, ← is) (mathlib.Core.List.Memᴰ.cast (ap (λ (i : ℕ). (i, token_of p (row_at (all_rows cells) n))) e) (row-numbered p (all_rows cells) 0 n (omega (arith, rows-many cells)))) in
      ⊎_elim (λ x. x) (λ k. absurd (no-loop-behind rest n halts k)) (spelled-loop b rest n at)

  loop-row : (n : ℕ) (own : Passes) → LoopIn b n own → (n < length cells / 49) × (token_of p (row_at (all_rows cells) n) ≡ start Kind.loop)
  unfolding Trace Reading WordOf
  loop-row n own h =
      let (rest, spelled, halts) = t.1.0 in
      let at : Memᴰ (looping n) (numbered 0 (tokens_of p (all_rows cells))) = rw spelled (loop-spelled b rest n own h) in
      let (k, same, below, is) = numbered-row p (all_rows cells) 0 n (start Kind.loop) at in
      let e : n ≡ k = omega arith in
      (omega (arith, rows-many cells), rw e is)

  pub counts-passes : CountsPasses p cells b
  counts-passes = record {
    of_rows = λ n low is. let (own, h) = row-loop n low is in (own, h, counted n own low h);
    of_loops = λ n own h. let (low, is) = loop-row n own h in (low, is, counted n own low h);
  }
