-- The second pass where loops nest as in a run: what a sweep knows of the rows behind it.
use mathlib.Core.Path.{◌≡◌, refl, sym, ◌∙◌, ap}
use mathlib.Core.Bool.{Bool, true, false}
use mathlib.Core.List.{List}
use mathlib.Core.Logic.{◌⊎◌, inl, inr}
use Prim.Native.Nat.{ℕ, zero, suc, ◌+◌, ◌-◌, ◌*◌, ◌≤◌, ◌<◌}
use native.Mathlib.Omega.{arith}
use native.Mathlib.Decide.{ℕ_discrete, dec_lt, dec_le}
use lib.ListN.{length, get_or, set, replicate}
use lib.Seq.{get_or-set_same, get_or-set_other, set-set, set_comm, set-get_or, ext_get_or}
use borrow.Author.Tests.{eq-eqb, ne_eqb}
use Rattle.rows.specs.declared.records.profile.Profile.{Profile}
use Rattle.rows.specs.records.Buffers.{buffer_row, opcode_of}
use Rattle.rows.specs.passes.Passes.{flagged_end}
use Rattle.rows.specs.ways.OpenLoops.{CountsIn}
use Rattle.rows.specs.ways.LoopCounts.{is_loop, next_addr, ends_in, lacks_from, counted_from, Alike}
use Rattle.rows.proofs.cycles.PartScans.{never}
use Rattle.rows.proofs.passes.RowCells.{alike_refl, alike_set, opcode-alike, cell-alike}
use Rattle.rows.proofs.passes.RowsFrom.{ends-one, ends_more, lacks-no, lacks-skip, lacks-last}
use Rattle.rows.proofs.passes.Written.{counted-last, counted_skip, counted-loop}
use Rattle.rows.proofs.passes.Tallies.{zero-at}

-- a test does not say both
clash : (b : Bool) {T : Type 0} → b ≡ true → b ≡ false → T
clash b e f = never (sym f ∙ e)

-- a row of another opcode is no flagged END
pub not-flagged : (p : Profile) (row : List ℕ) → (opcode_of row ≡ p.end → ⊥) → flagged_end p row ≡ false
unfolding flagged_end
not-flagged p row n = rw (ne_eqb (opcode_of row) p.end n)

-- of LOOP rows up to row i, which is none
earlier : (p : Profile) (c : List ℕ) (i : ℕ) {T : ℕ → Type 0} → ((j : ℕ) → j < i → is_loop p (buffer_row j c) ≡ true → T j) → is_loop p (buffer_row i c) ≡ false →
    (j : ℕ) → j < i + 1 → is_loop p (buffer_row j c) ≡ true → T j
earlier p c i {T} f n j h l = by_row (ℕ_discrete j i)
  where
    by_row : Dec (j ≡ i) → T j
    by_row (yes e) = clash (is_loop p (buffer_row i c)) (rw e at l) n
    by_row (no e) = f j (omega (arith, e)) l

-- THE ENDS, ROW BY ROW

module _ (p : Profile) (c : List ℕ) (i : ℕ) where
  ends_same : flagged_end p (buffer_row i c) ≡ false → (x : ℕ) → ends_in p (i + 1 + 1) c x ≡ ends_in p (i + 1) c x
  ends_same f x = let e = rw f at (ends_more p x i c) in omega (arith, e)

  ends-hit : flagged_end p (buffer_row i c) ≡ true → (x : ℕ) → next_addr i c ≡ x → ends_in p (i + 1 + 1) c x ≡ ends_in p (i + 1) c x + 1
  ends-hit f x e = rw (f, eq-eqb (next_addr i c) x e) at (ends_more p x i c)

  ends-miss : flagged_end p (buffer_row i c) ≡ true → (x : ℕ) → (next_addr i c ≡ x → ⊥) → ends_in p (i + 1 + 1) c x ≡ ends_in p (i + 1) c x
  ends-miss f x n = let e = rw (f, ne_eqb (next_addr i c) x n) at (ends_more p x i c) in omega (arith, e)

ends-grow : (p : Profile) (c : List ℕ) (x n k : ℕ) → ends_in p (n + 1) c x ≤ ends_in p (n + k + 1) c x
ends-grow p c x n zero = let e : n + 0 ≡ n = omega arith in rw e (omega arith)
ends-grow p c x n (suc k) =
    let e : n + suc k + 1 ≡ n + k + 1 + 1 = omega arith in
    rw e (omega (arith, ends_more p x (n + k) c, ends-grow p c x n k))

-- the address behind a flagged END but the last row is counted
ends_some : (p : Profile) (c : List ℕ) (rows i : ℕ) → i + 1 < rows → flagged_end p (buffer_row i c) ≡ true → 0 < ends_in p rows c (next_addr i c)
ends_some p c rows i h f =
    let e : i + 1 + (rows - i - 1 - 1) + 1 ≡ rows = omega arith in
    let g = rw e at (ends-grow p c (next_addr i c) (i + 1) (rows - i - 1 - 1)) in
    omega (arith, g, ends-hit p c i f (next_addr i c) refl)

few-more : (p : Profile) (c : List ℕ) (x n : ℕ) → ends_in p (n + 1) c x ≤ n → (b : Bool) → flagged_end p (buffer_row n c) ≡ b → Dec (next_addr n c ≡ x) → ends_in p (n + 1 + 1) c x ≤ suc n
few-more p c x n h false f d = omega (arith, ends_same p c n f x, h)
few-more p c x n h true f (yes s) = omega (arith, ends-hit p c n f x s, h)
few-more p c x n h true f (no s) = omega (arith, ends-miss p c n f x s, h)

ends-few : (p : Profile) (c : List ℕ) (x n : ℕ) → ends_in p (n + 1) c x ≤ n
ends-few p c x zero = omega (arith, ends-one p x c)
ends-few p c x (suc n) =
    let e : suc n + 1 ≡ n + 1 + 1 = omega arith in
    rw e (few-more p c x n (ends-few p c x n) (flagged_end p (buffer_row n c)) refl (ℕ_discrete (next_addr n c) x))

-- EACH LOOP ROW HAS A BODY END

-- a LOOP row that is on the stack, whose places are 1 to `depth`
abbrev IsOpen : (stack : List ℕ) → (depth j : ℕ) → Type 0
IsOpen stack depth j = (k : ℕ) × (0 < k) × (k ≤ depth) × (get_or stack k 0 ≡ j)

-- a LOOP row before row i is open or has a body END
pub record LoopsEnded (p : Profile) (c : List ℕ) (rows : ℕ) (stack : List ℕ) (depth i : ℕ) : Type 0 where
  pub inside : (k : ℕ) → get_or stack k 0 ≤ i
  pub each : (j : ℕ) → j < i → is_loop p (buffer_row j c) ≡ true → IsOpen stack depth j ⊎ (0 < ends_in p rows c (next_addr j c))

pub ended-start : (p : Profile) (c : List ℕ) (rows n : ℕ) → LoopsEnded p c rows (replicate n 0) 0 0
ended-start p c rows n = record { inside = λ k. omega (arith, zero-at n k); each = λ j h. absurd (omega arith) }

module _ (p : Profile) (c : List ℕ) (rows : ℕ) (stack : List ℕ) (depth i : ℕ) (was : LoopsEnded p c rows stack depth i) where
  pub ended-other : is_loop p (buffer_row i c) ≡ false → LoopsEnded p c rows stack depth (i + 1)
  ended-other n = record { inside = λ k. omega (arith, was.inside k); each = earlier p c i was.each n }

  pub ended-opens : depth + 1 < length stack → LoopsEnded p c rows (set stack (depth + 1) i) (depth + 1) (i + 1)
  ended-opens room = record { inside = λ k. inside-at k (ℕ_discrete k (depth + 1)); each = λ j h l. each_at j h l (ℕ_discrete j i) }
    where
      inside-at : (k : ℕ) → Dec (k ≡ depth + 1) → get_or (set stack (depth + 1) i) k 0 ≤ i + 1
      inside-at k (yes e) = rw (e, get_or-set_same stack (depth + 1) i 0 room) (omega arith)
      inside-at k (no e) = rw (get_or-set_other stack (depth + 1) k i 0 e) (omega (arith, was.inside k))

      stays : (j : ℕ) → IsOpen stack depth j ⊎ (0 < ends_in p rows c (next_addr j c)) → IsOpen (set stack (depth + 1) i) (depth + 1) j ⊎ (0 < ends_in p rows c (next_addr j c))
      stays j (inl (k, a, b, e)) = inl (k, a, omega arith, rw (get_or-set_other stack (depth + 1) k i 0 (λ s. omega arith)) e)
      stays j (inr e) = inr e

      each_at : (j : ℕ) → j < i + 1 → is_loop p (buffer_row j c) ≡ true → Dec (j ≡ i) → IsOpen (set stack (depth + 1) i) (depth + 1) j ⊎ (0 < ends_in p rows c (next_addr j c))
      each_at j h l (yes e) = inl (depth + 1, omega arith, omega arith, get_or-set_same stack (depth + 1) i 0 room ∙ sym e)
      each_at j h l (no e) = stays j (was.each j (omega (arith, e)) l)

  pub ended-ends : (left : ℕ) → i + 1 < rows → left ≤ depth → depth ≤ left + 1 → is_loop p (buffer_row i c) ≡ false → flagged_end p (buffer_row i c) ≡ true →
      next_addr (get_or stack depth 0) c ≡ next_addr i c → LoopsEnded p c rows stack left (i + 1)
  ended-ends left low most least n f same = record { inside = λ k. omega (arith, was.inside k); each = earlier p c i (λ j h l. stays j (was.each j h l)) n }
    where
      found : (j k : ℕ) → k ≤ depth → 0 < k → get_or stack k 0 ≡ j → Dec (k ≤ left) → IsOpen stack left j ⊎ (0 < ends_in p rows c (next_addr j c))
      found j k b a e (yes l) = inl (k, a, l, e)
      found j k b a e (no l) =
          let at : k ≡ depth = omega (arith, l) in
          let s : next_addr j c ≡ next_addr i c = ap (λ (r : ℕ). next_addr r c) (sym e ∙ ap (λ (r : ℕ). get_or stack r 0) at) ∙ same in
          inr (rw s (ends_some p c rows i low f))

      stays : (j : ℕ) → IsOpen stack depth j ⊎ (0 < ends_in p rows c (next_addr j c)) → IsOpen stack left j ⊎ (0 < ends_in p rows c (next_addr j c))
      stays j (inl (k, a, b, e)) = found j k b a e (dec_le k left)
      stays j (inr e) = inr e

-- where each has one, none lacks one
none-lacks : (p : Profile) (count : ℕ → ℕ) (rows : ℕ) (c : List ℕ) → ((j : ℕ) → j + 1 < rows → is_loop p (buffer_row j c) ≡ true → 0 < count (next_addr j c)) →
    (n i : ℕ) → rows ≤ i + n → lacks_from p count rows i c ≡ false
none-lacks p count rows c h zero i low = lacks-last p count rows i c (omega arith)
none-lacks p count rows c h (suc n) i low = by_place (none-lacks p count rows c h n (i + 1) (omega arith)) (dec_lt (i + 1) rows)
  where
    by_row : lacks_from p count rows (i + 1) c ≡ false → i + 1 < rows → (b : Bool) → is_loop p (buffer_row i c) ≡ b → lacks_from p count rows i c ≡ false
    by_row rest l true e = lacks-no p count rows i c l e (λ z. omega (arith, h i l e, z)) ∙ rest
    by_row rest l false e = lacks-skip p count rows i c l e ∙ rest

    by_place : lacks_from p count rows (i + 1) c ≡ false → Dec (i + 1 < rows) → lacks_from p count rows i c ≡ false
    by_place rest (no l) = lacks-last p count rows i c (omega (arith, l))
    by_place rest (yes l) = by_row rest l (is_loop p (buffer_row i c)) refl

pub ended-all : (p : Profile) (c : List ℕ) (rows : ℕ) (stack : List ℕ) (i : ℕ) → rows ≤ i + 1 → LoopsEnded p c rows stack 0 i → lacks_from p (ends_in p rows c) rows 0 c ≡ false
ended-all p c rows stack i low was = none-lacks p (ends_in p rows c) rows c (λ j l e. has j (was.each j (omega arith) e)) rows 0 (omega arith)
  where
    has : (j : ℕ) → IsOpen stack 0 j ⊎ (0 < ends_in p rows c (next_addr j c)) → 0 < ends_in p rows c (next_addr j c)
    has j (inl (k, a, b, e)) = absurd (omega arith)
    has j (inr e) = e

-- THE COUNTS, WHERE THE ADDRESSES BEHIND THE LOOP ROWS RISE

-- of the rows before row i: the LOOP rows hold the counts so far, and no two have one address behind them
pub record LoopsCounted (p : Profile) (first cells stack : List ℕ) (depth above i : ℕ) : Type 0 where
  pub inside : (k : ℕ) → get_or stack k 0 ≤ i
  pub opened : (k : ℕ) → 0 < k → k ≤ depth → (get_or stack k 0 < i) × (is_loop p (buffer_row (get_or stack k 0) first) ≡ true)
  pub counts : (j : ℕ) → j < i → is_loop p (buffer_row j first) ≡ true → get_or cells (49 * j + 23) 0 ≡ ends_in p (i + 1) first (next_addr j first)
  pub below : (j : ℕ) → j < i → is_loop p (buffer_row j first) ≡ true → next_addr j first < above
  pub one : (j k : ℕ) → j < i → k < i → is_loop p (buffer_row j first) ≡ true → is_loop p (buffer_row k first) ≡ true → next_addr j first ≡ next_addr k first → j ≡ k
  pub none : (x : ℕ) → above ≤ x → ends_in p (i + 1) first x ≡ 0

pub counted_start : (p : Profile) (c : List ℕ) (n : ℕ) → LoopsCounted p c c (replicate n 0) 0 0 0
counted_start p c n = record {
  inside = λ k. omega (arith, zero-at n k);
  opened = λ k a b. absurd (omega arith);
  counts = λ j h. absurd (omega arith);
  below = λ j h. absurd (omega arith);
  one = λ j k h. absurd (omega arith);
  none = λ x h. ends-one p x c;
}

module _ (p : Profile) (first cells stack : List ℕ) (depth above i : ℕ) (was : LoopsCounted p first cells stack depth above i) where
  pub counted-other : is_loop p (buffer_row i first) ≡ false → flagged_end p (buffer_row i first) ≡ false → LoopsCounted p first cells stack depth above (i + 1)
  counted-other n f = record {
    inside = λ k. omega (arith, was.inside k);
    opened = λ k a b. (omega (arith, (was.opened k a b).0), (was.opened k a b).1);
    counts = earlier p first i (λ j h l. was.counts j h l ∙ sym (ends_same p first i f (next_addr j first))) n;
    below = earlier p first i was.below n;
    one = λ j k h g l m. earlier p first i (λ j' h' l'. earlier p first i (λ k' g' m'. was.one j' k' h' g' l' m') n k g m) n j h l;
    none = λ x h. ends_same p first i f x ∙ was.none x h;
  }

  module _ (l : is_loop p (buffer_row i first) ≡ true) (f : flagged_end p (buffer_row i first) ≡ false) (high : above ≤ next_addr i first) (room : depth + 1 < length stack) (held : get_or cells (49 * i + 23) 0 ≡ 0) where
    pub counted-opens : LoopsCounted p first cells (set stack (depth + 1) i) (depth + 1) (next_addr i first + 1) (i + 1)
    counted-opens = record {
      inside = λ k. inside-at k (ℕ_discrete k (depth + 1));
      opened = λ k a b. opened-at k a b (ℕ_discrete k (depth + 1));
      counts = λ j h m. counts-at j h m (ℕ_discrete j i);
      below = λ j h m. below_at j h m (ℕ_discrete j i);
      one = λ j k h g m o e. one_at j k h g m o e (ℕ_discrete j i) (ℕ_discrete k i);
      none = λ x h. ends_same p first i f x ∙ was.none x (omega arith);
    }
      where
        inside-at : (k : ℕ) → Dec (k ≡ depth + 1) → get_or (set stack (depth + 1) i) k 0 ≤ i + 1
        inside-at k (yes e) = rw (e, get_or-set_same stack (depth + 1) i 0 room) (omega arith)
        inside-at k (no e) = rw (get_or-set_other stack (depth + 1) k i 0 e) (omega (arith, was.inside k))

        opened-at : (k : ℕ) → 0 < k → k ≤ depth + 1 → Dec (k ≡ depth + 1) → (get_or (set stack (depth + 1) i) k 0 < i + 1) × (is_loop p (buffer_row (get_or (set stack (depth + 1) i) k 0) first) ≡ true)
        opened-at k a b (yes e) = rw (e, get_or-set_same stack (depth + 1) i 0 room) (omega arith, l)
        opened-at k a b (no e) =
            let o = was.opened k a (omega (arith, e)) in
            rw (get_or-set_other stack (depth + 1) k i 0 e) (omega (arith, o.0), o.1)

        counts-at : (j : ℕ) → j < i + 1 → is_loop p (buffer_row j first) ≡ true → Dec (j ≡ i) → get_or cells (49 * j + 23) 0 ≡ ends_in p (i + 1 + 1) first (next_addr j first)
        counts-at j h m (yes e) = rw e (held ∙ sym (ends_same p first i f (next_addr i first) ∙ was.none (next_addr i first) high))
        counts-at j h m (no e) = was.counts j (omega (arith, e)) m ∙ sym (ends_same p first i f (next_addr j first))

        below_at : (j : ℕ) → j < i + 1 → is_loop p (buffer_row j first) ≡ true → Dec (j ≡ i) → next_addr j first < next_addr i first + 1
        below_at j h m (yes e) = rw e (omega arith)
        below_at j h m (no e) = omega (arith, was.below j (omega (arith, e)) m, high)

        one_at : (j k : ℕ) → j < i + 1 → k < i + 1 → is_loop p (buffer_row j first) ≡ true → is_loop p (buffer_row k first) ≡ true → next_addr j first ≡ next_addr k first → Dec (j ≡ i) → Dec (k ≡ i) → j ≡ k
        one_at j k h g m o e (yes a) (yes b) = a ∙ sym b
        one_at j k h g m o e (yes a) (no b) = absurd (omega (arith, was.below k (omega (arith, b)) o, high, ap (λ (r : ℕ). next_addr r first) (sym a) ∙ e))
        one_at j k h g m o e (no a) (yes b) = absurd (omega (arith, was.below j (omega (arith, a)) m, high, e ∙ ap (λ (r : ℕ). next_addr r first) b))
        one_at j k h g m o e (no a) (no b) = was.one j k (omega (arith, a)) (omega (arith, b)) m o e

  module _ (n : is_loop p (buffer_row i first) ≡ false) (f : flagged_end p (buffer_row i first) ≡ true) (some : 0 < depth) (same : next_addr (get_or stack depth 0) first ≡ next_addr i first) (left : ℕ) (most : left ≤ depth) where
    abbrev top : ℕ
    top = get_or stack depth 0

    pub counted-ends : 49 * top + 23 < length cells → LoopsCounted p first (set cells (49 * top + 23) (get_or cells (49 * top + 23) 0 + 1)) stack left above (i + 1)
    counted-ends fits = record {
      inside = λ k. omega (arith, was.inside k);
      opened = λ k a b. let o = was.opened k a (omega arith) in (omega (arith, o.0), o.1);
      counts = earlier p first i (λ j h l. counts-at j h l (ℕ_discrete j top)) n;
      below = earlier p first i was.below n;
      one = λ j k h g l m. earlier p first i (λ j' h' l'. earlier p first i (λ k' g' m'. was.one j' k' h' g' l' m') n k g m) n j h l;
      none = λ x h. ends-miss p first i f x (λ e. omega (arith, was.below top its.0 its.1, same, e)) ∙ was.none x h;
    }
      where
        its : (top < i) × (is_loop p (buffer_row top first) ≡ true)
        its = was.opened depth some (omega arith)

        counts-at : (j : ℕ) → j < i → is_loop p (buffer_row j first) ≡ true → Dec (j ≡ top) → get_or (set cells (49 * top + 23) (get_or cells (49 * top + 23) 0 + 1)) (49 * j + 23) 0 ≡ ends_in p (i + 1 + 1) first (next_addr j first)
        counts-at j h l (yes e) =
            rw e (get_or-set_same cells (49 * top + 23) (get_or cells (49 * top + 23) 0 + 1) 0 fits ∙ omega (arith, was.counts top its.0 its.1, ends-hit p first i f (next_addr top first) (sym same)))
        counts-at j h l (no e) =
            get_or-set_other cells (49 * top + 23) (49 * j + 23) (get_or cells (49 * top + 23) 0 + 1) 0 (λ s. e (omega arith)) ∙ was.counts j h l
            ∙ sym (ends-miss p first i f (next_addr j first) (λ s. e (was.one j top h its.0 l its.1 (sym s ∙ sym same))))

  -- a count is small
  pub count_small : (j : ℕ) → j < i → is_loop p (buffer_row j first) ≡ true → get_or cells (49 * j + 23) 0 ≤ i
  count_small j h l = omega (arith, was.counts j h l, ends-few p first (next_addr j first) i)

-- WHAT IS WRITTEN

module _ (p : Profile) (count : ℕ → ℕ) (rows : ℕ) where
  module _ (i j v : ℕ) (c : List ℕ) where
    abbrev other : List ℕ
    other = set c (49 * j + 23) v

    alike : Alike other c
    alike = alike_set c c j v (alike_refl c)

    loop-too : (b : Bool) → is_loop p (buffer_row i c) ≡ b → is_loop p (buffer_row i other) ≡ b
    loop-too b e = rw (opcode-alike other c alike i) e

    addr-too : next_addr i other ≡ next_addr i c
    addr-too = cell-alike other c alike (i + 1) 6 (omega arith)

  -- what a LOOP row holds is written over
  rewritten-here : (i v : ℕ) (c : List ℕ) → i + 1 < rows → is_loop p (buffer_row i c) ≡ true → counted_from p count rows i (set c (49 * i + 23) v) ≡ counted_from p count rows i c
  rewritten-here i v c h l =
      let w : ℕ = count (next_addr i c) in
      let e : set (other i i v c) (49 * i + 23) (count (next_addr i (other i i v c))) ≡ set c (49 * i + 23) w = ap (λ (a : ℕ). set (other i i v c) (49 * i + 23) (count a)) (addr-too i i v c) ∙ set-set c (49 * i + 23) v w in
      sym (counted-loop p count rows i (other i i v c) h (loop-too i i v c true l)) ∙ ap (counted_from p count rows (i + 1)) e ∙ counted-loop p count rows i c h l

  rewritten : (n i j v : ℕ) (c : List ℕ) → j ≡ i + n → j + 1 < rows → is_loop p (buffer_row j c) ≡ true → counted_from p count rows i (set c (49 * j + 23) v) ≡ counted_from p count rows i c
  rewritten zero i j v c at low l =
      let e : j ≡ i = omega arith in
      rw e (rewritten-here i v c (omega arith) (rw e at l))
  rewritten (suc n) i j v c at low l = by_row (λ d. rewritten n (i + 1) j v d (omega arith) low) (is_loop p (buffer_row i c)) refl
    where
      h : i + 1 < rows
      h = omega arith

      w : ℕ
      w = count (next_addr i c)

      by_row : ((d : List ℕ) → is_loop p (buffer_row j d) ≡ true → counted_from p count rows (i + 1) (set d (49 * j + 23) v) ≡ counted_from p count rows (i + 1) d) →
          (b : Bool) → is_loop p (buffer_row i c) ≡ b → counted_from p count rows i (set c (49 * j + 23) v) ≡ counted_from p count rows i c
      by_row rest false e = sym (counted_skip p count rows i (other i j v c) h (loop-too i j v c false e)) ∙ rest c l ∙ counted_skip p count rows i c h e
      by_row rest true e =
          let d : set (other i j v c) (49 * i + 23) (count (next_addr i (other i j v c))) ≡ set (set c (49 * i + 23) w) (49 * j + 23) v = ap (λ (a : ℕ). set (other i j v c) (49 * i + 23) (count a)) (addr-too i j v c) ∙ set_comm c (49 * j + 23) (49 * i + 23) v w (λ s. omega arith) in
          sym (counted-loop p count rows i (other i j v c) h (loop-too i j v c true e)) ∙ ap (counted_from p count rows (i + 1)) d
          ∙ rest (set c (49 * i + 23) w) (loop-too j i w c true l) ∙ counted-loop p count rows i c h e

  -- a count more or another in a LOOP row changes nothing of what comes out
  pub still-counted : (j v : ℕ) (c : List ℕ) → j + 1 < rows → is_loop p (buffer_row j c) ≡ true → counted_from p count rows 0 (set c (49 * j + 23) v) ≡ counted_from p count rows 0 c
  still-counted j v c low l = rewritten j 0 j v c (omega arith) low l

  -- where each LOOP row holds its count, nothing is left to do
  settled : (c : List ℕ) → ((j : ℕ) → j + 1 < rows → is_loop p (buffer_row j c) ≡ true → get_or c (49 * j + 23) 0 ≡ count (next_addr j c)) → (n i : ℕ) → i ≤ rows → rows ≤ i + n → counted_from p count rows i c ≡ c
  settled c h zero i most low = counted-last p count rows i c most (omega arith)
  settled c h (suc n) i most low = by_place (λ m. settled c h n (i + 1) m (omega arith)) (dec_lt (i + 1) rows)
    where
      by_row : (i + 1 ≤ rows → counted_from p count rows (i + 1) c ≡ c) → i + 1 < rows → (b : Bool) → is_loop p (buffer_row i c) ≡ b → counted_from p count rows i c ≡ c
      by_row rest l false e = sym (counted_skip p count rows i c l e) ∙ rest (omega arith)
      by_row rest l true e =
          let d : set c (49 * i + 23) (count (next_addr i c)) ≡ c = ap (set c (49 * i + 23)) (sym (h i l e)) ∙ set-get_or c (49 * i + 23) 0 in
          sym (counted-loop p count rows i c l e) ∙ ap (counted_from p count rows (i + 1)) d ∙ rest (omega arith)

      by_place : (i + 1 ≤ rows → counted_from p count rows (i + 1) c ≡ c) → Dec (i + 1 < rows) → counted_from p count rows i c ≡ c
      by_place rest (no l) = counted-last p count rows i c most (omega (arith, l))
      by_place rest (yes l) = by_row rest l (is_loop p (buffer_row i c)) refl

-- behind the last row but one the LOOP rows hold their counts
pub counted-all : (p : Profile) (first cells stack : List ℕ) (depth above i rows : ℕ) → LoopsCounted p first cells stack depth above i → Alike cells first → i ≤ rows - 1 → rows ≤ i + 1 →
    counted_from p (ends_in p rows first) rows 0 cells ≡ cells
counted-all p first cells stack depth above i rows was g most low = settled p (ends_in p rows first) rows cells holds rows 0 (omega arith) (omega arith)
  where
    holds : (j : ℕ) → j + 1 < rows → is_loop p (buffer_row j cells) ≡ true → get_or cells (49 * j + 23) 0 ≡ ends_in p rows first (next_addr j cells)
    holds j h l =
        let e : i + 1 ≡ rows = omega arith in
        let s : next_addr j cells ≡ next_addr j first = cell-alike cells first g (j + 1) 6 (omega arith) in
        rw (s, ← e) (was.counts j (omega arith) (rw (opcode-alike cells first g j) at l))

-- THE COUNTS AND NOTHING ELSE

module _ (p : Profile) (first : List ℕ) where
  pub in_start : CountsIn p first 0 0 first
  in_start = record { alike = alike_refl first; others = λ x h. refl; zeros = λ j h. absurd (omega arith) }

  module _ (cells : List ℕ) (i : ℕ) (was : CountsIn p first 0 i cells) where
    -- a cell that no LOOP row before the next one counts in
    earlier-others : (x : ℕ) → ((j : ℕ) → 0 ≤ j → j < i + 1 → is_loop p (buffer_row j first) ≡ true → x ≡ 49 * j + 23 → ⊥) → get_or cells x 0 ≡ get_or first x 0
    earlier-others x h = was.others x (λ j a b l e. h j a (omega arith) l e)

    pub in-other : is_loop p (buffer_row i first) ≡ false → CountsIn p first 0 (i + 1) cells
    in-other n = record { alike = was.alike; others = earlier-others; zeros = earlier p first i was.zeros n }

    -- row i is as it was
    still-held : get_or cells (49 * i + 23) 0 ≡ get_or first (49 * i + 23) 0
    still-held = was.others (49 * i + 23) (λ j a b l e. omega arith)

    pub in_opens : get_or cells (49 * i + 23) 0 ≡ 0 → CountsIn p first 0 (i + 1) cells
    in_opens held = record { alike = was.alike; others = earlier-others; zeros = λ j h l. zero_in j h l (ℕ_discrete j i) }
      where
        zero_in : (j : ℕ) → j < i + 1 → is_loop p (buffer_row j first) ≡ true → Dec (j ≡ i) → get_or first (49 * j + 23) 0 ≡ 0
        zero_in j h l (yes e) = rw e (sym still-held ∙ held)
        zero_in j h l (no e) = was.zeros j (omega (arith, e)) l

    pub in-ends : (top v : ℕ) → top < i → is_loop p (buffer_row top first) ≡ true → is_loop p (buffer_row i first) ≡ false → CountsIn p first 0 (i + 1) (set cells (49 * top + 23) v)
    in-ends top v low l n = record {
      alike = alike_set cells first top v was.alike;
      others = λ x h. get_or-set_other cells (49 * top + 23) x v 0 (λ e. h top (omega arith) (omega arith) l e) ∙ earlier-others x h;
      zeros = earlier p first i was.zeros n;
    }

  module _ (cells : List ℕ) (i end : ℕ) (was : CountsIn p first i end cells) where
    pub clear_none : is_loop p (buffer_row i first) ≡ false → CountsIn p first (i + 1) end cells
    clear_none n = record { alike = was.alike; others = λ x h. was.others x (λ j a b l e. by_row x h j a b l e (ℕ_discrete j i)); zeros = was.zeros }
      where
        by_row : (x : ℕ) → ((j : ℕ) → i + 1 ≤ j → j < end → is_loop p (buffer_row j first) ≡ true → x ≡ 49 * j + 23 → ⊥) → (j : ℕ) → i ≤ j → j < end → is_loop p (buffer_row j first) ≡ true → x ≡ 49 * j + 23 → Dec (j ≡ i) → ⊥
        by_row x h j a b l e (yes s) = clash (is_loop p (buffer_row i first)) (rw s at l) n
        by_row x h j a b l e (no s) = h j (omega (arith, s)) b l e

    pub clear-one : i < end → is_loop p (buffer_row i first) ≡ true → 49 * i + 23 < length cells → CountsIn p first (i + 1) end (set cells (49 * i + 23) 0)
    clear-one low is fits = record { alike = alike_set cells first i 0 was.alike; others = λ x h. at x h (ℕ_discrete x (49 * i + 23)); zeros = was.zeros }
      where
        by_row : (x : ℕ) → (x ≡ 49 * i + 23 → ⊥) → ((j : ℕ) → i + 1 ≤ j → j < end → is_loop p (buffer_row j first) ≡ true → x ≡ 49 * j + 23 → ⊥) → (j : ℕ) → i ≤ j → j < end → is_loop p (buffer_row j first) ≡ true → x ≡ 49 * j + 23 → Dec (j ≡ i) → ⊥
        by_row x n h j a b l e (yes s) = n (e ∙ ap (λ (r : ℕ). 49 * r + 23) s)
        by_row x n h j a b l e (no s) = h j (omega (arith, s)) b l e

        at : (x : ℕ) → ((j : ℕ) → i + 1 ≤ j → j < end → is_loop p (buffer_row j first) ≡ true → x ≡ 49 * j + 23 → ⊥) → Dec (x ≡ 49 * i + 23) → get_or (set cells (49 * i + 23) 0) x 0 ≡ get_or first x 0
        at x h (yes e) = rw e (get_or-set_same cells (49 * i + 23) 0 0 fits ∙ sym (was.zeros i low is))
        at x h (no n) = get_or-set_other cells (49 * i + 23) x 0 0 n ∙ was.others x (λ j a b l e. by_row x n h j a b l e (ℕ_discrete j i))

  pub cleared-all : (cells : List ℕ) (i end : ℕ) → end ≤ i → CountsIn p first i end cells → cells ≡ first
  cleared-all cells i end low was = ext_get_or 0 cells first was.alike.size (λ x h. was.others x (λ j a b l e. omega arith))
