-- What a scan finds in a forest's part it finds in the whole lent slices.
use mathlib.Core.Path.{◌≡◌, refl}
use mathlib.Core.Bool.{Bool, true, false, ◌&&◌, ◌||◌}
use mathlib.Core.List.{List, [], ◌∷◌}
use Prim.Native.Nat.{ℕ, zero, suc, ◌+◌, ◌*◌, ◌/◌, ◌-◌, ◌≤◌, ◌<◌, zero-le}
use native.Mathlib.Omega.{arith}
use borrow.Author.Tests.{ltb-true, ltb-false}
use lib.Dec.{leb, ltb, eqb}
use lib.ListN.{length, take, drop, get_or, length-drop}
use lib.Seq.{get_or-take, get_or-drop}
use Rattle.field.specs.Bounds.{any_from}
use Rattle.rows.specs.declared.replay.directory.DirectoryEntry.{DirectoryEntry}
use Rattle.rows.specs.records.Forests.{Forest}
use Rattle.rows.specs.cycles.Scans.{any_big_opcode, any_long_block, any_large_batch, forest_too_large}
use Rattle.rows.specs.replay.Calls.{window, forest_in}

pub never : {A : Type 0} → false ≡ true → A
never e = let z : ◌≡◌ {A = ℕ} 0 1 = cc in absurd (omega arith)

or_left : (a b : Bool) → a ≡ true → (a || b) ≡ true
or_left a b e = rw e

or_right : (a b : Bool) → b ≡ true → (a || b) ≡ true
or_right true b e = refl
or_right false b e = e

or_cases : {A : Type 0} (a b : Bool) → (a ≡ true → A) → (b ≡ true → A) → (a || b) ≡ true → A
or_cases true b f g e = f refl
or_cases false b f g e = g e

-- an `or` whose sides imply those of another
or-both : (a b c d : Bool) → (a ≡ true → c ≡ true) → (b ≡ true → d ≡ true) → (a || b) ≡ true → (c || d) ≡ true
or-both a b c d f g = or_cases a b (λ p. or_left c d (f p)) (λ p. or_right c d (g p))

-- NUMBERS FROM A LIMIT ON

any-take : (limit : ℕ) (n : ℕ) (xs : List ℕ) → any_from limit (take n xs) ≡ true → any_from limit xs ≡ true
unfolding any_from
any-take limit zero xs e = never e
any-take limit (suc n) [] e = e
any-take limit (suc n) (x ∷ xs) e =
    or-both (leb limit x) (any_from limit (take n xs)) (leb limit x) (any_from limit xs) (λ h. h) (any-take limit n xs) e

any-drop : (limit : ℕ) (n : ℕ) (xs : List ℕ) → any_from limit (drop n xs) ≡ true → any_from limit xs ≡ true
unfolding any_from
any-drop limit zero xs e = e
any-drop limit (suc n) [] e = e
any-drop limit (suc n) (x ∷ xs) e = or_right (leb limit x) (any_from limit xs) (any-drop limit n xs e)

any-window : (limit width first count : ℕ) (xs : List ℕ) → any_from limit (window width first count xs) ≡ true → any_from limit xs ≡ true
unfolding window
any-window limit width first count xs e = any-drop limit (width * first) xs (any-take limit (width * count) (drop (width * first) xs) e)

pub part-big : (f : Forest) (w : DirectoryEntry) → any_big_opcode (forest_in f w).ops ≡ true → any_big_opcode f.ops ≡ true
unfolding any_big_opcode forest_in
part-big f w = any-window 128 1 w.first_op w.ops f.ops

-- RECORDS THAT PASS A TEST

-- one of the first n numbers passes a test
abbrev any_of : (ℕ → Bool) → (n : ℕ) → Bool
any_of g zero = false
any_of g (suc k) = any_of g k || g k

any_at : (h : ℕ → Bool) (m j : ℕ) (before : Bool) → ltb j m ≡ before → j < suc m → h j ≡ true → any_of h (suc m) ≡ true
any_at h zero j before e l p = let z : j ≡ 0 = omega arith in rw z at p
any_at h (suc m) j true e l p = or_left (any_of h (suc m)) (h (suc m)) (any_at h m j (ltb j m) refl (omega (arith, ltb-true j (suc m) e)) p)
any_at h (suc m) j false e l p =
    let z : j ≡ suc m = omega (arith, ltb-false j (suc m) e) in
    or_right (any_of h (suc m)) (h (suc m)) (rw z at p)

any_below : (h : ℕ → Bool) (m j : ℕ) → j < m → h j ≡ true → any_of h m ≡ true
any_below h zero j l p = absurd (omega arith)
any_below h (suc m) j l p = any_at h m j (ltb j m) refl l p

-- number k of the one is number a + k of the other
any-moved : (g h : ℕ → Bool) (a n m : ℕ) → (0 < n → a + n ≤ m) → ((k : ℕ) → k < n → g k ≡ true → h (a + k) ≡ true) → any_of g n ≡ true → any_of h m ≡ true
any-moved g h a zero m l f e = never e
any-moved g h a (suc n) m l f e =
    or_cases (any_of g n) (g n)
    (any-moved g h a n m (λ z. omega (arith, l (omega arith))) (λ k z. f k (omega arith)))
    (λ p. any_below h m (a + n) (omega (arith, l (omega arith))) (f n (omega arith) p))
    e

take_short : (n : ℕ) (xs : List ℕ) → (length (take n xs) ≤ n) × (length (take n xs) ≤ length xs)
take_short zero xs = (zero-le, zero-le)
take_short (suc n) [] = (zero-le, zero-le)
take_short (suc n) (x ∷ xs) = let h = take_short n xs in (omega arith, omega arith)

module _ (width first count : ℕ) (xs : List ℕ) where
  -- a number of the part is one of the slice
  window-end : (i : ℕ) → i < length (window width first count xs) → width * first + i < length xs
  unfolding window
  window-end i l = omega (arith, take_short (width * count) (drop (width * first) xs), length-drop (width * first) xs)

  window-at : (i : ℕ) → i < length (window width first count xs) → get_or (window width first count xs) i 0 ≡ get_or xs (width * first + i) 0
  unfolding window
  window-at i l =
      let h : i < width * count = omega (arith, take_short (width * count) (drop (width * first) xs)) in
      rw (get_or-take, get_or-drop)

abbrev long_at : (nodes : List ℕ) → ℕ → Bool
long_at nodes k = eqb (get_or nodes (6 * k) 0) 2 && ltb 4096 (get_or nodes (6 * k + 5) 0)

any-long : (nodes : List ℕ) (n : ℕ) → any_long_block nodes n ≡ any_of (long_at nodes) n
unfolding any_long_block
any-long nodes zero = refl
any-long nodes (suc k) = rw (any-long nodes k)

abbrev large_at : (batches : List ℕ) → ℕ → Bool
large_at batches k = ltb 8 (get_or batches (12 * k) 0)

any-large : (batches : List ℕ) (n : ℕ) → any_large_batch batches n ≡ any_of (large_at batches) n
unfolding any_large_batch
any-large batches zero = refl
any-large batches (suc k) = rw (any-large batches k)

module _ (first count : ℕ) (nodes : List ℕ) where
  abbrev slots : List ℕ
  slots = window 6 first count nodes

  long-moved : (k : ℕ) → k < length slots / 6 → long_at slots k ≡ true → long_at nodes (first + k) ≡ true
  long-moved k l p =
      let whole : 6 * first + (6 * k + 5) ≡ 6 * (first + k) + 5 = omega arith in
      let start : 6 * first + 6 * k ≡ 6 * (first + k) = omega arith in
      rw (← whole, ← start, ← (window-at 6 first count nodes (6 * k) (omega arith)), ← (window-at 6 first count nodes (6 * k + 5) (omega arith))) p

  part-long : any_long_block slots (length slots / 6) ≡ true → any_long_block nodes (length nodes / 6) ≡ true
  part-long e =
      rw (any-long nodes (length nodes / 6)) (any-moved (long_at slots) (long_at nodes) first (length slots / 6) (length nodes / 6)
      (λ l. omega (arith, window-end 6 first count nodes (6 * (length slots / 6) - 1) (omega arith)))
      long-moved
      (rw (any-long slots (length slots / 6)) at e))

module _ (first count : ℕ) (batches : List ℕ) where
  abbrev records : List ℕ
  records = window 12 first count batches

  large-moved : (k : ℕ) → k < length records / 12 → large_at records k ≡ true → large_at batches (first + k) ≡ true
  large-moved k l p =
      let start : 12 * first + 12 * k ≡ 12 * (first + k) = omega arith in
      rw (← start, ← (window-at 12 first count batches (12 * k) (omega arith))) p

  part-large : any_large_batch records (length records / 12) ≡ true → any_large_batch batches (length batches / 12) ≡ true
  part-large e =
      rw (any-large batches (length batches / 12)) (any-moved (large_at records) (large_at batches) first (length records / 12) (length batches / 12)
      (λ l. omega (arith, window-end 12 first count batches (12 * (length records / 12) - 1) (omega arith)))
      large-moved
      (rw (any-large records (length records / 12)) at e))

pub part-too-large : (f : Forest) (w : DirectoryEntry) → forest_too_large (forest_in f w).nodes (forest_in f w).batches ≡ true → forest_too_large f.nodes f.batches ≡ true
unfolding forest_too_large forest_in
part-too-large f w =
    or-both _ _ _ _ (part-long w.first_slot w.slots f.nodes) (part-large w.first_batch w.batches f.batches)
