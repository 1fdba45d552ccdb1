-- One row of the scan as the code does it is one row of the scan on lists.
use mathlib.Core.Path.{◌≡◌, ◌∙◌, refl, sym, ap}
use mathlib.Core.Bool.{false}
use mathlib.Core.List.{List, [], ◌∷◌, ◌++◌}
use Prim.Native.Nat.{ℕ, zero, suc, pred, ◌+◌, ◌*◌, ◌-◌, ◌≤◌, ◌<◌}
use native.Mathlib.Omega.{arith}
use native.Mathlib.Numerals.{add-one}
use borrow.Author.Tests.{ne_eqb}
use lib.Dec.{eqb}
use lib.ListN.{length, get_or, take, drop, set, length-set, take-append-drop}
use lib.Seq.{length-take-le, get_or-set_same, get_or-set_other, drop-set-lt, take-set-lt, get_or-take}
use Rattle.theory_readings.specs.Tokens.{Token}
use Rattle.theory_readings.specs.Readings.{Row}
use Rattle.theory_indexes.specs.ways.IndexScan.{Change, begins, ends, stays, change_of, around, ended, closed, made_behind, open_behind, index_scan, one_if_begins, starts, FitsRow, open_count, Fits}
use Rattle.index.specs.ways.Steps.{Progress, around_in, index_behind, stack_behind, progress_behind, Room}

-- LISTS

three-set : (l : List ℕ) (i a b c : ℕ) → suc (suc i) < length l → take (suc (suc (suc i))) (set (set (set l i a) (suc i) b) (suc (suc i)) c) ≡ take i l ++ (a ∷ b ∷ c ∷ [])
three-set [] i a b c h = absurd (omega arith)
three-set (x ∷ []) zero a b c h = absurd (omega arith)
three-set (x ∷ y ∷ []) zero a b c h = absurd (omega arith)
three-set (x ∷ y ∷ z ∷ l) zero a b c h = refl
three-set (x ∷ l) (suc i) a b c h = ap (λ r. x ∷ r) (three-set l i a b c (omega arith))

-- THE STACK

-- an array's first numbers are the stack, the innermost last
unfoldable pub Holds : (stack : List ℕ) → (array : List ℕ) → (opened : ℕ) → Type 0
Holds [] array opened = opened ≡ 0
Holds (p ∷ stack) array opened = (d : ℕ) × (opened ≡ suc d) × (get_or array d 0 ≡ p) × Holds stack array d

holds-set : (stack array : List ℕ) (opened at x : ℕ) → opened ≤ at → Holds stack array opened → Holds stack (set array at x) opened
unfolding Holds
holds-set [] array opened at x h e = e
holds-set (p ∷ stack) array opened at x h (d, e, f, g) =
    (d, e, get_or-set_other array at d x 0 (λ q. absurd (omega arith)) ∙ f, holds-set stack array d at x (omega arith) g)

-- each open block's numbers lie before n
unfoldable pub Below : (stack : List ℕ) → (n : ℕ) → Type 0
Below [] n = Unit {0}
Below (p ∷ stack) n = (p + 2 < n) × Below stack n

below_more : (stack : List ℕ) (n m : ℕ) → n ≤ m → Below stack n → Below stack m
unfolding Below
below_more [] n m h f = tt
below_more (p ∷ stack) n m h f = (omega arith, below_more stack n m h f.1)

around-in : (stack array index : List ℕ) (row opened next : ℕ) → Holds stack array opened → Below stack next → around_in row opened array index ≡ around (take next index) stack row
unfolding Holds Below around_in around
around-in [] array index row opened next e b = rw e refl
around-in (p ∷ stack) array index row opened next (d, e, f, g) b =
    let z : eqb opened 0 ≡ false = ne_eqb opened 0 (λ q. absurd (omega arith)) in
    let m : opened - 1 ≡ d = omega arith in
    rw (z, m, f) (sym (get_or-take next index p 0 (omega arith)))

-- the innermost open block's numbers, by the array
top-before : (stack array : List ℕ) (opened next : ℕ) → 0 < opened → Holds stack array opened → Below stack next → get_or array (opened - 1) 0 + 2 < next
unfolding Holds Below
top-before [] array opened next h e b = absurd (omega arith)
top-before (p ∷ stack) array opened next h (d, e, f, g) b =
    let m : opened - 1 ≡ d = omega arith in
    rw (m, f) b.0

top_below : (stack array : List ℕ) (opened next : ℕ) {size : ℕ} → 0 < opened → Holds stack array opened → Below stack next → next ≤ size → get_or array (opened - 1) 0 < size
top_below stack array opened next h e b l = omega (arith, top-before stack array opened next h e b)

ended-top : (stack array : List ℕ) (opened : ℕ) (made : List ℕ) (row : ℕ) → 0 < opened → Holds stack array opened → ended made stack row ≡ set made (get_or array (opened - 1) 0 + 1) row
unfolding Holds ended
ended-top [] array opened made row h e = absurd (omega arith)
ended-top (p ∷ stack) array opened made row h (d, e, f, g) =
    let m : opened - 1 ≡ d = omega arith in
    rw (m, f) refl

holds-closed : (stack array : List ℕ) (opened : ℕ) → 0 < opened → Holds stack array opened → Holds (closed stack) array (opened - 1)
unfolding Holds closed
holds-closed [] array opened h e = absurd (omega arith)
holds-closed (p ∷ stack) array opened h (d, e, f, g) =
    let m : opened - 1 ≡ d = omega arith in
    rw m g

below-closed : (stack : List ℕ) (n : ℕ) → Below stack n → Below (closed stack) n
unfolding Below closed
below-closed [] n b = tt
below-closed (p ∷ stack) n b = b.1

-- ONE ROW

-- the rows that are left, the scan so far; what it comes to is `goal`, `total` blocks in all
pub record Building (goal : List ℕ) (total : ℕ) (past : List ℕ) (size : ℕ) (rows : List Row) (s : Progress) (array index : List ℕ) : Type 0 where
  pub stack : List ℕ
  pub most : s.opened ≤ 64
  pub holds : Holds stack array s.opened
  pub below : Below stack s.next
  pub fits : Fits s.opened rows
  pub counted : s.next + 3 * starts rows ≡ 3 * total
  pub made : index_scan rows (take s.next index) stack ≡ goal
  pub rest : drop (3 * total) index ≡ past
  pub sized : length index ≡ size
  pub long : length array ≡ 64

module _ (goal : List ℕ) (total : ℕ) (past : List ℕ) (size : ℕ) (enough : 3 * total ≤ size) (n : ℕ) (rows : List Row) (s : Progress) (array index : List ℕ) where
  -- what is known before a row that makes a change
  pub record Before (c : Change) : Type 0 where
    pub stack : List ℕ
    pub most : s.opened ≤ 64
    pub holds : Holds stack array s.opened
    pub below : Below stack s.next
    pub fits : FitsRow s.opened c × Fits (open_count s.opened c) rows
    pub counted : s.next + 3 * (one_if_begins c + starts rows) ≡ 3 * total
    pub made : index_scan rows (made_behind n c (take s.next index) stack) (open_behind c (take s.next index) stack) ≡ goal
    pub rest : drop (3 * total) index ≡ past
    pub sized : length index ≡ size
    pub long : length array ≡ 64

  module _ (b : Before begins) where
    wide : s.next + 2 < length index
    unfolding one_if_begins
    wide = omega (arith, b.counted, b.sized)

    length-made : length (take s.next index) ≡ s.next
    length-made = length-take-le s.next index (omega (arith, wide))

    added : take (s.next + 3) (index_behind begins n s array index) ≡ made_behind n begins (take s.next index) b.stack
    unfolding index_behind made_behind
    added =
        let x : s.next + 1 ≡ suc s.next = omega arith in
        let y : s.next + 2 ≡ suc (suc s.next) = omega arith in
        let z : s.next + 3 ≡ suc (suc (suc s.next)) = omega arith in
        rw (x, y, z, ← (around-in b.stack array index n s.opened s.next b.holds b.below))
        (three-set index s.next n 0 (around_in n s.opened array index) (omega (arith, wide)))

    begun-rest : drop (3 * total) (index_behind begins n s array index) ≡ past
    unfolding index_behind one_if_begins
    begun-rest =
        drop-set-lt (3 * total) _ (s.next + 2) _ (omega (arith, b.counted))
        ∙ drop-set-lt (3 * total) _ (s.next + 1) _ (omega (arith, b.counted))
        ∙ drop-set-lt (3 * total) index s.next n (omega (arith, b.counted))
        ∙ b.rest

    begun-size : length (index_behind begins n s array index) ≡ size
    unfolding index_behind
    begun-size = rw (length-set, length-set, length-set) b.sized

    begun : Building goal total past size rows (progress_behind begins s) (stack_behind begins s array) (index_behind begins n s array index)
    unfolding progress_behind stack_behind Holds Below FitsRow open_count one_if_begins open_behind
    begun = record {
      stack = s.next ∷ b.stack;
      most = omega (arith, b.fits.0);
      holds = (s.opened, add-one s.opened, get_or-set_same array s.opened s.next 0 (omega (arith, b.fits.0, b.long)), holds-set b.stack array s.opened s.opened s.next (omega arith) b.holds);
      below = (omega arith, below_more b.stack s.next (s.next + 3) (omega arith) b.below);
      fits = rw (add-one s.opened) b.fits.1;
      counted = omega (arith, b.counted);
      made = rw added (rw length-made at b.made);
      rest = begun-rest;
      sized = begun-size;
      long = rw length-set b.long;
    }

    begin-room : Room begins s array index
    unfolding Room FitsRow
    begin-room = (b.fits.0, wide, λ h. top_below b.stack array s.opened s.next h b.holds b.below (omega (arith, wide)))

  module _ (b : Before ends) where
    end-top : get_or array (s.opened - 1) 0 + 2 < s.next
    unfolding FitsRow
    end-top = top-before b.stack array s.opened s.next b.fits.0 b.holds b.below

    next_le : s.next ≤ length index
    unfolding one_if_begins
    next_le = omega (arith, b.counted, b.sized)

    ended-made : ended (take s.next index) b.stack n ≡ take s.next (index_behind ends n s array index)
    unfolding index_behind FitsRow
    ended-made =
        ended-top b.stack array s.opened (take s.next index) n b.fits.0 b.holds
        ∙ sym (take-set-lt s.next index (get_or array (s.opened - 1) 0 + 1) n (omega (arith, end-top)))

    finished-rest : drop (3 * total) (index_behind ends n s array index) ≡ past
    unfolding index_behind one_if_begins
    finished-rest = drop-set-lt (3 * total) index (get_or array (s.opened - 1) 0 + 1) n (omega (arith, b.counted, end-top)) ∙ b.rest

    finished-size : length (index_behind ends n s array index) ≡ size
    unfolding index_behind
    finished-size = rw length-set b.sized

    finished : Building goal total past size rows (progress_behind ends s) (stack_behind ends s array) (index_behind ends n s array index)
    unfolding progress_behind stack_behind FitsRow open_count one_if_begins open_behind made_behind
    finished =
        let e : pred s.opened ≡ s.opened - 1 = omega arith in
        record {
          stack = closed b.stack;
          most = omega (arith, b.most);
          holds = holds-closed b.stack array s.opened b.fits.0 b.holds;
          below = below-closed b.stack s.next b.below;
          fits = rw e at b.fits.1;
          counted = omega (arith, b.counted);
          made = rw ended-made at b.made;
          rest = finished-rest;
          sized = finished-size;
          long = b.long;
        }

    end-room : Room ends s array index
    unfolding Room FitsRow
    end-room = (b.fits.0, b.most, omega (arith, end-top, next_le))

  unchanged : Before stays → Building goal total past size rows (progress_behind stays s) (stack_behind stays s array) (index_behind stays n s array index)
  unfolding progress_behind stack_behind index_behind FitsRow open_count one_if_begins open_behind made_behind
  unchanged b = record {
    stack = b.stack;
    most = b.most;
    holds = b.holds;
    below = b.below;
    fits = b.fits.1;
    counted = omega (arith, b.counted);
    made = b.made;
    rest = b.rest;
    sized = b.sized;
    long = b.long;
  }

  pub next_row : (c : Change) → Before c → Building goal total past size rows (progress_behind c s) (stack_behind c s array) (index_behind c n s array index)
  next_row begins b = begun b
  next_row ends b = finished b
  next_row stays b = unchanged b

  pub room : (c : Change) → Before c → Room c s array index
  unfolding Room
  room begins b = begin-room b
  room ends b = end-room b
  room stays b = tt

  -- the first of the rows that are left
  pub at_row : (t : Token) (c : Change) → c ≡ change_of t → Building goal total past size ((n, t) ∷ rows) s array index → Before c
  unfolding Fits starts index_scan
  at_row t c e b = record {
    stack = b.stack;
    most = b.most;
    holds = b.holds;
    below = b.below;
    fits = rw e b.fits;
    counted = rw e b.counted;
    made = rw e b.made;
    rest = b.rest;
    sized = b.sized;
    long = b.long;
  }

-- behind the last row
pub all-built : (goal : List ℕ) (total : ℕ) (past : List ℕ) (size : ℕ) (s : Progress) (array index : List ℕ) → Building goal total past size [] s array index → index ≡ goal ++ past
unfolding starts index_scan
all-built goal total past size s array index b =
    let e : s.next ≡ 3 * total = omega (arith, b.counted) in
    rw (← b.made, ← b.rest, e) (sym (take-append-drop (3 * total) index))

-- before the first
pub none-built : (total : ℕ) (size : ℕ) (rows : List Row) (s : Progress) (array index : List ℕ) → s.opened ≡ 0 → s.next ≡ 0 → total ≡ starts rows → size ≡ length index → length array ≡ 64 → Fits 0 rows
    → Building (index_scan rows [] []) total (drop (3 * total) index) size rows s array index
unfolding Holds Below
none-built total size rows s array index o z e f g h = record {
  stack = [];
  most = omega arith;
  holds = o;
  below = tt;
  fits = rw o h;
  counted = omega arith;
  made = rw z refl;
  rest = refl;
  sized = sym f;
  long = g;
}
