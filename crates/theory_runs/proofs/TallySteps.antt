-- A tally that tells of some addresses, and one address more.
use mathlib.Core.Path.{◌≡◌, ◌∙◌, refl, sym, ap}
use mathlib.Core.Bool.{Bool, true, false}
use mathlib.Core.List.{List, [], ◌∷◌, ◌++◌}
use mathlib.Core.Logic.{◌⊎◌, inl, inr}
use Prim.Native.Nat.{ℕ, zero, suc, ◌+◌, ◌*◌, ◌%◌, ◌≤◌, ◌<◌}
use native.Mathlib.Omega.{arith}
use native.Mathlib.Decide.{ℕ_discrete, dec_lt}
use borrow.Author.Tests.{lt-ltb, le-ltb, eq-eqb, ne_eqb}
use lib.ListN.{length, get_or, set, length-append, length-set, get_or-append}
use lib.Seq.{get_or-append_seam, get_or-set_same, get_or-set_other}
use Rattle.field.specs.Modulus.{P}
use Rattle.field.specs.Cells.{cell_at}
use Rattle.rows.specs.ways.Order.{hit, occurrences}
use Rattle.rows.specs.cycles.LentTally.{count_in, is_free, is_of, first_from, first, place_for, counted_at, cannot_count}
use Rattle.rows.proofs.records.Occurrences.{hit_same, hit_other, occurrences-append}
use Rattle.rows.proofs.cycles.Tallying.{place-in-use, place-free, place-left}
use Rattle.theory_runs.specs.LiveCalls.{Zeros}
use Rattle.theory_runs.specs.TallyClaims.{with_new, once_from, once_each, Tells, tallied_at}

-- THE FIRST PLACE

first-or : (test : ℕ → Bool) (i from n : ℕ) → Dec (from ≡ i) → test i ≡ true → ((from ≡ i → ⊥) → test from ≡ false) → ((from ≡ i → ⊥) → first_from test (suc from) n ≡ i) → first_from test from (suc n) ≡ i
unfolding first_from
first-or test i from n (yes e) here other later = let h : test from ≡ true = ap test e ∙ here in rw h e
first-or test i from n (no d) here other later = rw (other d) (later d)

first-is : (test : ℕ → Bool) (i from n : ℕ) → ((j : ℕ) → j < i → test j ≡ false) → test i ≡ true → from ≤ i → i < from + n → first_from test from n ≡ i
first-is test i from zero none here l h = absurd (omega arith)
first-is test i from (suc n) none here l h =
    first-or test i from n (ℕ_discrete from i) here (λ d. none from (omega arith)) (λ d. first-is test i (suc from) n none here (omega arith) (omega arith))

-- none before i: from i on, or all n
first_past : (test : ℕ → Bool) (i from n : ℕ) → ((j : ℕ) → j < i → test j ≡ false) → from + n ≤ i → first_from test from n ≡ from + n
unfolding first_from
first_past test i from zero none h = omega arith
first_past test i from (suc n) none h = rw (none from (omega arith)) (first_past test i (suc from) n none (omega arith) ∙ omega arith)

-- AN ADDRESS AMONG OTHERS

abbrev In : List ℕ → ℕ → Type 0
In l x = (i : ℕ) × (i < length l) × (get_or l i 0 ≡ x)

abbrev NotIn : List ℕ → ℕ → Type 0
NotIn l x = (i : ℕ) → i < length l → get_or l i 0 ≡ x → ⊥

not-cons : (y : ℕ) (l : List ℕ) (x : ℕ) → (y ≡ x → ⊥) → NotIn l x → NotIn (y ∷ l) x
not-cons y l x d n zero h e = d e
not-cons y l x d n (suc i) h e = n i (omega arith) e

find-cons : (y : ℕ) (l : List ℕ) (x : ℕ) → Dec (y ≡ x) → In l x ⊎ NotIn l x → In (y ∷ l) x ⊎ NotIn (y ∷ l) x
find-cons y l x (yes e) found = inl (0, omega arith, e)
find-cons y l x (no d) (inl (i, h, e)) = inl (suc i, omega arith, e)
find-cons y l x (no d) (inr n) = inr (not-cons y l x d n)

find : (l : List ℕ) (x : ℕ) → In l x ⊎ NotIn l x
find [] x = inr (λ i h e. omega arith)
find (y ∷ l) x = find-cons y l x (ℕ_discrete y x) (find l x)

occurs : (l : List ℕ) (x i : ℕ) → i < length l → get_or l i 0 ≡ x → 0 < occurrences x l
unfolding occurrences
occurs [] x i h e = absurd (omega arith)
occurs (y ∷ l) x zero h e = omega (arith, hit_same y x e)
occurs (y ∷ l) x (suc i) h e = omega (arith, occurs l x i (omega arith) e)

occurs-not : (l : List ℕ) (x : ℕ) → NotIn l x → occurrences x l ≡ 0
unfolding occurrences
occurs-not [] x n = refl
occurs-not (y ∷ l) x n = omega (arith, hit_other y x (n 0 (omega arith)), occurs-not l x (λ i h e. n (suc i) (omega arith) e))

once-snoc : (seen addrs : List ℕ) (x : ℕ) → once_from seen (addrs ++ (x ∷ [])) ≡ with_new (once_from seen addrs) x
unfolding once_from
once-snoc seen [] x = refl
once-snoc seen (y ∷ addrs) x = once-snoc (with_new seen y) addrs x

occurs-snoc : (y x : ℕ) (addrs : List ℕ) → occurrences y (addrs ++ (x ∷ [])) ≡ occurrences y addrs + hit x y
unfolding occurrences
occurs-snoc y x addrs = omega (arith, occurrences-append y addrs (x ∷ []))

-- A TALLY AND THE ADDRESSES THAT IT HOLDS

-- the addresses l, each once, are those of addrs, and the tally has them with their numbers
pub record Standing (l addrs tally : List ℕ) : Type 0 where
  pub apart : (j k : ℕ) → j < length l → k < length l → get_or l j 0 ≡ get_or l k 0 → j ≡ k
  pub from : (k : ℕ) → k < length l → 0 < occurrences (get_or l k 0) addrs
  pub all : (x : ℕ) → NotIn l x → occurrences x addrs ≡ 0
  pub cells : (k : ℕ) → k < length l → get_or l k 0 % P ≡ get_or l k 0
  pub few : length l ≤ 256
  pub address : (k : ℕ) → k < length l → get_or tally (2 * k) 0 ≡ get_or l k 0
  pub number : (k : ℕ) → k < length l → get_or tally (2 * k + 1) 0 ≡ occurrences (get_or l k 0) addrs
  pub zeros : (i : ℕ) → 2 * length l ≤ i → i < 512 → get_or tally i 0 ≡ 0

-- a tally of zeros
pub standing-none : (tally : List ℕ) → Zeros tally → Standing [] [] tally
unfolding occurrences
standing-none tally zeros = record {
  apart = λ j k h i e. absurd (omega arith);
  from = λ k h. absurd (omega arith);
  all = λ x n. refl;
  cells = λ k h. absurd (omega arith);
  few = omega arith;
  address = λ k h. absurd (omega arith);
  number = λ k h. absurd (omega arith);
  zeros = λ i h. zeros i;
}

pub standing-tells : (addrs tally : List ℕ) → Standing (once_each addrs) addrs tally → Tells addrs tally
standing-tells addrs tally s = record { few = s.few; address = s.address; number = s.number; zeros = s.zeros }

module _ (l addrs tally : List ℕ) (s : Standing l addrs tally) where
  in_use : (k : ℕ) → k < length l → is_free tally k ≡ false
  unfolding is_free
  in_use k h = ne_eqb (count_in tally k) 0 (λ e. omega (arith, s.number k h, s.from k h))

  free-behind : (k : ℕ) → length l ≤ k → k < 256 → is_free tally k ≡ true
  unfolding is_free
  free-behind k h g = eq-eqb (count_in tally k) 0 (s.zeros (2 * k + 1) (omega arith) (omega arith))

  cell-is : (k : ℕ) → k < length l → cell_at tally (2 * k) ≡ get_or l k 0
  unfolding cell_at
  cell-is k h = ap (λ y. y % P) (s.address k h) ∙ s.cells k h

  of-here : (x k : ℕ) → k < length l → get_or l k 0 ≡ x → is_of tally x k ≡ true
  unfolding is_of
  of-here x k h e = rw (in_use k h, eq-eqb (cell_at tally (2 * k)) x (cell-is k h ∙ e))

  of_other : (x k : ℕ) → k < length l → (get_or l k 0 ≡ x → ⊥) → is_of tally x k ≡ false
  unfolding is_of
  of_other x k h d = rw (in_use k h, ne_eqb (cell_at tally (2 * k)) x (λ e. d (sym (cell-is k h) ∙ e)))

  of-behind : (x k : ℕ) → length l ≤ k → k < 256 → is_of tally x k ≡ false
  unfolding is_of
  of-behind x k h g = rw (free-behind k h g)

  -- AN ADDRESS THAT HAS A PLACE

  module _ (x i : ℕ) (h : i < length l) (e : get_or l i 0 ≡ x) where
    first_of : first (is_of tally x) ≡ i
    first_of =
        first-is (is_of tally x) i 0 256 (λ j k. of_other x j (omega arith) (λ d. omega (arith, s.apart j i (omega arith) h (d ∙ sym e)))) (of-here x i h e) (omega arith) (omega (arith, s.few))

    there-tallied : tallied_at x tally ≡ occurrences x addrs
    unfolding tallied_at
    there-tallied = rw (first_of, lt-ltb i 256 (omega (arith, s.few))) (s.number i h ∙ ap (λ y. occurrences y addrs) e)

    there-place : place_for tally x ≡ i
    there-place = place-in-use tally x i first_of (omega (arith, s.few))

    there-seen : with_new l x ≡ l
    unfolding with_new
    there-seen = rw (lt-ltb 0 (occurrences x l) (occurs l x i h e))

    abbrev raised : List ℕ
    raised = set tally (2 * i + 1) (count_in tally i + 1)

    there-counted : counted_at tally x i ≡ raised
    unfolding counted_at
    there-counted = rw (in_use i h)

    raised-number : 512 ≤ length tally → (k : ℕ) → k < length l → Dec (k ≡ i) → get_or raised (2 * k + 1) 0 ≡ occurrences (get_or l k 0) (addrs ++ (x ∷ []))
    raised-number long k g (yes d) =
        rw (d, get_or-set_same tally (2 * i + 1) (count_in tally i + 1) 0 (omega (arith, s.few)))
        (omega (arith, s.number i h, occurs-snoc (get_or l i 0) x addrs, hit_same x (get_or l i 0) (sym e)))
    raised-number long k g (no d) =
        get_or-set_other tally (2 * i + 1) (2 * k + 1) (count_in tally i + 1) 0 (λ y. d (omega arith))
        ∙ omega (arith, s.number k g, occurs-snoc (get_or l k 0) x addrs, hit_other x (get_or l k 0) (λ y. d (s.apart k i g h (sym y ∙ sym e))))

    there-stands : 512 ≤ length tally → Standing l (addrs ++ (x ∷ [])) raised
    there-stands long = record {
      apart = s.apart;
      from = λ k g. omega (arith, s.from k g, occurs-snoc (get_or l k 0) x addrs);
      all = λ y n. omega (arith, s.all y n, occurs-snoc y x addrs, hit_other x y (λ d. n i h (e ∙ d)));
      cells = s.cells;
      few = s.few;
      address = λ k g. get_or-set_other tally (2 * i + 1) (2 * k) (count_in tally i + 1) 0 (λ y. omega arith) ∙ s.address k g;
      number = λ k g. raised-number long k g (ℕ_discrete k i);
      zeros = λ j g m. get_or-set_other tally (2 * i + 1) j (count_in tally i + 1) 0 (λ y. omega arith) ∙ s.zeros j g m;
    }

  -- A NEW ADDRESS

  module _ (x : ℕ) (new : NotIn l x) where
    of_none : (k : ℕ) → k < 256 → Dec (k < length l) → is_of tally x k ≡ false
    of_none k g (yes h) = of_other x k h (new k h)
    of_none k g (no d) = of-behind x k (omega arith) g

    none_of : first (is_of tally x) ≡ 256
    none_of = first_past (is_of tally x) 256 0 256 (λ k g. of_none k g (dec_lt k (length l))) (omega arith) ∙ omega arith

    none-tallied : tallied_at x tally ≡ occurrences x addrs
    unfolding tallied_at
    none-tallied = rw (none_of, s.all x new)

    new-place : place_for tally x ≡ first (is_free tally)
    new-place = place-free tally x none_of

    new-seen : with_new l x ≡ l ++ (x ∷ [])
    unfolding with_new
    new-seen = rw (le-ltb 0 (occurrences x l) (omega (arith, occurs-not l x new)))

    -- there is room for it
    new-room : cannot_count tally (place_for tally x) ≡ false → Dec (length l < 256) → length l < 256
    new-room left (yes h) = h
    new-room left (no d) =
        let full : first (is_free tally) ≡ 0 + 256 = first_past (is_free tally) (length l) 0 256 (λ j g. in_use j g) (omega arith) in
        absurd (omega (arith, (place-left tally (place_for tally x) left).0, new-place, full))

    module _ (room : length l < 256) where
      first-free : first (is_free tally) ≡ length l
      first-free = first-is (is_free tally) (length l) 0 256 (λ j g. in_use j g) (free-behind (length l) (omega arith) room) (omega arith) (omega arith)

      abbrev taken : List ℕ
      taken = set (set tally (2 * length l) x) (2 * length l + 1) 1

      new-counted : counted_at tally x (length l) ≡ taken
      unfolding counted_at
      new-counted = rw (free-behind (length l) (omega arith) room)

      module _ (long : 512 ≤ length tally) (cell : x % P ≡ x) where
        kept_at : (j : ℕ) → (j ≡ 2 * length l → ⊥) → (j ≡ 2 * length l + 1 → ⊥) → get_or taken j 0 ≡ get_or tally j 0
        kept_at j a b = get_or-set_other (set tally (2 * length l) x) (2 * length l + 1) j 1 0 b ∙ get_or-set_other tally (2 * length l) j x 0 a

        -- what is so of the addresses before and of the new one is so of all
        each : (Q : ℕ → ℕ → Type 0) → ((k : ℕ) → k < length l → Q k (get_or l k 0)) → Q (length l) x → (k : ℕ) → k < length (l ++ (x ∷ [])) → Dec (k < length l) → Q k (get_or (l ++ (x ∷ [])) k 0)
        each Q old last k h (yes g) = rw (get_or-append l (x ∷ []) 0 k g) (old k g)
        each Q old last k h (no d) =
            let at : k ≡ length l = omega (arith, length-append l (x ∷ [])) in
            rw (at, get_or-append_seam l x [] 0) last

        each-one : (Q : ℕ → ℕ → Type 0) → ((k : ℕ) → k < length l → Q k (get_or l k 0)) → Q (length l) x → (k : ℕ) → k < length (l ++ (x ∷ [])) → Q k (get_or (l ++ (x ∷ [])) k 0)
        each-one Q old last k h = each Q old last k h (dec_lt k (length l))

        not-before : (y : ℕ) → NotIn (l ++ (x ∷ [])) y → NotIn l y
        not-before y n k g e = n k (omega (arith, length-append l (x ∷ []))) (get_or-append l (x ∷ []) 0 k g ∙ e)

        not_last : (y : ℕ) → NotIn (l ++ (x ∷ [])) y → x ≡ y → ⊥
        not_last y n e = n (length l) (omega (arith, length-append l (x ∷ []))) (get_or-append_seam l x [] 0 ∙ e)

        new-stands : Standing (l ++ (x ∷ [])) (addrs ++ (x ∷ [])) taken
        new-stands = record {
          apart = λ j k g h.
              each-one (λ a v. v ≡ get_or (l ++ (x ∷ [])) k 0 → a ≡ k)
              (λ a i. each-one (λ b w. get_or l a 0 ≡ w → a ≡ b) (λ b m. s.apart a b i m) (λ e. absurd (new a i e)) k h)
              (each-one (λ b w. x ≡ w → length l ≡ b) (λ b m e. absurd (new b m (sym e))) (λ e. refl) k h)
              j g;
          from = each-one (λ k v. 0 < occurrences v (addrs ++ (x ∷ [])))
              (λ k h. omega (arith, s.from k h, occurs-snoc (get_or l k 0) x addrs))
              (omega (arith, occurs-snoc x x addrs, hit_same x x refl));
          all = λ y n. omega (arith, s.all y (not-before y n), occurs-snoc y x addrs, hit_other x y (not_last y n));
          cells = each-one (λ k v. v % P ≡ v) s.cells cell;
          few = omega (arith, length-append l (x ∷ []));
          address = each-one (λ k v. get_or taken (2 * k) 0 ≡ v)
              (λ k h. kept_at (2 * k) (λ e. omega arith) (λ e. omega arith) ∙ s.address k h)
              (get_or-set_other (set tally (2 * length l) x) (2 * length l + 1) (2 * length l) 1 0 (λ e. omega arith) ∙ get_or-set_same tally (2 * length l) x 0 (omega arith));
          number = each-one (λ k v. get_or taken (2 * k + 1) 0 ≡ occurrences v (addrs ++ (x ∷ [])))
              (λ k h. kept_at (2 * k + 1) (λ e. omega arith) (λ e. omega arith) ∙ omega (arith, s.number k h, occurs-snoc (get_or l k 0) x addrs, hit_other x (get_or l k 0) (λ e. new k h (sym e))))
              (get_or-set_same (set tally (2 * length l) x) (2 * length l + 1) 1 0 (rw (length-set tally (2 * length l) x) (omega arith)) ∙ omega (arith, occurs-snoc x x addrs, hit_same x x refl, s.all x new));
          zeros = λ i h m. kept_at i (λ e. omega (arith, length-append l (x ∷ []))) (λ e. omega (arith, length-append l (x ∷ []))) ∙ s.zeros i (omega (arith, length-append l (x ∷ []))) m;
        }

  -- ONE ADDRESS MORE

  step : (x : ℕ) → 512 ≤ length tally → x % P ≡ x → cannot_count tally (place_for tally x) ≡ false → In l x ⊎ NotIn l x →
      Standing (with_new l x) (addrs ++ (x ∷ [])) (counted_at tally x (place_for tally x))
  step x long cell left (inl (i, h, e)) = rw (there-place x i h e, there-seen x i h e, there-counted x i h e) (there-stands x i h e long)
  step x long cell left (inr new) =
      let room = new-room x new left (dec_lt (length l) 256) in
      let at : place_for tally x ≡ length l = new-place x new ∙ first-free x new room in
      rw (at, new-seen x new, new-counted x new room) (new-stands x new room long cell)

  pub standing-more : (x : ℕ) → 512 ≤ length tally → x % P ≡ x → cannot_count tally (place_for tally x) ≡ false → Standing (with_new l x) (addrs ++ (x ∷ [])) (counted_at tally x (place_for tally x))
  standing-more x long cell left = step x long cell left (find l x)

  told : (x : ℕ) → In l x ⊎ NotIn l x → tallied_at x tally ≡ occurrences x addrs
  told x (inl (i, h, e)) = there-tallied x i h e
  told x (inr new) = none-tallied x new

  -- the count of an address is its number
  pub standing-count : (x : ℕ) → tallied_at x tally ≡ occurrences x addrs
  standing-count x = told x (find l x)

-- the same with each address once
pub standing-once : (addrs tally : List ℕ) (x : ℕ) → Standing (once_each addrs) addrs tally → 512 ≤ length tally → x % P ≡ x → cannot_count tally (place_for tally x) ≡ false →
    Standing (once_each (addrs ++ (x ∷ []))) (addrs ++ (x ∷ [])) (counted_at tally x (place_for tally x))
standing-once addrs tally x s long cell left = rw (once-snoc [] addrs x) (standing-more (once_each addrs) addrs tally s x long cell left)
