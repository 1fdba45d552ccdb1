-- Laws of digits that a text begins with.
use mathlib.Core.Path.{◌≡◌, ◌∙◌, refl, sym, ap}
use mathlib.Core.Bool.{Bool, true, false, not, ◌||◌}
use mathlib.Core.List.{List, [], ◌∷◌, ◌++◌}
use Prim.Native.Nat.{ℕ, zero, suc, ◌+◌, ◌-◌, ◌*◌, ◌/◌, ◌%◌, ◌^◌, ◌≤◌, ◌<◌}
use native.Mathlib.Nat.{pow-le-pow_right, pow-succ', pow-zero, mul-le-mul_left}
use native.Mathlib.Omega.{arith}
use borrow.Author.Tests.{eqb-true, eqb-false, le-ltb, lt-ltb, ltb-true, ltb-false}
use lib.Dec.{eqb, ltb}
use lib.ListN.{length, get_or, drop, take, length-append, drop_of_length-le}
use lib.Seq.{drop-cons, take_at, length-take-le}
use Rattle.std.proofs.lemmas.List.{take_all}
use Rattle.groups.specs.Answer.{pick}
use Rattle.rows.proofs.passes.Checks.{neither}
use Rattle.theory_dumps.specs.Numerals.{decimal, numeral_within}
use Rattle.theory_dumps.specs.ways.Spelled.{spelled, plain}
use Rattle.theory_dumps.specs.ways.Undump.{bits_in}
use Rattle.theory_dumps.proofs.NumeralLaws.{Digits, one-digit, last-digit, fewer_digits}
use Rattle.dump.specs.ways.Scanning.{DigitsRead, digits_in}

-- a byte that is a digit, or none
abbrev pub no_digit : (base d : ℕ) → Bool
no_digit base d = ltb d 48 || ltb (47 + base) d

pub is_digit : (base d : ℕ) → no_digit base d ≡ false → (48 ≤ d) × (d < 48 + base)
is_digit base d e = let (a, b) = neither (ltb d 48) (ltb (47 + base) d) e in (ltb-false d 48 a, omega (arith, ltb-false (47 + base) d b))

-- a byte less the byte of 0, as it wraps round below it
module _ (base byte digit : ℕ) (b : base ≤ 10) (small : byte < 256) (w : digit ≡ (byte + (256 - 48)) % 256) where
  pub digit-none : base ≤ digit → no_digit base byte ≡ true
  digit-none h = go (ltb byte 48) (ltb (47 + base) byte) refl refl
    where
      go : (t u : Bool) → ltb byte 48 ≡ t → ltb (47 + base) byte ≡ u → (t || u) ≡ true
      go true u e f = refl
      go false true e f = refl
      go false false e f =
          let l : 48 ≤ byte = ltb-false byte 48 e in
          let m : byte ≤ 47 + base = ltb-false (47 + base) byte f in
          absurd (omega arith)

  pub digit-some : digit < base → (no_digit base byte ≡ false) × (digit ≡ byte - 48)
  digit-some h =
      let l : 48 ≤ byte = omega arith in
      let m : byte ≤ 47 + base = omega arith in
      (rw (le-ltb byte 48 l, le-ltb (47 + base) byte m), omega arith)

-- they are digits, and stand in front
module _ (base : ℕ) where
  pub digits_are : (text : List ℕ) → Digits base (digits_in base text)
  unfolding digits_in Digits
  digits_are [] = tt
  digits_are (d ∷ text) = go (no_digit base d) refl (digits_are text)
    where
      go : (t : Bool) → no_digit base d ≡ t → Digits base (digits_in base text) → Digits base (pick t [] (d ∷ digits_in base text))
      go true e more = tt
      go false e more = let (a, b) = is_digit base d e in (a, b, more)

  pub digits-front : (text : List ℕ) → digits_in base text ++ drop (length (digits_in base text)) text ≡ text
  unfolding digits_in
  digits-front [] = refl
  digits-front (d ∷ text) = go (no_digit base d) (digits-front text)
    where
      go : (t : Bool) → digits_in base text ++ drop (length (digits_in base text)) text ≡ text → pick t [] (d ∷ digits_in base text) ++ drop (length (pick t [] (d ∷ digits_in base text))) (d ∷ text) ≡ d ∷ text
      go true e = refl
      go false e = ap (λ (l : List ℕ). d ∷ l) e

  -- digits end where a byte before them follows
  pub digits-end : (digits : List ℕ) (byte : ℕ) (rest : List ℕ) → byte < 48 → Digits base digits → digits_in base (digits ++ (byte ∷ rest)) ≡ digits
  unfolding digits_in Digits
  digits-end [] byte rest l h = rw (lt-ltb byte 48 l) refl
  digits-end (d ∷ digits) byte rest l h = rw (le-ltb d 48 h.0, le-ltb (47 + base) d (omega (arith, h.1))) (ap (λ (l : List ℕ). d ∷ l) (digits-end digits byte rest l h.2))

-- the binary digits
pub bits-are : (text : List ℕ) → bits_in text ≡ digits_in 2 text
unfolding bits_in digits_in
bits-are [] = refl
bits-are (d ∷ text) = go (eqb d 48) (eqb d 49) (ltb d 48) (ltb 49 d) refl refl refl refl (bits-are text)
  where
    go : (t u v w : Bool) → eqb d 48 ≡ t → eqb d 49 ≡ u → ltb d 48 ≡ v → ltb 49 d ≡ w → bits_in text ≡ digits_in 2 text
        → pick t (d ∷ bits_in text) (pick u (d ∷ bits_in text) []) ≡ pick (v || w) [] (d ∷ digits_in 2 text)
    go true u true w e f g h more = absurd (omega (arith, eqb-true d 48 e, ltb-true d 48 g))
    go true u false true e f g h more = absurd (omega (arith, eqb-true d 48 e, ltb-true 49 d h))
    go true u false false e f g h more = ap (λ (l : List ℕ). d ∷ l) more
    go false true true w e f g h more = absurd (omega (arith, eqb-true d 49 f, ltb-true d 48 g))
    go false true false true e f g h more = absurd (omega (arith, eqb-true d 49 f, ltb-true 49 d h))
    go false true false false e f g h more = ap (λ (l : List ℕ). d ∷ l) more
    go false false true w e f g h more = refl
    go false false false true e f g h more = refl
    go false false false false e f g h more =
        let a : ¬ (d ≡ 48) = eqb-false d 48 e in
        let b : ¬ (d ≡ 49) = eqb-false d 49 f in
        let l : 48 ≤ d = ltb-false d 48 g in
        let m : d ≤ 49 = ltb-false 49 d h in
        absurd (a (omega (arith, λ (z : d ≡ 49). b z)))

pub taken : (digits text : List ℕ) (count : ℕ) → digits ++ drop (length digits) text ≡ text → count ≡ length digits → take count text ≡ digits
taken digits text count e h = ap (take count) (sym e) ∙ take_at digits (drop (length digits) text) count (sym h)

pub fits : (digits text : List ℕ) → digits ++ drop (length digits) text ≡ text → length digits ≤ length text
fits digits text e = omega (arith, ap (λ (l : List ℕ). length l) e, length-append digits (drop (length digits) text))

pub digits-within : (base : ℕ) (text : List ℕ) → length (digits_in base text) ≤ length text
digits-within base text = fits (digits_in base text) text (digits-front base text)

-- the digits that the first bytes of a text begin with
pub digits-take : (base n : ℕ) (text : List ℕ) → digits_in base (take n text) ≡ take n (digits_in base text)
unfolding digits_in
digits-take base zero [] = refl
digits-take base zero (d ∷ text) = refl
digits-take base (suc n) [] = refl
digits-take base (suc n) (d ∷ text) = go (no_digit base d) (digits-take base n text)
  where
    go : (t : Bool) → digits_in base (take n text) ≡ take n (digits_in base text) → pick t [] (d ∷ digits_in base (take n text)) ≡ take (suc n) (pick t [] (d ∷ digits_in base text))
    go true e = refl
    go false e = ap (λ (l : List ℕ). d ∷ l) e

-- digits of the first bytes of a text: nine bytes, or all where there are fewer
module _ (text : List ℕ) (looked count value : ℕ) (all : looked ≤ 8 → length text ≤ looked) (d : DigitsRead 10 (digits_in 10 (take looked text)) count value) where
  looked-count : count ≡ length (take looked (digits_in 10 text))
  looked-count = d.is_count ∙ ap (λ (l : List ℕ). length l) (digits-take 10 looked text)

  whole-digits : length (digits_in 10 text) ≤ looked → take looked (digits_in 10 text) ≡ digits_in 10 text
  whole-digits h = take_all looked (digits_in 10 text) h

  pub looked-many : 8 < count → 8 < length (digits_in 10 text)
  looked-many m = go (ltb looked (length (digits_in 10 text))) refl
    where
      go : (t : Bool) → ltb looked (length (digits_in 10 text)) ≡ t → 8 < length (digits_in 10 text)
      go true e = let l : looked < length (digits_in 10 text) = ltb-true looked _ e in omega (arith, looked-count, length-take-le looked (digits_in 10 text) (omega (arith, l)))
      go false e = let l : length (digits_in 10 text) ≤ looked = ltb-false looked _ e in omega (arith, looked-count, ap (λ (l : List ℕ). length l) (whole-digits l))

  pub looked-few : count ≤ 8 → DigitsRead 10 (digits_in 10 text) count value
  looked-few m = go (ltb looked (length (digits_in 10 text))) refl
    where
      go : (t : Bool) → ltb looked (length (digits_in 10 text)) ≡ t → DigitsRead 10 (digits_in 10 text) count value
      go true e =
          let l : looked < length (digits_in 10 text) = ltb-true looked _ e in
          let n : count ≡ looked = looked-count ∙ length-take-le looked (digits_in 10 text) (omega (arith, l)) in
          let w : length text ≤ looked = all (omega (arith, n, m)) in
          absurd (omega (arith, w, l, digits-within 10 text))
      go false e =
          let l : length (digits_in 10 text) ≤ looked = ltb-false looked _ e in
          rw (digits-take 10 looked text, whole-digits l) at d

-- SCANNING THEM

pub record DigitsTo (base : ℕ) (text : List ℕ) (count value : ℕ) : Type 0 where
  pub within : count ≤ length text
  pub long : length (digits_in base text) ≡ count + length (digits_in base (drop count text))
  pub small : base ^ count ≤ 2 ^ 64 → value < base ^ count
  pub number : base ^ count ≤ 2 ^ 64 → spelled base 0 (digits_in base text) ≡ spelled base value (digits_in base (drop count text))

pub digits-none : (base : ℕ) (text : List ℕ) → DigitsTo base text 0 0
digits-none base text = record { within = omega arith; long = omega arith; small = λ z. rw (pow-zero base) (omega arith); number = λ z. refl }

digits-stop : (base d : ℕ) (text : List ℕ) → no_digit base d ≡ true → digits_in base (d ∷ text) ≡ []
unfolding digits_in
digits-stop base d text e = rw e

digits_more : (base d : ℕ) (text : List ℕ) → no_digit base d ≡ false → digits_in base (d ∷ text) ≡ d ∷ digits_in base text
unfolding digits_in
digits_more base d text e = rw e

spelled-next : (base value d : ℕ) (digits : List ℕ) → spelled base value (d ∷ digits) ≡ spelled base (value * base + (d - 48)) digits
unfolding spelled
spelled-next base value d digits = refl

spelled_none : (base value : ℕ) → spelled base value [] ≡ value
unfolding spelled
spelled_none base value = refl

below_next : (base power value digit : ℕ) → value < power → digit < base → value * base + digit < base * power
below_next base power value digit h l =
    let m : base * (value + 1) ≤ base * power = mul-le-mul_left base (omega arith) in
    omega arith

module _ (base : ℕ) (text : List ℕ) (count value : ℕ) (s : DigitsTo base text count value) where
  all_read : digits_in base (drop count text) ≡ [] → DigitsRead base (digits_in base text) count value
  all_read e =
      let f : length (digits_in base (drop count text)) ≡ 0 = ap (λ (l : List ℕ). length l) e in
      record {
        is_count = omega (arith, s.long);
        is_value = λ z. sym (s.number z ∙ ap (spelled base value) e ∙ spelled_none base value);
      }

  pub read-end : length text ≤ count → DigitsRead base (digits_in base text) count value
  read-end h = all_read (rw (drop_of_length-le text {i = count} h) (unfold digits_in in refl))

  module _ (h : count < length text) where
    pub read-stop : no_digit base (get_or text count 0) ≡ true → DigitsRead base (digits_in base text) count value
    read-stop e = all_read (ap (digits_in base) (drop-cons text count 0 h) ∙ digits-stop base (get_or text count 0) (drop (suc count) text) e)

    module _ (b : 1 < base) (e : no_digit base (get_or text count 0) ≡ false) where
      next : digits_in base (drop count text) ≡ get_or text count 0 ∷ digits_in base (drop (suc count) text)
      next = ap (digits_in base) (drop-cons text count 0 h) ∙ digits_more base (get_or text count 0) (drop (suc count) text) e

      abbrev sum : ℕ
      sum = value * base + (get_or text count 0 - 48)

      -- where 64 bits hold one more digit, they hold those before, and the sum
      held : base ^ suc count ≤ 2 ^ 64 → base ^ count ≤ 2 ^ 64
      held z =
          let m : base ^ count ≤ base ^ suc count = pow-le-pow_right {n = base} (omega arith) {i = count} {j = suc count} (omega arith) in
          omega arith

      below : base ^ suc count ≤ 2 ^ 64 → sum < base ^ suc count
      below z =
          let d = is_digit base (get_or text count 0) e in
          rw (pow-succ' base count) (below_next base (base ^ count) value (get_or text count 0 - 48) (s.small (held z)) (omega (arith, d.0, d.1)))

      pub read_more : (more : ℕ) → (sum < 2 ^ 64 → more ≡ sum) → DigitsTo base text (suc count) more
      read_more more w =
          record {
            within = h;
            long = omega (arith, s.long, ap (λ (l : List ℕ). length l) next);
            small = λ z. (let l = below z in rw (w (omega arith)) l);
            number = λ z. (
                let l = below z in
                s.number (held z) ∙ ap (spelled base value) next ∙ spelled-next base value (get_or text count 0) (digits_in base (drop (suc count) text))
                ∙ ap (λ (n : ℕ). spelled base n (digits_in base (drop (suc count) text))) (sym (w (omega arith)))
                );
          }

-- DECIMAL DIGITS

few-below : (m k n : ℕ) → n < 10 ^ suc k → length (numeral_within 10 m n) ≤ suc k
unfolding numeral_within
few-below zero k n h = omega arith
few-below (suc m) k n h = go k (ltb n 10) refl h (λ k'. few-below m k' (n / 10))
  where
    go : (k : ℕ) (t : Bool) → ltb n 10 ≡ t → n < 10 ^ suc k → ((k' : ℕ) → n / 10 < 10 ^ suc k' → length (numeral_within 10 m (n / 10)) ≤ suc k') → length (numeral_within 10 (suc m) n) ≤ suc k
    go k true e h more = rw (one-digit 10 m n (ltb-true n 10 e)) (omega arith)
    go zero false e h more = absurd (omega (arith, ltb-false n 10 e))
    go (suc k) false e h more =
        let f : suc (suc k) - 1 ≡ suc k = omega arith in
        let l : n / 10 < 10 ^ suc k = rw f at (fewer_digits 10 (suc (suc k)) n (omega arith) (omega arith) h) in
        rw (last-digit 10 m n (ltb-false n 10 e)) (omega (arith, length-append (numeral_within 10 m (n / 10)) ((48 + n % 10) ∷ []), more k l))

-- the number of a row has at most 8 of them
pub row-digits : (row : ℕ) → row ≤ 16777216 → length (decimal row) ≤ 8
row-digits row h = few-below 20 7 row (omega arith)

-- WITHOUT LEADING ZEROS

pub plain-none : (digits : List ℕ) → length digits ≡ 0 → false ≡ plain digits
unfolding plain
plain-none [] e = refl
plain-none (d ∷ digits) e = absurd (omega arith)

pub plain-one : (digits : List ℕ) → length digits ≡ 1 → true ≡ plain digits
unfolding plain
plain-one [] e = absurd (omega arith)
plain-one (d ∷ []) e = refl
plain-one (d ∷ later ∷ digits) e = absurd (omega arith)

pub plain_more : (digits : List ℕ) → 2 ≤ length digits → not (eqb (get_or digits 0 0) 48) ≡ plain digits
unfolding plain
plain_more [] h = absurd (omega arith)
plain_more (d ∷ []) h = absurd (omega arith)
plain_more (d ∷ later ∷ digits) h = refl
