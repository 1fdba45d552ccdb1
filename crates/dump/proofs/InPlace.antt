-- Laws of lines that are compared in place with what the writer writes.
use mathlib.Core.Path.{◌≡◌, ◌∙◌, sym, ap, ap₂}
use mathlib.Core.Bool.{true, false}
use mathlib.Core.List.{List, [], ◌∷◌, ◌++◌, append_assoc}
use mathlib.Core.Option.{Option, none, some}
use Prim.Native.Nat.{ℕ, ◌+◌, ◌^◌, ◌≤◌, ◌<◌}
use native.Mathlib.Nat.{pow-le-pow_right}
use native.Mathlib.Omega.{arith}
use lib.ListN.{length, get_or, drop, take}
use lib.Seq.{get_or-drop, drop_at, take_at}
use Rattle.field.specs.Modulus.{P}
use Rattle.theory_dumps.specs.Numerals.{binary, decimal}
use Rattle.theory_dumps.specs.ways.Spelled.{spelled, plain}
use Rattle.theory_dumps.specs.Dumps.{identifier, time_line, value_line}
use Rattle.theory_dumps.specs.ways.Undump.{behind, line_bits}
use Rattle.theory_dumps.proofs.NumeralLaws.{spells, are-digits}
use Rattle.theory_dumps.proofs.PlainDigits.{plain-is, numeral-plain}
use Rattle.theory_dumps.proofs.ReadBack.{behind-is, behind-front, line-bits}
use Rattle.dump.specs.ways.Scanning.{DigitsRead, LineOf, digits_in}
use Rattle.dump.proofs.DigitLaws.{bits-are, digits_are, digits-front, digits-end, taken, row-digits}
use Rattle.dump.proofs.LineLaws.{first, identifier-of}
use Rattle.dump.proofs.ReadLaws.{is_none, no_true}

-- a text with a first byte
first_byte : (text : List ℕ) (x : ℕ) → 0 < x → get_or text 0 0 ≡ x → text ≡ x ∷ drop 1 text
first_byte [] x p e = absurd (omega arith)
first_byte (y ∷ text) x p e = ap (λ (z : ℕ). z ∷ text) e

-- VALUE LINES

pub starts : (text : List ℕ) (column value count : ℕ) → LineOf text column value count → get_or text 0 0 ≡ 98
starts text column value count l = first column 0 text l.is_line

module _ (text : List ℕ) (column value count : ℕ) (l : LineOf text column value count) (few : count ≤ 64) (below : value < P) where
  is-front : line_bits text ++ drop count (drop 1 text) ≡ drop 1 text
  is-front = rw (bits-are (drop 1 text)) (ap (λ (n : ℕ). digits_in 2 (drop 1 text) ++ drop n (drop 1 text)) (l.is_count ∙ ap (λ (m : List ℕ). length m) (bits-are (drop 1 text))) ∙ digits-front 2 (drop 1 text))

  its-digits : take count (drop 1 text) ≡ line_bits text
  its-digits = ap (take count) (sym is-front) ∙ take_at (line_bits text) (drop count (drop 1 text)) count (sym l.is_count)

  its-identifier : get_or (drop count (drop 1 text)) 1 0 ≡ identifier column
  its-identifier =
      let i : 1 + (count + 1) ≡ 2 + length (line_bits text) = omega (arith, l.is_count) in
      get_or-drop count (drop 1 text) 1 0 ∙ get_or-drop 1 text (count + 1) 0 ∙ ap (λ (i : ℕ). get_or text i 0) i ∙ sym (identifier-of text (starts text column value count l)) ∙ l.is_line

  pub line-there : plain (take count (drop 1 text)) ≡ true → (x : ℕ) (rest : List ℕ) → drop count (drop 1 text) ≡ 32 ∷ x ∷ 10 ∷ rest → behind (value_line column value) text ≡ some rest
  unfolding value_line
  line-there p x rest e =
      let q : plain (digits_in 2 (drop 1 text)) ≡ true = rw (its-digits, bits-are (drop 1 text)) at p in
      let short : length (digits_in 2 (drop 1 text)) ≤ 64 = omega (arith, l.is_count, ap (λ (m : List ℕ). length m) (bits-are (drop 1 text))) in
      let digits : binary value ≡ line_bits text =
      ap binary (l.is_value few ∙ ap (spelled 2 0) (bits-are (drop 1 text))) ∙ plain-is 2 (omega arith) 64 (digits_in 2 (drop 1 text)) (digits_are 2 (drop 1 text)) q short ∙ sym (bits-are (drop 1 text)) in
      let same : x ≡ identifier column = sym (ap (λ (m : List ℕ). get_or m 1 0) e) ∙ its-identifier in
      let tail : drop count (drop 1 text) ≡ 32 ∷ identifier column ∷ 10 ∷ rest = e ∙ ap (λ (y : ℕ). 32 ∷ y ∷ 10 ∷ rest) same in
      let line : text ≡ value_line column value ++ rest =
      first_byte text 98 (omega arith) (starts text column value count l)
      ∙ ap (λ (m : List ℕ). 98 ∷ m) (sym is-front ∙ ap₂ (λ (y z : List ℕ). y ++ z) (sym digits) tail ∙ sym (append_assoc (binary value) (32 ∷ identifier column ∷ 10 ∷ []) rest)) in
      ap (behind (value_line column value)) line ∙ behind-front (value_line column value) rest

  pub line-written : (rest : List ℕ) → behind (value_line column value) text ≡ some rest → (plain (take count (drop 1 text)) ≡ true) × (drop count (drop 1 text) ≡ 32 ∷ identifier column ∷ 10 ∷ rest)
  unfolding value_line
  line-written rest e =
      let line : text ≡ value_line column value ++ rest = behind-is (value_line column value) text rest e in
      let bits : line_bits text ≡ binary value = ap (λ (m : List ℕ). line_bits m) line ∙ line-bits column value rest in
      let all : drop 1 text ≡ binary value ++ (32 ∷ identifier column ∷ 10 ∷ rest) = ap (drop 1) line ∙ append_assoc (binary value) (32 ∷ identifier column ∷ 10 ∷ []) rest in (
        rw (its-digits, bits) (numeral-plain 2 63 value (omega arith) (omega arith)),
        ap (drop count) all ∙ drop_at (binary value) (32 ∷ identifier column ∷ 10 ∷ rest) count (sym (l.is_count ∙ ap (λ (m : List ℕ). length m) bits)),
      )

  pub line-leading : plain (take count (drop 1 text)) ≡ false → behind (value_line column value) text ≡ none
  line-leading p = is_none (behind (value_line column value) text) (λ rest e. no_true (sym (line-written rest e).0 ∙ p))

  pub line-other : ((x : ℕ) (rest : List ℕ) → drop count (drop 1 text) ≡ 32 ∷ x ∷ 10 ∷ rest → ⊥) → behind (value_line column value) text ≡ none
  line-other h = is_none (behind (value_line column value) text) (λ rest e. h (identifier column) rest (line-written rest e).1)

-- TIME LINES

pub no_mark : (text : List ℕ) (row : ℕ) → ((numbered : List ℕ) → text ≡ 35 ∷ numbered → ⊥) → behind (time_line row) text ≡ none
unfolding time_line
no_mark text row h = is_none (behind (time_line row) text) (λ rest e. h ((decimal row ++ (10 ∷ [])) ++ rest) (behind-is (time_line row) text rest e))

-- the number of a row, by its digits
module _ (numbered : List ℕ) (row count value : ℕ) (d : DigitsRead 10 (digits_in 10 numbered) count value) (h : row ≤ 16777216) where
  abbrev line : Option (List ℕ)
  line = behind (time_line row) (35 ∷ numbered)

  is-timed : (rest : List ℕ) → line ≡ some rest → (digits_in 10 numbered ≡ decimal row) × (drop count numbered ≡ 10 ∷ rest)
  unfolding time_line
  is-timed rest e =
      let all : numbered ≡ decimal row ++ (10 ∷ rest) = ap (drop 1) (behind-is (time_line row) (35 ∷ numbered) rest e) ∙ append_assoc (decimal row) (10 ∷ []) rest in
      let digits : digits_in 10 numbered ≡ decimal row = ap (digits_in 10) all ∙ digits-end 10 (decimal row) 10 rest (omega arith) (are-digits 10 20 row (omega arith)) in
      (digits, ap (drop count) all ∙ drop_at (decimal row) (10 ∷ rest) count (sym (d.is_count ∙ ap (λ (m : List ℕ). length m) digits)))

  pub too_many : 8 < count → line ≡ none
  too_many m = is_none line (λ rest e. omega (arith, row-digits row h, ap (λ (m : List ℕ). length m) (is-timed rest e).0, d.is_count))

  number_digits : take count numbered ≡ digits_in 10 numbered
  number_digits = taken (digits_in 10 numbered) numbered count (digits-front 10 numbered) d.is_count

  module _ (few : count ≤ 8) where
    its-value : value ≡ spelled 10 0 (digits_in 10 numbered)
    its-value =
        let m : 10 ^ count ≤ 10 ^ 8 = pow-le-pow_right {n = 10} (omega arith) {i = count} {j = 8} few in
        d.is_value (omega arith)

    pub other-value : ¬ (value ≡ row) → line ≡ none
    other-value n = is_none line (λ rest e. n (its-value ∙ ap (spelled 10 0) (is-timed rest e).0 ∙ spells 10 20 row (omega arith) (omega arith)))

    pub time-there : value ≡ row → plain (take count numbered) ≡ true → (rest : List ℕ) → drop count numbered ≡ 10 ∷ rest → line ≡ some rest
    unfolding time_line
    time-there e p rest f =
        let q : plain (digits_in 10 numbered) ≡ true = rw number_digits at p in
        let s : spelled 10 0 (digits_in 10 numbered) ≡ row = sym its-value ∙ e in
        let digits : decimal row ≡ digits_in 10 numbered = rw s at (plain-is 10 (omega arith) 20 (digits_in 10 numbered) (digits_are 10 numbered) q (omega (arith, d.is_count))) in
        let parts : digits_in 10 numbered ++ drop count numbered ≡ numbered = ap (λ (n : ℕ). digits_in 10 numbered ++ drop n numbered) d.is_count ∙ digits-front 10 numbered in
        let all : 35 ∷ numbered ≡ time_line row ++ rest =
        ap (λ (m : List ℕ). 35 ∷ m) (sym parts ∙ ap₂ (λ (y z : List ℕ). y ++ z) (sym digits) f ∙ sym (append_assoc (decimal row) (10 ∷ []) rest)) in
        ap (behind (time_line row)) all ∙ behind-front (time_line row) rest

  pub not_plain : plain (take count numbered) ≡ false → line ≡ none
  not_plain p = is_none line (λ rest e. no_true (sym (rw (number_digits, (is-timed rest e).0) (numeral-plain 10 19 row (omega arith) (omega arith))) ∙ p))

  pub no_feed : ((rest : List ℕ) → drop count numbered ≡ 10 ∷ rest → ⊥) → line ≡ none
  no_feed n = is_none line (λ rest e. n rest (is-timed rest e).1)
