-- Laws of value lines.
use mathlib.Core.Path.{◌≡◌, ◌∙◌, refl, sym, ap, ap₂}
use mathlib.Core.Bool.{Bool, true, false, ◌&&◌}
use mathlib.Core.List.{List, ◌∷◌, ◌++◌}
use mathlib.Core.Option.{Option, none, some}
use Prim.Native.Nat.{ℕ, suc, ◌+◌, ◌^◌, ◌≤◌, ◌<◌}
use native.Mathlib.Nat.{pow-le-pow_right}
use native.Mathlib.Omega.{arith}
use borrow.Author.Tests.{eqb-true, eq-eqb, ne_eqb, lt-ltb, le-ltb}
use lib.Dec.{eqb, ltb}
use lib.ListN.{length, get_or}
use Rattle.field.specs.Modulus.{P}
use Rattle.groups.specs.Answer.{pick}
use Rattle.theory_dumps.specs.Numerals.{numeral_within}
use Rattle.theory_dumps.specs.Dumps.{identifier, value_line}
use Rattle.theory_dumps.specs.ways.Undump.{behind, line_bits, line_value, is_line_of, after_value, or_none}
use Rattle.theory_dumps.proofs.ReadBack.{value-sound, line-bits}
use Rattle.theory_dumps.proofs.NumeralLaws.{few-digits}
use Rattle.theory_dumps.specs.ways.Spelled.{spelled}
use Rattle.dump.specs.ways.Scanning.{digits_in, line_identifier, found, next_value}
use Rattle.dump.proofs.DigitLaws.{bits-are}

-- no line
pub identifier-none : (text : List ℕ) → ¬ (get_or text 0 0 ≡ 98) → line_identifier text ≡ 0
unfolding line_identifier
identifier-none text h = rw (ne_eqb (get_or text 0 0) 98 h)

pub identifier-of : (text : List ℕ) → get_or text 0 0 ≡ 98 → line_identifier text ≡ get_or text (2 + length (line_bits text)) 0
unfolding line_identifier
identifier-of text h = rw (eq-eqb (get_or text 0 0) 98 h)

pub no-line : (text : List ℕ) → ¬ (get_or text 0 0 ≡ 98) → (c : ℕ) → ¬ (line_identifier text ≡ identifier c)
no-line text h c e = omega (arith, identifier-none text h)

-- behind the mark of a line
module _ (text behind : List ℕ) (e : text ≡ 98 ∷ behind) (count : ℕ) (h : count ≡ length (digits_in 2 behind)) where
  digits : line_bits text ≡ digits_in 2 behind
  digits = rw e (bits-are behind)

  pub counted : count ≡ length (line_bits text)
  counted = h ∙ ap (λ (l : List ℕ). length l) (sym digits)

  pub value-of : (value : ℕ) → (2 ^ count ≤ 2 ^ 64 → value ≡ spelled 2 0 (digits_in 2 behind)) → count ≤ 64 → value ≡ line_value text
  value-of value v few = v (pow-le-pow_right {n = 2} (omega arith) {i = count} {j = 64} few) ∙ ap (spelled 2 0) (sym digits)

  pub identifier-at : get_or behind (count + 1) 0 ≡ line_identifier text
  identifier-at =
      let i : 2 + length (line_bits text) ≡ suc (count + 1) = omega (arith, counted) in
      let f : get_or text 0 0 ≡ 98 = ap (λ (l : List ℕ). get_or l 0 0) e in
      sym (identifier-of text f ∙ ap₂ (λ (l : List ℕ) (j : ℕ). get_or l j 0) e i)

-- a line is one of a column by its identifier
pub is-line-by : (column : ℕ) (text : List ℕ) → is_line_of column text ≡ eqb (line_identifier text) (identifier column)
unfolding is_line_of line_identifier
is-line-by column text = go (eqb (get_or text 0 0) 98)
  where
    go : (t : Bool) → (t && eqb (get_or text (2 + length (line_bits text)) 0) (identifier column)) ≡ eqb (pick t (get_or text (2 + length (line_bits text)) 0) 0) (identifier column)
    go true = refl
    go false = sym (ne_eqb 0 (identifier column) (λ e. omega arith))

-- a line of more than 64 digits is none of the writer's
long-none : (column old : ℕ) (text : List ℕ) → 64 < length (line_bits text) → after_value column old text ≡ none
long-none column old text h = go (after_value column old text) refl
  where
    go : (o : Option (List ℕ)) → after_value column old text ≡ o → o ≡ none
    go none e = refl
    go (some rest) e =
        let v : ℕ = line_value text in
        let is : text ≡ value_line column v ++ rest = (value-sound column old text rest e).2 in
        let bits : line_bits text ≡ numeral_within 2 64 v = ap (λ (l : List ℕ). line_bits l) is ∙ line-bits column v rest in
        let same : length (line_bits text) ≡ length (numeral_within 2 64 v) = ap (λ (l : List ℕ). length l) bits in
        absurd (omega (arith, few-digits 2 64 v))

-- THE NEXT VALUE OF A COLUMN

pub next_same : (column old : ℕ) (text : List ℕ) → ¬ (line_identifier text ≡ identifier column) → next_value column old text ≡ found old text
unfolding next_value
next_same column old text h = rw (is-line-by column text, ne_eqb (line_identifier text) (identifier column) h)

both_first : (a b : Bool) → (a && b) ≡ true → a ≡ true
both_first true b e = refl
both_first false b e = e

module _ (column old : ℕ) (text : List ℕ) (h : line_identifier text ≡ identifier column) where
  abbrev v : ℕ
  v = line_value text

  is_line : is_line_of column text ≡ true
  is_line = is-line-by column text ∙ eq-eqb (line_identifier text) (identifier column) h

  pub first : get_or text 0 0 ≡ 98
  unfolding is_line_of
  first = eqb-true (get_or text 0 0) 98 (both_first (eqb (get_or text 0 0) 98) (eqb (get_or text (2 + length (line_bits text)) 0) (identifier column)) is_line)

  next-by : next_value column old text ≡ or_none (after_value column old text) (found v)
  unfolding next_value
  next-by = rw is_line

  pub next-long : 64 < length (line_bits text) → next_value column old text ≡ none
  next-long l = next-by ∙ rw (long-none column old text l)

  pub next-wrong : P ≤ v → next_value column old text ≡ none
  unfolding after_value
  next-wrong l = next-by ∙ rw (le-ltb v P l)

  pub next-old : old ≡ v → next_value column old text ≡ none
  unfolding after_value
  next-old e = next-by ∙ rw (eq-eqb old v e) (go (ltb v P))
    where
      go : (t : Bool) → or_none (pick (t && false) (behind (value_line column v) text) none) (found v) ≡ none
      go true = refl
      go false = refl

  pub next-line : v < P → ¬ (old ≡ v) → next_value column old text ≡ or_none (behind (value_line column v) text) (found v)
  unfolding after_value
  next-line l d = next-by ∙ rw (lt-ltb v P l, ne_eqb old v d)
