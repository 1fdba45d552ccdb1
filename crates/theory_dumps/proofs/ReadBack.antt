-- What is read of a text is the rows whose dump it is, and of each dump its rows are read.
use mathlib.Core.Path.{◌≡◌, ◌∙◌, refl, sym, ap, ap₂}
use mathlib.Core.Bool.{Bool, true, false, not, ◌&&◌}
use mathlib.Core.List.{List, [], ◌∷◌, ◌++◌, append_assoc}
use mathlib.Core.Option.{Option, none, some}
use Prim.Native.Nat.{ℕ, zero, suc, ◌+◌, ◌≤◌, ◌<◌}
use native.Mathlib.Omega.{arith}
use borrow.Author.Tests.{eqb-true, eqb-false, eq-eqb, ne_eqb, ltb-true, lt-ltb}
use lib.Dec.{eqb, ltb}
use lib.ListN.{length, get_or, replicate, length-append}
use Rattle.field.specs.Modulus.{P}
use Rattle.groups.specs.Answer.{pick}
use Rattle.theory_dumps.specs.Numerals.{binary}
use Rattle.theory_dumps.specs.ways.Spelled.{spelled}
use Rattle.theory_dumps.specs.Dumps.{identifier, header, time_line, value_line, all_values, changes, later_lines, dump_lines, dump_rows}
use Rattle.theory_dumps.specs.ways.Undump.{behind, bits_in, line_bits, line_value, is_line_of, after_value, with_value, or_none, read_changes, with_row, or_end, read_rows, no_values, has_all, from_first, undump}
use Rattle.theory_dumps.proofs.NumeralLaws.{spells, Digits, are-digits}

-- TEXTS IN FRONT

pub behind-is : (front text rest : List ℕ) → behind front text ≡ some rest → text ≡ front ++ rest
unfolding behind
behind-is [] text rest e = cc
behind-is (x ∷ front) [] rest e = let z : ◌≡◌ {A = ℕ} 0 1 = cc in absurd (omega arith)
behind-is (x ∷ front) (y ∷ text) rest e = go (eqb x y) refl e (behind-is front text rest)
  where
    go : (t : Bool) → eqb x y ≡ t → pick t (behind front text) none ≡ some rest → (behind front text ≡ some rest → text ≡ front ++ rest) → y ∷ text ≡ x ∷ (front ++ rest)
    go true h e more = rw (eqb-true x y h) (ap (λ (l : List ℕ). y ∷ l) (more e))
    go false h e more = let z : ◌≡◌ {A = ℕ} 0 1 = cc in absurd (omega arith)

pub behind-front : (front rest : List ℕ) → behind front (front ++ rest) ≡ some rest
unfolding behind
behind-front [] rest = refl
behind-front (x ∷ front) rest = rw (eq-eqb x x refl) (behind-front front rest)

-- VALUE LINES

-- digits end where none follows
bits-end : (digits rest : List ℕ) → Digits 2 digits → bits_in (digits ++ (32 ∷ rest)) ≡ digits
unfolding bits_in Digits
bits-end [] rest h = refl
bits-end (d ∷ digits) rest h = go (eqb d 48) (eqb d 49) refl refl (bits-end digits rest h.2)
  where
    go : (t u : Bool) → eqb d 48 ≡ t → eqb d 49 ≡ u → bits_in (digits ++ (32 ∷ rest)) ≡ digits → pick t (d ∷ bits_in (digits ++ (32 ∷ rest))) (pick u (d ∷ bits_in (digits ++ (32 ∷ rest))) []) ≡ d ∷ digits
    go true u e f more = ap (λ (l : List ℕ). d ∷ l) more
    go false true e f more = ap (λ (l : List ℕ). d ∷ l) more
    go false false e f more = absurd (omega (arith, eqb-false d 48 e, eqb-false d 49 f))

at-append : (l m : List ℕ) (x i : ℕ) → i ≡ length l → get_or (l ++ (x ∷ m)) i 0 ≡ x
at-append [] m x i e = rw e refl
at-append (y ∷ l) m x zero e = absurd (omega arith)
at-append (y ∷ l) m x (suc i) e = at-append l m x i (omega arith)

module _ (column value : ℕ) (rest : List ℕ) where
  abbrev line : List ℕ
  line = value_line column value ++ rest

  pub line-bits : line_bits line ≡ binary value
  unfolding value_line
  line-bits =
      ap bits_in (append_assoc (binary value) (32 ∷ identifier column ∷ 10 ∷ []) rest)
      ∙ bits-end (binary value) (identifier column ∷ 10 ∷ rest) (are-digits 2 64 value (omega arith))

  pub line-value : value < P → line_value line ≡ value
  line-value h = ap (spelled 2 0) line-bits ∙ spells 2 64 value (omega arith) (omega arith)

  line-parts : line ≡ (98 ∷ (binary value ++ (32 ∷ []))) ++ (identifier column ∷ 10 ∷ rest)
  unfolding value_line
  line-parts =
      ap (λ (l : List ℕ). 98 ∷ l) (append_assoc (binary value) (32 ∷ identifier column ∷ 10 ∷ []) rest ∙ sym (append_assoc (binary value) (32 ∷ []) (identifier column ∷ 10 ∷ rest)))

  pub line-identifier : get_or line (2 + length (line_bits line)) 0 ≡ identifier column
  line-identifier =
      ap₂ (λ (l : List ℕ) (n : ℕ). get_or l (2 + n) 0) line-parts (ap (λ (l : List ℕ). length l) line-bits)
      ∙ at-append (98 ∷ (binary value ++ (32 ∷ []))) (10 ∷ rest) (identifier column) (2 + length (binary value)) (omega (arith, length-append (binary value) (32 ∷ [])))

  pub is_line : is_line_of column line ≡ true
  unfolding is_line_of
  is_line = rw (line-identifier, eq-eqb (identifier column) (identifier column) refl) (unfold value_line in refl)

  pub is-other : (c : ℕ) → ¬ (c ≡ column) → is_line_of c line ≡ false
  unfolding is_line_of
  is-other c h = rw (line-identifier, ne_eqb (identifier column) (identifier c) (λ e. h (omega arith))) (unfold value_line in refl)

  pub after_line : (old : ℕ) → value < P → ¬ (old ≡ value) → after_value column old line ≡ some rest
  unfolding after_value
  after_line old l h = rw (line-value l, lt-ltb value P l, ne_eqb old value h) (behind-front (value_line column value) rest)

-- ROWS

-- no value line comes first
abbrev pub NoLine : List ℕ → Type 0
NoLine text = (c : ℕ) → is_line_of c text ≡ false

unfoldable pub Below : List ℕ → Type 0
Below [] = Unit {0}
Below (x ∷ l) = (x < P) × Below l

-- lines of later columns are none of this
later-lines : (before row rest : List ℕ) (column c : ℕ) → c < column → NoLine rest → is_line_of c (changes column before row ++ rest) ≡ false
unfolding changes
later-lines before [] rest column c h n = n c
later-lines [] (value ∷ row) rest column c h n = n c
later-lines (old ∷ before) (value ∷ row) rest column c h n = go (eqb old value) (later-lines before row rest (suc column) c (omega arith) n)
  where
    go : (t : Bool) → is_line_of c (changes (suc column) before row ++ rest) ≡ false → is_line_of c ((pick t [] (value_line column value) ++ changes (suc column) before row) ++ rest) ≡ false
    go true e = e
    go false e = ap (is_line_of c) (append_assoc (value_line column value) (changes (suc column) before row) rest) ∙ is-other column value (changes (suc column) before row ++ rest) c (λ z. omega arith)

pub changes-read : (before row rest : List ℕ) (column : ℕ) → length before ≡ length row → Below row → NoLine rest → read_changes column before (changes column before row ++ rest) ≡ some (row, rest)
unfolding changes read_changes Below
changes-read [] [] rest column e b n = refl
changes-read [] (value ∷ row) rest column e b n = absurd (omega arith)
changes-read (old ∷ before) [] rest column e b n = absurd (omega arith)
changes-read (old ∷ before) (value ∷ row) rest column e b n = go (eqb old value) refl (changes-read before row rest (suc column) (omega arith) b.1 n)
  where
    go : (t : Bool) → eqb old value ≡ t → read_changes (suc column) before (changes (suc column) before row ++ rest) ≡ some (row, rest) →
        read_changes column (old ∷ before) ((pick t [] (value_line column value) ++ changes (suc column) before row) ++ rest) ≡ some (value ∷ row, rest)
    go true h more = rw (later-lines before row rest (suc column) column (omega arith) n, more, eqb-true old value h)
    go false h more =
        let more' : List ℕ = changes (suc column) before row ++ rest in
        rw (append_assoc (value_line column value) (changes (suc column) before row) rest, is_line column value more', after_line column value more' old b.0 (eqb-false old value h), line-value column value more' b.0, more)

-- ALL ROWS

-- rows of 49 cells below p
unfoldable pub Rows : List (List ℕ) → Type 0
Rows [] = Unit {0}
Rows (row ∷ rows) = ((length row ≡ 49) × Below row) × Rows rows

later-none : (number : ℕ) (before : List ℕ) (rows : List (List ℕ)) → NoLine (later_lines number before rows)
unfolding later_lines time_line is_line_of
later-none number before [] c = refl
later-none number before (row ∷ rows) c = refl

-- a time line is no end
no_end : (number : ℕ) (lines text : List ℕ) (rows : Option (List (List ℕ))) → or_end ((time_line number ++ lines) ++ text) rows ≡ rows
unfolding time_line
no_end number lines text rows = refl

later-read : (rows : List (List ℕ)) (most number : ℕ) (before : List ℕ) → length rows ≤ most → length before ≡ 49 → Rows rows → read_rows most number before (later_lines number before rows) ≡ some rows
unfolding read_rows later_lines Rows
later-read [] zero number before h l r = refl
later-read [] (suc most) number before h l r = refl
later-read (row ∷ rows) zero number before h l r = absurd (omega arith)
later-read (row ∷ rows) (suc most) number before h l r =
    let text : List ℕ = later_lines (suc number) row rows in
    let more = later-read rows most (suc number) row (omega arith) r.0.0 r.1 in
    let changed = changes-read before row text 0 (l ∙ sym r.0.0) r.0.1 (later-none (suc number) row rows) in
    let parts : (time_line number ++ changes 0 before row) ++ text ≡ time_line number ++ (changes 0 before row ++ text) = append_assoc (time_line number) (changes 0 before row) text in
    no_end number (changes 0 before row) text _
    ∙ rw (parts, behind-front (time_line number) (changes 0 before row ++ text), changed, more)

-- all values are changes where there were none
pub values-changed : (row : List ℕ) (column n : ℕ) → length row ≡ n → Below row → changes column (replicate n P) row ≡ all_values column row
unfolding changes all_values Below
values-changed [] column n e b = refl
values-changed (value ∷ row) column zero e b = absurd (omega arith)
values-changed (value ∷ row) column (suc n) e b = rw (ne_eqb P value (λ z. omega (arith, b.0))) (ap (λ (l : List ℕ). value_line column value ++ l) (values-changed row (suc column) n (omega arith) b.1))

below_all : (row : List ℕ) → Below row → has_all row ≡ true
unfolding Below has_all
below_all [] b = refl
below_all (value ∷ row) b = rw (lt-ltb value P b.0) (below_all row b.1)

-- no more rows than bytes
rows_few : (rows : List (List ℕ)) (number : ℕ) (before : List ℕ) → length rows ≤ length (later_lines number before rows)
unfolding later_lines time_line
rows_few [] number before = omega arith
rows_few (row ∷ rows) number before =
    omega (arith, rows_few rows (suc number) row, length-append (time_line number ++ changes 0 before row) (later_lines (suc number) row rows), length-append (time_line number) (changes 0 before row))

-- the rows of a dump are read back
pub dumped-read : (row : List ℕ) (rows : List (List ℕ)) → Rows (row ∷ rows) → undump (dump_rows (row ∷ rows)) ≡ some (row ∷ rows)
unfolding undump dump_rows dump_lines Rows from_first
dumped-read row rows r =
    let first : dump_lines (row ∷ rows) ≡ later_lines 0 no_values (row ∷ rows) =
    unfold dump_lines later_lines in ap (λ (l : List ℕ). (time_line 0 ++ l) ++ later_lines 1 row rows) (sym (values-changed row 0 49 r.0.0 r.0.1)) in
    rw (behind-front header (dump_lines (row ∷ rows)), first, later-read (row ∷ rows) (length (later_lines 0 no_values (row ∷ rows))) 0 no_values (rows_few (row ∷ rows) 0 no_values) refl r, below_all row r.0.1)

-- WHAT IS READ IS DUMPED

some_pair : (x y : List ℕ × List ℕ) → some x ≡ some y → (x.0 ≡ y.0) × (x.1 ≡ y.1)
some_pair x y e =
    let z : x ≡ y = cc in
    (ap (λ (v : List ℕ × List ℕ). v.0) z, ap (λ (v : List ℕ × List ℕ). v.1) z)

no_none : {A B : Type 0} (x : A) → none ≡ some x → B
no_none x e = let z : ◌≡◌ {A = ℕ} 0 1 = cc in absurd (omega arith)

-- a row that was read behind a value
value_of : (value : ℕ) (o : Option (List ℕ × List ℕ)) (row rest : List ℕ) → with_value value o ≡ some (row, rest) → (tail : List ℕ) × (o ≡ some (tail, rest)) × (row ≡ value ∷ tail)
value_of value none row rest e = no_none (row, rest) e
value_of value (some x) row rest e =
    let (f, g) = some_pair (value ∷ x.0, x.1) (row, rest) e in
    (x.0, ap (λ (y : List ℕ). some (x.0, y)) g, sym f)

both : (a b : Bool) → (a && b) ≡ true → (a ≡ true) × (b ≡ true)
both true b e = (refl, e)
both false b e = let z : ◌≡◌ {A = ℕ} 0 1 = cc in absurd (omega arith)

not-true : (a : Bool) → not a ≡ true → a ≡ false
not-true true e = let z : ◌≡◌ {A = ℕ} 0 1 = cc in absurd (omega arith)
not-true false e = refl

-- a value that was accepted: it is a cell, it changed, and its line is in front
pub value-sound : (column old : ℕ) (text rest : List ℕ) → after_value column old text ≡ some rest → (line_value text < P) × (eqb old (line_value text) ≡ false) × (text ≡ value_line column (line_value text) ++ rest)
unfolding after_value
value-sound column old text rest e = go (ltb (line_value text) P && not (eqb old (line_value text))) refl e
  where
    go : (t : Bool) → (ltb (line_value text) P && not (eqb old (line_value text))) ≡ t → pick t (behind (value_line column (line_value text)) text) none ≡ some rest → (line_value text < P) × (eqb old (line_value text) ≡ false) × (text ≡ value_line column (line_value text) ++ rest)
    go true h e =
        let (a, b) = both (ltb (line_value text) P) (not (eqb old (line_value text))) h in
        (ltb-true (line_value text) P a, not-true (eqb old (line_value text)) b, behind-is (value_line column (line_value text)) text rest e)
    go false h e = no_none rest e

-- each value of a row that was read is a cell or the one before
unfoldable pub Kept : (before row : List ℕ) → Type 0
Kept before [] = Unit {0}
Kept [] (value ∷ row) = ⊥
Kept (old ∷ before) (value ∷ row) = (old < P → value < P) × Kept before row

pub record Changed (column : ℕ) (before text row rest : List ℕ) : Type 0 where
  pub is_text : text ≡ changes column before row ++ rest
  pub long : length row ≡ length before
  pub kept : Kept before row

same_line : (column value : ℕ) (before row rest : List ℕ) → changes column (value ∷ before) (value ∷ row) ++ rest ≡ changes (suc column) before row ++ rest
unfolding changes
same_line column value before row rest = rw (eq-eqb value value refl)

pub changes-sound : (before text row rest : List ℕ) (column : ℕ) → read_changes column before text ≡ some (row, rest) → Changed column before text row rest
unfolding read_changes
changes-sound [] text row rest column e =
    let (f, g) = some_pair ([], text) (row, rest) e in
    rw (← f, ← g) (record { is_text = unfold changes in refl; long = refl; kept = unfold Kept in tt })
changes-sound (old ∷ before) text row rest column e = go (is_line_of column text) (after_value column old text) refl e (λ t u. changes-sound before t u rest (suc column))
  where
    go : (t : Bool) (o : Option (List ℕ)) → after_value column old text ≡ o →
        pick t (or_none o (λ r. with_value (line_value text) (read_changes (suc column) before r))) (with_value old (read_changes (suc column) before text)) ≡ some (row, rest) →
        ((t u : List ℕ) → read_changes (suc column) before t ≡ some (u, rest) → Changed (suc column) before t u rest) → Changed column (old ∷ before) text row rest
    go true none h e more = no_none (row, rest) e
    go true (some r) h e more =
        let (u, f, g) = value_of (line_value text) (read_changes (suc column) before r) row rest e in
        let c = more r u f in
        let (a, b, d) = value-sound column old text r h in
        rw g (record {
          is_text = unfold changes in rw b (d ∙ ap (λ (l : List ℕ). value_line column (line_value text) ++ l) c.is_text ∙ sym (append_assoc (value_line column (line_value text)) (changes (suc column) before u) rest));
          long = ap suc c.long;
          kept = unfold Kept in (λ z. a, c.kept);
        })
    go false o h e more =
        let (u, f, g) = value_of old (read_changes (suc column) before text) row rest e in
        let c = more text u f in
        rw g (record { is_text = c.is_text ∙ sym (same_line column old before u rest); long = ap suc c.long; kept = unfold Kept in (λ z. z, c.kept) })

-- rows one after another, each of 49 values that are cells or those before
unfoldable Chain : (before : List ℕ) → List (List ℕ) → Type 0
Chain before [] = Unit {0}
Chain before (row ∷ rows) = (length row ≡ 49) × Kept before row × Chain row rows

row-of : (row : List ℕ) (o : Option (List (List ℕ))) (rows : List (List ℕ)) → with_row row o ≡ some rows → (more : List (List ℕ)) × (o ≡ some more) × (rows ≡ row ∷ more)
row-of row none rows e = no_none rows e
row-of row (some more) rows e = (more, refl, cc)

then-of : {A B : Type 0} (o : Option A) (f : A → Option B) (y : B) → or_none o f ≡ some y → (x : A) × (o ≡ some x) × (f x ≡ some y)
then-of none f y e = no_none y e
then-of (some x) f y e = (x, refl, e)

nothing_left : (number : ℕ) (before : List ℕ) (rows : List (List ℕ)) → some [] ≡ some rows → ([] ≡ later_lines number before rows) × Chain before rows
unfolding later_lines Chain
nothing_left number before rows e =
    let z : ◌≡◌ {A = List (List ℕ)} [] rows = cc in
    rw (← z) (refl, tt)

rows-sound : (most number : ℕ) (before text : List ℕ) (rows : List (List ℕ)) → length before ≡ 49 → read_rows most number before text ≡ some rows → (text ≡ later_lines number before rows) × Chain before rows
unfolding read_rows later_lines Chain
rows-sound zero number before [] rows l e = nothing_left number before rows e
rows-sound zero number before (byte ∷ text) rows l e = no_none rows e
rows-sound (suc most) number before [] rows l e = nothing_left number before rows e
rows-sound (suc most) number before (byte ∷ text) rows l e =
    let (lines, e1, e2) = then-of (behind (time_line number) (byte ∷ text)) _ rows e in
    let (x, e3, e4) = then-of (read_changes 0 before lines) _ rows e2 in
    let (more, e5, e6) = row-of x.0 (read_rows most (suc number) x.0 x.1) rows e4 in
    let c = changes-sound before lines x.0 x.1 0 e3 in
    let long : length x.0 ≡ 49 = c.long ∙ l in
    let (f, g) = rows-sound most (suc number) x.0 x.1 more long e5 in
    rw e6 (
      behind-is (time_line number) (byte ∷ text) lines e1
          ∙ ap (λ (t : List ℕ). time_line number ++ t) (c.is_text ∙ ap (λ (t : List ℕ). changes 0 before x.0 ++ t) f)
          ∙ sym (append_assoc (time_line number) (changes 0 before x.0) (later_lines (suc number) x.0 more)),
      (long, c.kept, g),
    )

all-below : (row : List ℕ) → has_all row ≡ true → Below row
unfolding has_all Below
all-below [] e = tt
all-below (value ∷ row) e = let (a, b) = both (ltb value P) (has_all row) e in (ltb-true value P a, all-below row b)

kept-below : (before row : List ℕ) → Kept before row → Below before → Below row
unfolding Kept Below
kept-below before [] k b = tt
kept-below [] (value ∷ row) k b = absurd k
kept-below (old ∷ before) (value ∷ row) k b = (k.0 b.0, kept-below before row k.1 b.1)

chain-rows : (before : List ℕ) (rows : List (List ℕ)) → Below before → Chain before rows → Rows rows
unfolding Chain Rows
chain-rows before [] b c = tt
chain-rows before (row ∷ rows) b c = let r = kept-below before row c.1 b in ((c.0, r), chain-rows row rows r c.2)

-- what is read of a text: rows of cells, at least one, whose dump it is
pub record Dumped (text : List ℕ) (rows : List (List ℕ)) : Type 0 where
  pub some_rows : 0 < length rows
  pub cells : Rows rows
  pub is_dump : text ≡ dump_rows rows

first-sound : (text lines : List ℕ) (rows rows' : List (List ℕ)) → text ≡ header ++ lines → (lines ≡ later_lines 0 no_values rows) × Chain no_values rows → from_first rows ≡ some rows' → Dumped text rows'
unfolding from_first Chain Rows dump_rows dump_lines later_lines
first-sound text lines [] rows' h c e = no_none rows' e
first-sound text lines (row ∷ rows) rows' h c e = go (has_all row) refl e
  where
    go : (t : Bool) → has_all row ≡ t → pick t (some (row ∷ rows)) none ≡ some rows' → Dumped text rows'
    go false k e = no_none rows' e
    go true k e =
        let z : row ∷ rows ≡ rows' = cc in
        let b = all-below row k in
        let long : length row ≡ 49 = c.1.0 in
        rw (← z) (record {
          some_rows = omega arith;
          cells = ((long, b), chain-rows row rows b c.1.2);
          is_dump = h ∙ ap (λ (l : List ℕ). header ++ l) (c.0 ∙ ap (λ (l : List ℕ). (time_line 0 ++ l) ++ later_lines 1 row rows) (values-changed row 0 49 long b));
        })

pub read-dumped : (text : List ℕ) (rows : List (List ℕ)) → undump text ≡ some rows → Dumped text rows
unfolding undump
read-dumped text rows e =
    let (lines, e1, e2) = then-of (behind header text) _ rows e in
    let (found, e3, e4) = then-of (read_rows (length lines) 0 no_values lines) _ rows e2 in
    first-sound text lines found rows (behind-is header text lines e1) (rows-sound (length lines) 0 no_values lines found refl e3) e4

-- a text is the dump of rows exactly where these are read of it
pub reads-dumps : (text : List ℕ) (rows : List (List ℕ)) → Dumped text rows → undump text ≡ some rows
unfolding Rows
reads-dumps text [] d = absurd (omega (arith, d.some_rows))
reads-dumps text (row ∷ rows) d = ap undump d.is_dump ∙ dumped-read row rows d.cells

-- so a text is the dump of one list of rows at most
pub one-dump : (text : List ℕ) (rows rows' : List (List ℕ)) → Dumped text rows → Dumped text rows' → rows ≡ rows'
one-dump text rows rows' d d' =
    let e : some rows ≡ some rows' = sym (reads-dumps text rows d) ∙ reads-dumps text rows' d' in
    cc
