-- Change request N3, its two calls together, over what their contracts say: `dumping` and `text_after` of the writer, `ReadsDump` of the reader.
use mathlib.Core.Path.{◌≡◌, ◌∙◌, refl, sym, ap}
use mathlib.Core.Bool.{Bool, true, false}
use mathlib.Core.List.{List, [], ◌∷◌, ◌++◌, append-nil}
use mathlib.Core.Logic.{◌↔◌, ◌⊎◌, inl, inr}
use mathlib.Core.Option.{Option, none, some}
use Prim.Native.Nat.{ℕ, ◌*◌, ◌/◌, ◌%◌, ◌≤◌, ◌<◌}
use native.Mathlib.Omega.{arith}
use borrow.Author.Tests.{ltb-true, ltb-false, le-ltb}
use lib.Dec.{ltb}
use lib.ListN.{length, take, drop}
use lib.Seq.{take_at}
use Rattle.field.specs.Cells.{reduced}
use Rattle.field.proofs.CellLaws.{read_small, length-reduced}
use Rattle.groups.specs.Answer.{Answer, accepted, refused, pick, refusal, values}
use Rattle.rows.specs.records.Buffers.{rows_of, flat, buffer_wrong}
use Rattle.rows.proofs.passes.RowLists.{Wide, length-flat, rows-flat}
use Rattle.theory_readings.specs.Readings.{all_rows}
use Rattle.theory_dumps.specs.Dumps.{dump_rows, dump}
use Rattle.theory_dumps.specs.ways.Undump.{undump}
use Rattle.theory_dumps.proofs.ReadBack.{Below, Rows, one-dump, reads-dumps, read-dumped}
use Rattle.dump.specs.Dumping.{rows_wrong, dumping, text_after, Given, ReadsDump}
use Rattle.dump.specs.ways.Undumping.{few_rows, undumping, reading_dump, rows_read, cells_after}
use Rattle.dump.proofs.ReadLaws.{no_true}
use Rattle.dump.proofs.Writing.{whole, text-fits}
use Rattle.dump.proofs.WrittenRead.{many, dumped, read-cells}

-- BUFFERS AND TEXTS THAT ARE GIVEN

-- "every buffer of at least one row", of at most the 2^24 rows that any call takes
pub record Buffer (cells : List ℕ) : Type 0 where
  pub rows : ℕ
  pub some_rows : 0 < rows
  pub rows_few : rows ≤ 16777216
  pub long : length cells ≡ 49 * rows

not-refused : (cells : List ℕ) → Buffer cells → rows_wrong (length cells) ≡ false
unfolding rows_wrong buffer_wrong
not-refused cells b =
    rw (
      le-ltb 0 (length cells % 49) (omega (arith, b.long)),
      le-ltb 16777216 (length cells / 49) (omega (arith, b.long, b.rows_few)),
      le-ltb (length cells) 49 (omega (arith, b.long, b.some_rows)),
    )

-- these are exactly the buffers that the writer does not refuse with 11
pub buffers : (cells : List ℕ) → (rows_wrong (length cells) ≡ false) ↔ Buffer cells
buffers cells = (λ e. to e, not-refused cells)
  where
    to : rows_wrong (length cells) ≡ false → Buffer cells
    to e =
        let (a, b, c) = whole (length cells) e in
        record { rows = length cells / 49; some_rows = omega arith; rows_few = b; long = omega arith }

right_length : (cells : List ℕ) → Buffer cells → buffer_wrong (length cells) ≡ false
unfolding buffer_wrong
right_length cells b = rw (le-ltb 0 (length cells % 49) (omega (arith, b.long)), le-ltb 16777216 (length cells / 49) (omega (arith, b.long, b.rows_few)))

-- what `write_dump` leaves in a lent text: the first so many bytes as it answers
abbrev pub text_written : (cells text : List ℕ) → List ℕ
text_written cells text = take (values 0 (dumping cells (length text))) (text_after cells (dumping cells (length text)) text)

written-dump : (cells text : List ℕ) → rows_wrong (length cells) ≡ false → length (dump cells) ≤ length text → (refusal (dumping cells (length text)) ≡ 0) × (text_written cells text ≡ dump cells)
unfolding text_after
written-dump cells text right h =
    let w : dumping cells (length text) ≡ accepted (length (dump cells)) = text-fits cells (length text) right h in
    (rw w, rw w (take_at (dump cells) (drop (length (dump cells)) text) (length (dump cells)) refl))

-- where the writer accepts, there is no 11 and the text is long enough
accepts : (cells : List ℕ) (lent : ℕ) → refusal (dumping cells lent) ≡ 0 → (rows_wrong (length cells) ≡ false) × (length (dump cells) ≤ lent)
unfolding dumping
accepts cells lent e = go (rows_wrong (length cells)) refl (ltb lent (length (dump cells))) refl e
  where
    go : (s : Bool) → rows_wrong (length cells) ≡ s → (t : Bool) → ltb lent (length (dump cells)) ≡ t
        → refusal (pick s (refused 11) (pick t (refused 28) (accepted (length (dump cells))))) ≡ 0 → (rows_wrong (length cells) ≡ false) × (length (dump cells) ≤ lent)
    go true f t h e = absurd (omega arith)
    go false f true h e = absurd (omega arith)
    go false f false h e = (f, ltb-false lent (length (dump cells)) h)

-- a text is given exactly if some call of the writer, not refused, leaves it
pub writer-gives : (text : List ℕ) → Given text ↔ ((cells : List ℕ) × ((lent : List ℕ) × ((refusal (dumping cells (length lent)) ≡ 0) × (text_written cells lent ≡ text))))
writer-gives text = (λ g. to g, λ x. from x.0 x.1.0 x.1.1.0 x.1.1.1)
  where
    to : Given text → (cells : List ℕ) × ((lent : List ℕ) × ((refusal (dumping cells (length lent)) ≡ 0) × (text_written cells lent ≡ text)))
    to g =
        let long : length (dump g.cells) ≤ length (dump g.cells) = omega arith in
        let (a, b) = written-dump g.cells (dump g.cells) g.right_length long in
        (g.cells, (dump g.cells, (a, b ∙ g.is_dump)))

    from : (cells lent : List ℕ) → refusal (dumping cells (length lent)) ≡ 0 → text_written cells lent ≡ text → Given text
    from cells lent e t =
        let (right, long) = accepts cells (length lent) e in
        record { cells = cells; right_length = right; is_dump = sym (written-dump cells lent right long).1 ∙ t }

-- ONE LIST OF ROWS

-- a text is the dump of at most one list of rows: buffers with one dump have the same reduced cells
pub one-text : (text : List ℕ) (g h : Given text) → reduced g.cells ≡ reduced h.cells
one-text text g h =
    let rows =
    one-dump text (all_rows (reduced g.cells)) (all_rows (reduced h.cells)) (rw (← g.is_dump) (dumped g.cells g.right_length))
    (rw (← h.is_dump) (dumped h.cells h.right_length)) in
    sym (read-cells g.cells g.right_length) ∙ ap flat rows ∙ read-cells h.cells h.right_length

one-length : (text : List ℕ) (g h : Given text) → length g.cells ≡ length h.cells
one-length text g h = sym (length-reduced g.cells) ∙ ap (λ (l : List ℕ). length l) (one-text text g h) ∙ length-reduced h.cells

-- THE COMPUTED ANSWER IS RIGHT

reduced-small : (l : List ℕ) → Below l → reduced l ≡ l
unfolding Below reduced
reduced-small [] b = refl
reduced-small (x ∷ l) b = rw (read_small x b.0, reduced-small l b.1)

below_app : (l m : List ℕ) → Below l → Below m → Below (l ++ m)
unfolding Below
below_app [] m h k = k
below_app (x ∷ l) m h k = (h.0, below_app l m h.1 k)

below-flat : (rows : List (List ℕ)) → Rows rows → Below (flat rows)
unfolding flat Rows Below
below-flat [] r = tt
below-flat (row ∷ rows) r = below_app row (flat rows) r.0.1 (below-flat rows r.1)

wide : (rows : List (List ℕ)) → Rows rows → Wide rows
unfolding Rows Wide
wide [] r = tt
wide (row ∷ rows) r = (r.0.0, wide rows r.1)

all-flat : (rows : List (List ℕ)) → Rows rows → all_rows (reduced (flat rows)) ≡ rows
unfolding all_rows
all-flat rows r =
    let w = wide rows r in
    let e : length (flat rows) / 49 ≡ length rows = omega (arith, length-flat rows w) in
    rw (reduced-small (flat rows) (below-flat rows r), e)
    (ap (rows_of (length rows)) (sym (append-nil (flat rows))) ∙ rows-flat rows [] w)

dump-flat : (rows : List (List ℕ)) → Rows rows → dump (flat rows) ≡ dump_rows rows
unfolding dump
dump-flat rows r = ap dump_rows (all-flat rows r)

-- rows that are read, and are few enough, are a buffer whose dump the text is
few-given : (text : List ℕ) (o : Option (List (List ℕ))) (rows : List (List ℕ)) → undump text ≡ o → few_rows o ≡ some rows → Given text
unfolding few_rows
few-given text none rows e f = let z : ◌≡◌ {A = ℕ} 0 1 = cc in absurd (omega arith)
few-given text (some found) rows e f = go (ltb 16777216 (length found)) refl f
  where
    go : (t : Bool) → ltb 16777216 (length found) ≡ t → pick t none (some found) ≡ some rows → Given text
    go true h f = let z : ◌≡◌ {A = ℕ} 0 1 = cc in absurd (omega arith)
    go false h f =
        let d = read-dumped text found e in
        let long = length-flat found (wide found d.cells) in
        record {
          cells = flat found;
          right_length =
              not-refused (flat found) (record { rows = length found; some_rows = d.some_rows; rows_few = ltb-false 16777216 (length found) h; long = long });
          is_dump = dump-flat found d.cells ∙ sym d.is_dump;
        }

-- of a text that is given the rows of its buffer are read, which are few
module _ (text : List ℕ) (g : Given text) where
  abbrev its-rows : List (List ℕ)
  its-rows = all_rows (reduced g.cells)

  its-length : 49 * length its-rows ≡ length g.cells
  its-length =
      let (a, b, c) = whole (length g.cells) g.right_length in
      omega (arith, many g.cells g.right_length)

  few : few_rows (undump text) ≡ some its-rows
  unfolding few_rows
  few =
      let (a, b, c) = whole (length g.cells) g.right_length in
      rw (
        reads-dumps text its-rows (rw (← g.is_dump) (dumped g.cells g.right_length)),
        le-ltb 16777216 (length its-rows) (omega (arith, many g.cells g.right_length)),
      )

module _ (text lent : List ℕ) where
  abbrev Computed : Answer (List (List ℕ)) → Type 0
  Computed a = ReadsDump text lent (refusal a) (rows_read a) (cells_after a lent)

  by-given : buffer_wrong (length lent) ≡ false → (g : Given text) → (t : Bool) → ltb (length lent) (length g.cells) ≡ t
      → Computed (pick t (refused 11) (accepted (all_rows (reduced g.cells))))
  unfolding rows_read cells_after
  by-given w g true e = ReadsDump.too_short w g (ltb-true (length lent) (length g.cells) e)
  by-given w g false e =
      rw (its-length text g, read-cells g.cells g.right_length)
      (ReadsDump.come_back w g (ltb-false (length lent) (length g.cells) e) (length (all_rows (reduced g.cells))) (its-length text g))

  by_rows : buffer_wrong (length lent) ≡ false → (o : Option (List (List ℕ))) → few_rows (undump text) ≡ o → Computed (undumping o (length lent))
  unfolding rows_read cells_after undumping
  by_rows w none e = ReadsDump.not_given w (λ g. not_none g)
    where
      not_none : Given text → ⊥
      not_none g =
          let n : some (all_rows (reduced g.cells)) ≡ none = sym (few text g) ∙ e in
          let z : ◌≡◌ {A = ℕ} 0 1 = cc in
          omega arith
  by_rows w (some rows) e =
      let g = few-given text (undump text) rows refl e in
      let same : rows ≡ all_rows (reduced g.cells) = cc (e, few text g) in
      rw (same, its-length text g) (by-given w g (ltb (length lent) (length g.cells)) refl)

  reads-right : Computed (reading_dump text (length lent))
  unfolding reading_dump rows_read cells_after
  reads-right = go (buffer_wrong (length lent)) refl
    where
      go : (t : Bool) → buffer_wrong (length lent) ≡ t → Computed (pick t (refused 11) (undumping (few_rows (undump text)) (length lent)))
      go true w = ReadsDump.wrong_length w
      go false w = by_rows w (few_rows (undump text)) refl

  pub right-as : (a : Answer (List (List ℕ))) → reading_dump text (length lent) ≡ a → Computed a
  right-as a e = rw (← e) reads-right

-- WHAT THE READER ANSWERS, EXACTLY

module _ (text lent : List ℕ) where
  -- there is one right answer: number, rows and the cells left
  pub one_answer : (n n' rows rows' : ℕ) (left left' : List ℕ) → ReadsDump text lent n rows left → ReadsDump text lent n' rows' left' → (n ≡ n') × (rows ≡ rows') × (left ≡ left')
  one_answer n n' rows rows' left left' (ReadsDump.wrong_length w) (ReadsDump.wrong_length w') = (refl, refl, refl)
  one_answer n n' rows rows' left left' (ReadsDump.wrong_length w) (ReadsDump.not_given w' h') = absurd (no_true (sym w ∙ w'))
  one_answer n n' rows rows' left left' (ReadsDump.wrong_length w) (ReadsDump.too_short w' g' l') = absurd (no_true (sym w ∙ w'))
  one_answer n n' rows rows' left left' (ReadsDump.wrong_length w) (ReadsDump.come_back w' g' l' r' e') = absurd (no_true (sym w ∙ w'))
  one_answer n n' rows rows' left left' (ReadsDump.not_given w h) (ReadsDump.wrong_length w') = absurd (no_true (sym w' ∙ w))
  one_answer n n' rows rows' left left' (ReadsDump.not_given w h) (ReadsDump.not_given w' h') = (refl, refl, refl)
  one_answer n n' rows rows' left left' (ReadsDump.not_given w h) (ReadsDump.too_short w' g' l') = absurd (h g')
  one_answer n n' rows rows' left left' (ReadsDump.not_given w h) (ReadsDump.come_back w' g' l' r' e') = absurd (h g')
  one_answer n n' rows rows' left left' (ReadsDump.too_short w g l) (ReadsDump.wrong_length w') = absurd (no_true (sym w' ∙ w))
  one_answer n n' rows rows' left left' (ReadsDump.too_short w g l) (ReadsDump.not_given w' h') = absurd (h' g)
  one_answer n n' rows rows' left left' (ReadsDump.too_short w g l) (ReadsDump.too_short w' g' l') = (refl, refl, refl)
  one_answer n n' rows rows' left left' (ReadsDump.too_short w g l) (ReadsDump.come_back w' g' l' r' e') = absurd (omega (arith, one-length text g g'))
  one_answer n n' rows rows' left left' (ReadsDump.come_back w g l r e) (ReadsDump.wrong_length w') = absurd (no_true (sym w' ∙ w))
  one_answer n n' rows rows' left left' (ReadsDump.come_back w g l r e) (ReadsDump.not_given w' h') = absurd (h' g)
  one_answer n n' rows rows' left left' (ReadsDump.come_back w g l r e) (ReadsDump.too_short w' g' l') = absurd (omega (arith, one-length text g g'))
  one_answer n n' rows rows' left left' (ReadsDump.come_back w g l r e) (ReadsDump.come_back w' g' l' r' e') =
      (refl, omega (arith, one-length text g g'), rw (one-text text g g', one-length text g g'))

  module _ (n rows : ℕ) (left : List ℕ) (answer : ReadsDump text lent n rows left) where
    is-answer : (n' rows' : ℕ) (left' : List ℕ) → ReadsDump text lent n' rows' left' → (n ≡ n') × (rows ≡ rows') × (left ≡ left')
    is-answer n' rows' left' right = one_answer n n' rows rows' left left' answer right

    -- "29 when a text read is none that the writer gives": exactly, where the lent buffer has a right length
    pub gets-29 : (n ≡ 29) ↔ ((buffer_wrong (length lent) ≡ false) × (Given text → ⊥))
    gets-29 = (λ e. to e answer, λ h. (is-answer 29 0 lent (ReadsDump.not_given h.0 h.1)).0)
      where
        to : {m r : ℕ} {l : List ℕ} → m ≡ 29 → ReadsDump text lent m r l → (buffer_wrong (length lent) ≡ false) × (Given text → ⊥)
        to e (ReadsDump.wrong_length w) = absurd (omega arith)
        to e (ReadsDump.not_given w h) = (w, h)
        to e (ReadsDump.too_short w g l) = absurd (omega arith)
        to e (ReadsDump.come_back w g l r f) = absurd (omega arith)

    -- "a cell buffer too short for a good text gets 11", as does a wrong length
    pub gets-11 : (n ≡ 11) ↔ ((buffer_wrong (length lent) ≡ true) ⊎ ((buffer_wrong (length lent) ≡ false) × ((g : Given text) × (length lent < length g.cells))))
    gets-11 = (λ e. to e answer, from)
      where
        to : {m r : ℕ} {l : List ℕ} → m ≡ 11 → ReadsDump text lent m r l
            → (buffer_wrong (length lent) ≡ true) ⊎ ((buffer_wrong (length lent) ≡ false) × ((g : Given text) × (length lent < length g.cells)))
        to e (ReadsDump.wrong_length w) = inl w
        to e (ReadsDump.not_given w h) = absurd (omega arith)
        to e (ReadsDump.too_short w g l) = inr (w, (g, l))
        to e (ReadsDump.come_back w g l r f) = absurd (omega arith)

        from : (buffer_wrong (length lent) ≡ true) ⊎ ((buffer_wrong (length lent) ≡ false) × ((g : Given text) × (length lent < length g.cells))) → n ≡ 11
        from (inl w) = (is-answer 11 0 lent (ReadsDump.wrong_length w)).0
        from (inr x) = (is-answer 11 0 lent (ReadsDump.too_short x.0 x.1.0 x.1.1)).0

    -- a text that is given, where there is room for it, is read as the buffer whose dump it is
    pub reads-given : buffer_wrong (length lent) ≡ false → (g : Given text) → length g.cells ≤ length lent
        → (n ≡ 0) × (49 * rows ≡ length g.cells) × (left ≡ reduced g.cells ++ drop (length g.cells) lent)
    reads-given w g h =
        let k = length (all_rows (reduced g.cells)) in
        let (a, b, c) = is-answer 0 k (reduced g.cells ++ drop (length g.cells) lent) (ReadsDump.come_back w g h k (its-length text g)) in
        (a, omega (arith, its-length text g), c)

-- WRITTEN AND READ

-- "so that the reduced cells come back for every buffer of at least one row": where the lent text and the lent cells are long enough, the writer accepts,
-- and whatever the reader answers and leaves of its text is 0, the rows, and the reduced cells in front of the cells behind them
pub come-back : (cells text room : List ℕ) → Buffer cells → Buffer room → length (dump cells) ≤ length text → length cells ≤ length room →
    (refusal (dumping cells (length text)) ≡ 0)
    × ((n rows : ℕ) (left : List ℕ) → ReadsDump (text_written cells text) room n rows left
    → (n ≡ 0) × (49 * rows ≡ length cells) × (left ≡ reduced cells ++ drop (length cells) room))
come-back cells text room b r h l =
    let right = not-refused cells b in
    let (w, t) = written-dump cells text right h in
    let given : Given (text_written cells text) = record { cells = cells; right_length = right; is_dump = sym t } in
    (w, λ n rows left answer. reads-given (text_written cells text) room n rows left answer (right_length room r) given l)
