-- The rows of a proper run after the five passes are read as the nesting that ran.
use mathlib.Core.Path.{◌≡◌, ◌∙◌, refl, ap}
use mathlib.Core.Bool.{Bool, true, false}
use mathlib.Core.List.Memᴰ
use mathlib.Core.List.{List, [], ◌∷◌, ◌++◌, append_assoc}
use mathlib.Core.Logic.{⊎_elim}
use Prim.Native.Nat.{ℕ, suc, ◌+◌, ◌-◌, ◌≤◌, ◌<◌}
use native.Mathlib.Omega.{arith}
use lib.Dec.{eqb}
use lib.ListN.{length, get_or, length-append}
use Rattle.field.specs.Modulus.{P}
use Rattle.field.specs.Cells.{reduced}
use Rattle.groups.specs.Answer.{pick}
use Rattle.rows.specs.declared.records.profile.Profile.{Profile}
use Rattle.rows.specs.declared.records.address_state.DecoderState.{DecoderState}
use Rattle.rows.specs.records.Forests.{Forest}
use Rattle.rows.specs.records.Profiles.{two_equal, profile_wrong}
use Rattle.rows.specs.records.Buffers.{last_row, h4_of, opcode_of}
use Rattle.rows.specs.passes.Passes.{fixed_up, multiplied, inverted, halt_row, halted, padding_rows, padded}
use Rattle.rows.proofs.passes.RowLists.{Wide, wide-app}
use Rattle.rows.proofs.passes.FirstRows.{Cells25, fixed-wide, fixed-length}
use Rattle.rows.proofs.passes.Written.{multiplied-wide, multiplied-length}
use Rattle.theory_readings.specs.Tokens.{Token, count_of, token_of, tokens_of}
use Rattle.theory_readings.specs.Readings.{numbered, OnlyHalts, Halts, WordOf, depth_of, Ask, asks, Meets, AllMet, Reading}
use Rattle.theory_runs.specs.Happened.{Cycle}
use Rattle.theory_runs.specs.ProperRuns.{Run, tree_from, loop_starts}
use Rattle.theory_runs.proofs.Looks.{none, flag, count, Seen, seen, mark_of, look, looks, looks-app, laid}
use Rattle.theory_runs.proofs.Spelled.{tokens_in, run-spell}
use Rattle.theory_runs.proofs.Tallied.{hits, counted, shows, shown}
use Rattle.theory_runs.proofs.Counted.{whole-counts, run-shown}
use Rattle.theory_runs.proofs.PassLooks.{fixed-looks, multiplied-looks, inverted-looks, inverted-wide, inverted-length, AllHalting, halting-halt, halting-paddings, halting-wide, length-paddings}

-- HALT ROWS

unfoldable HaltSeen : List Seen → Type 0
HaltSeen [] = Unit {0}
HaltSeen (x ∷ l) = (x ≡ seen Token.halt 0 none) × HaltSeen l

halting-seen : (p : Profile) (rows : List (List ℕ)) → AllHalting p rows → HaltSeen (looks p rows)
unfolding AllHalting looks HaltSeen
halting-seen p [] h = tt
halting-seen p (row ∷ rows) h = (h.0.shows_halt, halting-seen p rows h.1)

only-halts : (l : List Seen) (n : ℕ) → HaltSeen l → OnlyHalts (numbered n (tokens_in l))
unfolding HaltSeen OnlyHalts numbered tokens_in
only-halts [] n h = tt
only-halts (seen token addr mark ∷ l) n h = let e = h.0 in ((cc), only-halts l (suc n) h.1)

some-halts : (x : Seen) (l : List Seen) (n : ℕ) → HaltSeen (x ∷ l) → Halts (numbered n (tokens_in (x ∷ l)))
unfolding HaltSeen Halts numbered tokens_in
some-halts (seen token addr mark) l n h = let e = h.0 in ((cc), only-halts l (suc n) h.1)

shown-halts : (l : List Seen) (n : ℕ) → HaltSeen l → shown n l ≡ []
unfolding HaltSeen shown shows
shown-halts [] n h = refl
shown-halts (seen token addr mark ∷ l) n h = let e = h.0 in let k : mark ≡ none = cc in rw k (shown-halts l (suc n) h.1)

shown-app : (l m : List Seen) (n : ℕ) → HaltSeen m → shown n (l ++ m) ≡ shown n l
unfolding shown
shown-app [] m n h = shown-halts m n h
shown-app (seen token addr mark ∷ l) m n h = ap (shows n mark) (shown-app l m (suc n) h)

-- TOKENS

tokens-looks : (p : Profile) (rows : List (List ℕ)) → tokens_of p rows ≡ tokens_in (looks p rows)
unfolding tokens_of tokens_in looks look
tokens-looks p [] = refl
tokens-looks p (row ∷ rows) = ap (λ y. token_of p row ∷ y) (tokens-looks p rows)

tokens-counted : (m : ℕ → ℕ) (l q : List Seen) → tokens_in (counted m l ++ q) ≡ tokens_in (l ++ q)
unfolding tokens_in counted
tokens-counted m [] q = refl
tokens-counted m (seen token addr mark ∷ l) q = ap (λ y. token ∷ y) (tokens-counted m l q)

-- FLAGS AND COUNTS

met-flag : (all : List (List ℕ)) (n v : ℕ) (r : List Ask) → h4_of (get_or all n []) ≡ v → AllMet all r → AllMet all (Ask.flag n v ∷ r)
unfolding AllMet Meets
met-flag all n v r e h = λ a m. ⊎_elim (λ i. rw i e) (λ j. h a j) (Memᴰ.cases_cons m)

met-count : (all : List (List ℕ)) (n v : ℕ) (r : List Ask) → count_of (get_or all n []) ≡ v → AllMet all r → AllMet all (Ask.count n v ∷ r)
unfolding AllMet Meets
met-count all n v r e h = λ a m. ⊎_elim (λ i. rw i e) (λ j. h a j) (Memᴰ.cases_cons m)

met-mark : (all : List (List ℕ)) (n : ℕ) (row : List ℕ) (e l : Bool) (r : List Ask) → get_or all n [] ≡ row → AllMet all r → AllMet all (shows n (pick e (flag (h4_of row)) (pick l (count (count_of row)) none)) r)
unfolding shows
met-mark all n row true l r i h = met-flag all n (h4_of row) r (ap (λ (x : List ℕ). h4_of x) i) h
met-mark all n row false true r i h = met-count all n (count_of row) r (ap (λ (x : List ℕ). count_of x) i) h
met-mark all n row false false r i h = h

shown-met : (p : Profile) (all rows : List (List ℕ)) (n : ℕ) → ((i : ℕ) → i < length rows → get_or all (n + i) [] ≡ get_or rows i []) → AllMet all (shown n (looks p rows))
unfolding looks look mark_of shown AllMet
shown-met p all [] n h = λ a m. absurd (Memᴰ.not-nil m)
shown-met p all (row ∷ rows) n h =
    met-mark all n row (eqb (opcode_of row) p.end) (eqb (opcode_of row) p.loop_op) (shown (suc n) (looks p rows)) (ap (λ (k : ℕ). get_or all k []) (omega arith) ∙ h 0 (omega arith))
    (shown-met p all rows (suc n) (λ i k. ap (λ (j : ℕ). get_or all j []) (omega arith) ∙ h (suc i) (omega arith)))

-- THE LAST ROW

pub last_snoc : (rows : List (List ℕ)) (x : List ℕ) → last_row (rows ++ (x ∷ [])) ≡ x
unfolding last_row
last_snoc [] x = refl
last_snoc (row ∷ []) x = refl
last_snoc (row ∷ next ∷ rows) x = last_snoc (next ∷ rows) x

module _ (p : Profile) (right : profile_wrong p ≡ false) (size : ℕ) (top : List ℕ) (lasts : List (List ℕ)) (built : List ℕ) (height : ℕ) (rows : List (List ℕ))
    (lasts-wide : Cells25 lasts) (built-wide : length built ≡ 25) (rows-wide : Wide rows) (room : length rows < height) where
  -- the rows after three passes, and after all
  abbrev pub counted-rows : List (List ℕ)
  counted-rows = inverted (multiplied p (fixed_up size top lasts rows))

  abbrev pub all-rows : List (List ℕ)
  all-rows = padded p height (halted p built counted-rows)

  abbrev halt-row : List ℕ
  halt-row = halt_row p built (last_row counted-rows)

  abbrev halt-rows : List (List ℕ)
  halt-rows = halt-row ∷ padding_rows p (height - length (halted p built counted-rows)) (length (halted p built counted-rows)) halt-row

  all_split : all-rows ≡ counted-rows ++ halt-rows
  unfolding padded halted
  all_split =
      ap (λ x. (counted-rows ++ (halt-row ∷ [])) ++ padding_rows p (height - length (counted-rows ++ (halt-row ∷ []))) (length (counted-rows ++ (halt-row ∷ []))) x) (last_snoc counted-rows halt-row)
      ∙ append_assoc counted-rows (halt-row ∷ []) _

  three-wide : Wide counted-rows
  three-wide = inverted-wide (multiplied p (fixed_up size top lasts rows)) (multiplied-wide p (fixed_up size top lasts rows) (fixed-wide rows lasts size top lasts-wide rows-wide))

  pub three-length : length counted-rows ≡ length rows
  three-length = inverted-length (multiplied p (fixed_up size top lasts rows)) ∙ multiplied-length p (fixed_up size top lasts rows) ∙ fixed-length rows lasts size top

  halts-halting : AllHalting p halt-rows
  unfolding AllHalting
  halts-halting =
      let h = halting-halt p right built (last_row counted-rows) built-wide in
      (h, halting-paddings p right (height - length (halted p built counted-rows)) (length (halted p built counted-rows)) halt-row h.wide)

  pub halted-wide : Wide (halted p built counted-rows)
  unfolding halted Wide
  halted-wide = wide-app counted-rows (halt-row ∷ []) three-wide ((halting-halt p right built (last_row counted-rows) built-wide).wide, tt)

  pub halted-length : length (halted p built counted-rows) ≡ length rows + 1
  unfolding halted
  halted-length = length-append counted-rows (halt-row ∷ []) ∙ omega (arith, three-length)

  pub all-wide : Wide all-rows
  all-wide = rw all_split (wide-app counted-rows halt-rows three-wide (halting-wide p halt-rows halts-halting))

  pub all-length : length all-rows ≡ height
  all-length =
      ap (λ (l : List (List ℕ)). length l) all_split ∙ length-append counted-rows halt-rows
      ∙ omega (arith, three-length, halted-length, length-paddings p (height - length (halted p built counted-rows)) (length (halted p built counted-rows)) halt-row)

  module _ (cycles : List Cycle) (state : DecoderState) (shows-laid : looks p rows ≡ laid p cycles state) (few : length rows < P) where
    abbrev counts : ℕ → ℕ
    counts x = hits x (laid p cycles state)

    three-looks : looks p counted-rows ≡ counted counts (laid p cycles state)
    three-looks =
        let fixed : List (List ℕ) = fixed_up size top lasts rows in
        let same = fixed-looks p rows lasts size top lasts-wide rows-wide ∙ shows-laid in
        inverted-looks p (multiplied p fixed) ∙ multiplied-looks p right fixed (omega (arith, few, fixed-length rows lasts size top)) (fixed-wide rows lasts size top lasts-wide rows-wide)
        ∙ ap (λ (l : List Seen). counted (λ x. hits x l) l) same

    all-looks : looks p all-rows ≡ counted counts (laid p cycles state) ++ looks p halt-rows
    all-looks = ap (looks p) all_split ∙ looks-app p counted-rows halt-rows ∙ ap (λ y. y ++ looks p halt-rows) three-looks

    module _ {forest : Forest} {id a b g : ℕ} (d : Run p forest id false a b g cycles []) (apart : two_equal (reduced (loop_starts cycles)) ≡ false) (shallow : depth_of (tree_from p 0 d).0 ≤ 64) where
      word : WordOf (tokens_of p all-rows) (tree_from p 0 d).0
      unfolding WordOf laid looks
      word = (
        numbered (tree_from p 0 d).1 (tokens_in (looks p halt-rows)),
        ap (numbered 0) (tokens-looks p all-rows ∙ ap tokens_in all-looks ∙ tokens-counted counts (laid p cycles state) (looks p halt-rows)) ∙ run-spell p (looks p halt-rows) 0 state d,
        some-halts (look p halt-row) (looks p (padding_rows p (height - length (halted p built counted-rows)) (length (halted p built counted-rows)) halt-row)) (tree_from p 0 d).1 (halting-seen p halt-rows halts-halting),
      )

      shown-asks : shown 0 (looks p all-rows) ≡ asks (tree_from p 0 d).0
      unfolding asks laid counted shown
      shown-asks =
          ap (shown 0) all-looks ∙ shown-app (counted counts (laid p cycles state)) (looks p halt-rows) 0 (halting-seen p halt-rows halts-halting)
          ∙ run-shown p counts 0 state d [] (whole-counts p d state apart)

      met : AllMet all-rows (asks (tree_from p 0 d).0)
      met = rw shown-asks at (shown-met p all-rows all-rows 0 (λ i h. ap (λ (k : ℕ). get_or all-rows k []) (omega arith)))

      -- the rows are those of a trace, and its reading is the nesting that ran
      pub all-reading : Reading p all-rows (tree_from p 0 d).0
      unfolding Reading
      all-reading = (word, shallow, met)
