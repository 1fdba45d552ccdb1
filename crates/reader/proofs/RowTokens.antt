-- The rows of a buffer: how many, the token of each, and what the code keeps of a token.
use mathlib.Core.Path.{◌≡◌, ◌∙◌, refl, sym, ap}
use mathlib.Core.Bool.{Bool, true, false}
use mathlib.Core.List.{List, [], ◌∷◌}
use mathlib.Core.Logic.{inl, inr}
use types.Run.{OneOf}
use denote.Enum.Declared.{tag_of, declared}
use Prim.Native.Nat.{ℕ, zero, suc, ◌+◌, ◌/◌, ◌≤◌, ◌<◌}
use native.Mathlib.Omega.{arith}
use native.Mathlib.Nat.{zero-add}
use native.Mathlib.Numerals.{add-one}
use native.Mathlib.Decide.{dec_lt}
use borrow.Author.Tests.{eq-eqb}
use lib.Dec.{T, eqb}
use lib.ListN.{length, get_or, take, drop}
use Rattle.rows.specs.declared.records.profile.Profile.{Profile}
use Rattle.rows.specs.records.Buffers.{rows_of}
use Rattle.rows.specs.records.Buffers as buffer
use Rattle.rows.proofs.passes.RowLists.{length-rows, drop-rows}
use Rattle.theory_readings.specs.Tokens.{OneChild, Kind, Token, start, repeat, end, halt, nothing, token_of, tokens_of}
use Rattle.theory_readings.specs.Readings.{numbered, row_at, all_rows}
use Rattle.theory_readings.proofs.SpelledRows.{tokens_of-length}
use Rattle.reader.specs.Rows.{word_in, token_in, row_kind_of}
use Rattle.reader.specs.ways.FromRow.{rows_from}
use Rattle.reader.specs.declared.token.RowKind.{RowKind}
use Rattle.reader.specs.declared.token.RowKind.TheVariants.{Span, Join, One, Loop, Op, Respan, Repeat, End, Halt, Nothing}
use Rattle.reader.specs.contracts.token.RowKind as declared_kind

-- ROWS AND TOKENS BY THEIR PLACE

pub rows_in : (p : Profile) (cells : List ℕ) → length (word_in p cells) ≡ length cells / 49
unfolding word_in all_rows
rows_in p cells = tokens_of-length p (all_rows cells) ∙ length-rows (length cells / 49) cells

row_in : (n i : ℕ) (cells : List ℕ) → i < n → get_or (rows_of n cells) i [] ≡ buffer.buffer_row i cells
unfolding rows_of buffer.buffer_row
row_in zero i cells h = absurd (omega arith)
row_in (suc n) zero cells h = refl
row_in (suc n) (suc i) cells h = row_in n i (drop 49 cells) (omega arith) ∙ ap (take 49) (drop-rows i cells)

-- a row of the buffer
pub row-of : (cells : List ℕ) (i : ℕ) → i < length cells / 49 → row_at (all_rows cells) i ≡ buffer.buffer_row i cells
unfolding all_rows
row-of cells i h = row_in (length cells / 49) i cells h

tokens-at : (p : Profile) (rows : List (List ℕ)) (i : ℕ) → i < length rows → get_or (tokens_of p rows) i nothing ≡ token_of p (row_at rows i)
unfolding tokens_of
tokens-at p [] i h = absurd (omega arith)
tokens-at p (row ∷ rows) zero h = refl
tokens-at p (row ∷ rows) (suc i) h = tokens-at p rows i (omega arith)

pub token-of : (p : Profile) (cells : List ℕ) (i : ℕ) → i < length cells / 49 → token_in (word_in p cells) i ≡ token_of p (row_at (all_rows cells) i)
unfolding token_in word_in all_rows
token-of p cells i h = tokens-at p (all_rows cells) i (omega (arith, length-rows (length cells / 49) cells))

pub token-past : (w : List Token) (i : ℕ) → length w ≤ i → token_in w i ≡ nothing
unfolding token_in
token-past [] i h = refl
token-past (t ∷ w) zero h = absurd (omega arith)
token-past (t ∷ w) (suc i) h = token-past w i (omega arith)

numbered-cons : (w : List Token) (n i : ℕ) → i < length w → drop i (numbered n w) ≡ (n + i, get_or w i nothing) ∷ drop (suc i) (numbered n w)
unfolding numbered
numbered-cons [] n i h = absurd (omega arith)
numbered-cons (t ∷ w) n zero h = let e : n + 0 ≡ n = omega arith in rw e
numbered-cons (t ∷ w) n (suc i) h = let e : n + suc i ≡ suc n + i = omega arith in rw e (numbered-cons w (suc n) i (omega arith))

numbered-none : (w : List Token) (n i : ℕ) → length w ≤ i → drop i (numbered n w) ≡ []
unfolding numbered
numbered-none [] n zero h = refl
numbered-none [] n (suc i) h = refl
numbered-none (t ∷ w) n zero h = absurd (omega arith)
numbered-none (t ∷ w) n (suc i) h = numbered-none w (suc n) i (omega arith)

-- the rows from a row on are the row and those behind it
pub rows-cons : (w : List Token) (i : ℕ) → i < length w → rows_from w i ≡ (i, token_in w i) ∷ rows_from w (i + 1)
unfolding rows_from token_in
rows-cons w i h = rw (add-one i) (rw (zero-add i) at (numbered-cons w 0 i h))

pub rows_at : (w : List Token) (i : ℕ) (t : Token) → token_in w i ≡ t → i < length w → rows_from w i ≡ (i, t) ∷ rows_from w (i + 1)
rows_at w i t e h = rows-cons w i h ∙ ap (λ (y : Token). (i, y) ∷ rows_from w (i + 1)) e

pub rows_none : (w : List Token) (i : ℕ) → length w ≤ i → rows_from w i ≡ []
unfolding rows_from
rows_none w i h = numbered-none w 0 i h

-- WHAT THE CODE KEEPS OF A TOKEN

-- the token of a kind
abbrev pub Is : RowKind → Token → Type 0
Is Span t = t ≡ start Kind.span
Is Join t = t ≡ start Kind.join
Is One t = (k : OneChild) × (t ≡ start (Kind.one k))
Is Loop t = t ≡ start Kind.loop
Is Op t = (c : ℕ) × (t ≡ Token.op c)
Is Respan t = t ≡ Token.respan
Is Repeat t = t ≡ repeat
Is End t = t ≡ end
Is Halt t = t ≡ halt
Is Nothing t = t ≡ nothing

is-kind : (t : Token) → Is (row_kind_of t) t
unfolding row_kind_of
is-kind (start Kind.span) = refl
is-kind (start Kind.join) = refl
is-kind (start Kind.loop) = refl
is-kind (start (Kind.one k)) = (k, refl)
is-kind (Token.op c) = (c, refl)
is-kind Token.respan = refl
is-kind repeat = refl
is-kind end = refl
is-kind halt = refl
is-kind nothing = refl

-- what the code found is the token
pub found : (t : Token) (k x : RowKind) → k ≡ row_kind_of t → k ≡ x → Is x t
found t k x e f = rw (sym e ∙ f) at (is-kind t)

-- a row that is something lies in the buffer
abbrev pub Something : RowKind → Type 0
Something Span = Unit {0}
Something Join = Unit {0}
Something One = Unit {0}
Something Loop = Unit {0}
Something Op = Unit {0}
Something Respan = Unit {0}
Something Repeat = Unit {0}
Something End = Unit {0}
Something Halt = Unit {0}
Something Nothing = ⊥

pub row_inside : (w : List Token) (i : ℕ) (k : RowKind) → k ≡ row_kind_of (token_in w i) → Something k → i < length w
unfolding row_kind_of
row_inside w i k e h = at (dec_lt i (length w))
  where
    at : Dec (i < length w) → i < length w
    at (yes l) = l
    at (no n) = absurd (rw (e ∙ ap row_kind_of (token-past w i (omega (arith, n)))) at h)

pub token-inside : (w : List Token) (i : ℕ) (t : Token) → token_in w i ≡ t → Something (row_kind_of t) → i < length w
token-inside w i t e h = row_inside w i (row_kind_of t) (ap row_kind_of (sym e)) h

-- a row of the buffer at which something stands
pub record Stands (p : Profile) (cells : List ℕ) (row : ℕ) (x : RowKind) : Type 0 where
  pub token : Is x (token_in (word_in p cells) row)
  pub below : row < length (word_in p cells)
  pub inside : row < length cells / 49

pub stands : (p : Profile) (cells : List ℕ) (row : ℕ) (k x : RowKind) → k ≡ row_kind_of (token_in (word_in p cells) row) → k ≡ x → Something x → Stands p cells row x
stands p cells row k x e f h =
    let l : row < length (word_in p cells) = row_inside (word_in p cells) row x (sym f ∙ e) h in
    record { token = found (token_in (word_in p cells) row) k x e f; below = l; inside = omega (arith, rows_in p cells) }

-- ARMS OF SEVERAL KINDS

-- the number of a kind's variant
abbrev pub tag : RowKind → ℕ
tag k = tag_of (declared declared_kind.enum) k

abbrev or : Bool → Bool → Bool
or true b = true
or false b = b

or_right : (a b : Bool) → T b → T (or a b)
or_right true b h = tt
or_right false b h = h

abbrev has : ℕ → List ℕ → Bool
has x [] = false
has x (k ∷ ks) = or (eqb x k) (has x ks)

-- a number that is one of some keys is found among them
pub among : (k : ℕ) (ks : List ℕ) (x : ℕ) → OneOf (k ∷ ks) x → T (has x (k ∷ ks))
among k [] x e = rw (eq-eqb x k e) tt
among k (j ∷ ks) x (inl e) = rw (eq-eqb x k e) tt
among k (j ∷ ks) x (inr h) = or_right (eqb x k) (has x (j ∷ ks)) (among j ks x h)

-- an op or a RESPAN is something
pub op-something : (k : RowKind) → OneOf (4 ∷ 5 ∷ []) (tag k) → Something k
op-something Span h = tt
op-something Join h = tt
op-something One h = tt
op-something Loop h = tt
op-something Op h = tt
op-something Respan h = tt
op-something Repeat h = tt
op-something End h = tt
op-something Halt h = tt
op-something Nothing h = absurd (among 4 (5 ∷ []) 9 h)
