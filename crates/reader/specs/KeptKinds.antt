-- The kinds of rows as numbers: in a table over the bits of a row, and kept in a list, one number a row. What `reader` hands to `index`.
use Rattle.std.specs.Prelude.{◌≡◌, List, [], ◌∷◌, ℕ, ◌-◌, ◌<◌, ltb, length, get_or}
use Rattle.groups.specs.Answer.{pick}
use Rattle.rows.specs.declared.records.profile.Profile.{Profile}
use Rattle.theory_readings.specs.Tokens.{control_token}
use Rattle.reader.specs.Rows.{token_at, row_kind_of, op_kind}
use Rattle.reader.specs.declared.token.RowKind.{RowKind}
use Rattle.reader.specs.declared.token.RowKind.TheVariants.{Span, Join, One, Loop, Op, Respan, Repeat, End, Halt, Nothing}

-- the kinds by their numbers, from 0; past them, nothing
unfoldable pub kind_numbered : (n : ℕ) → RowKind
kind_numbered n = get_or (Span ∷ Join ∷ One ∷ Loop ∷ Op ∷ Respan ∷ Repeat ∷ End ∷ Halt ∷ []) n Nothing

-- the kind of a row whose in_span and op bits are 0 and 1: `code` is its opcode, and 128 more where in_span is 1
unfoldable pub kind_of_code : Profile → (code : ℕ) → RowKind
kind_of_code p code = pick (ltb code 128) (row_kind_of (control_token p code)) (op_kind (row_kind_of (control_token p (code - 128))))

-- from this number on, a number tells no kind
abbrev pub unknown_kind : ℕ
unknown_kind = 10

-- a table over the 256 codes that has, for each, the number of its kind or one that tells nothing
pub record KindTable (p : Profile) (table : List ℕ) : Type 0 where
  pub places : length table ≡ 256
  pub at_code : (code : ℕ) → code < 256 → get_or table code 0 < unknown_kind → kind_numbered (get_or table code 0) ≡ kind_of_code p code

-- a number is that of the row's kind, or tells nothing
abbrev pub TellsKind : Profile → (cells : List ℕ) → (row n : ℕ) → Type 0
TellsKind p cells row n = n < unknown_kind → kind_numbered n ≡ row_kind_of (token_at p cells row)

-- the table of a profile, and a list with such a number for each of the first rows
pub record KeptKinds (p : Profile) (cells table kinds : List ℕ) : Type 0 where
  pub by_table : KindTable p table
  pub at_row : (row : ℕ) → row < length kinds → TellsKind p cells row (get_or kinds row 0)
