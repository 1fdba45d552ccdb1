-- The rows of a buffer as the reader sees them: tokens by their place, and what the code keeps of a token.
use Rattle.std.specs.Prelude.{List, ℕ, get_or}
use Rattle.rows.specs.declared.records.profile.Profile.{Profile}
use Rattle.theory_readings.specs.Tokens.{Kind, Token, start, repeat, end, halt, nothing, tokens_of}
use Rattle.theory_readings.specs.Readings.{all_rows}
use Rattle.reader.specs.declared.token.RowKind.{RowKind}
use Rattle.reader.specs.declared.token.RowKind.TheVariants.{Span, Join, One, Loop, Op, Respan, Repeat, End, Halt, Nothing}

-- the tokens of a buffer's rows
unfoldable pub word_in : Profile → (cells : List ℕ) → List Token
word_in p cells = tokens_of p (all_rows cells)

-- the token of row i; past the end, nothing
unfoldable pub token_in : (w : List Token) → (i : ℕ) → Token
token_in w i = get_or w i nothing

abbrev pub token_at : Profile → (cells : List ℕ) → (i : ℕ) → Token
token_at p cells i = token_in (word_in p cells) i

-- what the code keeps of a token: not which kind of one child, not the opcode of an op
unfoldable pub row_kind_of : Token → RowKind
row_kind_of (start Kind.span) = Span
row_kind_of (start Kind.join) = Join
row_kind_of (start Kind.loop) = Loop
row_kind_of (start (Kind.one kind)) = One
row_kind_of (Token.op opcode) = Op
row_kind_of Token.respan = Respan
row_kind_of repeat = Repeat
row_kind_of end = End
row_kind_of halt = Halt
row_kind_of nothing = Nothing

-- an op, by what its opcode would be as a control row's: "An op is a row .. whose opcode is none of the profile's other than PUSH"
unfoldable pub op_kind : (control : RowKind) → RowKind
op_kind Span = Nothing
op_kind Join = Nothing
op_kind One = Nothing
op_kind Loop = Nothing
op_kind Op = Nothing
op_kind Respan = Nothing
op_kind Repeat = Nothing
op_kind End = Nothing
op_kind Halt = Nothing
op_kind Nothing = Op
