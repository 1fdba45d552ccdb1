-- Document 01, "Reading a trace (added)": what a row of 49 cells is to a profile.
use Rattle.std.specs.Prelude.{Bool, true, not, ◌&&◌, List, [], ◌∷◌, map, ℕ, ltb, eqb, take, drop}
use Rattle.field.specs.Cells.{cell_at, reduced}
use Rattle.groups.specs.Answer.{pick}
use Rattle.groups.specs.Constants.{op_bits_column, in_span_column, count_column}
use Rattle.rows.specs.declared.records.profile.Profile.{Profile}
use Rattle.rows.specs.records.Profiles.{is_one_of}
use Rattle.rows.specs.records.Buffers.{opcode_of}

-- "SPLIT, CALL, SYSCALL, DYN or DYNCALL, then Block END": the kinds of one child
pub data OneChild : Type 0 where
  split call syscall dyn dyncall : OneChild

-- the kinds of Block
pub data Kind : Type 0 where
  span join loop : Kind
  one : OneChild → Kind

-- a row that starts a Block of a kind, an op with its opcode, RESPAN, REPEAT, END, HALT, or a row that fits nothing
pub data Token : Type 0 where
  start : Kind → Token
  op : (opcode : ℕ) → Token
  respan repeat end halt nothing : Token

-- the opcode that a profile gives a kind
unfoldable pub opcode_of_kind : Profile → Kind → ℕ
opcode_of_kind p Kind.span = p.span
opcode_of_kind p Kind.join = p.join
opcode_of_kind p Kind.loop = p.loop_op
opcode_of_kind p (Kind.one split) = p.split
opcode_of_kind p (Kind.one call) = p.call
opcode_of_kind p (Kind.one syscall) = p.syscall
opcode_of_kind p (Kind.one dyn) = p.dyn_op
opcode_of_kind p (Kind.one dyncall) = p.dyncall

-- the control rows by their opcodes: all of the profile's other than PUSH
unfoldable pub controls : Profile → List (ℕ × Token)
controls p =
    (p.span, start Kind.span)
    ∷ (p.respan, respan)
    ∷ (p.join, start Kind.join)
    ∷ (p.split, start (Kind.one split))
    ∷ (p.loop_op, start Kind.loop)
    ∷ (p.repeat, repeat)
    ∷ (p.call, start (Kind.one call))
    ∷ (p.syscall, start (Kind.one syscall))
    ∷ (p.dyn_op, start (Kind.one dyn))
    ∷ (p.dyncall, start (Kind.one dyncall))
    ∷ (p.end, end)
    ∷ (p.halt, halt)
    ∷ []

-- the token that stands beside an opcode, `other` where there is none
unfoldable pub token_beside : (opcode : ℕ) → List (ℕ × Token) → (other : Token) → Token
token_beside opcode [] other = other
token_beside opcode (x ∷ l) other = pick (eqb opcode x.0) x.1 (token_beside opcode l other)

-- "control rows have in_span 0"
unfoldable pub control_token : Profile → (opcode : ℕ) → Token
control_token p opcode = token_beside opcode (controls p) nothing

-- the profile's opcodes other than PUSH
unfoldable pub control_opcodes : Profile → List ℕ
control_opcodes p = map (λ (x : ℕ × Token). x.0) (controls p)

-- "An op is a row with in_span 1 whose opcode is none of the profile's other than PUSH"
unfoldable pub is_op_opcode : Profile → (opcode : ℕ) → Bool
is_op_opcode p opcode = not (is_one_of opcode (control_opcodes p))

unfoldable pub op_token : Profile → (opcode : ℕ) → Token
op_token p opcode = pick (is_op_opcode p opcode) (op opcode) nothing

-- cells of a row by their places: "in_span, group_count" behind "h0 to h7"; the seven op bits behind addr. "the reading of a trace is that of
-- its reduced cells" (N2)
abbrev pub in_span_of : List ℕ → ℕ
in_span_of row = cell_at row in_span_column

abbrev pub count_of : List ℕ → ℕ
count_of row = cell_at row count_column

abbrev pub op_bits_of : List ℕ → List ℕ
op_bits_of row = reduced (take 7 (drop op_bits_column row))

-- "Other in_span or op-bit cells than 0 and 1 fit nothing."
unfoldable pub all_bits : List ℕ → Bool
all_bits [] = true
all_bits (bit ∷ bits) = ltb bit 2 && all_bits bits

-- what a row is to a profile
unfoldable pub token_of : Profile → (row : List ℕ) → Token
token_of p row =
    pick (all_bits (in_span_of row ∷ op_bits_of row)) (pick (eqb (in_span_of row) 0) (control_token p (opcode_of row)) (op_token p (opcode_of row))) nothing

unfoldable pub tokens_of : Profile → (rows : List (List ℕ)) → List Token
tokens_of p [] = []
tokens_of p (row ∷ rows) = token_of p row ∷ tokens_of p rows
