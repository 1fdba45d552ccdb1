-- What a token says of its row, and the rows that have it.
use mathlib.Core.Path.{◌≡◌, ◌∙◌, refl, sym, ap}
use mathlib.Core.Bool.{Bool, true, false, ◌||◌}
use mathlib.Core.List.{List, [], ◌∷◌, ◌++◌, map}
use Prim.Native.Nat.{ℕ, zero, suc, ◌<◌}
use native.Mathlib.Omega.{arith}
use borrow.Author.Tests.{eqb-true, eqb-false, eq-eqb, ne_eqb}
use lib.Dec.{leb, eqb}
use lib.ListN.{length, get_or}
use Rattle.field.specs.Modulus.{P}
use Rattle.groups.specs.Answer.{pick}
use Rattle.rows.specs.declared.records.profile.Profile.{Profile}
use Rattle.field.specs.Bounds.{any_from}
use Rattle.rows.specs.records.Profiles.{opcodes, is_one_of, two_equal, profile_wrong, lacks_bits}
use Rattle.rows.proofs.passes.Checks.{neither}
use Rattle.rows.specs.records.Buffers.{opcode_of}
use Rattle.theory_readings.specs.Tokens.{split, call, syscall, dyn, dyncall, Kind, Token, start, repeat, end, halt, nothing, opcode_of_kind, controls, token_beside, control_token, is_op_opcode, op_token, in_span_of, op_bits_of, all_bits, token_of}

-- a row's opcode is the one that its token names
abbrev pub HasOpcode : Profile → (opcode : ℕ) → Token → Type 0
HasOpcode p opcode (start kind) = opcode ≡ opcode_of_kind p kind
HasOpcode p opcode (Token.op c) = opcode ≡ c
HasOpcode p opcode Token.respan = opcode ≡ p.respan
HasOpcode p opcode repeat = opcode ≡ p.repeat
HasOpcode p opcode end = opcode ≡ p.end
HasOpcode p opcode halt = opcode ≡ p.halt
HasOpcode p opcode nothing = Unit {0}

abbrev AllHave : Profile → List (ℕ × Token) → Type 0
AllHave p [] = Unit {0}
AllHave p (x ∷ l) = HasOpcode p x.0 x.1 × AllHave p l

next-has : (p : Profile) (x : ℕ × Token) (opcode : ℕ) (y : Token) (t : Bool) → eqb opcode x.0 ≡ t → HasOpcode p x.0 x.1 → HasOpcode p opcode y →
    HasOpcode p opcode (pick t x.1 y)
next-has p x opcode y true e h k = rw (eqb-true opcode x.0 e) h
next-has p x opcode y false e h k = k

beside-has : (p : Profile) (l : List (ℕ × Token)) (opcode : ℕ) → AllHave p l → HasOpcode p opcode (token_beside opcode l nothing)
unfolding token_beside
beside-has p [] opcode h = tt
beside-has p (x ∷ l) opcode h = next-has p x opcode (token_beside opcode l nothing) (eqb opcode x.0) refl h.0 (beside-has p l opcode h.1)

controls-have : (p : Profile) → AllHave p (controls p)
unfolding controls opcode_of_kind
controls-have p = (refl, (refl, (refl, (refl, (refl, (refl, (refl, (refl, (refl, (refl, (refl, (refl, tt))))))))))))

op-has : (p : Profile) (opcode : ℕ) (t : Bool) → HasOpcode p opcode (pick t (Token.op opcode) nothing)
op-has p opcode true = refl
op-has p opcode false = tt

pick-has : (p : Profile) (opcode : ℕ) (t : Bool) (x y : Token) → HasOpcode p opcode x → HasOpcode p opcode y → HasOpcode p opcode (pick t x y)
pick-has p opcode true x y h k = h
pick-has p opcode false x y h k = k

-- a reading's opcodes are those of its rows
pub token-opcode : (p : Profile) (row : List ℕ) → HasOpcode p (opcode_of row) (token_of p row)
unfolding token_of control_token op_token
token-opcode p row =
    pick-has p (opcode_of row) (all_bits (in_span_of row ∷ op_bits_of row)) _ nothing
    (pick-has p (opcode_of row) (eqb (in_span_of row) 0) (control_token p (opcode_of row)) (op_token p (opcode_of row))
    (beside-has p (controls p) (opcode_of row) (controls-have p))
    (op-has p (opcode_of row) (is_op_opcode p (opcode_of row))))
    tt

-- rows whose op bits are bits
pub control-row : (p : Profile) (row : List ℕ) → in_span_of row ≡ 0 → all_bits (op_bits_of row) ≡ true → token_of p row ≡ control_token p (opcode_of row)
unfolding token_of all_bits
control-row p row e h = rw (e, h) refl

pub op_row : (p : Profile) (row : List ℕ) → in_span_of row ≡ 1 → all_bits (op_bits_of row) ≡ true → is_op_opcode p (opcode_of row) ≡ true → token_of p row ≡ Token.op (opcode_of row)
unfolding token_of all_bits op_token
op_row p row e h o = rw (e, h, o) refl

-- where no two opcodes are equal, each control opcode has its token
one_less : (x y : ℕ) (l r : List ℕ) → is_one_of x (l ++ (y ∷ r)) ≡ false → is_one_of x (l ++ r) ≡ false
unfolding is_one_of
one_less x y [] r h = (neither (eqb x y) (is_one_of x r) h).1
one_less x y (z ∷ l) r h =
    let (a, b) = neither (eqb x z) (is_one_of x (l ++ (y ∷ r))) h in
    rw (a, one_less x y l r b) refl

two-less : (y : ℕ) (l r : List ℕ) → two_equal (l ++ (y ∷ r)) ≡ false → two_equal (l ++ r) ≡ false
unfolding two_equal
two-less y [] r h = (neither (is_one_of y r) (two_equal r) h).1
two-less y (z ∷ l) r h =
    let (a, b) = neither (is_one_of z (l ++ (y ∷ r))) (two_equal (l ++ (y ∷ r))) h in
    rw (one_less z y l r a, two-less y l r b) refl

abbrev keys : List (ℕ × Token) → List ℕ
keys l = map (λ (x : ℕ × Token). x.0) l

abbrev pub entry : List (ℕ × Token) → (i : ℕ) → ℕ × Token
entry l i = get_or l i (0, nothing)

unlike : (x : ℕ) (l : List (ℕ × Token)) (i : ℕ) → is_one_of x (keys l) ≡ false → i < length l → eqb (entry l i).0 x ≡ false
unfolding is_one_of
unlike x [] i h k = absurd (omega arith)
unlike x (y ∷ l) zero h k = ne_eqb y.0 x (λ e. eqb-false x y.0 (neither (eqb x y.0) (is_one_of x (keys l)) h).0 (sym e))
unlike x (y ∷ l) (suc i) h k = unlike x l i (neither (eqb x y.0) (is_one_of x (keys l)) h).1 (omega arith)

beside_at : (l : List (ℕ × Token)) (i : ℕ) → two_equal (keys l) ≡ false → i < length l → token_beside (entry l i).0 l nothing ≡ (entry l i).1
unfolding token_beside two_equal
beside_at [] i h k = absurd (omega arith)
beside_at (x ∷ l) zero h k = rw (eq-eqb x.0 x.0 refl) refl
beside_at (x ∷ l) (suc i) h k =
    let (a, b) = neither (is_one_of x.0 (keys l)) (two_equal (keys l)) h in
    rw (unlike x.0 l i a (omega arith)) (beside_at l i b (omega arith))

no-two : (p : Profile) → profile_wrong p ≡ false → two_equal (opcodes p) ≡ false
unfolding profile_wrong
no-two p e =
    (neither (two_equal (opcodes p)) (lacks_bits p.halt || (eqb p.step 0 || leb P p.step))
    (neither (any_from 128 (opcodes p)) (two_equal (opcodes p) || (lacks_bits p.halt || (eqb p.step 0 || leb P p.step))) e).1).0

no-two-controls : (p : Profile) → profile_wrong p ≡ false → two_equal (keys (controls p)) ≡ false
unfolding controls opcodes
no-two-controls p e =
    two-less p.push
    (p.span ∷ p.respan ∷ p.join ∷ p.split ∷ p.loop_op ∷ p.repeat ∷ p.call ∷ p.syscall ∷ p.dyn_op ∷ p.dyncall ∷ [])
    (p.end ∷ p.halt ∷ [])
    (no-two p e)

pub control-token : (p : Profile) (i : ℕ) → profile_wrong p ≡ false → i < length (controls p) → control_token p (entry (controls p) i).0 ≡ (entry (controls p) i).1
unfolding control_token
control-token p i e h = beside_at (controls p) i (no-two-controls p e) h

pub kind-token : (p : Profile) (kind : Kind) → profile_wrong p ≡ false → control_token p (opcode_of_kind p kind) ≡ start kind
unfolding controls opcode_of_kind
kind-token p Kind.span e = control-token p 0 e (omega arith)
kind-token p Kind.join e = control-token p 2 e (omega arith)
kind-token p Kind.loop e = control-token p 4 e (omega arith)
kind-token p (Kind.one split) e = control-token p 3 e (omega arith)
kind-token p (Kind.one call) e = control-token p 6 e (omega arith)
kind-token p (Kind.one syscall) e = control-token p 7 e (omega arith)
kind-token p (Kind.one dyn) e = control-token p 8 e (omega arith)
kind-token p (Kind.one dyncall) e = control-token p 9 e (omega arith)

pub respan-token : (p : Profile) → profile_wrong p ≡ false → control_token p p.respan ≡ Token.respan
unfolding controls
respan-token p e = control-token p 1 e (omega arith)

pub repeat-token : (p : Profile) → profile_wrong p ≡ false → control_token p p.repeat ≡ repeat
unfolding controls
repeat-token p e = control-token p 5 e (omega arith)

pub end_token : (p : Profile) → profile_wrong p ≡ false → control_token p p.end ≡ end
unfolding controls
end_token p e = control-token p 10 e (omega arith)

pub halt-token : (p : Profile) → profile_wrong p ≡ false → control_token p p.halt ≡ halt
unfolding controls
halt-token p e = control-token p 11 e (omega arith)

-- so a block's opcode says its kind
pub opcode-kind : (p : Profile) (kind kind' : Kind) → profile_wrong p ≡ false → opcode_of_kind p kind ≡ opcode_of_kind p kind' → kind ≡ kind'
opcode-kind p kind kind' e h =
    let s : start kind ≡ start kind' = sym (kind-token p kind e) ∙ ap (control_token p) h ∙ kind-token p kind' e in
    cc
