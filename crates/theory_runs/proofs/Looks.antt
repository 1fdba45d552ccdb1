-- What a row shows of what a trace is read by: its token, its address, and by its opcode the flag of an END or the count of a LOOP. The rows
-- of cycles show what the cycles did.
use mathlib.Core.Path.{◌≡◌, refl, ap}
use mathlib.Core.Bool.{Bool, true, false}
use mathlib.Core.List.{List, [], ◌∷◌, ◌++◌}
use Prim.Native.Nat.{ℕ, ◌+◌, ◌*◌, ◌/◌, ◌%◌, ◌<◌}
use native.Mathlib.Omega.{arith}
use borrow.Author.Tests.{lt-ltb, eq-eqb}
use lib.Dec.{eqb}
use lib.ListN.{get_or}
use Rattle.field.specs.Modulus.{P}
use Rattle.field.specs.Cells.{cell_at, reduced}
use Rattle.field.proofs.CellLaws.{read_twice, read_small}
use Rattle.groups.specs.Answer.{pick}
use Rattle.rows.specs.declared.records.profile.Profile.{Profile}
use Rattle.rows.specs.declared.records.address_state.DecoderState.{DecoderState}
use Rattle.rows.specs.declared.records.decoder_row.DecoderRow.{DecoderRow}
use Rattle.rows.specs.declared.records.state.SystemCols.{SystemCols}
use Rattle.rows.specs.declared.records.state.StackCols.{StackCols}
use Rattle.rows.specs.records.Profiles.{opcodes, profile_wrong}
use Rattle.rows.specs.records.DecoderRows.{bit, op_bits, decoder_cells}
use Rattle.rows.specs.records.Built.{system_cells, stack_cells}
use Rattle.rows.specs.records.Cells.{row_cells}
use Rattle.rows.specs.records.Buffers.{addr_of, h4_of, low_bits, opcode_of}
use Rattle.theory_readings.specs.Tokens.{OneChild, Kind, Token, opcode_of_kind, control_token, is_op_opcode, op_token, count_of, all_bits, token_of}
use Rattle.theory_readings.proofs.TokenLaws.{kind-token, respan-token, repeat-token, end_token, halt-token}
use Rattle.theory_runs.specs.Happened.{Did, Cycle}
use Rattle.theory_runs.proofs.CycleLaws.{state_after, NoCount, Part, RowBy}
use Rattle.theory_runs.proofs.Opcodes.{small_at, apart-at, op-no-loop, op-no-end}

-- by its opcode an END row has a flag and a LOOP row a count
pub data Mark : Type 0 where
  none : Mark
  flag count : ℕ → Mark

pub data Seen : Type 0 where
  seen : (token : Token) → (addr : ℕ) → (mark : Mark) → Seen

unfoldable pub mark_of : Profile → List ℕ → Mark
mark_of p row = pick (eqb (opcode_of row) p.end) (flag (h4_of row)) (pick (eqb (opcode_of row) p.loop_op) (count (count_of row)) none)

unfoldable pub look : Profile → List ℕ → Seen
look p row = seen (token_of p row) (addr_of row) (mark_of p row)

unfoldable pub looks : Profile → List (List ℕ) → List Seen
looks p [] = []
looks p (row ∷ rows) = look p row ∷ looks p rows

pub looks-app : (p : Profile) (l m : List (List ℕ)) → looks p (l ++ m) ≡ looks p l ++ looks p m
unfolding looks
looks-app p [] m = refl
looks-app p (row ∷ l) m = ap (λ y. look p row ∷ y) (looks-app p l m)

-- what the cycles show; an address is shown as the cell that it is
unfoldable pub start_mark : Kind → Mark
start_mark Kind.span = none
start_mark Kind.join = none
start_mark Kind.loop = count 0
start_mark (Kind.one kind) = none

unfoldable pub laid_row : Did → DecoderState → Seen
laid_row (Did.started kind id b a) state = seen (Token.start kind) (a % P) (start_mark kind)
laid_row (Did.operated id i j opcode) state = seen (Token.op opcode) (state.current_addr % P) none
laid_row (Did.respanned id i) state = seen Token.respan (state.current_addr % P) none
laid_row (Did.repeated id) state = seen Token.repeat (state.current_addr % P) none
laid_row (Did.finished ending id body b a g) state = seen Token.end (b % P) (flag (bit body))
laid_row Did.nothing state = seen Token.nothing (state.current_addr % P) none

unfoldable pub laid : Profile → List Cycle → DecoderState → List Seen
laid p [] state = []
laid p (c ∷ cycles) state = laid_row c.1 state ∷ laid p cycles (state_after p c.1 state)

-- an operation has an op's opcode, and something was done
unfoldable pub Fine : Profile → Did → Type 0
Fine p (Did.started kind id b a) = Unit {0}
Fine p (Did.operated id i j opcode) = is_op_opcode p opcode ≡ true
Fine p (Did.respanned id i) = Unit {0}
Fine p (Did.repeated id) = Unit {0}
Fine p (Did.finished ending id body b a g) = Unit {0}
Fine p Did.nothing = ⊥

-- its opcode is below 128
unfoldable pub Small : Did → Type 0
Small (Did.started kind id b a) = Unit {0}
Small (Did.operated id i j opcode) = opcode < 128
Small (Did.respanned id i) = Unit {0}
Small (Did.repeated id) = Unit {0}
Small (Did.finished ending id body b a g) = Unit {0}
Small Did.nothing = Unit {0}

bit-two : (b : Bool) → bit b < 2
bit-two true = omega arith
bit-two false = omega arith

bit-cell : (x : ℕ) → x < 2 → x % P % P ≡ x
bit-cell x h = omega arith

-- seven bits make their number; written and read as cells they stay as they are
bits-number : (o : ℕ) → o < 128 → low_bits (reduced (reduced (op_bits o))) ≡ o
unfolding low_bits reduced
bits-number o h =
    let s6 : o / 64 % 2 % 2 + 2 * 0 ≡ o / 64 = omega arith in
    let s5 : o / 32 % 2 % 2 + 2 * (o / 64) ≡ o / 32 = omega arith in
    let s4 : o / 16 % 2 % 2 + 2 * (o / 32) ≡ o / 16 = omega arith in
    let s3 : o / 8 % 2 % 2 + 2 * (o / 16) ≡ o / 8 = omega arith in
    let s2 : o / 4 % 2 % 2 + 2 * (o / 8) ≡ o / 4 = omega arith in
    let s1 : o / 2 % 2 % 2 + 2 * (o / 4) ≡ o / 2 = omega arith in
    let s0 : o % 2 % 2 + 2 * (o / 2) ≡ o = omega arith in
    rw (bit-cell (o % 2) (omega arith), bit-cell (o / 2 % 2) (omega arith), bit-cell (o / 4 % 2) (omega arith), bit-cell (o / 8 % 2) (omega arith), bit-cell (o / 16 % 2) (omega arith), bit-cell (o / 32 % 2) (omega arith), bit-cell (o / 64 % 2) (omega arith), s6, s5, s4, s3, s2, s1, s0)

bits-all : (s o : ℕ) → s < 2 → all_bits (s % P % P ∷ reduced (reduced (op_bits o))) ≡ true
unfolding all_bits reduced
bits-all s o h =
    let small : (x : ℕ) → x < 2 → x % P % P < 2 = λ x k. omega arith in
    rw (lt-ltb (s % P % P) 2 (small s h), lt-ltb (o % 2 % P % P) 2 (small (o % 2) (omega arith)), lt-ltb (o / 2 % 2 % P % P) 2 (small (o / 2 % 2) (omega arith)), lt-ltb (o / 4 % 2 % P % P) 2 (small (o / 4 % 2) (omega arith)), lt-ltb (o / 8 % 2 % P % P) 2 (small (o / 8 % 2) (omega arith)), lt-ltb (o / 16 % 2 % P % P) 2 (small (o / 16 % 2) (omega arith)), lt-ltb (o / 32 % 2 % P % P) 2 (small (o / 32 % 2) (omega arith)), lt-ltb (o / 64 % 2 % P % P) 2 (small (o / 64 % 2) (omega arith)))

module _ (p : Profile) (system : SystemCols) (row : DecoderRow) (stack : StackCols) where
  abbrev cells : List ℕ
  cells = row_cells system row stack

  cells-opcode : (o : ℕ) → row.opcode ≡ o → o < 128 → opcode_of cells ≡ o
  unfolding opcode_of row_cells reduced system_cells decoder_cells stack_cells
  cells-opcode o e h = rw (← e) (unfold reduced in bits-number row.opcode (omega arith))

  cells-token : (s o : ℕ) → row.in_basic_block ≡ s → row.opcode ≡ o → s < 2 → o < 128 → token_of p cells ≡ pick (eqb s 0) (control_token p o) (op_token p o)
  unfolding token_of cell_at row_cells reduced system_cells decoder_cells stack_cells
  cells-token s o e f h k =
      rw (bits-all row.in_basic_block row.opcode (omega arith), bit-cell row.in_basic_block (omega arith), ← e)
      (ap (λ x. pick (eqb row.in_basic_block 0) (control_token p x) (op_token p x)) (cells-opcode o f k))

  cells-addr : addr_of cells ≡ row.addr % P
  unfolding cell_at row_cells reduced system_cells decoder_cells stack_cells
  cells-addr = read_twice row.addr

  cells-h4 : h4_of cells ≡ row.hasher_state_second_word.0 % P
  unfolding cell_at row_cells reduced system_cells decoder_cells stack_cells
  cells-h4 = read_twice row.hasher_state_second_word.0

  cells_count : count_of cells ≡ row.group_count % P
  unfolding cell_at row_cells reduced system_cells decoder_cells stack_cells
  cells_count = read_twice row.group_count

  -- a row's look, by its opcode
  module _ (right : profile_wrong p ≡ false) where
    other-look : (addr opcode inside : ℕ) (token : Token) → Part row addr opcode inside → opcode < 128 → inside < 2 → pick (eqb inside 0) (control_token p opcode) (op_token p opcode) ≡ token →
        eqb opcode p.end ≡ false → eqb opcode p.loop_op ≡ false → look p cells ≡ seen token (addr % P) none
    unfolding look mark_of
    other-look addr opcode inside token part small two t e f =
        rw (cells-token inside opcode part.inside_is part.opcode_is two small, cells-opcode opcode part.opcode_is small, cells-addr, part.addr_is, t, e, f)

    end-look : (addr flag' : ℕ) → Part row addr p.end 0 → row.hasher_state_second_word.0 ≡ flag' → flag' < 2 → look p cells ≡ seen Token.end (addr % P) (flag flag')
    unfolding look mark_of opcodes
    end-look addr flag' part h small =
        rw (cells-token 0 p.end part.inside_is part.opcode_is (omega arith) (small_at p right 11 (omega arith)), cells-opcode p.end part.opcode_is (small_at p right 11 (omega arith)), cells-addr, cells-h4, part.addr_is, h, read_small flag' (omega arith), end_token p right, eq-eqb p.end p.end refl)

    loop-look : (addr : ℕ) → Part row addr p.loop_op 0 → row.group_count ≡ 0 → look p cells ≡ seen (Token.start Kind.loop) (addr % P) (count 0)
    unfolding look mark_of opcodes opcode_of_kind
    loop-look addr part h =
        rw (cells-token 0 p.loop_op part.inside_is part.opcode_is (omega arith) (small_at p right 4 (omega arith)), cells-opcode p.loop_op part.opcode_is (small_at p right 4 (omega arith)), cells-addr, cells_count, part.addr_is, h, kind-token p Kind.loop right, apart-at p right 4 11 (omega arith) (omega arith) (λ e. omega arith), eq-eqb p.loop_op p.loop_op refl)

    -- a control row that is neither END nor LOOP, by its opcode's place
    control-look : (i addr opcode : ℕ) (token : Token) → i < 13 → opcode ≡ get_or (opcodes p) i 0 → ¬ (i ≡ 11) → ¬ (i ≡ 4) → Part row addr opcode 0 → control_token p opcode ≡ token → look p cells ≡ seen token (addr % P) none
    unfolding opcodes
    control-look i addr opcode token h e n m part t =
        other-look addr opcode 0 token part (rw e (small_at p right i h)) (omega arith) t (rw e (apart-at p right i 11 h (omega arith) n)) (rw e (apart-at p right i 4 h (omega arith) m))

    start-look : (kind : Kind) (addr : ℕ) → Part row addr (opcode_of_kind p kind) 0 → NoCount kind row → look p cells ≡ seen (Token.start kind) (addr % P) (start_mark kind)
    unfolding opcode_of_kind start_mark NoCount opcodes
    start-look Kind.span addr part h = control-look 0 addr p.span (Token.start Kind.span) (omega arith) refl (λ e. omega arith) (λ e. omega arith) part (kind-token p Kind.span right)
    start-look Kind.join addr part h = control-look 2 addr p.join (Token.start Kind.join) (omega arith) refl (λ e. omega arith) (λ e. omega arith) part (kind-token p Kind.join right)
    start-look Kind.loop addr part h = loop-look addr part h
    start-look (Kind.one OneChild.split) addr part h = control-look 3 addr p.split (Token.start (Kind.one OneChild.split)) (omega arith) refl (λ e. omega arith) (λ e. omega arith) part (kind-token p (Kind.one OneChild.split) right)
    start-look (Kind.one OneChild.call) addr part h = control-look 6 addr p.call (Token.start (Kind.one OneChild.call)) (omega arith) refl (λ e. omega arith) (λ e. omega arith) part (kind-token p (Kind.one OneChild.call) right)
    start-look (Kind.one OneChild.syscall) addr part h = control-look 7 addr p.syscall (Token.start (Kind.one OneChild.syscall)) (omega arith) refl (λ e. omega arith) (λ e. omega arith) part (kind-token p (Kind.one OneChild.syscall) right)
    start-look (Kind.one OneChild.dyn) addr part h = control-look 8 addr p.dyn_op (Token.start (Kind.one OneChild.dyn)) (omega arith) refl (λ e. omega arith) (λ e. omega arith) part (kind-token p (Kind.one OneChild.dyn) right)
    start-look (Kind.one OneChild.dyncall) addr part h = control-look 9 addr p.dyncall (Token.start (Kind.one OneChild.dyncall)) (omega arith) refl (λ e. omega arith) (λ e. omega arith) part (kind-token p (Kind.one OneChild.dyncall) right)

    pub halt-look : Part row 0 p.halt 0 → look p cells ≡ seen Token.halt 0 none
    unfolding opcodes
    halt-look part = control-look 12 0 p.halt Token.halt (omega arith) refl (λ e. omega arith) (λ e. omega arith) part (halt-token p right)

    -- the row of what a cycle did
    pub row-look : (d : Did) (state : DecoderState) → Fine p d → Small d → RowBy p d state row → look p cells ≡ laid_row d state
    unfolding Fine Small RowBy laid_row opcodes op_token
    row-look (Did.started kind id b a) state o s r = start-look kind a r.0 r.1
    row-look (Did.operated id i j opcode) state o s r =
        other-look state.current_addr opcode 1 (Token.op opcode) r s (omega arith) (rw o) (op-no-end p right opcode o) (op-no-loop p right opcode o)
    row-look (Did.respanned id i) state o s r =
        control-look 1 state.current_addr p.respan Token.respan (omega arith) refl (λ e. omega arith) (λ e. omega arith) r (respan-token p right)
    row-look (Did.repeated id) state o s r =
        control-look 5 state.current_addr p.repeat Token.repeat (omega arith) refl (λ e. omega arith) (λ e. omega arith) r (repeat-token p right)
    row-look (Did.finished ending id body b a g) state o s r = end-look b (bit body) r.0 r.1 (bit-two body)
    row-look Did.nothing state o s r = absurd o
