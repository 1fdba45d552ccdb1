-- "Inputs that were answered get the same cells as before." (N2) Call records: a record that encoded a call whose cells are below p encodes the same
-- call. What it was refused by may have changed: a clk, ctx or depth over 32 bits is 23 and no longer 1.
use Rattle.std.specs.Prelude.{Option, Some, None, Result, Ok, Err}
use Rattle.groups.specs.declared.refusal.Refusal.{Refusal}
use Rattle.groups.specs.Refusals.{told, told_or}
use Rattle.groups.specs.Constants.{stored_absent}
use Rattle.rows.specs.declared.records.continuation.ExecutionContextInfo.{ExecutionContextInfo}
use mathlib.Core.Path.{◌≡◌, ◌∙◌, refl, sym, ap, subst}
use mathlib.Core.Bool.{Bool, true, false, ◌||◌}
use mathlib.Core.List.{List, [], ◌∷◌, ◌++◌}
use Prim.Native.Nat.{ℕ, ◌≤◌, ◌<◌}
use native.Mathlib.Omega.{arith}
use borrow.Author.Tests.{eqb-true, ltb-true, ne_eqb}
use lib.Dec.{ltb, eqb}
use lib.ListN.{get_or}
use Rattle.field.specs.Modulus.{P}
use Rattle.field.specs.Cells.{read, cell_at}
use Rattle.groups.specs.Answer.{Answer, accepted, refused, and_then, pick}
use Rattle.groups.specs.Words.{word_at, read_word}
use Rattle.groups.specs.Helpers.{read_registers}
use Rattle.groups.specs.declared.word.Word.{Word}
use Rattle.groups.specs.declared.helpers.OperationHelperRegisters.{OperationHelperRegisters}
use Rattle.groups.proofs.Answers.{never, then-accepted, passed}
use Rattle.rows.specs.declared.records.ids.MastNodeId.{MastNodeId}
use Rattle.rows.specs.declared.records.state.SystemState.{SystemState}
use Rattle.rows.specs.declared.records.continuation.Continuation.{Continuation}
use Rattle.rows.specs.declared.records.continuation.StoredValues.{StoredValues}
use Rattle.rows.specs.records.Forests.{node_id}
use Rattle.rows.specs.records.DecoderRows.{word_cells}
use Rattle.rows.specs.records.Built.{cells16}
use Rattle.rows.specs.records.CallRecords.{RecordedCall, stores, finishes, of32, condition_in, callee_in, info_in, continuation_on, names_no_kind, continuation_in, names_nothing, stored_in_record, system_in, stack_in, few_cells, many_cells, registers_in, finish_in, recorded_storing, call_in}
use Rattle.rows.specs.passes.Passes.{word_from}
use Rattle.theory_reductions.specs.Below.{Below}
use Rattle.theory_reductions.specs.ways.ReadSteps.{read_answer}
use Rattle.theory_before_n2.specs.BeforeN2.{register_cells, callee_cells, info_cells, state_cells, callee_in_before, info_in_before, continuation_in_before, stored_in_record_before, system_in_before, stack_in_before, registers_in_before, finish_in_before, call_in_before, call_cells, told_info_before, told_system_before}
use Rattle.theory_before_n2.proofs.SameCells.{below_at, below_both, same-cell_at, same-word_at, same-read_registers}

-- a number of 32 bits is one whatever refuses it
same-of32 : (m n x y : ℕ) → of32 m x ≡ accepted y → of32 n x ≡ accepted y
unfolding of32
same-of32 m n x y e = by (ltb x 4294967296) e
  where
    by : (t : Bool) → pick t (accepted x) (refused m) ≡ accepted y → pick t (accepted x) (refused n) ≡ accepted y
    by true e = e
    by false e = never m y e

-- A STORING

-- the captured info
pub same-info_in : (r : List ℕ) (info : Option ExecutionContextInfo) → info_in_before r ≡ accepted info → Below (info_cells info) → info_in r ≡ accepted info
unfolding info_in info_in_before
same-info_in r info e h = by (eqb (get_or r 12 0) 1) e
  where
    is : ℕ → ℕ → Option ExecutionContextInfo
    is address depth = Some (record { stack_depth = depth; next_overflow_addr = address })

    by : (t : Bool)
        → pick t (and_then (of32 1 (get_or r 13 0)) (λ depth. accepted (is (get_or r 14 0) depth))) (accepted None) ≡ accepted info
        → pick t (and_then (of32 23 (get_or r 13 0)) (λ depth. accepted (is (cell_at r 14) depth))) (accepted None) ≡ accepted info
    by true e =
        let c = then-accepted (of32 1 (get_or r 13 0)) (λ depth. accepted (is (get_or r 14 0) depth)) info e in
        let known : is (get_or r 14 0) c.0 ≡ info = cc c.2 in
        let small : Below (get_or r 14 0 ∷ []) = subst (λ (i : Option ExecutionContextInfo). Below (info_cells i)) (sym known) h in
        rw (same-of32 1 23 (get_or r 13 0) c.0 c.1, same-cell_at r 14 (below_at (get_or r 14 0 ∷ []) 0 small)) c.2
    by false e = e

-- a number that names no kind is none of 1 to 10
no_kind : (kind j : ℕ) → names_no_kind kind ≡ true → 1 ≤ j → j ≤ 10 → eqb kind j ≡ false
unfolding names_no_kind
no_kind kind j e low high = by (eqb kind 0) refl e
  where
    by : (t : Bool) → eqb kind 0 ≡ t → (t || ltb 10 kind) ≡ true → eqb kind j ≡ false
    by true q e = ne_eqb kind j (λ z. omega (arith, eqb-true kind 0 q))
    by false q e = ne_eqb kind j (λ z. omega (arith, ltb-true 10 kind e))

no-continuation : (r : List ℕ) (kind : ℕ) (id : MastNodeId) → names_no_kind kind ≡ true → continuation_on r kind id ≡ refused 23
unfolding continuation_on
no-continuation r kind id e =
    let is-not : (j : ℕ) → 1 ≤ j → j ≤ 10 → eqb kind j ≡ false = λ j low high. no_kind kind j e low high in
    rw (
      is-not 1 (omega arith) (omega arith),
      is-not 2 (omega arith) (omega arith),
      is-not 3 (omega arith) (omega arith),
      is-not 4 (omega arith) (omega arith),
      is-not 5 (omega arith) (omega arith),
      is-not 6 (omega arith) (omega arith),
      is-not 7 (omega arith) (omega arith),
      is-not 8 (omega arith) (omega arith),
      is-not 9 (omega arith) (omega arith),
    )

-- the continuation
pub same-continuation_in : (r : List ℕ) (c : Continuation) → continuation_in_before r ≡ accepted c → continuation_in r ≡ accepted c
unfolding continuation_in continuation_in_before
same-continuation_in r c e = by (names_no_kind kind) refl
  where
    kind : ℕ
    kind = get_or r 1 0

    on : ℕ → Answer Continuation
    on id = continuation_on r kind (node_id id)

    by : (t : Bool) → names_no_kind kind ≡ t → pick t (refused 23) (pick (eqb kind 10) (accepted Continuation.EnterForest) (and_then (of32 3 (get_or r 2 0)) on)) ≡ accepted c
    by false q = e
    by true q =
        let late = then-accepted (of32 3 (get_or r 2 0)) on c (rw (no_kind kind 10 q (omega arith) (omega arith)) at e) in
        never 23 c (sym (no-continuation r kind (node_id late.0) q) ∙ late.2)

-- a callee word below p
same-callee_in : (r : List ℕ) → Below (callee_cells (callee_in_before r)) → callee_in r ≡ callee_in_before r
unfolding callee_in callee_in_before
same-callee_in r h = by (eqb (get_or r 7 0) 1) h
  where
    by : (t : Bool)
        → Below (callee_cells (pick t (Some (word_from r 8)) None))
        → pick t (Some (word_at r 8)) None ≡ pick t (Some (word_from r 8)) None
    by true h = rw (same-word_at r 8 h)
    by false h = refl

-- the values of a storing
pub same-stored_in_record : (r : List ℕ) (values : StoredValues)
    → stored_in_record_before r ≡ accepted values → Below (callee_cells values.captured.dyn_callee_hash ++ info_cells values.captured.ctx_info) → stored_in_record r ≡ accepted values
unfolding stored_in_record stored_in_record_before
same-stored_in_record r values e h =
    let a = then-accepted (info_in_before r) (λ info. and_then (continuation_in_before r) (λ c. checked (all c info))) values e in
    let b = then-accepted (continuation_in_before r) (λ c. checked (all c a.0)) values a.2 in
    let same = passed (names_nothing r) 23 (accepted (all b.0 a.0)) values b.2 in
    let is : all b.0 a.0 ≡ values = cc in
    let (callee, info) = below_both (callee_cells (callee_in_before r)) (info_cells a.0)
    (subst (λ (v : StoredValues). Below (callee_cells v.captured.dyn_callee_hash ++ info_cells v.captured.ctx_info)) (sym is) h) in
    rw (same-continuation_in r b.0 b.1, same-info_in r a.0 a.1 info, same-callee_in r callee) b.2
  where
    all : Continuation → Option ExecutionContextInfo → StoredValues
    all c info = record {
      continuation = c;
      is_loop_body = eqb (get_or r 5 0) 1;
      captured = record { finish_loop_condition = condition_in r; dyn_callee_hash = callee_in_before r; ctx_info = info };
    }

    checked : StoredValues → Answer StoredValues
    checked v = pick (names_nothing r) (refused 23) (accepted v)

-- A FINISH

-- the system state
pub same-system_in : (r : List ℕ) (system : SystemState) → system_in_before r ≡ accepted system → Below (word_cells system.fn_hash) → system_in r ≡ accepted system
unfolding system_in system_in_before
same-system_in r system e h =
    let a = then-accepted (of32 1 (get_or r 2 0)) (λ clk. and_then (of32 1 (get_or r 3 0)) (λ ctx. accepted (all clk ctx))) system e in
    let b = then-accepted (of32 1 (get_or r 3 0)) (λ ctx. accepted (all a.0 ctx)) system a.2 in
    let is : all a.0 b.0 ≡ system = cc b.2 in
    let small : Below (word_cells (word_from r 4)) = subst (λ (s : SystemState). Below (word_cells s.fn_hash)) (sym is) h in
    rw (same-of32 1 23 (get_or r 2 0) a.0 a.1, same-of32 1 23 (get_or r 3 0) b.0 b.1, same-word_at r 4 small) b.2
  where
    all : ℕ → ℕ → SystemState
    all clk ctx = record { clk = record { 0 = clk }; ctx = record { 0 = ctx }; fn_hash = word_from r 4 }

-- an answer of one of two, read
read-pick : {A : Type 0} (f : A → A) (t : Bool) (x : A) (rest other : Answer A)
    → other ≡ read_answer f rest → pick t (accepted (f x)) other ≡ read_answer f (pick t (accepted x) rest)
read-pick f true x rest other e = refl
read-pick f false x rest other e = e

-- registers of read cells are the registers, read
read-few : (kind a b : ℕ) → few_cells kind (read a) (read b) ≡ read_answer read_registers (few_cells kind a b)
unfolding few_cells read_registers
read-few kind a b =
    read-pick read_registers (eqb kind 1) _ _ _
    (read-pick read_registers (eqb kind 2) _ _ _
    (read-pick read_registers (eqb kind 3) _ _ _
    (read-pick read_registers (eqb kind 4) _ _ _
    (read-pick read_registers (eqb kind 6) _ _ _
    (read-pick read_registers (eqb kind 7) _ _ _
    (read-pick read_registers (eqb kind 8) _ _ _
    (read-pick read_registers (eqb kind 9) _ _ _
    (read-pick read_registers (eqb kind 10) _ _ _
    (read-pick read_registers (eqb kind 12) _ _ _
    (read-pick read_registers (eqb kind 13) _ _ _
    (read-pick read_registers (eqb kind 14) _ _ _
    (read-pick read_registers (eqb kind 18) _ _ _
    refl))))))))))))

read-many : (kind : ℕ) (a b : Word) → many_cells kind (read_word a) (read_word b) ≡ read_answer read_registers (many_cells kind a b)
unfolding many_cells read_registers
read-many kind a b =
    read-pick read_registers (eqb kind 5) _ _ _
    (read-pick read_registers (eqb kind 11) _ _ _
    (read-pick read_registers (eqb kind 15) _ _ _
    (read-pick read_registers (eqb kind 16) _ _ _
    (read-pick read_registers (eqb kind 17) _ _ _
    (read-few kind a.0 a.1)))))

-- the helper registers
same-registers_in : (r : List ℕ) (registers : OperationHelperRegisters)
    → registers_in_before r ≡ accepted registers → Below (register_cells registers) → registers_in r ≡ accepted registers
unfolding registers_in registers_in_before word_at cell_at
same-registers_in r registers e h =
    read-many (get_or r 0 0) (word_from r 26) (word_from r 30) ∙ ap (read_answer read_registers) e ∙ ap accepted (same-read_registers registers h)

-- the stack state
pub same-stack_in : (r : List ℕ) (depth : ℕ) → Below ((stack_in_before r depth).overflow_addr ∷ cells16 (stack_in_before r depth).stack_top) → stack_in r depth ≡ stack_in_before r depth
unfolding stack_in stack_in_before
same-stack_in r depth h =
    let stack = stack_in_before r depth in
    let at : (i : ℕ) → get_or (stack.overflow_addr ∷ cells16 stack.stack_top) i 0 < P = λ i. below_at (stack.overflow_addr ∷ cells16 stack.stack_top) i h in
    rw (
      same-cell_at r 25 (at 0),
      same-cell_at r 8 (at 1),
      same-cell_at r 9 (at 2),
      same-cell_at r 10 (at 3),
      same-cell_at r 11 (at 4),
      same-cell_at r 12 (at 5),
      same-cell_at r 13 (at 6),
      same-cell_at r 14 (at 7),
      same-cell_at r 15 (at 8),
      same-cell_at r 16 (at 9),
      same-cell_at r 17 (at 10),
      same-cell_at r 18 (at 11),
      same-cell_at r 19 (at 12),
      same-cell_at r 20 (at 13),
      same-cell_at r 21 (at 14),
      same-cell_at r 22 (at 15),
      same-cell_at r 23 (at 16),
    )

-- a finish
pub same-finish_in : (r : List ℕ) (c : RecordedCall) → finish_in_before r ≡ accepted c → Below (call_cells c) → finish_in r ≡ accepted c
unfolding finish_in finish_in_before call_cells state_cells
same-finish_in r c e h =
    let x = then-accepted (system_in_before r) (λ system. and_then (of32 1 (get_or r 24 0)) (λ depth. and_then (registers_in_before r) (all system depth))) c e in
    let y = then-accepted (of32 1 (get_or r 24 0)) (λ depth. and_then (registers_in_before r) (all x.0 depth)) c x.2 in
    let z = then-accepted (registers_in_before r) (all x.0 y.0) c y.2 in
    go x.0 y.0 z.0 x.1 y.1 z.1 z.2
  where
    all : SystemState → ℕ → OperationHelperRegisters → Answer RecordedCall
    all system depth registers = accepted (finishes (get_or r 1 0) system (stack_in_before r depth) registers)

    go : (system : SystemState) (depth : ℕ) (registers : OperationHelperRegisters)
        → system_in_before r ≡ accepted system → of32 1 (get_or r 24 0) ≡ accepted depth → registers_in_before r ≡ accepted registers
        → all system depth registers ≡ accepted c → finish_in r ≡ accepted c
    go system depth registers a b d f =
        let is : finishes (get_or r 1 0) system (stack_in_before r depth) registers ≡ c = cc in
        let (states, cells) = below_both (state_cells system (stack_in_before r depth)) (register_cells registers) (subst (λ (x : RecordedCall). Below (call_cells x)) (sym is) h) in
        let stack = stack_in_before r depth in
        let word = below_both (word_cells system.fn_hash) (stack.overflow_addr ∷ cells16 stack.stack_top) states in
        rw (same-system_in r system a word.0, same-of32 1 23 (get_or r 24 0) depth b, same-registers_in r registers d cells, same-stack_in r depth word.1) f

-- A RECORD

-- the call that a record encodes
pub same-call_in : (r : List ℕ) (c : RecordedCall) → call_in_before r ≡ accepted c → Below (call_cells c) → call_in r ≡ accepted c
unfolding call_in call_in_before call_cells
same-call_in r c e h = by (eqb (get_or r 0 0) 0) e
  where
    stored : (values : StoredValues) → stored_in_record_before r ≡ accepted values → stores values ≡ c → recorded_storing (stored_in_record r) ≡ accepted c
    stored values a is =
        rw (same-stored_in_record r values a (subst (λ (x : RecordedCall). Below (call_cells x)) (sym is) h), is)

    by : (t : Bool) → pick t (recorded_storing (stored_in_record_before r)) (finish_in_before r) ≡ accepted c → pick t (recorded_storing (stored_in_record r)) (finish_in r) ≡ accepted c
    by true e =
        let a = then-accepted (stored_in_record_before r) (λ values. accepted (stores values)) c e in
        stored a.0 a.1 (cc a.2)
    by false e = same-finish_in r c e h

-- an info that is found
pub same-told_info : (found : Result (Option ExecutionContextInfo) Refusal) (info : Option ExecutionContextInfo) → told_info_before found ≡ accepted info → told found ≡ accepted info
same-told_info (Ok x) info e = e
same-told_info (Err refusal) info e = never 1 info e

-- a system state that is found
pub same-told_system : (found : Option SystemState) (system : SystemState) → told_system_before found ≡ accepted system → told_or stored_absent found ≡ accepted system
same-told_system (Some x) system e = e
same-told_system None system e = never 1 system e
