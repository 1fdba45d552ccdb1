-- Calls lent as records of 32 numbers: what each number of a storing and of a finish names. Cells among them are read (N2).
use Rattle.std.specs.Prelude.{◌≡◌, Bool, Option, Some, None, ◌||◌, List, [], ◌∷◌, ℕ, ◌*◌, ltb, eqb, take, drop, get_or}
use Rattle.groups.specs.Answer.{Answer, accepted, refused, and_then, pick}
use Rattle.field.specs.Cells.{cell_at}
use Rattle.groups.specs.Constants.{stored_absent}
use Rattle.groups.specs.Refusals.{told_or}
use Rattle.groups.specs.Words.{word_at}
use Rattle.groups.specs.declared.word.Word.{Word}
use Rattle.groups.specs.declared.helpers.OperationHelperRegisters.{OperationHelperRegisters}
use Rattle.rows.specs.declared.records.ids.MastNodeId.{MastNodeId}
use Rattle.rows.specs.declared.records.state.SystemState.{SystemState}
use Rattle.rows.specs.declared.records.state.StackState.{StackState}
use Rattle.rows.specs.declared.records.continuation.Continuation.{Continuation}
use Rattle.rows.specs.declared.records.continuation.ExecutionContextInfo.{ExecutionContextInfo}
use Rattle.rows.specs.declared.records.continuation.StoredValues.{StoredValues}
use Rattle.rows.specs.records.Forests.{node_id}

-- A RECORD

-- "each of 32 bits": a number over that is refused by what it should have named: a node (3), a batch (5), an operation (6), else it encodes
-- no call (23)
unfoldable pub of32 : (refusal : ℕ) → ℕ → Answer ℕ
of32 refusal x = pick (ltb x 4294967296) (accepted x) (refused refusal)

-- number 6: 0 absent, 1 zero, 2 one
unfoldable pub condition_in : List ℕ → Option Bool
condition_in r = pick (eqb (get_or r 6 0) 0) None (Some (eqb (get_or r 6 0) 2))

-- number 7: 1 present; numbers 8 to 11 the word
unfoldable pub callee_in : List ℕ → Option Word
callee_in r = pick (eqb (get_or r 7 0) 1) (Some (word_at r 8)) None

-- number 12: 1 present; number 13 the depth, 14 the next overflow address
unfoldable pub info_in : List ℕ → Answer (Option ExecutionContextInfo)
info_in r =
    pick (eqb (get_or r 12 0) 1)
    (and_then (of32 23 (get_or r 13 0)) (λ depth.
    accepted (Some (record { stack_depth = depth; next_overflow_addr = cell_at r 14 }))))
    (accepted None)

-- number 3 the batch, number 4 the operation: no such batch (5), operation past the batch's (6)
unfoldable pub resume_in : List ℕ → MastNodeId → Answer Continuation
resume_in r id =
    and_then (of32 5 (get_or r 3 0)) (λ index.
    and_then (of32 6 (get_or r 4 0)) (λ op.
    accepted (Continuation.ResumeBasicBlock id index op)))

unfoldable pub respan_in : List ℕ → MastNodeId → Answer Continuation
respan_in r id = and_then (of32 5 (get_or r 3 0)) (λ index. accepted (Continuation.Respan id index))

-- the continuation of a kind on a node; a number that names none: nothing is stored (23)
unfoldable pub continuation_on : List ℕ → (kind : ℕ) → MastNodeId → Answer Continuation
continuation_on r kind id =
    pick (eqb kind 1) (accepted (Continuation.StartNode id))
    (pick (eqb kind 2) (accepted (Continuation.FinishJoin id))
    (pick (eqb kind 3) (accepted (Continuation.FinishSplit id))
    (pick (eqb kind 4) (accepted (Continuation.FinishLoop id))
    (pick (eqb kind 5) (accepted (Continuation.FinishCall id))
    (pick (eqb kind 6) (accepted (Continuation.FinishDyn id))
    (pick (eqb kind 7) (resume_in r id)
    (pick (eqb kind 8) (respan_in r id)
    (pick (eqb kind 9) (accepted (Continuation.FinishBasicBlock id))
    (refused stored_absent)))))))))

-- the kinds are 1 to 10
unfoldable pub names_no_kind : ℕ → Bool
names_no_kind kind = eqb kind 0 || ltb 10 kind

-- number 1 the kind, number 2 the node: no such node (3). What stands behind a number that names no kind is not read
unfoldable pub continuation_in : List ℕ → Answer Continuation
continuation_in r =
    pick (names_no_kind (get_or r 1 0))
    (refused stored_absent)
    (pick (eqb (get_or r 1 0) 10)
    (accepted Continuation.EnterForest)
    (and_then (of32 3 (get_or r 2 0)) (λ id. continuation_on r (get_or r 1 0) (node_id id))))

-- flag (5), condition (6), or presence of the word (7) or the info (12) is a number that names nothing
unfoldable pub names_nothing : List ℕ → Bool
names_nothing r = ltb 1 (get_or r 5 0) || (ltb 2 (get_or r 6 0) || (ltb 1 (get_or r 7 0) || ltb 1 (get_or r 12 0)))

-- "Where no order is named, the lowest number is answered.": 3, 5, 6, 23
unfoldable pub stored_in_record : List ℕ → Answer StoredValues
stored_in_record r =
    and_then (continuation_in r) (λ continuation.
    and_then (info_in r) (λ info.
    pick (names_nothing r)
    (refused stored_absent)
    (accepted (record {
      continuation = continuation;
      is_loop_body = eqb (get_or r 5 0) 1;
      captured = record { finish_loop_condition = condition_in r; dyn_callee_hash = callee_in r; ctx_info = info };
    }))))

-- number 2 the clock row, 3 the context, 4 to 7 fn_hash
unfoldable pub system_in : List ℕ → Answer SystemState
system_in r =
    and_then (of32 23 (get_or r 2 0)) (λ clk.
    and_then (of32 23 (get_or r 3 0)) (λ ctx.
    accepted (record { clk = record { 0 = clk }; ctx = record { 0 = ctx }; fn_hash = word_at r 4 })))

-- numbers 8 to 23 the top of the stack, last first, 25 the overflow address
unfoldable pub stack_in : List ℕ → (depth : ℕ) → StackState
stack_in r depth = record {
  stack_top =
      cell_at r 8 ∷ cell_at r 9 ∷ cell_at r 10 ∷ cell_at r 11 ∷ cell_at r 12 ∷ cell_at r 13 ∷ cell_at r 14 ∷ cell_at r 15
      ∷ cell_at r 16 ∷ cell_at r 17 ∷ cell_at r 18 ∷ cell_at r 19 ∷ cell_at r 20 ∷ cell_at r 21 ∷ cell_at r 22 ∷ cell_at r 23 ∷ [];
  stack_depth = depth;
  overflow_addr = cell_at r 25;
}

-- the cases of helper registers with one or two cells; a number that names none: a captured value absent (23)
unfoldable pub few_cells : (kind a b : ℕ) → Answer OperationHelperRegisters
few_cells kind a b =
    pick (eqb kind 1) (accepted (OperationHelperRegisters.Eq a b))
    (pick (eqb kind 2) (accepted (OperationHelperRegisters.U32Split a b))
    (pick (eqb kind 3) (accepted (OperationHelperRegisters.Eqz a))
    (pick (eqb kind 4) (accepted (OperationHelperRegisters.Expacc a))
    (pick (eqb kind 6) (accepted (OperationHelperRegisters.U32Add a b))
    (pick (eqb kind 7) (accepted (OperationHelperRegisters.U32Add3 a b))
    (pick (eqb kind 8) (accepted (OperationHelperRegisters.U32Sub a))
    (pick (eqb kind 9) (accepted (OperationHelperRegisters.U32Mul a b))
    (pick (eqb kind 10) (accepted (OperationHelperRegisters.U32Madd a b))
    (pick (eqb kind 12) (accepted (OperationHelperRegisters.U32Assert2 a b))
    (pick (eqb kind 13) (accepted (OperationHelperRegisters.HPerm a))
    (pick (eqb kind 14) (accepted (OperationHelperRegisters.MerklePath a))
    (pick (eqb kind 18) (accepted OperationHelperRegisters.Empty)
    (refused stored_absent)))))))))))))

-- the cases with more
unfoldable pub many_cells : (kind : ℕ) → (a b : Word) → Answer OperationHelperRegisters
many_cells kind a b =
    pick (eqb kind 5) (accepted (OperationHelperRegisters.FriExt2Fold4 (a.0, a.1) (a.2, a.3) b.0 b.1))
    (pick (eqb kind 11) (accepted (OperationHelperRegisters.U32Div a.0 a.1 a.2))
    (pick (eqb kind 15) (accepted (OperationHelperRegisters.HornerEvalBase (a.0, a.1) (a.2, a.3) (b.0, b.1)))
    (pick (eqb kind 16) (accepted (OperationHelperRegisters.HornerEvalExt (a.0, a.1) (a.2, a.3)))
    (pick (eqb kind 17) (accepted (OperationHelperRegisters.LogDeferred a.0 (a.1, a.2, a.3, b.0)))
    (few_cells kind a.0 a.1)))))

-- number 0 the case, numbers 26 to 31 its cells
unfoldable pub registers_in : List ℕ → Answer OperationHelperRegisters
registers_in r = many_cells (get_or r 0 0) (word_at r 26) (word_at r 30)

-- a call: values that are stored, or a finish in the forest of a number
pub data RecordedCall : Type 0 where
  stores : StoredValues → RecordedCall
  finishes : (forest : ℕ) → SystemState → StackState → OperationHelperRegisters → RecordedCall

-- a finish: number 1 the forest's number, 24 the depth
unfoldable pub finish_in : List ℕ → Answer RecordedCall
finish_in r =
    and_then (system_in r) (λ system.
    and_then (of32 23 (get_or r 24 0)) (λ depth.
    and_then (registers_in r) (λ registers.
    accepted (finishes (get_or r 1 0) system (stack_in r depth) registers))))

abbrev pub recorded_storing : Answer StoredValues → Answer RecordedCall
recorded_storing found = and_then found (λ values. accepted (stores values))

-- number 0 is 0: a storing; else a finish
unfoldable pub call_in : List ℕ → Answer RecordedCall
call_in r = pick (eqb (get_or r 0 0) 0) (recorded_storing (stored_in_record r)) (finish_in r)

-- record k of a list of numbers
unfoldable pub record_at : List ℕ → ℕ → List ℕ
record_at records k = take 32 (drop (32 * k) records)

-- whatever the refusal is
abbrev pub ReadAs32 : Option ℕ → ℕ → Type 0
ReadAs32 r x = (n : ℕ) → told_or n r ≡ of32 n x
