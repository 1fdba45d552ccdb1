-- What the cycles of a run did, taken from the calls alone: the stored values in force are a fold over the calls, and so are the queue
-- positions. No row is looked at.
use Rattle.std.specs.Prelude.{Option, Some, None}
use Rattle.std.specs.Prelude.{Bool, false, List, [], ◌∷◌, ◌++◌, ℕ}
use Rattle.groups.specs.Answer.{Answer, accepted, refused, and_then, pick}
use Rattle.groups.specs.Batches.{batch_at}
use Rattle.rows.specs.declared.records.forest.MastNode.{MastNode}
use Rattle.rows.specs.declared.records.address_state.Positions.{Positions}
use Rattle.rows.specs.declared.records.continuation.Continuation.{Continuation}
use Rattle.rows.specs.declared.records.continuation.Captured.{Captured}
use Rattle.rows.specs.declared.records.continuation.StoredValues.{StoredValues}
use Rattle.rows.specs.declared.records.continuation.Used.{Used}
use Rattle.rows.specs.records.Forests.{Forest, node_at, opcode_at, block_of}
use Rattle.rows.specs.records.Addresses.{Queues, started_at, after_start, end_at, after_end}
use Rattle.rows.specs.records.Captured.{read_captured}
use Rattle.rows.specs.cycles.Made.{condition_of}
use Rattle.rows.specs.cycles.Cycles.{left_after}
use Rattle.theory_readings.specs.Tokens.{split, call, syscall, dyn, dyncall, Kind}
use Rattle.theory_runs.specs.Calls.{Call, store, finish, Fragment}

-- the finish cycles, FinishLoop with condition zero
pub data Ending : Type 0 where
  FinishBasicBlock FinishJoin FinishSplit FinishLoop FinishCall FinishDyn : Ending

-- what a cycle did, with the entries that it took from the queues
pub data Did : Type 0 where
  -- StartNode of a node of a kind: its own address and its parent's
  started : Kind → (id address parent : ℕ) → Did
  -- an operation cycle
  operated : (id batch op opcode : ℕ) → Did
  -- Respan
  respanned : (id batch : ℕ) → Did
  -- FinishLoop with condition one
  repeated : (id : ℕ) → Did
  -- a finish cycle with its loop-body flag and its entry: the address that ends, and the current and parent address after it
  finished : Ending → (id : ℕ) → (flag : Bool) → (address parent grandparent : ℕ) → Did
  -- no row comes of it
  nothing : Did

-- a cycle that happened: the forest that it was handed, and what it did
abbrev pub Cycle : Type 0
Cycle = Forest × Did

-- what is in force at a cycle: the stored values, without those that are used up, and the queue positions
pub record InForce : Type 0 where
  pub stored : Option Continuation
  pub is_loop_body : Bool
  pub captured : Captured
  pub at : Positions

-- nothing stored
unfoldable pub nothing_stored : Positions → InForce
nothing_stored at = record {
  stored = None;
  is_loop_body = false;
  captured = record { finish_loop_condition = None; dyn_callee_hash = None; ctx_info = None };
  at = at;
}

-- what follows from an answer that is no refusal
abbrev pub or_nothing : {A : Type 0} → Answer A → (A → Did) → Did
or_nothing (accepted x) f = f x
or_nothing (refused n) f = nothing

-- StartNode, by the node's kind
unfoldable pub start_of : MastNode → (id address parent : ℕ) → Did
start_of (MastNode.Block block) = started Kind.span
start_of (MastNode.Join a b) = started Kind.join
start_of (MastNode.Split a b) = started (Kind.one split)
start_of (MastNode.Loop a) = started Kind.loop
start_of (MastNode.Call a) = started (Kind.one call)
start_of (MastNode.Syscall a) = started (Kind.one syscall)
start_of MastNode.Dyn = started (Kind.one dyn)
start_of MastNode.Dyncall = started (Kind.one dyncall)
start_of MastNode.External = λ id address parent. nothing

-- the opcode of an operation of a batch of a block
unfoldable pub operation_at : Forest → (id batch op : ℕ) → Answer ℕ
operation_at f id index op =
    and_then (node_at f.nodes f.digests id) (λ entry.
    and_then (block_of entry.node) (λ block.
    and_then (batch_at f.batches f.groups block index) (λ batch.
    opcode_at f.ops batch op)))

-- a finish cycle, with its entry of the end queue
unfoldable pub finish_of : Queues → InForce → Ending → (id : ℕ) → Did
finish_of q v ending id =
    or_nothing (end_at q.ends v.at.ends) (λ entry.
    finished ending id v.is_loop_body entry.ended_node_addr entry.prev_addr entry.prev_parent_addr)

-- what a cycle does, by the continuation in force
unfoldable pub did_by : Queues → Forest → InForce → Continuation → Did
did_by q f v (Continuation.StartNode id) =
    or_nothing (started_at q.addresses q.parents v.at) (λ state.
    or_nothing (node_at f.nodes f.digests id.0) (λ entry.
    start_of entry.node id.0 state.current_addr state.parent_addr))
did_by q f v (Continuation.FinishJoin id) = finish_of q v Ending.FinishJoin id.0
did_by q f v (Continuation.FinishSplit id) = finish_of q v Ending.FinishSplit id.0
did_by q f v (Continuation.FinishLoop id) =
    or_nothing (condition_of v.captured.finish_loop_condition) (λ again. pick again (repeated id.0) (finish_of q v Ending.FinishLoop id.0))
did_by q f v (Continuation.FinishCall id) = finish_of q v Ending.FinishCall id.0
did_by q f v (Continuation.FinishDyn id) = finish_of q v Ending.FinishDyn id.0
did_by q f v (Continuation.ResumeBasicBlock id index op) =
    or_nothing (operation_at f id.0 index op) (λ opcode. operated id.0 index op opcode)
did_by q f v (Continuation.Respan id index) = respanned id.0 index
did_by q f v (Continuation.FinishBasicBlock id) = finish_of q v Ending.FinishBasicBlock id.0
did_by q f v Continuation.EnterForest = nothing

unfoldable pub did_stored : Queues → Forest → InForce → Option Continuation → Did
did_stored q f v None = nothing
did_stored q f v (Some continuation) = did_by q f v continuation

abbrev pub did : Queues → Forest → InForce → Did
did q f v = did_stored q f v v.stored

-- what a cycle uses up: FinishLoop the condition, Dyn the word, Dyncall the word and the info
unfoldable pub used_by : Did → Used
used_by (started Kind.span id b a) = Used.Nothing
used_by (started Kind.join id b a) = Used.Nothing
used_by (started Kind.loop id b a) = Used.Nothing
used_by (started (Kind.one split) id b a) = Used.Nothing
used_by (started (Kind.one call) id b a) = Used.Nothing
used_by (started (Kind.one syscall) id b a) = Used.Nothing
used_by (started (Kind.one dyn) id b a) = Used.Callee
used_by (started (Kind.one dyncall) id b a) = Used.CalleeAndInfo
used_by (operated id i j opcode) = Used.Nothing
used_by (respanned id i) = Used.Nothing
used_by (repeated id) = Used.Condition
used_by (finished Ending.FinishBasicBlock id flag b a g) = Used.Nothing
used_by (finished Ending.FinishJoin id flag b a g) = Used.Nothing
used_by (finished Ending.FinishSplit id flag b a g) = Used.Nothing
used_by (finished Ending.FinishLoop id flag b a g) = Used.Condition
used_by (finished Ending.FinishCall id flag b a g) = Used.Nothing
used_by (finished Ending.FinishDyn id flag b a g) = Used.Nothing
used_by nothing = Used.Nothing

-- the queue positions after it
unfoldable pub positions_after : Did → Positions → Positions
positions_after (started kind id b a) at = after_start at
positions_after (operated id i j opcode) at = at
positions_after (respanned id i) at = at
positions_after (repeated id) at = at
positions_after (finished ending id flag b a g) at = after_end at
positions_after nothing at = at

-- "Storing replaces all of them"; the cells among them are read (N2)
unfoldable pub stored : InForce → StoredValues → InForce
stored v values = record {
  stored = Some values.continuation;
  is_loop_body = values.is_loop_body;
  captured = read_captured values.captured;
  at = v.at;
}

-- "A second finish without a store reuses the continuation, without the condition, word or info already used."
unfoldable pub left_by : InForce → Did → InForce
left_by v d = record {
  stored = v.stored;
  is_loop_body = v.is_loop_body;
  captured = left_after (used_by d) v.captured;
  at = positions_after d v.at;
}

-- what is in force after a call
unfoldable pub in_force_after : Queues → InForce → Call → InForce
in_force_after q v (store values) = stored v values
in_force_after q v (finish i) = left_by v (did q i.forest v)

unfoldable pub in_force_after_all : Queues → List Call → InForce → InForce
in_force_after_all q [] v = v
in_force_after_all q (c ∷ calls) v = in_force_after_all q calls (in_force_after q v c)

-- the cycles of some calls
unfoldable pub cycles_in : Queues → List Call → InForce → List Cycle
cycles_in q [] v = []
cycles_in q (store values ∷ calls) v = cycles_in q calls (stored v values)
cycles_in q (finish i ∷ calls) v = (i.forest, did q i.forest v) ∷ cycles_in q calls (left_by v (did q i.forest v))

-- the cycles of a run, "(from 0, across fragments)": each fragment begins with nothing stored
unfoldable pub cycles_of : Queues → List Fragment → Positions → List Cycle
cycles_of q [] at = []
cycles_of q (fragment ∷ fragments) at =
    cycles_in q fragment.calls (nothing_stored at)
    ++ cycles_of q fragments (in_force_after_all q fragment.calls (nothing_stored at)).at
