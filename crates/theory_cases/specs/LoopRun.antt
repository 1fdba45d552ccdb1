-- Document 01, C10's run: "a loop at address 1 under 0, two passes of a one-group block at 3 and 5 with the operation 5, height 10". It is the
-- run that the program `core_listing` makes, in one fragment of ten rows, over the definitions that the contracts of its calls cite.
use Rattle.std.specs.Prelude.{Option, Some, None}
use Rattle.std.specs.Prelude.{Bool, true, false, List, [], ◌∷◌, ℕ, replicate}
use Rattle.groups.specs.declared.helpers.OperationHelperRegisters.{OperationHelperRegisters}
use Rattle.rows.specs.declared.records.profile.Profile.{Profile}
use Rattle.rows.specs.declared.records.continuation.Continuation.{Continuation}
use Rattle.rows.specs.records.Forests.{Forest, node_id}
use Rattle.rows.specs.records.Addresses.{Queues}
use Rattle.rows.specs.declared.records.address_state.Cursor.{Cursor}
use Rattle.theory_runs.specs.Calls.{Call, store, finish, Fragment}
use Rattle.theory_runs.specs.Finished.{written_by_finisher}

-- the opcodes of the Miden VM documentation's decoder chapter, as in the vectors, and a step of 2
abbrev pub profile : Profile
profile = record {
  span = 86;
  respan = 120;
  join = 87;
  split = 84;
  loop_op = 85;
  repeat = 116;
  call = 108;
  syscall = 104;
  dyn_op = 88;
  dyncall = 92;
  push = 91;
  end = 112;
  halt = 124;
  step = 2;
}

-- slot 0 the loop, slot 1 its body: a block of one batch, with one group and the operation 5
unfoldable pub loop_forest : Forest
loop_forest = record {
  nodes = 5 ∷ 1 ∷ 0 ∷ 0 ∷ 0 ∷ 0 ∷ 2 ∷ 0 ∷ 0 ∷ 1 ∷ 0 ∷ 1 ∷ [];
  digests = 10 ∷ 11 ∷ 12 ∷ 13 ∷ 20 ∷ 21 ∷ 22 ∷ 23 ∷ [];
  batches = 1 ∷ 0 ∷ 1 ∷ 1 ∷ 1 ∷ 1 ∷ 1 ∷ 1 ∷ 1 ∷ 1 ∷ 1 ∷ 0 ∷ [];
  groups = 5 ∷ 0 ∷ 0 ∷ 0 ∷ 0 ∷ 0 ∷ 0 ∷ 0 ∷ [];
  ops = 5 ∷ [];
}

-- addresses and parents of the three starts, and three cells for each of the three ENDs
unfoldable pub loop_queues : Queues
loop_queues = record {
  addresses = 1 ∷ 3 ∷ 5 ∷ [];
  parents = 0 ∷ 1 ∷ 1 ∷ [];
  ends = 3 ∷ 1 ∷ 0 ∷ 5 ∷ 1 ∷ 0 ∷ 1 ∷ 0 ∷ 0 ∷ [];
}

unfoldable pub begin : Cursor
begin = record { state = record { current_addr = 0; parent_addr = 0 }; at = record { addresses = 0; parents = 0; ends = 0 } }

unfoldable pub storing : Continuation → (is_loop_body : Bool) → Option Bool → Call
storing continuation is_loop_body condition =
    store (record {
      continuation = continuation;
      is_loop_body = is_loop_body;
      captured = record { finish_loop_condition = condition; dyn_callee_hash = None; ctx_info = None };
    })

-- the cycle of clock row n, with an empty stack
unfoldable pub cycle_at : (n : ℕ) → Call
cycle_at n = finish (record {
  forest = loop_forest;
  system = record { clk = record { 0 = n }; ctx = record { 0 = 0 }; fn_hash = (0, 0, 0, 0) };
  stack = record { stack_top = replicate 16 0; stack_depth = 16; overflow_addr = 0 };
  registers = OperationHelperRegisters.Empty;
})

unfoldable pub loop_calls : List Call
loop_calls =
    storing (Continuation.StartNode (node_id 0)) false None ∷ cycle_at 0
    ∷ storing (Continuation.StartNode (node_id 1)) false None ∷ cycle_at 1
    ∷ storing (Continuation.ResumeBasicBlock (node_id 1) 0 0) false None ∷ cycle_at 2
    ∷ storing (Continuation.FinishBasicBlock (node_id 1)) true None ∷ cycle_at 3
    ∷ storing (Continuation.FinishLoop (node_id 0)) false (Some true) ∷ cycle_at 4
    ∷ storing (Continuation.StartNode (node_id 1)) false None ∷ cycle_at 5
    ∷ storing (Continuation.ResumeBasicBlock (node_id 1) 0 0) false None ∷ cycle_at 6
    ∷ storing (Continuation.FinishBasicBlock (node_id 1)) true None ∷ cycle_at 7
    ∷ storing (Continuation.FinishLoop (node_id 0)) false (Some false) ∷ cycle_at 8 ∷ []

unfoldable pub loop_fragments : List Fragment
loop_fragments = record { calls = loop_calls; cells = replicate 490 0 } ∷ []

-- what the finisher makes of the fragment, whose last row is free, to height 10
unfoldable pub loop_trace : List ℕ
loop_trace = written_by_finisher profile loop_queues 10 loop_fragments begin [] (replicate 16 0) 10
