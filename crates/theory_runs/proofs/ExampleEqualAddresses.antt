-- That no two LOOP starts get the same block address is needed: two loops of one pass each at one address, in a run that meets all other
-- premises, get the count 2, and what is written is no trace. So do LOOP starts that are queued as 1 and p + 1 (N2).
use Rattle.std.specs.Prelude.{Option, Some, None}
use mathlib.Core.Path.{◌≡◌, refl}
use mathlib.Core.Bool.{Bool, true, false}
use mathlib.Core.List.{List, [], ◌∷◌}
use Prim.Native.Nat.{ℕ, ◌≤◌}
use native.Mathlib.Omega.{arith}
use lib.ListN.{replicate}
use Rattle.field.specs.Inverse.{euclid, inverse_of}
use Rattle.field.specs.Cells.{cell_at, reduced}
use Rattle.groups.specs.Words.{word_at}
use Rattle.groups.specs.Batches.{is_batch, batch_at, starts_at}
use Rattle.groups.specs.Flags.{flags_up_to8, batch_flags}
use Rattle.groups.specs.GroupOfOperation.{falling, place_in, group_from, group_of}
use Rattle.groups.specs.GroupsLeft.{counts, doubled, round_up, groups_of, sum_groups, any_above8, group_sum, pushes}
use Rattle.groups.specs.Contexts.{too_large, consumed, op_context, context_in_group, context_at_op}
use Rattle.groups.specs.Helpers.{all_below, read_registers, u32_values, helpers_of, helpers_of_cells, helpers_answer}
use Rattle.groups.specs.declared.helpers.OperationHelperRegisters.{OperationHelperRegisters}
use Rattle.rows.specs.declared.records.continuation.Continuation.{Continuation}
use Rattle.field.specs.Bounds.{any_from}
use Rattle.rows.specs.records.Profiles.{opcodes, is_one_of, two_equal, lacks_bits, profile_wrong}
use Rattle.rows.specs.records.Forests.{Forest, is_slot, node_id, node_of, node_at, digest_at, opcode_at, block_of}
use Rattle.rows.specs.records.Addresses.{Queues, entry_at, started_at, end_at, read_state}
use Rattle.rows.specs.records.Captured.{read_captured}
use Rattle.rows.specs.records.DecoderRows.{control_flow, basic_block_batch, operation, decoder_cells}
use Rattle.rows.specs.records.Built.{built_system, built_stack, no_system, no_stack, system_cells, stack_cells, read_system, read_stack}
use Rattle.rows.specs.declared.records.address_state.Cursor.{Cursor}
use Rattle.rows.specs.cycles.Made.{start_block, start_two, start_one, start_kind, start_node, block_kind, entry_kind, made_end, body_of, made_repeat, finish_loop, operation_made, resumed, made}
use Rattle.rows.specs.records.Cells.{row_cells, put_row}
use Rattle.rows.specs.cycles.Scans.{any_big_opcode, any_long_block, any_large_batch, forest_too_large, scan_of}
use Rattle.rows.specs.records.Cells.{fragment_wrong}
use Rattle.rows.specs.cycles.Cycles.{fresh, stored_in, cycle_with, cycle, left_after, tracer_after, last_system, last_stack, fragment_after, final_state, for_passes}
use Rattle.rows.specs.records.Buffers.{rows_of, flat, on_rows, last_row, low_bits, opcode_of, buffer_wrong, fewer_rows}
use Rattle.rows.specs.passes.Passes.{with_sides, first_row, later_rows, fixed_up, built_of, flagged_end, body_ends, with_counts, any_without_body, multiplied, loop_without_body, inverted, halt_decoder, halt_stack, halt_row, halted, padding_row, padding_rows, padded, sum_of, any_above, not_full, fragments_wrong, height_wrong, refusal_all, last_built, all_passes}
use Rattle.groups.specs.Answer.{first_of}
use Rattle.theory_readings.specs.Tokens.{controls, token_beside, control_token, control_opcodes, is_op_opcode, op_token, all_bits, token_of, tokens_of}
use Rattle.theory_readings.specs.Readings.{Block, depth_of, numbered, passes_in, end_row_of, asks_of, asks, all_rows, Trace}
use Rattle.theory_readings.specs.Answers.{refused, reader_refusal, row_asked}
use Rattle.theory_readings.specs.ways.Parser.{give, passes_with, ops_with, close, enter, opening, at_repeat, step, parse, if_halt, after_halt, after_block, word_answer, read_word, is_met, first_wrong, answer_of_cells, answer_of_word, unless_bad_input, answer}
use Rattle.theory_readings.proofs.AcceptedTraces.{accepts-traces}
use Rattle.theory_readings.proofs.Examples.{profile}
use Rattle.theory_runs.specs.Calls.{Call, store, finish, Fragment, after, call_refusal, after_all, Accepted, AllAccepted, final_states, cells_of, counts_of, built_cells}
use Rattle.theory_runs.specs.Happened.{nothing_stored, start_of, operation_at, finish_of, did_by, did_stored, used_by, positions_after, stored, left_by, in_force_after, in_force_after_all, cycles_in, cycles_of}
use Rattle.theory_runs.specs.ProperRuns.{Holds, HasOperations, HasOpcode, with_loop, loop_starts, InBlock, Run, RunPasses, tree_from}
use Rattle.theory_runs.specs.Finished.{finisher_buffer, run_counts, run_built, run_buffer, written_by_finisher, FinisherPasses}
use Rattle.theory_runs.proofs.ReadRun.{short}

-- slot 0 a join of slot 1 twice, slot 1 a loop, slot 2 its body
unfoldable forest_a : Forest
forest_a = record {
  nodes = 3 ∷ 1 ∷ 1 ∷ 0 ∷ 0 ∷ 0 ∷ 5 ∷ 2 ∷ 0 ∷ 0 ∷ 0 ∷ 0 ∷ 2 ∷ 0 ∷ 0 ∷ 1 ∷ 0 ∷ 1 ∷ [];
  digests = 10 ∷ 11 ∷ 12 ∷ 13 ∷ 20 ∷ 21 ∷ 22 ∷ 23 ∷ 30 ∷ 31 ∷ 32 ∷ 33 ∷ [];
  batches = 1 ∷ 0 ∷ 1 ∷ 1 ∷ 1 ∷ 1 ∷ 1 ∷ 1 ∷ 1 ∷ 1 ∷ 1 ∷ 0 ∷ [];
  groups = 5 ∷ 0 ∷ 0 ∷ 0 ∷ 0 ∷ 0 ∷ 0 ∷ 0 ∷ [];
  ops = 5 ∷ [];
}

-- the second loop's address as it is queued: 1, or p + 1, which is read as 1
unfoldable second : (unreduced : Bool) → ℕ
second false = 1
second true = 18446744069414584322

unfoldable queued : (unreduced : Bool) → Queues
queued u = record {
  addresses = 9 ∷ 1 ∷ 3 ∷ second u ∷ 5 ∷ [];
  parents = 0 ∷ 9 ∷ 1 ∷ 9 ∷ 1 ∷ [];
  ends = 3 ∷ 1 ∷ 9 ∷ 1 ∷ 9 ∷ 0 ∷ 5 ∷ 1 ∷ 9 ∷ 1 ∷ 9 ∷ 0 ∷ 9 ∷ 0 ∷ 77 ∷ [];
}

unfoldable begin : Cursor
begin = record { state = record { current_addr = 0; parent_addr = 0 }; at = record { addresses = 0; parents = 0; ends = 0 } }

-- a storing, and the cycle with clock row n
unfoldable store_of : Continuation → Bool → Option Bool → Call
store_of continuation flag condition =
    store (record { continuation = continuation; is_loop_body = flag; captured = record { finish_loop_condition = condition; dyn_callee_hash = None; ctx_info = None } })

unfoldable cycle_of : (n : ℕ) → Call
cycle_of n = finish (record {
  forest = forest_a;
  system = record { clk = record { 0 = n }; ctx = record { 0 = 0 }; fn_hash = (0, 0, 0, 0) };
  stack = record { stack_top = replicate 16 0; stack_depth = 16; overflow_addr = 0 };
  registers = OperationHelperRegisters.Empty;
})

unfoldable calls : List Call
calls =
    store_of (Continuation.StartNode (node_id 0)) false None ∷ cycle_of 0
    ∷ store_of (Continuation.StartNode (node_id 1)) false None ∷ cycle_of 1
    ∷ store_of (Continuation.StartNode (node_id 2)) false None ∷ cycle_of 2
    ∷ store_of (Continuation.ResumeBasicBlock (node_id 2) 0 0) false None ∷ cycle_of 3
    ∷ store_of (Continuation.FinishBasicBlock (node_id 2)) true None ∷ cycle_of 4
    ∷ store_of (Continuation.FinishLoop (node_id 1)) false (Some false) ∷ cycle_of 5
    ∷ store_of (Continuation.StartNode (node_id 1)) false None ∷ cycle_of 6
    ∷ store_of (Continuation.StartNode (node_id 2)) false None ∷ cycle_of 7
    ∷ store_of (Continuation.ResumeBasicBlock (node_id 2) 0 0) false None ∷ cycle_of 8
    ∷ store_of (Continuation.FinishBasicBlock (node_id 2)) true None ∷ cycle_of 9
    ∷ store_of (Continuation.FinishLoop (node_id 1)) false (Some false) ∷ cycle_of 10
    ∷ store_of (Continuation.FinishJoin (node_id 0)) false None ∷ cycle_of 11 ∷ []

unfoldable fragments : List Fragment
fragments = record { calls = calls; cells = replicate 637 9 } ∷ []

free : (u : Bool) → AllAccepted profile (queued u) fragments begin
unfolding forest_a second queued begin store_of cycle_of calls fragments AllAccepted Accepted call_refusal after after_all final_state cycle cycle_with scan_of any_big_opcode forest_too_large any_long_block any_large_batch read_registers helpers_of_cells system_cells stack_cells any_from profile_wrong opcodes two_equal is_one_of lacks_bits fragment_wrong made start_node start_kind start_block start_two start_one made_end made_repeat finish_loop body_of block_kind entry_kind operation_made resumed node_at node_of is_slot digest_at opcode_at block_of started_at entry_at end_at batch_at is_batch starts_at batch_flags flags_up_to8 context_at_op group_of falling group_from place_in context_in_group consumed counts doubled round_up groups_of sum_groups any_above8 group_sum pushes op_context too_large helpers_answer all_below u32_values helpers_of tracer_after left_after stored_in fragment_after put_row row_cells decoder_cells fresh built_system built_stack no_system no_stack last_system last_stack control_flow basic_block_batch operation word_at cell_at reduced read_system read_stack read_state read_captured
free false = ((refl, (refl, (refl, (refl, (refl, (refl, (refl, (refl, (refl, (refl, (refl, (refl, (refl, (refl, (refl, (refl, (refl, (refl, (refl, (refl, (refl, (refl, (refl, (refl, refl)))))))))))))))))))))))), tt)
free true = ((refl, (refl, (refl, (refl, (refl, (refl, (refl, (refl, (refl, (refl, (refl, (refl, (refl, (refl, (refl, (refl, (refl, (refl, (refl, (refl, (refl, (refl, (refl, (refl, refl)))))))))))))))))))))))), tt)

run : (u : Bool) → Run profile forest_a 0 false 0 9 77 (cycles_of (queued u) fragments begin.at) []
unfolding forest_a second queued begin store_of cycle_of calls fragments cycles_of cycles_in did_stored did_by start_of operation_at finish_of nothing_stored stored left_by used_by positions_after left_after in_force_after_all in_force_after node_at node_of is_slot opcode_at block_of started_at entry_at end_at batch_at is_batch word_at Holds HasOperations HasOpcode is_op_opcode control_opcodes controls is_one_of cell_at reduced read_system read_stack read_state read_captured
run false =
    Run.join (_, refl)
    (Run.loop (_, refl) (RunPasses.ended (Run.block (_, refl) (InBlock.operation 5 (_, refl, refl) refl (InBlock.ended (_, refl, refl) refl)))))
    (Run.loop (_, refl) (RunPasses.ended (Run.block (_, refl) (InBlock.operation 5 (_, refl, refl) refl (InBlock.ended (_, refl, refl) refl)))))
run true =
    Run.join (_, refl)
    (Run.loop (_, refl) (RunPasses.ended (Run.block (_, refl) (InBlock.operation 5 (_, refl, refl) refl (InBlock.ended (_, refl, refl) refl)))))
    (Run.loop (_, refl) (RunPasses.ended (Run.block (_, refl) (InBlock.operation 5 (_, refl, refl) refl (InBlock.ended (_, refl, refl) refl)))))

shallow : (u : Bool) → depth_of (tree_from profile 0 (run u)).0 ≤ 64
unfolding run tree_from depth_of
shallow false = omega arith
shallow true = omega arith

-- both loops start at the address 1
starts : (u : Bool) → loop_starts (cycles_of (queued u) fragments begin.at) ≡ 1 ∷ 1 ∷ []
unfolding forest_a second queued begin store_of cycle_of calls fragments cycles_of cycles_in did_stored did_by start_of operation_at finish_of nothing_stored stored left_by used_by positions_after left_after in_force_after_all in_force_after node_at node_of is_slot opcode_at block_of started_at entry_at end_at batch_at is_batch word_at Holds HasOperations HasOpcode is_op_opcode control_opcodes controls is_one_of with_loop loop_starts cell_at reduced read_system read_stack read_state read_captured
starts false = refl
starts true = refl

passes : (u : Bool) → FinisherPasses profile (queued u) 13 fragments begin [] (replicate 16 0) 13
unfolding forest_a second queued begin store_of cycle_of calls fragments AllAccepted Accepted call_refusal after after_all final_state cycle cycle_with scan_of any_big_opcode forest_too_large any_long_block any_large_batch read_registers helpers_of_cells system_cells stack_cells any_from profile_wrong opcodes two_equal is_one_of lacks_bits fragment_wrong made start_node start_kind start_block start_two start_one made_end made_repeat finish_loop body_of block_kind entry_kind operation_made resumed node_at node_of is_slot digest_at opcode_at block_of started_at entry_at end_at batch_at is_batch starts_at batch_flags flags_up_to8 context_at_op group_of falling group_from place_in context_in_group consumed counts doubled round_up groups_of sum_groups any_above8 group_sum pushes op_context too_large helpers_answer all_below u32_values helpers_of tracer_after left_after stored_in fragment_after put_row row_cells decoder_cells fresh built_system built_stack no_system no_stack last_system last_stack control_flow basic_block_batch operation word_at final_states counts_of for_passes built_cells cells_of refusal_all first_of sum_of fragments_wrong buffer_wrong fewer_rows any_above height_wrong not_full loop_without_body any_without_body body_ends rows_of opcode_of low_bits flagged_end cell_at reduced read_system read_stack read_state read_captured
passes false = refl
passes true = refl

-- row 1 is refused: its count is 2
answered : (u : Bool) → answer profile (written_by_finisher profile (queued u) 13 fragments begin [] (replicate 16 0) 13) 13 ≡ refused 13 1
unfolding forest_a second queued begin store_of cycle_of calls fragments AllAccepted Accepted call_refusal after after_all final_state cycle cycle_with scan_of any_big_opcode forest_too_large any_long_block any_large_batch read_registers helpers_of_cells system_cells stack_cells any_from profile_wrong opcodes two_equal is_one_of lacks_bits fragment_wrong made start_node start_kind start_block start_two start_one made_end made_repeat finish_loop body_of block_kind entry_kind operation_made resumed node_at node_of is_slot digest_at opcode_at block_of started_at entry_at end_at batch_at is_batch starts_at batch_flags flags_up_to8 context_at_op group_of falling group_from place_in context_in_group consumed counts doubled round_up groups_of sum_groups any_above8 group_sum pushes op_context too_large helpers_answer all_below u32_values helpers_of tracer_after left_after stored_in fragment_after put_row row_cells decoder_cells fresh built_system built_stack no_system no_stack last_system last_stack control_flow basic_block_batch operation word_at final_states counts_of for_passes built_cells cells_of refusal_all first_of sum_of fragments_wrong buffer_wrong fewer_rows any_above height_wrong not_full loop_without_body any_without_body body_ends rows_of opcode_of low_bits flagged_end finisher_buffer all_passes on_rows flat fixed_up first_row with_sides later_rows built_of multiplied with_counts inverted inverse_of euclid last_built halted last_row halt_row halt_decoder halt_stack padded padding_rows padding_row all_rows answer unless_bad_input answer_of_word answer_of_cells first_wrong is_met asks asks_of passes_in end_row_of row_asked read_word word_answer after_block after_halt if_halt parse step give close ops_with passes_with opening enter at_repeat numbered tokens_of token_of all_bits control_token op_token is_op_opcode control_opcodes controls token_beside reader_refusal cell_at reduced read_system read_stack read_state read_captured
answered false = refl
answered true = refl

no-trace : (u : Bool) (b : Block) → ¬ Trace profile (written_by_finisher profile (queued u) 13 fragments begin [] (replicate 16 0) 13) b
no-trace u b t =
    let cells : List ℕ = written_by_finisher profile (queued u) 13 fragments begin [] (replicate 16 0) 13 in
    let few = short 13 (finisher_buffer profile 13 (run_counts profile (queued u) 13 fragments begin [] (replicate 16 0) 13) (run_built profile (queued u) 13 fragments begin [] (replicate 16 0) 13) (replicate 16 0) 13 (run_buffer profile (queued u) 13 fragments begin [] (replicate 16 0) 13)) in
    let e = (accepts-traces profile cells 13 b few).1 t in
    let f = answered u in
    let z : ◌≡◌ {A = ℕ} 0 1 = cc in
    omega arith
