-- C10's run in fragments of 4: the premises can be met, and its rows, reading and counts computed over the definitions.
use Rattle.std.specs.Prelude.{Option, Some, None}
use mathlib.Core.Path.{◌≡◌, refl}
use mathlib.Core.Bool.{Bool, true, false}
use mathlib.Core.List.{List, [], ◌∷◌, ◌++◌, map}
use Prim.Native.Nat.{ℕ}
use native.Mathlib.Omega.{arith}
use lib.ListN.{take, replicate}
use Rattle.field.specs.Inverse.{euclid, inverse_of}
use Rattle.field.specs.Cells.{cell_at, reduced}
use Rattle.groups.specs.Words.{word_at}
use Rattle.groups.specs.Batches.{is_batch, batch_at, starts_at}
use Rattle.groups.specs.Flags.{flags_up_to8, batch_flags}
use Rattle.groups.specs.GroupOfOperation.{falling, place_in, group_from, group_of}
use Rattle.groups.specs.GroupsLeft.{counts, doubled, round_up, groups_of, sum_groups, any_above8, group_sum, pushes}
use Rattle.groups.specs.Contexts.{too_large, consumed, op_context, context_in_group, context_at_op}
use Rattle.groups.specs.Helpers.{all_below, read_registers, u32_values, helpers_of, helpers_of_cells, helpers_answer}
use Rattle.groups.specs.declared.helpers.OperationHelperRegisters.{OperationHelperRegisters}
use Rattle.rows.specs.declared.records.continuation.Continuation.{Continuation}
use Rattle.field.specs.Bounds.{any_from}
use Rattle.rows.specs.records.Profiles.{opcodes, is_one_of, two_equal, lacks_bits, profile_wrong}
use Rattle.rows.specs.records.Forests.{Forest, is_slot, node_id, node_of, node_at, digest_at, opcode_at, block_of}
use Rattle.rows.specs.records.Addresses.{Queues, entry_at, started_at, end_at, read_state}
use Rattle.rows.specs.records.Captured.{read_captured}
use Rattle.rows.specs.records.DecoderRows.{control_flow, basic_block_batch, operation, decoder_cells}
use Rattle.rows.specs.records.Built.{built_system, built_stack, no_system, no_stack, system_cells, stack_cells, read_system, read_stack}
use Rattle.rows.specs.declared.records.address_state.Cursor.{Cursor}
use Rattle.rows.specs.cycles.Made.{start_block, start_one, start_kind, start_node, block_kind, entry_kind, made_end, body_of, made_repeat, finish_loop, operation_made, resumed, made}
use Rattle.rows.specs.records.Cells.{row_cells, put_row}
use Rattle.rows.specs.cycles.Scans.{any_big_opcode, any_long_block, any_large_batch, forest_too_large, scan_of}
use Rattle.rows.specs.records.Cells.{fragment_wrong}
use Rattle.rows.specs.cycles.Cycles.{fresh, stored_in, cycle_with, cycle, left_after, tracer_after, last_system, last_stack, fragment_after, final_state, for_passes}
use Rattle.rows.specs.cycles.LentTally.{is_free, is_of, first_from, place_for, counted_at, cannot_count, counts_next, unless_full, tally_after, tallied_cycle}
use Rattle.rows.specs.records.Buffers.{rows_of, buffer_row, flat, on_rows, last_row, addr_of, low_bits, opcode_of, buffer_wrong, fewer_rows}
use Rattle.rows.specs.passes.Passes.{with_sides, first_row, later_rows, fixed_up, built_of, flagged_end, body_ends, with_counts, any_without_body, multiplied, loop_without_body, inverted, halt_decoder, halt_stack, halt_row, halted, padding_row, padding_rows, padded, sum_of, any_above, not_full, fragments_wrong, height_wrong, refusal1, refusal2, refusal3, refusal4, refusal5, refusal_all, last_built, all_passes}
use Rattle.groups.specs.Answer.{first_of}
use Rattle.rows.proofs.passes.Tallies.{zero-at}
use Rattle.theory_readings.specs.Tokens.{controls, control_opcodes, is_op_opcode, count_of}
use Rattle.theory_readings.specs.Readings.{Ops, Block, Passes, depth_of, all_rows, Trace}
use Rattle.theory_readings.proofs.Examples.{profile}
use Rattle.theory_runs.specs.Calls.{Call, store, finish, Fragment, after, call_refusal, after_all, Accepted, AllAccepted, final_states, cells_of, counts_of, built_cells, OneSize}
use Rattle.theory_runs.specs.LiveCalls.{call, lend, LiveFragment, plain_calls, plain_all, live_refusal, live_after, live_after_all, LiveAccepted, AllLiveAccepted, live_ends, live_finals, live_cells, NoneLent, LentAsZeros, live_after_each, FreshFragment, fresh_end, fresh_ends}
use Rattle.theory_runs.specs.LiveFinished.{live_by_five, live_by_finisher, LiveFivePass, LiveFinisherPasses}
use Rattle.theory_runs.specs.TallyClaims.{tallied_at, tallies_at, crossing, crossings, over_fragments, rows_of_all, NoneEmpty, CountsSet}
use Rattle.theory_runs.specs.Written.{decoders_of}
use Rattle.theory_runs.specs.Happened.{nothing_stored, start_of, operation_at, finish_of, did_by, did_stored, used_by, positions_after, stored, left_by, in_force_after, in_force_after_all, cycles_in, cycles_of}
use Rattle.theory_runs.specs.ProperRuns.{Holds, HasOperations, HasOpcode, with_loop, loop_starts, InBlock, Run, RunPasses, ops_from, tree_from}
use Rattle.theory_runs.specs.Finished.{Runs, nesting, buffer1, buffer2, buffer3, buffer4, finisher_buffer, written_by_five, written_by_finisher, FivePass, FinisherPasses}
use Rattle.theory_runs.proofs.TraceOfRun.{finisher-trace, five-trace}
use Rattle.theory_runs.proofs.LiveTraces.{live_written}
use Rattle.theory_runs.proofs.TallySums.{tallies-add-up, tallies-add-up-finished, tallies-add-up-five}

-- slot 0 a loop, slot 1 its body, a block of one batch with the operation 5
unfoldable forest_a : Forest
forest_a = record {
  nodes = 5 ∷ 1 ∷ 0 ∷ 0 ∷ 0 ∷ 0 ∷ 2 ∷ 0 ∷ 0 ∷ 1 ∷ 0 ∷ 1 ∷ [];
  digests = 10 ∷ 11 ∷ 12 ∷ 13 ∷ 20 ∷ 21 ∷ 22 ∷ 23 ∷ [];
  batches = 1 ∷ 0 ∷ 1 ∷ 1 ∷ 1 ∷ 1 ∷ 1 ∷ 1 ∷ 1 ∷ 1 ∷ 1 ∷ 0 ∷ [];
  groups = 5 ∷ 0 ∷ 0 ∷ 0 ∷ 0 ∷ 0 ∷ 0 ∷ 0 ∷ [];
  ops = 5 ∷ [];
}

unfoldable queued : Queues
queued = record { addresses = 1 ∷ 3 ∷ 5 ∷ []; parents = 0 ∷ 1 ∷ 1 ∷ []; ends = 3 ∷ 1 ∷ 0 ∷ 5 ∷ 1 ∷ 0 ∷ 1 ∷ 0 ∷ 77 ∷ [] }

unfoldable begin : Cursor
begin = record { state = record { current_addr = 9; parent_addr = 9 }; at = record { addresses = 0; parents = 0; ends = 0 } }

-- a storing, and the cycle with clock row n
unfoldable store_of : Continuation → Bool → Option Bool → Call
store_of continuation flag condition =
    store (record { continuation = continuation; is_loop_body = flag; captured = record { finish_loop_condition = condition; dyn_callee_hash = None; ctx_info = None } })

unfoldable cycle_of : (n : ℕ) → Call
cycle_of n = finish (record {
  forest = forest_a;
  system = record { clk = record { 0 = n }; ctx = record { 0 = 0 }; fn_hash = (0, 0, 0, 0) };
  stack = record { stack_top = replicate 16 0; stack_depth = 16; overflow_addr = 0 };
  registers = OperationHelperRegisters.Empty;
})

unfoldable calls1 : List Call
calls1 =
    store_of (Continuation.StartNode (node_id 0)) false None ∷ cycle_of 0
    ∷ store_of (Continuation.StartNode (node_id 1)) true None ∷ cycle_of 1
    ∷ store_of (Continuation.ResumeBasicBlock (node_id 1) 0 0) false None ∷ cycle_of 2
    ∷ store_of (Continuation.FinishBasicBlock (node_id 1)) true None ∷ cycle_of 3 ∷ []

unfoldable calls2 : List Call
calls2 =
    store_of (Continuation.FinishLoop (node_id 0)) false (Some true) ∷ cycle_of 4
    ∷ store_of (Continuation.StartNode (node_id 1)) true None ∷ cycle_of 5
    ∷ store_of (Continuation.ResumeBasicBlock (node_id 1) 0 0) false None ∷ cycle_of 6
    ∷ store_of (Continuation.FinishBasicBlock (node_id 1)) true None ∷ cycle_of 7 ∷ []

unfoldable calls3 : List Call
calls3 = store_of (Continuation.FinishLoop (node_id 0)) false (Some false) ∷ cycle_of 8 ∷ []

-- the fragments held other numbers before
unfoldable fragments : List Fragment
fragments =
    record { calls = calls1; cells = replicate 196 9 } ∷ record { calls = calls2; cells = replicate 196 9 }
    ∷ record { calls = calls3; cells = replicate 196 9 } ∷ []

free : AllAccepted profile queued fragments begin
unfolding forest_a queued begin store_of cycle_of calls1 calls2 calls3 fragments AllAccepted Accepted call_refusal after after_all final_state cycle cycle_with scan_of any_big_opcode forest_too_large any_long_block any_large_batch read_registers helpers_of_cells system_cells stack_cells any_from profile_wrong opcodes two_equal is_one_of lacks_bits fragment_wrong made start_node start_kind start_block start_one made_end made_repeat finish_loop body_of block_kind entry_kind operation_made resumed node_at node_of is_slot digest_at opcode_at block_of started_at entry_at end_at batch_at is_batch starts_at batch_flags flags_up_to8 context_at_op group_of falling group_from place_in context_in_group consumed counts doubled round_up groups_of sum_groups any_above8 group_sum pushes op_context too_large helpers_answer all_below u32_values helpers_of tracer_after left_after stored_in fragment_after put_row row_cells decoder_cells fresh built_system built_stack no_system no_stack last_system last_stack control_flow basic_block_batch operation word_at cell_at reduced read_system read_stack read_state read_captured
free = (
  (refl, (refl, (refl, (refl, (refl, (refl, (refl, (refl, refl)))))))),
  ((refl, (refl, (refl, (refl, (refl, (refl, (refl, (refl, refl)))))))), ((refl, (refl, refl)), tt)),
)

run : Run profile forest_a 0 false 0 1 77 (cycles_of queued fragments begin.at) []
unfolding forest_a queued begin store_of cycle_of calls1 calls2 calls3 fragments cycles_of cycles_in did_stored did_by start_of operation_at finish_of nothing_stored stored left_by used_by positions_after left_after in_force_after_all in_force_after node_at node_of is_slot opcode_at block_of started_at entry_at end_at batch_at is_batch word_at Holds HasOperations HasOpcode is_op_opcode control_opcodes controls is_one_of cell_at reduced read_system read_stack read_state read_captured
run =
    Run.loop (_, refl)
    (RunPasses.again (Run.block (_, refl) (InBlock.operation 5 (_, refl, refl) refl (InBlock.ended (_, refl, refl) refl)))
    (RunPasses.ended (Run.block (_, refl) (InBlock.operation 5 (_, refl, refl) refl (InBlock.ended (_, refl, refl) refl)))))

runs : Runs profile queued 4 fragments begin
unfolding forest_a queued begin store_of cycle_of calls1 calls2 calls3 fragments AllAccepted Accepted call_refusal after after_all final_state cycle cycle_with scan_of any_big_opcode forest_too_large any_long_block any_large_batch read_registers helpers_of_cells system_cells stack_cells any_from profile_wrong opcodes two_equal is_one_of lacks_bits fragment_wrong made start_node start_kind start_block start_one made_end made_repeat finish_loop body_of block_kind entry_kind operation_made resumed node_at node_of is_slot digest_at opcode_at block_of started_at entry_at end_at batch_at is_batch starts_at batch_flags flags_up_to8 context_at_op group_of falling group_from place_in context_in_group consumed counts doubled round_up groups_of sum_groups any_above8 group_sum pushes op_context too_large helpers_answer all_below u32_values helpers_of tracer_after left_after stored_in fragment_after put_row row_cells decoder_cells fresh built_system built_stack no_system no_stack last_system last_stack control_flow basic_block_batch operation word_at final_states counts_of for_passes OneSize cycles_of cycles_in did_stored did_by start_of operation_at finish_of nothing_stored stored left_by used_by positions_after in_force_after_all in_force_after with_loop loop_starts run tree_from depth_of cell_at reduced read_system read_stack read_state read_captured
runs = record {
  forest = forest_a;
  root = 0;
  parent = 0;
  own = 1;
  third = 77;
  proper = run;
  accepted = free;
  loops_apart = refl;
  shallow = omega arith;
  one_size = (refl, refl, (refl, refl, tt));
}

-- the nesting that ran
tree : nesting runs ≡ Block.loop 0 (Passes.repeated (Block.span 1 (Ops.op 2 5 (Ops.ended 3))) 4 (Passes.ended (Block.span 5 (Ops.op 6 5 (Ops.ended 7))) 8))
unfolding runs run tree_from ops_from
tree = refl

-- the finisher and the five calls, with height 10, do not refuse
passes : FinisherPasses profile queued 4 fragments begin [] (replicate 16 0) 10
unfolding forest_a queued begin store_of cycle_of calls1 calls2 calls3 fragments AllAccepted Accepted call_refusal after after_all final_state cycle cycle_with scan_of any_big_opcode forest_too_large any_long_block any_large_batch read_registers helpers_of_cells system_cells stack_cells any_from profile_wrong opcodes two_equal is_one_of lacks_bits fragment_wrong made start_node start_kind start_block start_one made_end made_repeat finish_loop body_of block_kind entry_kind operation_made resumed node_at node_of is_slot digest_at opcode_at block_of started_at entry_at end_at batch_at is_batch starts_at batch_flags flags_up_to8 context_at_op group_of falling group_from place_in context_in_group consumed counts doubled round_up groups_of sum_groups any_above8 group_sum pushes op_context too_large helpers_answer all_below u32_values helpers_of tracer_after left_after stored_in fragment_after put_row row_cells decoder_cells fresh built_system built_stack no_system no_stack last_system last_stack control_flow basic_block_batch operation word_at final_states counts_of for_passes built_cells cells_of refusal_all first_of sum_of fragments_wrong buffer_wrong fewer_rows any_above height_wrong not_full loop_without_body any_without_body body_ends rows_of opcode_of low_bits flagged_end cell_at reduced read_system read_stack read_state read_captured
passes = refl

trace : Trace profile (written_by_finisher profile queued 4 fragments begin [] (replicate 16 0) 10) (nesting runs)
trace = finisher-trace profile queued 4 fragments begin runs [] (replicate 16 0) 10 passes

-- nor do the five calls
five : FivePass profile queued 4 fragments begin [] (replicate 16 0) 10
unfolding forest_a queued begin store_of cycle_of calls1 calls2 calls3 fragments AllAccepted Accepted call_refusal after after_all final_state cycle cycle_with scan_of any_big_opcode forest_too_large any_long_block any_large_batch read_registers helpers_of_cells system_cells stack_cells any_from profile_wrong opcodes two_equal is_one_of lacks_bits fragment_wrong made start_node start_kind start_block start_one made_end made_repeat finish_loop body_of block_kind entry_kind operation_made resumed node_at node_of is_slot digest_at opcode_at block_of started_at entry_at end_at batch_at is_batch starts_at batch_flags flags_up_to8 context_at_op group_of falling group_from place_in context_in_group consumed counts doubled round_up groups_of sum_groups any_above8 group_sum pushes op_context too_large helpers_answer all_below u32_values helpers_of tracer_after left_after stored_in fragment_after put_row row_cells decoder_cells fresh built_system built_stack no_system no_stack last_system last_stack control_flow basic_block_batch operation word_at final_states counts_of for_passes built_cells cells_of refusal_all first_of sum_of fragments_wrong buffer_wrong fewer_rows any_above height_wrong not_full loop_without_body any_without_body body_ends rows_of opcode_of low_bits flagged_end buffer1 buffer2 buffer3 buffer4 refusal1 refusal2 refusal3 refusal4 refusal5 on_rows flat fixed_up first_row with_sides later_rows built_of multiplied with_counts inverted inverse_of euclid last_built halted last_row halt_row halt_decoder halt_stack padded padding_rows padding_row cell_at reduced read_system read_stack read_state read_captured
five = record { first = refl; second = refl; third = refl; fourth = refl; fifth = refl }

trace-five : Trace profile (written_by_five profile queued 4 fragments begin [] (replicate 16 0) 10) (nesting runs)
trace-five = five-trace profile queued 4 fragments begin runs [] (replicate 16 0) 10 five

-- opcode, address and count of each row
unfoldable fields : List (List ℕ) → List (ℕ × ℕ × ℕ)
fields [] = []
fields (row ∷ rows) = (opcode_of row, addr_of row, count_of row) ∷ fields rows

listing : fields (all_rows (written_by_finisher profile queued 4 fragments begin [] (replicate 16 0) 10)) ≡
    (85, 0, 2) ∷ (86, 1, 1) ∷ (5, 3, 0) ∷ (112, 3, 0) ∷ (116, 1, 0) ∷ (86, 1, 1) ∷ (5, 5, 0) ∷ (112, 5, 0) ∷ (112, 1, 0) ∷ (124, 0, 0) ∷ []
unfolding forest_a queued begin store_of cycle_of calls1 calls2 calls3 fragments AllAccepted Accepted call_refusal after after_all final_state cycle cycle_with scan_of any_big_opcode forest_too_large any_long_block any_large_batch read_registers helpers_of_cells system_cells stack_cells any_from profile_wrong opcodes two_equal is_one_of lacks_bits fragment_wrong made start_node start_kind start_block start_one made_end made_repeat finish_loop body_of block_kind entry_kind operation_made resumed node_at node_of is_slot digest_at opcode_at block_of started_at entry_at end_at batch_at is_batch starts_at batch_flags flags_up_to8 context_at_op group_of falling group_from place_in context_in_group consumed counts doubled round_up groups_of sum_groups any_above8 group_sum pushes op_context too_large helpers_answer all_below u32_values helpers_of tracer_after left_after stored_in fragment_after put_row row_cells decoder_cells fresh built_system built_stack no_system no_stack last_system last_stack control_flow basic_block_batch operation word_at final_states counts_of for_passes built_cells cells_of refusal_all first_of sum_of fragments_wrong buffer_wrong fewer_rows any_above height_wrong not_full loop_without_body any_without_body body_ends rows_of opcode_of low_bits flagged_end finisher_buffer all_passes on_rows flat fixed_up first_row with_sides later_rows built_of multiplied with_counts inverted inverse_of euclid last_built halted last_row halt_row halt_decoder halt_stack padded padding_rows padding_row all_rows fields cell_at reduced read_system read_stack read_state read_captured
listing = refl

-- WITH TALLIES

-- a fragment whose first cycle is lent a tally, and each later one what the one before left
unfoldable lent : (tally : List ℕ) → Fragment → LiveFragment
lent tally fragment = record { calls = map call fragment.calls; cells = fragment.cells; tally = tally }

lent-zeros : (fragments : List Fragment) → LentAsZeros (map (lent (replicate 512 0)) fragments)
unfolding lent LentAsZeros NoneLent
lent-zeros [] = tt
lent-zeros (fragment ∷ fragments) = ((λ i h. zero-at 512 i), none fragment.calls, lent-zeros fragments)
  where
    none : (calls : List Call) → NoneLent (map call calls)
    none [] = tt
    none (c ∷ calls) = none calls

-- in one fragment both passes are counted at the address behind their ENDs, the loop's: from zeros, and where the tally had 7 there
unfoldable whole : Fragment
whole = record { calls = calls1 ++ calls2 ++ calls3; cells = replicate 441 9 }

counted : map (λ z. take 4 z.tally) (live_ends profile queued (lent (replicate 512 0) whole ∷ []) begin) ≡ (1 ∷ 2 ∷ 0 ∷ 0 ∷ []) ∷ []
unfolding forest_a queued begin store_of cycle_of calls1 calls2 calls3 final_state cycle_with scan_of any_big_opcode forest_too_large any_long_block any_large_batch read_registers helpers_of_cells system_cells stack_cells any_from profile_wrong opcodes two_equal is_one_of lacks_bits fragment_wrong made start_node start_kind start_block start_one made_end made_repeat finish_loop body_of block_kind entry_kind operation_made resumed node_at node_of is_slot digest_at opcode_at block_of started_at entry_at end_at batch_at is_batch starts_at batch_flags flags_up_to8 context_at_op group_of falling group_from place_in context_in_group consumed counts doubled round_up groups_of sum_groups any_above8 group_sum pushes op_context too_large helpers_answer all_below u32_values helpers_of tracer_after left_after stored_in fragment_after put_row row_cells decoder_cells fresh built_system built_stack no_system no_stack last_system last_stack control_flow basic_block_batch operation word_at cell_at reduced read_system read_stack read_state read_captured AllLiveAccepted LiveAccepted live_refusal live_after live_after_all tallied_cycle unless_full tally_after counts_next place_for first_from is_of is_free cannot_count counted_at buffer_row opcode_of low_bits flagged_end whole lent live_ends
counted = refl

counted-on : map (λ z. take 4 z.tally) (live_ends profile queued (lent (1 ∷ 7 ∷ replicate 510 5) whole ∷ []) begin) ≡ (1 ∷ 9 ∷ 5 ∷ 5 ∷ []) ∷ []
unfolding forest_a queued begin store_of cycle_of calls1 calls2 calls3 final_state cycle_with scan_of any_big_opcode forest_too_large any_long_block any_large_batch read_registers helpers_of_cells system_cells stack_cells any_from profile_wrong opcodes two_equal is_one_of lacks_bits fragment_wrong made start_node start_kind start_block start_one made_end made_repeat finish_loop body_of block_kind entry_kind operation_made resumed node_at node_of is_slot digest_at opcode_at block_of started_at entry_at end_at batch_at is_batch starts_at batch_flags flags_up_to8 context_at_op group_of falling group_from place_in context_in_group consumed counts doubled round_up groups_of sum_groups any_above8 group_sum pushes op_context too_large helpers_answer all_below u32_values helpers_of tracer_after left_after stored_in fragment_after put_row row_cells decoder_cells fresh built_system built_stack no_system no_stack last_system last_stack control_flow basic_block_batch operation word_at cell_at reduced read_system read_stack read_state read_captured AllLiveAccepted LiveAccepted live_refusal live_after live_after_all tallied_cycle unless_full tally_after counts_next place_for first_from is_of is_free cannot_count counted_at buffer_row opcode_of low_bits flagged_end whole lent live_ends
counted-on = refl

-- the fragment by itself, its rows as they are in the buffer: pass 2 sets what its tally has
unfoldable alone : FreshFragment
alone = record { here = begin; cells = replicate 441 9; tally = replicate 512 0; zeros = λ i h. zero-at 512 i; calls = map (λ c. record { queues = queued; called = c }) (calls1 ++ calls2 ++ calls3) }

alone-cells : List ℕ
alone-cells = (fresh_end profile alone).held.cells

alone-sum : CountsSet profile (over_fragments profile (fresh_ends profile (alone ∷ []))) 9 (on_rows 9 (multiplied profile) alone-cells)
unfolding forest_a queued begin store_of cycle_of calls1 calls2 calls3 final_state cycle_with scan_of any_big_opcode forest_too_large any_long_block any_large_batch read_registers helpers_of_cells system_cells stack_cells any_from profile_wrong opcodes two_equal is_one_of lacks_bits fragment_wrong made start_node start_kind start_block start_one made_end made_repeat finish_loop body_of block_kind entry_kind operation_made resumed node_at node_of is_slot digest_at opcode_at block_of started_at entry_at end_at batch_at is_batch starts_at batch_flags flags_up_to8 context_at_op group_of falling group_from place_in context_in_group consumed counts doubled round_up groups_of sum_groups any_above8 group_sum pushes op_context too_large helpers_answer all_below u32_values helpers_of tracer_after left_after stored_in fragment_after put_row row_cells decoder_cells fresh built_system built_stack no_system no_stack last_system last_stack control_flow basic_block_batch operation word_at counts_of for_passes built_cells refusal_all first_of sum_of fragments_wrong buffer_wrong fewer_rows any_above height_wrong not_full loop_without_body any_without_body body_ends rows_of opcode_of low_bits flagged_end finisher_buffer all_passes on_rows flat fixed_up first_row with_sides later_rows built_of multiplied with_counts inverted inverse_of euclid last_built halted last_row halt_row halt_decoder halt_stack padded padding_rows padding_row all_rows fields cell_at reduced read_system read_stack read_state read_captured AllLiveAccepted LiveAccepted live_refusal live_after live_after_all tallied_cycle unless_full tally_after counts_next place_for first_from is_of is_free cannot_count counted_at buffer_row alone alone-cells live_after_each fresh_ends rows_of_all NoneEmpty decoders_of refusal2
alone-sum = tallies-add-up profile (alone ∷ []) alone-cells (omega arith, tt) refl refl

alone-set : fields (rows_of 9 (on_rows 9 (multiplied profile) alone-cells)) ≡
    (85, 0, 2) ∷ (86, 1, 1) ∷ (5, 3, 0) ∷ (112, 3, 0) ∷ (116, 1, 0) ∷ (86, 1, 1) ∷ (5, 5, 0) ∷ (112, 5, 0) ∷ (112, 1, 0) ∷ []
unfolding forest_a queued begin store_of cycle_of calls1 calls2 calls3 final_state cycle_with scan_of any_big_opcode forest_too_large any_long_block any_large_batch read_registers helpers_of_cells system_cells stack_cells any_from profile_wrong opcodes two_equal is_one_of lacks_bits fragment_wrong made start_node start_kind start_block start_one made_end made_repeat finish_loop body_of block_kind entry_kind operation_made resumed node_at node_of is_slot digest_at opcode_at block_of started_at entry_at end_at batch_at is_batch starts_at batch_flags flags_up_to8 context_at_op group_of falling group_from place_in context_in_group consumed counts doubled round_up groups_of sum_groups any_above8 group_sum pushes op_context too_large helpers_answer all_below u32_values helpers_of tracer_after left_after stored_in fragment_after put_row row_cells decoder_cells fresh built_system built_stack no_system no_stack last_system last_stack control_flow basic_block_batch operation word_at counts_of for_passes built_cells refusal_all first_of sum_of fragments_wrong buffer_wrong fewer_rows any_above height_wrong not_full loop_without_body any_without_body body_ends rows_of opcode_of low_bits flagged_end finisher_buffer all_passes on_rows flat fixed_up first_row with_sides later_rows built_of multiplied with_counts inverted inverse_of euclid last_built halted last_row halt_row halt_decoder halt_stack padded padding_rows padding_row all_rows fields cell_at reduced read_system read_stack read_state read_captured AllLiveAccepted LiveAccepted live_refusal live_after live_after_all tallied_cycle unless_full tally_after counts_next place_for first_from is_of is_free cannot_count counted_at buffer_row alone alone-cells live_after_each
alone-set = refl

-- in fragments of 8 the second END of a body ends a fragment
unfoldable fragments8 : List Fragment
fragments8 = record { calls = calls1 ++ calls2; cells = replicate 392 9 } ∷ record { calls = calls3; cells = replicate 392 9 } ∷ []

abbrev live8 : List LiveFragment
live8 = map (lent (replicate 512 0)) fragments8

crossed : (tallies_at 1 (live_ends profile queued live8 begin) ≡ 1) × (crossings profile 1 (live_ends profile queued live8 begin) ≡ 1)
unfolding forest_a queued begin store_of cycle_of calls1 calls2 calls3 final_state cycle_with scan_of any_big_opcode forest_too_large any_long_block any_large_batch read_registers helpers_of_cells system_cells stack_cells any_from profile_wrong opcodes two_equal is_one_of lacks_bits fragment_wrong made start_node start_kind start_block start_one made_end made_repeat finish_loop body_of block_kind entry_kind operation_made resumed node_at node_of is_slot digest_at opcode_at block_of started_at entry_at end_at batch_at is_batch starts_at batch_flags flags_up_to8 context_at_op group_of falling group_from place_in context_in_group consumed counts doubled round_up groups_of sum_groups any_above8 group_sum pushes op_context too_large helpers_answer all_below u32_values helpers_of tracer_after left_after stored_in fragment_after put_row row_cells decoder_cells fresh built_system built_stack no_system no_stack last_system last_stack control_flow basic_block_batch operation word_at cell_at reduced read_system read_stack read_state read_captured AllLiveAccepted LiveAccepted live_refusal live_after live_after_all tallied_cycle unless_full tally_after counts_next place_for first_from is_of is_free cannot_count counted_at buffer_row opcode_of low_bits flagged_end fragments8 lent live_ends tallies_at tallied_at crossing crossings rows_of last_row
crossed = (refl, refl)

free8 : AllLiveAccepted profile queued live8 begin
unfolding forest_a queued begin store_of cycle_of calls1 calls2 calls3 final_state cycle_with scan_of any_big_opcode forest_too_large any_long_block any_large_batch read_registers helpers_of_cells system_cells stack_cells any_from profile_wrong opcodes two_equal is_one_of lacks_bits fragment_wrong made start_node start_kind start_block start_one made_end made_repeat finish_loop body_of block_kind entry_kind operation_made resumed node_at node_of is_slot digest_at opcode_at block_of started_at entry_at end_at batch_at is_batch starts_at batch_flags flags_up_to8 context_at_op group_of falling group_from place_in context_in_group consumed counts doubled round_up groups_of sum_groups any_above8 group_sum pushes op_context too_large helpers_answer all_below u32_values helpers_of tracer_after left_after stored_in fragment_after put_row row_cells decoder_cells fresh built_system built_stack no_system no_stack last_system last_stack control_flow basic_block_batch operation word_at cell_at reduced read_system read_stack read_state read_captured AllLiveAccepted LiveAccepted live_refusal live_after live_after_all tallied_cycle unless_full tally_after counts_next place_for first_from is_of is_free cannot_count counted_at buffer_row opcode_of low_bits flagged_end fragments8 lent
free8 = (
  (refl, (refl, (refl, (refl, (refl, (refl, (refl, (refl, (refl, (refl, (refl, (refl, (refl, (refl, (refl, (refl, refl)))))))))))))))),
  ((refl, (refl, refl)), tt),
)

passes8 : LiveFinisherPasses profile queued 8 live8 begin [] (replicate 16 0) 10
unfolding forest_a queued begin store_of cycle_of calls1 calls2 calls3 final_state cycle_with scan_of any_big_opcode forest_too_large any_long_block any_large_batch read_registers helpers_of_cells system_cells stack_cells any_from profile_wrong opcodes two_equal is_one_of lacks_bits fragment_wrong made start_node start_kind start_block start_one made_end made_repeat finish_loop body_of block_kind entry_kind operation_made resumed node_at node_of is_slot digest_at opcode_at block_of started_at entry_at end_at batch_at is_batch starts_at batch_flags flags_up_to8 context_at_op group_of falling group_from place_in context_in_group consumed counts doubled round_up groups_of sum_groups any_above8 group_sum pushes op_context too_large helpers_answer all_below u32_values helpers_of tracer_after left_after stored_in fragment_after put_row row_cells decoder_cells fresh built_system built_stack no_system no_stack last_system last_stack control_flow basic_block_batch operation word_at counts_of for_passes built_cells refusal_all first_of sum_of fragments_wrong buffer_wrong fewer_rows any_above height_wrong not_full loop_without_body any_without_body body_ends rows_of opcode_of low_bits flagged_end cell_at reduced read_system read_stack read_state read_captured AllLiveAccepted LiveAccepted live_refusal live_after live_after_all tallied_cycle unless_full tally_after counts_next place_for first_from is_of is_free cannot_count counted_at buffer_row fragments8 lent live_ends live_finals live_cells
passes8 = refl

five8 : LiveFivePass profile queued 8 live8 begin [] (replicate 16 0) 10
unfolding forest_a queued begin store_of cycle_of calls1 calls2 calls3 final_state cycle_with scan_of any_big_opcode forest_too_large any_long_block any_large_batch read_registers helpers_of_cells system_cells stack_cells any_from profile_wrong opcodes two_equal is_one_of lacks_bits fragment_wrong made start_node start_kind start_block start_one made_end made_repeat finish_loop body_of block_kind entry_kind operation_made resumed node_at node_of is_slot digest_at opcode_at block_of started_at entry_at end_at batch_at is_batch starts_at batch_flags flags_up_to8 context_at_op group_of falling group_from place_in context_in_group consumed counts doubled round_up groups_of sum_groups any_above8 group_sum pushes op_context too_large helpers_answer all_below u32_values helpers_of tracer_after left_after stored_in fragment_after put_row row_cells decoder_cells fresh built_system built_stack no_system no_stack last_system last_stack control_flow basic_block_batch operation word_at counts_of for_passes built_cells refusal_all first_of sum_of fragments_wrong buffer_wrong fewer_rows any_above height_wrong not_full loop_without_body any_without_body body_ends rows_of opcode_of low_bits flagged_end buffer1 buffer2 buffer3 buffer4 refusal1 refusal2 refusal3 refusal4 refusal5 on_rows flat fixed_up first_row with_sides later_rows built_of multiplied with_counts inverted inverse_of euclid last_built halted last_row halt_row halt_decoder halt_stack padded padding_rows padding_row cell_at reduced read_system read_stack read_state read_captured AllLiveAccepted LiveAccepted live_refusal live_after live_after_all tallied_cycle unless_full tally_after counts_next place_for first_from is_of is_free cannot_count counted_at buffer_row fragments8 lent live_ends live_finals live_cells
five8 = record { first = refl; second = refl; third = refl; fourth = refl; fifth = refl }

-- the sums are the counts of what is written, and the LOOP has 2
sum8 : CountsSet profile (over_fragments profile (live_ends profile queued live8 begin)) 9 (live_by_finisher profile queued 8 live8 begin [] (replicate 16 0) 10)
unfolding forest_a queued begin store_of cycle_of calls1 calls2 calls3 final_state cycle_with scan_of any_big_opcode forest_too_large any_long_block any_large_batch read_registers helpers_of_cells system_cells stack_cells any_from profile_wrong opcodes two_equal is_one_of lacks_bits fragment_wrong made start_node start_kind start_block start_one made_end made_repeat finish_loop body_of block_kind entry_kind operation_made resumed node_at node_of is_slot digest_at opcode_at block_of started_at entry_at end_at batch_at is_batch starts_at batch_flags flags_up_to8 context_at_op group_of falling group_from place_in context_in_group consumed counts doubled round_up groups_of sum_groups any_above8 group_sum pushes op_context too_large helpers_answer all_below u32_values helpers_of tracer_after left_after stored_in fragment_after put_row row_cells decoder_cells fresh built_system built_stack no_system no_stack last_system last_stack control_flow basic_block_batch operation word_at counts_of for_passes built_cells refusal_all first_of sum_of fragments_wrong buffer_wrong fewer_rows any_above height_wrong not_full loop_without_body any_without_body body_ends rows_of opcode_of low_bits flagged_end cell_at reduced read_system read_stack read_state read_captured AllLiveAccepted LiveAccepted live_refusal live_after live_after_all tallied_cycle unless_full tally_after counts_next place_for first_from is_of is_free cannot_count counted_at buffer_row fragments8 lent plain_all plain_calls live_ends live_finals OneSize
sum8 = tallies-add-up-finished profile queued 8 live8 begin (lent-zeros fragments8) free8 [] (replicate 16 0) 10 (refl, refl, tt) passes8

sum8-five : CountsSet profile (over_fragments profile (live_ends profile queued live8 begin)) 9 (live_by_five profile queued 8 live8 begin [] (replicate 16 0) 10)
unfolding forest_a queued begin store_of cycle_of calls1 calls2 calls3 final_state cycle_with scan_of any_big_opcode forest_too_large any_long_block any_large_batch read_registers helpers_of_cells system_cells stack_cells any_from profile_wrong opcodes two_equal is_one_of lacks_bits fragment_wrong made start_node start_kind start_block start_one made_end made_repeat finish_loop body_of block_kind entry_kind operation_made resumed node_at node_of is_slot digest_at opcode_at block_of started_at entry_at end_at batch_at is_batch starts_at batch_flags flags_up_to8 context_at_op group_of falling group_from place_in context_in_group consumed counts doubled round_up groups_of sum_groups any_above8 group_sum pushes op_context too_large helpers_answer all_below u32_values helpers_of tracer_after left_after stored_in fragment_after put_row row_cells decoder_cells fresh built_system built_stack no_system no_stack last_system last_stack control_flow basic_block_batch operation word_at counts_of for_passes built_cells refusal_all first_of sum_of fragments_wrong buffer_wrong fewer_rows any_above height_wrong not_full loop_without_body any_without_body body_ends rows_of opcode_of low_bits flagged_end cell_at reduced read_system read_stack read_state read_captured AllLiveAccepted LiveAccepted live_refusal live_after live_after_all tallied_cycle unless_full tally_after counts_next place_for first_from is_of is_free cannot_count counted_at buffer_row fragments8 lent plain_all plain_calls live_ends live_finals OneSize
sum8-five = tallies-add-up-five profile queued 8 live8 begin (lent-zeros fragments8) free8 [] (replicate 16 0) 10 (refl, refl, tt) five8

set8 : take 1 (fields (all_rows (live_by_finisher profile queued 8 live8 begin [] (replicate 16 0) 10))) ≡ (85, 0, 2) ∷ []
unfolding forest_a queued begin store_of cycle_of calls1 calls2 calls3 final_state cycle_with scan_of any_big_opcode forest_too_large any_long_block any_large_batch read_registers helpers_of_cells system_cells stack_cells any_from profile_wrong opcodes two_equal is_one_of lacks_bits fragment_wrong made start_node start_kind start_block start_one made_end made_repeat finish_loop body_of block_kind entry_kind operation_made resumed node_at node_of is_slot digest_at opcode_at block_of started_at entry_at end_at batch_at is_batch starts_at batch_flags flags_up_to8 context_at_op group_of falling group_from place_in context_in_group consumed counts doubled round_up groups_of sum_groups any_above8 group_sum pushes op_context too_large helpers_answer all_below u32_values helpers_of tracer_after left_after stored_in fragment_after put_row row_cells decoder_cells fresh built_system built_stack no_system no_stack last_system last_stack control_flow basic_block_batch operation word_at counts_of for_passes built_cells refusal_all first_of sum_of fragments_wrong buffer_wrong fewer_rows any_above height_wrong not_full loop_without_body any_without_body body_ends rows_of opcode_of low_bits flagged_end finisher_buffer all_passes on_rows flat fixed_up first_row with_sides later_rows built_of multiplied with_counts inverted inverse_of euclid last_built halted last_row halt_row halt_decoder halt_stack padded padding_rows padding_row all_rows fields cell_at reduced read_system read_stack read_state read_captured AllLiveAccepted LiveAccepted live_refusal live_after live_after_all tallied_cycle unless_full tally_after counts_next place_for first_from is_of is_free cannot_count counted_at buffer_row fragments8 lent live_ends live_finals live_cells
set8 = refl

-- other numbers in the tallies, and one lent in front of the cycle that counts
runs8 : Runs profile queued 8 fragments8 begin
unfolding forest_a queued begin store_of cycle_of calls1 calls2 calls3 fragments AllAccepted Accepted call_refusal after after_all final_state cycle cycle_with scan_of any_big_opcode forest_too_large any_long_block any_large_batch read_registers helpers_of_cells system_cells stack_cells any_from profile_wrong opcodes two_equal is_one_of lacks_bits fragment_wrong made start_node start_kind start_block start_one made_end made_repeat finish_loop body_of block_kind entry_kind operation_made resumed node_at node_of is_slot digest_at opcode_at block_of started_at entry_at end_at batch_at is_batch starts_at batch_flags flags_up_to8 context_at_op group_of falling group_from place_in context_in_group consumed counts doubled round_up groups_of sum_groups any_above8 group_sum pushes op_context too_large helpers_answer all_below u32_values helpers_of tracer_after left_after stored_in fragment_after put_row row_cells decoder_cells fresh built_system built_stack no_system no_stack last_system last_stack control_flow basic_block_batch operation word_at final_states counts_of for_passes OneSize cycles_of cycles_in did_stored did_by start_of operation_at finish_of nothing_stored stored left_by used_by positions_after in_force_after_all in_force_after with_loop loop_starts run tree_from depth_of cell_at reduced read_system read_stack read_state read_captured fragments8
runs8 = record {
  forest = forest_a;
  root = 0;
  parent = 0;
  own = 1;
  third = 77;
  proper = run;
  accepted = (
    (refl, (refl, (refl, (refl, (refl, (refl, (refl, (refl, (refl, (refl, (refl, (refl, (refl, (refl, (refl, (refl, refl)))))))))))))))),
    ((refl, (refl, refl)), tt),
  );
  loops_apart = refl;
  shallow = omega arith;
  one_size = (refl, refl, tt);
}

unfoldable forged8 : List LiveFragment
forged8 =
    record { calls = map call calls1 ++ (lend (6 ∷ 6 ∷ replicate 600 0) ∷ map call calls2); cells = replicate 392 9; tally = replicate 512 6 }
    ∷ record { calls = map call calls3; cells = replicate 392 9; tally = replicate 512 0 } ∷ []

plain8 : plain_all forged8 ≡ fragments8
unfolding forged8 fragments8 calls1 calls2 calls3 plain_all plain_calls
plain8 = refl

forged-free : AllLiveAccepted profile queued forged8 begin
unfolding forest_a queued begin store_of cycle_of calls1 calls2 calls3 final_state cycle_with scan_of any_big_opcode forest_too_large any_long_block any_large_batch read_registers helpers_of_cells system_cells stack_cells any_from profile_wrong opcodes two_equal is_one_of lacks_bits fragment_wrong made start_node start_kind start_block start_one made_end made_repeat finish_loop body_of block_kind entry_kind operation_made resumed node_at node_of is_slot digest_at opcode_at block_of started_at entry_at end_at batch_at is_batch starts_at batch_flags flags_up_to8 context_at_op group_of falling group_from place_in context_in_group consumed counts doubled round_up groups_of sum_groups any_above8 group_sum pushes op_context too_large helpers_answer all_below u32_values helpers_of tracer_after left_after stored_in fragment_after put_row row_cells decoder_cells fresh built_system built_stack no_system no_stack last_system last_stack control_flow basic_block_batch operation word_at cell_at reduced read_system read_stack read_state read_captured AllLiveAccepted LiveAccepted live_refusal live_after live_after_all tallied_cycle unless_full tally_after counts_next place_for first_from is_of is_free cannot_count counted_at buffer_row opcode_of low_bits flagged_end forged8
forged-free = (
  (refl, (refl, (refl, (refl, (refl, (refl, (refl, (refl, (refl, (refl, (refl, (refl, (refl, (refl, (refl, (refl, refl)))))))))))))))),
  ((refl, (refl, refl)), tt),
)

forged-passes : LiveFinisherPasses profile queued 8 forged8 begin [] (replicate 16 0) 10
unfolding forest_a queued begin store_of cycle_of calls1 calls2 calls3 final_state cycle_with scan_of any_big_opcode forest_too_large any_long_block any_large_batch read_registers helpers_of_cells system_cells stack_cells any_from profile_wrong opcodes two_equal is_one_of lacks_bits fragment_wrong made start_node start_kind start_block start_one made_end made_repeat finish_loop body_of block_kind entry_kind operation_made resumed node_at node_of is_slot digest_at opcode_at block_of started_at entry_at end_at batch_at is_batch starts_at batch_flags flags_up_to8 context_at_op group_of falling group_from place_in context_in_group consumed counts doubled round_up groups_of sum_groups any_above8 group_sum pushes op_context too_large helpers_answer all_below u32_values helpers_of tracer_after left_after stored_in fragment_after put_row row_cells decoder_cells fresh built_system built_stack no_system no_stack last_system last_stack control_flow basic_block_batch operation word_at counts_of for_passes built_cells refusal_all first_of sum_of fragments_wrong buffer_wrong fewer_rows any_above height_wrong not_full loop_without_body any_without_body body_ends rows_of opcode_of low_bits flagged_end cell_at reduced read_system read_stack read_state read_captured AllLiveAccepted LiveAccepted live_refusal live_after live_after_all tallied_cycle unless_full tally_after counts_next place_for first_from is_of is_free cannot_count counted_at buffer_row forged8 live_ends live_finals live_cells
forged-passes = refl

-- what is written is read as the run
forged-trace : Trace profile (live_by_finisher profile queued 8 forged8 begin [] (replicate 16 0) 10) (nesting runs8)
forged-trace =
    live_written profile queued 8 forged8 begin forged-free [] (replicate 16 0) 10 (λ cells. Trace profile cells (nesting runs8))
    (rw plain8 (finisher-trace profile queued 8 fragments8 begin runs8 [] (replicate 16 0) 10)) forged-passes
