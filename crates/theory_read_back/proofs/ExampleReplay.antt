-- C10's run, lent as records in fragments of 4: the premises over replay can be met, and its rows, reading and counts computed over the
-- definitions. For N11 also in one fragment of 9, and as calls with a tally.
use mathlib.Core.Path.{◌≡◌, refl}
use mathlib.Core.List.{List, [], ◌∷◌, ◌++◌, map}
use Prim.Native.Nat.{ℕ}
use native.Mathlib.Omega.{arith}
use mathlib.Core.Bool.{false}
use lib.ListN.{replicate}
use Rattle.field.specs.Inverse.{euclid, inverse_of}
use Rattle.field.specs.Bounds.{any_from}
use Rattle.field.specs.Cells.{cell_at, reduced}
use Rattle.groups.specs.Words.{word_at}
use Rattle.groups.specs.Batches.{is_batch, batch_at, starts_at}
use Rattle.groups.specs.Flags.{flags_up_to8, batch_flags}
use Rattle.groups.specs.GroupOfOperation.{falling, place_in, group_from, group_of}
use Rattle.groups.specs.GroupsLeft.{counts, doubled, round_up, groups_of, sum_groups, any_above8, group_sum, pushes}
use Rattle.groups.specs.Contexts.{too_large, consumed, op_context, context_in_group, context_at_op}
use Rattle.groups.specs.Helpers.{all_below, read_registers, u32_values, helpers_of, helpers_of_cells, helpers_answer}
use Rattle.rows.specs.records.Profiles.{opcodes, is_one_of, two_equal, lacks_bits, profile_wrong}
use Rattle.rows.specs.records.Forests.{Forest, is_slot, node_of, node_at, digest_at, opcode_at, block_of}
use Rattle.rows.specs.records.Addresses.{Queues, entry_at, started_at, end_at, read_state}
use Rattle.rows.specs.records.Captured.{read_captured}
use Rattle.rows.specs.records.DecoderRows.{control_flow, basic_block_batch, operation, decoder_cells}
use Rattle.rows.specs.records.Built.{built_system, built_stack, no_system, no_stack, system_cells, stack_cells, read_system, read_stack}
use Rattle.rows.specs.declared.records.address_state.Cursor.{Cursor}
use Rattle.rows.specs.cycles.Made.{start_block, start_one, start_kind, start_node, block_kind, entry_kind, made_end, body_of, made_repeat, finish_loop, operation_made, resumed, made}
use Rattle.rows.specs.records.Cells.{row_cells, put_row}
use Rattle.rows.specs.cycles.Scans.{any_big_opcode, any_long_block, any_large_batch, forest_too_large, scan_of}
use Rattle.rows.specs.records.Cells.{fragment_wrong}
use Rattle.rows.specs.cycles.Cycles.{fresh, stored_in, cycle_with, left_after, tracer_after, last_system, last_stack, fragment_after, final_state, for_passes}
use Rattle.rows.specs.cycles.LentTally.{is_free, is_of, first_from, place_for, counted_at, cannot_count, counts_next, unless_full, tally_after, tallied_cycle}
use Rattle.rows.specs.replay.Calls.{directory_entry, window, forest_in, forest_of, call_done, call_written, through, written, ending, next_state, next_positions, told, scanned, replayed, replayed_fragment}
use Rattle.rows.specs.records.CallRecords.{names_no_kind, of32, condition_in, callee_in, info_in, resume_in, continuation_on, continuation_in, names_nothing, stored_in_record, system_in, stack_in, few_cells, many_cells, registers_in, finish_in, call_in, record_at}
use Rattle.rows.specs.records.Buffers.{rows_of, buffer_row, flat, on_rows, last_row, addr_of, low_bits, opcode_of, buffer_wrong, fewer_rows}
use Rattle.rows.specs.passes.Passes.{with_sides, first_row, later_rows, fixed_up, built_of, flagged_end, body_ends, with_counts, any_without_body, multiplied, loop_without_body, inverted, halt_decoder, halt_stack, halt_row, halted, padding_row, padding_rows, padded, sum_of, any_above, not_full, fragments_wrong, height_wrong, refusal_all, last_built, all_passes}
use Rattle.groups.specs.Answer.{first_of}
use Rattle.theory_readings.specs.Tokens.{controls, control_opcodes, is_op_opcode, count_of}
use Rattle.theory_readings.specs.Readings.{Ops, Block, Passes, depth_of, all_rows}
use Rattle.theory_readings.proofs.Examples.{profile}
use Rattle.theory_runs.specs.Calls.{counts_of, built_cells, OneSize}
use Rattle.theory_runs.specs.Happened.{nothing_stored, start_of, operation_at, finish_of, did_by, did_stored, used_by, positions_after, stored, left_by, in_force_after, in_force_after_all, cycles_in, cycles_of}
use Rattle.theory_runs.specs.ProperRuns.{Holds, HasOperations, HasOpcode, with_loop, loop_starts, InBlock, Run, RunPasses, ops_from, tree_from}
use Rattle.theory_runs.specs.Finished.{finisher_buffer, FinishedTo}
use Rattle.theory_runs.specs.SameCalls.{all_calls}
use Rattle.theory_runs.specs.LiveCalls.{call, LiveFragment, plain_calls, plain_all, live_refusal, live_after, live_after_all, LiveAccepted, AllLiveAccepted, live_ends, live_finals, live_cells}
use Rattle.theory_runs.specs.LiveFinished.{live_by_finisher, LiveFinisherPasses, LiveCut}
use Rattle.theory_read_back.specs.ReplayedRuns.{Lent, all_numbers, call_of, calls_of, recorded_calls, fragments_of, AllReplayed, counts_replayed, built_replayed, cells_replayed, ReplayedRuns, records_nesting, finished_replay, ReplayFinishes, ReplayCut}
use Rattle.theory_read_back.specs.ReadBack.{ReadBack}
use Rattle.theory_read_back.proofs.ReadBackTheorems.{replay-read, replay-any-size, live-replay-any-size}

-- forest 0 is one slot that has its digest alone; in forest 1 slot 0 is a loop, slot 1 its body, a block of one batch with the operation 5
unfoldable forests : Forest
forests = record {
  nodes = 1 ∷ 0 ∷ 0 ∷ 0 ∷ 0 ∷ 0 ∷ 5 ∷ 1 ∷ 0 ∷ 0 ∷ 0 ∷ 0 ∷ 2 ∷ 0 ∷ 0 ∷ 1 ∷ 0 ∷ 1 ∷ [];
  digests = 1 ∷ 2 ∷ 3 ∷ 4 ∷ 10 ∷ 11 ∷ 12 ∷ 13 ∷ 20 ∷ 21 ∷ 22 ∷ 23 ∷ [];
  batches = 1 ∷ 0 ∷ 1 ∷ 1 ∷ 1 ∷ 1 ∷ 1 ∷ 1 ∷ 1 ∷ 1 ∷ 1 ∷ 0 ∷ [];
  groups = 5 ∷ 0 ∷ 0 ∷ 0 ∷ 0 ∷ 0 ∷ 0 ∷ 0 ∷ [];
  ops = 5 ∷ [];
}

unfoldable directory : List ℕ
directory = 0 ∷ 1 ∷ 0 ∷ 0 ∷ 0 ∷ 0 ∷ 1 ∷ 2 ∷ 0 ∷ 1 ∷ 0 ∷ 1 ∷ []

unfoldable queued : Queues
queued = record { addresses = 1 ∷ 3 ∷ 5 ∷ []; parents = 0 ∷ 1 ∷ 1 ∷ []; ends = 3 ∷ 1 ∷ 0 ∷ 5 ∷ 1 ∷ 0 ∷ 1 ∷ 0 ∷ 77 ∷ [] }

unfoldable begin : Cursor
begin = record { state = record { current_addr = 9; parent_addr = 9 }; at = record { addresses = 0; parents = 0; ends = 0 } }

-- the record of a storing: kind 1 StartNode, 4 FinishLoop, 7 ResumeBasicBlock (of batch 0, operation 0), 9 FinishBasicBlock; the flag; the
-- condition, 0 absent, 1 zero, 2 one
unfoldable store_of : (kind node flag condition : ℕ) → List ℕ
store_of kind node flag condition = 0 ∷ kind ∷ node ∷ 0 ∷ 0 ∷ flag ∷ condition ∷ replicate 25 0

-- the record of the cycle with clock row n, in forest 1, without helper values
unfoldable cycle_of : (n : ℕ) → List ℕ
cycle_of n = 18 ∷ 1 ∷ n ∷ (replicate 21 0 ++ (16 ∷ replicate 7 0))

-- the fragments held other numbers before
unfoldable lents : List Lent
lents =
    record {
      numbers =
          store_of 1 0 0 0 ++ cycle_of 0 ++ store_of 1 1 1 0 ++ cycle_of 1 ++ store_of 7 1 0 0 ++ cycle_of 2 ++ store_of 9 1 1 0 ++ cycle_of 3;
      cells = replicate 196 9;
    }
    ∷ record {
      numbers =
          store_of 4 0 0 2 ++ cycle_of 4 ++ store_of 1 1 1 0 ++ cycle_of 5 ++ store_of 7 1 0 0 ++ cycle_of 6 ++ store_of 9 1 1 0 ++ cycle_of 7;
      cells = replicate 196 9;
    }
    ∷ record { numbers = store_of 4 0 0 1 ++ cycle_of 8; cells = replicate 196 9 } ∷ []

free : AllReplayed profile forests directory queued lents begin
unfolding forests directory queued begin store_of cycle_of lents of32 condition_in callee_in info_in resume_in continuation_on names_no_kind continuation_in names_nothing stored_in_record system_in stack_in few_cells many_cells registers_in finish_in call_in record_at directory_entry window forest_in forest_of call_done call_written through written ending next_state next_positions told scanned replayed replayed_fragment for_passes AllReplayed fresh stored_in cycle_with left_after tracer_after last_system last_stack fragment_after final_state scan_of any_big_opcode forest_too_large any_long_block any_large_batch read_registers helpers_of_cells system_cells stack_cells any_from profile_wrong opcodes two_equal is_one_of lacks_bits fragment_wrong made start_node start_kind start_block start_one made_end made_repeat finish_loop body_of block_kind entry_kind operation_made resumed node_at node_of is_slot digest_at opcode_at block_of started_at entry_at end_at batch_at is_batch starts_at batch_flags flags_up_to8 context_at_op group_of falling group_from place_in context_in_group consumed counts doubled round_up groups_of sum_groups any_above8 group_sum pushes op_context too_large helpers_answer all_below u32_values helpers_of put_row row_cells decoder_cells built_system built_stack no_system no_stack control_flow basic_block_batch operation word_at cell_at reduced read_system read_stack read_state read_captured
free = (refl, (refl, (refl, tt)))

run : Run profile (forest_in forests (directory_entry directory 1)) 0 false 0 1 77 (cycles_of queued (fragments_of forests directory lents) begin.at) []
unfolding forests directory queued begin store_of cycle_of lents of32 condition_in callee_in info_in resume_in continuation_on names_no_kind continuation_in names_nothing stored_in_record system_in stack_in few_cells many_cells registers_in finish_in call_in record_at directory_entry window forest_in forest_of call_done call_written through written ending next_state next_positions told scanned replayed replayed_fragment for_passes call_of calls_of fragments_of cycles_of cycles_in did_stored did_by start_of operation_at finish_of nothing_stored stored left_by used_by positions_after in_force_after_all in_force_after left_after node_at node_of is_slot opcode_at block_of started_at entry_at end_at batch_at is_batch word_at Holds HasOperations HasOpcode is_op_opcode control_opcodes controls is_one_of cell_at reduced read_system read_stack read_state read_captured
run =
    Run.loop (_, refl)
    (RunPasses.again (Run.block (_, refl) (InBlock.operation 5 (_, refl, refl) refl (InBlock.ended (_, refl, refl) refl)))
    (RunPasses.ended (Run.block (_, refl) (InBlock.operation 5 (_, refl, refl) refl (InBlock.ended (_, refl, refl) refl)))))

runs : ReplayedRuns profile forests directory queued 4 lents begin
unfolding forests directory queued begin store_of cycle_of lents of32 condition_in callee_in info_in resume_in continuation_on names_no_kind continuation_in names_nothing stored_in_record system_in stack_in few_cells many_cells registers_in finish_in call_in record_at directory_entry window forest_in forest_of call_done call_written through written ending next_state next_positions told scanned replayed replayed_fragment for_passes counts_replayed call_of calls_of fragments_of cycles_of cycles_in did_stored did_by start_of operation_at finish_of nothing_stored stored left_by used_by positions_after in_force_after_all in_force_after fresh stored_in cycle_with left_after tracer_after last_system last_stack fragment_after final_state scan_of any_big_opcode forest_too_large any_long_block any_large_batch read_registers helpers_of_cells system_cells stack_cells any_from profile_wrong opcodes two_equal is_one_of lacks_bits fragment_wrong made start_node start_kind start_block start_one made_end made_repeat finish_loop body_of block_kind entry_kind operation_made resumed node_at node_of is_slot digest_at opcode_at block_of started_at entry_at end_at batch_at is_batch starts_at batch_flags flags_up_to8 context_at_op group_of falling group_from place_in context_in_group consumed counts doubled round_up groups_of sum_groups any_above8 group_sum pushes op_context too_large helpers_answer all_below u32_values helpers_of put_row row_cells decoder_cells built_system built_stack no_system no_stack control_flow basic_block_batch operation word_at OneSize with_loop loop_starts run tree_from depth_of cell_at reduced read_system read_stack read_state read_captured
runs = record {
  forest = forest_in forests (directory_entry directory 1);
  root = 0;
  parent = 0;
  own = 1;
  third = 77;
  proper = run;
  replays = free;
  loops_apart = refl;
  shallow = omega arith;
  one_size = (refl, refl, (refl, refl, tt));
}

-- the nesting of the records
tree : records_nesting profile forests directory queued runs ≡ Block.loop 0 (Passes.repeated (Block.span 1 (Ops.op 2 5 (Ops.ended 3))) 4 (Passes.ended (Block.span 5 (Ops.op 6 5 (Ops.ended 7))) 8))
unfolding runs run tree_from ops_from
tree = refl

-- the finisher, with height 10, does not refuse
passes : ReplayFinishes profile forests directory queued 4 lents begin [] (replicate 16 0) 10
unfolding forests directory queued begin store_of cycle_of lents of32 condition_in callee_in info_in resume_in continuation_on names_no_kind continuation_in names_nothing stored_in_record system_in stack_in few_cells many_cells registers_in finish_in call_in record_at directory_entry window forest_in forest_of call_done call_written through written ending next_state next_positions told scanned replayed replayed_fragment for_passes counts_replayed built_replayed cells_replayed fresh stored_in cycle_with left_after tracer_after last_system last_stack fragment_after final_state scan_of any_big_opcode forest_too_large any_long_block any_large_batch read_registers helpers_of_cells system_cells stack_cells any_from profile_wrong opcodes two_equal is_one_of lacks_bits fragment_wrong made start_node start_kind start_block start_one made_end made_repeat finish_loop body_of block_kind entry_kind operation_made resumed node_at node_of is_slot digest_at opcode_at block_of started_at entry_at end_at batch_at is_batch starts_at batch_flags flags_up_to8 context_at_op group_of falling group_from place_in context_in_group consumed counts doubled round_up groups_of sum_groups any_above8 group_sum pushes op_context too_large helpers_answer all_below u32_values helpers_of put_row row_cells decoder_cells built_system built_stack no_system no_stack control_flow basic_block_batch operation word_at refusal_all first_of sum_of fragments_wrong buffer_wrong fewer_rows any_above height_wrong not_full loop_without_body any_without_body body_ends rows_of opcode_of low_bits flagged_end cell_at reduced read_system read_stack read_state read_captured
passes = refl

-- so what it leaves is read back
read : ReadBack profile (finished_replay profile forests directory queued 4 lents begin [] (replicate 16 0) 10) (records_nesting profile forests directory queued runs)
read = replay-read profile forests directory queued 4 lents begin runs [] (replicate 16 0) 10 passes

-- opcode, address and count of each row
unfoldable fields : List (List ℕ) → List (ℕ × ℕ × ℕ)
fields [] = []
fields (row ∷ rows) = (opcode_of row, addr_of row, count_of row) ∷ fields rows

listing : fields (all_rows (finished_replay profile forests directory queued 4 lents begin [] (replicate 16 0) 10)) ≡
    (85, 0, 2) ∷ (86, 1, 1) ∷ (5, 3, 0) ∷ (112, 3, 0) ∷ (116, 1, 0) ∷ (86, 1, 1) ∷ (5, 5, 0) ∷ (112, 5, 0) ∷ (112, 1, 0) ∷ (124, 0, 0) ∷ []
unfolding forests directory queued begin store_of cycle_of lents of32 condition_in callee_in info_in resume_in continuation_on names_no_kind continuation_in names_nothing stored_in_record system_in stack_in few_cells many_cells registers_in finish_in call_in record_at directory_entry window forest_in forest_of call_done call_written through written ending next_state next_positions told scanned replayed replayed_fragment for_passes counts_replayed built_replayed cells_replayed fresh stored_in cycle_with left_after tracer_after last_system last_stack fragment_after final_state scan_of any_big_opcode forest_too_large any_long_block any_large_batch read_registers helpers_of_cells system_cells stack_cells any_from profile_wrong opcodes two_equal is_one_of lacks_bits fragment_wrong made start_node start_kind start_block start_one made_end made_repeat finish_loop body_of block_kind entry_kind operation_made resumed node_at node_of is_slot digest_at opcode_at block_of started_at entry_at end_at batch_at is_batch starts_at batch_flags flags_up_to8 context_at_op group_of falling group_from place_in context_in_group consumed counts doubled round_up groups_of sum_groups any_above8 group_sum pushes op_context too_large helpers_answer all_below u32_values helpers_of put_row row_cells decoder_cells built_system built_stack no_system no_stack control_flow basic_block_batch operation word_at refusal_all first_of sum_of fragments_wrong buffer_wrong fewer_rows any_above height_wrong not_full loop_without_body any_without_body body_ends rows_of opcode_of low_bits flagged_end finisher_buffer all_passes on_rows flat fixed_up first_row with_sides later_rows built_of multiplied with_counts inverted inverse_of euclid last_built halted last_row halt_row halt_decoder halt_stack padded padding_rows padding_row all_rows fields cell_at reduced read_system read_stack read_state read_captured
listing = refl

-- N11 over replay: the same records in one fragment of 9 rows, which held other numbers, are finished to the same cells
unfoldable whole : List Lent
whole = record { numbers = all_numbers lents; cells = replicate 441 7 } ∷ []

cut-four : ReplayCut profile forests directory queued (all_numbers lents) 4 lents begin
cut-four = record { records_are = refl; replays = free; one_size = runs.one_size }

cut-whole : ReplayCut profile forests directory queued (all_numbers lents) 9 whole begin
unfolding forests directory queued begin store_of cycle_of lents of32 condition_in callee_in info_in resume_in continuation_on names_no_kind continuation_in names_nothing stored_in_record system_in stack_in few_cells many_cells registers_in finish_in call_in record_at directory_entry window forest_in forest_of call_done call_written through written ending next_state next_positions told scanned replayed replayed_fragment for_passes AllReplayed fresh stored_in cycle_with left_after tracer_after last_system last_stack fragment_after final_state scan_of any_big_opcode forest_too_large any_long_block any_large_batch read_registers helpers_of_cells system_cells stack_cells any_from profile_wrong opcodes two_equal is_one_of lacks_bits fragment_wrong made start_node start_kind start_block start_one made_end made_repeat finish_loop body_of block_kind entry_kind operation_made resumed node_at node_of is_slot digest_at opcode_at block_of started_at entry_at end_at batch_at is_batch starts_at batch_flags flags_up_to8 context_at_op group_of falling group_from place_in context_in_group consumed counts doubled round_up groups_of sum_groups any_above8 group_sum pushes op_context too_large helpers_answer all_below u32_values helpers_of put_row row_cells decoder_cells built_system built_stack no_system no_stack control_flow basic_block_batch operation word_at cell_at reduced read_system read_stack read_state read_captured whole all_numbers OneSize fragments_of counts_replayed
cut-whole = record { records_are = refl; replays = (refl, tt); one_size = tt }

passes-whole : ReplayFinishes profile forests directory queued 9 whole begin (replicate 49 6) (replicate 16 0) 10
unfolding forests directory queued begin store_of cycle_of lents of32 condition_in callee_in info_in resume_in continuation_on names_no_kind continuation_in names_nothing stored_in_record system_in stack_in few_cells many_cells registers_in finish_in call_in record_at directory_entry window forest_in forest_of call_done call_written through written ending next_state next_positions told scanned replayed replayed_fragment for_passes counts_replayed built_replayed cells_replayed fresh stored_in cycle_with left_after tracer_after last_system last_stack fragment_after final_state scan_of any_big_opcode forest_too_large any_long_block any_large_batch read_registers helpers_of_cells system_cells stack_cells any_from profile_wrong opcodes two_equal is_one_of lacks_bits fragment_wrong made start_node start_kind start_block start_one made_end made_repeat finish_loop body_of block_kind entry_kind operation_made resumed node_at node_of is_slot digest_at opcode_at block_of started_at entry_at end_at batch_at is_batch starts_at batch_flags flags_up_to8 context_at_op group_of falling group_from place_in context_in_group consumed counts doubled round_up groups_of sum_groups any_above8 group_sum pushes op_context too_large helpers_answer all_below u32_values helpers_of put_row row_cells decoder_cells built_system built_stack no_system no_stack control_flow basic_block_batch operation word_at refusal_all first_of sum_of fragments_wrong buffer_wrong fewer_rows any_above height_wrong not_full loop_without_body any_without_body body_ends rows_of opcode_of low_bits flagged_end cell_at reduced read_system read_stack read_state read_captured whole all_numbers
passes-whole = refl

same-files : finished_replay profile forests directory queued 4 lents begin [] (replicate 16 0) 10 ≡ finished_replay profile forests directory queued 9 whole begin (replicate 49 6) (replicate 16 0) 10
same-files =
    replay-any-size profile forests directory queued (all_numbers lents) 4 9 lents whole begin cut-four cut-whole (replicate 16 0) 10 _ _
    (FinishedTo.of_finisher [] passes) (FinishedTo.of_finisher (replicate 49 6) passes-whole)

-- and the same calls with a tally, in one fragment
unfoldable live : List LiveFragment
live = record { calls = map call (recorded_calls forests directory (all_numbers lents)); cells = replicate 441 3; tally = replicate 512 0 } ∷ []

cut-live : LiveCut profile queued (recorded_calls forests directory (all_numbers lents)) 9 live begin
unfolding forests directory queued begin store_of cycle_of lents of32 condition_in callee_in info_in resume_in continuation_on names_no_kind continuation_in names_nothing stored_in_record system_in stack_in few_cells many_cells registers_in finish_in call_in record_at directory_entry window forest_in forest_of call_done call_written through written ending next_state next_positions told scanned replayed replayed_fragment for_passes counts_replayed call_of calls_of fresh stored_in cycle_with left_after tracer_after last_system last_stack fragment_after final_state scan_of any_big_opcode forest_too_large any_long_block any_large_batch read_registers helpers_of_cells system_cells stack_cells any_from profile_wrong opcodes two_equal is_one_of lacks_bits fragment_wrong made start_node start_kind start_block start_one made_end made_repeat finish_loop body_of block_kind entry_kind operation_made resumed node_at node_of is_slot digest_at opcode_at block_of started_at entry_at end_at batch_at is_batch starts_at batch_flags flags_up_to8 context_at_op group_of falling group_from place_in context_in_group consumed counts doubled round_up groups_of sum_groups any_above8 group_sum pushes op_context too_large helpers_answer all_below u32_values helpers_of put_row row_cells decoder_cells built_system built_stack no_system no_stack control_flow basic_block_batch operation word_at OneSize cell_at reduced read_system read_stack read_state read_captured live all_numbers all_calls live_refusal live_after live_after_all LiveAccepted AllLiveAccepted tallied_cycle unless_full tally_after counts_next buffer_row opcode_of low_bits flagged_end plain_all plain_calls live_ends live_finals is_free is_of first_from place_for counted_at cannot_count
cut-live = record {
  calls_are = refl;
  accepted = ((refl, (refl, (refl, (refl, (refl, (refl, (refl, (refl, (refl, (refl, (refl, (refl, (refl, (refl, (refl, (refl, (refl, (refl, refl)))))))))))))))))), tt);
  one_size = tt;
}

passes-live : LiveFinisherPasses profile queued 9 live begin (replicate 49 8) (replicate 16 0) 10
unfolding forests directory queued begin store_of cycle_of lents of32 condition_in callee_in info_in resume_in continuation_on names_no_kind continuation_in names_nothing stored_in_record system_in stack_in few_cells many_cells registers_in finish_in call_in record_at directory_entry window forest_in forest_of call_done call_written through written ending next_state next_positions told scanned replayed replayed_fragment for_passes counts_replayed built_replayed cells_replayed fresh stored_in cycle_with left_after tracer_after last_system last_stack fragment_after final_state scan_of any_big_opcode forest_too_large any_long_block any_large_batch read_registers helpers_of_cells system_cells stack_cells any_from profile_wrong opcodes two_equal is_one_of lacks_bits fragment_wrong made start_node start_kind start_block start_one made_end made_repeat finish_loop body_of block_kind entry_kind operation_made resumed node_at node_of is_slot digest_at opcode_at block_of started_at entry_at end_at batch_at is_batch starts_at batch_flags flags_up_to8 context_at_op group_of falling group_from place_in context_in_group consumed counts doubled round_up groups_of sum_groups any_above8 group_sum pushes op_context too_large helpers_answer all_below u32_values helpers_of put_row row_cells decoder_cells built_system built_stack no_system no_stack control_flow basic_block_batch operation word_at refusal_all first_of sum_of fragments_wrong buffer_wrong fewer_rows any_above height_wrong not_full loop_without_body any_without_body body_ends rows_of opcode_of low_bits flagged_end cell_at reduced read_system read_stack read_state read_captured live all_numbers counts_of built_cells live_refusal live_after live_after_all LiveAccepted AllLiveAccepted tallied_cycle unless_full tally_after counts_next buffer_row live_ends live_finals live_cells is_free is_of first_from place_for counted_at cannot_count call_of calls_of
passes-live = refl

same-files-live : live_by_finisher profile queued 9 live begin (replicate 49 8) (replicate 16 0) 10 ≡ finished_replay profile forests directory queued 4 lents begin [] (replicate 16 0) 10
same-files-live =
    live-replay-any-size profile forests directory queued (all_numbers lents) 9 4 live lents begin cut-live cut-four (replicate 16 0) 10 _ _
    (FinishedTo.of_finisher (replicate 49 8) passes-live) (FinishedTo.of_finisher [] passes)
