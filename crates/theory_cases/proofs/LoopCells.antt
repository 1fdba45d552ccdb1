-- C10's trace cell by cell: the table of docs/ARCHIVE.md.
use mathlib.Core.Path.{◌≡◌, refl}
use mathlib.Core.List.{List, [], ◌∷◌, ◌++◌}
use Prim.Native.Nat.{ℕ}
use lib.ListN.{replicate}
use Rattle.field.specs.Inverse.{euclid, inverse_of}
use Rattle.field.specs.Bounds.{any_from}
use Rattle.field.specs.Cells.{cell_at, reduced}
use Rattle.groups.specs.Words.{word_at}
use Rattle.groups.specs.Batches.{is_batch, batch_at, starts_at}
use Rattle.groups.specs.Flags.{flags_up_to8, batch_flags}
use Rattle.groups.specs.GroupOfOperation.{falling, place_in, group_from, group_of}
use Rattle.groups.specs.GroupsLeft.{counts, sum_groups, any_above8, group_sum, pushes}
use Rattle.groups.specs.Contexts.{too_large, consumed, op_context, context_in_group, context_at_op}
use Rattle.groups.specs.Helpers.{all_below, read_registers, u32_values, helpers_of, helpers_of_cells, helpers_answer}
use Rattle.rows.specs.records.Profiles.{opcodes, is_one_of, two_equal, lacks_bits, profile_wrong}
use Rattle.rows.specs.records.Forests.{is_slot, node_of, node_at, digest_at, opcode_at, block_of}
use Rattle.rows.specs.records.Addresses.{entry_at, started_at, end_at, read_state}
use Rattle.rows.specs.records.Captured.{read_captured}
use Rattle.rows.specs.records.DecoderRows.{control_flow, basic_block_batch, operation, decoder_cells}
use Rattle.rows.specs.records.Built.{built_system, built_stack, no_system, no_stack, system_cells, stack_cells, read_system, read_stack}
use Rattle.rows.specs.cycles.Made.{start_block, start_one, start_kind, start_node, block_kind, entry_kind, made_end, body_of, made_repeat, finish_loop, operation_made, resumed, made}
use Rattle.rows.specs.records.Cells.{row_cells, put_row}
use Rattle.rows.specs.cycles.Scans.{any_big_opcode, any_long_block, any_large_batch, forest_too_large, scan_of}
use Rattle.rows.specs.records.Cells.{fragment_wrong}
use Rattle.rows.specs.cycles.Cycles.{fresh, stored_in, cycle_with, cycle, left_after, tracer_after, last_system, last_stack, fragment_after, final_state, for_passes}
use Rattle.rows.specs.records.Buffers.{rows_of, flat, on_rows, last_row, low_bits, opcode_of, buffer_wrong, fewer_rows}
use Rattle.rows.specs.passes.Passes.{with_sides, first_row, later_rows, fixed_up, built_of, flagged_end, body_ends, with_counts, any_without_body, multiplied, loop_without_body, inverted, halt_decoder, halt_stack, halt_row, halted, padding_row, padding_rows, padded, sum_of, any_above, not_full, fragments_wrong, height_wrong, refusal_all, last_built, all_passes}
use Rattle.groups.specs.Answer.{first_of}
use Rattle.theory_runs.specs.Calls.{after, after_all, final_states, cells_of, counts_of, built_cells}
use Rattle.theory_runs.specs.Finished.{finisher_buffer}
use Rattle.theory_cases.specs.LoopRun.{loop_forest, loop_queues, begin, storing, cycle_at, loop_calls, loop_fragments, loop_trace}

-- a row of it: ctx, fn_hash, op_index, stack top, b1 and helper are 0 and b0 is 16 in all rows
unfoldable pub row : (clk addr : ℕ) → (op_bits hasher : List ℕ) → (in_span count : ℕ) → (batch_flags extra : List ℕ) → List ℕ
row clk addr op_bits hasher in_span count batch_flags extra =
    (clk ∷ replicate 5 0) ++ (addr ∷ op_bits) ++ hasher ++ (in_span ∷ count ∷ 0 ∷ batch_flags) ++ extra ++ replicate 16 0 ++ (16 ∷ 0 ∷ 0 ∷ [])

unfoldable pub loop_rows : List (List ℕ)
loop_rows =
    row 0 0 (1 ∷ 0 ∷ 1 ∷ 0 ∷ 1 ∷ 0 ∷ 1 ∷ []) (20 ∷ 21 ∷ 22 ∷ 23 ∷ 0 ∷ 0 ∷ 0 ∷ 0 ∷ []) 0 2 (0 ∷ 0 ∷ 0 ∷ []) (1 ∷ 0 ∷ [])
    ∷ row 1 1 (0 ∷ 1 ∷ 1 ∷ 0 ∷ 1 ∷ 0 ∷ 1 ∷ []) (5 ∷ 0 ∷ 0 ∷ 0 ∷ 0 ∷ 0 ∷ 0 ∷ 0 ∷ []) 0 1 (0 ∷ 1 ∷ 1 ∷ []) (1 ∷ 0 ∷ [])
    ∷ row 2 3 (1 ∷ 0 ∷ 1 ∷ 0 ∷ 0 ∷ 0 ∷ 0 ∷ []) (0 ∷ 1 ∷ 0 ∷ 0 ∷ 0 ∷ 0 ∷ 0 ∷ 0 ∷ []) 1 0 (0 ∷ 0 ∷ 0 ∷ []) (0 ∷ 0 ∷ [])
    ∷ row 3 3 (0 ∷ 0 ∷ 0 ∷ 0 ∷ 1 ∷ 1 ∷ 1 ∷ []) (20 ∷ 21 ∷ 22 ∷ 23 ∷ 1 ∷ 0 ∷ 0 ∷ 0 ∷ []) 0 0 (0 ∷ 0 ∷ 0 ∷ []) (0 ∷ 1 ∷ [])
    ∷ row 4 1 (0 ∷ 0 ∷ 1 ∷ 0 ∷ 1 ∷ 1 ∷ 1 ∷ []) (20 ∷ 21 ∷ 22 ∷ 23 ∷ 1 ∷ 0 ∷ 0 ∷ 0 ∷ []) 0 0 (0 ∷ 0 ∷ 0 ∷ []) (0 ∷ 1 ∷ [])
    ∷ row 5 1 (0 ∷ 1 ∷ 1 ∷ 0 ∷ 1 ∷ 0 ∷ 1 ∷ []) (5 ∷ 0 ∷ 0 ∷ 0 ∷ 0 ∷ 0 ∷ 0 ∷ 0 ∷ []) 0 1 (0 ∷ 1 ∷ 1 ∷ []) (1 ∷ 0 ∷ [])
    ∷ row 6 5 (1 ∷ 0 ∷ 1 ∷ 0 ∷ 0 ∷ 0 ∷ 0 ∷ []) (0 ∷ 1 ∷ 0 ∷ 0 ∷ 0 ∷ 0 ∷ 0 ∷ 0 ∷ []) 1 0 (0 ∷ 0 ∷ 0 ∷ []) (0 ∷ 0 ∷ [])
    ∷ row 7 5 (0 ∷ 0 ∷ 0 ∷ 0 ∷ 1 ∷ 1 ∷ 1 ∷ []) (20 ∷ 21 ∷ 22 ∷ 23 ∷ 1 ∷ 0 ∷ 0 ∷ 0 ∷ []) 0 0 (0 ∷ 0 ∷ 0 ∷ []) (0 ∷ 1 ∷ [])
    ∷ row 8 1 (0 ∷ 0 ∷ 0 ∷ 0 ∷ 1 ∷ 1 ∷ 1 ∷ []) (10 ∷ 11 ∷ 12 ∷ 13 ∷ 0 ∷ 1 ∷ 0 ∷ 0 ∷ []) 0 0 (0 ∷ 0 ∷ 0 ∷ []) (0 ∷ 1 ∷ [])
    ∷ row 9 0 (0 ∷ 0 ∷ 1 ∷ 1 ∷ 1 ∷ 1 ∷ 1 ∷ []) (10 ∷ 11 ∷ 12 ∷ 13 ∷ 0 ∷ 0 ∷ 0 ∷ 0 ∷ []) 0 0 (0 ∷ 0 ∷ 0 ∷ []) (0 ∷ 1 ∷ [])
    ∷ []

pub loop-cells : loop_trace ≡ flat loop_rows
unfolding loop_forest loop_queues begin storing cycle_at loop_calls loop_fragments loop_trace after after_all final_state cycle cycle_with scan_of any_big_opcode forest_too_large any_long_block any_large_batch read_registers helpers_of_cells system_cells stack_cells any_from profile_wrong opcodes two_equal is_one_of lacks_bits fragment_wrong made start_node start_kind start_block start_one made_end made_repeat finish_loop body_of block_kind entry_kind operation_made resumed node_at node_of is_slot digest_at opcode_at block_of started_at entry_at end_at batch_at is_batch starts_at batch_flags flags_up_to8 context_at_op group_of falling group_from place_in context_in_group consumed counts sum_groups any_above8 group_sum pushes op_context too_large helpers_answer all_below u32_values helpers_of tracer_after left_after stored_in fragment_after put_row row_cells decoder_cells fresh built_system built_stack no_system no_stack last_system last_stack control_flow basic_block_batch operation word_at final_states counts_of for_passes built_cells cells_of refusal_all first_of sum_of fragments_wrong buffer_wrong fewer_rows any_above height_wrong not_full loop_without_body any_without_body body_ends rows_of opcode_of low_bits flagged_end finisher_buffer all_passes on_rows flat fixed_up first_row with_sides later_rows built_of multiplied with_counts inverted inverse_of euclid last_built halted last_row halt_row halt_decoder halt_stack padded padding_rows padding_row cell_at reduced read_system read_stack read_state read_captured row loop_rows
loop-cells = refl
