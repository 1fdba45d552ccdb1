-- A run with every kind of node that is started, a RESPAN and a DYN into another forest, in fragments of 5: the premises can be met, and its
-- rows, reading and counts computed over the definitions.
use Rattle.std.specs.Prelude.{Option, Some, None}
use Rattle.groups.specs.declared.word.Word.{Word}
use Rattle.rows.specs.declared.records.continuation.ExecutionContextInfo.{ExecutionContextInfo}
use mathlib.Core.Path.{◌≡◌, refl}
use mathlib.Core.Logic.{inl}
use mathlib.Core.Bool.{Bool, true, false}
use mathlib.Core.List.{List, [], ◌∷◌}
use Prim.Native.Nat.{ℕ}
use native.Mathlib.Omega.{arith}
use lib.ListN.{replicate}
use Rattle.field.specs.Inverse.{euclid, inverse_of}
use Rattle.field.specs.Cells.{cell_at, reduced}
use Rattle.groups.specs.Words.{word_at}
use Rattle.groups.specs.Batches.{is_batch, batch_at, starts_at, lent_batches}
use Rattle.groups.specs.Flags.{flags_up_to8, batch_flags}
use Rattle.groups.specs.GroupOfOperation.{falling, place_in, group_from, group_of}
use Rattle.groups.specs.GroupsLeft.{counts, doubled, round_up, groups_of, sum_groups, any_above8, group_sum, pushes}
use Rattle.groups.specs.Contexts.{too_large, consumed, op_context, context_in_group, context_at_op, context_at_batch_start}
use Rattle.groups.specs.Helpers.{all_below, read_registers, u32_values, helpers_of, helpers_of_cells, helpers_answer}
use Rattle.groups.specs.declared.helpers.OperationHelperRegisters.{OperationHelperRegisters}
use Rattle.rows.specs.declared.records.continuation.Continuation.{Continuation}
use Rattle.field.specs.Bounds.{any_from}
use Rattle.rows.specs.records.Profiles.{opcodes, is_one_of, two_equal, lacks_bits, profile_wrong}
use Rattle.rows.specs.records.Forests.{Forest, is_slot, node_id, slot_block, node_of, node_at, digest_at, opcode_at, block_of}
use Rattle.rows.specs.records.Addresses.{Queues, entry_at, started_at, end_at, respan_step, read_state}
use Rattle.rows.specs.records.Captured.{read_captured}
use Rattle.rows.specs.records.DecoderRows.{control_flow, basic_block_batch, operation, decoder_cells}
use Rattle.rows.specs.records.Built.{built_system, built_stack, no_system, no_stack, system_cells, stack_cells, read_system, read_stack}
use Rattle.rows.specs.declared.records.address_state.Cursor.{Cursor}
use Rattle.rows.specs.cycles.Made.{start_block, start_two, start_one, start_dyn, start_dyncall, start_kind, start_node, call_kind, dyn_kind, block_kind, entry_kind, made_end, body_of, made_repeat, finish_loop, operation_made, resumed, made_respan, made}
use Rattle.rows.specs.records.Cells.{row_cells, put_row}
use Rattle.rows.specs.cycles.Scans.{any_big_opcode, any_long_block, any_large_batch, forest_too_large, scan_of}
use Rattle.rows.specs.records.Cells.{fragment_wrong}
use Rattle.rows.specs.cycles.Cycles.{fresh, stored_in, cycle_with, cycle, left_after, tracer_after, last_system, last_stack, fragment_after, final_state, for_passes}
use Rattle.rows.specs.records.Buffers.{rows_of, flat, on_rows, last_row, addr_of, low_bits, opcode_of, buffer_wrong, fewer_rows}
use Rattle.rows.specs.passes.Passes.{with_sides, first_row, later_rows, fixed_up, built_of, flagged_end, body_ends, with_counts, any_without_body, multiplied, loop_without_body, inverted, halt_decoder, halt_stack, halt_row, halted, padding_row, padding_rows, padded, sum_of, any_above, not_full, fragments_wrong, height_wrong, refusal_all, last_built, all_passes}
use Rattle.groups.specs.Answer.{first_of}
use Rattle.theory_readings.specs.Tokens.{OneChild, controls, control_opcodes, is_op_opcode, count_of}
use Rattle.theory_readings.specs.Readings.{Ops, Block, Passes, depth_of, all_rows, Trace}
use Rattle.theory_readings.proofs.Examples.{profile}
use Rattle.theory_runs.specs.Calls.{Call, store, finish, Fragment, after, call_refusal, after_all, Accepted, AllAccepted, final_states, cells_of, counts_of, built_cells, OneSize}
use Rattle.theory_runs.specs.Happened.{nothing_stored, start_of, operation_at, finish_of, did_by, did_stored, used_by, positions_after, stored, left_by, in_force_after, in_force_after_all, cycles_in, cycles_of}
use Rattle.theory_runs.specs.ProperRuns.{Holds, HasOperations, HasOpcode, Child, with_loop, loop_starts, ending_of, InBlock, Run, RunPasses, ops_from, tree_from}
use Rattle.theory_runs.specs.Overflow.{b0_cell, helper_cell}
use Rattle.theory_runs.specs.Finished.{Runs, nesting, finisher_buffer, written_by_finisher, FinisherPasses}
use Rattle.theory_runs.proofs.TraceOfRun.{finisher-trace}

-- 0 Join of 1 and 2; 1 Split of 3 and 7; 2 Loop of 5; 3 Call of 4; 4 a block of two batches; 5 Call of 6; 6 Dyn; 7 a digest alone
unfoldable forest_a : Forest
forest_a = record {
  nodes =
      3 ∷ 1 ∷ 2 ∷ 0 ∷ 0 ∷ 0
      ∷ 4 ∷ 3 ∷ 7 ∷ 0 ∷ 0 ∷ 0
      ∷ 5 ∷ 5 ∷ 0 ∷ 0 ∷ 0 ∷ 0
      ∷ 6 ∷ 4 ∷ 0 ∷ 0 ∷ 0 ∷ 0
      ∷ 2 ∷ 0 ∷ 0 ∷ 9 ∷ 0 ∷ 2
      ∷ 6 ∷ 6 ∷ 0 ∷ 0 ∷ 0 ∷ 0
      ∷ 8 ∷ 0 ∷ 0 ∷ 0 ∷ 0 ∷ 0
      ∷ 1 ∷ 0 ∷ 0 ∷ 0 ∷ 0 ∷ 0
      ∷ [];
  digests =
      100 ∷ 101 ∷ 102 ∷ 103
      ∷ 104 ∷ 105 ∷ 106 ∷ 107
      ∷ 108 ∷ 109 ∷ 110 ∷ 111
      ∷ 112 ∷ 113 ∷ 114 ∷ 115
      ∷ 116 ∷ 117 ∷ 118 ∷ 119
      ∷ 120 ∷ 121 ∷ 122 ∷ 123
      ∷ 124 ∷ 125 ∷ 126 ∷ 127
      ∷ 128 ∷ 129 ∷ 130 ∷ 131
      ∷ [];
  batches =
      8 ∷ 0 ∷ 1 ∷ 1 ∷ 1 ∷ 1 ∷ 1 ∷ 1 ∷ 1 ∷ 1 ∷ 1 ∷ 0
      ∷ 1 ∷ 0 ∷ 1 ∷ 1 ∷ 1 ∷ 1 ∷ 1 ∷ 1 ∷ 1 ∷ 1 ∷ 1 ∷ 1
      ∷ [];
  groups = 5 ∷ 0 ∷ 0 ∷ 0 ∷ 0 ∷ 0 ∷ 0 ∷ 0 ∷ 6 ∷ 0 ∷ 0 ∷ 0 ∷ 0 ∷ 0 ∷ 0 ∷ 0 ∷ [];
  ops = 5 ∷ 6 ∷ [];
}

-- 0 Dyncall; 1 a block with a PUSH
unfoldable forest_b : Forest
forest_b = record {
  nodes = 9 ∷ 0 ∷ 0 ∷ 0 ∷ 0 ∷ 0 ∷ 2 ∷ 0 ∷ 0 ∷ 2 ∷ 0 ∷ 1 ∷ [];
  digests = 200 ∷ 201 ∷ 202 ∷ 203 ∷ 204 ∷ 205 ∷ 206 ∷ 207 ∷ [];
  batches = 2 ∷ 0 ∷ 1 ∷ 1 ∷ 1 ∷ 1 ∷ 1 ∷ 1 ∷ 1 ∷ 1 ∷ 1 ∷ 0 ∷ [];
  groups = 91 ∷ 7 ∷ 0 ∷ 0 ∷ 0 ∷ 0 ∷ 0 ∷ 0 ∷ [];
  ops = 91 ∷ [];
}

unfoldable queued : Queues
queued = record {
  addresses = 1 ∷ 3 ∷ 5 ∷ 7 ∷ 11 ∷ 13 ∷ 15 ∷ 17 ∷ 19 ∷ 21 ∷ 23 ∷ 25 ∷ 27 ∷ [];
  parents = 0 ∷ 1 ∷ 3 ∷ 5 ∷ 1 ∷ 11 ∷ 13 ∷ 15 ∷ 17 ∷ 11 ∷ 21 ∷ 23 ∷ 25 ∷ [];
  ends =
      9 ∷ 5 ∷ 3 ∷ 5 ∷ 3 ∷ 1 ∷ 3 ∷ 1 ∷ 0
      ∷ 19 ∷ 17 ∷ 15 ∷ 17 ∷ 15 ∷ 13 ∷ 15 ∷ 13 ∷ 11 ∷ 13 ∷ 11 ∷ 1
      ∷ 27 ∷ 25 ∷ 23 ∷ 25 ∷ 23 ∷ 21 ∷ 23 ∷ 21 ∷ 11 ∷ 21 ∷ 11 ∷ 1
      ∷ 11 ∷ 1 ∷ 0 ∷ 1 ∷ 0 ∷ 99 ∷ [];
}

unfoldable begin : Cursor
begin = record { state = record { current_addr = 0; parent_addr = 0 }; at = record { addresses = 0; parents = 0; ends = 0 } }

-- a storing, and a cycle over a forest with clock row n and depth 18
unfoldable store_of : Continuation → Bool → Option Bool → Option Word → Option ExecutionContextInfo → Call
store_of continuation flag condition callee info =
    store (record { continuation = continuation; is_loop_body = flag; captured = record { finish_loop_condition = condition; dyn_callee_hash = callee; ctx_info = info } })

unfoldable cycle_of : Forest → (n : ℕ) → Call
cycle_of f n = finish (record {
  forest = f;
  system = record { clk = record { 0 = n }; ctx = record { 0 = 0 }; fn_hash = (0, 0, 0, 0) };
  stack = record { stack_top = replicate 16 0; stack_depth = 18; overflow_addr = 3 };
  registers = OperationHelperRegisters.Empty;
})

abbrev word : Option Word
word = Some (1, 2, 3, 4)

abbrev info : Option ExecutionContextInfo
info = Some (record { stack_depth = 20; next_overflow_addr = 7 })

unfoldable part1 : List Call
part1 =
    store_of (Continuation.StartNode (node_id 0)) false None None None ∷ cycle_of forest_a 0
    ∷ store_of (Continuation.StartNode (node_id 1)) false None None None ∷ cycle_of forest_a 1
    ∷ store_of (Continuation.StartNode (node_id 3)) false None None None ∷ cycle_of forest_a 2
    ∷ store_of (Continuation.StartNode (node_id 4)) false None None None ∷ cycle_of forest_a 3
    ∷ store_of (Continuation.ResumeBasicBlock (node_id 4) 0 0) false None None None ∷ cycle_of forest_a 4 ∷ []

unfoldable part2 : List Call
part2 =
    store_of (Continuation.Respan (node_id 4) 1) false None None None ∷ cycle_of forest_a 5
    ∷ store_of (Continuation.ResumeBasicBlock (node_id 4) 1 0) false None None None ∷ cycle_of forest_a 6
    ∷ store_of (Continuation.FinishBasicBlock (node_id 4)) false None None None ∷ cycle_of forest_a 7
    ∷ store_of (Continuation.FinishCall (node_id 3)) false None None None ∷ cycle_of forest_a 8
    ∷ store_of (Continuation.FinishSplit (node_id 1)) false None None None ∷ cycle_of forest_a 9 ∷ []

unfoldable part3 : List Call
part3 =
    store_of (Continuation.StartNode (node_id 2)) false None None None ∷ cycle_of forest_a 10
    ∷ store_of (Continuation.StartNode (node_id 5)) false None None None ∷ cycle_of forest_a 11
    ∷ store_of (Continuation.StartNode (node_id 6)) false None word None ∷ cycle_of forest_a 12
    ∷ store_of (Continuation.StartNode (node_id 0)) false None word info ∷ cycle_of forest_b 13
    ∷ store_of (Continuation.StartNode (node_id 1)) false None None None ∷ cycle_of forest_b 14 ∷ []

unfoldable part4 : List Call
part4 =
    store_of (Continuation.ResumeBasicBlock (node_id 1) 0 0) false None None None ∷ cycle_of forest_b 15
    ∷ store_of (Continuation.FinishBasicBlock (node_id 1)) false None None None ∷ cycle_of forest_b 16
    ∷ store_of (Continuation.FinishDyn (node_id 0)) false None None None ∷ cycle_of forest_b 17
    ∷ store_of (Continuation.FinishDyn (node_id 6)) false None None None ∷ cycle_of forest_a 18
    ∷ store_of (Continuation.FinishCall (node_id 5)) true None None None ∷ cycle_of forest_a 19 ∷ []

unfoldable part5 : List Call
part5 =
    store_of (Continuation.FinishLoop (node_id 2)) false (Some true) None None ∷ cycle_of forest_a 20
    ∷ store_of (Continuation.StartNode (node_id 5)) false None None None ∷ cycle_of forest_a 21
    ∷ store_of (Continuation.StartNode (node_id 6)) false None word None ∷ cycle_of forest_a 22
    ∷ store_of (Continuation.StartNode (node_id 0)) false None word info ∷ cycle_of forest_b 23
    ∷ store_of (Continuation.StartNode (node_id 1)) false None None None ∷ cycle_of forest_b 24 ∷ []

unfoldable part6 : List Call
part6 =
    store_of (Continuation.ResumeBasicBlock (node_id 1) 0 0) false None None None ∷ cycle_of forest_b 25
    ∷ store_of (Continuation.FinishBasicBlock (node_id 1)) false None None None ∷ cycle_of forest_b 26
    ∷ store_of (Continuation.FinishDyn (node_id 0)) false None None None ∷ cycle_of forest_b 27
    ∷ store_of (Continuation.FinishDyn (node_id 6)) false None None None ∷ cycle_of forest_a 28
    ∷ store_of (Continuation.FinishCall (node_id 5)) true None None None ∷ cycle_of forest_a 29 ∷ []

unfoldable part7 : List Call
part7 =
    store_of (Continuation.FinishLoop (node_id 2)) false (Some false) None None ∷ cycle_of forest_a 30
    ∷ store_of (Continuation.FinishJoin (node_id 0)) false None None None ∷ cycle_of forest_a 31 ∷ []

unfoldable fragments : List Fragment
fragments =
    record { calls = part1; cells = replicate 245 9 }
    ∷ record { calls = part2; cells = replicate 245 9 }
    ∷ record { calls = part3; cells = replicate 245 9 }
    ∷ record { calls = part4; cells = replicate 245 9 }
    ∷ record { calls = part5; cells = replicate 245 9 }
    ∷ record { calls = part6; cells = replicate 245 9 }
    ∷ record { calls = part7; cells = replicate 245 9 } ∷ []

free : AllAccepted profile queued fragments begin
unfolding forest_a forest_b queued begin store_of cycle_of part1 part2 part3 part4 part5 part6 part7 fragments AllAccepted Accepted call_refusal after after_all final_state cycle cycle_with scan_of any_big_opcode forest_too_large any_long_block any_large_batch read_registers helpers_of_cells system_cells stack_cells any_from profile_wrong opcodes two_equal is_one_of lacks_bits fragment_wrong made start_node start_kind start_block start_two start_one start_dyn start_dyncall made_end made_repeat finish_loop body_of call_kind dyn_kind block_kind entry_kind operation_made resumed made_respan respan_step node_at node_of is_slot digest_at opcode_at block_of started_at entry_at end_at batch_at is_batch starts_at batch_flags flags_up_to8 context_at_op context_at_batch_start lent_batches group_of falling group_from place_in context_in_group consumed counts doubled round_up groups_of sum_groups any_above8 group_sum pushes op_context too_large helpers_answer all_below u32_values helpers_of tracer_after left_after stored_in fragment_after put_row row_cells decoder_cells fresh built_system built_stack no_system no_stack last_system last_stack control_flow basic_block_batch operation word_at cell_at reduced read_system read_stack read_state read_captured
free = ((refl, (refl, (refl, (refl, (refl, (refl, (refl, (refl, (refl, (refl, refl)))))))))), ((refl, (refl, (refl, (refl, (refl, (refl, (refl, (refl, (refl, (refl, refl)))))))))), ((refl, (refl, (refl, (refl, (refl, (refl, (refl, (refl, (refl, (refl, refl)))))))))), ((refl, (refl, (refl, (refl, (refl, (refl, (refl, (refl, (refl, (refl, refl)))))))))), ((refl, (refl, (refl, (refl, (refl, (refl, (refl, (refl, (refl, (refl, refl)))))))))), ((refl, (refl, (refl, (refl, (refl, (refl, (refl, (refl, (refl, (refl, refl)))))))))), ((refl, (refl, (refl, (refl, refl)))), tt)))))))

run : Run profile forest_a 0 false 0 1 99 (cycles_of queued fragments begin.at) []
unfolding forest_a forest_b queued begin store_of cycle_of part1 part2 part3 part4 part5 part6 part7 fragments cycles_of cycles_in did_stored did_by start_of operation_at finish_of nothing_stored stored left_by used_by positions_after left_after in_force_after_all in_force_after node_at node_of is_slot opcode_at block_of started_at entry_at end_at batch_at is_batch word_at Holds HasOperations HasOpcode is_op_opcode control_opcodes controls is_one_of Child ending_of cell_at reduced read_system read_stack read_state read_captured
run =
    Run.join (_, refl)
    (Run.one OneChild.split (node_id 3, node_id 7, (_, refl), refl, inl refl) (Run.one OneChild.call (node_id 4, (_, refl), refl, refl)
    (Run.block {block = slot_block forest_a.nodes 4} (_, refl) (InBlock.operation 5 (_, refl, refl) refl (InBlock.respan {index = 0} (_, refl, refl) (omega arith) (InBlock.operation 6 (_, refl, refl) refl (InBlock.ended (_, refl, refl) refl)))))))
    (Run.loop (_, refl)
    (RunPasses.again
    (Run.one OneChild.call (node_id 6, (_, refl), refl, refl) (Run.one {child = forest_b} {m = 0} OneChild.dyn (_, refl) (Run.one {child = forest_b} {m = 1} OneChild.dyncall (_, refl)
    (Run.block (_, refl) (InBlock.operation 91 (_, refl, refl) refl (InBlock.ended (_, refl, refl) refl))))))
    (RunPasses.ended
    (Run.one OneChild.call (node_id 6, (_, refl), refl, refl) (Run.one {child = forest_b} {m = 0} OneChild.dyn (_, refl) (Run.one {child = forest_b} {m = 1} OneChild.dyncall (_, refl)
    (Run.block (_, refl) (InBlock.operation 91 (_, refl, refl) refl (InBlock.ended (_, refl, refl) refl)))))))))

runs : Runs profile queued 5 fragments begin
unfolding forest_a forest_b queued begin store_of cycle_of part1 part2 part3 part4 part5 part6 part7 fragments AllAccepted Accepted call_refusal after after_all final_state cycle cycle_with scan_of any_big_opcode forest_too_large any_long_block any_large_batch read_registers helpers_of_cells system_cells stack_cells any_from profile_wrong opcodes two_equal is_one_of lacks_bits fragment_wrong made start_node start_kind start_block start_two start_one start_dyn start_dyncall made_end made_repeat finish_loop body_of call_kind dyn_kind block_kind entry_kind operation_made resumed made_respan respan_step node_at node_of is_slot digest_at opcode_at block_of started_at entry_at end_at batch_at is_batch starts_at batch_flags flags_up_to8 context_at_op context_at_batch_start lent_batches group_of falling group_from place_in context_in_group consumed counts doubled round_up groups_of sum_groups any_above8 group_sum pushes op_context too_large helpers_answer all_below u32_values helpers_of tracer_after left_after stored_in fragment_after put_row row_cells decoder_cells fresh built_system built_stack no_system no_stack last_system last_stack control_flow basic_block_batch operation word_at final_states counts_of for_passes OneSize cycles_of cycles_in did_stored did_by start_of operation_at finish_of nothing_stored stored left_by used_by positions_after in_force_after_all in_force_after with_loop loop_starts run tree_from depth_of cell_at reduced read_system read_stack read_state read_captured
runs = record {
  forest = forest_a;
  root = 0;
  parent = 0;
  own = 1;
  third = 99;
  proper = run;
  accepted = free;
  loops_apart = refl;
  shallow = omega arith;
  one_size = (refl, refl, (refl, refl, (refl, refl, (refl, refl, (refl, refl, (refl, refl, tt))))));
}

-- the nesting that ran
tree : nesting runs ≡ Block.join 0
    (Block.one OneChild.split 1 (Block.one OneChild.call 2 (Block.span 3 (Ops.op 4 5 (Ops.respan 5 (Ops.op 6 6 (Ops.ended 7))))) 8) 9)
    (Block.loop 10 (Passes.repeated
    (Block.one OneChild.call 11 (Block.one OneChild.dyn 12 (Block.one OneChild.dyncall 13 (Block.span 14 (Ops.op 15 91 (Ops.ended 16))) 17) 18) 19) 20
    (Passes.ended
    (Block.one OneChild.call 21 (Block.one OneChild.dyn 22 (Block.one OneChild.dyncall 23 (Block.span 24 (Ops.op 25 91 (Ops.ended 26))) 27) 28) 29) 30)))
    31
unfolding runs run tree_from ops_from
tree = refl

-- the finisher, with height 34, does not refuse
passes : FinisherPasses profile queued 5 fragments begin [] (replicate 16 0) 34
unfolding forest_a forest_b queued begin store_of cycle_of part1 part2 part3 part4 part5 part6 part7 fragments AllAccepted Accepted call_refusal after after_all final_state cycle cycle_with scan_of any_big_opcode forest_too_large any_long_block any_large_batch read_registers helpers_of_cells system_cells stack_cells any_from profile_wrong opcodes two_equal is_one_of lacks_bits fragment_wrong made start_node start_kind start_block start_two start_one start_dyn start_dyncall made_end made_repeat finish_loop body_of call_kind dyn_kind block_kind entry_kind operation_made resumed made_respan respan_step node_at node_of is_slot digest_at opcode_at block_of started_at entry_at end_at batch_at is_batch starts_at batch_flags flags_up_to8 context_at_op context_at_batch_start lent_batches group_of falling group_from place_in context_in_group consumed counts doubled round_up groups_of sum_groups any_above8 group_sum pushes op_context too_large helpers_answer all_below u32_values helpers_of tracer_after left_after stored_in fragment_after put_row row_cells decoder_cells fresh built_system built_stack no_system no_stack last_system last_stack control_flow basic_block_batch operation word_at final_states counts_of for_passes built_cells cells_of refusal_all first_of sum_of fragments_wrong buffer_wrong fewer_rows any_above height_wrong not_full loop_without_body any_without_body body_ends rows_of opcode_of low_bits flagged_end cell_at reduced read_system read_stack read_state read_captured
passes = refl

trace : Trace profile (written_by_finisher profile queued 5 fragments begin [] (replicate 16 0) 34) (nesting runs)
trace = finisher-trace profile queued 5 fragments begin runs [] (replicate 16 0) 34 passes

-- opcode, address and count of each row
unfoldable fields : List (List ℕ) → List (ℕ × ℕ × ℕ)
fields [] = []
fields (row ∷ rows) = (opcode_of row, addr_of row, count_of row) ∷ fields rows

-- depth and helper of each row
unfoldable stacks : List (List ℕ) → List (ℕ × ℕ)
stacks [] = []
stacks (row ∷ rows) = (b0_cell row, helper_cell row) ∷ stacks rows

abbrev written : List (List ℕ)
written = all_rows (written_by_finisher profile queued 5 fragments begin [] (replicate 16 0) 34)

-- depth and helper are 16 and 0 in row 0, then 18 and the inverse of 2, in the HALT rows as in the others (N4)
listing : ◌≡◌ {A = List (ℕ × ℕ × ℕ) × List (ℕ × ℕ)} (fields written, stacks written) (
  (87, 0, 0) ∷ (84, 1, 0) ∷ (108, 3, 0) ∷ (86, 5, 9) ∷ (5, 7, 8) ∷ (120, 7, 1) ∷ (6, 9, 0) ∷ (112, 9, 0) ∷ (112, 5, 0) ∷ (112, 3, 0)
      ∷ (85, 1, 2) ∷ (108, 11, 0) ∷ (88, 13, 0) ∷ (92, 15, 0) ∷ (86, 17, 2) ∷ (91, 19, 1) ∷ (112, 19, 0) ∷ (112, 17, 0) ∷ (112, 15, 0) ∷ (112, 13, 0)
      ∷ (116, 11, 0) ∷ (108, 11, 0) ∷ (88, 21, 0) ∷ (92, 23, 0) ∷ (86, 25, 2) ∷ (91, 27, 1) ∷ (112, 27, 0) ∷ (112, 25, 0) ∷ (112, 23, 0) ∷ (112, 21, 0)
      ∷ (112, 11, 0) ∷ (112, 1, 0) ∷ (124, 0, 0) ∷ (124, 0, 0) ∷ [],
  (16, 0) ∷ replicate 33 (18, 9223372034707292161),
)
unfolding forest_a forest_b queued begin store_of cycle_of part1 part2 part3 part4 part5 part6 part7 fragments AllAccepted Accepted call_refusal after after_all final_state cycle cycle_with scan_of any_big_opcode forest_too_large any_long_block any_large_batch read_registers helpers_of_cells system_cells stack_cells any_from profile_wrong opcodes two_equal is_one_of lacks_bits fragment_wrong made start_node start_kind start_block start_two start_one start_dyn start_dyncall made_end made_repeat finish_loop body_of call_kind dyn_kind block_kind entry_kind operation_made resumed made_respan respan_step node_at node_of is_slot digest_at opcode_at block_of started_at entry_at end_at batch_at is_batch starts_at batch_flags flags_up_to8 context_at_op context_at_batch_start lent_batches group_of falling group_from place_in context_in_group consumed counts doubled round_up groups_of sum_groups any_above8 group_sum pushes op_context too_large helpers_answer all_below u32_values helpers_of tracer_after left_after stored_in fragment_after put_row row_cells decoder_cells fresh built_system built_stack no_system no_stack last_system last_stack control_flow basic_block_batch operation word_at final_states counts_of for_passes built_cells cells_of refusal_all first_of sum_of fragments_wrong buffer_wrong fewer_rows any_above height_wrong not_full loop_without_body any_without_body body_ends rows_of opcode_of low_bits flagged_end finisher_buffer all_passes on_rows flat fixed_up first_row with_sides later_rows built_of multiplied with_counts inverted inverse_of euclid last_built halted last_row halt_row halt_decoder halt_stack padded padding_rows padding_row all_rows fields stacks cell_at reduced read_system read_stack read_state read_captured
listing = refl
