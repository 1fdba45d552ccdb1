-- One proper run, cut by two sizes: the premises of N11 can be met. And where a cut stands before a cycle that reuses what is stored, that cycle
-- is refused with 23, since each fragment has a fresh tracer: such a cut is outside N11.
use Rattle.std.specs.Prelude.{Option, Some, None}
use Rattle.groups.specs.declared.word.Word.{Word}
use mathlib.Core.Path.{◌≡◌, refl}
use mathlib.Core.Bool.{false}
use mathlib.Core.List.{List, [], ◌∷◌, ◌++◌, map}
use Prim.Native.Nat.{ℕ}
use lib.ListN.{replicate}
use Rattle.field.specs.Bounds.{any_from}
use Rattle.field.specs.Cells.{cell_at, reduced}
use Rattle.field.specs.Inverse.{euclid, inverse_of}
use Rattle.groups.specs.Answer.{first_of}
use Rattle.groups.specs.Words.{word_at}
use Rattle.groups.specs.Batches.{is_batch, batch_at}
use Rattle.groups.specs.Flags.{flags_up_to8, batch_flags}
use Rattle.groups.specs.declared.helpers.OperationHelperRegisters.{OperationHelperRegisters}
use Rattle.rows.specs.declared.records.continuation.Continuation.{Continuation}
use Rattle.rows.specs.records.Profiles.{opcodes, is_one_of, two_equal, lacks_bits, profile_wrong}
use Rattle.rows.specs.records.Forests.{Forest, is_slot, node_id, node_of, node_at, digest_at, block_of}
use Rattle.rows.specs.records.Addresses.{Queues, entry_at, started_at, end_at, read_state}
use Rattle.rows.specs.records.Captured.{read_captured}
use Rattle.rows.specs.records.DecoderRows.{control_flow, basic_block_batch, decoder_cells}
use Rattle.rows.specs.records.Built.{built_system, built_stack, no_system, no_stack, system_cells, stack_cells, read_system, read_stack}
use Rattle.rows.specs.declared.records.address_state.Cursor.{Cursor}
use Rattle.rows.specs.cycles.Made.{start_block, start_dyn, start_kind, start_node, dyn_kind, block_kind, entry_kind, made_end, made}
use Rattle.rows.specs.cycles.Scans.{any_big_opcode, any_long_block, any_large_batch, forest_too_large, scan_of}
use Rattle.rows.specs.records.Cells.{row_cells, put_row, fragment_wrong}
use Rattle.rows.specs.cycles.LentTally.{counts_next, unless_full, tally_after, tallied_cycle}
use Rattle.rows.specs.cycles.Cycles.{fresh, stored_in, cycle_with, cycle, left_after, tracer_after, last_system, last_stack, fragment_after, final_state, for_passes}
use Rattle.rows.specs.records.Buffers.{rows_of, buffer_row, flat, on_rows, last_row, low_bits, opcode_of, buffer_wrong, fewer_rows}
use Rattle.rows.specs.passes.Passes.{with_sides, first_row, later_rows, fixed_up, built_of, flagged_end, body_ends, with_counts, any_without_body, multiplied, loop_without_body, inverted, halt_decoder, halt_stack, halt_row, halted, padding_row, padding_rows, padded, sum_of, any_above, not_full, fragments_wrong, height_wrong, refusal1, refusal2, refusal3, refusal4, refusal5, refusal_all, last_built}
use Rattle.theory_readings.specs.Tokens.{dyn}
use Rattle.theory_readings.proofs.Examples.{profile}
use Rattle.theory_runs.specs.Calls.{Call, store, finish, Fragment, after, call_refusal, after_all, Accepted, opened, closed, cursor_of, AllAccepted, final_states, cells_of, counts_of, built_cells, OneSize}
use Rattle.theory_runs.specs.Happened.{nothing_stored, start_of, finish_of, did_by, did_stored, used_by, positions_after, stored, left_by, in_force_after, in_force_after_all, cycles_in, cycles_of}
use Rattle.theory_runs.specs.ProperRuns.{Child, ending_of, Holds, HasOperations, InBlock, Run}
use Rattle.theory_runs.specs.Finished.{buffer1, buffer2, buffer3, buffer4, written_by_five, written_by_finisher, FivePass, FinisherPasses, FinishedTo}
use Rattle.theory_runs.specs.SameCalls.{all_calls, Cut}
use Rattle.theory_runs.specs.LiveCalls.{call, LiveFragment, plain_calls, plain_all, live_refusal, live_after, live_after_all, LiveAccepted, AllLiveAccepted, live_ends, live_finals, live_cells}
use Rattle.theory_runs.specs.LiveFinished.{live_by_five, live_by_finisher, LiveFivePass, LiveFinisherPasses, LiveCut}
use Rattle.theory_runs.proofs.AnySize.{first-cycle-refused, same-written}
use Rattle.theory_runs.proofs.LiveCuts.{plain-cut, plain-written}

-- THE RUN

-- two forests of one slot: a Dyn, and the block of one batch without operations that it runs
unfoldable outer : Forest
outer = record { nodes = 8 ∷ 0 ∷ 0 ∷ 0 ∷ 0 ∷ 0 ∷ []; digests = 10 ∷ 11 ∷ 12 ∷ 13 ∷ []; batches = []; groups = []; ops = [] }

unfoldable inner : Forest
inner = record {
  nodes = 2 ∷ 0 ∷ 0 ∷ 1 ∷ 0 ∷ 1 ∷ [];
  digests = 20 ∷ 21 ∷ 22 ∷ 23 ∷ [];
  batches = 1 ∷ replicate 11 0;
  groups = replicate 8 0;
  ops = [];
}

unfoldable queued : Queues
queued = record { addresses = 1 ∷ 3 ∷ []; parents = 0 ∷ 1 ∷ []; ends = 3 ∷ 1 ∷ 0 ∷ 1 ∷ 0 ∷ 77 ∷ [] }

unfoldable begin : Cursor
begin = record { state = record { current_addr = 0; parent_addr = 0 }; at = record { addresses = 0; parents = 0; ends = 0 } }

-- a storing, and the cycle with clock row n
unfoldable store_of : Continuation → Option Word → Call
store_of continuation callee =
    store (record { continuation = continuation; is_loop_body = false; captured = record { finish_loop_condition = None; dyn_callee_hash = callee; ctx_info = None } })

unfoldable cycle_of : Forest → (n : ℕ) → Call
cycle_of forest n = finish (record {
  forest = forest;
  system = record { clk = record { 0 = n }; ctx = record { 0 = 0 }; fn_hash = (0, 0, 0, 0) };
  stack = record { stack_top = replicate 16 0; stack_depth = 16; overflow_addr = 0 };
  registers = OperationHelperRegisters.Empty;
})

-- the Dyn's start; the block's start, without a storing of its own: StartNode of slot 0 is still stored, and this cycle is handed the other
-- forest; both ends. No proper run of fewer cycles, and no list of fewer calls than its first three, reuses what is stored
unfoldable opening : List Call
opening = store_of (Continuation.StartNode (node_id 0)) (Some (20, 21, 22, 23)) ∷ cycle_of outer 0 ∷ []

unfoldable reusing : List Call
reusing = cycle_of inner 1 ∷ []

unfoldable closing : List Call
closing =
    store_of (Continuation.FinishBasicBlock (node_id 0)) None ∷ cycle_of inner 2
    ∷ store_of (Continuation.FinishDyn (node_id 0)) None ∷ cycle_of outer 3 ∷ []

-- in one fragment, and in fragments of two rows, which held other numbers before
unfoldable uncut : List Fragment
uncut = record { calls = opening ++ reusing ++ closing; cells = replicate 196 9 } ∷ []

unfoldable by_two : List Fragment
by_two = record { calls = opening ++ reusing; cells = replicate 98 7 } ∷ record { calls = closing; cells = replicate 98 8 } ∷ []

run : Run profile outer 0 false 0 1 77 (cycles_of queued uncut begin.at) []
unfolding outer inner queued begin store_of cycle_of opening reusing closing uncut by_two cycles_of cycles_in did_stored did_by start_of finish_of nothing_stored stored left_by used_by positions_after left_after in_force_after_all in_force_after node_at node_of is_slot block_of started_at entry_at end_at batch_at is_batch word_at Holds HasOperations is_one_of cell_at reduced read_system read_stack read_state read_captured Child ending_of
run = Run.one dyn (_, refl) (Run.block (_, refl) (InBlock.ended (_, refl, refl) refl))

-- THE SAME CELLS

cut-uncut : Cut profile queued (opening ++ reusing ++ closing) 4 uncut begin
unfolding outer inner queued begin store_of cycle_of opening reusing closing uncut by_two AllAccepted Accepted call_refusal after after_all final_state cycle cycle_with scan_of any_big_opcode forest_too_large any_long_block any_large_batch system_cells stack_cells any_from profile_wrong opcodes two_equal is_one_of lacks_bits fragment_wrong made start_node start_kind start_block start_dyn made_end dyn_kind block_kind entry_kind node_at node_of is_slot digest_at block_of started_at entry_at end_at batch_at is_batch batch_flags flags_up_to8 tracer_after left_after stored_in fragment_after put_row row_cells decoder_cells fresh built_system built_stack no_system no_stack last_system last_stack control_flow basic_block_batch word_at cell_at reduced read_system read_stack read_state read_captured all_calls OneSize
cut-uncut = record { calls_are = refl; accepted = ((refl, (refl, (refl, (refl, (refl, (refl, (refl, refl))))))), tt); one_size = tt }

cut-two : Cut profile queued (opening ++ reusing ++ closing) 2 by_two begin
unfolding outer inner queued begin store_of cycle_of opening reusing closing uncut by_two AllAccepted Accepted call_refusal after after_all final_state cycle cycle_with scan_of any_big_opcode forest_too_large any_long_block any_large_batch system_cells stack_cells any_from profile_wrong opcodes two_equal is_one_of lacks_bits fragment_wrong made start_node start_kind start_block start_dyn made_end dyn_kind block_kind entry_kind node_at node_of is_slot digest_at block_of started_at entry_at end_at batch_at is_batch batch_flags flags_up_to8 tracer_after left_after stored_in fragment_after put_row row_cells decoder_cells fresh built_system built_stack no_system no_stack last_system last_stack control_flow basic_block_batch word_at cell_at reduced read_system read_stack read_state read_captured all_calls OneSize final_states counts_of for_passes
cut-two = record {
  calls_are = refl;
  accepted = ((refl, (refl, (refl, refl))), ((refl, (refl, (refl, (refl, refl)))), tt));
  one_size = (refl, refl, tt);
}

-- finished to six rows, with other numbers behind the fragments
passes-uncut : FinisherPasses profile queued 4 uncut begin (replicate 98 5) (replicate 16 0) 6
unfolding outer inner queued begin store_of cycle_of opening reusing closing uncut by_two AllAccepted Accepted call_refusal after after_all final_state cycle cycle_with scan_of any_big_opcode forest_too_large any_long_block any_large_batch system_cells stack_cells any_from profile_wrong opcodes two_equal is_one_of lacks_bits fragment_wrong made start_node start_kind start_block start_dyn made_end dyn_kind block_kind entry_kind node_at node_of is_slot digest_at block_of started_at entry_at end_at batch_at is_batch batch_flags flags_up_to8 tracer_after left_after stored_in fragment_after put_row row_cells decoder_cells fresh built_system built_stack no_system no_stack last_system last_stack control_flow basic_block_batch word_at final_states counts_of for_passes built_cells cells_of refusal_all first_of sum_of fragments_wrong buffer_wrong fewer_rows any_above height_wrong not_full loop_without_body any_without_body body_ends rows_of opcode_of low_bits flagged_end cell_at reduced read_system read_stack read_state read_captured
passes-uncut = refl

passes-two : FinisherPasses profile queued 2 by_two begin (replicate 147 6) (replicate 16 0) 6
unfolding outer inner queued begin store_of cycle_of opening reusing closing uncut by_two AllAccepted Accepted call_refusal after after_all final_state cycle cycle_with scan_of any_big_opcode forest_too_large any_long_block any_large_batch system_cells stack_cells any_from profile_wrong opcodes two_equal is_one_of lacks_bits fragment_wrong made start_node start_kind start_block start_dyn made_end dyn_kind block_kind entry_kind node_at node_of is_slot digest_at block_of started_at entry_at end_at batch_at is_batch batch_flags flags_up_to8 tracer_after left_after stored_in fragment_after put_row row_cells decoder_cells fresh built_system built_stack no_system no_stack last_system last_stack control_flow basic_block_batch word_at final_states counts_of for_passes built_cells cells_of refusal_all first_of sum_of fragments_wrong buffer_wrong fewer_rows any_above height_wrong not_full loop_without_body any_without_body body_ends rows_of opcode_of low_bits flagged_end cell_at reduced read_system read_stack read_state read_captured
passes-two = refl

same-files : written_by_finisher profile queued 4 uncut begin (replicate 98 5) (replicate 16 0) 6 ≡ written_by_finisher profile queued 2 by_two begin (replicate 147 6) (replicate 16 0) 6
same-files =
    same-written profile queued (opening ++ reusing ++ closing) 4 2 uncut by_two begin cut-uncut cut-two (replicate 16 0) 6
    (FinishedTo.of_finisher (replicate 98 5) passes-uncut) (FinishedTo.of_finisher (replicate 147 6) passes-two)

-- by the five calls, and one by the finisher and one by them
five-uncut : FivePass profile queued 4 uncut begin (replicate 98 5) (replicate 16 0) 6
unfolding outer inner queued begin store_of cycle_of opening reusing closing uncut by_two AllAccepted Accepted call_refusal after after_all final_state cycle cycle_with scan_of any_big_opcode forest_too_large any_long_block any_large_batch system_cells stack_cells any_from profile_wrong opcodes two_equal is_one_of lacks_bits fragment_wrong made start_node start_kind start_block start_dyn made_end dyn_kind block_kind entry_kind node_at node_of is_slot digest_at block_of started_at entry_at end_at batch_at is_batch batch_flags flags_up_to8 tracer_after left_after stored_in fragment_after put_row row_cells decoder_cells fresh built_system built_stack no_system no_stack last_system last_stack control_flow basic_block_batch word_at final_states counts_of for_passes built_cells cells_of refusal_all first_of sum_of fragments_wrong buffer_wrong fewer_rows any_above height_wrong not_full loop_without_body any_without_body body_ends rows_of opcode_of low_bits flagged_end cell_at reduced read_system read_stack read_state read_captured buffer1 buffer2 buffer3 buffer4 refusal1 refusal2 refusal3 refusal4 refusal5 on_rows flat fixed_up first_row with_sides later_rows built_of multiplied with_counts inverted inverse_of euclid last_built halted last_row halt_row halt_decoder halt_stack padded padding_rows padding_row
five-uncut = record { first = refl; second = refl; third = refl; fourth = refl; fifth = refl }

five-two : FivePass profile queued 2 by_two begin (replicate 147 6) (replicate 16 0) 6
unfolding outer inner queued begin store_of cycle_of opening reusing closing uncut by_two AllAccepted Accepted call_refusal after after_all final_state cycle cycle_with scan_of any_big_opcode forest_too_large any_long_block any_large_batch system_cells stack_cells any_from profile_wrong opcodes two_equal is_one_of lacks_bits fragment_wrong made start_node start_kind start_block start_dyn made_end dyn_kind block_kind entry_kind node_at node_of is_slot digest_at block_of started_at entry_at end_at batch_at is_batch batch_flags flags_up_to8 tracer_after left_after stored_in fragment_after put_row row_cells decoder_cells fresh built_system built_stack no_system no_stack last_system last_stack control_flow basic_block_batch word_at final_states counts_of for_passes built_cells cells_of refusal_all first_of sum_of fragments_wrong buffer_wrong fewer_rows any_above height_wrong not_full loop_without_body any_without_body body_ends rows_of opcode_of low_bits flagged_end cell_at reduced read_system read_stack read_state read_captured buffer1 buffer2 buffer3 buffer4 refusal1 refusal2 refusal3 refusal4 refusal5 on_rows flat fixed_up first_row with_sides later_rows built_of multiplied with_counts inverted inverse_of euclid last_built halted last_row halt_row halt_decoder halt_stack padded padding_rows padding_row
five-two = record { first = refl; second = refl; third = refl; fourth = refl; fifth = refl }

same-files-five : written_by_five profile queued 4 uncut begin (replicate 98 5) (replicate 16 0) 6 ≡ written_by_five profile queued 2 by_two begin (replicate 147 6) (replicate 16 0) 6
same-files-five =
    same-written profile queued (opening ++ reusing ++ closing) 4 2 uncut by_two begin cut-uncut cut-two (replicate 16 0) 6
    (FinishedTo.of_five (replicate 98 5) five-uncut) (FinishedTo.of_five (replicate 147 6) five-two)

same-files-mixed : written_by_finisher profile queued 4 uncut begin (replicate 98 5) (replicate 16 0) 6 ≡ written_by_five profile queued 2 by_two begin (replicate 147 6) (replicate 16 0) 6
same-files-mixed =
    same-written profile queued (opening ++ reusing ++ closing) 4 2 uncut by_two begin cut-uncut cut-two (replicate 16 0) 6
    (FinishedTo.of_finisher (replicate 98 5) passes-uncut) (FinishedTo.of_five (replicate 147 6) five-two)

-- with tallies, which hold other numbers in the two
unfoldable lent : (tally : List ℕ) → Fragment → LiveFragment
lent tally fragment = record { calls = map call fragment.calls; cells = fragment.cells; tally = tally }

abbrev live_uncut : List LiveFragment
live_uncut = map (lent (replicate 512 3)) uncut

abbrev live_by_two : List LiveFragment
live_by_two = map (lent (replicate 600 0)) by_two

live-cut-uncut : LiveCut profile queued (opening ++ reusing ++ closing) 4 live_uncut begin
unfolding outer inner queued begin store_of cycle_of opening reusing closing uncut by_two final_state cycle_with scan_of any_big_opcode forest_too_large any_long_block any_large_batch system_cells stack_cells any_from profile_wrong opcodes two_equal is_one_of lacks_bits fragment_wrong made start_node start_kind start_block start_dyn made_end dyn_kind block_kind entry_kind node_at node_of is_slot digest_at block_of started_at entry_at end_at batch_at is_batch batch_flags flags_up_to8 tracer_after left_after stored_in fragment_after put_row row_cells decoder_cells fresh built_system built_stack no_system no_stack last_system last_stack control_flow basic_block_batch word_at cell_at reduced read_system read_stack read_state read_captured all_calls OneSize live_refusal live_after live_after_all LiveAccepted AllLiveAccepted tallied_cycle unless_full tally_after counts_next buffer_row opcode_of low_bits flagged_end lent plain_all plain_calls live_ends live_finals
live-cut-uncut = record { calls_are = refl; accepted = ((refl, (refl, (refl, (refl, (refl, (refl, (refl, refl))))))), tt); one_size = tt }

live-cut-two : LiveCut profile queued (opening ++ reusing ++ closing) 2 live_by_two begin
unfolding outer inner queued begin store_of cycle_of opening reusing closing uncut by_two final_state cycle_with scan_of any_big_opcode forest_too_large any_long_block any_large_batch system_cells stack_cells any_from profile_wrong opcodes two_equal is_one_of lacks_bits fragment_wrong made start_node start_kind start_block start_dyn made_end dyn_kind block_kind entry_kind node_at node_of is_slot digest_at block_of started_at entry_at end_at batch_at is_batch batch_flags flags_up_to8 tracer_after left_after stored_in fragment_after put_row row_cells decoder_cells fresh built_system built_stack no_system no_stack last_system last_stack control_flow basic_block_batch word_at cell_at reduced read_system read_stack read_state read_captured all_calls OneSize live_refusal live_after live_after_all LiveAccepted AllLiveAccepted tallied_cycle unless_full tally_after counts_next buffer_row opcode_of low_bits flagged_end lent plain_all plain_calls live_ends live_finals counts_of for_passes
live-cut-two = record {
  calls_are = refl;
  accepted = ((refl, (refl, (refl, refl))), ((refl, (refl, (refl, (refl, refl)))), tt));
  one_size = (refl, refl, tt);
}

live-passes-uncut : LiveFinisherPasses profile queued 4 live_uncut begin (replicate 98 5) (replicate 16 0) 6
unfolding outer inner queued begin store_of cycle_of opening reusing closing uncut by_two final_state cycle_with scan_of any_big_opcode forest_too_large any_long_block any_large_batch system_cells stack_cells any_from profile_wrong opcodes two_equal is_one_of lacks_bits fragment_wrong made start_node start_kind start_block start_dyn made_end dyn_kind block_kind entry_kind node_at node_of is_slot digest_at block_of started_at entry_at end_at batch_at is_batch batch_flags flags_up_to8 tracer_after left_after stored_in fragment_after put_row row_cells decoder_cells fresh built_system built_stack no_system no_stack last_system last_stack control_flow basic_block_batch word_at counts_of for_passes built_cells refusal_all first_of sum_of fragments_wrong buffer_wrong fewer_rows any_above height_wrong not_full loop_without_body any_without_body body_ends rows_of opcode_of low_bits flagged_end cell_at reduced read_system read_stack read_state read_captured live_refusal live_after live_after_all LiveAccepted AllLiveAccepted tallied_cycle unless_full tally_after counts_next buffer_row lent live_ends live_finals live_cells
live-passes-uncut = refl

live-five-two : LiveFivePass profile queued 2 live_by_two begin (replicate 147 6) (replicate 16 0) 6
unfolding outer inner queued begin store_of cycle_of opening reusing closing uncut by_two final_state cycle_with scan_of any_big_opcode forest_too_large any_long_block any_large_batch system_cells stack_cells any_from profile_wrong opcodes two_equal is_one_of lacks_bits fragment_wrong made start_node start_kind start_block start_dyn made_end dyn_kind block_kind entry_kind node_at node_of is_slot digest_at block_of started_at entry_at end_at batch_at is_batch batch_flags flags_up_to8 tracer_after left_after stored_in fragment_after put_row row_cells decoder_cells fresh built_system built_stack no_system no_stack last_system last_stack control_flow basic_block_batch word_at counts_of for_passes built_cells refusal_all first_of sum_of fragments_wrong buffer_wrong fewer_rows any_above height_wrong not_full loop_without_body any_without_body body_ends rows_of opcode_of low_bits flagged_end cell_at reduced read_system read_stack read_state read_captured buffer1 buffer2 buffer3 buffer4 refusal1 refusal2 refusal3 refusal4 refusal5 on_rows flat fixed_up first_row with_sides later_rows built_of multiplied with_counts inverted inverse_of euclid last_built halted last_row halt_row halt_decoder halt_stack padded padding_rows padding_row live_refusal live_after live_after_all LiveAccepted AllLiveAccepted tallied_cycle unless_full tally_after counts_next buffer_row lent live_ends live_finals live_cells
live-five-two = record { first = refl; second = refl; third = refl; fourth = refl; fifth = refl }

live-same-files : live_by_finisher profile queued 4 live_uncut begin (replicate 98 5) (replicate 16 0) 6 ≡ live_by_five profile queued 2 live_by_two begin (replicate 147 6) (replicate 16 0) 6
live-same-files =
    same-written profile queued (opening ++ reusing ++ closing) 4 2 (plain_all live_uncut) (plain_all live_by_two) begin
    (plain-cut profile queued 4 live_uncut begin _ live-cut-uncut) (plain-cut profile queued 2 live_by_two begin _ live-cut-two) (replicate 16 0) 6
    (plain-written profile queued 4 live_uncut begin live-cut-uncut.accepted (replicate 16 0) 6 _ (FinishedTo.of_finisher (replicate 98 5) live-passes-uncut))
    (plain-written profile queued 2 live_by_two begin live-cut-two.accepted (replicate 16 0) 6 _ (FinishedTo.of_five (replicate 147 6) live-five-two))

-- 23

-- in fragments of one row the second fragment has the second cycle alone
unfoldable only_first : Fragment
only_first = record { calls = opening; cells = replicate 49 9 }

unfoldable only_second : Fragment
only_second = record { calls = reusing; cells = replicate 49 9 }

singles-refused : call_refusal profile queued (opened profile queued (cursor_of profile queued (closed profile queued begin only_first)) only_second) (cycle_of inner 1) ≡ 23
unfolding cycle_of
singles-refused = first-cycle-refused profile queued (cursor_of profile queued (closed profile queued begin only_first)) only_second _
