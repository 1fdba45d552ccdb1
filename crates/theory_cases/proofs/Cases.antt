-- Document 01's cases C1 to C10 hold over the definitions.
use mathlib.Core.Path.{refl, ap}
use Rattle.field.specs.Inverse.{euclid, inverse_of}
use Rattle.field.specs.Bounds.{any_from}
use Rattle.field.specs.Cells.{cell_at, reduced}
use Rattle.groups.specs.Words.{word_at}
use Rattle.groups.specs.Batches.{is_batch, batch_at, starts_at}
use Rattle.groups.specs.Flags.{flags_up_to8, batch_flags}
use Rattle.groups.specs.GroupOfOperation.{falling, place_in, group_from, group_of}
use Rattle.groups.specs.GroupsLeft.{counts, sum_groups, any_above8, group_sum, pushes}
use Rattle.groups.specs.Contexts.{too_large, consumed, op_context, context_in_group, context_at_op}
use Rattle.groups.specs.Helpers.{all_below, read_registers, u32_values, helpers_of, helpers_of_cells, helpers_answer}
use Rattle.rows.specs.records.Buffers.{rows_of, flat, low_bits, opcode_of}
use Rattle.rows.specs.passes.Passes.{flagged_end, body_ends, with_counts, any_without_body, multiplied, loop_without_body}
use Rattle.theory_readings.specs.Readings.{all_rows}
use Rattle.theory_dumps.specs.Numerals.{numeral_within}
use Rattle.theory_dumps.specs.Dumps.{bytes}
use Rattle.theory_cases.specs.Listing.{text_lines, names, name_beside, row_line, row_lines, listing}
use Rattle.theory_cases.specs.LoopRun.{profile}
use Rattle.theory_cases.specs.Cases.{left_after_push, on_one_row, table, Agrees, AllAgree}
use Rattle.theory_cases.proofs.LoopCells.{row, loop_rows, loop-cells}

pub cases : AllAgree table
unfolding table Agrees AllAgree left_after_push on_one_row bytes text_lines numeral_within names name_beside row_line row_lines listing flat loop_rows row all_rows rows_of opcode_of low_bits cell_at reduced read_registers helpers_of_cells flags_up_to8 batch_flags context_at_op group_of falling group_from place_in context_in_group consumed counts sum_groups any_above8 group_sum pushes op_context too_large helpers_answer all_below u32_values helpers_of word_at batch_at is_batch starts_at loop_without_body any_without_body body_ends flagged_end multiplied with_counts inverse_of euclid any_from
cases = (refl, (refl, (refl, (refl, (refl, (refl, (refl, (refl, (refl, (ap (listing profile) loop-cells, tt))))))))))
