-- Document 01, "The row": the decoder part of each kind of row, and its 24 cells. "Decoder cells not named for a row are 0."
use Rattle.std.specs.Prelude.{Bool, true, false, List, [], ◌∷◌, ◌++◌, ℕ, ◌*◌, ◌-◌, ◌/◌, ◌%◌}
use Rattle.groups.specs.declared.word.Word.{Word}
use Rattle.groups.specs.declared.batch.OpBatch.{OpBatch}
use Rattle.groups.specs.declared.flags.BatchFlags.{BatchFlags}
use Rattle.groups.specs.declared.helpers.UserOpHelpers.{UserOpHelpers}
use Rattle.rows.specs.declared.records.decoder_row.DecoderRow.{DecoderRow}
use Rattle.rows.specs.declared.records.decoder_row.EndBlockFlags.{EndBlockFlags}
use Rattle.rows.specs.declared.records.decoder_row.EndBlockStackEntryKind.{EndBlockStackEntryKind}

abbrev pub zero_word : Word
zero_word = (0, 0, 0, 0)

-- a start, REPEAT or END row: its address and h0 to h7
unfoldable pub control_flow : (opcode : ℕ) → (first second : Word) → (addr : ℕ) → DecoderRow
control_flow opcode first second addr = record {
  addr = addr;
  opcode = opcode;
  hasher_state_first_word = first;
  hasher_state_second_word = second;
  in_basic_block = 0;
  group_count = 0;
  op_index = 0;
  op_batch_flags = (0, 0, 0);
}

-- SPAN and RESPAN: "eight groups in h, count and batch flags"
unfoldable pub basic_block_batch : (opcode : ℕ) → OpBatch → (addr count : ℕ) → BatchFlags → DecoderRow
basic_block_batch opcode batch addr count flags = record {
  addr = addr;
  opcode = opcode;
  hasher_state_first_word = batch.low;
  hasher_state_second_word = batch.high;
  in_basic_block = 0;
  group_count = count;
  op_index = 0;
  op_batch_flags = flags;
}

-- "Operation: current address; h0 the group shifted right .., h1 the parent address, h2 to h7 the helpers; op_index that index, count
-- groups left, in_span 1."
unfoldable pub operation : (opcode addr parent index group count : ℕ) → UserOpHelpers → DecoderRow
operation opcode addr parent index group count helpers = record {
  addr = addr;
  opcode = opcode;
  hasher_state_first_word = (group, parent, helpers.h2, helpers.h3);
  hasher_state_second_word = (helpers.h4, helpers.h5, helpers.h6, helpers.h7);
  in_basic_block = 1;
  group_count = count;
  op_index = index;
  op_batch_flags = (0, 0, 0);
}

abbrev pub bit : Bool → ℕ
bit true = 1
bit false = 0

-- END: "then loop-body flag, is-loop, restores-caller, 0"
abbrev pub flag_word : (is_loop_body : Bool) → EndBlockStackEntryKind → Word
flag_word is_loop_body EndBlockStackEntryKind.Continuation = (bit is_loop_body, 0, 0, 0)
flag_word is_loop_body EndBlockStackEntryKind.LoopContinuation = (bit is_loop_body, 1, 0, 0)
flag_word is_loop_body EndBlockStackEntryKind.CallerFrame = (bit is_loop_body, 0, 1, 0)

unfoldable pub end_word : EndBlockFlags → Word
end_word flags = flag_word flags.is_loop_body flags.entry_kind

-- "op bits (7, lowest first)"
abbrev pub op_bits : ℕ → List ℕ
op_bits op = op % 2 ∷ op / 2 % 2 ∷ op / 4 % 2 ∷ op / 8 % 2 ∷ op / 16 % 2 ∷ op / 32 % 2 ∷ op / 64 % 2 ∷ []

-- "extra 0 = bit6 × (1 − bit5) × bit4; extra 1 = bit6 × bit5"
abbrev pub extra0 : ℕ → ℕ
extra0 op = op / 64 % 2 * (1 - op / 32 % 2) * (op / 16 % 2)

abbrev pub extra1 : ℕ → ℕ
extra1 op = op / 64 % 2 * (op / 32 % 2)

abbrev pub word_cells : Word → List ℕ
word_cells w = w.0 ∷ w.1 ∷ w.2 ∷ w.3 ∷ []

-- "addr, op bits (7, lowest first), h0 to h7, in_span, group_count, op_index, batch flags (3), extra (2)"
unfoldable pub decoder_cells : DecoderRow → List ℕ
decoder_cells d =
    (d.addr ∷ op_bits d.opcode) ++ word_cells d.hasher_state_first_word ++ word_cells d.hasher_state_second_word
    ++ (d.in_basic_block ∷ d.group_count ∷ d.op_index
    ∷ d.op_batch_flags.0 ∷ d.op_batch_flags.1 ∷ d.op_batch_flags.2
    ∷ extra0 d.opcode ∷ extra1 d.opcode ∷ [])
