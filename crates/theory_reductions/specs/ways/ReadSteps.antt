-- What stands between a call's inputs and what it leaves, with its cells read. The claims of N2 do not name it, their proofs do.
use Rattle.field.specs.Cells.{read}
use Rattle.groups.specs.Answer.{Answer, accepted, refused}
use Rattle.groups.specs.Words.{read_word}
use Rattle.groups.specs.Helpers.{read_registers}
use Rattle.rows.specs.declared.records.decoder_row.DecoderRow.{DecoderRow}
use Rattle.rows.specs.declared.cycles.made.MadeRow.{MadeRow}
use Rattle.rows.specs.records.Addresses.{read_state}
use Rattle.rows.specs.records.CallRecords.{RecordedCall, stores, finishes}
use Rattle.rows.specs.declared.records.address_state.Cursor.{Cursor}
use Rattle.rows.specs.cycles.Made.{cursor}
use Rattle.theory_reductions.specs.Inputs.{read_system_state, read_stack_state, read_values}

-- where a cycle stands
abbrev pub read_cursor : Cursor → Cursor
read_cursor here = cursor (read_state here.state) here.at

-- a decoder row with its address and h0 to h7 read
unfoldable pub read_row : DecoderRow → DecoderRow
read_row d = record {
  addr = read d.addr;
  opcode = d.opcode;
  hasher_state_first_word = read_word d.hasher_state_first_word;
  hasher_state_second_word = read_word d.hasher_state_second_word;
  in_basic_block = d.in_basic_block;
  group_count = d.group_count;
  op_index = d.op_index;
  op_batch_flags = d.op_batch_flags;
}

-- what it makes
unfoldable pub read_made : MadeRow → MadeRow
read_made m = record { row = read_row m.row; state = read_state m.state; at = m.at; used = m.used; following = m.following }

-- an answer with its values read
abbrev pub read_answer : {A : Type 0} → (A → A) → Answer A → Answer A
read_answer f (accepted x) = accepted (f x)
read_answer f (refused n) = refused n

-- a call that is recorded
unfoldable pub read_call : RecordedCall → RecordedCall
read_call (stores values) = stores (read_values values)
read_call (finishes k system stack registers) = finishes k (read_system_state system) (read_stack_state stack) (read_registers registers)
