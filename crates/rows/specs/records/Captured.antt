-- Captured values as they come in (N2): the callee word and the next overflow address are cells, the depth is a number of 32 bits.
use Rattle.std.specs.Prelude.{Option, Some, None}
use Rattle.field.specs.Cells.{read}
use Rattle.groups.specs.Words.{read_word}
use Rattle.groups.specs.declared.word.Word.{Word}
use Rattle.rows.specs.declared.records.continuation.ExecutionContextInfo.{ExecutionContextInfo}
use Rattle.rows.specs.declared.records.continuation.Captured.{Captured}

abbrev pub read_callee : Option Word → Option Word
read_callee None = None
read_callee (Some word) = Some (read_word word)

abbrev pub read_context : ExecutionContextInfo → ExecutionContextInfo
read_context info = record { stack_depth = info.stack_depth; next_overflow_addr = read info.next_overflow_addr }

abbrev pub read_info : Option ExecutionContextInfo → Option ExecutionContextInfo
read_info None = None
read_info (Some info) = Some (read_context info)

unfoldable pub read_captured : Captured → Captured
read_captured c = record { finish_loop_condition = c.finish_loop_condition; dyn_callee_hash = read_callee c.dyn_callee_hash; ctx_info = read_info c.ctx_info }
