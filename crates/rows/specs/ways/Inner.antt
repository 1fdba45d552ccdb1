-- What inner functions of the crate promise, and no public contract names.
use Rattle.std.specs.Prelude.{ℕ, ◌*◌, ◌/◌, ◌<◌, Bool, false, List, ◌≡◌, get_or, Option, Some, None, Result, Ok, Err}
use Rattle.groups.specs.Constants.{row_width, most_rows, no_such_node}
use Rattle.groups.specs.Answer.{Answer, accepted, refused, and_then, pick}
use Rattle.groups.specs.declared.refusal.Refusal.{Refusal}
use Rattle.groups.specs.declared.word.Word.{Word}
use Rattle.groups.specs.declared.batch.BasicBlockNode.{BasicBlockNode}
use Rattle.rows.specs.declared.records.address_state.Positions.{Positions}
use Rattle.rows.specs.declared.records.address_state.Cursor.{Cursor}
use Rattle.rows.specs.declared.records.continuation.StoredValues.{StoredValues}
use Rattle.rows.specs.declared.records.continuation.Used.{Used}
use Rattle.rows.specs.declared.records.decoder_row.DecoderRow.{DecoderRow}
use Rattle.rows.specs.declared.records.forest.MastNode.{MastNode}
use Rattle.rows.specs.declared.cycles.made.MadeRow.{MadeRow}
use Rattle.rows.specs.declared.cycles.tracer.CoreTraceGenerationTracer.{CoreTraceGenerationTracer}
use Rattle.rows.specs.declared.replay.calls.LentSetting.{LentSetting}
use Rattle.rows.specs.records.Forests.{is_slot, node_of, node_entry}
use Rattle.rows.specs.records.Addresses.{started_at, after_start, end_at, state_after_end, after_end}
use Rattle.rows.specs.records.Lent.{lent_forest, lent_queues}
use Rattle.rows.specs.cycles.Made.{cursor}
use Rattle.rows.specs.cycles.Cycles.{stored_in}
use Rattle.rows.specs.replay.Calls.{Setting, setting, refusing}

-- a row that is no operation's
abbrev pub row_made : DecoderRow → Cursor → Used → MadeRow
row_made row here used = record { row = row; state = here.state; at = here.at; used = used; following = 0 }

-- a row that is made has room in the fragment
abbrev pub HasRoom : Result MadeRow Refusal → (cells rows : ℕ) → Type 0
HasRoom (Ok m) cells rows = rows < cells / row_width
HasRoom (Err n) cells rows = Unit {0}

-- where a row is made, nothing was too large, and it is one of 2^24
abbrev pub InLimits : Result MadeRow Refusal → (large : Bool) → (rows : ℕ) → Type 0
InLimits (Ok m) large rows = (large ≡ false) × (rows < most_rows)
InLimits (Err n) large rows = Unit {0}

-- where a start leads: 20, 21, or the state and the positions after it
abbrev pub started : (addresses parents : List ℕ) → Positions → Answer Cursor
started addresses parents at = and_then (started_at addresses parents at) (λ state. accepted (cursor state (after_start at)))

-- where an END leads: 22, or the address that ended, and the state and the positions after it
abbrev pub ended : (ends : List ℕ) → Positions → Answer (ℕ × Cursor)
ended ends at = and_then (end_at ends at.ends) (λ entry. accepted (entry.ended_node_addr, cursor (state_after_end entry) (after_end at)))

-- the tracer after a storing
unfoldable pub storing_done : CoreTraceGenerationTracer → Answer StoredValues → CoreTraceGenerationTracer
storing_done t (refused n) = refusing n t
storing_done t (accepted values) = stored_in t values

-- what slot id holds, 0 where it is not whole
unfoldable pub kind_at : (nodes digests : List ℕ) → ℕ → ℕ
kind_at nodes digests id = pick (is_slot nodes digests id) (get_or nodes (6 * id) 0) 0

-- a node is the one of its kind, whatever its digest; a kind that names none has none
abbrev pub IsNodeOf : Option MastNode → (kind first second : ℕ) → BasicBlockNode → Type 0
IsNodeOf (Some node) kind first second block = (digest : Word) → node_entry node digest ≡ node_of kind first second block digest
IsNodeOf None kind first second block = (digest : Word) → refused no_such_node ≡ node_of kind first second block digest

-- the setting of a function that is lent it, and a fragment of so many cells
abbrev pub lent_setting : LentSetting → (cells : ℕ) → Setting
lent_setting s cells = setting s.scan s.profile (lent_forest s.forests) s.directory.now (lent_queues s.queues) cells
