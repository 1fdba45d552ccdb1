-- The calls of a run: storings and cycles, each fragment's on a fresh tracer and ended by its final state. Everything that they do is by
-- the definitions that the contracts of these calls cite, but that a cycle is one without a tally, as replay carries it out: what a finish with a
-- tally comes to where it accepts (`LiveCalls`, `live-as-calls`).
use Rattle.std.specs.Prelude.{◌≡◌, List, [], ◌∷◌, ◌++◌, ℕ, ◌*◌, length}
use Rattle.groups.specs.Answer.{Answer, refusal}
use Rattle.groups.specs.Constants.{row_width}
use Rattle.groups.specs.declared.helpers.OperationHelperRegisters.{OperationHelperRegisters}
use Rattle.rows.specs.declared.records.profile.Profile.{Profile}
use Rattle.rows.specs.declared.records.state.SystemState.{SystemState}
use Rattle.rows.specs.declared.records.state.StackState.{StackState}
use Rattle.rows.specs.declared.records.continuation.StoredValues.{StoredValues}
use Rattle.rows.specs.declared.cycles.made.MadeRow.{MadeRow}
use Rattle.rows.specs.declared.cycles.tracer.CoreTraceGenerationTracer.{CoreTraceGenerationTracer}
use Rattle.rows.specs.declared.cycles.tracer.TracerFinalState.{TracerFinalState}
use Rattle.rows.specs.records.Forests.{Forest}
use Rattle.rows.specs.records.Addresses.{Queues}
use Rattle.rows.specs.declared.records.address_state.Cursor.{Cursor}
use Rattle.rows.specs.cycles.Made.{cursor}
use Rattle.rows.specs.cycles.Cycles.{fresh, stored_in, cycle, tracer_after, fragment_after, final_state, for_passes}

-- what a cycle is handed: its own forest, the states and the helper registers
pub record Handed : Type 0 where
  pub forest : Forest
  pub system : SystemState
  pub stack : StackState
  pub registers : OperationHelperRegisters

-- a storing, or a cycle
pub data Call : Type 0 where
  store : StoredValues → Call
  finish : Handed → Call

-- the calls of a fragment, and the cells that the fragment lent to them held before
pub record Fragment : Type 0 where
  pub calls : List Call
  pub cells : List ℕ

-- a tracer, and its fragment
pub record Held : Type 0 where
  pub tracer : CoreTraceGenerationTracer
  pub cells : List ℕ

-- the profile and the queues of a run
module _ (p : Profile) (q : Queues) where
  -- what a cycle answers
  abbrev pub answered : Held → Handed → Answer MadeRow
  answered z i = cycle p i.forest q i.stack i.registers (length z.cells) z.tracer

  -- what a call leaves
  unfoldable pub after : Held → Call → Held
  after z (store values) = record { tracer = stored_in z.tracer values; cells = z.cells }
  after z (finish i) = record {
    tracer = tracer_after i.system i.stack z.tracer (answered z i);
    cells = fragment_after z.cells z.tracer (answered z i);
  }

  -- the number that a call answers
  unfoldable pub call_refusal : Held → Call → ℕ
  call_refusal z (store values) = z.tracer.refusal
  call_refusal z (finish i) = refusal (answered z i)

  -- "each call otherwise with what the last one left"
  unfoldable pub after_all : List Call → Held → Held
  after_all [] z = z
  after_all (c ∷ calls) z = after_all calls (after z c)

  -- "no call was refused", the final state neither
  unfoldable pub Accepted : List Call → Held → Type 0
  Accepted [] z = (final_state z.tracer).refusal ≡ 0
  Accepted (c ∷ calls) z = (call_refusal z c ≡ 0) × Accepted calls (after z c)

  -- "each fragment takes a fresh tracer (nothing stored, no refusal, no row)", at the address state and queue positions of the one before
  abbrev pub opened : Cursor → Fragment → Held
  opened here fragment = record { tracer = fresh here.state here.at; cells = fragment.cells }

  abbrev pub closed : Cursor → Fragment → Held
  closed here fragment = after_all fragment.calls (opened here fragment)

  -- "address state and queues continuing"
  abbrev pub cursor_of : Held → Cursor
  cursor_of z = cursor z.tracer.decoder_state z.tracer.at

  unfoldable pub AllAccepted : List Fragment → Cursor → Type 0
  AllAccepted [] here = Unit {0}
  AllAccepted (fragment ∷ fragments) here =
      Accepted fragment.calls (opened here fragment) × AllAccepted fragments (cursor_of (closed here fragment))

  -- "and ends with its final state"
  unfoldable pub final_states : List Fragment → Cursor → List TracerFinalState
  final_states [] here = []
  final_states (fragment ∷ fragments) here =
      final_state (closed here fragment).tracer ∷ final_states fragments (cursor_of (closed here fragment))

  -- the fragments' cells, one after another
  unfoldable pub cells_of : List Fragment → Cursor → List ℕ
  cells_of [] here = []
  cells_of (fragment ∷ fragments) here = (closed here fragment).cells ++ cells_of fragments (cursor_of (closed here fragment))

-- "its final states' row counts and last built cells"
unfoldable pub counts_of : List TracerFinalState → List ℕ
counts_of [] = []
counts_of (final ∷ finals) = (for_passes final).count ∷ counts_of finals

unfoldable pub built_cells : List TracerFinalState → List ℕ
built_cells [] = []
built_cells (final ∷ finals) = (for_passes final).built ++ built_cells finals

-- "all fragments have one size with only the last one short": each but the last is lent so many rows and fills them
unfoldable pub OneSize : (size : ℕ) → List Fragment → List ℕ → Type 0
OneSize size [] counts = Unit {0}
OneSize size (fragment ∷ []) counts = Unit {0}
OneSize size (fragment ∷ next ∷ fragments) [] = ⊥
OneSize size (fragment ∷ next ∷ fragments) (count ∷ counts) =
    (length fragment.cells ≡ row_width * size) × (count ≡ size) × OneSize size (next ∷ fragments) counts
