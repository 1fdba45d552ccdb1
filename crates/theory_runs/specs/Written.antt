-- The rows that the cycles of a run write, one after another.
use Rattle.std.specs.Prelude.{List, [], ◌∷◌, ◌++◌, ℕ, take, drop}
use Rattle.groups.specs.Answer.{Answer, accepted, refused}
use Rattle.groups.specs.Constants.{addr_column}
use Rattle.rows.specs.declared.records.profile.Profile.{Profile}
use Rattle.rows.specs.declared.cycles.made.MadeRow.{MadeRow}
use Rattle.rows.specs.declared.cycles.tracer.CoreTraceGenerationTracer.{CoreTraceGenerationTracer}
use Rattle.rows.specs.records.Addresses.{Queues}
use Rattle.rows.specs.declared.records.address_state.Cursor.{Cursor}
use Rattle.rows.specs.records.Cells.{row_cells}
use Rattle.rows.specs.cycles.Cycles.{last_system, last_stack}
use Rattle.theory_runs.specs.Calls.{Call, store, finish, Fragment, Held, answered, after, opened, closed, cursor_of}

-- the row of a cycle that is accepted, none of one that is refused
unfoldable pub row_made : CoreTraceGenerationTracer → Answer MadeRow → List (List ℕ)
row_made t (refused n) = []
row_made t (accepted m) = row_cells (last_system t) m.row (last_stack t) ∷ []

module _ (p : Profile) (q : Queues) where
  -- the rows of some calls
  unfoldable pub rows_in : List Call → Held → List (List ℕ)
  rows_in [] z = []
  rows_in (store values ∷ calls) z = rows_in calls (after p q z (store values))
  rows_in (finish i ∷ calls) z = row_made z.tracer (answered p q z i) ++ rows_in calls (after p q z (finish i))

  -- the rows of a run
  unfoldable pub rows_run : List Fragment → Cursor → List (List ℕ)
  rows_run [] here = []
  rows_run (fragment ∷ fragments) here =
      rows_in fragment.calls (opened p q here fragment) ++ rows_run fragments (cursor_of p q (closed p q here fragment))

-- the 24 decoder cells of each row
unfoldable pub decoders_of : List (List ℕ) → List (List ℕ)
decoders_of [] = []
decoders_of (row ∷ rows) = take 24 (drop addr_column row) ∷ decoders_of rows
