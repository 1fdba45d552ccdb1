-- `halt::pad` meets its contract. The loop's invariant: the rows are padded up to `row`.
use mathlib.Core.Path.{◌≡◌}
use Prim.Native.Nat.{◌≤◌}
use lib.ListN.{length}
use Rattle.rows.specs.declared.records.profile.Profile.{Profile}
use Rattle.rows.specs.records.DecoderRows.{zero_word, control_flow}
use Rattle.rows.specs.records.Buffers.{rows_of, on_rows, last_row}
use Rattle.rows.specs.passes.Passes.{first_half, padded}
use Rattle.rows.proofs.passes.halt.pad.Given as goal

abbrev pub invariant-loop-row : goal.invariant-loop-row
invariant-loop-row l =
    (l.rows ≤ l.row) × (l.row ≤ l.height) × (length l.buffer ≡ length l.initial.buffer)
    × ((p : Profile) → l.decoder ≡ control_flow p.halt (first_half (last_row (rows_of l.rows l.initial.buffer))) zero_word 0 → l.buffer ≡ on_rows l.rows (padded p l.row) l.initial.buffer)
