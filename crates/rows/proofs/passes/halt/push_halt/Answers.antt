-- `halt::push_halt` meets its contract.
use mathlib.Core.Path.{◌∙◌}
use native.Mathlib.Omega.{arith}
use Rattle.rows.proofs.records.Rooms.{row_fits}
use Rattle.rows.specs.records.Buffers.{rows_of, last_row}
use Rattle.rows.proofs.passes.HaltRows.{halt-row, put-halt}
use Rattle.rows.proofs.passes.halt.push_halt.Goals as goal

pub returns : goal.returns
returns c = c.write_row.ensures
    ∙ row_fits c.args.buffer.now c.args.rows _ c.requires.0
    ∙ put-halt c.args.profile c.args.built.now c.args.buffer.now c.args.rows (omega arith)
    (halt-row c.args.profile (last_row (rows_of c.args.rows c.args.buffer.now)) c.system_of-system.result c.halt_decoder-decoder.result c.halt_stack-stack.result c.halt_decoder-decoder.ensures c.args.built.now
    c.system_of-system.ensures
    c.halt_stack-stack.ensures)
