-- `halt::pad` meets its contract. The loop's invariant: the rows are padded up to `row`.
use mathlib.Core.Path.{◌≡◌, ◌∙◌, refl, sym, ap}
use mathlib.Core.List.{List}
use Prim.Native.Nat.{ℕ, ◌-◌, ◌*◌, ◌+◌, ◌≤◌}
use native.Mathlib.Omega.{arith}
use borrow.Author.Rules.{rules}
use lib.ListN.{length, take, drop}
use lib.Seq.{take-take}
use Rattle.rows.specs.records.Built.{stack_cells}
use Rattle.rows.specs.records.Buffers.{rows_of, last_row}
use Rattle.rows.specs.records.Cells.{row_cells}
use Rattle.rows.proofs.records.Rooms.{row_fits}
use Rattle.rows.proofs.passes.RowLists.{length-put}
use Rattle.rows.proofs.passes.HaltRows.{last-stack, length-row, padding-row, padded-none, put-padding}
use Rattle.rows.proofs.passes.halt.pad.Goals as goal

pub loop-row-init : goal.loop-row-init
loop-row-init c = (omega arith, search rules, refl, λ p e. sym (padded-none p c.args.buffer.now c.args.rows))

pub loop-row-preserved : goal.loop-row-preserved
loop-row-preserved c = let at : ℕ = 49 * c.args.rows - 19 in
    let before : List ℕ = last_row (rows_of c.args.rows c.args.buffer.now) in
    let cells : List ℕ = row_cells c.padding_system.result c.halt_decoder-decoder.result c.stack_of-stack.result in
    let room : 49 * c.loop-row.row + 49 ≤ length c.loop-row.buffer = omega arith in
    let written = c.write_row.ensures ∙ row_fits c.loop-row.buffer c.loop-row.row cells room in
    let own : stack_cells c.stack_of-stack.result ≡ take 19 (drop at c.args.buffer.now) = c.stack_of-stack.ensures ∙ take-take 19 (length c.args.buffer.now - at) (drop at c.args.buffer.now) (omega arith) in
    let stack : stack_cells c.stack_of-stack.result ≡ take 19 (drop 30 before) = own ∙ sym (last-stack c.args.rows c.args.buffer.now (omega arith)) in (
      omega arith,
      omega arith,
      ap length written ∙ length-put c.loop-row.buffer c.loop-row.row cells (length-row _ _ _) room ∙ c.loop-row.invariant.2,
      λ p e.
          written
          ∙ put-padding p c.args.buffer.now c.args.rows c.loop-row.row (omega arith) (omega arith) (omega arith) (c.loop-row.invariant.3 p e)
          (padding-row p before c.padding_system.result c.halt_decoder-decoder.result c.stack_of-stack.result e c.loop-row.row c.padding_system.ensures stack),
    )

pub returns : goal.returns
returns c = let e : c.loop-row.row ≡ c.args.height = omega arith in
    rw (← e) (c.loop-row.invariant.3 c.args.profile c.halt_decoder-decoder.ensures)
