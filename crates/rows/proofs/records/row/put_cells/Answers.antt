-- `row::put_cells` meets its contract.
use mathlib.Core.Path.{◌≡◌, ◌∙◌}
use mathlib.Core.List.{◌++◌}
use native.Mathlib.Omega.{arith}
use borrow.Author.Rules.{rules}
use lib.ListN.{length}
use Rattle.rows.proofs.records.Rooms.{row_fits, row_put}
use Rattle.rows.proofs.records.row.put_cells.Goals as goal

pub returns : goal.returns
returns c =
    let first-30 : length c.args.first ≡ 30 = search rules in
    let last-19 : length c.args.last ≡ 19 = search rules in
    rw (row_fits c.args.buffer.now c.args.row (c.args.first ++ c.args.last) (omega arith))
    (c.put_in-2.ensures ∙ rw c.put_in.ensures (row_put c.args.buffer.now c.args.row c.args.first c.args.last first-30 last-19 (omega arith)))
