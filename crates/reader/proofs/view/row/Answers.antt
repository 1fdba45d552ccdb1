-- `view::row` meets its contract.
use Prim.Native.Nat.{◌*◌, ◌%◌}
use native.Mathlib.Nat.{add-sub_cancel_left, zero-add}
use native.Mathlib.Omega.{arith}
use borrow.Author.Tests.{le-leb, lt-leb, lt-ltb, le-ltb}
use lib.ListN.{length}
use Rattle.rows.specs.records.Buffers.{buffer_wrong}
use Rattle.reader.specs.Views.{view_refused}
use Rattle.reader.proofs.view.row.Goals as goal

pub returns-then-cells-ne0 : goal.returns-then-cells-ne0
unfolding buffer_wrong view_refused
returns-then-cells-ne0 c = let e = lt-ltb 0 (length c.args.cells.now % 49) (omega (arith, c.if-cells-ne0.true)) in
    record { cells = rw e; lies_at = rw (e, zero-add) }

pub returns-then-rows-gt-MOST : goal.returns-then-rows-gt-MOST
unfolding buffer_wrong view_refused
returns-then-rows-gt-MOST c = let e = le-ltb 0 (length c.args.cells.now % 49) (omega (arith, c.if-cells-ne0.false)) in
    let f = lt-ltb _ _ c.if-rows-gt-MOST.true in
    record { cells = rw (e, f); lies_at = rw (e, f, zero-add) }

pub returns-then-rows-number : goal.returns-then-rows-number
unfolding buffer_wrong view_refused
returns-then-rows-number c = let e = le-ltb 0 (length c.args.cells.now % 49) (omega (arith, c.if-cells-ne0.false)) in
    let f = le-ltb _ _ c.if-rows-gt-MOST.false in
    let g = le-leb _ _ c.if-rows-number.true in
    record { cells = rw (e, f, g); lies_at = rw (e, f, g, zero-add) }

pub returns : goal.returns
unfolding buffer_wrong view_refused
returns c = let e = le-ltb 0 (length c.args.cells.now % 49) (omega (arith, c.if-cells-ne0.false)) in
    let f = le-ltb _ _ c.if-rows-gt-MOST.false in
    let g = lt-leb _ _ c.if-rows-number.false in
    record {
      cells = rw (e, f, g, add-sub_cancel_left (c.args.number * 49) 49);
      lies_at = rw (e, f, g);
    }
