-- `row::copy_in` meets its contract. The loop's invariant: the first j cells are copied.
use mathlib.Core.Path.{◌≡◌, sym, ◌∙◌}
use Prim.Native.Nat.{◌+◌, ◌<◌}
use native.Mathlib.Omega.{arith}
use native.Mathlib.Numerals.{add-one}
use borrow.Author.Tests.{lt-leb}
use lib.ListN.{length, get_or, length-set}
use lib.Seq.{paste-suc}
use Rattle.field.specs.Cells.{cell_at, reduced}
use Rattle.field.proofs.CellLaws.{length-reduced, get_or-reduced}
use Rattle.rows.specs.records.Cells.{copied_in, put_in}
use Rattle.rows.proofs.records.Rooms.{copy-fits}
use Rattle.rows.proofs.records.row.copy_in.Goals as goal

pub returns-then-dst-src : goal.returns-then-dst-src
unfolding copied_in put_in
returns-then-dst-src c = rw (length-reduced c.args.src.now, lt-leb (c.args.at + length c.args.src.now) (length c.args.dst.now) (omega arith))

pub returns-then-dst-src-2 : goal.returns-then-dst-src-2
unfolding copied_in put_in
returns-then-dst-src-2 c = rw (length-reduced c.args.src.now, lt-leb (c.args.at + length c.args.src.now) (length c.args.dst.now) (omega arith))

pub loop-j-preserved : goal.loop-j-preserved
unfolding cell_at
loop-j-preserved c = let inside : c.args.at + c.loop-j.j < length c.args.dst.now = omega arith in
    let more : c.loop-j.j < length (reduced c.args.src.now) = rw (length-reduced c.args.src.now) (omega arith) in
    let e : get_or (reduced c.args.src.now) c.loop-j.j 0 ≡ c.reduce.result = get_or-reduced c.args.src.now c.loop-j.j ∙ sym c.reduce.ensures in
    (rw (c.loop-j.invariant.0, add-one, ← e, paste-suc c.args.dst.now c.args.at (reduced c.args.src.now) c.loop-j.j 0), omega arith, simp length-set c.loop-j.invariant.2, c.loop-j.invariant.3)

pub returns : goal.returns
returns c = let e : c.loop-j.j ≡ length c.args.src.now = omega arith in
    rw (← e) c.loop-j.invariant.0 ∙ sym (copy-fits c.args.dst.now c.args.at c.args.src.now c.loop-j.invariant.3)
