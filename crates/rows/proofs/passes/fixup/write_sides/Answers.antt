-- `fixup::write_sides` meets its contract.
use mathlib.Core.Path.{◌≡◌, sym, ap, ◌∙◌}
use Prim.Native.Nat.{◌+◌, ◌*◌, ◌-◌}
use native.Mathlib.Omega.{arith}
use lib.ListN.{length, take, drop, length-take, length-drop}
use lib.Seq.{paste, length-take-le, take_all}
use Rattle.field.specs.Cells.{reduced}
use Rattle.field.proofs.CellLaws.{length-reduced, reduced-take, reduced-drop}
use Rattle.rows.proofs.records.Rooms.{copy-fits}
use Rattle.rows.proofs.passes.Sides.{length-paste, sides-copied}
use Rattle.rows.proofs.passes.fixup.write_sides.Goals as goal

pub slice_bounds-copy_in-end : goal.slice_bounds-copy_in-end
slice_bounds-copy_in-end c = sym (length-take-le 6 c.args.cells.now (omega arith))

pub returns : goal.returns
returns c = let tail : take (length c.args.cells.now - 6) (drop 6 c.args.cells.now) ≡ drop 6 c.args.cells.now = take_all (length c.args.cells.now - 6) (drop 6 c.args.cells.now) (omega (arith, length-drop 6 c.args.cells.now)) in
    let six : length (take 6 c.args.cells.now) ≡ 6 = length-take 6 c.args.cells.now ∙ omega arith in
    let nineteen : length (drop 6 c.args.cells.now) ≡ 19 = length-drop 6 c.args.cells.now ∙ omega arith in
    let system = reduced (take 6 c.args.cells.now) in
    let stack = reduced (drop 6 c.args.cells.now) in
    let system-6 : length system ≡ 6 = length-reduced (take 6 c.args.cells.now) ∙ six in
    let stack-19 : length stack ≡ 19 = length-reduced (drop 6 c.args.cells.now) ∙ nineteen in
    let fits = copy-fits c.args.buffer.now (49 * c.args.row) (take 6 c.args.cells.now) (omega arith) ∙ ap (paste c.args.buffer.now (49 * c.args.row) system) (sym (length-reduced (take 6 c.args.cells.now))) in
    let written = paste c.args.buffer.now (49 * c.args.row) system (length system) in
    let fits2 =
    copy-fits written (49 * c.args.row + 30) (drop 6 c.args.cells.now) (omega (arith, length-paste c.args.buffer.now (49 * c.args.row) system (omega arith)))
    ∙ ap (paste written (49 * c.args.row + 30) stack) (sym (length-reduced (drop 6 c.args.cells.now))) in
    rw (c.copy_in-2.ensures, c.copy_in.ensures, tail, fits, fits2, ← (reduced-take 6 c.args.cells.now), ← (reduced-drop 6 c.args.cells.now)) (sides-copied c.args.buffer.now system stack c.args.row c.requires.0 system-6 stack-19)
