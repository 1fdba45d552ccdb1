-- `fill::fill` meets its contract: the scan on lists, row by row.
use mathlib.Core.Path.{refl}
use Prim.Native.Nat.{◌+◌, ◌<◌}
use native.Mathlib.Omega.{arith}
use lib.ListN.{length}
use Rattle.reader.specs.Rows.{word_in}
use Rattle.reader.specs.ways.FromRow.{rows_from}
use Rattle.reader.proofs.RowTokens.{rows_in, rows-cons, rows_none}
use Rattle.index.proofs.StepLaws.{next_row, room, at_row, all-built, none-built}
use Rattle.index.proofs.fill.fill.Goals as goal

pub loop-at-init : goal.loop-at-init
loop-at-init c = (omega arith, none-built _ _ _ _ _ _ refl refl refl refl refl c.requires.2)

pub change_at-change-requires : goal.change_at-change-requires
change_at-change-requires c = c.requires.3

pub overflow_cast-at : goal.overflow_cast-at
overflow_cast-at c = omega arith

pub step-requires : goal.step-requires
step-requires c = let w = word_in c.args.lent.now.profile c.args.lent.now.cells.now in
    let h : c.loop-at.at < length w = omega (arith, rows_in c.args.lent.now.profile c.args.lent.now.cells.now) in
    room _ _ _ _ c.requires.1 c.loop-at.at (rows_from w (c.loop-at.at + 1)) _ _ _ _
    (at_row _ _ _ _ c.requires.1 _ _ _ _ _ _ _ c.change_at-change.ensures (rw (rows-cons w c.loop-at.at h) at c.loop-at.invariant.1))

pub loop-at-preserved : goal.loop-at-preserved
loop-at-preserved c = let w = word_in c.args.lent.now.profile c.args.lent.now.cells.now in
    let h : c.loop-at.at < length w = omega (arith, rows_in c.args.lent.now.profile c.args.lent.now.cells.now) in (
      omega (arith, rows_in c.args.lent.now.profile c.args.lent.now.cells.now),
      rw (c.step.ensures.value, c.step.ensures.stack_after, c.step.ensures.index_after)
          (next_row _ _ _ _ c.requires.1 c.loop-at.at (rows_from w (c.loop-at.at + 1)) _ _ _ _
          (at_row _ _ _ _ c.requires.1 _ _ _ _ _ _ _ c.change_at-change.ensures (rw (rows-cons w c.loop-at.at h) at c.loop-at.invariant.1))),
    )

pub shape_of-index : goal.shape_of-index
shape_of-index c = c.loop-at.invariant.1.sized

pub returns : goal.returns
returns c = let w = word_in c.args.lent.now.profile c.args.lent.now.cells.now in
    all-built _ _ _ _ _ _ _ (rw (rows_none w c.loop-at.at (omega (arith, rows_in c.args.lent.now.profile c.args.lent.now.cells.now))) at c.loop-at.invariant.1)
