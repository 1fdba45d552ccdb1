-- `change::count_starts` meets its contract.
use Prim.Native.Nat.{◌<◌}
use native.Mathlib.Omega.{arith}
use lib.ListN.{length}
use Rattle.reader.specs.Rows.{word_in}
use Rattle.index.specs.ways.Steps.{told_change}
use Rattle.reader.proofs.RowTokens.{rows_in}
use Rattle.index.proofs.ChangeLaws.{at_most, starts-cons, starts_none}
use Rattle.index.proofs.change.count_starts.Goals as goal

pub change_at-change-requires : goal.change_at-change-requires
change_at-change-requires c = c.requires

pub overflow_add-count : goal.overflow_add-count
overflow_add-count c = let m = at_most (told_change c.change_at-change.result) in
    omega arith

pub loop-at-preserved : goal.loop-at-preserved
loop-at-preserved c = let w = word_in c.args.lent.now.profile c.args.lent.now.cells.now in
    let h : c.loop-at.at < length w = omega (arith, rows_in c.args.lent.now.profile c.args.lent.now.cells.now) in
    let e = starts-cons w c.loop-at.at _ h c.change_at-change.ensures in
    let m = at_most (told_change c.change_at-change.result) in
    (omega arith, omega arith, omega arith)

pub returns : goal.returns
returns c = let w = word_in c.args.lent.now.profile c.args.lent.now.cells.now in
    omega (arith, starts_none w c.loop-at.at (omega (arith, rows_in c.args.lent.now.profile c.args.lent.now.cells.now)))
