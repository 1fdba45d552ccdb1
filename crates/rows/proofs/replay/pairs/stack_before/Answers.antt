-- `pairs::stack_before` meets its contract.
use Rattle.rows.proofs.replay.PairRecords.{stack_built}
use Rattle.rows.proofs.replay.pairs.stack_before.Goals as goal

pub returns : goal.returns
returns c = λ depth e. rw (c.overflow_helper.ensures, c.cell-17.ensures, c.cell-16.ensures, c.cell-15.ensures, c.cell-14.ensures, c.cell-13.ensures, c.cell-12.ensures, c.cell-11.ensures, c.cell-10.ensures, c.cell-9.ensures, c.cell-8.ensures, c.cell-7.ensures, c.cell-6.ensures, c.cell-5.ensures, c.cell-4.ensures, c.cell-3.ensures, c.cell-2.ensures, c.cell.ensures, c.item_or-depth.ensures) (stack_built c.args.c.now depth e)
