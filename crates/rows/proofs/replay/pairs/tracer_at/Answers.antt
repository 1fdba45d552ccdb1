-- `pairs::tracer_at` meets its contract.
use mathlib.Core.Path.{sym, ap, ◌∙◌}
use Rattle.rows.specs.records.CallRecords.{of32}
use Rattle.rows.proofs.replay.PairSteps.{no-values, no-system, no-depth, stands-so}
use Rattle.rows.proofs.replay.pairs.tracer_at.Goals as goal

pub returns-in_default : goal.returns-in_default
returns-in_default c = no-values c.args.records.now c.args.w c.requires.0 _ _ (sym c.in_default.ensures)

pub returns-in_default-system_at : goal.returns-in_default-system_at
returns-in_default-system_at c = no-system c.args.records.now c.args.w c.requires.0 _ _ (sym c.in_default-system_at.ensures)

pub returns-in_default-narrow : goal.returns-in_default-narrow
returns-in_default-narrow c = no-depth c.args.records.now c.args.w c.requires.0 _ _ (ap (of32 23) (sym c.item_or.ensures) ∙ sym (c.in_default-narrow.ensures 23))

pub returns : goal.returns
returns c = stands-so c.args.records.now c.args.w c.requires.0 c.in-Ok.values c.in-Some.system c.in-Some-narrow.depth _
    (sym c.in-Ok.ensures)
    (sym c.in-Some.ensures)
    (ap (of32 23) (sym c.item_or.ensures) ∙ sym (c.in-Some-narrow.ensures 23))
    (rw (c.left_after.ensures, c.read.ensures, c.build.ensures, c.build-2.ensures, c.stack_at.ensures))
