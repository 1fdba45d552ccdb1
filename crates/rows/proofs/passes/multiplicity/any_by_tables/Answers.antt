-- Part by part, what is asked from a row on is what is asked of all.
use mathlib.Core.Path.{sym, ◌∙◌}
use native.Mathlib.Omega.{arith}
use Rattle.rows.specs.ways.LoopCounts.{ends_in}
use Rattle.rows.proofs.passes.RowsFrom.{lacks-first, lacks-last}
use Rattle.rows.proofs.passes.multiplicity.any_by_tables.Goals as goal

pub any_between-requires : goal.any_between-requires
any_between-requires c = let f = c.fill-next.ensures in
    record { from_le_next = (omega arith, omega arith, omega arith, omega arith); table = f.3 }

pub returns-then-any_between : goal.returns-then-any_between
returns-then-any_between c = rw c.if-any_between.true at c.any_between.ensures ∙ c.loop-from.invariant.1 ∙ sym (lacks-first c.args.profile c.args.rows c.args.buffer.now)

pub loop-from-preserved : goal.loop-from-preserved
loop-from-preserved c = (omega arith, rw c.if-any_between.false at c.any_between.ensures ∙ c.loop-from.invariant.1)

pub returns : goal.returns
returns c = sym (lacks-last c.args.profile (ends_in c.args.profile c.args.rows c.args.buffer.now) c.args.rows c.loop-from.from c.args.buffer.now (omega arith)) ∙ c.loop-from.invariant.1 ∙ sym (lacks-first c.args.profile c.args.rows c.args.buffer.now)
