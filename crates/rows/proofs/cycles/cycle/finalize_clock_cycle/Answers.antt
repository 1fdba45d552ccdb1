-- `cycle::finalize_clock_cycle` meets its contract: a tracer that keeps a refusal answers it and changes nothing.
use mathlib.Core.Path.{refl}
use Rattle.rows.specs.cycles.Cycles.{tracer_after, fragment_after}
use Rattle.rows.specs.records.Lent.{lent_forest, lent_queues}
use Rattle.rows.specs.cycles.LentTally.{tally_after}
use Rattle.rows.proofs.cycles.Tallying.{kept_tallied}
use Rattle.rows.proofs.cycles.cycle.finalize_clock_cycle.Goals as goal

pub returns-then-tracer-ne0 : goal.returns-then-tracer-ne0
unfolding tracer_after fragment_after tally_after
returns-then-tracer-ne0 c =
    rw (kept_tallied c.args.profile (lent_forest c.args.forest.now) (lent_queues c.args.queues.now) c.args.stack c.args.registers c.args.tally.now c.args.fragment.now c.args.tracer c.if-tracer-ne0.true)
    (record { refusal_value = c.refused.ensures.0; tracer_value = c.refused.ensures.1; following_value = c.refused.ensures.2; tally_after = refl; fragment_after = refl })
