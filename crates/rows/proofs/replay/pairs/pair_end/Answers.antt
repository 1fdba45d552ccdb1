-- `pairs::pair_end` meets its contract.
use Rattle.rows.specs.records.Lent.{lent_forest, lent_queues}
use Rattle.rows.proofs.replay.PairSteps.{stored-taken}
use Rattle.rows.proofs.replay.pairs.pair_end.Goals as goal

pub returns-in-Some : goal.returns-in-Some
returns-in-Some c = stored-taken
    (lent_forest c.args.forest.now)
    (lent_queues c.args.queues.now)
    c.args.profile
    c.args.pair.now.before.now
    c.args.pair.now.storing.now
    c.args.pair.now.cycle.now
    c.args.row
    c.args.here
    c.args.write
    c.args.fragment.now
    _
    c.in-Some.stored
    c.operation_pair.result
    c.in-Some.ensures
    c.operation_pair.ensures
