-- `calls::call` meets its contract.
use borrow.Author.Tests.{eq-eqb}
use Rattle.rows.specs.records.CallRecords.{stored_in_record, call_in}
use Rattle.rows.proofs.replay.CallSteps.{storing-done}
use Rattle.rows.proofs.replay.calls.call.Goals as goal

pub returns-then-item_or-eq0-clause-value : goal.returns-then-item_or-eq0-clause-value
unfolding call_in
returns-then-item_or-eq0-clause-value c =
    rw (← c.item_or.ensures, eq-eqb _ _ c.if-item_or-eq0.true, storing-done _ _ (stored_in_record c.args.numbers.now)) c.store.ensures
