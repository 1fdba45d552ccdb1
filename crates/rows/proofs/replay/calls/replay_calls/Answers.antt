-- `calls::replay_calls` meets its contract: a run that writes nothing, and where that refuses nothing a second that writes.
use borrow.Author.Tests.{eq-eqb, ne_eqb}
use Rattle.rows.specs.replay.Calls.{scanned, replayed, replayed_fragment}
use Rattle.rows.proofs.replay.CallSteps.{told-number}
use Rattle.rows.proofs.replay.calls.replay_calls.Goals as goal

pub returns-then-whole-ne0 : goal.returns-then-whole-ne0
unfolding replayed replayed_fragment scanned
returns-then-whole-ne0 c = rw (
  ← c.scan_lent.ensures,
  ← c.new-first.ensures,
  ← c.run-tried.ensures.value,
  ← c.ended-whole.ensures,
) (record { value = c.answer.ensures; fragment_after = rw (told-number, ne_eqb _ _ c.if-whole-ne0.true) c.run-tried.ensures.fragment_after })

pub returns : goal.returns
unfolding replayed replayed_fragment scanned
returns c = rw (
  ← c.scan_lent.ensures,
  ← c.new-first.ensures,
  ← c.run-tried.ensures.value,
  ← c.ended-whole.ensures,
) (record { value = c.answer-2.ensures; fragment_after = rw (told-number, eq-eqb _ _ c.if-whole-ne0.false) (rw c.run-tried.ensures.fragment_after at c.run.ensures.fragment_after) })
