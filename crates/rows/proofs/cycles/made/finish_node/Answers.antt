-- `made::finish_node` meets its contract: the entry of the end queue is the one that the step took.
use Rattle.rows.specs.records.DecoderRows.{end_word}
use Rattle.rows.specs.cycles.Made.{made_end}
use Rattle.rows.proofs.records.EndQueue.{end-moved}
use Rattle.rows.proofs.cycles.made.finish_node.Goals as goal

pub returns : goal.returns
unfolding made_end end_word
returns c = let (found, next) = end-moved _ _ _ _ _ _ c.in_ok-addr.ensures.value c.in_ok-addr.ensures.state in
    rw (← c.in-Some.ensures, ← c.in-Some-entry_kind.ensures, found, c.row_made.ensures, c.new_control_flow-row.ensures, c.to_hasher_state_second_word-second.ensures, next)
