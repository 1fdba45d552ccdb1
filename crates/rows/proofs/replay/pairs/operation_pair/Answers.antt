-- `pairs::operation_pair` meets its contract.
use mathlib.Core.Path.{◌∙◌, sym}
use Rattle.rows.proofs.replay.PairSteps.{put-row, put-none, operation-taken}
use Rattle.rows.proofs.replay.pairs.operation_pair.Goals as goal

pub returns-then-write : goal.returns-then-write
returns-then-write c = operation-taken _ _ _ _ _ _ _ c.args.row _ c.args.write c.args.fragment.now _ _ _ _ c.in_ok-opcode.ensures c.in_ok-helpers.ensures
    (λ m e. put-row _ _ _ m _ _ _ c.if-write.true (c.new_operation-decoder.ensures ∙ sym e) c.put_behind.ensures)

pub returns-else-write : goal.returns-else-write
returns-else-write c = operation-taken _ _ _ _ _ _ _ c.args.row _ c.args.write c.args.fragment.now _ _ _ _ c.in_ok-opcode.ensures c.in_ok-helpers.ensures
    (λ m e. put-none c.args.write _ c.args.row m c.args.fragment.now c.if-write.false)
