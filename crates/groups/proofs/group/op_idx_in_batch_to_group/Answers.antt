-- `group::op_idx_in_batch_to_group` meets its contract. The loop's invariant: what is looked for is not before group `group`.
use mathlib.Core.Path.{sym, ap, ◌∙◌}
use Prim.Native.Nat.{ℕ, ◌-◌}
use borrow.Author.Rules.{rules}
use borrow.Author.Tests.{lt-ltb, le-ltb, lt-leb, le-leb}
use lib.ListN.{get_or}
use Rattle.groups.specs.GroupOfOperation.{place_in}
use Rattle.groups.proofs.Starts.{group-turn}
use Rattle.groups.proofs.group.op_idx_in_batch_to_group.Goals as goal
use Rattle.groups.proofs.group.op_idx_in_batch_to_group.Goals.{else-start-op-via-then-start-op+else-op-next, else-start-op-via-else-start-op}

pub returns-then-op-next : goal.returns-then-op-next
returns-then-op-next c = c.place_in.ensures ∙ ap (λ (k : ℕ). place_in c.loop-group.group (c.args.op - get_or c.args.starts c.loop-group.group 0) k) c.following_ops.ensures
    ∙ sym (c.loop-group.invariant ∙ group-turn c.args.starts c.args.num_ops c.args.op c.loop-group.group (search rules) ∙ rw (le-leb _ _ c.if-start-op.true, lt-ltb _ _ c.if-op-next.true))

pub loop-group-preserved : goal.loop-group-preserved
loop-group-preserved c =
    c.loop-group.invariant ∙ group-turn c.args.starts c.args.num_ops c.args.op c.loop-group.group (search rules)
    ∙ elim c.else-start-op.branch [ else-start-op-via-then-start-op+else-op-next w ↦ rw (le-leb _ _ w.if-start-op.true, le-ltb _ _ w.if-op-next.false) | else-start-op-via-else-start-op w ↦ rw (lt-leb _ _ w.if-start-op.false) ]
