-- Keys are taken while there are LOOP rows before the last row and room for them.
use mathlib.Core.Path.{sym, ◌∙◌}
use native.Mathlib.Omega.{arith}
use lib.ListN.{take, length-set}
use Rattle.rows.proofs.passes.Keys.{held-skip, held_more}
use Rattle.rows.proofs.passes.multiplicity.LoopTable.gather.Goals as goal
use Rattle.rows.proofs.passes.multiplicity.LoopTable.gather.Goals.{then-is_loop, else-is_loop}

pub loop-next-preserved : goal.loop-next-preserved
loop-next-preserved c = let keys = c.loop-next.self.keys in
    let count = c.loop-next.self.len in
    elim c.if-is_loop.branch [
      | then-is_loop w ↦ rw w.self-is (omega arith, omega arith, simp length-set c.loop-next.invariant.2, held_more c.args.profile c.args.buffer.now c.args.from c.loop-next.next keys count w.addr_at.result (omega arith) w.addr_at.ensures c.loop-next.invariant.3)
      | else-is_loop w ↦ rw w.self-is (omega arith, omega arith, c.loop-next.invariant.2, held-skip c.args.profile c.args.buffer.now c.args.from c.loop-next.next (take count keys) (sym c.is_loop.ensures ∙ w.if-is_loop.false) c.loop-next.invariant.3)
    ]
