-- Row by row, a flagged END counts at the address behind it.
use mathlib.Core.Path.{refl, sym, ◌∙◌}
use native.Mathlib.Omega.{arith}
use lib.ListN.{take}
use Rattle.rows.proofs.passes.Tallies.{zero-at, tally-none, tally-more, tally-skip}
use Rattle.rows.proofs.passes.multiplicity.LoopTable.count_ends.Goals as goal
use Rattle.rows.proofs.passes.multiplicity.LoopTable.count_ends.Goals.{then-is_flagged_end, else-is_flagged_end}

pub loop-i-init : goal.loop-i-init
loop-i-init c = (refl, refl, (λ p. omega (arith, zero-at 4096 p)), tally-none c.args.profile c.args.buffer.now (take c.args.self.now.len c.args.self.now.keys) 4096)

pub loop-i-preserved : goal.loop-i-preserved
loop-i-preserved c = let was = c.loop-i.invariant in
    let keys = take c.args.self.now.len c.args.self.now.keys in
    elim c.if-is_flagged_end.branch [
      | then-is_flagged_end w ↦
          let b = rw (was.0, was.1) at w.bump.ensures.2 in
          rw w.self-is (w.bump.ensures.0 ∙ was.0, w.bump.ensures.1 ∙ was.1, (λ p. omega (arith, was.2 p, b.small p)), tally-more c.args.profile c.args.buffer.now c.loop-i.i keys c.loop-i.self.counts w.bump.new.self.counts (sym c.is_flagged_end.ensures ∙ w.if-is_flagged_end.true) (rw (← w.addr_at-x.ensures) b) was.3)
      | else-is_flagged_end w ↦
          rw w.self-is (was.0, was.1, (λ p. omega (arith, was.2 p)), tally-skip c.args.profile c.args.buffer.now c.loop-i.i keys c.loop-i.self.counts (sym c.is_flagged_end.ensures ∙ w.if-is_flagged_end.false) was.3)
    ]
