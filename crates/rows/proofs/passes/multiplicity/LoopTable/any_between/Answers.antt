-- The LOOP rows taken are asked one after another.
use mathlib.Core.Path.{◌≡◌, sym, ◌∙◌}
use mathlib.Core.Bool.{true}
use native.Mathlib.Omega.{arith}
use lib.ListN.{take}
use Rattle.rows.specs.records.Buffers.{buffer_row}
use Rattle.rows.specs.ways.LoopCounts.{is_loop, ends_in}
use Rattle.rows.proofs.passes.RowsFrom.{lacks-yes, lacks-no, lacks-skip}
use Rattle.rows.proofs.passes.Keys.{table-count}
use Rattle.rows.proofs.passes.multiplicity.LoopTable.any_between.Goals as goal
use Rattle.rows.proofs.passes.multiplicity.LoopTable.any_between.Goals.{then-is_loop+else-count_of-eq0, else-is_loop}

pub returns-then-count_of-eq0 : goal.returns-then-count_of-eq0
returns-then-count_of-eq0 c = let t = c.args.self.now in
    let y : is_loop c.args.profile (buffer_row c.loop-i.i c.args.buffer.now) ≡ true = sym c.is_loop.ensures ∙ c.if-is_loop.true in
    let n = table-count c.args.profile c.args.buffer.now c.args.rows c.args.from c.args.next (take t.len t.keys) t.counts c.requires.table c.loop-i.i (omega arith) (omega arith) y c.addr_at.result c.count_of.result c.addr_at.ensures c.count_of.ensures in
    sym (sym c.loop-i.invariant ∙ lacks-yes c.args.profile (ends_in c.args.profile c.args.rows c.args.buffer.now) c.args.rows c.loop-i.i c.args.buffer.now (omega arith) y (sym n ∙ c.if-count_of-eq0.true))

pub loop-i-preserved : goal.loop-i-preserved
loop-i-preserved c = let t = c.args.self.now in
    elim c.if-is_loop.branch [
      | then-is_loop+else-count_of-eq0 w ↦
          let y : is_loop c.args.profile (buffer_row c.loop-i.i c.args.buffer.now) ≡ true = sym c.is_loop.ensures ∙ w.if-is_loop.true in
          let n = table-count c.args.profile c.args.buffer.now c.args.rows c.args.from c.args.next (take t.len t.keys) t.counts c.requires.table c.loop-i.i (omega arith) (omega arith) y w.addr_at.result w.count_of.result w.addr_at.ensures w.count_of.ensures in
          sym (lacks-no c.args.profile (ends_in c.args.profile c.args.rows c.args.buffer.now) c.args.rows c.loop-i.i c.args.buffer.now (omega arith) y (λ z. w.if-count_of-eq0.false (n ∙ z))) ∙ c.loop-i.invariant
      | else-is_loop w ↦ sym (lacks-skip c.args.profile (ends_in c.args.profile c.args.rows c.args.buffer.now) c.args.rows c.loop-i.i c.args.buffer.now (omega arith) (sym c.is_loop.ensures ∙ w.if-is_loop.false)) ∙ c.loop-i.invariant
    ]
