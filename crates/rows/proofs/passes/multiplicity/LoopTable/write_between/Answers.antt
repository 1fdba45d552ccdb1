-- The LOOP rows taken get their counts one after another.
use mathlib.Core.Path.{◌≡◌, sym, ◌∙◌}
use Prim.Native.Nat.{◌+◌}
use native.Mathlib.Omega.{arith}
use mathlib.Core.Bool.{true}
use lib.ListN.{take}
use Rattle.rows.specs.records.Buffers.{buffer_row}
use Rattle.rows.specs.ways.LoopCounts.{is_loop, next_addr, ends_in}
use Rattle.rows.proofs.passes.RowCells.{alike_set, opcode-alike, cell-alike}
use Rattle.rows.proofs.passes.Written.{counted-loop, counted_skip}
use Rattle.rows.proofs.passes.Keys.{table-count}
use Rattle.rows.proofs.passes.multiplicity.LoopTable.write_between.Goals as goal
use Rattle.rows.proofs.passes.multiplicity.LoopTable.write_between.Goals.{then-is_loop, else-is_loop}

pub loop-i-preserved : goal.loop-i-preserved
loop-i-preserved c = let t = c.args.self.now in
    let was = c.loop-i.invariant in
    elim c.if-is_loop.branch [
      | then-is_loop w ↦
          let y : is_loop c.args.profile (buffer_row c.loop-i.i c.loop-i.buffer) ≡ true = sym c.is_loop.ensures ∙ w.if-is_loop.true in
          let y₀ : is_loop c.args.profile (buffer_row c.loop-i.i c.args.buffer.now) ≡ true = rw (← (opcode-alike c.loop-i.buffer c.args.buffer.now was.0 c.loop-i.i)) y in
          let s : next_addr c.loop-i.i c.loop-i.buffer ≡ next_addr c.loop-i.i c.args.buffer.now = cell-alike c.loop-i.buffer c.args.buffer.now was.0 (c.loop-i.i + 1) 6 (omega arith) in
          let n = table-count c.args.profile c.args.buffer.now c.args.rows c.args.from c.args.next (take t.len t.keys) t.counts c.requires.table c.loop-i.i (omega arith) (omega arith) y₀ w.addr_at.result w.count_of-count.result (w.addr_at.ensures ∙ s) w.count_of-count.ensures in
          rw w.buffer-is (alike_set c.loop-i.buffer c.args.buffer.now c.loop-i.i w.count_of-count.result was.0, rw (n, ← s) (counted-loop c.args.profile (ends_in c.args.profile c.args.rows c.args.buffer.now) c.args.rows c.loop-i.i c.loop-i.buffer (omega arith) y) ∙ was.1)
      | else-is_loop w ↦ rw w.buffer-is (was.0, counted_skip c.args.profile (ends_in c.args.profile c.args.rows c.args.buffer.now) c.args.rows c.loop-i.i c.loop-i.buffer (omega arith) (sym c.is_loop.ensures ∙ w.if-is_loop.false) ∙ was.1)
    ]
