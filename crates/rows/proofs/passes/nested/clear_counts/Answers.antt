-- `nested::clear_counts` meets its contract. The loop's invariant: of the counts that were in the LOOP rows, those from row i on are left.
use mathlib.Core.Path.{◌≡◌, sym, ◌∙◌}
use mathlib.Core.Bool.{true, false}
use native.Mathlib.Omega.{arith}
use lib.ListN.{length-set}
use Rattle.rows.specs.records.Buffers.{buffer_row}
use Rattle.rows.specs.ways.LoopCounts.{is_loop}
use Rattle.rows.proofs.passes.RowCells.{opcode-alike}
use Rattle.rows.proofs.passes.OpenLoops.{clear_none, clear-one, cleared-all}
use Rattle.rows.proofs.passes.nested.clear_counts.Goals as goal
use Rattle.rows.proofs.passes.nested.clear_counts.Goals.{then-is_loop, else-is_loop}

pub loop-i-preserved : goal.loop-i-preserved
loop-i-preserved c = elim c.if-is_loop.branch [
  | then-is_loop w ↦ rw w.buffer-is (
    simp length-set c.loop-i.invariant.0,
    λ first was.
        let k = c.loop-i.invariant.1 first was in
        let y : is_loop c.args.profile (buffer_row c.loop-i.i first) ≡ true = rw (← (opcode-alike c.loop-i.buffer first k.alike c.loop-i.i)) (sym c.is_loop.ensures ∙ w.if-is_loop.true) in
        clear-one c.args.profile first c.loop-i.buffer c.loop-i.i c.args.end k (omega arith) y (omega arith),
  )
  | else-is_loop w ↦ rw w.buffer-is (
    c.loop-i.invariant.0,
    λ first was.
        let k = c.loop-i.invariant.1 first was in
        let n : is_loop c.args.profile (buffer_row c.loop-i.i first) ≡ false = rw (← (opcode-alike c.loop-i.buffer first k.alike c.loop-i.i)) (sym c.is_loop.ensures ∙ w.if-is_loop.false) in
        clear_none c.args.profile first c.loop-i.buffer c.loop-i.i c.args.end k n,
  )
]

pub returns : goal.returns
returns c = λ first was. cleared-all c.args.profile first c.loop-i.buffer c.loop-i.i c.args.end (omega arith) (c.loop-i.invariant.1 first was)
