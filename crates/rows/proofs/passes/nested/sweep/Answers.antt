-- `nested::sweep` meets its contract. The loop's invariant: the LOOP rows before row i hold the counts so far, each is open or has a body END, and
-- nothing else has changed.
use mathlib.Core.Path.{◌≡◌, refl, sym, ◌∙◌}
use mathlib.Core.Bool.{true}
use mathlib.Core.List.{List}
use Prim.Native.Nat.{ℕ, ◌+◌, ◌-◌, ◌*◌, ◌≤◌, ◌<◌}
use native.Mathlib.Omega.{arith}
use lib.ListN.{get_or, length-set, length-replicate}
use Rattle.field.proofs.CellLaws.{cell_below}
use Rattle.rows.specs.declared.records.profile.Profile.{Profile}
use Rattle.rows.specs.records.Buffers.{buffer_row}
use Rattle.rows.specs.ways.LoopCounts.{is_loop, next_addr, ends_in}
use Rattle.rows.specs.ways.OpenLoops.{RoleOf}
use Rattle.rows.proofs.passes.RowCells.{opcode-alike, flagged_alike, cell-alike}
use Rattle.rows.proofs.passes.OpenLoops.{ended-start, ended-other, ended-opens, ended-ends, ended-all, LoopsCounted, counted_start, counted-other, counted-opens, counted-ends, count_small, still-counted, counted-all, in_start, in-other, in_opens, in-ends}
use Rattle.rows.proofs.passes.nested.sweep.Goals as goal
use Rattle.rows.proofs.passes.nested.sweep.Goals.{in-Other, in-Opens+else-not-takes, in-Ends}

-- the innermost open LOOP row stands before row i
top-row : (p : Profile) (first cells stack : List ℕ) (depth above i : ℕ) → LoopsCounted p first cells stack depth above i → 0 < depth → (get_or stack depth 0 < i) × (is_loop p (buffer_row (get_or stack depth 0) first) ≡ true)
top-row p first cells stack depth above i was some = was.opened depth some (omega arith)

pub loop-i-init : goal.loop-i-init
loop-i-init c = (omega arith, length-replicate {A = ℕ} 65 0, omega arith, in_start c.args.profile c.args.buffer.now, counted_start c.args.profile c.args.buffer.now 65, refl, ended-start c.args.profile c.args.buffer.now c.args.rows 65)

pub push-requires : goal.push-requires
push-requires c = ((c.takes.ensures c.if-not-takes.false).0, omega (arith, c.addr_at-addr.ensures, cell_below (buffer_row (c.loop-i.i + 1) c.loop-i.buffer) 6))

pub overflow_add-buffer-in-Ends : goal.overflow_add-buffer-in-Ends
unfolding RoleOf
overflow_add-buffer-in-Ends c = let loops = c.loop-i.open in
    let t = top-row c.args.profile c.args.buffer.now c.loop-i.buffer loops.rows loops.depth loops.above c.loop-i.i c.loop-i.invariant.4 c.in-Ends.ensures.2 in
    rw c.top-top.ensures (omega (arith, count_small c.args.profile c.args.buffer.now c.loop-i.buffer loops.rows loops.depth loops.above c.loop-i.i c.loop-i.invariant.4 _ t.0 t.1))

pub left_open-requires : goal.left_open-requires
unfolding RoleOf
left_open-requires c = c.in-Ends.ensures.2

pub loop-i-preserved : goal.loop-i-preserved
unfolding RoleOf
loop-i-preserved c = let was = c.loop-i.invariant in
    let loops = c.loop-i.open in
    elim c.match-row_role.branch [
      | in-Other w ↦
          let n = rw (opcode-alike c.loop-i.buffer c.args.buffer.now was.3.alike c.loop-i.i) at w.in-Other.ensures.0 in
          let f = rw (flagged_alike c.loop-i.buffer c.args.buffer.now was.3.alike c.loop-i.i c.args.profile) at w.in-Other.ensures.1 in
          rw (w.buffer-is, w.open-is) (
            was.0,
            was.1,
            was.2,
            in-other c.args.profile c.args.buffer.now c.loop-i.buffer c.loop-i.i was.3 n,
            counted-other c.args.profile c.args.buffer.now c.loop-i.buffer loops.rows loops.depth loops.above c.loop-i.i was.4 n f,
            was.5,
            ended-other c.args.profile c.args.buffer.now c.args.rows loops.rows loops.depth c.loop-i.i was.6 n,
          )
      | in-Opens+else-not-takes w ↦
          let o = w.takes.ensures w.if-not-takes.false in
          let y = rw (opcode-alike c.loop-i.buffer c.args.buffer.now was.3.alike c.loop-i.i) at w.in-Opens.ensures.0 in
          let f = rw (flagged_alike c.loop-i.buffer c.args.buffer.now was.3.alike c.loop-i.i c.args.profile) at w.in-Opens.ensures.1 in
          let s = w.addr_at-addr.ensures ∙ cell-alike c.loop-i.buffer c.args.buffer.now was.3.alike (c.loop-i.i + 1) 6 (omega arith) in
          let high : loops.above ≤ next_addr c.loop-i.i c.args.buffer.now = omega (arith, s, o.1) in
          rw (w.buffer-is, w.open-is, w.push.ensures.0, w.push.ensures.1, w.push.ensures.2) (
            was.0,
            simp length-set was.1,
            omega (arith, o.0),
            in_opens c.args.profile c.args.buffer.now c.loop-i.buffer c.loop-i.i was.3 o.2,
            rw s (counted-opens c.args.profile c.args.buffer.now c.loop-i.buffer loops.rows loops.depth loops.above c.loop-i.i was.4 y f high (omega (arith, o.0)) o.2),
            was.5,
            ended-opens c.args.profile c.args.buffer.now c.args.rows loops.rows loops.depth c.loop-i.i was.6 (omega (arith, o.0)),
          )
      | in-Ends w ↦
          let r = rw c.top-top.ensures at w.in-Ends.ensures in
          let n = rw (opcode-alike c.loop-i.buffer c.args.buffer.now was.3.alike c.loop-i.i) at r.0 in
          let f = rw (flagged_alike c.loop-i.buffer c.args.buffer.now was.3.alike c.loop-i.i c.args.profile) at r.1 in
          let top : ℕ = get_or loops.rows loops.depth 0 in
          let t = top-row c.args.profile c.args.buffer.now c.loop-i.buffer loops.rows loops.depth loops.above c.loop-i.i was.4 r.2 in
          let same : next_addr top c.args.buffer.now ≡ next_addr c.loop-i.i c.args.buffer.now = sym (cell-alike c.loop-i.buffer c.args.buffer.now was.3.alike (top + 1) 6 (omega arith)) ∙ r.3 ∙ cell-alike c.loop-i.buffer c.args.buffer.now was.3.alike (c.loop-i.i + 1) 6 (omega arith) in
          let y : is_loop c.args.profile (buffer_row top c.loop-i.buffer) ≡ true = rw (opcode-alike c.loop-i.buffer c.args.buffer.now was.3.alike top) t.1 in
          let count : ℕ = get_or c.loop-i.buffer (49 * top + 23) 0 + 1 in
          let left = w.left_open.ensures in
          rw (w.buffer-is, w.open-is, c.top-top.ensures) (
            was.0,
            was.1,
            omega (arith, left.0),
            in-ends c.args.profile c.args.buffer.now c.loop-i.buffer c.loop-i.i was.3 top count t.0 t.1 n,
            counted-ends c.args.profile c.args.buffer.now c.loop-i.buffer loops.rows loops.depth loops.above c.loop-i.i was.4 n f r.2 same w.left_open.result left.0 (omega (arith, was.3.alike.size, t.0)),
            still-counted c.args.profile (ends_in c.args.profile c.args.rows c.args.buffer.now) c.args.rows top count c.loop-i.buffer (omega (arith, t.0)) y ∙ was.5,
            ended-ends c.args.profile c.args.buffer.now c.args.rows loops.rows loops.depth c.loop-i.i was.6 w.left_open.result (omega arith) left.0 left.1 n f same,
          )
    ]

pub returns : goal.returns
returns c = let loops = c.loop-i.open in
    let end : c.loop-i.i ≡ c.args.rows - 1 = omega arith in
    let none : loops.depth ≡ 0 = omega (arith, c.if-open-ne0.false) in (
      rw (← end) c.loop-i.invariant.3,
      (
        sym (counted-all c.args.profile c.args.buffer.now c.loop-i.buffer loops.rows loops.depth loops.above c.loop-i.i c.args.rows c.loop-i.invariant.4 c.loop-i.invariant.3.alike (omega arith) (omega arith)) ∙ c.loop-i.invariant.5,
        ended-all c.args.profile c.args.buffer.now c.args.rows loops.rows c.loop-i.i (omega arith) (rw none at c.loop-i.invariant.6),
      ),
    )
