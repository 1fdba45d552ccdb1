-- `nested::sweep` meets its contract. The loop's invariant: the LOOP rows before row i hold the counts so far, each is open or has a body END, and
-- nothing else has changed.
use mathlib.Core.Path.{◌≡◌}
use Prim.Native.Nat.{◌≤◌}
use lib.ListN.{length}
use Rattle.rows.specs.ways.LoopCounts.{ends_in, counted_from}
use Rattle.rows.specs.ways.OpenLoops.{CountsIn}
use Rattle.rows.proofs.passes.OpenLoops.{LoopsEnded, LoopsCounted}
use Rattle.rows.proofs.passes.nested.sweep.Given as goal

abbrev pub invariant-loop-i : goal.invariant-loop-i
invariant-loop-i l =
    (l.last ≤ l.rows) × (length l.open.rows ≡ 65) × (l.open.depth ≤ 64) × CountsIn l.profile l.initial.buffer 0 l.i l.buffer × LoopsCounted l.profile l.initial.buffer l.buffer l.open.rows l.open.depth l.open.above l.i
    × (counted_from l.profile (ends_in l.profile l.rows l.initial.buffer) l.rows 0 l.buffer ≡ counted_from l.profile (ends_in l.profile l.rows l.initial.buffer) l.rows 0 l.initial.buffer)
    × LoopsEnded l.profile l.initial.buffer l.rows l.open.rows l.open.depth l.i
