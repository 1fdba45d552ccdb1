-- `nested::clear_counts` meets its contract. The loop's invariant: of the counts that were in the LOOP rows, those from row i on are left.
use mathlib.Core.Path.{◌≡◌}
use mathlib.Core.List.{List}
use Prim.Native.Nat.{ℕ}
use lib.ListN.{length}
use Rattle.rows.specs.ways.OpenLoops.{CountsIn}
use Rattle.rows.proofs.passes.nested.clear_counts.Given as goal

abbrev pub invariant-loop-i : goal.invariant-loop-i
invariant-loop-i l = (length l.buffer ≡ length l.initial.buffer) × ((first : List ℕ) → CountsIn l.profile first 0 l.end l.initial.buffer → CountsIn l.profile first l.i l.end l.buffer)
