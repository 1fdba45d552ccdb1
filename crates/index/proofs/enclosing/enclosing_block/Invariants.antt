-- `enclosing::enclosing_block` meets its contract: from the last place down.
use mathlib.Core.Path.{◌≡◌}
use mathlib.Core.Option.{none}
use Prim.Native.Nat.{◌*◌, ◌%◌, ◌≤◌}
use lib.ListN.{length, drop}
use Rattle.theory_indexes.specs.Enclosing.{last_from}
use Rattle.index.proofs.enclosing.enclosing_block.Given as goal

abbrev pub invariant-loop-place : goal.invariant-loop-place
invariant-loop-place l = (3 * l.place ≤ length l.index) × (length l.index % 3 ≡ 0) × (last_from l.place (drop (3 * l.place) l.index) l.row ≡ none)
