-- `scan::any_long_block` meets its contract. The loop's invariant: what is found is so of the first k.
use mathlib.Core.Path.{◌≡◌}
use Rattle.rows.specs.cycles.Scans.{any_long_block}
use Rattle.rows.proofs.cycles.scan.any_long_block.Given as goal

abbrev pub invariant-loop-k : goal.invariant-loop-k
invariant-loop-k l = l.found ≡ any_long_block l.nodes l.k
