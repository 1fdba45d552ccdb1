-- `scan::any_large_batch` meets its contract. The loop's invariant: what is found is so of the first k.
use mathlib.Core.Path.{◌≡◌}
use Rattle.rows.specs.cycles.Scans.{any_large_batch}
use Rattle.rows.proofs.cycles.scan.any_large_batch.Given as goal

abbrev pub invariant-loop-k : goal.invariant-loop-k
invariant-loop-k l = l.found ≡ any_large_batch l.batches l.k
