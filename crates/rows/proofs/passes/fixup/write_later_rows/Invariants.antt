-- `fixup::write_later_rows` meets its contract. The loop's invariant: the first rows of the fragments up to k are written.
use mathlib.Core.Path.{◌≡◌}
use Prim.Native.Nat.{◌-◌, ◌≤◌}
use lib.ListN.{length}
use Rattle.rows.specs.records.Buffers.{on_rows}
use Rattle.rows.specs.passes.Passes.{later_rows, built_of, sum_of}
use Rattle.rows.proofs.passes.fixup.write_later_rows.Given as goal

abbrev pub invariant-loop-k : goal.invariant-loop-k
invariant-loop-k l =
    (1 ≤ l.k) × (l.k - 1 ≤ length l.fragments.counts.now - 1) × (length l.buffer ≡ length l.initial.buffer) × (l.buffer ≡ on_rows (sum_of l.fragments.counts.now) (later_rows l.fragments.size l.fragments.size (built_of (l.k - 1) l.fragments.built.now)) l.initial.buffer)
