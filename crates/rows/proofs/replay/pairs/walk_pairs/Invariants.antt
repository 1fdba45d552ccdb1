-- `pairs::walk_pairs` meets its contract. Invariant: the walk stands behind a number of pairs.
use mathlib.Core.Path.{◌≡◌}
use Prim.Native.Nat.{◌-◌, ◌/◌, ◌<◌}
use lib.ListN.{length}
use Rattle.groups.specs.Constants.{row_width}
use Rattle.rows.specs.records.Lent.{lent_forest, lent_queues}
use Rattle.rows.specs.ways.Pairs.{Walks}
use Rattle.rows.proofs.replay.pairs.walk_pairs.Given as goal

abbrev pub invariant-loop-w : goal.invariant-loop-w
invariant-loop-w l =
    (l.rows ≡ length l.initial.fragment / row_width) × ((length l.fragment ≡ length l.initial.fragment) × (0 < l.w.next))
    × Walks (lent_forest l.forest) (lent_queues l.queues) l.profile l.number l.records l.write l.initial.w l.initial.fragment l.w l.fragment

abbrev pub decreases-loop-w : goal.decreases-loop-w
decreases-loop-w l =
    length l.records / 32 - l.w.next
