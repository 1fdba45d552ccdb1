-- `calls::run` meets its contract. Invariant: after k records the tracer and the fragment are those of the definition.
use mathlib.Core.Path.{◌≡◌}
use Prim.Native.Nat.{◌≤◌, ◌-◌, ◌/◌}
use lib.ListN.{length}
use Rattle.rows.specs.ways.Inner.{lent_setting}
use Rattle.rows.proofs.replay.CallSteps.{Ran}
use Rattle.rows.proofs.replay.calls.run.Given as goal

abbrev pub invariant-loop-k : goal.invariant-loop-k
invariant-loop-k l =
    (l.k ≤ length l.records / 32) × ((length l.fragment ≡ length l.initial.fragment) × Ran l.write (lent_setting l.setting (length l.initial.fragment)) l.records l.initial.tracer l.initial.fragment l.k l.tracer l.fragment)

abbrev pub decreases-loop-k : goal.decreases-loop-k
decreases-loop-k l =
    length l.records / 32 - l.k
