-- `tally::place_for` meets its contract. The loop's invariant: no place before is in use with the address, and `free` is the first free one of them.
use mathlib.Core.Path.{◌≡◌}
use Prim.Native.Nat.{◌-◌, ◌≤◌}
use lib.Dec.{ltb}
use Rattle.groups.specs.Answer.{pick}
use Rattle.rows.specs.cycles.LentTally.{is_free, is_of, first_from, first}
use Rattle.rows.proofs.cycles.tally.place_for.Given as goal

abbrev pub invariant-loop-place : goal.invariant-loop-place
invariant-loop-place l =
    (l.place ≤ 256) × (l.free ≤ 256)
    × (first (is_of l.tally l.addr) ≡ first_from (is_of l.tally l.addr) l.place (256 - l.place))
    × (first (is_free l.tally) ≡ pick (ltb l.free 256) l.free (first_from (is_free l.tally) l.place (256 - l.place)))
