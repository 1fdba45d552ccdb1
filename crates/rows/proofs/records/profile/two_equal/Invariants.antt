-- `profile::two_equal` meets its contract. The loop's invariant: what is found, or is in the rest, is in the whole.
use mathlib.Core.Path.{◌≡◌}
use mathlib.Core.Bool.{◌||◌}
use lib.ListN.{drop}
use Rattle.rows.specs.records.Profiles.{two_equal}
use Rattle.rows.proofs.records.profile.two_equal.Given as goal

abbrev pub invariant-loop-i : goal.invariant-loop-i
invariant-loop-i l = (l.found || two_equal (drop l.i l.opcodes)) ≡ two_equal l.opcodes
