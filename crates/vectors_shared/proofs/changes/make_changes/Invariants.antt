-- `changes::make_changes`: what is left is no longer than the list.
use Rattle.std.proofs.Common.{◌≤◌, length}
use Rattle.vectors_shared.proofs.changes.make_changes.Given as goal

abbrev pub invariant-loop : goal.invariant-loop
invariant-loop l = length l.rest.list.now ≤ length l.list.list.now
