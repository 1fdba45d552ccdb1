-- `profile::two_equal` meets its contract.
use mathlib.Core.Path.{◌≡◌, refl, ◌∙◌}
use mathlib.Core.Bool.{false, ◌||◌}
use Prim.Native.Nat.{◌+◌}
use native.Mathlib.Omega.{arith}
use lib.Dec.{eqb}
use lib.ListN.{get_or, drop}
use Rattle.std.specs.List.{list_any}
use Rattle.std.proofs.Common.{rules, tests}
use Rattle.std.proofs.lemmas.Iterator.{YieldsList-from_slice}
use Rattle.std.proofs.lemmas.Iterator.Consumers.{fold_from_yields_List}
use Rattle.field.proofs.AnyFrom.{gather-turn, gather-last}
use Rattle.rows.specs.records.Profiles.{two_equal}
use Rattle.rows.proofs.records.Scanned.{rest_all, scanned, equal-turn}
use Rattle.rows.proofs.records.profile.two_equal.Goals as goal

pub loop-i-preserved : goal.loop-i-preserved
loop-i-preserved c = let s = c.args.opcodes.now in
    let i = c.loop-i.i in
    let e : c.fold-found.result ≡ list_any (eqb (get_or s i 0)) (drop (i + 1) s) =
    fold_from_yields_List _ (λ twice x. twice || eqb (get_or s i 0) x) _ _ c.fold-found.ensures.ran (YieldsList-from_slice (drop (i + 1) s) (c.iter.ensures.rest ∙ rest_all s (i + 1))) (λ a x b q k. search (rules, tests))
    ∙ scanned (eqb (get_or s i 0)) false (drop (i + 1) s) in
    gather-turn two_equal c.loop-i.found c.fold-found.result s i (omega arith) (equal-turn s i c.fold-found.result e) c.loop-i.invariant

pub returns : goal.returns
unfolding two_equal
returns c = gather-last two_equal c.args.opcodes.now c.loop-i.i (omega arith) refl c.loop-i.invariant
