-- `Fragments::not_full` meets its contract.
use mathlib.Core.Path.{◌≡◌, sym}
use lib.Dec.{ltb}
use Rattle.std.specs.List.{list_any}
use Rattle.std.proofs.Common.{rules, tests}
use Rattle.std.proofs.lemmas.Iterator.{YieldsList-from_slice}
use Rattle.std.proofs.lemmas.Iterator.Search.{any_from_yields_List}
use Rattle.rows.proofs.passes.Counts.{full-none, full-split}
use Rattle.rows.proofs.passes.fragments.Fragments.not_full.Goals as goal

pub returns-in_default : goal.returns-in_default
returns-in_default c = sym (full-none c.args.self.now.size c.args.self.now.counts.now (search rules))

pub returns : goal.returns
returns c = let e : c.any.result ≡ list_any (λ n. ltb n c.args.self.now.size) c.in-Some.others.now = any_from_yields_List (λ n. ltb n c.args.self.now.size) _ _ _ c.any.ensures.ran (YieldsList-from_slice c.in-Some.others.now cc) (λ x b q k. search (rules, tests)) in
    rw (e, c.in-Some.ensures.cases.0) (sym (full-split c.args.self.now.size c.in-Some.others.now c.in-Some.last.now))
