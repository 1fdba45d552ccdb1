-- `nested::takes` meets its contract.
use borrow.Author.Tests.{ltb-true, leb-true, eqb-true}
use Rattle.groups.proofs.OneGroup.{both}
use Rattle.rows.proofs.passes.nested.OpenLoops.takes.Goals as goal

pub returns : goal.returns
returns c = λ e.
    let a = both _ _ e in
    let b = both _ _ a.1 in
    (ltb-true _ _ a.0, leb-true _ _ b.0, eqb-true _ _ b.1)
