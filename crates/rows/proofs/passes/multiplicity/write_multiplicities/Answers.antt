-- `multiplicity::write_multiplicities` meets its contract.
use mathlib.Core.Path.{sym, ◌∙◌}
use Rattle.rows.proofs.passes.RowsFrom.{lacks-first}
use Rattle.rows.proofs.passes.Written.{counted-first}
use Rattle.rows.proofs.passes.multiplicity.write_multiplicities.Goals as goal

pub returns-then-count_nested : goal.returns-then-count_nested
returns-then-count_nested c = let n = c.count_nested.ensures.0 c.if-count_nested.true in
    let all = lacks-first c.args.profile c.args.rows c.args.buffer.now ∙ n.1 in
    record { value = rw all; buffer_after = rw all (n.0 ∙ sym (counted-first c.args.profile c.args.rows c.args.buffer.now)) }
