-- `tally::count_row` meets its contract.
use native.Mathlib.Omega.{arith}
use mathlib.Core.Path.{◌∙◌, sym}
use Rattle.rows.proofs.cycles.Tallying.{place-left}
use Rattle.rows.proofs.cycles.tally.count_row.Goals as goal

pub count_at-requires : goal.count_at-requires
count_at-requires c =
    let (some, small) = place-left _ _ (sym c.cannot_count.ensures ∙ c.if-cannot_count.false) in
    (some, omega arith, small)
