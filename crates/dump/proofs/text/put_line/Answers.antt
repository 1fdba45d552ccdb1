-- `text::put_line` meets its contract: the line is put in three parts.
use mathlib.Core.Path.{◌≡◌, ◌∙◌, ap}
use mathlib.Core.List.{List, ◌++◌}
use Prim.Native.Nat.{ℕ}
use lib.ListN.{length, replicate}
use Rattle.std.proofs.lemmas.List.{length-replicate}
use Rattle.theory_dumps.specs.Numerals.{numeral_within}
use Rattle.dump.proofs.Parts.{tail-is}
use Rattle.dump.proofs.Putting.{line-put}
use Rattle.dump.proofs.text.put_line.Goals as goal

pub returns : goal.returns
returns g c = let n : length {A = ℕ} (replicate g.row.N 0) ≡ g.row.N = length-replicate g.row.N 0 in
    line-put (c.args.mark.now ++ numeral_within c.args.base g.row.N c.args.number ++ c.args.end.now) c.put_bytes-from.ensures c.put_bytes-to.ensures c.put_bytes.ensures
    (ap (λ (l : List ℕ). c.args.mark.now ++ l ++ c.args.end.now)
    (tail-is c.put_digits-first.result c.put_digits-first.new.out ∙ rw n at c.put_digits-first.ensures.2))
