-- `read_text::good_rows` meets its contract.
use mathlib.Core.Path.{sym, ◌∙◌, ap}
use mathlib.Core.List.{List}
use mathlib.Core.Option.{Option}
use Prim.Native.Nat.{ℕ}
use Rattle.dump.specs.ways.Undumping.{few_rows}
use Rattle.dump.specs.ways.Reading.{how_many}
use Rattle.dump.proofs.UndumpLaws.{not-whole, is_whole}
use Rattle.dump.proofs.read_text.good_rows.Goals as goal

pub returns-then-not-whole_first : goal.returns-then-not-whole_first
returns-then-not-whole_first c = sym (not-whole c.args.text.now (sym c.if-not-whole_first.ensures))

pub returns : goal.returns
returns c = c.count_rows.ensures ∙ ap (λ (o : Option (List (List ℕ))). how_many (few_rows o)) (sym (is_whole c.args.text.now (sym c.if-not-whole_first.ensures)))
