-- `read_text::has_all` meets its contract.
use mathlib.Core.Path.{◌∙◌}
use borrow.Author.Rules.{rules}
use Rattle.std.proofs.Common.{tests}
use Rattle.std.proofs.lemmas.Iterator.{YieldsList-from_slice}
use Rattle.std.proofs.lemmas.Iterator.Search.{all_from_yields_List}
use lib.Dec.{ltb}
use Rattle.field.specs.Modulus.{P}
use Rattle.dump.proofs.UndumpLaws.{all-values}
use Rattle.dump.proofs.read_text.has_all.Goals as goal

pub returns : goal.returns
returns c = all_from_yields_List (λ value. ltb value P) _ _ c.all.result c.all.ensures.ran (YieldsList-from_slice c.args.values.now cc) (λ x b q k. search (rules, tests))
    ∙ all-values c.args.values.now
