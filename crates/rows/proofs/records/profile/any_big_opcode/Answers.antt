-- `profile::any_big_opcode` meets its contract.
use mathlib.Core.Path.{sym, ◌∙◌}
use mathlib.Core.Bool.{false, ◌||◌}
use lib.Dec.{leb}
use Rattle.std.proofs.Common.{rules, tests}
use Rattle.std.proofs.lemmas.Iterator.{YieldsList-from_slice}
use Rattle.std.proofs.lemmas.Iterator.Consumers.{fold_from_yields_List}
use Rattle.rows.proofs.records.Scanned.{scanned, any_from-list_any}
use Rattle.rows.proofs.records.profile.any_big_opcode.Goals as goal

pub returns : goal.returns
returns c = fold_from_yields_List _ (λ found x. found || leb 128 x) _ _ c.fold.ensures.ran (YieldsList-from_slice c.args.opcodes.now cc) (λ a x b q k. search (rules, tests))
    ∙ scanned (leb 128) false c.args.opcodes.now ∙ sym (any_from-list_any 128 c.args.opcodes.now)
