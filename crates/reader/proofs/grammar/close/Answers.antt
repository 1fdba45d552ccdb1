-- `grammar::close` meets its contract.
use mathlib.Core.Path.{◌∙◌, sym}
use native.Mathlib.Omega.{arith}
use Rattle.reader.specs.declared.token.RowKind.TheVariants.{End}
use Rattle.reader.proofs.RowTokens.{stands}
use Rattle.reader.proofs.PartLaws.{told-or, closed-end, closed-no}
use borrow.Enum.Refused.{opened}
use Rattle.reader.proofs.grammar.close.Goals as goal

pub ask-own-requires : goal.ask-own-requires
ask-own-requires c = let h = stands _ _ _ _ End c.note_kind-kind.ensures.value c.in-End.is tt in
    (h.inside, omega arith)

pub overflow_add-result : goal.overflow_add-result
overflow_add-result c = let h = stands _ _ _ _ End c.note_kind-kind.ensures.value c.in-End.is tt in
    omega (arith, h.inside)

pub returns-in-End : goal.returns-in-End
returns-in-End c = record { result_value = rw (told-or c.or.result c.args.wrong c.ask-own.result c.or.ensures, c.ask-own.ensures) (closed-end _ _ _ _ _ (sym c.note_kind-kind.ensures.value ∙ c.in-End.is)); kept_kinds = c.note_kind-kind.ensures.kept_kinds }

pub returns-in_default : goal.returns-in_default
returns-in_default c = record { result_value = rw c.no_word.ensures (closed-no _ _ _ _ _ (rw c.note_kind-kind.ensures.value at (opened c.in_default.in_default-own.keys2))); kept_kinds = c.note_kind-kind.ensures.kept_kinds }
