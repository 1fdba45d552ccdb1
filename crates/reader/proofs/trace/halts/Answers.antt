-- `trace::halts` meets its contract.
use mathlib.Core.Path.{◌≡◌, ◌∙◌, refl}
use Prim.Native.Nat.{◌/◌}
use lib.ListN.{length}
use native.Mathlib.Omega.{arith}
use borrow.Author.Rules.{rules}
use Rattle.reader.specs.Rows.{word_in}
use Rattle.reader.specs.ways.WholeWord.{HaltsRead}
use Rattle.reader.specs.declared.token.RowKind.TheVariants.{Halt}
use Rattle.reader.proofs.RowTokens.{rows_in, stands}
use Rattle.reader.proofs.ReadLaws.{halt-more, halt-stop, halt-end}
use borrow.Enum.Refused.{opened}
use Rattle.reader.proofs.trace.halts.Goals as goal

pub loop-at-init : goal.loop-at-init
loop-at-init c = (refl, c.requires.1, omega arith, search rules, λ b. refl)

pub returns-in_default : goal.returns-in_default
unfolding HaltsRead
returns-in_default c = let n = rows_in c.args.lent.now.profile c.args.lent.now.cells.now in
    record { halts_read = (omega arith, omega arith, λ b. c.loop-at.invariant.4 b ∙ halt-stop (word_in c.args.lent.now.profile c.args.lent.now.cells.now) c.loop-at.at (rw c.note_kind-kind.ensures.value at (opened c.in_default.in_default-own.keys2)) (omega arith) b); kept_kinds = c.note_kind-kind.ensures.kept_kinds }

pub loop-at-preserved : goal.loop-at-preserved
loop-at-preserved c = let h = stands _ _ _ _ Halt c.note_kind-kind.ensures.value c.in-Halt.is tt in
    (search rules, c.note_kind-kind.ensures.kept_kinds, omega arith, omega arith, λ b. c.loop-at.invariant.4 b ∙ halt-more _ _ h.token h.below b)

pub returns : goal.returns
unfolding HaltsRead
returns c = let n = rows_in c.args.lent.now.profile c.args.lent.now.cells.now in
    let e : c.loop-at.at ≡ length c.args.lent.now.cells.now / 49 = omega arith in
    record { halts_read = rw (← e) (omega arith, omega arith, λ b. c.loop-at.invariant.4 b ∙ halt-end (word_in c.args.lent.now.profile c.args.lent.now.cells.now) c.loop-at.at (omega arith) b); kept_kinds = c.loop-at.invariant.1 }
