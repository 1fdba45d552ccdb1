-- `trace::behind_block` meets its contract.
use mathlib.Core.Path.{◌∙◌, sym, ap}
use Rattle.reader.specs.ways.WholeWord.{BehindRead}
use Rattle.reader.specs.ways.Parts.{told_wrong}
use Rattle.reader.proofs.RowTokens.{rows_in}
use Rattle.reader.proofs.ReadLaws.{behind-no, behind-wrong, behind-right}
use Rattle.std.specs.Prelude.{Err}
use Rattle.reader.specs.declared.refused.TraceRefused.{TraceRefused}
use Rattle.reader.specs.Reads.{told_trace}
use Rattle.reader.proofs.trace.behind_block.Goals as goal

pub returns-then-next-rows : goal.returns-then-next-rows
unfolding BehindRead
returns-then-next-rows c = record { behind_read = λ b k u. ap (λ (x : TraceRefused). told_trace (Err x)) c.no_word.ensures ∙ behind-no _ _ _ _ b (sym (rows_in c.args.lent.now.profile c.args.lent.now.cells.now)) c.halts-end.ensures.halts_read _ c.if-next-rows.true; kept_kinds = c.halts-end.ensures.kept_kinds }

pub returns-in-Some : goal.returns-in-Some
unfolding BehindRead
returns-in-Some c = record { behind_read = λ b k u. behind-wrong _ _ _ _ b (sym (rows_in c.args.lent.now.profile c.args.lent.now.cells.now)) c.halts-end.ensures.halts_read _ _ _ c.if-next-rows.false (ap told_wrong c.in-Some.is) u; kept_kinds = c.halts-end.ensures.kept_kinds }

pub returns-in-None : goal.returns-in-None
unfolding BehindRead
returns-in-None c = record { behind_read = λ b k u. behind-right _ _ _ _ b (sym (rows_in c.args.lent.now.profile c.args.lent.now.cells.now)) c.halts-end.ensures.halts_read _ _ c.if-next-rows.false (ap told_wrong c.in-None.is) u k; kept_kinds = c.halts-end.ensures.kept_kinds }
