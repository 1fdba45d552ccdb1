-- `trace::read_cells` meets its contract.
use mathlib.Core.Path.{◌≡◌, ◌∙◌, ap}
use Prim.Native.Nat.{ℕ}
use borrow.Author.Rules.{rules}
use Rattle.std.specs.Prelude.{Result, Err}
use Rattle.reader.specs.declared.refused.TraceRefused.{TraceRefused}
use Rattle.reader.specs.Reads.{told_trace}
use native.Mathlib.Omega.{arith}
use Rattle.reader.specs.ways.Parts.{told_part}
use Rattle.reader.proofs.RowTokens.{rows_in}
use Rattle.reader.proofs.PartLaws.{ahead-done}
use Rattle.reader.proofs.ReadLaws.{root-refused, root-done}
use Rattle.reader.proofs.trace.read_cells.Goals as goal

pub block-requires : goal.block-requires
block-requires c = (omega arith, c.requires)

pub behind_block-requires : goal.behind_block-requires
behind_block-requires c = let l = ahead-done _ _ _ _ _ (ap told_part c.in_ok-next.was) c.block.ensures.block_read.ahead in
    (omega (arith, l.1, rows_in c.args.lent.now.profile c.args.lent.now.cells.now), c.block.ensures.kept_kinds)

pub returns-in_err-next : goal.returns-in_err-next
returns-in_err-next c =
    let e : ◌≡◌ {A = Result ℕ TraceRefused} c.from_residual.result (Err c.in_err-next.field-0.0) = search rules in
    record { value = ap (λ (x : Result ℕ TraceRefused). told_trace x) e ∙ root-refused _ _ _ c.block.ensures.block_read.right _ _ (ap told_part c.in_err-next.was); kept_kinds = c.block.ensures.kept_kinds }

pub returns : goal.returns
returns c = let l = ahead-done _ _ _ _ _ (ap told_part c.in_ok-next.was) c.block.ensures.block_read.ahead in
    record { value = root-done _ _ _ c.block.ensures.block_read.right _ _ _ (ap told_part c.in_ok-next.was) (omega (arith, l.1, rows_in c.args.lent.now.profile c.args.lent.now.cells.now)) c.behind_block.ensures.behind_read; kept_kinds = c.behind_block.ensures.kept_kinds }
