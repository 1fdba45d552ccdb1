-- `build::build_with` meets its contract.
use mathlib.Core.Path.{◌≡◌, refl}
use Prim.Native.Nat.{ℕ}
use native.Mathlib.Omega.{arith}
use borrow.Author.Rules.{rules}
use Rattle.std.specs.Prelude.{Result, Err}
use Rattle.reader.specs.declared.refused.TraceRefused.{TraceRefused}
use Rattle.reader.proofs.SomeNumber.{some-number}
use Rattle.theory_readings.specs.Answers.{refusal_of, row_of}
use Rattle.index.specs.Building.{index_built, blocks_of}
use Rattle.index.proofs.BuildLaws.{few, no-trace, fitting, short, whole}
use Rattle.index.proofs.build.build_with.Goals as goal

pub returns-in_err-validate_keeping : goal.returns-in_err-validate_keeping
unfolding index_built blocks_of refusal_of row_of
returns-in_err-validate_keeping c =
    let e : ◌≡◌ {A = Result ℕ TraceRefused} c.from_residual.result (Err c.in_err-validate_keeping.field-0.0) = search rules in
    rw e (no-trace _ _ c.args.index.now _ c.in_err-validate_keeping.ensures.tells_trace _ (some-number c.in_err-validate_keeping.field-0.0.refusal) refl)

pub returns-then-index-blocks : goal.returns-then-index-blocks
unfolding index_built blocks_of refusal_of row_of
returns-then-index-blocks c =
    rw c.from.ensures
    (short _ _ c.args.index.now _ c.in_ok-validate_keeping.ensures.tells_trace refl _ (rw c.count_starts-blocks.ensures at c.if-index-blocks.true) refl)

pub fill-requires : goal.fill-requires
fill-requires c = let l = rw c.count_starts-blocks.ensures at c.if-index-blocks.false in
    (few _ _ c.args.index.now _ c.in_ok-validate_keeping.ensures.tells_trace refl, omega (arith, l), fitting _ _ c.args.index.now _ c.in_ok-validate_keeping.ensures.tells_trace refl, c.in_ok-validate_keeping.ensures.kept_kinds)

pub returns : goal.returns
returns c = whole _ _ c.args.index.now _ c.in_ok-validate_keeping.ensures.tells_trace refl
    (rw c.count_starts-blocks.ensures at c.if-index-blocks.false) _ _ c.count_starts-blocks.ensures c.fill.ensures
