-- `trace::read_with` meets its contract.
use mathlib.Core.Path.{◌≡◌, refl}
use Prim.Native.Nat.{ℕ}
use borrow.Author.Rules.{rules}
use Rattle.std.specs.Prelude.{Result, Err}
use Rattle.reader.specs.declared.refused.TraceRefused.{TraceRefused}
use Rattle.reader.proofs.SomeNumber.{some-number}
use Rattle.reader.proofs.ReadLaws.{kept-depths, few-rows, enough, filled-depths}
use Rattle.reader.proofs.trace.read_with.Goals as goal

pub returns-in_err-rows : goal.returns-in_err-rows
returns-in_err-rows c =
    let e : ◌≡◌ {A = Result ℕ TraceRefused} c.from_residual.result (Err c.in_err-rows.field-0.0) = search rules in
    rw e (kept-depths _ _ c.args.depths.now _ c.in_err-rows.ensures.tells_trace (some-number c.in_err-rows.field-0.0.refusal))

pub fill-requires : goal.fill-requires
fill-requires c =
    (few-rows _ _ _ _ c.in_ok-rows.ensures.tells_trace refl, enough _ _ _ _ c.in_ok-rows.ensures.tells_trace refl, c.in_ok-rows.ensures.kept_kinds)

pub returns : goal.returns
returns c = filled-depths _ _ c.args.depths.now _ c.in_ok-rows.ensures.tells_trace refl _ c.fill.ensures
