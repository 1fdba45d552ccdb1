-- `trace::tell_trace` meets its contract.
use mathlib.Core.Path.{◌≡◌, refl}
use Prim.Native.Nat.{ℕ}
use borrow.Author.Rules.{rules}
use Rattle.std.specs.Prelude.{Result, Err}
use Rattle.groups.specs.Refusals.{number_of}
use Rattle.reader.specs.declared.refused.TraceRefused.{TraceRefused}
use Rattle.reader.specs.Reads.{refused_for}
use Rattle.reader.proofs.SomeNumber.{some-number}
use Rattle.reader.proofs.ReadLaws.{bad-read, good-read}
use Rattle.reader.proofs.trace.tell_trace.Goals as goal

pub returns-in_err-refusal-clause-tells_trace : goal.returns-in_err-refusal-clause-tells_trace
returns-in_err-refusal-clause-tells_trace c =
    let e : ◌≡◌ {A = Result ℕ TraceRefused} c.from_residual.result (Err (refused_for c.in_err-refusal.field-0.0 0)) = search rules in
    rw e (bad-read _ _ _ (number_of c.in_err-refusal.field-0.0) c.in_err-refusal.ensures (some-number c.in_err-refusal.field-0.0))

pub returns-clause-tells_trace : goal.returns-clause-tells_trace
returns-clause-tells_trace c = good-read _ _ _ 0 c.in_ok-refusal.ensures refl _ c.read_cells.ensures.value
