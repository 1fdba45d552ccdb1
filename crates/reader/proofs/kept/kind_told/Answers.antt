-- `kept::kind_told` meets its contract.
use mathlib.Core.Path.{◌∙◌}
use Prim.Native.Nat.{◌<◌}
use native.Mathlib.Omega.{arith}
use Rattle.reader.proofs.kept.kind_told.Goals as goal

pub returns-then-number-lt-UNKNOWN : goal.returns-then-number-lt-UNKNOWN
returns-then-number-lt-UNKNOWN c =
    let known : c.args.number < 10 = omega (arith, c.if-number-lt-UNKNOWN.true) in
    λ told. c.kind_numbered.ensures ∙ told known

pub returns : goal.returns
returns c = λ told. c.row_kind.ensures
