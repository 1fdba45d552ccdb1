-- `multiplicity::has_opcode` meets its contract.
use mathlib.Core.Path.{sym, ◌∙◌}
use Prim.Native.Nat.{◌<◌}
use native.Mathlib.Omega.{arith}
use borrow.Author.Tests.{ne_eqb, ltb-true}
use Rattle.rows.specs.records.Buffers.{buffer_row, opcode_of}
use Rattle.rows.proofs.passes.multiplicity.has_opcode.Goals as goal

pub returns-then-is_low : goal.returns-then-is_low
returns-then-is_low c = let low : opcode_of (buffer_row c.args.i c.args.buffer.now) < 64 = ltb-true _ _ (sym c.is_low.ensures ∙ c.if-is_low.true) in
    sym (ne_eqb (opcode_of (buffer_row c.args.i c.args.buffer.now)) c.args.opcode (λ e. omega (arith, low, e, c.if-opcode-ge64.true)))
