-- `nested::row_role` meets its contract.
use mathlib.Core.Path.{sym, ◌∙◌}
use Prim.Native.Nat.{◌<◌}
use native.Mathlib.Omega.{arith}
use borrow.Author.Tests.{ne_eqb, ltb-true}
use Rattle.rows.specs.records.Buffers.{buffer_row, opcode_of}
use Rattle.rows.specs.ways.OpenLoops.{RoleOf}
use Rattle.rows.proofs.passes.OpenLoops.{not-flagged}
use Rattle.rows.proofs.passes.nested.row_role.Goals as goal

pub returns-then-profile-ge64-2 : goal.returns-then-profile-ge64-2
unfolding RoleOf
returns-then-profile-ge64-2 c = let row = buffer_row c.args.i c.args.buffer.now in
    let low : opcode_of row < 64 = ltb-true _ _ (sym c.is_low.ensures ∙ c.if-is_low.true) in
    (ne_eqb (opcode_of row) _ (λ e. omega (arith, low, e, c.if-profile-ge64.true)), not-flagged c.args.profile row (λ e. omega (arith, low, e, c.if-profile-ge64-2.true)))
