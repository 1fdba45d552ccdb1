-- `nested::decoded_role` meets its contract.
use borrow.Author.Tests.{eq-eqb, ne_eqb}
use Rattle.rows.specs.records.Buffers.{buffer_row}
use Rattle.rows.specs.ways.OpenLoops.{RoleOf}
use Rattle.rows.proofs.passes.OpenLoops.{not-flagged}
use Rattle.rows.proofs.passes.nested.decoded_role.Goals as goal

pub returns-then-opcode-from-2 : goal.returns-then-opcode-from-2
unfolding RoleOf
returns-then-opcode-from-2 c = (eq-eqb _ _ (cc), not-flagged c.args.profile (buffer_row c.args.i c.args.buffer.now) (λ e. c.if-opcode-from.false (cc)))

pub returns : goal.returns
unfolding RoleOf
returns c = (ne_eqb _ _ (λ e. c.if-opcode-from-2.false (cc)), not-flagged c.args.profile (buffer_row c.args.i c.args.buffer.now) (λ e. c.if-opcode-from.false (cc)))
