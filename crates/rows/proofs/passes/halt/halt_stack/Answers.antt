-- `halt::halt_stack` meets its contract.
use mathlib.Core.Path.{◌∙◌, ap}
use Prim.Native.Nat.{ℕ, ◌-◌}
use native.Mathlib.Omega.{arith}
use lib.ListN.{length, drop}
use lib.Seq.{take-take}
use Rattle.rows.specs.records.Built.{stack_cells}
use Rattle.rows.proofs.passes.HaltRows.{halt-stack}
use Rattle.rows.proofs.passes.halt.halt_stack.Goals as goal

pub returns : goal.returns
returns c = ap (λ (h : ℕ). stack_cells (record { top = c.stack_of-stack.result.top; b0 = c.stack_of-stack.result.b0; b1 = c.stack_of-stack.result.b1; h0 = h })) c.inverse-h0.ensures
    ∙ halt-stack c.args.built.now c.stack_of-stack.result (c.stack_of-stack.ensures ∙ take-take 19 (length c.args.built.now - 6) (drop 6 c.args.built.now) (omega (arith, c.requires)))
