-- `fixup::write_first_stack` meets its contract.
use mathlib.Core.Path.{◌≡◌, ◌∙◌, sym, ap}
use mathlib.Core.List.{List, [], ◌∷◌, ◌++◌}
use Prim.Native.Nat.{ℕ}
use native.Mathlib.Omega.{arith}
use lib.ListN.{length, set, take, drop}
use lib.Seq.{paste}
use Rattle.std.specs.Prelude.{reverse}
use Rattle.field.specs.Cells.{reduced}
use Rattle.field.proofs.CellLaws.{length-reduced}
use Rattle.rows.specs.records.Built.{reversed16}
use Rattle.rows.specs.records.Cells.{copied_in}
use Rattle.rows.proofs.records.Rooms.{copy-fits}
use Rattle.rows.proofs.records.Windows.{all-16}
use Rattle.rows.specs.passes.Passes.{first_row}
use Rattle.rows.proofs.passes.Sides.{stack-copied}
use Rattle.rows.proofs.passes.fixup.write_first_stack.Goals as goal

-- the sixteen in reverse, and the three behind them
made-of : (t copied turned : List ℕ) → length copied ≡ 16 → copied ≡ t → turned ≡ reverse (take 16 (copied ++ (0 ∷ 0 ∷ 0 ∷ [])))
    → set (turned ++ drop 16 (copied ++ (0 ∷ 0 ∷ 0 ∷ []))) 16 16 ≡ reversed16 t ++ (16 ∷ 0 ∷ 0 ∷ [])
made-of t copied turned len e f =
    let all = e ∙ sym (all-16 t (sym (ap length e) ∙ len)) in
    ap (λ (l : List ℕ). set (l ++ drop 16 (copied ++ (0 ∷ 0 ∷ 0 ∷ []))) 16 16) (f ∙ ap (λ (l : List ℕ). reverse (take 16 (l ++ (0 ∷ 0 ∷ 0 ∷ [])))) all)
    ∙ ap (λ (l : List ℕ). set (reversed16 t ++ drop 16 (l ++ (0 ∷ 0 ∷ 0 ∷ []))) 16 16) all

pub slice_bounds-copy_in-end : goal.slice_bounds-copy_in-end
slice_bounds-copy_in-end c = sym (ap length (made-of c.args.first_stack_top _ _ c.copy_from_slice.ensures.len c.copy_from_slice.ensures.after c.reverse.ensures.after))

pub returns : goal.returns
unfolding first_row
returns c = let stack : List ℕ = reversed16 c.args.first_stack_top ++ (16 ∷ 0 ∷ 0 ∷ []) in
    c.copy_in.ensures
    ∙ ap (copied_in c.args.buffer.now 30) (made-of c.args.first_stack_top _ _ c.copy_from_slice.ensures.len c.copy_from_slice.ensures.after c.reverse.ensures.after)
    ∙ copy-fits c.args.buffer.now 30 stack (omega arith)
    ∙ ap (paste c.args.buffer.now 30 (reduced stack)) (sym (length-reduced stack))
    ∙ stack-copied c.args.buffer.now (reduced stack) (length-reduced stack)
