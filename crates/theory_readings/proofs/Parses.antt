-- The machine reads the rows of a tree as that tree.
use mathlib.Core.Path.{◌≡◌, ◌∙◌, refl}
use mathlib.Core.List.{List, [], ◌∷◌}
use Prim.Native.Nat.{ℕ, zero, suc, ◌≤◌}
use native.Mathlib.Omega.{arith}
use Rattle.theory_readings.specs.Readings.{Ops, Block, Passes, Row, spell_ops, spell, spell_passes, depth_of, depth_of_passes}
use Rattle.theory_readings.specs.ways.Parser.{PassesRead, no_pass, pass, OpsRead, no_op, Open, first, second, child, body, need, inside, Failure, live, whole, stop, give, passes_with, ops_with, close, enter, opening, at_repeat, step, done, failed, parse}

pub parse-whole : (r : List Row) (b : Block) → parse r (whole b) ≡ done b r
unfolding parse
parse-whole [] b = refl
parse-whole (x ∷ r) b = refl

pub parse-stop : (r : List Row) (a : Failure) → parse r (stop a) ≡ failed a
unfolding parse
parse-stop [] a = refl
parse-stop (x ∷ r) a = refl

-- behind a tree's rows the machine is where the complete tree puts it, for every stack
parses-ops : (o : Ops) (d : ℕ) (s : List Open) (n : ℕ) (i : OpsRead) (r : List Row) → parse (spell_ops o r) (live (inside d s n i)) ≡ parse r (give (suc d) s (Block.span n (ops_with i o)))
unfolding parse spell_ops step ops_with
parses-ops (Ops.ended e) d s n i r = refl
parses-ops (Ops.op m c o) d s n i r = parses-ops o d s n (OpsRead.op i m c) r
parses-ops (Ops.respan m o) d s n i r = parses-ops o d s n (OpsRead.respan i m) r

mutual
  unfolding parse spell spell_passes step depth_of depth_of_passes ops_with give close passes_with at_repeat enter opening

  pub parses : (b : Block) (d : ℕ) (s : List Open) (r : List Row) → depth_of b ≤ d → parse (spell b r) (live (need d s)) ≡ parse r (give d s b)
  parses (Block.span n o) zero s r h = absurd (omega arith)
  parses (Block.span n o) (suc d) s r h = parses-ops o d s n no_op r
  parses (Block.join n a b e) zero s r h = absurd (omega arith)
  parses (Block.join n a b e) (suc d) s r h = parses a d (first n ∷ s) _ (omega arith) ∙ parses b d (second n a ∷ s) _ (omega arith)
  parses (Block.one k n a e) zero s r h = absurd (omega arith)
  parses (Block.one k n a e) (suc d) s r h = parses a d (child k n ∷ s) _ (omega arith)
  parses (Block.loop n p) zero s r h = absurd (omega arith)
  parses (Block.loop n p) (suc d) s r h = parses-passes p d n no_pass s r (omega arith)

  pub parses-passes : (p : Passes) (d n : ℕ) (t : PassesRead) (s : List Open) (r : List Row) → depth_of_passes p ≤ d → parse (spell_passes p r) (live (need d (body n t ∷ s))) ≡ parse r (give (suc d) s (Block.loop n (passes_with t p)))
  parses-passes (Passes.ended b e) d n t s r h = parses b d (body n t ∷ s) _ h
  parses-passes (Passes.repeated b m p) d n t s r h = parses b d (body n t ∷ s) _ (omega arith) ∙ parses-passes p d n (pass t b m) s r (omega arith)

-- from the start: the tree, and the rows behind it
pub parse-done : (b : Block) (d : ℕ) (r : List Row) → depth_of b ≤ d → parse (spell b r) (live (need d [])) ≡ done b r
unfolding give
parse-done b d r h = parses b d [] r h ∙ parse-whole r b
