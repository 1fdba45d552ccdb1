-- `fixup::write_later_rows` meets its contract. The loop's invariant: the first rows of the fragments up to k are written.
use mathlib.Core.Path.{◌≡◌, refl}
use Prim.Native.Nat.{ℕ, ◌+◌, ◌-◌, ◌*◌, ◌<◌}
use native.Mathlib.Nat.{mul-le-mul_right}
use native.Mathlib.Omega.{arith}
use borrow.Author.Rules.{rules}
use lib.ListN.{length, length-take, length-drop}
use Rattle.rows.specs.passes.Passes.{sum_of}
use Rattle.rows.proofs.passes.FirstRows.{later-start, later-turn}
use Rattle.rows.proofs.passes.fixup.write_later_rows.Goals as goal

-- the fragment's first row is one of the rows
starts : (k fragments size rows : ℕ) → k < fragments → (fragments - 1) * size < rows → k * size < rows
starts k fragments size rows h e = omega (arith, mul-le-mul_right {m = k} {n = fragments - 1} size (omega arith))

-- a part from `at` to `at + 25` has 25 cells
part-of-25 : (at : ℕ) → at + 25 - at ≡ 25
part-of-25 at = omega arith

pub loop-k-init : goal.loop-k-init
loop-k-init c = (omega arith, omega arith, refl, later-start (sum_of c.args.fragments.now.counts.now) c.args.fragments.now.size c.requires.0 c.args.buffer.now c.requires.2 c.args.fragments.now.built.now)

pub overflow_mul-k : goal.overflow_mul-k
overflow_mul-k c = let h = starts c.loop-k.k (length c.args.fragments.now.counts.now) c.args.fragments.now.size (sum_of c.args.fragments.now.counts.now) (search rules) c.requires.1 in
    omega arith

pub write_sides-requires : goal.write_sides-requires
write_sides-requires c = let h = starts c.loop-k.k (length c.args.fragments.now.counts.now) c.args.fragments.now.size (sum_of c.args.fragments.now.counts.now) (search rules) c.requires.1 in
    (omega arith, simp (length-take, length-drop) (omega arith))

pub loop-k-preserved : goal.loop-k-preserved
loop-k-preserved c = let n = sum_of c.args.fragments.now.counts.now in
    let h = starts c.loop-k.k (length c.args.fragments.now.counts.now) c.args.fragments.now.size n (search rules) c.requires.1 in
    let t = later-turn n c.args.fragments.now.size c.requires.0 c.args.buffer.now c.requires.2 c.args.fragments.now.built.now c.loop-k.k c.loop-k.invariant.0 h (omega arith) in
    (omega arith, omega arith, search rules, rw (c.write_sides.ensures, part-of-25, c.loop-k.invariant.3) t)

pub returns : goal.returns
returns c = let e : c.loop-k.k - 1 ≡ length c.args.fragments.now.counts.now - 1 = omega arith in
    rw (← e) c.loop-k.invariant.3
