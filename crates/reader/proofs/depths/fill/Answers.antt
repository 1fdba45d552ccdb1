-- `depths::fill` meets its contract.
use mathlib.Core.Path.{◌≡◌, ◌∙◌, refl}
use Prim.Native.Nat.{◌<◌, ◌/◌}
use native.Mathlib.Omega.{arith}
use borrow.Author.Rules.{rules}
use lib.ListN.{length, length-set, take-append-drop}
use lib.Seq.{drop-set-lt}
use Rattle.reader.specs.Rows.{word_in}
use Rattle.reader.proofs.RowTokens.{rows_in}
use Rattle.reader.proofs.LevelLaws.{scan_step, scan-done, level-le, behind-le}
use Rattle.reader.proofs.depths.fill.Goals as goal

pub loop-at-init : goal.loop-at-init
loop-at-init c = (omega arith, omega arith, refl, refl, refl)

pub loop-at-preserved : goal.loop-at-preserved
loop-at-preserved c = let n = rows_in c.args.lent.now.profile c.args.lent.now.cells.now in
    let j : c.loop-at.at < length c.args.lent.now.cells.now / 49 = search rules in
    let m : c.loop-at.at < length c.loop-at.depths = omega arith in (
      omega arith,
      omega (arith, behind-le c.kept_kind-kind.result c.depth_at-depth.result, level-le c.kept_kind-kind.result c.loop-at.opened),
      rw length-set c.loop-at.invariant.2,
      drop-set-lt _ _ _ _ j ∙ c.loop-at.invariant.3,
      rw (c.open_behind-opened.ensures, c.depth_at-depth.ensures, c.kept_kind-kind.ensures c.requires.2)
          (scan_step (word_in c.args.lent.now.profile c.args.lent.now.cells.now) _ c.loop-at.at c.loop-at.opened c.loop-at.depths (omega arith) m c.loop-at.invariant.4),
    )

pub returns : goal.returns
returns c = let q : c.loop-at.at ≡ length c.args.lent.now.cells.now / 49 = omega arith in
    let z = rw q at (scan-done (word_in c.args.lent.now.profile c.args.lent.now.cells.now) _ c.loop-at.at c.loop-at.opened c.loop-at.depths (omega (arith, rows_in c.args.lent.now.profile c.args.lent.now.cells.now)) c.loop-at.invariant.4) in
    cc (z, c.loop-at.invariant.3, take-append-drop (length c.args.lent.now.cells.now / 49) c.loop-at.depths)
