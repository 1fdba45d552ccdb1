-- `tally::place_for` meets its contract. The loop's invariant: no place before is in use with the address, and `free` is the first free one of them.
use mathlib.Core.Path.{◌≡◌, sym, ◌∙◌}
use Prim.Native.Nat.{◌<◌}
use native.Mathlib.Omega.{arith}
use borrow.Author.Tests.{eqb-true}
use Rattle.groups.proofs.OneGroup.{both}
use lib.Dec.{eqb}
use Rattle.rows.specs.cycles.LentTally.{is_free, is_of}
use Rattle.rows.proofs.cycles.FirstPlaces.{first-behind, found-behind, first-here, first-later, found_here, found-later}
use Rattle.rows.proofs.cycles.Tallying.{place-in-use, place-free}
use Rattle.rows.proofs.cycles.tally.place_for.Goals as goal
use Rattle.rows.proofs.cycles.tally.place_for.Goals.{then-free-is_free, else-free-is_free}

pub returns-then-is_of-clause-value : goal.returns-then-is_of-clause-value
returns-then-is_of-clause-value c = let h : c.loop-place.place < 256 = omega arith in
    sym (place-in-use c.args.tally.now c.args.addr c.loop-place.place (c.loop-place.invariant.2 ∙ first-here (is_of c.args.tally.now c.args.addr) 256 c.loop-place.place h (sym c.is_of.ensures ∙ c.if-is_of.true)) h)

pub loop-place-preserved : goal.loop-place-preserved
loop-place-preserved c = let h : c.loop-place.place < 256 = omega arith in
    let later = c.loop-place.invariant.2 ∙ first-later (is_of c.args.tally.now c.args.addr) 256 c.loop-place.place h (sym c.is_of.ensures ∙ c.if-is_of.false) in
    elim c.if-free-is_free.branch [
      | then-free-is_free w ↦ let found = both (eqb c.loop-place.free 256) c.is_free.result w.if-free-is_free.true in
          rw w.free-is (
            omega arith,
            omega arith,
            later,
            c.loop-place.invariant.3 ∙ found_here (is_free c.args.tally.now) 256 c.loop-place.place h c.loop-place.free (omega (arith, eqb-true c.loop-place.free 256 found.0)) (sym c.is_free.ensures ∙ found.1),
          )
      | else-free-is_free w ↦
          rw w.free-is (
            omega arith,
            omega arith,
            later,
            c.loop-place.invariant.3 ∙ found-later (is_free c.args.tally.now) 256 c.loop-place.place h c.loop-place.free (omega arith) (rw (← c.is_free.ensures) w.if-free-is_free.false),
          )
    ]

pub returns-clause-value : goal.returns-clause-value
returns-clause-value c = let e : c.loop-place.place ≡ 256 = omega arith in
    let of = rw e at c.loop-place.invariant.2 in
    let free = rw e at c.loop-place.invariant.3 in
    sym (place-free c.args.tally.now c.args.addr (of ∙ first-behind (is_of c.args.tally.now c.args.addr) 256) ∙ free ∙ found-behind (is_free c.args.tally.now) 256 c.loop-place.free (omega arith))
