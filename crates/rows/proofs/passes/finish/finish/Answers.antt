-- `finish::finish` meets its contract: the checks, pass 2 with 14, and then the other passes.
use mathlib.Core.Path.{◌≡◌, refl, sym, ap, ◌∙◌}
use mathlib.Core.Bool.{Bool, true, false}
use Prim.Native.Nat.{ℕ}
use native.Mathlib.Omega.{arith}
use Rattle.groups.specs.Answer.{pick, first_of}
use Rattle.rows.specs.records.Buffers.{rows_of}
use Rattle.rows.specs.passes.Passes.{refusal_all, loop_without_body, sum_of}
use Rattle.rows.specs.ways.Finisher.{other_passes}
use Rattle.rows.proofs.passes.Finishing.{sum-held, ready-for}
use Rattle.rows.proofs.passes.PassOrder.{second-first}
use Rattle.rows.proofs.passes.finish.finish.Goals as goal

with-bodies : (without : Bool) → pick {A = ℕ} without 14 0 ≡ 0 → without ≡ false
with-bodies true e = absurd (omega arith)
with-bodies false e = refl

pub write_multiplicities-requires : goal.write_multiplicities-requires
write_multiplicities-requires c = let fits = sum-held _ _ _ _ (c.in_ok-rows.ensures.1).fragments in
    (omega (arith, c.in_ok-rows.ensures.0, fits.in_buffer), omega (arith, c.in_ok-rows.ensures.0, fits.few))

pub returns-clause-buffer_after : goal.returns-clause-buffer_after
unfolding first_of refusal_all
returns-clause-buffer_after c =
    let h = c.in_ok-rows.ensures.1 in
    let w = rw c.in_ok-rows.ensures.0 at c.in_ok-write_multiplicities.ensures in
    let bodies : loop_without_body c.args.profile (rows_of (sum_of c.args.fragments.now.counts.now) c.args.buffer.now) ≡ false = with-bodies _ (sym w.value) in
    let fits = sum-held _ _ _ _ h.fragments in
    let f = ready-for _ _ _ _ _ _ c.in_ok-rows.ensures.0 (h.fragments, h.height_right) (h.fragment, h.full) in
    rw (h.profile_right, h.fragments, h.height_right, h.fragment, h.full, bodies)
    (c.finish_rows.ensures
    ∙ ap (other_passes c.args.profile c.args.fragments.now.size c.args.fragments.now.counts.now c.args.fragments.now.built.now c.args.first_stack_top c.args.height) (rw bodies at w.buffer_after)
    ∙ second-first c.args.profile c.args.fragments.now.size c.args.fragments.now.counts.now c.args.fragments.now.built.now c.args.first_stack_top c.args.height c.args.buffer.now fits.in_buffer f.in_built)
