-- `pairs::follow` meets its contract.
use mathlib.Core.Path.{refl}
use lib.ListN.{length}
use Rattle.rows.specs.records.Lent.{lent_forest}
use Rattle.rows.specs.replay.Calls.{forest_of}
use Rattle.rows.specs.ways.Inner.{lent_setting}
use Rattle.rows.proofs.replay.Stretches.{sound, none-followed, stayed, goes_on, behind-two}
use Rattle.rows.proofs.replay.pairs.follow.Goals as goal

pub returns-then-scan-wrong : goal.returns-then-scan-wrong
returns-then-scan-wrong c = none-followed _ c.args.records.now c.args.write c.args.k c.args.tracer c.args.fragment.now 0 c.requires.k_nonzero.1

pub returns-then-w-k : goal.returns-then-w-k
unfolding forest_of
returns-then-w-k c =
    let of = sound (lent_setting c.args.setting.now (length c.args.fragment.now)) c.args.records.now c.args.write c.args.k c.args.tracer c.args.fragment.now c.item_or-number.result (lent_forest c.part-forest.result)
    (rw (c.part-forest.ensures, c.directory_entry.ensures)) c.requires.k_nonzero.0 c.requires.k_nonzero.1 (rw c.fragment_wrong-wrong.ensures at c.if-scan-wrong.false) refl in
    stayed _ _ _ _ _ _ _ _ of c.requires.built_before c.walk_pairs-w.result _ c.walk_pairs-w.ensures c.if-w-k.true

pub tracer_at-requires : goal.tracer_at-requires
unfolding forest_of
tracer_at-requires c =
    let of = sound (lent_setting c.args.setting.now (length c.args.fragment.now)) c.args.records.now c.args.write c.args.k c.args.tracer c.args.fragment.now c.item_or-number.result (lent_forest c.part-forest.result)
    (rw (c.part-forest.ensures, c.directory_entry.ensures)) c.requires.k_nonzero.0 c.requires.k_nonzero.1 (rw c.fragment_wrong-wrong.ensures at c.if-scan-wrong.false) refl in
    behind-two _ _ _ _ _ _ _ _ of c.requires.built_before c.walk_pairs-w.result _ c.walk_pairs-w.ensures c.if-w-k.false

pub returns : goal.returns
unfolding forest_of
returns c =
    let of = sound (lent_setting c.args.setting.now (length c.args.fragment.now)) c.args.records.now c.args.write c.args.k c.args.tracer c.args.fragment.now c.item_or-number.result (lent_forest c.part-forest.result)
    (rw (c.part-forest.ensures, c.directory_entry.ensures)) c.requires.k_nonzero.0 c.requires.k_nonzero.1 (rw c.fragment_wrong-wrong.ensures at c.if-scan-wrong.false) refl in
    goes_on _ _ _ _ _ _ _ _ of c.requires.built_before c.walk_pairs-w.result _ c.walk_pairs-w.ensures c.tracer_at.result c.if-w-k.false c.tracer_at.ensures
