-- `calls::go_on` meets its contract.
use native.Mathlib.Omega.{arith}
use Rattle.rows.proofs.replay.GoingOn.{record-lent, gone_one, gone-more, built-behind}
use Rattle.rows.proofs.replay.calls.go_on.Goals as goal

pub returns-then-done-tracer : goal.returns-then-done-tracer
returns-then-done-tracer c = let e = record-lent c.args.records.now c.args.k in
    gone_one _ c.args.records.now c.args.k _ _ c.args.write c.args.fragment.now _ c.requires (rw e at c.call-done.ensures.value) (rw e at c.call-done.ensures.fragment_after)

pub follow-requires : goal.follow-requires
follow-requires c = let e = record-lent c.args.records.now c.args.k in
    record { k_nonzero = (omega arith, omega (arith, c.requires)); built_before = built-behind _ _ c.args.tracer c.args.records.now c.args.k (rw e at c.call-done.ensures.value) c.if-done-tracer.false }

pub returns : goal.returns
returns c = let e = record-lent c.args.records.now c.args.k in
    gone-more _ c.args.records.now c.args.k _ _ c.args.write c.args.fragment.now _ _ c.follow.result (rw e at c.call-done.ensures.value) (rw e at c.call-done.ensures.fragment_after) (rw c.fragment-1.given at c.follow.ensures)
