-- `grammar::block` and `grammar::passes` meet their contracts: the rows left fall from call to call.
use mathlib.Core.Path.{refl, ap}
use native.Mathlib.Omega.{arith}
use borrow.Author.Rules.{rules}
use borrow.Enum.Refused.{opened}
use Rattle.std.proofs.lemmas.Result.{err_from_is_err_and}
use Rattle.reader.specs.ways.Parts.{told_part, Ahead}
use Rattle.reader.specs.declared.token.RowKind.TheVariants.{Span, Join, One, Loop, Repeat, End}
use Rattle.reader.proofs.RowTokens.{rows_in, Stands, stands}
use Rattle.reader.proofs.PartLaws.{told-or, ahead-done, ahead-from, deep-ahead, closed-ahead, at_left, block-deep, block_no, block-span, one-refused, one-closed, first-refused, second-refused, join-closed, block-loop, from-none, body_refused, pass-last, pass-more, pass-no}
use Rattle.reader.proofs.grammar.+block_passes.Goals as goal

pub block-note_kind-kind-requires : goal.block-note_kind-kind-requires
block-note_kind-kind-requires t c = c.requires.1

pub block-returns-then-left-eq0 : goal.block-returns-then-left-eq0
block-returns-then-left-eq0 t c = record {
  block_read = record {
    ahead = rw c.too_deep.ensures (deep-ahead c.note_kind-kind.result _ _ _);
    right = rw (c.too_deep.ensures, c.note_kind-kind.ensures.value) (block-deep _ _ _ _ _ c.if-left-eq0.true (omega (arith, rows_in c.args.lent.now.profile c.args.lent.now.cells.now)));
  };
  kept_kinds = c.note_kind-kind.ensures.kept_kinds;
}

pub block-overflow_add-row : goal.block-overflow_add-row
block-overflow_add-row t c =
    let span-row : Stands c.args.lent.now.profile c.args.lent.now.cells.now c.args.row Span = stands _ _ _ _ Span c.note_kind-kind.ensures.value c.in-Span.is tt in
    omega (arith, (span-row).inside)

pub block-ops-requires : goal.block-ops-requires
block-ops-requires t c =
    let span-row : Stands c.args.lent.now.profile c.args.lent.now.cells.now c.args.row Span = stands _ _ _ _ Span c.note_kind-kind.ensures.value c.in-Span.is tt in
    (omega (arith, (span-row).inside), c.note_kind-kind.ensures.kept_kinds)

pub block-overflow_add-row-in-Join : goal.block-overflow_add-row-in-Join
block-overflow_add-row-in-Join t c =
    let join-row : Stands c.args.lent.now.profile c.args.lent.now.cells.now c.args.row Join = stands _ _ _ _ Join c.note_kind-kind.ensures.value c.in-Join.is tt in
    omega (arith, (join-row).inside)

pub block-block-requires : goal.block-block-requires
block-block-requires t c =
    let join-row : Stands c.args.lent.now.profile c.args.lent.now.cells.now c.args.row Join = stands _ _ _ _ Join c.note_kind-kind.ensures.value c.in-Join.is tt in
    let h = (join-row).inside in (omega arith, (omega arith, c.note_kind-kind.ensures.kept_kinds))

pub block-returns-in_err-a-in-Join : goal.block-returns-in_err-a-in-Join
block-returns-in_err-a-in-Join t c =
    let p = err_from_is_err_and c.from_residual.result c.from_residual.ensures.1 in
    let join-row : Stands c.args.lent.now.profile c.args.lent.now.cells.now c.args.row Join = stands _ _ _ _ Join c.note_kind-kind.ensures.value c.in-Join.is tt in
    let h = join-row in rw (p.1, p.2) (record {
      block_read = record {
        ahead = ahead-from _ _ _ _ (omega arith) c.in_err-a-in-Join.ensures.block_read.ahead;
        right = at_left _ _ _ _ _ _ (omega (arith, c.if-left-eq0.false)) (first-refused _ _ _ _ _ h.below h.token _ c.in_err-a-in-Join.ensures.block_read.right _ _ refl);
      };
      kept_kinds = c.block.ensures.kept_kinds;
    })

pub block-block-requires-in-Join : goal.block-block-requires-in-Join
block-block-requires-in-Join t c =
    let join-row : Stands c.args.lent.now.profile c.args.lent.now.cells.now c.args.row Join = stands _ _ _ _ Join c.note_kind-kind.ensures.value c.in-Join.is tt in
    let i = (join-row).inside in
    let h = ahead-done _ _ _ _ _ (ap told_part c.in_ok-a-in-Join.was) c.block.ensures.block_read.ahead in
    let n = rows_in c.args.lent.now.profile c.args.lent.now.cells.now in
    (omega arith, (omega arith, c.block.ensures.kept_kinds))

pub block-returns-in_err-b-in-Join : goal.block-returns-in_err-b-in-Join
block-returns-in_err-b-in-Join t c =
    let p = err_from_is_err_and c.from_residual-in_err-b-in-Join.result c.from_residual-in_err-b-in-Join.ensures.1 in
    let join-row : Stands c.args.lent.now.profile c.args.lent.now.cells.now c.args.row Join = stands _ _ _ _ Join c.note_kind-kind.ensures.value c.in-Join.is tt in
    let h = join-row in
    let l = ahead-done _ _ _ _ _ (ap told_part c.in_ok-a-in-Join.was) c.block.ensures.block_read.ahead in rw (p.1, p.2) (record {
      block_read = record {
        ahead = ahead-from _ _ _ _ (omega arith) c.in_err-b-in-Join.ensures.block_read.ahead;
        right =
            at_left _ _ _ _ _ _ (omega (arith, c.if-left-eq0.false))
            (second-refused _ _ _ _ _ h.below h.token _ c.block.ensures.block_read.right _ _ (ap told_part c.in_ok-a-in-Join.was) _ c.in_err-b-in-Join.ensures.block_read.right _ _ refl);
      };
      kept_kinds = c.block-in-Join.ensures.kept_kinds;
    })

pub block-close-requires : goal.block-close-requires
block-close-requires t c = c.block-in-Join.ensures.kept_kinds

pub block-overflow_add-row-in-One : goal.block-overflow_add-row-in-One
block-overflow_add-row-in-One t c =
    let one-row : Stands c.args.lent.now.profile c.args.lent.now.cells.now c.args.row One = stands _ _ _ _ One c.note_kind-kind.ensures.value c.in-One.is tt in
    omega (arith, (one-row).inside)

pub block-block-requires-in-One : goal.block-block-requires-in-One
block-block-requires-in-One t c =
    let one-row : Stands c.args.lent.now.profile c.args.lent.now.cells.now c.args.row One = stands _ _ _ _ One c.note_kind-kind.ensures.value c.in-One.is tt in
    let h = (one-row).inside in (omega arith, (omega arith, c.note_kind-kind.ensures.kept_kinds))

pub block-returns-in_err-a-in-One : goal.block-returns-in_err-a-in-One
block-returns-in_err-a-in-One t c =
    let p = err_from_is_err_and c.from_residual-in_err-a-in-One.result c.from_residual-in_err-a-in-One.ensures.1 in
    let one-row : Stands c.args.lent.now.profile c.args.lent.now.cells.now c.args.row One = stands _ _ _ _ One c.note_kind-kind.ensures.value c.in-One.is tt in
    let h = one-row in rw (p.1, p.2) (record {
      block_read = record {
        ahead = ahead-from _ _ _ _ (omega arith) c.in_err-a-in-One.ensures.block_read.ahead;
        right = at_left _ _ _ _ _ _ (omega (arith, c.if-left-eq0.false)) (one-refused _ _ _ _ _ h.below _ h.token.1 _ c.in_err-a-in-One.ensures.block_read.right _ _ refl);
      };
      kept_kinds = c.block-in-One.ensures.kept_kinds;
    })

pub block-close-requires-in-One : goal.block-close-requires-in-One
block-close-requires-in-One t c = c.block-in-One.ensures.kept_kinds

pub block-passes-requires : goal.block-passes-requires
block-passes-requires t c =
    let loop-row : Stands c.args.lent.now.profile c.args.lent.now.cells.now c.args.row Loop = stands _ _ _ _ Loop c.note_kind-kind.ensures.value c.in-Loop.is tt in
    let h = (loop-row).inside in (omega arith, (h, c.note_kind-kind.ensures.kept_kinds))

pub block-returns-in-Span : goal.block-returns-in-Span
block-returns-in-Span t c =
    let span-row : Stands c.args.lent.now.profile c.args.lent.now.cells.now c.args.row Span = stands _ _ _ _ Span c.note_kind-kind.ensures.value c.in-Span.is tt in
    let h = span-row in record {
      block_read = record {
        ahead = ahead-from _ _ _ _ (omega arith) c.ops.ensures.ops_read.ahead;
        right = at_left _ _ _ _ _ _ (omega (arith, c.if-left-eq0.false)) (block-span _ _ _ _ _ h.below h.token _ c.ops.ensures.ops_read.right);
      };
      kept_kinds = c.ops.ensures.kept_kinds;
    }

pub block-shape_of-kinds-in_ok-b-in-Join : goal.block-shape_of-kinds-in_ok-b-in-Join
block-shape_of-kinds-in_ok-b-in-Join t c = search (rules, c, c) depth 9

pub block-returns-in_ok-b-in-Join : goal.block-returns-in_ok-b-in-Join
block-returns-in_ok-b-in-Join t c =
    let join-row : Stands c.args.lent.now.profile c.args.lent.now.cells.now c.args.row Join = stands _ _ _ _ Join c.note_kind-kind.ensures.value c.in-Join.is tt in
    let h = join-row in
    let l = ahead-done _ _ _ _ _ (ap told_part c.in_ok-a-in-Join.was) c.block.ensures.block_read.ahead in
    let m = ahead-done _ _ _ _ _ (ap told_part c.in_ok-b-in-Join.was) c.block-in-Join.ensures.block_read.ahead in record {
      block_read = record {
        ahead = ahead-from _ _ _ _ (omega arith) (closed-ahead _ _ _ _ _ _ c.close.ensures.result_value);
        right =
            at_left _ _ _ _ _ _ (omega (arith, c.if-left-eq0.false))
            (rw (c.close.ensures.result_value, told-or c.or.result c.in_ok-a-in-Join.v c.in_ok-b-in-Join.w c.or.ensures)
            (join-closed _ _ _ _ _ h.below h.token _ c.block.ensures.block_read.right _ _ (ap told_part c.in_ok-a-in-Join.was) _ c.block-in-Join.ensures.block_read.right _ _ (ap told_part c.in_ok-b-in-Join.was) m.1));
      };
      kept_kinds = c.close.ensures.kept_kinds;
    }

pub block-returns-in_ok-a-in-One : goal.block-returns-in_ok-a-in-One
block-returns-in_ok-a-in-One t c =
    let one-row : Stands c.args.lent.now.profile c.args.lent.now.cells.now c.args.row One = stands _ _ _ _ One c.note_kind-kind.ensures.value c.in-One.is tt in
    let h = one-row in
    let l = ahead-done _ _ _ _ _ (ap told_part c.in_ok-a-in-One.was) c.block-in-One.ensures.block_read.ahead in record {
      block_read = record {
        ahead = ahead-from _ _ _ _ (omega arith) (closed-ahead _ _ _ _ _ _ c.close-in-One.ensures.result_value);
        right =
            at_left _ _ _ _ _ _ (omega (arith, c.if-left-eq0.false))
            (rw c.close-in-One.ensures.result_value (one-closed _ _ _ _ _ h.below _ h.token.1 _ c.block-in-One.ensures.block_read.right _ _ (ap told_part c.in_ok-a-in-One.was) l.1));
      };
      kept_kinds = c.close-in-One.ensures.kept_kinds;
    }

pub block-returns-in-Loop : goal.block-returns-in-Loop
block-returns-in-Loop t c =
    let loop-row : Stands c.args.lent.now.profile c.args.lent.now.cells.now c.args.row Loop = stands _ _ _ _ Loop c.note_kind-kind.ensures.value c.in-Loop.is tt in
    let h = loop-row in record {
      block_read = record {
        ahead = c.passes.ensures.passes_read.ahead;
        right = at_left _ _ _ _ _ _ (omega (arith, c.if-left-eq0.false)) (block-loop _ _ _ _ _ h.below h.token _ c.passes.ensures.passes_read.right);
      };
      kept_kinds = c.passes.ensures.kept_kinds;
    }

pub block-returns-in-Op : goal.block-returns-in-Op
unfolding Ahead
block-returns-in-Op t c = rw c.no_word.ensures (record {
  block_read = record {
    ahead = tt;
    right = block_no _ _ _ _ _ (rw c.note_kind-kind.ensures.value at (opened c.in-Op.in-Op-own.keys5)) (omega (arith, rows_in c.args.lent.now.profile c.args.lent.now.cells.now));
  };
  kept_kinds = c.note_kind-kind.ensures.kept_kinds;
})

pub passes-loop-next-init : goal.passes-loop-next-init
passes-loop-next-init t c = (refl, c.requires.1, omega arith, omega arith, omega arith, omega arith, λ r k. k)

pub passes-block-requires : goal.passes-block-requires
passes-block-requires t c = (omega arith, (omega arith, c.loop-next.invariant.1))

pub passes-returns-in_err-next : goal.passes-returns-in_err-next
passes-returns-in_err-next t c =
    let p = err_from_is_err_and c.from_residual.result c.from_residual.ensures.1 in rw (p.1, p.2) (record {
      passes_read = record {
        ahead = ahead-from _ _ _ _ (omega arith) c.in_err-next.ensures.block_read.ahead;
        right = from-none _ _ _ _ _ _ (c.loop-next.invariant.6 _ (body_refused _ _ _ _ _ _ _ _ _ c.in_err-next.ensures.block_read.right _ _ refl));
      };
      kept_kinds = c.block.ensures.kept_kinds;
    })

pub passes-note_kind-kind-requires : goal.passes-note_kind-kind-requires
passes-note_kind-kind-requires t c = c.block.ensures.kept_kinds

pub passes-overflow_add-at-in-Repeat : goal.passes-overflow_add-at-in-Repeat
passes-overflow_add-at-in-Repeat t c = let l = ahead-done _ _ _ _ _ (ap told_part c.in_ok-next.was) c.block.ensures.block_read.ahead in
    let h = stands _ _ _ _ Repeat c.note_kind-kind.ensures.value c.in-Repeat.is tt in
    let i = h.inside in
    omega arith

pub passes-overflow_add-count : goal.passes-overflow_add-count
passes-overflow_add-count t c = omega arith

pub passes-loop-next-smaller : goal.passes-loop-next-smaller
passes-loop-next-smaller t c = let l = ahead-done _ _ _ _ _ (ap told_part c.in_ok-next.was) c.block.ensures.block_read.ahead in
    let h = stands _ _ _ _ Repeat c.note_kind-kind.ensures.value c.in-Repeat.is tt in
    let i = h.inside in
    omega arith

pub passes-loop-next-preserved : goal.passes-loop-next-preserved
passes-loop-next-preserved t c = let l = ahead-done _ _ _ _ _ (ap told_part c.in_ok-next.was) c.block.ensures.block_read.ahead in
    let h = stands _ _ _ _ Repeat c.note_kind-kind.ensures.value c.in-Repeat.is tt in
    let i = h.inside in (
      search rules,
      c.note_kind-kind.ensures.kept_kinds,
      omega arith,
      omega arith,
      omega arith,
      omega arith,
      λ r k. c.loop-next.invariant.6 r (pass-more _ _ _ _ _ _ _ _ _ c.block.ensures.block_read.right _ _ (ap told_part c.in_ok-next.was) _ (omega arith) h.token h.below r (rw (told-or c.or-so_far.result c.loop-next.so_far c.in_ok-next.wrong c.or-so_far.ensures) at k)),
    )

pub passes-ask-own-requires : goal.passes-ask-own-requires
passes-ask-own-requires t c = ((stands _ _ _ _ End c.note_kind-kind.ensures.value c.in-End.is tt).inside, omega arith)

pub passes-overflow_add-result : goal.passes-overflow_add-result
passes-overflow_add-result t c = let l = ahead-done _ _ _ _ _ (ap told_part c.in_ok-next.was) c.block.ensures.block_read.ahead in
    let h = stands _ _ _ _ End c.note_kind-kind.ensures.value c.in-End.is tt in
    let i = h.inside in
    omega (arith, i, c)

pub passes-returns-in-End : goal.passes-returns-in-End
unfolding Ahead
passes-returns-in-End t c = let l = ahead-done _ _ _ _ _ (ap told_part c.in_ok-next.was) c.block.ensures.block_read.ahead in
    let h = stands _ _ _ _ End c.note_kind-kind.ensures.value c.in-End.is tt in
    let i = h.inside in record {
      passes_read = record {
        ahead = (omega arith, omega (arith, h.below));
        right =
            rw (told-or c.or-in-End.result c.ask-counted.result c.or.result c.or-in-End.ensures, told-or c.or.result c.or-so_far.result c.ask-own.result c.or.ensures, c.ask-own.ensures, c.ask-counted.ensures, told-or c.or-so_far.result c.loop-next.so_far c.in_ok-next.wrong c.or-so_far.ensures)
            (from-none _ _ _ _ _ _ (c.loop-next.invariant.6 _ (pass-last _ _ _ _ _ _ _ _ _ c.block.ensures.block_read.right _ _ (ap told_part c.in_ok-next.was) _ (omega arith) h.token h.below)));
      };
      kept_kinds = c.note_kind-kind.ensures.kept_kinds;
    }

pub passes-returns-in-Span : goal.passes-returns-in-Span
unfolding Ahead
passes-returns-in-Span t c = let l = ahead-done _ _ _ _ _ (ap told_part c.in_ok-next.was) c.block.ensures.block_read.ahead in rw c.no_word.ensures (record {
  passes_read = record {
    ahead = tt;
    right =
        from-none _ _ _ _ _ _
        (c.loop-next.invariant.6 _ (pass-no _ _ _ _ _ _ _ _ _ c.block.ensures.block_read.right _ _ (ap told_part c.in_ok-next.was) (rw c.note_kind-kind.ensures.value at (opened c.in-Span.in-Span-own.keys3)) l.1));
  };
  kept_kinds = c.note_kind-kind.ensures.kept_kinds;
})
