-- `grammar::ops` meets its contract: what is right from a row on is right from the first.
use mathlib.Core.Path.{refl}
use Prim.Native.Nat.{◌<◌, ◌/◌}
use native.Mathlib.Omega.{arith}
use borrow.Author.Rules.{rules}
use lib.ListN.{length}
use Rattle.reader.specs.Rows.{word_in}
use Rattle.reader.specs.ways.Parts.{Ahead}
use Rattle.reader.specs.declared.token.RowKind.TheVariants.{End}
use Rattle.reader.proofs.RowTokens.{rows_in, row_inside, stands, op-something}
use Rattle.reader.proofs.PartLaws.{ops-more, ops-end, ops-no}
use borrow.Enum.Refused.{opened}
use Rattle.reader.proofs.grammar.ops.Goals as goal

pub loop-at-init : goal.loop-at-init
loop-at-init c = (refl, c.requires.1, omega arith, search rules, λ r k. k)

pub overflow_add-at : goal.overflow_add-at
overflow_add-at c = let op_row : c.loop-at.at < length c.args.lent.now.cells.now / 49 = omega (arith, rows_in c.args.lent.now.profile c.args.lent.now.cells.now, row_inside (word_in c.args.lent.now.profile c.args.lent.now.cells.now) c.loop-at.at c.note_kind-kind.result c.note_kind-kind.ensures.value (op-something c.note_kind-kind.result c.in-Op.in-Op-own.keys1)) in let h = op_row in omega arith

pub loop-at-smaller : goal.loop-at-smaller
loop-at-smaller c = let op_row : c.loop-at.at < length c.args.lent.now.cells.now / 49 = omega (arith, rows_in c.args.lent.now.profile c.args.lent.now.cells.now, row_inside (word_in c.args.lent.now.profile c.args.lent.now.cells.now) c.loop-at.at c.note_kind-kind.result c.note_kind-kind.ensures.value (op-something c.note_kind-kind.result c.in-Op.in-Op-own.keys1)) in let h = op_row in omega arith

pub loop-at-preserved : goal.loop-at-preserved
loop-at-preserved c = let op_row : c.loop-at.at < length c.args.lent.now.cells.now / 49 = omega (arith, rows_in c.args.lent.now.profile c.args.lent.now.cells.now, row_inside (word_in c.args.lent.now.profile c.args.lent.now.cells.now) c.loop-at.at c.note_kind-kind.result c.note_kind-kind.ensures.value (op-something c.note_kind-kind.result c.in-Op.in-Op-own.keys1)) in let h = op_row in
    (search rules, c.note_kind-kind.ensures.kept_kinds, omega arith, omega arith, λ r k. c.loop-at.invariant.4 r (ops-more _ _ _ _ (rw c.note_kind-kind.ensures.value at c.in-Op.in-Op-own.keys1) (omega (arith, rows_in c.args.lent.now.profile c.args.lent.now.cells.now)) r k))

pub ask-own-requires : goal.ask-own-requires
ask-own-requires c = let h = stands _ _ _ _ End c.note_kind-kind.ensures.value c.in-End.is tt in
    (h.inside, omega arith)

pub overflow_add-result : goal.overflow_add-result
overflow_add-result c = let h = stands _ _ _ _ End c.note_kind-kind.ensures.value c.in-End.is tt in
    omega (arith, h.inside)

pub returns-in-End : goal.returns-in-End
unfolding Ahead
returns-in-End c = let h = stands _ _ _ _ End c.note_kind-kind.ensures.value c.in-End.is tt in record {
  ops_read = record {
    ahead = (omega arith, omega (arith, h.below));
    right = rw c.ask-own.ensures (c.loop-at.invariant.4 _ (ops-end _ _ _ _ h.token h.below));
  };
  kept_kinds = c.note_kind-kind.ensures.kept_kinds;
}

pub returns-in-Span : goal.returns-in-Span
unfolding Ahead
returns-in-Span c = rw c.no_word.ensures (record {
  ops_read = record {
    ahead = tt;
    right = c.loop-at.invariant.4 _ (ops-no _ _ _ _ (rw c.note_kind-kind.ensures.value at (opened c.in-Span.in-Span-own.keys3)) (omega (arith, rows_in c.args.lent.now.profile c.args.lent.now.cells.now)));
  };
  kept_kinds = c.note_kind-kind.ensures.kept_kinds;
})
