-- `read_rows::after_changes` meets its contract. The loop's invariant: the values of the first columns are read.
use mathlib.Core.Path.{sym}
use native.Mathlib.Numerals.{add-one}
use Rattle.dump.proofs.RowLaws.{row-none, row-end, line-more, line-stop}
use Rattle.dump.proofs.read_rows.after_changes.Goals as goal

pub loop-line-init : goal.loop-line-init
loop-line-init c = row-none c.args.text.now c.args.row.now c.told-row

pub returns-in_err-rest : goal.returns-in_err-rest
returns-in_err-rest c = rw c.from_residual.ensures
    (line-stop c.args.text.now c.args.row.now c.loop-line.row c.loop-line.column c.loop-line.rest.now c.loop-line.invariant c.in-Some.line.column c.in-Some.line.value c.in-Some.line.count c.in-Some.ensures c.in_err-rest.ensures)

pub loop-line-preserved : goal.loop-line-preserved
loop-line-preserved c = rw add-one
    (line-more c.args.text.now c.args.row.now c.loop-line.row c.loop-line.column c.loop-line.rest.now c.loop-line.invariant c.in-Some.line.column c.in-Some.line.value c.in-Some.line.count c.in-Some.ensures c.in_ok-rest.rest.now c.in_ok-rest.ensures)

pub returns : goal.returns
returns c = sym (row-end c.args.text.now c.args.row.now c.loop-line.row c.loop-line.column c.loop-line.rest.now c.loop-line.invariant c.in_default.ensures c.told-row)
