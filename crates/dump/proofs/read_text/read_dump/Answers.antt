-- `read_text::read_dump` meets its contract.
use mathlib.Core.Path.{sym, ◌∙◌}
use native.Mathlib.Omega.{arith}
use lib.ListN.{length}
use Rattle.groups.specs.Answer.{accepted, refused}
use Rattle.dump.specs.ways.Undumping.{rows_read, cells_after}
use Rattle.dump.specs.ways.Reading.{rows_behind, the_rows}
use Rattle.dump.proofs.UndumpLaws.{wrong-buffer, no_header, no_rows, too_short, read_all, rows_long, may-store}
use Rattle.dump.proofs.Waveforms.{right-as}
use Rattle.dump.proofs.read_text.read_dump.Goals as goal

pub returns-then-buffer_wrong : goal.returns-then-buffer_wrong
unfolding cells_after rows_read
returns-then-buffer_wrong c = right-as c.args.text.now c.args.cells.now (refused 11) (wrong-buffer c.args.text.now (length c.args.cells.now) (sym c.buffer_wrong.ensures ∙ c.if-buffer_wrong.true))

pub returns-in_default : goal.returns-in_default
unfolding cells_after rows_read
returns-in_default c = right-as c.args.text.now c.args.cells.now (refused 29) (no_header c.args.text.now (length c.args.cells.now) (sym c.buffer_wrong.ensures ∙ c.if-buffer_wrong.false) (sym c.in_default.ensures))

pub returns-in_default-good_rows : goal.returns-in_default-good_rows
unfolding cells_after rows_read
returns-in_default-good_rows c = right-as c.args.text.now c.args.cells.now (refused 29)
    (no_rows c.args.text.now (length c.args.cells.now) (sym c.buffer_wrong.ensures ∙ c.if-buffer_wrong.false) c.in-Some.lines.now (sym c.in-Some.ensures) (sym c.in_default-good_rows.ensures))

pub returns-then-cells-rows : goal.returns-then-cells-rows
unfolding cells_after rows_read
returns-then-cells-rows c = right-as c.args.text.now c.args.cells.now (refused 11)
    (too_short c.args.text.now (length c.args.cells.now) (sym c.buffer_wrong.ensures ∙ c.if-buffer_wrong.false) c.in-Some.lines.now (sym c.in-Some.ensures) c.in-Some-good_rows.rows (sym c.in-Some-good_rows.ensures) (omega arith))

pub store_rows-requires : goal.store_rows-requires
store_rows-requires c = may-store c.args.text.now (length c.args.cells.now) (sym c.buffer_wrong.ensures ∙ c.if-buffer_wrong.false) c.in-Some.lines.now (sym c.in-Some.ensures) c.in-Some-good_rows.rows (sym c.in-Some-good_rows.ensures) (omega arith)

pub returns : goal.returns
unfolding cells_after rows_read
returns c = let e = read_all c.args.text.now (length c.args.cells.now) (sym c.buffer_wrong.ensures ∙ c.if-buffer_wrong.false) c.in-Some.lines.now (sym c.in-Some.ensures) c.in-Some-good_rows.rows (sym c.in-Some-good_rows.ensures) (omega arith) in
    let l = rows_long c.args.text.now (length c.args.cells.now) (sym c.buffer_wrong.ensures ∙ c.if-buffer_wrong.false) c.in-Some.lines.now (sym c.in-Some.ensures) c.in-Some-good_rows.rows (sym c.in-Some-good_rows.ensures) in
    let answer = right-as c.args.text.now c.args.cells.now (accepted (the_rows (rows_behind c.in-Some.lines.now))) e in
    rw (c.store_rows.ensures, ← l) answer
