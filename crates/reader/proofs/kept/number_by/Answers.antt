-- `kept::number_by` meets its contract: the bits spell a code, whose kind the table has.
use native.Mathlib.Omega.{arith}
use borrow.Author.Rules.{rules}
use Rattle.reader.proofs.KindLaws.{RowBits, row-bits, told-by-table, told_none}
use Rattle.reader.proofs.kept.number_by.Goals as goal

pub returns-then-cells-row : goal.returns-then-cells-row
returns-then-cells-row c = told_none _ _ _

pub overflow_mul-code : goal.overflow_mul-code
overflow_mul-code c =
    let bits : RowBits c.args.cells.now c.args.row = row-bits c.args.cells.now c.args.row c.if-a-b.true in
    omega (arith, bits)

pub overflow_add-code : goal.overflow_add-code
overflow_add-code c =
    let bits : RowBits c.args.cells.now c.args.row = row-bits c.args.cells.now c.args.row c.if-a-b.true in
    omega (arith, bits)

pub overflow_mul-code-then-a-b : goal.overflow_mul-code-then-a-b
overflow_mul-code-then-a-b c =
    let bits : RowBits c.args.cells.now c.args.row = row-bits c.args.cells.now c.args.row c.if-a-b.true in
    omega (arith, bits)

pub overflow_add-code-then-a-b : goal.overflow_add-code-then-a-b
overflow_add-code-then-a-b c =
    let bits : RowBits c.args.cells.now c.args.row = row-bits c.args.cells.now c.args.row c.if-a-b.true in
    omega (arith, bits)

pub overflow_mul-code-then-a-b-2 : goal.overflow_mul-code-then-a-b-2
overflow_mul-code-then-a-b-2 c =
    let bits : RowBits c.args.cells.now c.args.row = row-bits c.args.cells.now c.args.row c.if-a-b.true in
    omega (arith, bits)

pub overflow_add-code-then-a-b-2 : goal.overflow_add-code-then-a-b-2
overflow_add-code-then-a-b-2 c =
    let bits : RowBits c.args.cells.now c.args.row = row-bits c.args.cells.now c.args.row c.if-a-b.true in
    omega (arith, bits)

pub overflow_mul-code-then-a-b-3 : goal.overflow_mul-code-then-a-b-3
overflow_mul-code-then-a-b-3 c =
    let bits : RowBits c.args.cells.now c.args.row = row-bits c.args.cells.now c.args.row c.if-a-b.true in
    omega (arith, bits)

pub overflow_add-code-then-a-b-3 : goal.overflow_add-code-then-a-b-3
overflow_add-code-then-a-b-3 c =
    let bits : RowBits c.args.cells.now c.args.row = row-bits c.args.cells.now c.args.row c.if-a-b.true in
    omega (arith, bits)

pub overflow_mul-code-then-a-b-4 : goal.overflow_mul-code-then-a-b-4
overflow_mul-code-then-a-b-4 c =
    let bits : RowBits c.args.cells.now c.args.row = row-bits c.args.cells.now c.args.row c.if-a-b.true in
    omega (arith, bits)

pub overflow_add-code-then-a-b-4 : goal.overflow_add-code-then-a-b-4
overflow_add-code-then-a-b-4 c =
    let bits : RowBits c.args.cells.now c.args.row = row-bits c.args.cells.now c.args.row c.if-a-b.true in
    omega (arith, bits)

pub overflow_mul-code-then-a-b-5 : goal.overflow_mul-code-then-a-b-5
overflow_mul-code-then-a-b-5 c =
    let bits : RowBits c.args.cells.now c.args.row = row-bits c.args.cells.now c.args.row c.if-a-b.true in
    omega (arith, bits)

pub overflow_add-code-then-a-b-5 : goal.overflow_add-code-then-a-b-5
overflow_add-code-then-a-b-5 c =
    let bits : RowBits c.args.cells.now c.args.row = row-bits c.args.cells.now c.args.row c.if-a-b.true in
    omega (arith, bits)

pub overflow_mul-code-then-a-b-6 : goal.overflow_mul-code-then-a-b-6
overflow_mul-code-then-a-b-6 c =
    let bits : RowBits c.args.cells.now c.args.row = row-bits c.args.cells.now c.args.row c.if-a-b.true in
    omega (arith, bits)

pub overflow_add-code-then-a-b-6 : goal.overflow_add-code-then-a-b-6
overflow_add-code-then-a-b-6 c =
    let bits : RowBits c.args.cells.now c.args.row = row-bits c.args.cells.now c.args.row c.if-a-b.true in
    omega (arith, bits)

pub bounds-table-code : goal.bounds-table-code
bounds-table-code c =
    let bits : RowBits c.args.cells.now c.args.row = row-bits c.args.cells.now c.args.row c.if-a-b.true in
    omega (arith, bits)

pub returns-then-a-b : goal.returns-then-a-b
returns-then-a-b c =
    let bits : RowBits c.args.cells.now c.args.row = row-bits c.args.cells.now c.args.row c.if-a-b.true in
    told-by-table c.args.cells.now c.args.row (search rules) (bits) c.args.table.now

pub returns : goal.returns
returns c = told_none _ _ _
