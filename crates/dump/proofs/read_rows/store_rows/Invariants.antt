-- `read_rows::store_rows` meets its contract. The loop's invariant: the first rows are stored.
use Rattle.dump.proofs.StoreLaws.{StoredTo}
use Rattle.dump.proofs.read_rows.store_rows.Given as goal

abbrev pub invariant-loop-number : goal.invariant-loop-number
invariant-loop-number l = StoredTo l.text l.rows l.initial.cells l.cells l.row l.number l.rest
