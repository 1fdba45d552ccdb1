-- `read_rows::store_rows` meets its contract. The loop's invariant: the first rows are stored.
use mathlib.Core.Path.{◌≡◌, sym}
use mathlib.Core.List.{List}
use mathlib.Core.Option.{Option, none}
use Prim.Native.Nat.{ℕ}
use native.Mathlib.Numerals.{add-one}
use borrow.Author.Rules.{rules}
use Rattle.std.specs.Prelude.{Option as Answered, Some, None, IsSome}
use Rattle.std.specs.Borrow.{Bor}
use Rattle.dump.specs.ways.Reading.{with_rest, timed_row}
use Rattle.dump.proofs.StoreLaws.{stored-none, is-row, stored_more}
use Rattle.dump.proofs.read_rows.store_rows.Goals as goal

some_rest : (row : List ℕ) (answer : Answered (Bor (List ℕ))) (o : Option (List ℕ × List ℕ)) → with_rest row answer ≡ o → (o ≡ none → ⊥) → IsSome answer
some_rest row (Some rest) o e h = search rules
some_rest row None o e h = absurd (h (sym e))

pub loop-number-init : goal.loop-number-init
loop-number-init c = stored-none c.args.text.now c.args.rows c.args.cells.now c.requires

pub unwrap-rest-requires : goal.unwrap-rest-requires
unwrap-rest-requires c = some_rest c.after_row.new.row c.after_row.result (timed_row c.loop-number.number c.loop-number.row c.loop-number.rest.now) c.after_row.ensures
    (is-row c.args.text.now c.args.rows c.args.cells.now c.requires c.loop-number.cells c.loop-number.row c.loop-number.number c.loop-number.rest.now c.loop-number.invariant c.loop-number-test.true)

pub loop-number-preserved : goal.loop-number-preserved
loop-number-preserved c = rw (add-one, c.copy_in.ensures)
    (stored_more c.args.text.now c.args.rows c.args.cells.now c.requires c.loop-number.cells c.loop-number.row c.loop-number.number c.loop-number.rest.now c.loop-number.invariant c.loop-number-test.true
    c.after_row.new.row c.unwrap-rest.result.now (sym (rw c.unwrap-rest.ensures at c.after_row.ensures)) c.after_row.array_long)
