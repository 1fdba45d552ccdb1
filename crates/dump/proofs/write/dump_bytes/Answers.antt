-- `write::dump_bytes` meets its contract: the header's bytes and those of the rows.
use mathlib.Core.Path.{ap}
use mathlib.Core.List.{List}
use Prim.Native.Nat.{ℕ, ◌/◌}
use native.Mathlib.Omega.{arith}
use lib.ListN.{length, length-append}
use Rattle.theory_dumps.specs.Dumps.{header}
use Rattle.dump.specs.ways.Places.{lines_to}
use Rattle.dump.proofs.ByPlaces.{dump-is}
use Rattle.dump.proofs.Places.{lines-length}
use Rattle.dump.proofs.Writing.{header-length}
use Rattle.dump.proofs.write.dump_bytes.Goals as goal

pub overflow_add-result : goal.overflow_add-result
overflow_add-result c = omega (arith, c.rows_bytes.ensures, lines-length c.args.cells.now (length c.args.cells.now / 49), c.requires.1)

pub returns : goal.returns
returns c = omega (arith, c.rows_bytes.ensures, header-length, length-append header (lines_to c.args.cells.now (length c.args.cells.now / 49)), ap (λ (l : List ℕ). length l) (dump-is c.args.cells.now c.requires.0))
