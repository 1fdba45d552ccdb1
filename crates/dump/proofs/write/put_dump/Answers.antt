-- `write::put_dump` meets its contract: the header, then the rows.
use mathlib.Core.Path.{sym}
use native.Mathlib.Omega.{arith}
use Rattle.dump.proofs.ByPlaces.{dump-is}
use Rattle.dump.proofs.Putting.{put_then, put_is}
use Rattle.dump.proofs.Writing.{header-length}
use Rattle.dump.proofs.write.put_dump.Goals as goal

pub put_rows-requires : goal.put_rows-requires
put_rows-requires c = (omega (arith, c.put_header-at.ensures.is_end, header-length), c.requires.1)

pub returns : goal.returns
returns c = put_is (sym (dump-is c.args.cells.now c.requires.0)) (put_then c.put_header-at.ensures c.put_rows.ensures)
