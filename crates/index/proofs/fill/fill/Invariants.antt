-- `fill::fill` meets its contract: the scan on lists, row by row.
use mathlib.Core.List.{[]}
use Prim.Native.Nat.{◌*◌, ◌/◌, ◌≤◌}
use lib.ListN.{length, drop}
use Rattle.theory_indexes.specs.ways.IndexScan.{index_scan, starts}
use Rattle.reader.specs.Rows.{word_in}
use Rattle.reader.specs.ways.FromRow.{rows_from}
use Rattle.index.specs.ways.Steps.{progress_of}
use Rattle.index.proofs.StepLaws.{Building}
use Rattle.index.proofs.fill.fill.Given as goal

abbrev pub invariant-loop-at : goal.invariant-loop-at
invariant-loop-at l =
    (l.at ≤ length l.lent.cells.now / 49)
    × Building
    (index_scan (rows_from (word_in l.lent.profile l.lent.cells.now) 0) [] [])
    (starts (rows_from (word_in l.lent.profile l.lent.cells.now) 0))
    (drop (3 * starts (rows_from (word_in l.lent.profile l.lent.cells.now) 0)) l.initial.index)
    (length l.initial.index)
    (rows_from (word_in l.lent.profile l.lent.cells.now) l.at)
    (progress_of l.blocks)
    l.blocks.places
    l.index
