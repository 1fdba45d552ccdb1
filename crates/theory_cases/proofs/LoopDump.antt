-- Change request N3: C10's trace as a dump, and what the two calls answer of it, over the definitions that their contracts cite.
use mathlib.Core.Path.{◌≡◌, refl, ap}
use mathlib.Core.List.{List, ◌++◌}
use Prim.Native.Nat.{ℕ}
use lib.ListN.{replicate, take}
use Rattle.field.specs.Cells.{reduced}
use Rattle.groups.specs.Answer.{accepted, refused}
use Rattle.rows.specs.records.Buffers.{rows_of, flat, buffer_wrong}
use Rattle.theory_readings.specs.Readings.{all_rows}
use Rattle.theory_dumps.specs.Numerals.{numeral_within}
use Rattle.theory_dumps.specs.ways.Spelled.{spelled}
use Rattle.theory_dumps.specs.Dumps.{bytes, columns, var_lines, header, time_line, value_line, all_values, changes, later_lines, dump_lines, dump_rows, dump}
use Rattle.theory_dumps.specs.ways.Undump.{behind, bits_in, is_line_of, after_value, read_changes, read_rows, has_all, from_first, undump}
use Rattle.dump.specs.Dumping.{rows_wrong, dumping, ReadsDump}
use Rattle.dump.specs.ways.Undumping.{few_rows, undumping, reading_dump, rows_read, cells_after}
use Rattle.dump.proofs.Waveforms.{right-as}
use Rattle.theory_cases.specs.LoopRun.{loop_trace}
use Rattle.theory_cases.proofs.LoopCells.{row, loop_rows, loop-cells}

-- the lines behind the header
unfoldable pub lines : List ℕ
lines =
    bytes "#0\nb0 !\nb0 \"\nb0 #\nb0 $\nb0 %\nb0 &\nb0 '\nb1 (\nb0 )\nb1 *\nb0 +\nb1 ,\nb0 -\nb1 .\nb10100 /\nb10101 0\nb10110 1\n"
    ++ bytes "b10111 2\nb0 3\nb0 4\nb0 5\nb0 6\nb0 7\nb10 8\nb0 9\nb0 :\nb0 ;\nb0 <\nb1 =\nb0 >\nb0 ?\nb0 @\nb0 A\n"
    ++ bytes "b0 B\nb0 C\nb0 D\nb0 E\nb0 F\nb0 G\nb0 H\nb0 I\nb0 J\nb0 K\nb0 L\nb0 M\nb0 N\nb10000 O\nb0 P\nb0 Q\n"
    ++ bytes "#1\nb1 !\nb1 '\nb0 (\nb1 )\nb101 /\nb0 0\nb0 1\nb0 2\nb1 8\nb1 ;\nb1 <\n"
    ++ bytes "#2\nb10 !\nb11 '\nb1 (\nb0 )\nb0 ,\nb0 .\nb0 /\nb1 0\nb1 7\nb0 8\nb0 ;\nb0 <\nb0 =\n"
    ++ bytes "#3\nb11 !\nb0 (\nb0 *\nb1 ,\nb1 -\nb1 .\nb10100 /\nb10101 0\nb10110 1\nb10111 2\nb1 3\nb0 7\nb1 >\n"
    ++ bytes "#4\nb100 !\nb1 '\nb1 *\n"
    ++ bytes "#5\nb101 !\nb1 )\nb0 -\nb101 /\nb0 0\nb0 1\nb0 2\nb0 3\nb1 8\nb1 ;\nb1 <\nb1 =\nb0 >\n"
    ++ bytes "#6\nb110 !\nb101 '\nb1 (\nb0 )\nb0 ,\nb0 .\nb0 /\nb1 0\nb1 7\nb0 8\nb0 ;\nb0 <\nb0 =\n"
    ++ bytes "#7\nb111 !\nb0 (\nb0 *\nb1 ,\nb1 -\nb1 .\nb10100 /\nb10101 0\nb10110 1\nb10111 2\nb1 3\nb0 7\nb1 >\n"
    ++ bytes "#8\nb1000 !\nb1 '\nb1010 /\nb1011 0\nb1100 1\nb1101 2\nb0 3\nb1 4\n"
    ++ bytes "#9\nb1001 !\nb0 '\nb1 *\nb1 +\nb0 4\n"

unfoldable pub text : List ℕ
text = header ++ lines

pub first-lines : take 70 text ≡ bytes "$timescale 1 ns $end\n$scope module trace $end\n$var wire 64 ! clk $end\n"
unfolding text lines header var_lines columns bytes
first-lines = refl

pub its-dump : dump loop_trace ≡ text
unfolding dump dump_rows dump_lines later_lines changes all_values value_line time_line numeral_within all_rows rows_of reduced flat loop_rows row bytes lines text
its-dump = ap dump loop-cells

-- "The writer answers its bytes"; "28 when the lent text buffer is too short"
pub bytes-answered : (dumping loop_trace 2223 ≡ accepted 2223) × (dumping loop_trace 2222 ≡ refused 28)
unfolding dumping rows_wrong buffer_wrong dump dump_rows dump_lines later_lines changes all_values value_line time_line numeral_within all_rows rows_of reduced flat loop_rows row bytes header var_lines columns
bytes-answered = (ap (λ cells. dumping cells 2223) loop-cells, ap (λ cells. dumping cells 2222) loop-cells)

-- "the reader its rows": ten rows come back; 11 for 489 cells, 29 where the last line feed is missing, 11 for 9 rows of cells
pub rows-answered :
    ReadsDump text (replicate 490 7) 0 10 (flat loop_rows)
    × ReadsDump text (replicate 489 7) 11 0 (replicate 489 7)
    × ReadsDump (take 2222 text) (replicate 441 7) 29 0 (replicate 441 7)
    × ReadsDump text (replicate 441 7) 11 0 (replicate 441 7)
unfolding rows_read cells_after reading_dump undumping few_rows undump from_first has_all read_rows read_changes after_value is_line_of behind bits_in spelled buffer_wrong text lines value_line time_line numeral_within flat loop_rows row bytes header var_lines columns
rows-answered = (
  right-as text (replicate 490 7) (accepted loop_rows) refl,
  right-as text (replicate 489 7) (refused 11) refl,
  right-as (take 2222 text) (replicate 441 7) (refused 29) refl,
  right-as text (replicate 441 7) (refused 11) refl,
)
