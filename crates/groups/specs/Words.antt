-- Four cells that stand together.
use Rattle.std.specs.Prelude.{List, ℕ, ◌+◌, ◌%◌}
use Rattle.field.specs.Modulus.{P}
use Rattle.field.specs.Cells.{cell_at}
use Rattle.groups.specs.declared.word.Word.{Word}
use Rattle.groups.specs.declared.word.QuadFelt.{QuadFelt}

-- the four cells from cell i on, 0 past the end
unfoldable pub word_at : List ℕ → ℕ → Word
word_at cells i = (cell_at cells i, cell_at cells (i + 1), cell_at cells (i + 2), cell_at cells (i + 3))

-- a word whose four numbers are read as cells
abbrev pub read_word : Word → Word
read_word w = (w.0 % P, w.1 % P, w.2 % P, w.3 % P)

abbrev pub read_quad : QuadFelt → QuadFelt
read_quad q = (q.0 % P, q.1 % P)
