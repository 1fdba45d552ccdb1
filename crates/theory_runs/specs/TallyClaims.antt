-- Change request N9: what a tally tells of the rows of its fragment, and what the tallies of a run have to do with the counts that pass 2 sets.
use Rattle.std.specs.Prelude.{◌≡◌, ◌&&◌, List, [], ◌∷◌, ◌++◌, ℕ, ◌+◌, ◌*◌, ◌≤◌, ◌<◌, ltb, eqb, length, get_or}
use Rattle.field.specs.Cells.{cell_at}
use Rattle.groups.specs.Answer.{pick}
use Rattle.groups.specs.Constants.{count_column}
use Rattle.rows.specs.ways.Order.{occurrences}
use Rattle.rows.specs.declared.records.profile.Profile.{Profile}
use Rattle.rows.specs.records.Buffers.{rows_of, buffer_row, last_row, addr_of, opcode_of}
use Rattle.rows.specs.passes.Passes.{flagged_end}
use Rattle.rows.specs.cycles.LentTally.{most_places, count_in, is_of, first}
use Rattle.theory_runs.specs.Written.{decoders_of}
use Rattle.theory_runs.specs.LiveCalls.{LiveHeld}

-- the addresses of the rows behind the flagged ENDs of some rows, one after another
unfoldable pub successors : Profile → List (List ℕ) → List ℕ
successors p [] = []
successors p (row ∷ []) = []
successors p (row ∷ next ∷ rows) = pick (flagged_end p row) (addr_of next ∷ []) [] ++ successors p (next ∷ rows)

-- an address behind those seen, unless it is one of them
unfoldable pub with_new : (seen : List ℕ) → (addr : ℕ) → List ℕ
with_new seen addr = pick (ltb 0 (occurrences addr seen)) seen (seen ++ (addr ∷ []))

-- each address once, "in order of first appearance", behind those seen
unfoldable pub once_from : (seen addrs : List ℕ) → List ℕ
once_from seen [] = seen
once_from seen (addr ∷ addrs) = once_from (with_new seen addr) addrs

abbrev pub once_each : List ℕ → List ℕ
once_each addrs = once_from [] addrs

-- "exactly each successor address of a flagged END, with its number, in order of first appearance", and zeros behind in the 256 places
pub record Tells (addrs tally : List ℕ) : Type 0 where
  pub few : length (once_each addrs) ≤ most_places
  pub address : (place : ℕ) → place < length (once_each addrs) → get_or tally (2 * place) 0 ≡ get_or (once_each addrs) place 0
  pub number : (place : ℕ) → place < length (once_each addrs) → get_or tally (2 * place + 1) 0 ≡ occurrences (get_or (once_each addrs) place 0) addrs
  pub zeros : (i : ℕ) → 2 * length (once_each addrs) ≤ i → i < 2 * most_places → get_or tally i 0 ≡ 0

-- "the rows written so far in this fragment"
abbrev pub written_so_far : LiveHeld → List (List ℕ)
written_so_far z = rows_of z.held.tracer.row_write_index z.held.cells

abbrev pub TallyTells : Profile → LiveHeld → Type 0
TallyTells p z = Tells (successors p (written_so_far z)) z.tally

-- the count of an address in a tally, 0 where it has no place
unfoldable pub tallied_at : (addr : ℕ) → (tally : List ℕ) → ℕ
tallied_at addr tally = pick (ltb (first (is_of tally addr)) most_places) (count_in tally (first (is_of tally addr))) 0

-- what some fragments end with: "The fragments' tallies"
unfoldable pub tallies_at : (addr : ℕ) → List LiveHeld → ℕ
tallies_at addr [] = 0
tallies_at addr (z ∷ more) = tallied_at addr z.tally + tallies_at addr more

-- "1 more for each flagged END that ends a fragment and has its successor in the next", with this address
unfoldable pub crossing : Profile → (addr : ℕ) → (rows next : List (List ℕ)) → ℕ
crossing p addr rows [] = 0
crossing p addr rows (successor ∷ next) = pick (flagged_end p (last_row rows) && eqb (addr_of successor) addr) 1 0

unfoldable pub crossings : Profile → (addr : ℕ) → List LiveHeld → ℕ
crossings p addr [] = 0
crossings p addr (z ∷ []) = 0
crossings p addr (z ∷ next ∷ more) = crossing p addr (written_so_far z) (written_so_far next) + crossings p addr (next ∷ more)

-- the number of an address over all fragments
abbrev pub over_fragments : Profile → List LiveHeld → (addr : ℕ) → ℕ
over_fragments p ends addr = tallies_at addr ends + crossings p addr ends

-- all rows of some fragments, one after another; none of these without rows
unfoldable pub rows_of_all : List LiveHeld → List (List ℕ)
rows_of_all [] = []
rows_of_all (z ∷ more) = written_so_far z ++ rows_of_all more

unfoldable pub NoneEmpty : List LiveHeld → Type 0
NoneEmpty [] = Unit {0}
NoneEmpty (z ∷ more) = (0 < z.held.tracer.row_write_index) × NoneEmpty more

-- a buffer in which the decoder cells of some rows stand, as pass 1 leaves them
abbrev pub HoldsDecoders : (buffer : List ℕ) → (rows : List (List ℕ)) → Type 0
HoldsDecoders buffer rows = decoders_of (rows_of (length rows) buffer) ≡ decoders_of rows

-- "every count it sets": each LOOP row but the last of the first `rows` rows has the count of the address behind it
abbrev pub CountsSet : Profile → (count : ℕ → ℕ) → (rows : ℕ) → (cells : List ℕ) → Type 0
CountsSet p count rows cells =
    (i : ℕ) → i + 1 < rows → opcode_of (buffer_row i cells) ≡ p.loop_op → cell_at (buffer_row i cells) count_column ≡ count (addr_of (buffer_row (i + 1) cells))
