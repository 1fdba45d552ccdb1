-- Change request N9, "A running loop tally": the places of a lent tally, and what a cycle counts there.
use Rattle.std.specs.Prelude.{Bool, false, not, ◌&&◌, ◌||◌, List, ℕ, zero, suc, ◌+◌, ◌*◌, ◌%◌, leb, ltb, eqb, length, get_or, set}
use Rattle.field.specs.Modulus.{P}
use Rattle.field.specs.Cells.{cell_at}
use Rattle.groups.specs.Answer.{Answer, accepted, refused, and_then, pick}
use Rattle.groups.specs.Constants.{most_rows, tally_full}
use Rattle.groups.specs.declared.helpers.OperationHelperRegisters.{OperationHelperRegisters}
use Rattle.rows.specs.declared.records.profile.Profile.{Profile}
use Rattle.rows.specs.declared.records.state.StackState.{StackState}
use Rattle.rows.specs.declared.cycles.made.MadeRow.{MadeRow}
use Rattle.rows.specs.declared.cycles.scan.Scan.{Scan}
use Rattle.rows.specs.declared.cycles.tracer.CoreTraceGenerationTracer.{CoreTraceGenerationTracer}
use Rattle.rows.specs.records.Forests.{Forest}
use Rattle.rows.specs.records.Addresses.{Queues}
use Rattle.rows.specs.records.Buffers.{buffer_row}
use Rattle.rows.specs.passes.Passes.{flagged_end}
use Rattle.rows.specs.cycles.Scans.{scan_of}
use Rattle.rows.specs.cycles.Cycles.{refuse_if, cycle_with}

-- "a lent tally of 256 places, each an address and then its count"
abbrev pub most_places : ℕ
most_places = 256

-- the address at a place is a cell, the count a plain number
abbrev pub addr_in : (tally : List ℕ) → (place : ℕ) → ℕ
addr_in tally place = cell_at tally (2 * place)

abbrev pub count_in : (tally : List ℕ) → (place : ℕ) → ℕ
count_in tally place = get_or tally (2 * place + 1) 0

-- "free where the count is 0"
unfoldable pub is_free : (tally : List ℕ) → (place : ℕ) → Bool
is_free tally place = eqb (count_in tally place) 0

-- "in use with this address"
unfoldable pub is_of : (tally : List ℕ) → (addr place : ℕ) → Bool
is_of tally addr place = not (is_free tally place) && eqb (addr_in tally place) addr

-- the first of n places, from `place` on, that a test holds of; the place behind them where it holds of none
unfoldable pub first_from : (test : ℕ → Bool) → (place n : ℕ) → ℕ
first_from test place zero = place
first_from test place (suc n) = pick (test place) place (first_from test (suc place) n)

abbrev pub first : (test : ℕ → Bool) → ℕ
first test = first_from test 0 most_places

-- "the first place in use with this address, else .. the first free one"; 256 where there is neither
unfoldable pub place_for : (tally : List ℕ) → (addr : ℕ) → ℕ
place_for tally addr = pick (ltb (first (is_of tally addr)) most_places) (first (is_of tally addr)) (first (is_free tally))

-- "it adds 1 at the first place in use .., else takes the first free one": a free place gets the address and 1, another 1 more and nothing else
unfoldable pub counted_at : (tally : List ℕ) → (addr place : ℕ) → List ℕ
counted_at tally addr place =
    pick (is_free tally place) (set (set tally (2 * place) addr) (2 * place + 1) 1) (set tally (2 * place + 1) (count_in tally place + 1))

-- "a 257th address or a count above 2^24"
unfoldable pub cannot_count : (tally : List ℕ) → (place : ℕ) → Bool
cannot_count tally place = leb most_places place || leb most_rows (count_in tally place)

-- "A cycle counts its row's address exactly when the row before, as the fragment then holds it, is a flagged END to the multiplicity pass".
-- `rows` are those before; a first row counts nothing
unfoldable pub counts_next : Profile → (fragment : List ℕ) → (rows : ℕ) → Bool
counts_next p fragment zero = false
counts_next p fragment (suc before) = flagged_end p (buffer_row before fragment)

-- the row's address, as it is written
abbrev pub row_addr : MadeRow → ℕ
row_addr m = m.row.addr % P

-- "fewer places: 11": a finish's own 11, so that the scan's answer has it
abbrev pub with_tally : (numbers : ℕ) → Scan → Scan
with_tally numbers scan =
    record { big = scan.big; profile_wrong = scan.profile_wrong; too_large = scan.too_large || ltb numbers (2 * most_places) }

-- what is lent beside the tracer: the tally, and the fragment as it is, with `rows` rows written
module _ (p : Profile) (tally fragment : List ℕ) (rows : ℕ) where
  -- "A cycle refuses with 32, after 24, when it would need a 257th address or a count above 2^24."
  unfoldable pub unless_full : Answer MadeRow → Answer MadeRow
  unless_full found =
      and_then found (λ m.
      refuse_if (counts_next p fragment rows && cannot_count tally (place_for tally (row_addr m))) tally_full
      (accepted m))

  -- the tally after a finish
  unfoldable pub tally_after : Answer MadeRow → List ℕ
  tally_after (refused n) = tally
  tally_after (accepted m) = pick (counts_next p fragment rows) (counted_at tally (row_addr m) (place_for tally (row_addr m))) tally

-- a finish that is lent a tally
unfoldable pub tallied_cycle : Profile → Forest → Queues → StackState → OperationHelperRegisters → (tally fragment : List ℕ) → CoreTraceGenerationTracer → Answer MadeRow
tallied_cycle p f q stack registers tally fragment t =
    unless_full p tally fragment t.row_write_index
    (cycle_with (with_tally (length tally) (scan_of p f.nodes f.batches f.ops)) p f q stack registers (length fragment) t)
