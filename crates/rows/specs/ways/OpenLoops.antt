-- The second pass where loops nest as in a run: what a row is to a sweep that has the open LOOP rows on a stack, what the sweep leaves, and what clears
-- it again.
use Rattle.std.specs.Prelude.{◌≡◌, true, false, List, ℕ, ◌+◌, ◌*◌, ◌<◌, ◌≤◌, get_or}
use Rattle.groups.specs.Constants.{row_width, count_column}
use Rattle.rows.specs.declared.records.profile.Profile.{Profile}
use Rattle.rows.specs.declared.passes.nested.RowRole.{RowRole}
use Rattle.rows.specs.records.Buffers.{buffer_row}
use Rattle.rows.specs.passes.Passes.{flagged_end}
use Rattle.rows.specs.ways.LoopCounts.{is_loop, next_addr, ends_in, lacks_from, counted_from, Alike}

-- of row i, where `depth` LOOP rows are open and `top` is the innermost
unfoldable pub RoleOf : Profile → (buffer : List ℕ) → (i depth top : ℕ) → RowRole → Type 0
RoleOf p buffer i depth top RowRole.Other = (is_loop p (buffer_row i buffer) ≡ false) × (flagged_end p (buffer_row i buffer) ≡ false)
RoleOf p buffer i depth top RowRole.Opens = (is_loop p (buffer_row i buffer) ≡ true) × (flagged_end p (buffer_row i buffer) ≡ false)
RoleOf p buffer i depth top RowRole.Ends =
    (is_loop p (buffer_row i buffer) ≡ false) × (flagged_end p (buffer_row i buffer) ≡ true) × (0 < depth) × (next_addr top buffer ≡ next_addr i buffer)
RoleOf p buffer i depth top RowRole.Unknown = Unit {0}

-- cells that are the first ones but for the counts of the LOOP rows from `from` to `next`; the LOOP rows before `next` held 0 at first
pub record CountsIn (p : Profile) (first : List ℕ) (from next : ℕ) (cells : List ℕ) : Type 0 where
  pub alike : Alike cells first
  pub others : (x : ℕ) → ((j : ℕ) → from ≤ j → j < next → is_loop p (buffer_row j first) ≡ true → x ≡ row_width * j + count_column → ⊥) → get_or cells x 0 ≡ get_or first x 0
  pub zeros : (j : ℕ) → j < next → is_loop p (buffer_row j first) ≡ true → get_or first (row_width * j + count_column) 0 ≡ 0

-- what a sweep counted before row `next` is gone
abbrev pub Cleared : Profile → (next : ℕ) → (entry exit : List ℕ) → Type 0
Cleared p next entry exit = (first : List ℕ) → CountsIn p first 0 next entry → exit ≡ first

-- each LOOP row but the last row has got its count, and none comes to 0
abbrev pub AllCounted : Profile → (rows : ℕ) → (entry exit : List ℕ) → Type 0
AllCounted p rows entry exit = (exit ≡ counted_from p (ends_in p rows entry) rows 0 entry) × (lacks_from p (ends_in p rows entry) rows 0 entry ≡ false)
