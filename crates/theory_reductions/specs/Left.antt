-- What each finishing pass, and the finisher, leaves of a buffer, refused or not: the clause of its contract. And what a call may do to a buffer.
use Rattle.std.specs.Prelude.{◌≡◌, ◌⊎◌, List, ℕ, ◌-◌, ◌<◌, length, get_or}
use Rattle.field.specs.Modulus.{P}
use Rattle.rows.specs.declared.records.profile.Profile.{Profile}
use Rattle.rows.specs.records.Buffers.{on_rows}
use Rattle.rows.specs.passes.Passes.{fixed_up, built_of, multiplied, inverted, halted, padded, sum_of, all_passes, unless_refused, refusal1, refusal2, refusal3, refusal4, refusal5, refusal_all}

-- pass 1, `fixup_stack_and_system_rows`
unfoldable pub left1 : (size : ℕ) → (counts built top : List ℕ) → (buffer : List ℕ) → List ℕ
left1 size counts built top buffer =
    unless_refused (refusal1 buffer size counts built) buffer (on_rows (sum_of counts) (fixed_up size top (built_of (length counts - 1) built)) buffer)

-- pass 2, `set_loop_body_multiplicities`
unfoldable pub left2 : Profile → (rows : ℕ) → (buffer : List ℕ) → List ℕ
left2 p rows buffer = unless_refused (refusal2 p buffer rows) buffer (on_rows rows (multiplied p) buffer)

-- pass 3, `invert_helper_column`
unfoldable pub left3 : (rows : ℕ) → (buffer : List ℕ) → List ℕ
left3 rows buffer = unless_refused (refusal3 buffer rows) buffer (on_rows rows inverted buffer)

-- pass 4, `push_halt_opcode_row`
unfoldable pub left4 : Profile → (rows : ℕ) → (built : List ℕ) → (buffer : List ℕ) → List ℕ
left4 p rows built buffer = unless_refused (refusal4 p buffer rows) buffer (on_rows rows (halted p built) buffer)

-- pass 5, `pad_core_row_major`
unfoldable pub left5 : Profile → (rows height : ℕ) → (buffer : List ℕ) → List ℕ
left5 p rows height buffer = unless_refused (refusal5 p buffer rows height) buffer (on_rows rows (padded p height) buffer)

-- the finisher, `finish`
unfoldable pub left_all : Profile → (size : ℕ) → (counts built top : List ℕ) → (height : ℕ) → (buffer : List ℕ) → List ℕ
left_all p size counts built top height buffer =
    unless_refused (refusal_all p buffer size counts built height) buffer (all_passes p size counts built top height buffer)

-- "Every cell that a call writes is reduced; cells it does not write stay" (N2): each number after the call is the number before, or it is
-- below p
pub record Kept (before after : List ℕ) : Type 0 where
  pub size : length after ≡ length before
  pub cells : (i : ℕ) → (get_or after i 0 ≡ get_or before i 0) ⊎ (get_or after i 0 < P)
