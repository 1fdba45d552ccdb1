-- What a finishing pass refuses: where it refuses nothing, the rows that it works on are in the buffer.
use mathlib.Core.Path.{◌≡◌, ◌∙◌, sym}
use mathlib.Core.Bool.{Bool, false, ◌||◌}
use mathlib.Core.List.{List}
use Prim.Native.Nat.{ℕ, ◌+◌, ◌*◌, ◌≤◌, ◌<◌, ◌/◌}
use native.Mathlib.Decide.{dec_lt}
use native.Mathlib.Omega.{arith}
use borrow.Author.Tests.{ltb-false, eqb-false, lt-ltb, le-ltb, le-leb, lt-leb}
use lib.Dec.{ltb, leb, eqb}
use lib.ListN.{length}
use Rattle.rows.specs.declared.records.profile.Profile.{Profile}
use Rattle.rows.proofs.passes.Checks.{neither, none_first}
use Rattle.rows.specs.passes.Passes.{refusal3, refusal4, refusal5}
use Rattle.rows.specs.records.Buffers.{buffer_wrong, fewer_rows}
use Rattle.rows.proofs.passes.Finishing.{enough, held}

-- fewer than one row more
pub fewer_more : (cells n : ℕ) → fewer_rows cells (n + 1) ≡ leb (cells / 49) n
unfolding fewer_rows
fewer_more cells n = go (dec_lt n (cells / 49))
  where
    go : Dec (n < cells / 49) → ltb (cells / 49) (n + 1) ≡ leb (cells / 49) n
    go (yes h) = le-ltb (cells / 49) (n + 1) (omega arith) ∙ sym (lt-leb (cells / 49) n h)
    go (no h) = lt-ltb (cells / 49) (n + 1) (omega arith) ∙ sym (le-leb (cells / 49) n (omega arith))

pub fits3 : (b : List ℕ) (n : ℕ) → refusal3 b n ≡ 0 → 49 * n ≤ length b
unfolding refusal3
fits3 b n e = (held (length b) n (none_first _ _ _ e).0).in_buffer

pub fits4 : (p : Profile) (b : List ℕ) (n : ℕ) → refusal4 p b n ≡ 0 → 49 * n + 49 ≤ length b
unfolding refusal4
fits4 p b n e = omega (arith, (held (length b) (n + 1) (none_first _ _ _ (none_first _ _ _ e).1).0).in_buffer)

-- there is a row to repeat, the height is no less, and the buffer has it
pub record Room (b : List ℕ) (n height : ℕ) : Type 0 where
  pub some : 0 < n
  pub high : n ≤ height
  pub fits : 49 * height ≤ length b

pub fits5 : (p : Profile) (b : List ℕ) (n height : ℕ) → refusal5 p b n height ≡ 0 → Room b n height
unfolding refusal5
fits5 p b n height e =
    let wrong : Bool = buffer_wrong (length b) in
    let fewer : Bool = fewer_rows (length b) height in
    let low : Bool = ltb height n in
    let lengths : (wrong || (eqb n 0 || (low || fewer))) ≡ false = (none_first _ _ _ (none_first _ _ _ e).1).0 in
    let rows : (eqb n 0 ≡ false) × ((low || fewer) ≡ false) = neither (eqb n 0) (low || fewer) (neither wrong (eqb n 0 || (low || fewer)) lengths).1 in
    let heights : (low ≡ false) × (fewer ≡ false) = neither low fewer rows.1 in
    let z : ¬ (n ≡ 0) = eqb-false n 0 rows.0 in
    record { some = omega (arith, z); high = ltb-false height n heights.0; fits = omega (arith, enough (length b) height heights.1) }
