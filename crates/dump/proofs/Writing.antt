-- What writing a dump answers, by its tests.
use mathlib.Core.Path.{◌≡◌, refl}
use mathlib.Core.Bool.{true, false, ◌||◌}
use mathlib.Core.List.{List}
use Prim.Native.Nat.{ℕ, ◌/◌, ◌%◌, ◌≤◌, ◌<◌}
use native.Mathlib.Omega.{arith}
use borrow.Author.Tests.{ltb-false, lt-ltb, le-ltb}
use lib.Dec.{ltb}
use lib.ListN.{length}
use Rattle.groups.specs.Answer.{accepted, refused}
use Rattle.rows.specs.records.Buffers.{buffer_wrong}
use Rattle.rows.proofs.passes.Checks.{neither}
use Rattle.theory_dumps.specs.Dumps.{header, bytes, var_lines, columns, dump}
use Rattle.dump.specs.Dumping.{rows_wrong, dumping}

pub header-length : length header ≡ 1400
unfolding header bytes var_lines columns
header-length = refl

-- a buffer that the writer does not refuse with 11: whole rows, at least one, at most 2^24
pub whole : (cells : ℕ) → rows_wrong cells ≡ false → (cells % 49 ≤ 0) × (cells / 49 ≤ 16777216) × (49 ≤ cells)
unfolding rows_wrong buffer_wrong
whole cells e =
    let (a, b) = neither (ltb 0 (cells % 49) || ltb 16777216 (cells / 49)) (ltb cells 49) e in
    let (c, d) = neither (ltb 0 (cells % 49)) (ltb 16777216 (cells / 49)) a in
    (ltb-false 0 (cells % 49) c, ltb-false 16777216 (cells / 49) d, ltb-false cells 49 b)

pub rows-within : (cells : ℕ) → rows_wrong cells ≡ false → (49 ≤ cells) × (cells ≤ 822083584)
rows-within cells e = let (a, b, c) = whole cells e in (c, omega arith)

module _ (cells : List ℕ) (lent : ℕ) where
  pub rows-wrong : rows_wrong (length cells) ≡ true → dumping cells lent ≡ refused 11
  unfolding dumping
  rows-wrong e = rw e

  pub text-short : rows_wrong (length cells) ≡ false → lent < length (dump cells) → dumping cells lent ≡ refused 28
  unfolding dumping
  text-short e h = rw (e, lt-ltb lent (length (dump cells)) h)

  pub text-fits : rows_wrong (length cells) ≡ false → length (dump cells) ≤ lent → dumping cells lent ≡ accepted (length (dump cells))
  unfolding dumping
  text-fits e h = rw (e, le-ltb lent (length (dump cells)) h)
