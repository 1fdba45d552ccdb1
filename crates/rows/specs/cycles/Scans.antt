-- The checks of a finish that look at the profile and the whole forest: refusals 1, 2 and 11.
use Rattle.std.specs.Prelude.{Bool, false, ◌&&◌, ◌||◌, List, ℕ, zero, suc, ◌+◌, ◌*◌, ◌/◌, ltb, eqb, length, get_or}
use Rattle.rows.specs.declared.records.profile.Profile.{Profile}
use Rattle.rows.specs.declared.cycles.scan.Scan.{Scan}
use Rattle.field.specs.Bounds.{any_from}
use Rattle.rows.specs.records.Profiles.{profile_wrong}

-- "Refusal 1 remains for opcodes of 128 and more": one of the operations lent, used or not
unfoldable pub any_big_opcode : (ops : List ℕ) → Bool
any_big_opcode ops = any_from 128 ops

-- Refusal 11: "over 4,096 batches": slot k, one of the first n, holds a Block (2) with more
unfoldable pub any_long_block : (nodes : List ℕ) → (n : ℕ) → Bool
any_long_block nodes zero = false
any_long_block nodes (suc k) = any_long_block nodes k || (eqb (get_or nodes (6 * k) 0) 2 && ltb 4096 (get_or nodes (6 * k + 5) 0))

-- Refusal 11: "a batch's group count above 8": one of the first n batch records
unfoldable pub any_large_batch : (batches : List ℕ) → (n : ℕ) → Bool
any_large_batch batches zero = false
any_large_batch batches (suc k) = any_large_batch batches k || ltb 8 (get_or batches (12 * k) 0)

-- over all whole slots and batch records
unfoldable pub forest_too_large : (nodes batches : List ℕ) → Bool
forest_too_large nodes batches = any_long_block nodes (length nodes / 6) || any_large_batch batches (length batches / 12)

-- what a scan of profile and forest finds; digests, groups and queues are cells, which are all read
unfoldable pub scan_of : Profile → (nodes batches ops : List ℕ) → Scan
scan_of p nodes batches ops =
    record { big = any_big_opcode ops; profile_wrong = profile_wrong p; too_large = forest_too_large nodes batches }
