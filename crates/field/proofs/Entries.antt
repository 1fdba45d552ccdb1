-- The rule of the table of inverses, from a test of each entry that the check computes, and what an entry is.
use mathlib.Core.Path.{◌≡◌, sym, ◌∙◌}
use mathlib.Core.List.{List}
use mathlib.Core.Bool.{Bool}
use Prim.Native.Nat.{ℕ, zero, suc, ◌*◌, ◌%◌, ◌≤◌, ◌<◌}
use native.Mathlib.Nat.{not-suc-le-zero, le_trans}
use native.Mathlib.Omega.{arith}
use lib.Dec.{T, eqb, ltb, leb, eqb→eq, ltb→lt, leb→le}
use lib.ListN.{get_or, length}
use Rattle.field.specs.Modulus.{P}
use Rattle.field.specs.Inverse.{inverse_of}
use Rattle.field.specs.Table.{TableRule}
use Rattle.field.proofs.Every.{at, both, both_left, both_right, every}
use Rattle.field.proofs.InverseLaws.{inverse-is, inverse-zero, inverse-reduced}

-- entry 0 is 0; entry k times k is 1 modulo p, and the entry is below p
abbrev good : ℕ → ℕ → Bool
good zero x = eqb x 0
good (suc k) x = both (eqb ((suc k * x) % P) 1) (ltb x P)

good-entry : (k x : ℕ) → T (good k x) → 0 < k → ((k * x) % P ≡ 1) × (x < P)
good-entry zero x t h = absurd (not-suc-le-zero h)
good-entry (suc k) x t h = (
  eqb→eq ((suc k * x) % P) 1 (both_left (eqb ((suc k * x) % P) 1) (ltb x P) t),
  ltb→lt x P (both_right (eqb ((suc k * x) % P) 1) (ltb x P) t),
)

pub table-rule : (table : List ℕ) → T (leb 128 (length table)) → T (every good 0 table) → TableRule table
table-rule table l t =
    record {
      of_zero = eqb→eq (get_or table 0 0) 0 (at good table t 0 (le_trans (omega arith) long));
      of_index = λ k h b. good-entry k (get_or table k 0) (at good table t k (le_trans b long)) h;
    }
  where
    long : 128 ≤ length table
    long = leb→le 128 (length table) l

-- every entry is the inverse of its index
pub entry-inverse : (table : List ℕ) → TableRule table → (k : ℕ) → k < 128 → get_or table k 0 ≡ inverse_of k
entry-inverse table rule zero h = rule.of_zero ∙ sym inverse-zero
entry-inverse table rule (suc k) h =
    let w = rule.of_index (suc k) (omega arith) h in
    inverse-is (suc k) (get_or table (suc k) 0) (omega arith) (omega arith) w.1 w.0

-- what is looked up is the inverse of each number that is the index modulo p
pub entry_law : (table : List ℕ) (x y : ℕ) → TableRule table → y ≡ x % P → y < 128 → get_or table y 0 ≡ inverse_of x
entry_law table x y rule e h = entry-inverse table rule y h ∙ inverse-reduced x y e

-- and so is what is computed of the index
pub computed_law : (x y z : ℕ) → y ≡ x % P → z ≡ inverse_of y → z ≡ inverse_of x
computed_law x y z e f = f ∙ inverse-reduced x y e
