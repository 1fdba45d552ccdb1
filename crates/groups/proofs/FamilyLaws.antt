-- The families sort the 18 cases rightly: a family's numbers, helpers and refusal are its case's.
use mathlib.Core.Path.{◌≡◌, ◌∙◌, ap, refl, sym}
use mathlib.Core.Bool.{Bool, true, false}
use mathlib.Core.List.{List, [], ◌∷◌}
use Prim.Native.Nat.{ℕ, zero, suc, ◌<◌}
use native.Mathlib.Omega.{arith}
use borrow.Author.Tests.{lt-ltb, ltb-true}
use lib.Dec.{ltb}
use lib.ListN.{length, get_or}
use Rattle.std.proofs.Common.{◌↔◌, IsTrue, EachIndex, slice_index}
use Rattle.field.specs.Inverse.{inverse_of}
use Rattle.field.proofs.InverseLaws.{inverse-reduced}
use Rattle.groups.specs.declared.helpers.OperationHelperRegisters.{OperationHelperRegisters}
use Rattle.groups.specs.declared.helpers.OperationHelperRegisters.TheVariants.{Eq, U32Split, Eqz, Expacc, FriExt2Fold4, U32Add, U32Add3, U32Sub, U32Mul, U32Madd, U32Div, U32Assert2, HPerm, MerklePath, HornerEvalBase, HornerEvalExt, LogDeferred, Empty}
use Rattle.groups.specs.Helpers.{all_below, read_registers, u32_values, minus, helpers_of, helpers_of_cells, helpers_answer}
use Rattle.groups.proofs.OneGroup.{both}
use Rattle.groups.specs.ways.Families.{family_of, read_family, found_of}

-- reading a family's numbers is reading its case's
pub read-law : (r : OperationHelperRegisters) → read_family (family_of r) ≡ family_of (read_registers r)
unfolding read_registers
read-law (Eq second first) = refl
read-law (U32Split lo hi) = refl
read-law (Eqz top) = refl
read-law (Expacc val) = refl
read-law (FriExt2Fold4 ev es x inv) = refl
read-law (U32Add sum carry) = refl
read-law (U32Add3 sum carry) = refl
read-law (U32Sub difference) = refl
read-law (U32Mul lo hi) = refl
read-law (U32Madd lo hi) = refl
read-law (U32Div quotient remainder diff) = refl
read-law (U32Assert2 first second) = refl
read-law (HPerm addr) = refl
read-law (MerklePath addr) = refl
read-law (HornerEvalBase alpha tmp0 tmp1) = refl
read-law (HornerEvalExt alpha acc) = refl
read-law (LogDeferred addr root) = refl
read-law Empty = refl

-- the inverse of x − 0 is that of x
minus-zero : (x : ℕ) → inverse_of (minus x 0) ≡ inverse_of x
minus-zero x = inverse-reduced x (minus x 0) (omega arith)

pub found-law : (r : OperationHelperRegisters) → found_of (family_of r) ≡ helpers_of_cells r
unfolding found_of all_below u32_values helpers_of helpers_of_cells
found-law (Eq second first) = refl
found-law (U32Split lo hi) = refl
found-law (Eqz top) = rw minus-zero
found-law (Expacc val) = refl
found-law (FriExt2Fold4 ev es x inv) = refl
found-law (U32Add sum carry) = refl
found-law (U32Add3 sum carry) = refl
found-law (U32Sub difference) = refl
found-law (U32Mul lo hi) = refl
found-law (U32Madd lo hi) = refl
found-law (U32Div quotient remainder diff) = refl
found-law (U32Assert2 first second) = refl
found-law (HPerm addr) = refl
found-law (MerklePath addr) = refl
found-law (HornerEvalBase alpha tmp0 tmp1) = refl
found-law (HornerEvalExt alpha acc) = refl
found-law (LogDeferred addr root) = refl
found-law Empty = refl

-- the helpers of a family whose numbers are read are those of its case as it comes in
pub helpers_law : (r : OperationHelperRegisters) → found_of (read_family (family_of r)) ≡ helpers_answer r
unfolding helpers_answer
helpers_law r = ap found_of (read-law r) ∙ found-law (read_registers r)

-- `all_below` is the test of each number
each-below : (limit : ℕ) (xs : List ℕ) → ((k : ℕ) → k < length xs → get_or xs k 0 < limit) → all_below limit xs ≡ true
unfolding all_below
each-below limit [] h = refl
each-below limit (x ∷ xs) h = rw (lt-ltb x limit (h 0 (omega arith))) (each-below limit xs (λ k l. h (suc k) (omega (arith, l))))

below-each : (limit : ℕ) (xs : List ℕ) → all_below limit xs ≡ true → (k : ℕ) → k < length xs → get_or xs k 0 < limit
unfolding all_below
below-each limit [] t k h = absurd (omega arith)
below-each limit (x ∷ xs) t zero h = ltb-true x limit (both (ltb x limit) (all_below limit xs) t).0
below-each limit (x ∷ xs) t (suc k) h = below-each limit xs (both (ltb x limit) (all_below limit xs) t).1 k (omega (arith, h))

pub below_law : (limit : ℕ) (xs : List ℕ) (b : Bool) → IsTrue b ↔ EachIndex xs (λ k. slice_index xs k < limit) → b ≡ all_below limit xs
below_law limit xs true e = sym (each-below limit xs (e.0 refl))
below_law limit xs false e = none (all_below limit xs) refl
  where
    none : (t : Bool) → all_below limit xs ≡ t → false ≡ all_below limit xs
    none true h = e.1 (below-each limit xs h) ∙ sym h
    none false h = sym h
