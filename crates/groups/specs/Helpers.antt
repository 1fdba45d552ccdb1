-- Document 01, "Helpers": the cells h2 to h7 of an operation's row, by what the cycle captured, and refusal 9.
use Rattle.std.specs.Prelude.{Bool, true, ◌&&◌, List, [], ◌∷◌, ℕ, ◌+◌, ◌-◌, ◌/◌, ◌%◌, ltb}
use Rattle.field.specs.Modulus.{P}
use Rattle.field.specs.Cells.{read}
use Rattle.groups.specs.Words.{read_word, read_quad}
use Rattle.groups.specs.Answer.{Answer, accepted, refused, pick}
use Rattle.field.specs.Inverse.{inverse_of}
use Rattle.groups.specs.Constants.{big_helper_value}
use Rattle.groups.specs.declared.helpers.OperationHelperRegisters.{OperationHelperRegisters}
use Rattle.groups.specs.declared.helpers.OperationHelperRegisters.TheVariants.{Eq, U32Split, Eqz, Expacc, FriExt2Fold4, U32Add, U32Add3, U32Sub, U32Mul, U32Madd, U32Div, U32Assert2, HPerm, MerklePath, HornerEvalBase, HornerEvalExt, LogDeferred, Empty}
use Rattle.groups.specs.declared.helpers.UserOpHelpers.{UserOpHelpers}

-- whether every number of the list is below the limit
unfoldable pub all_below : ℕ → List ℕ → Bool
all_below limit [] = true
all_below limit (x ∷ xs) = ltb x limit && all_below limit xs

-- the register set with each of its numbers read as a cell
unfoldable pub read_registers : OperationHelperRegisters → OperationHelperRegisters
read_registers (Eq second first) = Eq (read second) (read first)
read_registers (U32Split lo hi) = U32Split (read lo) (read hi)
read_registers (Eqz top) = Eqz (read top)
read_registers (Expacc val) = Expacc (read val)
read_registers (FriExt2Fold4 ev es x inv) = FriExt2Fold4 (read_quad ev) (read_quad es) (read x) (read inv)
read_registers (U32Add sum carry) = U32Add (read sum) (read carry)
read_registers (U32Add3 sum carry) = U32Add3 (read sum) (read carry)
read_registers (U32Sub difference) = U32Sub (read difference)
read_registers (U32Mul lo hi) = U32Mul (read lo) (read hi)
read_registers (U32Madd lo hi) = U32Madd (read lo) (read hi)
read_registers (U32Div quotient remainder diff) = U32Div (read quotient) (read remainder) (read diff)
read_registers (U32Assert2 first second) = U32Assert2 (read first) (read second)
read_registers (HPerm addr) = HPerm (read addr)
read_registers (MerklePath addr) = MerklePath (read addr)
read_registers (HornerEvalBase alpha tmp0 tmp1) = HornerEvalBase (read_quad alpha) (read_quad tmp0) (read_quad tmp1)
read_registers (HornerEvalExt alpha acc) = HornerEvalExt (read_quad alpha) (read_quad acc)
read_registers (LogDeferred addr root) = LogDeferred (read addr) (read_word root)
read_registers Empty = Empty

-- the values that the cases split, for refusal 9: "helper value ≥ 2^32"
unfoldable pub u32_values : OperationHelperRegisters → List ℕ
u32_values (Eq second first) = []
u32_values (U32Split lo hi) = lo ∷ hi ∷ []
u32_values (Eqz top) = []
u32_values (Expacc val) = []
u32_values (FriExt2Fold4 ev es x inv) = []
u32_values (U32Add sum carry) = sum ∷ carry ∷ []
u32_values (U32Add3 sum carry) = sum ∷ carry ∷ []
u32_values (U32Sub difference) = difference ∷ []
u32_values (U32Mul lo hi) = lo ∷ hi ∷ []
u32_values (U32Madd lo hi) = lo ∷ hi ∷ []
u32_values (U32Div quotient remainder diff) = quotient ∷ remainder ∷ diff ∷ []
u32_values (U32Assert2 first second) = second ∷ first ∷ []
u32_values (HPerm addr) = []
u32_values (MerklePath addr) = []
u32_values (HornerEvalBase alpha tmp0 tmp1) = []
u32_values (HornerEvalExt alpha acc) = []
u32_values (LogDeferred addr root) = []
u32_values Empty = []

-- the cells h2 to h7
abbrev pub six : ℕ → ℕ → ℕ → ℕ → ℕ → ℕ → UserOpHelpers
six a b c d e f = record { h2 = a; h3 = b; h4 = c; h5 = d; h6 = e; h7 = f }

-- "32-bit values split into low, then high 16 bits"
abbrev pub low : ℕ → ℕ
low x = x % 65536

abbrev pub high : ℕ → ℕ
high x = x / 65536

-- a − b modulo p
abbrev pub minus : ℕ → ℕ → ℕ
minus a b = (a + (P - b % P)) % P

-- "For split, multiply and multiply-add the fifth is the inverse of 4294967295 − hi, or 0." The inverse of 0 is 0.
abbrev pub limbs_and_inverse : ℕ → ℕ → UserOpHelpers
limbs_and_inverse lo hi = six (low lo) (high lo) (low hi) (high hi) (inverse_of (minus 4294967295 hi)) 0

-- the helpers of each case: "18 cases as `to_user_op_helpers`"
unfoldable pub helpers_of : OperationHelperRegisters → UserOpHelpers
helpers_of (Eq second first) = six (inverse_of (minus first second)) 0 0 0 0 0
helpers_of (U32Split lo hi) = limbs_and_inverse lo hi
helpers_of (Eqz top) = six (inverse_of top) 0 0 0 0 0
helpers_of (Expacc val) = six val 0 0 0 0 0
helpers_of (FriExt2Fold4 ev es x inv) = six ev.0 ev.1 es.0 es.1 x inv
helpers_of (U32Add sum carry) = six (low sum) (high sum) (low carry) (high carry) 0 0
helpers_of (U32Add3 sum carry) = six (low sum) (high sum) (low carry) (high carry) 0 0
helpers_of (U32Sub difference) = six (low difference) (high difference) 0 0 0 0
helpers_of (U32Mul lo hi) = limbs_and_inverse lo hi
helpers_of (U32Madd lo hi) = limbs_and_inverse lo hi
helpers_of (U32Div quotient remainder diff) = six (low quotient) (high quotient) (low remainder) (high remainder) (low diff) (high diff)
helpers_of (U32Assert2 first second) = six (low second) (high second) (low first) (high first) 0 0
helpers_of (HPerm addr) = six addr 0 0 0 0 0
helpers_of (MerklePath addr) = six addr 0 0 0 0 0
helpers_of (HornerEvalBase alpha tmp0 tmp1) = six alpha.0 alpha.1 tmp1.0 tmp1.1 tmp0.0 tmp0.1
helpers_of (HornerEvalExt alpha acc) = six alpha.0 alpha.1 0 0 acc.0 acc.1
helpers_of (LogDeferred addr root) = six addr root.0 root.1 root.2 root.3 0
helpers_of Empty = six 0 0 0 0 0 0

-- the helpers of cells. Refusal 9: "helper value ≥ 2^32"
unfoldable pub helpers_of_cells : OperationHelperRegisters → Answer UserOpHelpers
helpers_of_cells r = pick (all_below 4294967296 (u32_values r)) (accepted (helpers_of r)) (refused big_helper_value)

-- the helpers of a register set as it comes in
unfoldable pub helpers_answer : OperationHelperRegisters → Answer UserOpHelpers
helpers_answer r = helpers_of_cells (read_registers r)
