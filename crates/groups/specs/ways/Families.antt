-- The 18 cases sorted by the way in which their helpers are made, for the private functions of `helpers.rt`. No public promise names
-- this file: `proofs/FamilyLaws.antt` shows that refusals and helpers are those of `Helpers.antt`.
use Rattle.std.specs.Prelude.{[], ◌∷◌}
use Rattle.field.specs.Inverse.{inverse_of}
use Rattle.field.specs.Cells.{read}
use Rattle.groups.specs.declared.helpers.OperationHelperRegisters.{OperationHelperRegisters}
use Rattle.groups.specs.declared.helpers.OperationHelperRegisters.TheVariants.{Eq, U32Split, Eqz, Expacc, FriExt2Fold4, U32Add, U32Add3, U32Sub, U32Mul, U32Madd, U32Div, U32Assert2, HPerm, MerklePath, HornerEvalBase, HornerEvalExt, LogDeferred, Empty}
use Rattle.groups.specs.declared.helpers.Family.{Family}
use Rattle.groups.specs.declared.helpers.Family.TheVariants.{Cells, Inverse, Limbs, LimbsAndInverse}
use Rattle.groups.specs.Answer.{Answer, accepted, refused, pick}
use Rattle.groups.specs.Constants.{big_helper_value}
use Rattle.groups.specs.declared.helpers.UserOpHelpers.{UserOpHelpers}
use Rattle.groups.specs.Helpers.{all_below, six, low, high, minus, limbs_and_inverse}

-- the family of each case
abbrev pub family_of : OperationHelperRegisters → Family
family_of (Eq second first) = Inverse first second
family_of (U32Split lo hi) = LimbsAndInverse lo hi
family_of (Eqz top) = Inverse top 0
family_of (Expacc val) = Cells val 0 0 0 0 0
family_of (FriExt2Fold4 ev es x inv) = Cells ev.0 ev.1 es.0 es.1 x inv
family_of (U32Add sum carry) = Limbs sum carry 0
family_of (U32Add3 sum carry) = Limbs sum carry 0
family_of (U32Sub difference) = Limbs difference 0 0
family_of (U32Mul lo hi) = LimbsAndInverse lo hi
family_of (U32Madd lo hi) = LimbsAndInverse lo hi
family_of (U32Div quotient remainder diff) = Limbs quotient remainder diff
family_of (U32Assert2 first second) = Limbs second first 0
family_of (HPerm addr) = Cells addr 0 0 0 0 0
family_of (MerklePath addr) = Cells addr 0 0 0 0 0
family_of (HornerEvalBase alpha tmp0 tmp1) = Cells alpha.0 alpha.1 tmp1.0 tmp1.1 tmp0.0 tmp0.1
family_of (HornerEvalExt alpha acc) = Cells alpha.0 alpha.1 0 0 acc.0 acc.1
family_of (LogDeferred addr root) = Cells addr root.0 root.1 root.2 root.3 0
family_of Empty = Cells 0 0 0 0 0 0

-- a family with each of its numbers read as a cell
abbrev pub read_family : Family → Family
read_family (Cells a b c d e f) = Cells (read a) (read b) (read c) (read d) (read e) (read f)
read_family (Inverse a b) = Inverse (read a) (read b)
read_family (Limbs a b c) = Limbs (read a) (read b) (read c)
read_family (LimbsAndInverse lo hi) = LimbsAndInverse (read lo) (read hi)

-- its helpers, or 9 where a value is not below 2^32
unfoldable pub found_of : Family → Answer UserOpHelpers
found_of (Cells a b c d e f) = accepted (six a b c d e f)
found_of (Inverse a b) = accepted (six (inverse_of (minus a b)) 0 0 0 0 0)
found_of (Limbs a b c) =
    pick (all_below 4294967296 (a ∷ b ∷ c ∷ [])) (accepted (six (low a) (high a) (low b) (high b) (low c) (high c))) (refused big_helper_value)
found_of (LimbsAndInverse lo hi) = pick (all_below 4294967296 (lo ∷ hi ∷ [])) (accepted (limbs_and_inverse lo hi)) (refused big_helper_value)
