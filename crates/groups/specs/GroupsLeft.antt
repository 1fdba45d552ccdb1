-- Document 01: "At SPAN the count is the block total, lent as `num_op_groups` answers; at RESPAN the plain sum of groups from that
-- batch on. At an operation, groups left = block total − consumed, where each earlier batch consumes its groups rounded up to a power
-- of two (0 counts 1, 5 counts 8), each PUSH before the operation in its group (by the group's 7-bit digits, lowest first) 1, and the
-- group index plus 1."
use Rattle.std.specs.Prelude.{◌≡◌, Bool, true, false, ◌||◌, List, [], ◌∷◌, ℕ, zero, suc, ◌+◌, ◌*◌, ◌/◌, ◌%◌, ◌^◌, ◌≤◌, leb, ltb, eqb, get_or}
use Rattle.groups.specs.Answer.{pick}
use Rattle.groups.specs.declared.sum.GroupSum.{GroupSum}

-- the group counts of n batches from record r on
unfoldable pub counts : (batches : List ℕ) → (r n : ℕ) → List ℕ
counts batches r zero = []
counts batches r (suc n) = get_or batches (12 * r) 0 ∷ counts batches (r + 1) n

-- the first of power, 2 · power, 4 · power .. that is not below count; no run uses up the steps
unfoldable pub doubled : (steps power count : ℕ) → ℕ
doubled zero power count = power
doubled (suc steps) power count = pick (leb count power) power (doubled steps (power + power) count)

-- "rounded up to a power of two (0 counts 1, 5 counts 8)"
unfoldable pub round_up : ℕ → ℕ
round_up count = doubled count 1 count

-- r is the least power of two that is not below count: the law that `round_up` meets (`proofs/RoundUp.antt`)
pub record IsRoundUp (count r : ℕ) : Type 0 where
  pub exponent : ℕ
  pub power : r ≡ 2 ^ exponent
  pub enough : count ≤ r
  pub least : (k : ℕ) → count ≤ 2 ^ k → r ≤ 2 ^ k

-- a batch's groups, rounded up or as they are
unfoldable pub groups_of : (rounded : Bool) → ℕ → ℕ
groups_of true count = round_up count
groups_of false count = count

-- the sum over some batches
unfoldable pub sum_groups : (rounded : Bool) → List ℕ → ℕ
sum_groups rounded [] = 0
sum_groups rounded (count ∷ counts) = groups_of rounded count + sum_groups rounded counts

-- one of the batches has more than 8 groups
unfoldable pub any_above8 : List ℕ → Bool
any_above8 [] = false
any_above8 (count ∷ counts) = ltb 8 count || any_above8 counts

-- what some batches add up to
unfoldable pub group_sum : (rounded : Bool) → List ℕ → GroupSum
group_sum rounded counts = record { groups = sum_groups rounded counts; above8 = any_above8 counts }

-- how many of the lowest n digits of 7 bits of a group are PUSH
unfoldable pub pushes : (push n group : ℕ) → ℕ
pushes push zero group = 0
pushes push (suc n) group = pick (eqb (group % 128) push) 1 0 + pushes push n (group / 128)
