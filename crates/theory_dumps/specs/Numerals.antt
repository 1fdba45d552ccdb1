-- Numbers written out as ASCII digits, the highest first, without leading zeros; 0 is one digit.
use Rattle.std.specs.Prelude.{List, [], ◌∷◌, ◌++◌, ℕ, zero, suc, ◌+◌, ◌/◌, ◌%◌, ltb}
use Rattle.groups.specs.Answer.{pick}

-- the digits in a base of a number that has at most k of them
unfoldable pub numeral_within : (base k n : ℕ) → List ℕ
numeral_within base zero n = []
numeral_within base (suc k) n = pick (ltb n base) ((48 + n) ∷ []) (numeral_within base k (n / base) ++ ((48 + n % base) ∷ []))

-- a number of 64 bits has at most 20 decimal digits
abbrev pub decimal : ℕ → List ℕ
decimal n = numeral_within 10 20 n

abbrev pub binary : ℕ → List ℕ
binary n = numeral_within 2 64 n
