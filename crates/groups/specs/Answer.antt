-- What a call answers, in document 01's terms. "Each returns its number, other answers 0."
use Rattle.std.specs.Prelude.{Bool, true, false, List, [], ◌∷◌, ℕ}

-- values, or a refusal's number
pub data Answer (A : Type 0) : Type 0 where
  accepted : A → Answer A
  refused : ℕ → Answer A

-- the number that is returned: 0 where the call is accepted
abbrev pub refusal : {A : Type 0} → Answer A → ℕ
refusal (accepted a) = 0
refusal (refused n) = n

-- the values that are returned: `none`, all 0, on a refusal
abbrev pub values : {A : Type 0} → A → Answer A → A
values none (accepted a) = a
values none (refused n) = none

-- a refusal leaves early, and else f goes on with the values
abbrev pub and_then : {A B : Type 0} → Answer A → (A → Answer B) → Answer B
and_then (accepted a) f = f a
and_then (refused n) f = refused n

-- x under a test that holds, else y
abbrev pub pick : {A : Type 0} → Bool → A → A → A
pick true x y = x
pick false x y = y

-- the first refusal of a list that holds, 0 where none does
unfoldable pub first_of : List (Bool × ℕ) → ℕ
first_of [] = 0
first_of ((true, number) ∷ rest) = number
first_of ((false, number) ∷ rest) = first_of rest
