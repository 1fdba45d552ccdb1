-- What no proper run is: lists of cycles with one thing that document 01 does not allow, each beside the same list without it.
use mathlib.Core.Path.{◌≡◌, ◌∙◌, refl, ap}
use mathlib.Core.Bool.{Bool, true, false}
use mathlib.Core.List.{List, [], ◌∷◌, ◌++◌, map}
use mathlib.Core.Logic.{◌⊎◌, inl, inr}
use Prim.Native.Nat.{ℕ, zero, suc}
use native.Mathlib.Omega.{arith}
use lib.ListN.{length, get_or}
use Rattle.rows.specs.declared.records.profile.Profile.{Profile}
use Rattle.rows.specs.records.Forests.{Forest}
use Rattle.theory_readings.specs.Tokens.{OneChild, split, call, syscall, Kind}
use Rattle.theory_readings.proofs.Examples.{profile}
use Rattle.theory_runs.specs.Happened.{Ending, Did, started, operated, respanned, repeated, finished, Cycle}
use Rattle.theory_runs.specs.ProperRuns.{moved, Run}
use Rattle.theory_runs.proofs.ExactRuns.{from_start, grove, forest, other, spanned, under, passing, large-exact, join-exact, split-exact, call-exact, syscall-exact, loop-exact, large-proper, join-proper, split-proper, call-proper, syscall-proper, loop-proper}

-- What tells cycles apart: the forest, and the numbers of what was done.
abbrev flag_number : Bool → ℕ
flag_number true = 1
flag_number false = 0

abbrev ending_number : Ending → ℕ
ending_number Ending.FinishBasicBlock = 0
ending_number Ending.FinishJoin = 1
ending_number Ending.FinishSplit = 2
ending_number Ending.FinishLoop = 3
ending_number Ending.FinishCall = 4
ending_number Ending.FinishDyn = 5

abbrev numbers_of : Did → List ℕ
numbers_of (started kind id b a) = id ∷ b ∷ a ∷ []
numbers_of (operated id i j opcode) = id ∷ i ∷ j ∷ opcode ∷ []
numbers_of (respanned id i) = id ∷ i ∷ []
numbers_of (repeated id) = id ∷ []
numbers_of (finished ending id flag b a g) = id ∷ flag_number flag ∷ b ∷ a ∷ g ∷ ending_number ending ∷ []
numbers_of Did.nothing = []

abbrev cycle_at : (n : ℕ) → List Cycle → Cycle
cycle_at n [] = (forest, Did.nothing)
cycle_at zero (c ∷ cycles) = c
cycle_at (suc n) (c ∷ cycles) = cycle_at n cycles

abbrev number_at : (n i : ℕ) → List Cycle → ℕ
number_at n i cycles = get_or (numbers_of (cycle_at n cycles).1) i 0

abbrev forest_at : (n : ℕ) → List Cycle → Forest
forest_at n cycles = (cycle_at n cycles).0

-- Lists of cycles with one thing or another in them, of nodes at 1 under 0.

-- a Join of node m of the forest h at 3 and node n at 5. The first child has the parent address x queued, and its finish cycle the third number
-- t and the flag
abbrev joined : (h : Forest) → (m n x t : ℕ) → (flag : Bool) → List Cycle
joined h m n x t flag =
    (forest, started Kind.join 0 1 0)
    ∷ (h, started Kind.span m 3 x) ∷ (h, operated m 0 0 5) ∷ (h, operated m 0 1 6) ∷ (h, finished Ending.FinishBasicBlock m flag 3 1 t)
    ∷ spanned forest n false 1 5 0 ((forest, finished Ending.FinishJoin 0 false 1 0 99) ∷ [])

-- a node with one child: node m of the forest h at 3; and its finish cycle
abbrev above : OneChild → Ending → (id : ℕ) → (h : Forest) → (m : ℕ) → List Cycle
above kind ending id h m = under kind ending id h m false 0 1 99 3 []

-- two passes of a Loop: node m of the forest h at 3 with the flag, FinishLoop of node j with condition one, and its body at 5
abbrev looped : (h : Forest) → (m j : ℕ) → (flag : Bool) → List Cycle
looped h m j flag =
    (forest, started Kind.loop 5 1 0) ∷ spanned h m flag 1 3 0 ((forest, repeated j) ∷ spanned forest 1 true 1 5 0 ((forest, finished Ending.FinishLoop 5 false 1 0 99) ∷ []))

-- the block of two batches: these cycles, the Respan of batch i, the last operation, and x ended
abbrev batched : List Did → (i x : ℕ) → List Cycle
batched dids i x = (forest, started Kind.span 8 1 0) ∷ map (λ d. (forest, d)) (dids ++ respanned 8 i ∷ operated 8 1 0 7 ∷ finished Ending.FinishBasicBlock 8 false x 0 99 ∷ [])

-- They are proper runs:
joined-proper : Run profile forest 0 false 0 1 99 (joined forest 1 2 1 0 false) []
joined-proper = join-proper

split-above : (Run profile forest 4 false 0 1 99 (above split Ending.FinishSplit 4 forest 1) []) × Run profile forest 4 false 0 1 99 (above split Ending.FinishSplit 4 forest 2) []
split-above = (split-proper (inl refl), split-proper (inr refl))

call-above : Run profile forest 6 false 0 1 99 (above call Ending.FinishCall 6 forest 1) []
call-above = call-proper

syscall-above : Run profile forest 7 false 0 1 99 (above syscall Ending.FinishCall 7 forest 1) []
syscall-above = syscall-proper

looped-proper : Run profile forest 5 false 0 1 99 (looped forest 1 5 true) []
unfolding passing
looped-proper = loop-proper 3 (5 ∷ [])

batched-proper : Run profile forest 8 false 0 1 99 (batched (operated 8 0 0 5 ∷ operated 8 0 1 6 ∷ []) 1 3) []
batched-proper = large-proper

-- with any other thing in one place they are none, whatever the root, its addresses and the rest
module _ (p : Profile) (f : Forest) (id : ℕ) (body : Bool) (a b g : ℕ) (rest : List Cycle) where
  abbrev Proper : List Cycle → Type 0
  Proper cycles = Run p f id body a b g cycles rest

  joined-only : (h : Forest) (m n x t : ℕ) (flag : Bool) → Proper (joined h m n x t flag) → (h ≡ forest) × (m ≡ 1) × (n ≡ 2) × (x ≡ 1) × (t ≡ 0) × (flag_number flag ≡ 0)
  joined-only h m n x t flag r =
      let (c, d, e) = join-exact (from_start r) in
      (ap (forest_at 1) e, ap (number_at 1 0) e, ap (number_at 5 0) e, ap (number_at 1 2) e, ap (number_at 4 4) e, ap (number_at 4 1) e)

  split-only : (h : Forest) (m : ℕ) → Proper (above split Ending.FinishSplit 4 h m) → (h ≡ forest) × ((m ≡ 1) ⊎ (m ≡ 2))
  split-only h m r =
      let (n, c, own, e) = split-exact (from_start r) in let k : m ≡ n = ap (number_at 1 0) e in (ap (forest_at 1) e, rw k own)

  call-only : (h : Forest) (m : ℕ) → Proper (above call Ending.FinishCall 6 h m) → (h ≡ forest) × (m ≡ 1)
  call-only h m r = let (n, c, own, e) = call-exact (from_start r) in (ap (forest_at 1) e, ap (number_at 1 0) e ∙ own)

  syscall-only : (h : Forest) (m : ℕ) → Proper (above syscall Ending.FinishCall 7 h m) → (h ≡ forest) × (m ≡ 1)
  syscall-only h m r = let (n, c, own, e) = syscall-exact (from_start r) in (ap (forest_at 1) e, ap (number_at 1 0) e ∙ own)

  looped_by : (h : Forest) (m j : ℕ) (flag : Bool) (c : ℕ) (others : List ℕ) → looped h m j flag ≡ (forest, started Kind.loop 5 1 0) ∷ passing body 0 1 g c others rest →
      (h ≡ forest) × (m ≡ 1) × (j ≡ 5) × (flag_number flag ≡ 1)
  unfolding passing
  looped_by h m j flag c [] e = let n = ap (number_at 5 2) e in absurd (omega arith)
  looped_by h m j flag c (d ∷ others) e = (ap (forest_at 1) e, ap (number_at 1 0) e, ap (number_at 5 0) e, ap (number_at 4 1) e)

  looped-only : (h : Forest) (m j : ℕ) (flag : Bool) → Proper (looped h m j flag) → (h ≡ forest) × (m ≡ 1) × (j ≡ 5) × (flag_number flag ≡ 1)
  looped-only h m j flag r = let (c, others, e) = loop-exact (from_start r) in looped_by h m j flag c others e

  batched-only : (i x : ℕ) → Proper (batched (operated 8 0 0 5 ∷ operated 8 0 1 6 ∷ []) i x) → (i ≡ 1) × (x ≡ moved p 1)
  batched-only i x r = let e = large-exact (from_start r) in (ap (number_at 3 1) e, ap (number_at 5 2) e)

  -- "Join: first, second": another first child, another second, the two exchanged
  first-not-own : Proper (joined forest 3 2 1 0 false) → ⊥
  first-not-own r = let e = (joined-only forest 3 2 1 0 false r).1 in omega arith

  second-not-own : Proper (joined forest 1 3 1 0 false) → ⊥
  second-not-own r = let e = (joined-only forest 1 3 1 0 false r).2 in omega arith

  exchanged : Proper (joined forest 2 1 1 0 false) → ⊥
  exchanged r = let e = (joined-only forest 2 1 1 0 false r).1 in omega arith

  -- "Split: one child", "Call: the callee", the Loop's body
  split-not-own : Proper (above split Ending.FinishSplit 4 forest 3) → ⊥
  split-not-own r = neither (split-only forest 3 r).1
    where
      neither : (◌≡◌ {A = ℕ} 3 1) ⊎ (◌≡◌ {A = ℕ} 3 2) → ⊥
      neither (inl e) = omega arith
      neither (inr e) = omega arith

  call-not-own : Proper (above call Ending.FinishCall 6 forest 3) → ⊥
  call-not-own r = let e = (call-only forest 3 r).1 in omega arith

  syscall-not-own : Proper (above syscall Ending.FinishCall 7 forest 3) → ⊥
  syscall-not-own r = let e = (syscall-only forest 3 r).1 in omega arith

  body-not-own : Proper (looped forest 3 5 true) → ⊥
  body-not-own r = let e = (looped-only forest 3 5 true r).1 in omega arith

  -- "each node one forest, shared by its children": a child in another forest
  apart : other ≡ forest → ⊥
  unfolding grove forest other
  apart e = let n = ap (λ (h : Forest). length h.ops) e in omega arith

  join-not-shared : Proper (joined other 1 2 1 0 false) → ⊥
  join-not-shared r = apart (joined-only other 1 2 1 0 false r).0

  split-not-shared : Proper (above split Ending.FinishSplit 4 other 1) → ⊥
  split-not-shared r = apart (split-only other 1 r).0

  call-not-shared : Proper (above call Ending.FinishCall 6 other 1) → ⊥
  call-not-shared r = apart (call-only other 1 r).0

  syscall-not-shared : Proper (above syscall Ending.FinishCall 7 other 1) → ⊥
  syscall-not-shared r = apart (syscall-only other 1 r).0

  loop-not-shared : Proper (looped other 1 5 true) → ⊥
  loop-not-shared r = apart (looped-only other 1 5 true r).0

  -- "then the finish cycle": a Call with a Split's
  finish-not-own : Proper (above call Ending.FinishSplit 6 forest 1) → ⊥
  finish-not-own r = let (n, c, own, e) = call-exact (from_start r) in let k = ap (number_at 5 5) e in omega arith

  -- "an operation cycle for each operation": one left out, one twice, two in the wrong order
  left_out : Proper (batched (operated 8 0 0 5 ∷ []) 1 3) → ⊥
  left_out r = let e = ap (number_at 2 1) (large-exact (from_start r)) in omega arith

  twice : Proper (batched (operated 8 0 0 5 ∷ operated 8 0 0 5 ∷ operated 8 0 1 6 ∷ []) 1 3) → ⊥
  twice r = let e = ap (number_at 2 2) (large-exact (from_start r)) in omega arith

  wrong-order : Proper (batched (operated 8 0 1 6 ∷ operated 8 0 0 5 ∷ []) 1 3) → ⊥
  wrong-order r = let e = ap (number_at 1 2) (large-exact (from_start r)) in omega arith

  -- "a Respan before each batch but the first": with another batch's index
  respan-of-another : Proper (batched (operated 8 0 0 5 ∷ operated 8 0 1 6 ∷ []) 2 3) → ⊥
  respan-of-another r = let e = (batched-only 2 3 r).0 in omega arith

  -- "StartNode with b and a queued": a child that has not its parent's address; "and the parent's parent"; the flag, and that a body has it
  parent-not-queued : Proper (joined forest 1 2 0 0 false) → ⊥
  parent-not-queued r = let e = (joined-only forest 1 2 0 0 false r).3 in omega arith

  third-another : Proper (joined forest 1 2 1 99 false) → ⊥
  third-another r = let e = (joined-only forest 1 2 1 99 false r).4 in omega arith

  flag-outside-a-loop : Proper (joined forest 1 2 1 0 true) → ⊥
  flag-outside-a-loop r = let e = (joined-only forest 1 2 1 0 true r).5 in omega arith

  body-without-flag : Proper (looped forest 1 5 false) → ⊥
  body-without-flag r = let e = (looped-only forest 1 5 false r).3 in omega arith

-- "for a block b moved on by the step for each Respan": an end entry without it, for the profile with step 2
not-moved : (f : Forest) (id : ℕ) (body : Bool) (a b g : ℕ) (rest : List Cycle) → Run profile f id body a b g (batched (operated 8 0 0 5 ∷ operated 8 0 1 6 ∷ []) 1 1) rest → ⊥
not-moved f id body a b g rest r = let e = (batched-only profile f id body a b g rest 1 1 r).1 in omega arith
