-- The second pass on what the rows show, what the rows show of what a reading asks, and the sums over the loops of a run.
use mathlib.Core.Path.{◌≡◌, ◌∙◌, refl, sym}
use mathlib.Core.Bool.{Bool, true, false}
use mathlib.Core.List.{List, [], ◌∷◌}
use Prim.Native.Nat.{ℕ, zero, suc, ◌+◌}
use native.Mathlib.Omega.{arith}
use borrow.Author.Tests.{eq-eqb, eqb-false, ne_eqb}
use lib.Dec.{eqb}
use Rattle.groups.specs.Answer.{pick}
use Rattle.rows.specs.records.Profiles.{is_one_of, two_equal}
use Rattle.rows.specs.records.DecoderRows.{bit}
use Rattle.rows.proofs.passes.Checks.{neither}
use Rattle.theory_readings.specs.Readings.{Ask}
use Rattle.theory_runs.proofs.Looks.{Mark, none, flag, count, Seen, seen}

-- 1 if the numbers are equal, else 0
abbrev pub same : ℕ → ℕ → ℕ
same y x = pick (eqb y x) 1 0

-- 1 if there is a first row and its address is x, else 0
unfoldable pub heads : ℕ → List Seen → ℕ
heads x [] = 0
heads x (seen token addr mark ∷ l) = same addr x

-- k for a flag that is exactly 1, else 0
unfoldable pub if_flag : Mark → ℕ → ℕ
if_flag none k = 0
if_flag (flag h) k = pick (eqb h 1) k 0
if_flag (count c) k = 0

-- the number of flagged END rows, not last, whose successor has the address x
unfoldable pub hits : ℕ → List Seen → ℕ
hits x [] = 0
hits x (seen token addr mark ∷ l) = if_flag mark (heads x l) + hits x l

-- m of the first row's address, c if there is none
unfoldable pub behind : (ℕ → ℕ) → ℕ → List Seen → ℕ
behind m c [] = c
behind m c (seen token addr mark ∷ l) = m addr

unfoldable pub recount : (ℕ → ℕ) → Mark → List Seen → Mark
recount m none l = none
recount m (flag h) l = flag h
recount m (count c) l = count (behind m c l)

-- each LOOP row but a last one has m of its successor's address for its count
unfoldable pub counted : (ℕ → ℕ) → List Seen → List Seen
counted m [] = []
counted m (seen token addr mark ∷ l) = seen token addr (recount m mark l) ∷ counted m l

-- what row n shows of what a reading asks
unfoldable pub shows : ℕ → Mark → List Ask → List Ask
shows n none r = r
shows n (flag h) r = Ask.flag n h ∷ r
shows n (count c) r = Ask.count n c ∷ r

unfoldable pub shown : ℕ → List Seen → List Ask
shown n [] = []
shown n (seen token addr mark ∷ l) = shows n mark (shown (suc n) l)

-- SUMS

-- a loop that ran: its address and its passes
abbrev pub Looped : Type 0
Looped = ℕ × ℕ

unfoldable pub times : ℕ → ℕ → ℕ
times zero k = 0
times (suc n) k = k + times n k

-- the passes of the loops at the address x
unfoldable pub total : ℕ → List Looped → ℕ
total x [] = 0
total x (y ∷ q) = times y.1 (same y.0 x) + total x q

unfoldable pub addresses : List Looped → List ℕ
addresses [] = []
addresses (y ∷ q) = y.0 ∷ addresses q

-- m has for each loop's address its passes
unfoldable pub Counts : (ℕ → ℕ) → List Looped → Type 0
Counts m [] = Unit {0}
Counts m (y ∷ q) = (m y.0 ≡ y.1) × Counts m q

same_refl : (n : ℕ) → same n n ≡ 1
same_refl n = rw (eq-eqb n n refl)

times-one : (n : ℕ) → times n 1 ≡ n
unfolding times
times-one zero = refl
times-one (suc n) = omega (arith, times-one n)

times_zero : (n : ℕ) → times n 0 ≡ 0
unfolding times
times_zero zero = refl
times_zero (suc n) = omega (arith, times_zero n)

other_way : (m n : ℕ) → eqb m n ≡ false → eqb n m ≡ false
other_way m n e = ne_eqb n m (λ z. eqb-false m n e (sym z))

total-absent : (x : ℕ) (q : List Looped) → is_one_of x (addresses q) ≡ false → total x q ≡ 0
unfolding total addresses is_one_of
total-absent x [] h = refl
total-absent x (y ∷ q) h =
    let (a, b) = neither (eqb x y.0) (is_one_of x (addresses q)) h in
    rw (other_way x y.0 a, times_zero) (omega (arith, total-absent x q b))

-- e is 0 at each of the addresses
unfoldable Zero : (ℕ → ℕ) → List ℕ → Type 0
Zero e [] = Unit {0}
Zero e (x ∷ l) = (e x ≡ 0) × Zero e l

zero_more : (e : ℕ → ℕ) (b t : ℕ) (l : List ℕ) → Zero e l → is_one_of b l ≡ false → Zero (λ x. e x + times t (same b x)) l
unfolding Zero is_one_of
zero_more e b t [] z h = tt
zero_more e b t (x ∷ l) z h =
    let (i, j) = neither (eqb b x) (is_one_of b l) h in
    (rw (i, times_zero, z.0), zero_more e b t l z.1 j)

pub counts-ext : (m k : ℕ → ℕ) (q : List Looped) → ((x : ℕ) → m x ≡ k x) → Counts m q → Counts k q
unfolding Counts
counts-ext m k [] h c = tt
counts-ext m k (y ∷ q) h c = (sym (h y.0) ∙ c.0, counts-ext m k q h c.1)

counts-from : (q : List Looped) (e : ℕ → ℕ) → Zero e (addresses q) → two_equal (addresses q) ≡ false → Counts (λ x. e x + total x q) q
unfolding Counts two_equal addresses total Zero
counts-from [] e z h = tt
counts-from (y ∷ q) e z h =
    let (i, j) = neither (is_one_of y.0 (addresses q)) (two_equal (addresses q)) h in (
      rw (same_refl y.0, times-one, total-absent y.0 q i, z.0) (omega arith),
      counts-ext _ _ q (λ x. omega arith) (counts-from q (λ x. e x + times y.1 (same y.0 x)) (zero_more e y.0 y.1 (addresses q) z.1 i) j),
    )

zero-zero : (l : List ℕ) → Zero (λ x. 0) l
unfolding Zero
zero-zero [] = tt
zero-zero (x ∷ l) = (refl, zero-zero l)

-- with no two loops at one address the sum at each of these is its passes
pub counts-total : (q : List Looped) → two_equal (addresses q) ≡ false → Counts (λ x. 0 + total x q) q
counts-total q h = counts-from q (λ x. 0) (zero-zero (addresses q)) h

-- a flag counts only what is behind it
pub flag-zero : (body : Bool) → if_flag (flag (bit body)) 0 ≡ 0
unfolding if_flag
flag-zero true = refl
flag-zero false = refl
