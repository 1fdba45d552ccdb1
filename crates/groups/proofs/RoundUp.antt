-- `round_up` is the least power of two that is not below its argument.
use mathlib.Core.Path.{◌≡◌, refl}
use mathlib.Core.Bool.{Bool, true, false}
use Prim.Native.Nat.{ℕ, zero, suc, ◌+◌, ◌/◌, ◌^◌, ◌≤◌, ◌<◌}
use native.Mathlib.Nat.{two-pow-succ, pow-le-pow_right}
use native.Mathlib.Omega.{arith}
use borrow.Author.Tests.{leb-true, leb-false}
use lib.Dec.{leb}
use Rattle.std.specs.Int.{IsNextPowerOfTwo}
use Rattle.std.proofs.Common.{max}
use Rattle.groups.specs.Answer.{pick}
use Rattle.groups.specs.GroupsLeft.{doubled, round_up, IsRoundUp}

one-le-power : (e : ℕ) → 1 ≤ 2 ^ e
one-le-power e = pow-le-pow_right {n = 2} (omega arith) {i = 0} {j = e} (omega arith)

-- a power of two that is at least n, where 2 ^ e is not, is at least the next one
next : (e k n : ℕ) (b : Bool) → leb k e ≡ b → 2 ^ e < n → n ≤ 2 ^ k → 2 ^ suc e ≤ 2 ^ k
next e k n true t h l = absurd (omega (arith, pow-le-pow_right {n = 2} (omega arith) {i = k} {j = e} (leb-true k e t)))
next e k n false t h l = pow-le-pow_right {n = 2} (omega arith) {i = suc e} {j = k} (omega (arith, leb-false k e t))

-- the test of one step: 2 ^ e, or x where 2 ^ e is below n
round-test : (e n x : ℕ) → ((k : ℕ) → n ≤ 2 ^ k → 2 ^ e ≤ 2 ^ k) → (2 ^ e < n → IsRoundUp n x) → (b : Bool) → leb n (2 ^ e) ≡ b
    → IsRoundUp n (pick b (2 ^ e) x)
round-test e n x l r true t = record { exponent = e; power = refl; enough = leb-true n (2 ^ e) t; least = l }
round-test e n x l r false t = r (leb-false n (2 ^ e) t)

round-from : (j e n : ℕ) → n ≤ 2 ^ e + j → ((k : ℕ) → n ≤ 2 ^ k → 2 ^ e ≤ 2 ^ k) → IsRoundUp n (doubled j (2 ^ e) n)
unfolding doubled
round-from zero e n h l = record { exponent = e; power = refl; enough = omega arith; least = l }
round-from (suc j) e n h l =
    round-test e n (doubled j (2 ^ e + 2 ^ e) n) l
    (λ a. rw (← (two-pow-succ e)) (round-from j (suc e) n (omega (arith, two-pow-succ e, one-le-power e)) (λ k m. next e k n (leb k e) refl a m)))
    (leb n (2 ^ e))
    refl

pub round-up : (n : ℕ) → IsRoundUp n (round_up n)
unfolding round_up
round-up n = round-from n 0 n (omega arith) (λ k m. one-le-power k)

-- 2 ^ e is the least where half of it is below the number, or is 0
least-power : (e k n : ℕ) (b : Bool) → leb e k ≡ b → 2 ^ e / 2 < max 1 n → n ≤ 2 ^ k → 2 ^ e ≤ 2 ^ k
least-power e k n true t h l = pow-le-pow_right {n = 2} (omega arith) {i = e} {j = k} (leb-true e k t)
least-power e k n false t h l =
    let p = pow-le-pow_right {n = 2} (omega arith) {i = suc k} {j = e} (omega (arith, leb-false e k t)) in
    omega (arith, p, two-pow-succ k, one-le-power k)

-- two that are least are one
same-round : (n r s : ℕ) → IsRoundUp n r → IsRoundUp n s → r ≤ s
same-round n r s u v = rw v.power (u.least v.exponent (rw v.power at v.enough))

-- the library's word for the least power of two says the same
pub next_power : (n r : ℕ) → IsNextPowerOfTwo n r → r ≡ round_up n
next_power n r (power, above, below) =
    let u : IsRoundUp n r = record { exponent = power.0; power = power.1; enough = above; least = λ k l. rw power.1 (least-power power.0 k n (leb power.0 k) refl (rw power.1 at below) l) } in
    let v = round-up n in
    omega (arith, same-round n r (round_up n) u v, same-round n (round_up n) r v u)
