-- A profile that is not refused: its opcodes are below 128 and no two are equal; an op's opcode is none of the control opcodes.
use mathlib.Core.Path.{◌≡◌, refl, sym, ap}
use mathlib.Core.Bool.{true, false}
use mathlib.Core.List.{List, [], ◌∷◌}
use Prim.Native.Nat.{ℕ, zero, suc, ◌<◌}
use native.Mathlib.Omega.{arith}
use borrow.Author.Tests.{leb-false, eqb-false, ne_eqb, not-true}
use lib.Dec.{leb, eqb}
use lib.ListN.{length, get_or}
use Rattle.rows.specs.declared.records.profile.Profile.{Profile}
use Rattle.field.specs.Bounds.{any_from}
use Rattle.rows.specs.records.Profiles.{opcodes, is_one_of, two_equal, profile_wrong}
use Rattle.rows.proofs.passes.Checks.{neither}
use Rattle.theory_readings.specs.Tokens.{controls, control_opcodes, is_op_opcode}

-- numbers below a limit
pub below_at : (limit : ℕ) (l : List ℕ) (i : ℕ) → any_from limit l ≡ false → i < length l → get_or l i 0 < limit
unfolding any_from
below_at limit [] i e h = absurd (omega arith)
below_at limit (x ∷ l) zero e h = leb-false limit x (neither (leb limit x) (any_from limit l) e).0
below_at limit (x ∷ l) (suc i) e h = below_at limit l i (neither (leb limit x) (any_from limit l) e).1 (omega arith)

-- x is none of the numbers
pub not-one : (x : ℕ) (l : List ℕ) (i : ℕ) → is_one_of x l ≡ false → i < length l → ¬ (x ≡ get_or l i 0)
unfolding is_one_of
not-one x [] i e h = absurd (omega arith)
not-one x (y ∷ l) zero e h = eqb-false x y (neither (eqb x y) (is_one_of x l) e).0
not-one x (y ∷ l) (suc i) e h = not-one x l i (neither (eqb x y) (is_one_of x l) e).1 (omega arith)

-- no two are equal
pub apart : (l : List ℕ) (i j : ℕ) → two_equal l ≡ false → i < length l → j < length l → ¬ (i ≡ j) → eqb (get_or l i 0) (get_or l j 0) ≡ false
unfolding two_equal
apart [] i j e h k n = absurd (omega arith)
apart (x ∷ l) zero zero e h k n = absurd (n refl)
apart (x ∷ l) zero (suc j) e h k n = ne_eqb x (get_or l j 0) (not-one x l j (neither (is_one_of x l) (two_equal l) e).0 (omega arith))
apart (x ∷ l) (suc i) zero e h k n = ne_eqb (get_or l i 0) x (λ z. not-one x l i (neither (is_one_of x l) (two_equal l) e).0 (omega arith) (sym z))
apart (x ∷ l) (suc i) (suc j) e h k n = apart l i j (neither (is_one_of x l) (two_equal l) e).1 (omega arith) (omega arith) (λ z. n (ap suc z))

module _ (p : Profile) (right : profile_wrong p ≡ false) where
  opcodes-small : any_from 128 (opcodes p) ≡ false
  unfolding profile_wrong
  opcodes-small = (neither (any_from 128 (opcodes p)) _ right).0

  opcodes-apart : two_equal (opcodes p) ≡ false
  unfolding profile_wrong
  opcodes-apart = (neither (two_equal (opcodes p)) _ (neither (any_from 128 (opcodes p)) _ right).1).0

  -- an opcode's place among the thirteen: below 128, and told apart
  pub small_at : (i : ℕ) → i < 13 → get_or (opcodes p) i 0 < 128
  unfolding opcodes
  small_at i h = below_at 128 (opcodes p) i opcodes-small h

  pub apart-at : (i j : ℕ) → i < 13 → j < 13 → ¬ (i ≡ j) → eqb (get_or (opcodes p) i 0) (get_or (opcodes p) j 0) ≡ false
  unfolding opcodes
  apart-at i j h k n = apart (opcodes p) i j opcodes-apart h k n

  -- an op's opcode is none of the control opcodes
  op-other : (opcode i : ℕ) → is_op_opcode p opcode ≡ true → i < 12 → eqb opcode (get_or (control_opcodes p) i 0) ≡ false
  unfolding is_op_opcode control_opcodes controls
  op-other opcode i e h = ne_eqb opcode (get_or (control_opcodes p) i 0) (not-one opcode (control_opcodes p) i (not-true (is_one_of opcode (control_opcodes p)) e) h)

  pub op-no-loop : (opcode : ℕ) → is_op_opcode p opcode ≡ true → eqb opcode p.loop_op ≡ false
  unfolding control_opcodes controls
  op-no-loop opcode e = op-other opcode 4 e (omega arith)

  pub op-no-end : (opcode : ℕ) → is_op_opcode p opcode ≡ true → eqb opcode p.end ≡ false
  unfolding control_opcodes controls
  op-no-end opcode e = op-other opcode 10 e (omega arith)
