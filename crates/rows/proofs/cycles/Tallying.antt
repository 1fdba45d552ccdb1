-- The parts of a finish that is lent a tally.
use mathlib.Core.Path.{◌≡◌}
use mathlib.Core.Bool.{false}
use mathlib.Core.List.{List}
use Prim.Native.Nat.{ℕ, ◌<◌}
use borrow.Author.Tests.{lt-ltb, leb-false, ne_eqb}
use lib.Dec.{leb}
use lib.ListN.{length}
use Rattle.groups.specs.declared.helpers.OperationHelperRegisters.{OperationHelperRegisters}
use Rattle.rows.specs.declared.records.state.StackState.{StackState}
use Rattle.rows.specs.declared.cycles.tracer.CoreTraceGenerationTracer.{CoreTraceGenerationTracer}
use Rattle.rows.specs.records.Forests.{Forest}
use Rattle.rows.specs.records.Addresses.{Queues}
use Rattle.rows.specs.cycles.Scans.{scan_of}
use Rattle.rows.specs.cycles.Cycles.{cycle_with}
use Rattle.groups.specs.Answer.{refused}
use Rattle.rows.specs.declared.records.profile.Profile.{Profile}
use Rattle.rows.specs.declared.cycles.scan.Scan.{Scan}
use Rattle.rows.specs.cycles.LentTally.{count_in, is_free, is_of, first, place_for, cannot_count, with_tally, unless_full, tallied_cycle}
use Rattle.rows.proofs.passes.Checks.{neither}

-- THE PLACE

module _ (tally : List ℕ) (addr : ℕ) where
  -- the first in use with the address
  pub place-in-use : (place : ℕ) → first (is_of tally addr) ≡ place → place < 256 → place_for tally addr ≡ place
  unfolding place_for
  place-in-use place e h = rw (e, lt-ltb place 256 h)

  -- there is none: the first free one
  pub place-free : first (is_of tally addr) ≡ 256 → place_for tally addr ≡ first (is_free tally)
  unfolding place_for
  place-free e = rw e

-- there is a place, and its count can grow
pub place-left : (tally : List ℕ) (place : ℕ) → cannot_count tally place ≡ false → (place < 256) × (count_in tally place < 16777216)
unfolding cannot_count
place-left tally place e =
    let (some, small) = neither (leb 256 place) _ e in
    (leb-false 256 place some, leb-false 16777216 (count_in tally place) small)

-- a tracer that keeps a refusal answers it
pub kept_cycle : (p : Profile) (f : Forest) (q : Queues) (stack : StackState) (registers : OperationHelperRegisters) (scan : Scan) (cells : ℕ) (t : CoreTraceGenerationTracer)
    → (t.refusal ≡ 0 → ⊥) → cycle_with scan p f q stack registers cells t ≡ refused t.refusal
unfolding cycle_with
kept_cycle p f q stack registers scan cells t h = rw (ne_eqb t.refusal 0 h)

pub kept_tallied : (p : Profile) (f : Forest) (q : Queues) (stack : StackState) (registers : OperationHelperRegisters) (tally fragment : List ℕ) (t : CoreTraceGenerationTracer)
    → (t.refusal ≡ 0 → ⊥) → tallied_cycle p f q stack registers tally fragment t ≡ refused t.refusal
unfolding tallied_cycle unless_full
kept_tallied p f q stack registers tally fragment t h = rw (kept_cycle p f q stack registers (with_tally (length tally) (scan_of p f.nodes f.batches f.ops)) (length fragment) t h)
