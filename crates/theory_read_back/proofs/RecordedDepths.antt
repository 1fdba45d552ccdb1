-- The depths of recorded cycles are of 32 bits: others are refused.
use mathlib.Core.Path.{◌≡◌, refl}
use mathlib.Core.Bool.{Bool, true, false}
use mathlib.Core.List.{List, [], ◌∷◌, ◌++◌}
use Prim.Native.Nat.{ℕ, zero, suc, ◌/◌}
use borrow.Author.Tests.{ltb-true}
use lib.Dec.{ltb, eqb}
use lib.ListN.{length, get_or}
use Rattle.groups.specs.Answer.{Answer, accepted, refused, and_then, pick}
use Rattle.groups.proofs.Answers.{held}
use Rattle.rows.specs.records.Forests.{Forest}
use Rattle.rows.specs.records.CallRecords as records
use Rattle.rows.specs.records.CallRecords.{of32, stored_in_record, system_in, stack_in, registers_in, stores, finishes, finish_in, call_in, record_at}
use Rattle.theory_runs.specs.Calls.{Call, store, finish}
use Rattle.theory_runs.specs.Overflow.{Is32, Depths32, AllDepths32}
use Rattle.theory_read_back.specs.ReplayedRuns.{Lent, call_of, calls_of, fragments_of}

-- of a recorded cycle
unfoldable DepthIs32 : Answer records.RecordedCall → Type 0
DepthIs32 (refused n) = Unit {0}
DepthIs32 (accepted (stores values)) = Unit {0}
DepthIs32 (accepted (finishes k system stack registers)) = Is32 stack.stack_depth

then-32 : {A : Type 0} (a : Answer A) (g : A → Answer records.RecordedCall) → ((x : A) → a ≡ accepted x → DepthIs32 (g x)) → DepthIs32 (and_then a g)
unfolding DepthIs32
then-32 (accepted x) g h = h x refl
then-32 (refused n) g h = tt

pick-32 : (t : Bool) (a b : Answer records.RecordedCall) → DepthIs32 a → DepthIs32 b → DepthIs32 (pick t a b)
pick-32 true a b h k = h
pick-32 false a b h k = k

of32-is : (n x y : ℕ) → of32 n x ≡ accepted y → Is32 y
unfolding of32
of32-is n x y e =
    let (t, i) = held (ltb x 4294967296) n (accepted x) y e in
    let same : x ≡ y = cc in
    rw (← same) (ltb-true x 4294967296 t)

finish-32 : (r : List ℕ) → DepthIs32 (finish_in r)
unfolding finish_in stack_in DepthIs32
finish-32 r =
    then-32 (system_in r) _ (λ system e.
    then-32 (of32 23 (get_or r 24 0)) _ (λ depth narrow.
    then-32 (registers_in r) _ (λ registers e'. of32-is 23 (get_or r 24 0) depth narrow)))

call-32 : (r : List ℕ) → DepthIs32 (call_in r)
unfolding call_in DepthIs32
call-32 r = pick-32 (eqb (get_or r 0 0) 0) _ _ (then-32 (stored_in_record r) _ (λ values e. tt)) (finish-32 r)

depths-app : (l m : List Call) → Depths32 l → Depths32 m → Depths32 (l ++ m)
unfolding Depths32
depths-app [] m h k = k
depths-app (store values ∷ l) m h k = depths-app l m h k
depths-app (finish i ∷ l) m h k = (h.0, depths-app l m h.1 k)

module _ (f : Forest) (directory : List ℕ) where
  call-depth : (a : Answer records.RecordedCall) → DepthIs32 a → Depths32 (call_of f directory a)
  unfolding DepthIs32 call_of Depths32
  call-depth (refused n) h = tt
  call-depth (accepted (stores values)) h = tt
  call-depth (accepted (finishes k system stack registers)) h = (h, tt)

  calls-depths : (numbers : List ℕ) (n : ℕ) → Depths32 (calls_of f directory numbers n)
  unfolding calls_of Depths32
  calls-depths numbers zero = tt
  calls-depths numbers (suc k) =
      depths-app (calls_of f directory numbers k) (call_of f directory (call_in (record_at numbers k))) (calls-depths numbers k) (call-depth (call_in (record_at numbers k)) (call-32 (record_at numbers k)))

  pub recorded-depths : (lents : List Lent) → AllDepths32 (fragments_of f directory lents)
  unfolding fragments_of AllDepths32
  recorded-depths [] = tt
  recorded-depths (l ∷ lents) = (calls-depths l.numbers (length l.numbers / 32), recorded-depths lents)
