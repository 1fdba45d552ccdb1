-- A call, the stretch behind it, and the calls of all records.
use mathlib.Core.Path.{◌≡◌, refl, sym, ◌∙◌, ap}
use mathlib.Core.Bool.{Bool, true, false}
use mathlib.Core.List.{List}
use Prim.Native.Nat.{ℕ, zero, suc, ◌+◌, ◌-◌, ◌*◌, ◌/◌, ◌<◌, ◌≤◌}
use native.Mathlib.Omega.{arith}
use lib.Dec.{eqb}
use lib.ListN.{length, get_or, take, drop}
use Rattle.groups.specs.Answer.{Answer, accepted, refused, pick}
use Rattle.groups.specs.declared.helpers.OperationHelperRegisters.{OperationHelperRegisters}
use Rattle.groups.proofs.Answers.{never, then-accepted}
use Rattle.rows.specs.declared.records.state.SystemState.{SystemState}
use Rattle.rows.specs.declared.records.state.StackState.{StackState}
use Rattle.rows.specs.declared.records.continuation.StoredValues.{StoredValues}
use Rattle.rows.specs.declared.cycles.made.MadeRow.{MadeRow}
use Rattle.rows.specs.declared.cycles.tracer.CoreTraceGenerationTracer.{CoreTraceGenerationTracer}
use Rattle.rows.specs.declared.replay.pairs.Followed.{Followed}
use Rattle.rows.specs.records.Built.{built_system, built_stack}
use Rattle.rows.specs.records.CallRecords.{RecordedCall, stores, finishes, of32, stored_in_record, system_in, stack_in, registers_in, finish_in, recorded_storing, call_in, record_at}
use Rattle.rows.specs.cycles.Cycles.{storing_of, stored_in, keeping, cycle_with, tracer_after}
use Rattle.rows.specs.replay.Calls.{Setting, forest_of, refusing, call_done, call_written, through, written}
use Rattle.rows.specs.ways.Pairs.{steps, steps_written, BuiltBefore, Follows, Goes}
use Rattle.rows.proofs.replay.CallSteps.{Ran}

-- WHAT A CALL THAT WROTE A ROW BUILT

module _ (s : Setting) (t : CoreTraceGenerationTracer) where
  -- the cells that a finish built
  pub record Wrote (a : Answer RecordedCall) : Type 0 where
    pub forest : ℕ
    pub system : SystemState
    pub stack : StackState
    pub registers : OperationHelperRegisters
    pub is : a ≡ accepted (finishes forest system stack registers)
    pub none_kept : (call_done s t a).refusal ≡ 0
    pub system_built : (call_done s t a).system_cols ≡ built_system system
    pub stack_built : (call_done s t a).stack_cols ≡ built_stack stack

  refusing-row : (n : ℕ) (same : Bool) → (pick same (keeping n t) t).row_write_index ≡ t.row_write_index
  refusing-row n true = refl
  refusing-row n false = refl

  storing-row : (values : StoredValues) (same : Bool) → (pick same (storing_of t values) t).row_write_index ≡ t.row_write_index
  storing-row values true = refl
  storing-row values false = refl

  cycle-wrote : (k : ℕ) (system : SystemState) (stack : StackState) (registers : OperationHelperRegisters) (made : Answer MadeRow) →
      cycle_with s.scan s.profile (forest_of s k) s.queues stack registers s.cells t ≡ made → t.row_write_index < (tracer_after system stack t made).row_write_index → Wrote (accepted (finishes k system stack registers))
  unfolding call_done tracer_after
  cycle-wrote k system stack registers (refused n) e more = absurd (omega (arith, more))
  cycle-wrote k system stack registers (accepted m) e more = record {
    forest = k;
    system = system;
    stack = stack;
    registers = registers;
    is = refl;
    none_kept = rw e;
    system_built = rw e;
    stack_built = rw e;
  }

  wrote : (a : Answer RecordedCall) → t.row_write_index < (call_done s t a).row_write_index → Wrote a
  unfolding call_done refusing stored_in
  wrote (refused n) more = absurd (omega (arith, more, refusing-row n (eqb t.refusal 0)))
  wrote (accepted (stores values)) more = absurd (omega (arith, more, storing-row values (eqb t.refusal 0)))
  wrote (accepted (finishes k system stack registers)) more = cycle-wrote k system stack registers _ refl more

no_finish : {B : Type 0} (values : StoredValues) (k : ℕ) (system : SystemState) (stack : StackState) (registers : OperationHelperRegisters) → accepted (stores values) ≡ accepted (finishes k system stack registers) → B
no_finish values k system stack registers e = let z : ◌≡◌ {A = ℕ} 0 1 = cc in absurd (omega arith)

-- what the record of a finish holds
record FinishIn (c : List ℕ) (system : SystemState) (stack : StackState) : Type 0 where
  a_system : system_in c ≡ accepted system
  depth : ℕ
  a_depth : of32 23 (get_or c 24 0) ≡ accepted depth
  stack_is : stack ≡ stack_in c depth

module _ (c : List ℕ) (k : ℕ) (system : SystemState) (stack : StackState) (registers : OperationHelperRegisters) where
  no-storing : (found : Answer StoredValues) → recorded_storing found ≡ accepted (finishes k system stack registers) → FinishIn c system stack
  no-storing (accepted values) e = no_finish values k system stack registers e
  no-storing (refused n) e = never n (finishes k system stack registers) e

  parts : finish_in c ≡ accepted (finishes k system stack registers) → FinishIn c system stack
  unfolding finish_in
  parts e =
      let (system', e1, e2) = then-accepted (system_in c) _ (finishes k system stack registers) e in
      let (depth, e3, e4) = then-accepted (of32 23 (get_or c 24 0)) _ (finishes k system stack registers) e2 in
      let (registers', e5, e6) = then-accepted (registers_in c) _ (finishes k system stack registers) e4 in
      let same : system' ≡ system = cc in
      let stack_is : stack_in c depth ≡ stack = cc in
      record { a_system = e1 ∙ ap accepted same; depth = depth; a_depth = e3; stack_is = sym stack_is }

  by_number : (same : Bool) → pick same (recorded_storing (stored_in_record c)) (finish_in c) ≡ accepted (finishes k system stack registers) → FinishIn c system stack
  by_number true e = no-storing (stored_in_record c) e
  by_number false e = parts e

  finish-parts : call_in c ≡ accepted (finishes k system stack registers) → FinishIn c system stack
  unfolding call_in
  finish-parts e = by_number (eqb (get_or c 0 0) 0) e

-- behind a call that wrote a row
built-so : (s : Setting) (t : CoreTraceGenerationTracer) (records : List ℕ) (k j : ℕ) → j - 1 ≡ k → Wrote s t (call_in (record_at records k)) → t.row_write_index < (call_done s t (call_in (record_at records k))).row_write_index →
    BuiltBefore records j (call_done s t (call_in (record_at records k)))
built-so s t records k j e w more =
    let p = finish-parts (record_at records k) w.forest w.system w.stack w.registers w.is in
    record {
      none_kept = w.none_kept;
      some_row = omega (arith, more);
      system = w.system;
      a_system = rw e p.a_system;
      system_built = w.system_built;
      depth = p.depth;
      a_depth = rw e p.a_depth;
      stack_built = w.stack_built ∙ ap built_stack p.stack_is ∙ rw e;
    }

pub built-behind : (s : Setting) (t' t : CoreTraceGenerationTracer) (records : List ℕ) (k : ℕ) → t' ≡ call_done s t (call_in (record_at records k)) → t.row_write_index < t'.row_write_index → BuiltBefore records (k + 1) t'
built-behind s t' t records k e more =
    let grown : t.row_write_index < (call_done s t (call_in (record_at records k))).row_write_index = rw (← e) more in
    rw e (built-so s t records k (k + 1) (omega arith) (wrote s t (call_in (record_at records k)) grown) grown)

-- the record as it is lent
pub record-lent : (records : List ℕ) (k : ℕ) → take (32 * k + 32 - 32 * k) (drop (32 * k) records) ≡ record_at records k
unfolding record_at
record-lent records k = let e : 32 * k + 32 - 32 * k ≡ 32 = omega arith in rw e

-- THE CALLS ONE BY ONE

module _ (s : Setting) (records : List ℕ) where
  none_yet : (k : ℕ) (t : CoreTraceGenerationTracer) → steps s records k t 0 ≡ t
  unfolding steps
  none_yet k t = refl

  one_more : (k : ℕ) (t : CoreTraceGenerationTracer) (m : ℕ) → steps s records k t (suc m) ≡ call_done s (steps s records k t m) (call_in (record_at records (k + m)))
  unfolding steps
  one_more k t m = refl

  none_written : (k : ℕ) (t : CoreTraceGenerationTracer) (f : List ℕ) → steps_written s records k t f 0 ≡ f
  unfolding steps_written
  none_written k t f = refl

  one_written : (k : ℕ) (t : CoreTraceGenerationTracer) (f : List ℕ) (m : ℕ) → steps_written s records k t f (suc m) ≡ call_written s (steps s records k t m) (call_in (record_at records (k + m))) (steps_written s records k t f m)
  unfolding steps_written
  one_written k t f m = refl

  call_same : (t t' : CoreTraceGenerationTracer) (i j : ℕ) → t ≡ t' → i ≡ j → call_done s t (call_in (record_at records i)) ≡ call_done s t' (call_in (record_at records j))
  call_same t t' i j e g = rw (e, g)

  written_same : (t t' : CoreTraceGenerationTracer) (i j : ℕ) (f f' : List ℕ) → t ≡ t' → i ≡ j → f ≡ f' → call_written s t (call_in (record_at records i)) f ≡ call_written s t' (call_in (record_at records j)) f'
  written_same t t' i j f f' e g h = rw (e, g, h)

  module _ (k : ℕ) (t : CoreTraceGenerationTracer) where
    abbrev next : CoreTraceGenerationTracer
    next = call_done s t (call_in (record_at records k))

    steps_first : (m : ℕ) → steps s records k t (suc m) ≡ steps s records (k + 1) next m
    steps_first zero = one_more k t 0 ∙ call_same _ t (k + 0) k (none_yet k t) (omega arith) ∙ sym (none_yet (k + 1) next)
    steps_first (suc m) = one_more k t (suc m) ∙ call_same _ _ (k + suc m) (k + 1 + m) (steps_first m) (omega arith) ∙ sym (one_more (k + 1) next m)

    written-first : (f : List ℕ) (m : ℕ) → steps_written s records k t f (suc m) ≡ steps_written s records (k + 1) next (call_written s t (call_in (record_at records k)) f) m
    written-first f zero = one_written k t f 0 ∙ written_same _ t (k + 0) k _ f (none_yet k t) (omega arith) (none_written k t f) ∙ sym (none_written (k + 1) next _)
    written-first f (suc m) = one_written k t f (suc m) ∙ written_same _ _ (k + suc m) (k + 1 + m) _ _ (steps_first m) (omega arith) (written-first f m) ∙ sym (one_written (k + 1) next _ m)

  -- one call alone
  pub gone_one : (k : ℕ) (t t' : CoreTraceGenerationTracer) (write : Bool) (f f' : List ℕ) → k < length records / 32 → t' ≡ call_done s t (call_in (record_at records k)) → f' ≡ pick write (call_written s t (call_in (record_at records k)) f) f →
      Goes s records k t write f f' (record { next = k + 1; tracer = t' })
  gone_one k t t' write f f' inside done put =
      (0, omega arith, omega (arith, inside), done ∙ sym (none_yet (k + 1) _) ∙ sym (steps_first k t 0), put ∙ ap (λ w. pick write w f) (sym (none_written (k + 1) (next k t) _) ∙ sym (written-first k t f 0)))

  -- a fragment behind a call and the stretch behind it
  put_on : (k m : ℕ) (t : CoreTraceGenerationTracer) (write : Bool) (f f' g : List ℕ) → f' ≡ pick write (call_written s t (call_in (record_at records k)) f) f → g ≡ pick write (steps_written s records (k + 1) (next k t) f' m) f' →
      g ≡ pick write (steps_written s records k t f (suc m)) f
  put_on k m t true f f' g e put = put ∙ ap (λ x. steps_written s records (k + 1) (next k t) x m) e ∙ sym (written-first k t f m)
  put_on k m t false f f' g e put = put ∙ e

  pub gone-more : (k : ℕ) (t t' : CoreTraceGenerationTracer) (write : Bool) (f f' g : List ℕ) (r : Followed) → t' ≡ call_done s t (call_in (record_at records k)) → f' ≡ pick write (call_written s t (call_in (record_at records k)) f) f →
      Follows s records (k + 1) t' write f' g r → Goes s records k t write f g r
  gone-more k t t' write f f' g r done put (m, next-is, inside, follows, put') = (
    m,
    omega (arith, next-is),
    omega (arith, inside),
    follows ∙ ap (λ x. steps s records (k + 1) x m) done ∙ sym (steps_first k t m),
    put_on k m t write f f' g put (put' ∙ ap (λ x. pick write (steps_written s records (k + 1) x f' m) f') done),
  )

  -- FROM THE FIRST RECORD ON

  module _ (t₀ : CoreTraceGenerationTracer) where
    last-call : (j : ℕ) → through s records t₀ (suc j) ≡ call_done s (through s records t₀ j) (call_in (record_at records j))
    unfolding through
    last-call j = refl

    last_written : (f₀ : List ℕ) (j : ℕ) → written s records t₀ f₀ (suc j) ≡ call_written s (through s records t₀ j) (call_in (record_at records j)) (written s records t₀ f₀ j)
    unfolding written
    last_written f₀ j = refl

    through-more : (k m : ℕ) → steps s records k (through s records t₀ k) m ≡ through s records t₀ (k + m)
    through-more k zero = none_yet k _ ∙ ap (through s records t₀) (omega arith)
    through-more k (suc m) =
        one_more k _ m ∙ call_same _ _ (k + m) (k + m) (through-more k m) refl ∙ sym (last-call (k + m)) ∙ ap (through s records t₀) (omega arith)

    written-more : (f₀ : List ℕ) (k m : ℕ) → steps_written s records k (through s records t₀ k) (written s records t₀ f₀ k) m ≡ written s records t₀ f₀ (k + m)
    written-more f₀ k zero = none_written k _ _ ∙ ap (written s records t₀ f₀) (omega arith)
    written-more f₀ k (suc m) =
        one_written k _ _ m ∙ written_same _ _ (k + m) (k + m) _ _ (through-more k m) refl (written-more f₀ k m) ∙ sym (last_written f₀ (k + m)) ∙ ap (written s records t₀ f₀) (omega arith)

    put_all : (write : Bool) (f₀ f g : List ℕ) (k m : ℕ) (t : CoreTraceGenerationTracer) → t ≡ through s records t₀ k → f ≡ pick write (written s records t₀ f₀ k) f₀ → g ≡ pick write (steps_written s records k t f m) f → g ≡ pick write (written s records t₀ f₀ (k + m)) f₀
    put_all true f₀ f g k m t e h put = put ∙ rw (e, h) (written-more f₀ k m)
    put_all false f₀ f g k m t e h put = put ∙ h

    -- the calls of all records, one and a stretch more
    pub ran_on : (write : Bool) (f₀ f g : List ℕ) (k : ℕ) (t : CoreTraceGenerationTracer) (r : Followed) → Ran write s records t₀ f₀ k t f → Goes s records k t write f g r →
        (k < r.next) × (r.next ≤ length records / 32) × Ran write s records t₀ f₀ r.next r.tracer g
    ran_on write f₀ f g k t r ran (m, next-is, inside, done, put) = (
      omega (arith, next-is),
      omega (arith, next-is, inside),
      (
        done ∙ ap (λ x. steps s records k x (suc m)) ran.0 ∙ through-more k (suc m) ∙ ap (through s records t₀) (sym next-is),
        put_all write f₀ f g k (suc m) t ran.0 ran.1 put ∙ ap (λ j. pick write (written s records t₀ f₀ j) f₀) (sym next-is),
      ),
    )
