-- The decoder part of a row, the address state and the positions after it do not depend on system and stack states: neither on those that
-- the cycle is handed nor on those built before.
use Rattle.std.specs.Prelude.{Some}
use mathlib.Core.Path.{◌≡◌, ◌∙◌, refl, sym, ap, ap₂, subst₂}
use mathlib.Core.List.{List, [], ◌∷◌, ◌++◌}
use Prim.Native.Nat.{ℕ}
use lib.ListN.{length, take, drop}
use Rattle.field.specs.Cells.{reduced}
use Rattle.groups.specs.Answer.{accepted}
use Rattle.groups.specs.declared.helpers.OperationHelperRegisters.{OperationHelperRegisters}
use Rattle.rows.specs.declared.records.profile.Profile.{Profile}
use Rattle.rows.specs.declared.records.state.StackState.{StackState}
use Rattle.rows.specs.declared.records.continuation.Continuation.{Continuation}
use Rattle.rows.specs.declared.cycles.made.MadeRow.{MadeRow}
use Rattle.rows.specs.declared.cycles.tracer.CoreTraceGenerationTracer.{CoreTraceGenerationTracer}
use Rattle.rows.specs.records.Forests.{Forest}
use Rattle.rows.specs.records.Addresses.{Queues}
use Rattle.rows.specs.records.DecoderRows.{decoder_cells}
use Rattle.rows.specs.records.Built.{system_cells, stack_cells}
use Rattle.rows.specs.declared.records.address_state.Cursor.{Cursor}
use Rattle.rows.specs.cycles.Made.{cursor, made}
use Rattle.rows.specs.records.Cells.{row_cells}
use Rattle.rows.specs.cycles.Cycles.{cycle, last_system, last_stack}
use Rattle.theory_runs.specs.Calls.{Handed, Call, store, finish, Fragment, Held, answered, after, call_refusal, after_all, Accepted, opened, closed, cursor_of, AllAccepted}
use Rattle.theory_runs.specs.SameCalls.{AlikeCalls, AlikeFragments}
use Rattle.theory_runs.specs.Happened.{InForce, did, stored, left_by}
use Rattle.theory_runs.specs.Written.{row_made, rows_in, rows_run, decoders_of}
use Rattle.theory_runs.proofs.Answers.{accepted-came}
use Rattle.theory_runs.proofs.Folded.{in_force, stepped, after-state, row_made_lem, after-force, force-stored, state-stored}

same-made : (f : Forest) (q : Queues) (p : Profile) (registers : OperationHelperRegisters) (t u : CoreTraceGenerationTracer) (c c' : Continuation) (m m' : MadeRow) →
    in_force t ≡ in_force u → t.decoder_state ≡ u.decoder_state → t.continuation ≡ Some c → u.continuation ≡ Some c' →
    made f q p registers c t.is_loop_body t.captured (cursor t.decoder_state t.at) ≡ accepted m → made f q p registers c' u.is_loop_body u.captured (cursor u.decoder_state u.at) ≡ accepted m' → m ≡ m'
unfolding in_force
same-made f q p registers t u c c' m m' e s h h' k k' =
    let e1 : t.continuation ≡ u.continuation = ap (λ (v : InForce). v.stored) e in
    let e2 : t.is_loop_body ≡ u.is_loop_body = ap (λ (v : InForce). v.is_loop_body) e in
    let e3 : t.captured ≡ u.captured = ap (λ (v : InForce). v.captured) e in
    let e4 : t.at ≡ u.at = ap (λ (v : InForce). v.at) e in
    let e5 : c ≡ c' = cc in
    let e6 : made f q p registers c t.is_loop_body t.captured (cursor t.decoder_state t.at) ≡ made f q p registers c' u.is_loop_body u.captured (cursor u.decoder_state u.at) = cc in
    cc

-- two cycles with the same values in force, at the same address state, over the same forest, queues and registers
pub same_row : (p : Profile) (f : Forest) (q : Queues) (registers : OperationHelperRegisters) (stack stack' : StackState) (cells cells' : ℕ) (t u : CoreTraceGenerationTracer) (m m' : MadeRow) →
    in_force t ≡ in_force u → t.decoder_state ≡ u.decoder_state → cycle p f q stack registers cells t ≡ accepted m → cycle p f q stack' registers cells' u ≡ accepted m' → m ≡ m'
same_row p f q registers stack stack' cells cells' t u m m' e s k k' =
    let x = accepted-came p f q stack registers cells t m k in
    let y = accepted-came p f q stack' registers cells' u m' k' in
    same-made f q p registers t u x.continuation y.continuation m m' e s x.stored_is y.stored_is x.made_is y.made_is

-- A WHOLE RUN

row-decoder : (t : CoreTraceGenerationTracer) (m : MadeRow) → take 24 (drop 6 (row_cells (last_system t) m.row (last_stack t))) ≡ reduced (decoder_cells m.row)
unfolding row_cells reduced system_cells decoder_cells stack_cells
row-decoder t m = refl

decoders-app : (l m : List (List ℕ)) → decoders_of (l ++ m) ≡ decoders_of l ++ decoders_of m
unfolding decoders_of
decoders-app [] m = refl
decoders-app (row ∷ l) m = ap (λ y. take 24 (drop 6 row) ∷ y) (decoders-app l m)

same-row' : (p : Profile) (f f' : Forest) (q : Queues) (registers registers' : OperationHelperRegisters) (stack stack' : StackState) (cells cells' : ℕ) (t u : CoreTraceGenerationTracer) (m m' : MadeRow) →
    f ≡ f' → registers ≡ registers' → in_force t ≡ in_force u → t.decoder_state ≡ u.decoder_state → cycle p f q stack registers cells t ≡ accepted m → cycle p f' q stack' registers' cells' u ≡ accepted m' → m ≡ m'
same-row' p f f' q registers registers' stack stack' cells cells' t u m m' i j e s k k' =
    same_row p f q registers stack stack' cells cells' t u m m' e s k (subst₂ (λ x y. cycle p x q stack' y cells' u ≡ accepted m') (sym i) (sym j) k')

same_place : (z w : Held) → z.tracer.decoder_state ≡ w.tracer.decoder_state → in_force z.tracer ≡ in_force w.tracer → cursor z.tracer.decoder_state z.tracer.at ≡ cursor w.tracer.decoder_state w.tracer.at
unfolding in_force
same_place z w e f = ap₂ cursor e (ap (λ (v : InForce). v.at) f)

module _ (p : Profile) (q : Queues) where
  record Together (l m : List Call) (z w : Held) : Type 0 where
    rows_same : decoders_of (rows_in p q l z) ≡ decoders_of (rows_in p q m w)
    state_same : (after_all p q l z).tracer.decoder_state ≡ (after_all p q m w).tracer.decoder_state
    force_same : in_force (after_all p q l z).tracer ≡ in_force (after_all p q m w).tracer

  made-decoder : (z : Held) (i : Handed) (m : MadeRow) → answered p q z i ≡ accepted m → decoders_of (row_made z.tracer (answered p q z i)) ≡ reduced (decoder_cells m.row) ∷ []
  unfolding decoders_of
  made-decoder z i m e = ap decoders_of (row_made_lem p q z i m e) ∙ ap (λ x. x ∷ []) (row-decoder z.tracer m)

  together : (l m : List Call) (z w : Held) → AlikeCalls l m → Accepted p q l z → Accepted p q m w → z.tracer.decoder_state ≡ w.tracer.decoder_state → in_force z.tracer ≡ in_force w.tracer → Together l m z w
  unfolding AlikeCalls Accepted call_refusal rows_in after_all
  together [] [] z w k a b s f = record { rows_same = refl; state_same = s; force_same = f }
  together [] (c ∷ m) z w k a b s f = absurd k
  together (store v ∷ l) [] z w k a b s f = absurd k
  together (finish i ∷ l) [] z w k a b s f = absurd k
  together (store v ∷ l) (store v' ∷ m) z w k a b s f =
      let y = together l m (after p q z (store v)) (after p q w (store v')) k.1 a.1 b.1
      (state-stored p q z v a.0 ∙ s ∙ sym (state-stored p q w v' b.0))
      (force-stored p q z v a.0 ∙ ap₂ stored f k.0 ∙ sym (force-stored p q w v' b.0)) in
      record { rows_same = y.rows_same; state_same = y.state_same; force_same = y.force_same }
  together (store v ∷ l) (finish j ∷ m) z w k a b s f = absurd k
  together (finish i ∷ l) (store v' ∷ m) z w k a b s f = absurd k
  together (finish i ∷ l) (finish j ∷ m) z w k a b s f =
      let x = stepped p q z i a.0 in
      let y = stepped p q w j b.0 in
      let e : x.m ≡ y.m = same-row' p i.forest j.forest q i.registers j.registers i.stack j.stack (length z.cells) (length w.cells) z.tracer w.tracer x.m y.m k.0 k.1 f s x.answer y.answer in
      let g = after-force p q z i x.m x.answer (did q i.forest (in_force z.tracer)) z.tracer.decoder_state x.law
      ∙ ap₂ (λ v h. left_by v (did q h v)) f k.0
      ∙ sym (after-force p q w j y.m y.answer (did q j.forest (in_force w.tracer)) w.tracer.decoder_state y.law) in
      let h = after-state p q z i x.m x.answer ∙ ap (λ (r : MadeRow). r.state) e ∙ sym (after-state p q w j y.m y.answer) in
      let r = together l m (after p q z (finish i)) (after p q w (finish j)) k.2 a.1 b.1 h g in
      record {
        rows_same = decoders-app (row_made z.tracer (answered p q z i)) (rows_in p q l (after p q z (finish i)))
            ∙ ap₂ (λ c d. c ++ d) (made-decoder z i x.m x.answer ∙ ap (λ (r : MadeRow). reduced (decoder_cells r.row) ∷ []) e ∙ sym (made-decoder w j y.m y.answer)) r.rows_same
            ∙ sym (decoders-app (row_made w.tracer (answered p q w j)) (rows_in p q m (after p q w (finish j))));
        state_same = r.state_same;
        force_same = r.force_same;
      }

  -- runs whose calls differ in system and stack states alone have the same decoder cells in all rows
  pub same-decoders : (l m : List Fragment) (here : Cursor) → AlikeFragments l m → AllAccepted p q l here → AllAccepted p q m here → decoders_of (rows_run p q l here) ≡ decoders_of (rows_run p q m here)
  unfolding AlikeFragments AllAccepted rows_run
  same-decoders [] [] here k a b = refl
  same-decoders [] (g ∷ m) here k a b = absurd k
  same-decoders (f ∷ l) [] here k a b = absurd k
  same-decoders (f ∷ l) (g ∷ m) here k a b =
      let r = together f.calls g.calls (opened p q here f) (opened p q here g) k.0 a.0 b.0 refl refl in
      let e : cursor_of p q (closed p q here f) ≡ cursor_of p q (closed p q here g) = same_place (closed p q here f) (closed p q here g) r.state_same r.force_same in
      decoders-app (rows_in p q f.calls (opened p q here f)) (rows_run p q l (cursor_of p q (closed p q here f)))
      ∙ ap₂ (λ c d. c ++ d) r.rows_same (same-decoders l m (cursor_of p q (closed p q here f)) k.1 a.1 (rw e b.1) ∙ ap (λ x. decoders_of (rows_run p q m x)) e)
      ∙ sym (decoders-app (rows_in p q g.calls (opened p q here g)) (rows_run p q m (cursor_of p q (closed p q here g))))
