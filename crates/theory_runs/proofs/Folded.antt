-- The calls of a run as a fold: the fragments hold the rows that the cycles write, and these show what the cycles did.
use Rattle.std.specs.Prelude.{Some}
use mathlib.Core.Path.{◌≡◌, ◌∙◌, refl, sym, ap, ap₂}
use mathlib.Core.Bool.{Bool, true, false, ◌&&◌}
use mathlib.Core.List.{List, [], ◌∷◌, ◌++◌, append_assoc, append-nil}
use Prim.Native.Nat.{ℕ, ◌+◌, ◌*◌, ◌<◌}
use native.Mathlib.Omega.{arith}
use borrow.Author.Tests.{ltb-true, eq-eqb}
use lib.Dec.{ltb}
use lib.ListN.{length, drop, get_or, length-append, drop_of_length-le}
use Rattle.groups.specs.Answer.{Answer, accepted, refused, pick}
use Rattle.groups.specs.Batches.{batch_at}
use Rattle.groups.specs.declared.batch.OpBatch.{OpBatch}
use Rattle.groups.proofs.Answers.{then-accepted, held}
use Rattle.rows.specs.declared.records.profile.Profile.{Profile}
use Rattle.rows.specs.declared.records.forest.MastNode.{MastNode}
use Rattle.rows.specs.declared.records.address_state.DecoderState.{DecoderState}
use Rattle.rows.specs.declared.records.continuation.Continuation.{Continuation}
use Rattle.rows.specs.declared.records.continuation.StoredValues.{StoredValues}
use Rattle.rows.specs.declared.cycles.made.MadeRow.{MadeRow}
use Rattle.rows.specs.declared.cycles.tracer.CoreTraceGenerationTracer.{CoreTraceGenerationTracer}
use Rattle.rows.specs.records.Forests.{Forest, node_at, opcode_at, block_of}
use Rattle.rows.specs.records.Addresses.{Queues, started_at, end_at, read_state}
use Rattle.field.specs.Bounds.{any_from}
use Rattle.field.specs.Cells.{reduced}
use Rattle.rows.specs.cycles.Scans.{any_big_opcode}
use Rattle.rows.specs.declared.records.address_state.Cursor.{Cursor}
use Rattle.rows.specs.cycles.Made.{condition_of}
use Rattle.rows.specs.records.DecoderRows.{decoder_cells}
use Rattle.rows.specs.records.Built.{system_cells, stack_cells}
use Rattle.rows.specs.records.Cells.{row_cells, put_row}
use Rattle.rows.specs.records.Buffers.{flat}
use Rattle.rows.specs.passes.Passes.{sum_of}
use Rattle.rows.specs.cycles.Cycles.{fresh, storing_of, stored_in, tracer_after, fragment_after, final_state, for_passes, last_system, last_stack}
use Rattle.rows.proofs.passes.RowLists.{Wide, wide-app, flat-app, put-behind}
use Rattle.theory_runs.specs.Calls.{Handed, Call, store, finish, Fragment, Held, answered, after, call_refusal, after_all, Accepted, opened, closed, cursor_of, AllAccepted, final_states, cells_of, counts_of, OneSize}
use Rattle.theory_runs.specs.Happened.{Ending, Did, Cycle, InForce, nothing_stored, or_nothing, start_of, operation_at, finish_of, did_by, did_stored, did, stored, left_by, in_force_after, in_force_after_all, cycles_in, cycles_of}
use Rattle.theory_runs.specs.Written.{row_made, rows_in, rows_run}
use Rattle.theory_runs.proofs.HandedCounts.{fragment-count}
use Rattle.theory_runs.proofs.Answers.{Came, came}
use Rattle.theory_reductions.proofs.StatesRead.{IsRead, read_is, cycle-read}
use Rattle.theory_runs.proofs.CycleLaws.{state_after, Law, made-law}
use Rattle.theory_runs.proofs.Opcodes.{below_at}
use Rattle.theory_runs.proofs.Looks.{look, looks, looks-app, laid_row, laid, Fine, Small, row-look}

-- OPCODES BELOW 128

or-small : {A : Type 0} (a : Answer A) (g : A → Did) → ((x : A) → a ≡ accepted x → Small (g x)) → Small (or_nothing a g)
unfolding Small
or-small (accepted x) g h = h x refl
or-small (refused n) g h = tt

pick_small : (t : Bool) (d e : Did) → Small d → Small e → Small (pick t d e)
pick_small true d e h k = h
pick_small false d e h k = k

start_small : (node : MastNode) (id b a : ℕ) → Small (start_of node id b a)
unfolding start_of Small
start_small (MastNode.Block block) id b a = tt
start_small (MastNode.Join x y) id b a = tt
start_small (MastNode.Split x y) id b a = tt
start_small (MastNode.Loop x) id b a = tt
start_small (MastNode.Call x) id b a = tt
start_small (MastNode.Syscall x) id b a = tt
start_small MastNode.Dyn id b a = tt
start_small MastNode.Dyncall id b a = tt
start_small MastNode.External id b a = tt

opcode-small : (ops : List ℕ) (batch : OpBatch) (op opcode : ℕ) → any_from 128 ops ≡ false → opcode_at ops batch op ≡ accepted opcode → opcode < 128
unfolding opcode_at
opcode-small ops batch op opcode small e =
    let (t, i) = held (ltb op batch.num_ops && ltb (batch.first_op + op) (length ops)) 6 (accepted (get_or ops (batch.first_op + op) 0)) opcode e in
    let j : opcode ≡ get_or ops (batch.first_op + op) 0 = cc in
    rw j (below_at 128 ops (batch.first_op + op) small (ltb-true (batch.first_op + op) (length ops) (both (ltb op batch.num_ops) (ltb (batch.first_op + op) (length ops)) t)))
  where
    both : (a b : Bool) → (a && b) ≡ true → b ≡ true
    both true b e = e
    both false b e = let z : ◌≡◌ {A = ℕ} 0 1 = cc in absurd (omega arith)

finish-small : (q : Queues) (v : InForce) (ending : Ending) (id : ℕ) → Small (finish_of q v ending id)
unfolding finish_of Small
finish-small q v ending id = or-small (end_at q.ends v.at.ends) _ (λ x e. tt)

did-small : (q : Queues) (f : Forest) (v : InForce) → any_big_opcode f.ops ≡ false → (continuation : Continuation) → Small (did_by q f v continuation)
unfolding did_by operation_at Small any_big_opcode
did-small q f v e (Continuation.StartNode id) =
    or-small (started_at q.addresses q.parents v.at) _ (λ s h. or-small (node_at f.nodes f.digests id.0) _ (λ entry k. start_small entry.node id.0 s.current_addr s.parent_addr))
did-small q f v e (Continuation.FinishJoin id) = finish-small q v _ id.0
did-small q f v e (Continuation.FinishSplit id) = finish-small q v _ id.0
did-small q f v e (Continuation.FinishLoop id) =
    or-small (condition_of v.captured.finish_loop_condition) _ (λ again h. pick_small again (Did.repeated id.0) _ tt (finish-small q v _ id.0))
did-small q f v e (Continuation.FinishCall id) = finish-small q v _ id.0
did-small q f v e (Continuation.FinishDyn id) = finish-small q v _ id.0
did-small q f v e (Continuation.ResumeBasicBlock id index op) =
    or-small (operation_at f id.0 index op) _ (λ opcode h.
    let (entry, e1, e2) = then-accepted (node_at f.nodes f.digests id.0) _ opcode h in
    let (block, e3, e4) = then-accepted (block_of entry.node) _ opcode e2 in
    let (batch, e5, e6) = then-accepted (batch_at f.batches f.groups block index) _ opcode e4 in
    opcode-small f.ops batch op opcode e e6)
did-small q f v e (Continuation.Respan id index) = tt
did-small q f v e (Continuation.FinishBasicBlock id) = finish-small q v _ id.0
did-small q f v e Continuation.EnterForest = tt

-- ONE CALL

-- what is in force at a tracer
unfoldable pub in_force : CoreTraceGenerationTracer → InForce
in_force t = record { stored = t.continuation; is_loop_body = t.is_loop_body; captured = t.captured; at = t.at }

pub row-wide : (t : CoreTraceGenerationTracer) (m : MadeRow) → length (row_cells (last_system t) m.row (last_stack t)) ≡ 49
unfolding row_cells reduced system_cells decoder_cells stack_cells
row-wide t m = refl

pub stored_same : (t : CoreTraceGenerationTracer) (values : StoredValues) → t.refusal ≡ 0 → stored_in t values ≡ storing_of t values
unfolding stored_in
stored_same t values e = rw (eq-eqb t.refusal 0 e)

module _ (p : Profile) (q : Queues) where
  -- a cycle that is accepted
  pub record Stepped (z : Held) (i : Handed) : Type 0 where
    pub m : MadeRow
    pub answer : answered p q z i ≡ accepted m
    pub law : Law p (did q i.forest (in_force z.tracer)) z.tracer.decoder_state z.tracer.at m
    pub small : Small (did q i.forest (in_force z.tracer))
    pub came_from : Came p i.forest q i.stack i.registers (length z.cells) z.tracer m

  did-is : (f : Forest) (v : InForce) (continuation : Continuation) → v.stored ≡ Some continuation → did q f v ≡ did_by q f v continuation
  unfolding did_stored
  did-is f v continuation e = rw e

  pub stepped : (z : Held) (i : Handed) → call_refusal p q z (finish i) ≡ 0 → Stepped z i
  unfolding call_refusal in_force
  stepped z i e =
      let (m, c) = came p i.forest q i.stack i.registers (length z.cells) z.tracer e in
      let same = did-is i.forest (in_force z.tracer) c.continuation c.stored_is in
      record {
        m = m;
        answer = c.answer;
        law = rw same (made-law i.forest q p i.registers (in_force z.tracer) z.tracer.decoder_state m c.continuation c.made_is);
        small = rw same (did-small q i.forest (in_force z.tracer) c.small c.continuation);
        came_from = c;
      }

  module _ (z : Held) (i : Handed) (m : MadeRow) (e : answered p q z i ≡ accepted m) where
    abbrev row : List ℕ
    row = row_cells (last_system z.tracer) m.row (last_stack z.tracer)

    pub after-state : (after p q z (finish i)).tracer.decoder_state ≡ m.state
    unfolding after tracer_after
    after-state = rw e

    pub after-rows : (after p q z (finish i)).tracer.row_write_index ≡ z.tracer.row_write_index + 1
    unfolding after tracer_after
    after-rows = rw e

    pub after_kept : (after p q z (finish i)).tracer.refusal ≡ 0
    unfolding after tracer_after
    after_kept = rw e

    pub after-cells : (after p q z (finish i)).cells ≡ put_row z.cells z.tracer.row_write_index row
    unfolding after fragment_after
    after-cells = rw e

    pub row_made_lem : row_made z.tracer (answered p q z i) ≡ row ∷ []
    unfolding row_made
    row_made_lem = rw e

    pub after-force : (d : Did) (state : DecoderState) → Law p d state z.tracer.at m → in_force (after p q z (finish i)).tracer ≡ left_by (in_force z.tracer) d
    unfolding after tracer_after in_force left_by
    after-force d state law = rw (e, law.used_is, law.at_is)

  -- THE CELLS

  -- the fragment holds the rows, and behind them the cells that it had
  pub record Holding (z : Held) (cells : List ℕ) (rows : List (List ℕ)) : Type 0 where
    pub cells_are : z.cells ≡ flat rows ++ drop (49 * length rows) cells
    pub count_is : z.tracer.row_write_index ≡ length rows
    pub wide : Wide rows
    pub kept : z.tracer.refusal ≡ 0

  holding-finish : (z : Held) (i : Handed) (cells : List ℕ) (rows : List (List ℕ)) → Stepped z i → Holding z cells rows → Holding (after p q z (finish i)) cells (rows ++ row_made z.tracer (answered p q z i))
  unfolding Wide
  holding-finish z i cells rows s h =
      let x : List ℕ = row_cells (last_system z.tracer) s.m.row (last_stack z.tracer) in
      rw (row_made_lem z i s.m s.answer) (record {
        cells_are = after-cells z i s.m s.answer ∙ ap₂ (λ y n. put_row y n x) h.cells_are h.count_is ∙ put-behind rows x cells h.wide;
        count_is = after-rows z i s.m s.answer ∙ omega (arith, h.count_is, length-append rows (x ∷ []));
        wide = wide-app rows (x ∷ []) h.wide (row-wide z.tracer s.m, tt);
        kept = after_kept z i s.m s.answer;
      })

  holding-store : (z : Held) (values : StoredValues) (cells : List ℕ) (rows : List (List ℕ)) → Holding z cells rows → Holding (after p q z (store values)) cells rows
  unfolding after
  holding-store z values cells rows h =
      rw (stored_same z.tracer values h.kept) (record { cells_are = h.cells_are; count_is = h.count_is; wide = h.wide; kept = h.kept })

  pub holding-all : (calls : List Call) (z : Held) (cells : List ℕ) (rows : List (List ℕ)) → Accepted p q calls z → Holding z cells rows → Holding (after_all p q calls z) cells (rows ++ rows_in p q calls z)
  unfolding Accepted after_all rows_in
  holding-all [] z cells rows a h = rw append-nil h
  holding-all (store values ∷ calls) z cells rows a h = holding-all calls (after p q z (store values)) cells rows a.1 (holding-store z values cells rows h)
  holding-all (finish i ∷ calls) z cells rows a h =
      rw append_assoc at (holding-all calls (after p q z (finish i)) cells (rows ++ row_made z.tracer (answered p q z i)) a.1 (holding-finish z i cells rows (stepped z i a.0) h))

  -- WHAT IS IN FORCE

  pub force-stored : (z : Held) (values : StoredValues) → z.tracer.refusal ≡ 0 → in_force (after p q z (store values)).tracer ≡ stored (in_force z.tracer) values
  unfolding after in_force stored
  force-stored z values e = rw (stored_same z.tracer values e)

  pub state-stored : (z : Held) (values : StoredValues) → z.tracer.refusal ≡ 0 → (after p q z (store values)).tracer.decoder_state ≡ z.tracer.decoder_state
  unfolding after
  state-stored z values e = rw (stored_same z.tracer values e)

  pub force-all : (calls : List Call) (z : Held) → Accepted p q calls z → in_force (after_all p q calls z).tracer ≡ in_force_after_all q calls (in_force z.tracer)
  unfolding Accepted call_refusal after_all in_force_after_all in_force_after
  force-all [] z a = refl
  force-all (store values ∷ calls) z a =
      force-all calls (after p q z (store values)) a.1 ∙ ap (in_force_after_all q calls) (force-stored z values a.0)
  force-all (finish i ∷ calls) z a =
      let s = stepped z i a.0 in
      force-all calls (after p q z (finish i)) a.1
      ∙ ap (in_force_after_all q calls) (after-force z i s.m s.answer (did q i.forest (in_force z.tracer)) z.tracer.decoder_state s.law)

  -- WHAT THE ROWS SHOW

  unfoldable pub AllFine : List Cycle → Type 0
  AllFine [] = Unit {0}
  AllFine (c ∷ cycles) = Fine p c.1 × AllFine cycles

  pub fine-split : (l m : List Cycle) → AllFine (l ++ m) → AllFine l × AllFine m
  unfolding AllFine
  fine-split [] m h = (tt, h)
  fine-split (c ∷ l) m h = let y = fine-split l m h.1 in ((h.0, y.0), y.1)

  finish-look : (z : Held) (i : Handed) (s : Stepped z i) → Fine p (did q i.forest (in_force z.tracer)) →
      look p (row_cells (last_system z.tracer) s.m.row (last_stack z.tracer)) ≡ laid_row (did q i.forest (in_force z.tracer)) z.tracer.decoder_state
  finish-look z i s o =
      row-look p (last_system z.tracer) s.m.row (last_stack z.tracer) s.came_from.profile_right (did q i.forest (in_force z.tracer)) z.tracer.decoder_state o s.small s.law.row_is

  looks-made : (z : Held) (i : Handed) (s : Stepped z i) (rows : List (List ℕ)) → looks p (row_made z.tracer (answered p q z i) ++ rows) ≡ look p (row_cells (last_system z.tracer) s.m.row (last_stack z.tracer)) ∷ looks p rows
  unfolding looks
  looks-made z i s rows = rw (row_made_lem z i s.m s.answer)

  pub calls-laid : (calls : List Call) (z : Held) (more : List Cycle) → Accepted p q calls z → AllFine (cycles_in q calls (in_force z.tracer)) →
      laid p (cycles_in q calls (in_force z.tracer) ++ more) z.tracer.decoder_state ≡ looks p (rows_in p q calls z) ++ laid p more (after_all p q calls z).tracer.decoder_state
  unfolding Accepted call_refusal after_all rows_in cycles_in looks laid AllFine
  calls-laid [] z more a o = refl
  calls-laid (store values ∷ calls) z more a o =
      let k = force-stored z values a.0 in
      let u : (after p q z (store values)).tracer.decoder_state ≡ z.tracer.decoder_state = state-stored z values a.0 in
      let y = calls-laid calls (after p q z (store values)) more a.1 (rw k o) in
      sym (ap₂ (λ v x. laid p (cycles_in q calls v ++ more) x) k u) ∙ y
  calls-laid (finish i ∷ calls) z more a o =
      let s = stepped z i a.0 in
      let d : Did = did q i.forest (in_force z.tracer) in
      let k = after-force z i s.m s.answer d z.tracer.decoder_state s.law in
      let u : (after p q z (finish i)).tracer.decoder_state ≡ state_after p d z.tracer.decoder_state = after-state z i s.m s.answer ∙ s.law.state_is in
      let y = calls-laid calls (after p q z (finish i)) more a.1 (rw k o.1) in
      rw (looks-made z i s (rows_in p q calls (after p q z (finish i)))) (ap₂ (λ b c. b ∷ c) (sym (finish-look z i s o.0)) (sym (ap₂ (λ v x. laid p (cycles_in q calls v ++ more) x) k u) ∙ y))

  -- ALL FRAGMENTS

  pub fragment-holding : (here : Cursor) (fragment : Fragment) → Accepted p q fragment.calls (opened p q here fragment) →
      Holding (closed p q here fragment) fragment.cells (rows_in p q fragment.calls (opened p q here fragment))
  unfolding flat Wide fresh
  fragment-holding here fragment a =
      holding-all fragment.calls (opened p q here fragment) fragment.cells [] a (record { cells_are = refl; count_is = refl; wide = tt; kept = refl })

  pub rows-wide : (fragments : List Fragment) (here : Cursor) → AllAccepted p q fragments here → Wide (rows_run p q fragments here)
  unfolding rows_run Wide AllAccepted
  rows-wide [] here a = tt
  rows-wide (fragment ∷ fragments) here a =
      wide-app (rows_in p q fragment.calls (opened p q here fragment)) (rows_run p q fragments (cursor_of p q (closed p q here fragment)))
      (fragment-holding here fragment a.0).wide (rows-wide fragments (cursor_of p q (closed p q here fragment)) a.1)

  -- the final state's count
  final-count : (t : CoreTraceGenerationTracer) → t.refusal ≡ 0 → (final_state t).num_rows_written ≡ t.row_write_index
  unfolding final_state
  final-count t e = rw (eq-eqb t.refusal 0 e)

  pub count-rows : (here : Cursor) (fragment : Fragment) → Accepted p q fragment.calls (opened p q here fragment) →
      (for_passes (final_state (closed p q here fragment).tracer)).count ≡ length (rows_in p q fragment.calls (opened p q here fragment))
  count-rows here fragment a =
      let h = fragment-holding here fragment a in
      fragment-count p q here fragment ∙ final-count (closed p q here fragment).tracer h.kept ∙ h.count_is

  -- "the sum of the counts" is the number of rows
  pub sum_rows : (fragments : List Fragment) (here : Cursor) → AllAccepted p q fragments here → sum_of (counts_of (final_states p q fragments here)) ≡ length (rows_run p q fragments here)
  unfolding rows_run final_states counts_of sum_of AllAccepted
  sum_rows [] here a = refl
  sum_rows (fragment ∷ fragments) here a =
      omega (
        arith,
        count-rows here fragment a.0,
        sum_rows fragments (cursor_of p q (closed p q here fragment)) a.1,
        length-append (rows_in p q fragment.calls (opened p q here fragment)) (rows_run p q fragments (cursor_of p q (closed p q here fragment))),
      )

  -- the fragments one after another hold the rows, and something behind them
  pub cells-rows : (size : ℕ) (fragments : List Fragment) (here : Cursor) → AllAccepted p q fragments here → OneSize size fragments (counts_of (final_states p q fragments here)) →
      (rest : List ℕ) × (cells_of p q fragments here ≡ flat (rows_run p q fragments here) ++ rest)
  unfolding rows_run final_states counts_of cells_of OneSize AllAccepted flat
  cells-rows size [] here a o = ([], refl)
  cells-rows size (fragment ∷ []) here a o =
      let h = fragment-holding here fragment a.0 in
      let rows : List (List ℕ) = rows_in p q fragment.calls (opened p q here fragment) in
      (drop (49 * length rows) fragment.cells, append-nil (closed p q here fragment).cells ∙ h.cells_are ∙ ap (λ y. flat y ++ drop (49 * length rows) fragment.cells) (sym (append-nil rows)))
  cells-rows size (fragment ∷ next ∷ fragments) here a o =
      let h = fragment-holding here fragment a.0 in
      let rows : List (List ℕ) = rows_in p q fragment.calls (opened p q here fragment) in
      let there : Cursor = cursor_of p q (closed p q here fragment) in
      let more : List (List ℕ) = rows_run p q (next ∷ fragments) there in
      let (rest, e) = cells-rows size (next ∷ fragments) there a.1 o.2 in
      let full : length rows ≡ size = sym (count-rows here fragment a.0) ∙ o.1 in
      let none : drop (49 * length rows) fragment.cells ≡ [] = drop_of_length-le fragment.cells {i = 49 * length rows} (omega (arith, full, o.0)) in (
        rest,
        ap₂ (λ x y. x ++ y) (h.cells_are ∙ ap (λ x. flat rows ++ x) none ∙ append-nil (flat rows)) e
            ∙ sym (append_assoc (flat rows) (flat more) rest) ∙ ap (λ x. x ++ rest) (sym (flat-app rows more)),
      )

  pub force-at : (here : Cursor) (fragment : Fragment) → Accepted p q fragment.calls (opened p q here fragment) → (closed p q here fragment).tracer.at ≡ (in_force_after_all q fragment.calls (nothing_stored here.at)).at
  unfolding in_force fresh nothing_stored
  force-at here fragment a = ap (λ (v : InForce). v.at) (force-all fragment.calls (opened p q here fragment) a)

  first-laid : (here : Cursor) (fragment : Fragment) (more : List Cycle) → Accepted p q fragment.calls (opened p q here fragment) → AllFine (cycles_in q fragment.calls (nothing_stored here.at)) →
      laid p (cycles_in q fragment.calls (nothing_stored here.at) ++ more) (read_state here.state) ≡ looks p (rows_in p q fragment.calls (opened p q here fragment)) ++ laid p more (closed p q here fragment).tracer.decoder_state
  unfolding in_force fresh nothing_stored
  first-laid here fragment more a o = calls-laid fragment.calls (opened p q here fragment) more a o

  -- THE ADDRESS STATE

  -- cycles leave addresses that are cells
  calls-read : (calls : List Call) (z : Held) → Accepted p q calls z → IsRead z.tracer.decoder_state → IsRead (after_all p q calls z).tracer.decoder_state
  unfolding Accepted call_refusal after after_all
  calls-read [] z a e = e
  calls-read (store values ∷ calls) z a e = calls-read calls (after p q z (store values)) a.1 (rw (stored_same z.tracer values a.0) e)
  calls-read (finish i ∷ calls) z a e = calls-read calls (after p q z (finish i)) a.1 (cycle-read p i.forest q i.system i.stack i.registers (length z.cells) z.tracer e)

  -- so the next fragment's tracer begins where this one's ended
  pub closed-read : (here : Cursor) (fragment : Fragment) → Accepted p q fragment.calls (opened p q here fragment) → IsRead (closed p q here fragment).tracer.decoder_state
  unfolding fresh
  closed-read here fragment a = calls-read fragment.calls (opened p q here fragment) a (read_is here.state)

  -- WHAT THE ROWS OF A RUN SHOW

  -- the rows of a run show what its cycles did
  pub rows-laid : (fragments : List Fragment) (here : Cursor) → AllAccepted p q fragments here → AllFine (cycles_of q fragments here.at) →
      looks p (rows_run p q fragments here) ≡ laid p (cycles_of q fragments here.at) (read_state here.state)
  unfolding rows_run cycles_of AllAccepted looks laid
  rows-laid [] here a o = refl
  rows-laid (fragment ∷ fragments) here a o =
      let there : Cursor = cursor_of p q (closed p q here fragment) in
      let k = force-at here fragment a.0 in
      let y = fine-split (cycles_in q fragment.calls (nothing_stored here.at)) (cycles_of q fragments (in_force_after_all q fragment.calls (nothing_stored here.at)).at) o in
      let more : List Cycle = cycles_of q fragments there.at in
      let e : cycles_of q fragments (in_force_after_all q fragment.calls (nothing_stored here.at)).at ≡ more = ap (cycles_of q fragments) (sym k) in
      looks-app p (rows_in p q fragment.calls (opened p q here fragment)) (rows_run p q fragments there)
      ∙ ap (λ x. looks p (rows_in p q fragment.calls (opened p q here fragment)) ++ x) (rows-laid fragments there a.1 (rw e at y.1) ∙ ap (laid p more) (closed-read here fragment a.0))
      ∙ sym (first-laid here fragment more a.0 y.0)
      ∙ ap (λ x. laid p (cycles_in q fragment.calls (nothing_stored here.at) ++ x) (read_state here.state)) (sym e)
