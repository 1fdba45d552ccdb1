-- The addresses of a run's LOOP starts come from a queue, and so they are cells: "Queue entries count by their reduced numbers too".
use Rattle.std.specs.Prelude.{Option, Some, None}
use mathlib.Core.Path.{◌≡◌, refl, ap, subst}
use mathlib.Core.Bool.{Bool, true, false}
use mathlib.Core.List.{List, [], ◌∷◌, ◌++◌}
use Prim.Native.Nat.{ℕ, ◌%◌}
use Rattle.field.specs.Modulus.{P}
use Rattle.field.specs.Cells.{reduced}
use Rattle.groups.specs.Answer.{Answer, accepted, refused, pick}
use Rattle.rows.specs.declared.records.forest.MastNode.{MastNode}
use Rattle.rows.specs.declared.records.address_state.DecoderState.{DecoderState}
use Rattle.rows.specs.declared.records.address_state.Positions.{Positions}
use Rattle.rows.specs.declared.records.continuation.Continuation.{Continuation}
use Rattle.rows.specs.records.Forests.{Forest, node_at}
use Rattle.rows.specs.records.Addresses.{Queues, started_at, end_at}
use Rattle.rows.specs.cycles.Made.{condition_of}
use Rattle.theory_runs.specs.Calls.{Call, store, finish, Fragment}
use Rattle.theory_runs.specs.Happened.{Ending, Did, Cycle, InForce, nothing_stored, or_nothing, start_of, operation_at, finish_of, did_by, did_stored, stored, left_by, in_force_after, in_force_after_all, cycles_in, cycles_of}
use Rattle.theory_runs.specs.ProperRuns.{with_loop, loop_starts}
use Rattle.theory_reductions.specs.Inputs.{read_queues}
use Rattle.theory_reductions.proofs.LentReduced.{started-reduced, ended-reduced}
use Rattle.theory_reductions.proofs.StatesRead.{IsRead, Gives, current-is, started-read}

-- a LOOP start of the cycle, if it is one, is a cell
abbrev Low : Did → Type 0
Low d = (l : List ℕ) → reduced l ≡ l → reduced (with_loop d l) ≡ with_loop d l

nothing-low : Low Did.nothing
unfolding with_loop
nothing-low l e = e

or-low : {A : Type 0} (a : Answer A) (g : A → Did) → ((x : A) → a ≡ accepted x → Low (g x)) → Low (or_nothing a g)
or-low (accepted x) g h = h x refl
or-low (refused n) g h = nothing-low

pick_low : (t : Bool) (d e : Did) → Low d → Low e → Low (pick t d e)
pick_low true d e h k = h
pick_low false d e h k = k

start-low : (node : MastNode) (id b a : ℕ) → b % P ≡ b → Low (start_of node id b a)
unfolding start_of with_loop reduced
start-low (MastNode.Block block) id b a h l e = e
start-low (MastNode.Join x y) id b a h l e = e
start-low (MastNode.Split x y) id b a h l e = e
start-low (MastNode.Loop x) id b a h l e = rw (h, e)
start-low (MastNode.Call x) id b a h l e = e
start-low (MastNode.Syscall x) id b a h l e = e
start-low MastNode.Dyn id b a h l e = e
start-low MastNode.Dyncall id b a h l e = e
start-low MastNode.External id b a h l e = e

-- the address that a start takes is a cell
started-low : (addresses parents : List ℕ) (at : Positions) (s : DecoderState) → started_at addresses parents at ≡ accepted s → s.current_addr % P ≡ s.current_addr
started-low addresses parents at s e = current-is s (subst (Gives IsRead) e (started-read addresses parents at))

finish-low : (q : Queues) (v : InForce) (ending : Ending) (id : ℕ) → Low (finish_of q v ending id)
unfolding finish_of with_loop
finish-low q v ending id = or-low (end_at q.ends v.at.ends) _ (λ x e l h. h)

did-low : (q : Queues) (f : Forest) (v : InForce) (continuation : Continuation) → Low (did_by q f v continuation)
unfolding did_by with_loop
did-low q f v (Continuation.StartNode id) =
    or-low (started_at q.addresses q.parents v.at) _ (λ s h.
    or-low (node_at f.nodes f.digests id.0) _ (λ entry k. start-low entry.node id.0 s.current_addr s.parent_addr (started-low q.addresses q.parents v.at s h)))
did-low q f v (Continuation.FinishJoin id) = finish-low q v _ id.0
did-low q f v (Continuation.FinishSplit id) = finish-low q v _ id.0
did-low q f v (Continuation.FinishLoop id) =
    or-low (condition_of v.captured.finish_loop_condition) _ (λ again h. pick_low again (Did.repeated id.0) _ (λ l e. e) (finish-low q v _ id.0))
did-low q f v (Continuation.FinishCall id) = finish-low q v _ id.0
did-low q f v (Continuation.FinishDyn id) = finish-low q v _ id.0
did-low q f v (Continuation.ResumeBasicBlock id index op) = or-low (operation_at f id.0 index op) _ (λ opcode h l e. e)
did-low q f v (Continuation.Respan id index) = λ l e. e
did-low q f v (Continuation.FinishBasicBlock id) = finish-low q v _ id.0
did-low q f v Continuation.EnterForest = λ l e. e

stored_low : (q : Queues) (f : Forest) (v : InForce) (s : Option Continuation) → Low (did_stored q f v s)
unfolding did_stored
stored_low q f v None = nothing-low
stored_low q f v (Some continuation) = did-low q f v continuation

unfoldable AllLow : List Cycle → Type 0
AllLow [] = Unit {0}
AllLow (c ∷ cycles) = Low c.1 × AllLow cycles

low-app : (l m : List Cycle) → AllLow l → AllLow m → AllLow (l ++ m)
unfolding AllLow
low-app [] m h k = k
low-app (c ∷ l) m h k = (h.0, low-app l m h.1 k)

calls-low : (q : Queues) (calls : List Call) (v : InForce) → AllLow (cycles_in q calls v)
unfolding AllLow cycles_in
calls-low q [] v = tt
calls-low q (store values ∷ calls) v = calls-low q calls (stored v values)
calls-low q (finish i ∷ calls) v =
    (stored_low q i.forest v v.stored, calls-low q calls (left_by v (did_stored q i.forest v v.stored)))

run-low : (q : Queues) (fragments : List Fragment) (at : Positions) → AllLow (cycles_of q fragments at)
unfolding AllLow cycles_of
run-low q [] at = tt
run-low q (fragment ∷ fragments) at =
    low-app (cycles_in q fragment.calls (nothing_stored at)) _ (calls-low q fragment.calls (nothing_stored at)) (run-low q fragments _)

starts-low : (cycles : List Cycle) → AllLow cycles → reduced (loop_starts cycles) ≡ loop_starts cycles
unfolding AllLow loop_starts reduced
starts-low [] h = refl
starts-low (c ∷ cycles) h = h.0 (loop_starts cycles) (starts-low cycles h.1)

pub starts-reduced : (q : Queues) (fragments : List Fragment) (at : Positions) → reduced (loop_starts (cycles_of q fragments at)) ≡ loop_starts (cycles_of q fragments at)
starts-reduced q fragments at = starts-low (cycles_of q fragments at) (run-low q fragments at)

-- QUEUES READ

finish-read : (q : Queues) (v : InForce) (ending : Ending) (id : ℕ) → finish_of (read_queues q) v ending id ≡ finish_of q v ending id
unfolding finish_of read_queues
finish-read q v ending id = rw (ended-reduced q.ends v.at.ends)

did_read : (q : Queues) (f : Forest) (v : InForce) (continuation : Continuation) → did_by (read_queues q) f v continuation ≡ did_by q f v continuation
unfolding did_by
did_read q f v (Continuation.StartNode id) = unfold read_queues in rw (started-reduced q.addresses q.parents v.at)
did_read q f v (Continuation.FinishJoin id) = finish-read q v _ id.0
did_read q f v (Continuation.FinishSplit id) = finish-read q v _ id.0
did_read q f v (Continuation.FinishLoop id) = rw (finish-read q v Ending.FinishLoop id.0)
did_read q f v (Continuation.FinishCall id) = finish-read q v _ id.0
did_read q f v (Continuation.FinishDyn id) = finish-read q v _ id.0
did_read q f v (Continuation.ResumeBasicBlock id index op) = refl
did_read q f v (Continuation.Respan id index) = refl
did_read q f v (Continuation.FinishBasicBlock id) = finish-read q v _ id.0
did_read q f v Continuation.EnterForest = refl

stored-read : (q : Queues) (f : Forest) (v : InForce) (s : Option Continuation) → did_stored (read_queues q) f v s ≡ did_stored q f v s
unfolding did_stored
stored-read q f v None = refl
stored-read q f v (Some continuation) = did_read q f v continuation

calls-read : (q : Queues) (calls : List Call) (v : InForce) → cycles_in (read_queues q) calls v ≡ cycles_in q calls v
unfolding cycles_in
calls-read q [] v = refl
calls-read q (store values ∷ calls) v = calls-read q calls (stored v values)
calls-read q (finish i ∷ calls) v =
    rw (stored-read q i.forest v v.stored) (ap (λ (l : List Cycle). (i.forest, did_stored q i.forest v v.stored) ∷ l) (calls-read q calls (left_by v (did_stored q i.forest v v.stored))))

force-read : (q : Queues) (calls : List Call) (v : InForce) → in_force_after_all (read_queues q) calls v ≡ in_force_after_all q calls v
unfolding in_force_after_all in_force_after
force-read q [] v = refl
force-read q (store values ∷ calls) v = force-read q calls (stored v values)
force-read q (finish i ∷ calls) v = rw (stored-read q i.forest v v.stored) (force-read q calls (left_by v (did_stored q i.forest v v.stored)))

-- a run's cycles did with its queues what they did with them read
pub cycles-reduced : (q : Queues) (fragments : List Fragment) (at : Positions) → cycles_of (read_queues q) fragments at ≡ cycles_of q fragments at
unfolding cycles_of
cycles-reduced q [] at = refl
cycles-reduced q (fragment ∷ fragments) at =
    rw (calls-read q fragment.calls (nothing_stored at), force-read q fragment.calls (nothing_stored at))
    (ap (λ (l : List Cycle). cycles_in q fragment.calls (nothing_stored at) ++ l) (cycles-reduced q fragments (in_force_after_all q fragment.calls (nothing_stored at)).at))

-- "LOOP starts that were given 5 and p + 5 got the same block address": the starts are those of the queues read
pub starts-read : (q : Queues) (fragments : List Fragment) (at : Positions) → loop_starts (cycles_of (read_queues q) fragments at) ≡ loop_starts (cycles_of q fragments at)
starts-read q fragments at = ap loop_starts (cycles-reduced q fragments at)
