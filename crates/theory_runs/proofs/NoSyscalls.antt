-- Change request N8: in a run that is not refused no SYSCALL node is started, so its nesting has no such Block, and what is written of it no
-- such row.
use mathlib.Core.Path.{◌≡◌, refl, ap}
use mathlib.Core.Bool.{Bool}
use mathlib.Core.List.{List, [], ◌∷◌, ◌++◌}
use Prim.Native.Nat.{ℕ, zero, suc, ◌/◌, ◌<◌}
use native.Mathlib.Omega.{arith}
use lib.ListN.{length}
use Rattle.groups.specs.Answer.{accepted, refused}
use Rattle.groups.specs.Constants.{syscall_start}
use Rattle.groups.specs.declared.batch.BasicBlockNode.{BasicBlockNode}
use Rattle.groups.specs.declared.helpers.OperationHelperRegisters.{OperationHelperRegisters}
use Rattle.rows.specs.declared.records.ids.MastNodeId.{MastNodeId}
use Rattle.rows.specs.declared.records.profile.Profile.{Profile}
use Rattle.rows.specs.declared.records.forest.MastNode.{MastNode}
use Rattle.rows.specs.declared.records.address_state.DecoderState.{DecoderState}
use Rattle.rows.specs.declared.records.continuation.Continuation.{Continuation}
use Rattle.rows.specs.declared.records.continuation.Captured.{Captured}
use Rattle.rows.specs.declared.records.decoder_row.DecoderRow.{DecoderRow}
use Rattle.rows.specs.records.Forests.{Forest}
use Rattle.rows.specs.records.Addresses.{Queues, started_at}
use Rattle.rows.specs.declared.records.address_state.Cursor.{Cursor}
use Rattle.rows.specs.cycles.Made.{start_kind, start_node, made}
use Rattle.rows.specs.cycles.Cycles.{fresh}
use Rattle.rows.proofs.passes.RowLists.{length-rows}
use Rattle.theory_readings.specs.Tokens.{OneChild, Kind, Token, token_of, tokens_of}
use Rattle.theory_readings.specs.Readings.{Ops, Block, Passes, Row, numbered, spell_ops, spell, spell_passes, OnlyHalts, Halts, WordOf, row_at, Reading, all_rows, Trace}
use Rattle.theory_runs.specs.Calls.{Call, store, finish, Fragment, Held, after, call_refusal, Accepted, opened, closed, cursor_of, AllAccepted}
use Rattle.theory_runs.specs.Happened.{Did, Cycle, nothing_stored, did, in_force_after_all, cycles_in, cycles_of}
use Rattle.theory_runs.specs.ProperRuns.{Holds, InBlock, Run, RunPasses, tree_from, passes_from}
use Rattle.theory_runs.specs.Finished.{Runs, nesting}
use Rattle.theory_runs.specs.WithoutSyscall.{NoSyscallStarts, WithoutSyscall, PassesWithoutSyscall, NoSyscallRows}
use Rattle.theory_runs.proofs.CycleLaws.{NotSyscall, RowBy}
use Rattle.theory_runs.proofs.Folded.{in_force, stepped, after-force, force-stored, force-at}

-- THE CYCLES

-- "It refuses with 31 at StartNode of a SYSCALL node": where 20 and 21 do not refuse and the node is there, whatever its callee
pub start-refused : (f : Forest) (q : Queues) (p : Profile) (registers : OperationHelperRegisters) (id callee : MastNodeId) (flag : Bool) (captured : Captured) (here : Cursor) (s : DecoderState) →
    started_at q.addresses q.parents here.at ≡ accepted s → Holds f id.0 (MastNode.Syscall callee) → made f q p registers (Continuation.StartNode id) flag captured here ≡ refused syscall_start
unfolding made start_node start_kind Holds
start-refused f q p registers id callee flag captured here s e (digest, h) = rw (e, h)

-- a cycle that wrote a row
row-start : (p : Profile) (d : Did) (state : DecoderState) (row : DecoderRow) → RowBy p d state row → (i x y : ℕ) → ¬ (d ≡ Did.started (Kind.one OneChild.syscall) i x y)
unfolding RowBy NotSyscall
row-start p (Did.started kind id b a) state row h i x y e = let k : kind ≡ Kind.one OneChild.syscall = cc in rw k at h.2
row-start p (Did.operated id n m opcode) state row h i x y e = let z : ◌≡◌ {A = ℕ} 0 1 = cc in absurd (omega arith)
row-start p (Did.respanned id n) state row h i x y e = let z : ◌≡◌ {A = ℕ} 0 1 = cc in absurd (omega arith)
row-start p (Did.repeated id) state row h i x y e = let z : ◌≡◌ {A = ℕ} 0 1 = cc in absurd (omega arith)
row-start p (Did.finished ending id flag b a g) state row h i x y e = let z : ◌≡◌ {A = ℕ} 0 1 = cc in absurd (omega arith)
row-start p Did.nothing state row h i x y e = let z : ◌≡◌ {A = ℕ} 0 1 = cc in absurd (omega arith)

starts-append : (l m : List Cycle) → NoSyscallStarts l → NoSyscallStarts m → NoSyscallStarts (l ++ m)
unfolding NoSyscallStarts
starts-append [] m h k = k
starts-append (c ∷ l) m h k = (h.0, starts-append l m h.1 k)

module _ (p : Profile) (q : Queues) where
  calls-start : (calls : List Call) (z : Held) → Accepted p q calls z → NoSyscallStarts (cycles_in q calls (in_force z.tracer))
  unfolding Accepted call_refusal cycles_in NoSyscallStarts
  calls-start [] z a = tt
  calls-start (store values ∷ calls) z a = rw (force-stored p q z values a.0) at (calls-start calls (after p q z (store values)) a.1)
  calls-start (finish i ∷ calls) z a =
      let s = stepped p q z i a.0 in
      let d : Did = did q i.forest (in_force z.tracer) in
      let k = after-force p q z i s.m s.answer d z.tracer.decoder_state s.law in
      (row-start p d z.tracer.decoder_state s.m.row s.law.row_is, rw k at (calls-start calls (after p q z (finish i)) a.1))

  -- of all fragments, where no call is refused: no cycle starts a SYSCALL node
  pub none-started : (fragments : List Fragment) (here : Cursor) → AllAccepted p q fragments here → NoSyscallStarts (cycles_of q fragments here.at)
  unfolding cycles_of AllAccepted NoSyscallStarts in_force fresh nothing_stored
  none-started [] here a = tt
  none-started (fragment ∷ fragments) here a =
      let there : Cursor = cursor_of p q (closed p q here fragment) in
      let k : there.at ≡ (in_force_after_all q fragment.calls (nothing_stored here.at)).at = force-at p q here fragment a.0 in
      starts-append (cycles_in q fragment.calls (nothing_stored here.at)) _
      (calls-start fragment.calls (opened p q here fragment) a.0) (rw k at (none-started fragments there a.1))

-- THE NESTING

-- the kind that such a cycle starts
kind-started : (kind : OneChild) (id b a : ℕ) → ((i x y : ℕ) → ¬ (Did.started (Kind.one kind) id b a ≡ Did.started (Kind.one OneChild.syscall) i x y)) → ¬ (kind ≡ OneChild.syscall)
kind-started kind id b a h e = h id b a (ap (λ (k : OneChild). Did.started (Kind.one k) id b a) e)

module _ (p : Profile) where
  -- behind a Block's cycles
  block-rest : {f : Forest} {id : ℕ} {block : BasicBlockNode} {index op : ℕ} {body : Bool} {a x g : ℕ} {cycles rest : List Cycle} →
      InBlock p f id block index op body a x g cycles rest → NoSyscallStarts cycles → NoSyscallStarts rest
  unfolding NoSyscallStarts
  block-rest (InBlock.ended size most) h = h.1
  block-rest (InBlock.operation opcode has is d) h = block-rest d h.1
  block-rest (InBlock.respan size more d) h = block-rest d h.1

  mutual
    unfolding NoSyscallStarts tree_from passes_from WithoutSyscall PassesWithoutSyscall

    tree-without : {f : Forest} {id : ℕ} {body : Bool} {a b g : ℕ} {cycles rest : List Cycle} (n : ℕ) (d : Run p f id body a b g cycles rest) → NoSyscallStarts cycles →
        WithoutSyscall (tree_from p n d).0 × NoSyscallStarts rest
    tree-without n (Run.block holds d) h = (tt, block-rest d h.1)
    tree-without n (Run.join holds d e) h =
        let (x, h1) = tree-without (suc n) d h.1 in
        let (y, h2) = tree-without (tree_from p (suc n) d).1 e h1 in
        ((x, y), h2.1)
    tree-without n (Run.one kind child d) h = let (x, h1) = tree-without (suc n) d h.1 in ((kind-started kind _ _ _ h.0, x), h1.1)
    tree-without n (Run.loop holds d) h = passes-without (suc n) d h.1

    passes-without : {f : Forest} {id child : ℕ} {body : Bool} {a b g : ℕ} {cycles rest : List Cycle} (n : ℕ) (d : RunPasses p f id child body a b g cycles rest) → NoSyscallStarts cycles →
        PassesWithoutSyscall (passes_from p n d).0 × NoSyscallStarts rest
    passes-without n (RunPasses.ended d) h = let (x, h1) = tree-without n d h in (x, h1.1)
    passes-without n (RunPasses.again d e) h =
        let (x, h1) = tree-without n d h in
        let (y, h2) = passes-without (suc (tree_from p n d).1) e h1.1 in
        ((x, y), h2)

-- the nesting of a run has no SYSCALL Block
pub none-nested : (p : Profile) (q : Queues) (size : ℕ) (fragments : List Fragment) (here : Cursor) (run : Runs p q size fragments here) → WithoutSyscall (nesting run)
none-nested p q size fragments here run = (tree-without p 0 run.proper (none-started p q fragments here run.accepted)).0

-- THE ROWS

-- a token that starts no SYSCALL
unfoldable Plain : Token → Type 0
Plain (Token.start kind) = NotSyscall kind
Plain (Token.op opcode) = Unit {0}
Plain Token.respan = Unit {0}
Plain Token.repeat = Unit {0}
Plain Token.end = Unit {0}
Plain Token.halt = Unit {0}
Plain Token.nothing = Unit {0}

one_plain : (kind : OneChild) → ¬ (kind ≡ OneChild.syscall) → NotSyscall (Kind.one kind)
unfolding NotSyscall
one_plain OneChild.split h = tt
one_plain OneChild.call h = tt
one_plain OneChild.syscall h = h refl
one_plain OneChild.dyn h = tt
one_plain OneChild.dyncall h = tt

unfoldable AllPlain : List Row → Type 0
AllPlain [] = Unit {0}
AllPlain (x ∷ rows) = Plain x.1 × AllPlain rows

ops-plain : (o : Ops) (rest : List Row) → AllPlain rest → AllPlain (spell_ops o rest)
unfolding spell_ops AllPlain Plain
ops-plain (Ops.ended m) rest h = (tt, h)
ops-plain (Ops.op m opcode o) rest h = (tt, ops-plain o rest h)
ops-plain (Ops.respan m o) rest h = (tt, ops-plain o rest h)

mutual
  unfolding spell spell_passes WithoutSyscall PassesWithoutSyscall AllPlain Plain NotSyscall

  spelled-plain : (b : Block) (rest : List Row) → WithoutSyscall b → AllPlain rest → AllPlain (spell b rest)
  spelled-plain (Block.span m ops) rest w h = (tt, ops-plain ops rest h)
  spelled-plain (Block.join m a b end_row) rest w h = (tt, spelled-plain a _ w.0 (spelled-plain b _ w.1 (tt, h)))
  spelled-plain (Block.one kind m a end_row) rest w h = (one_plain kind w.0, spelled-plain a _ w.1 (tt, h))
  spelled-plain (Block.loop m passes) rest w h = (tt, passes-plain passes rest w h)

  passes-plain : (own : Passes) (rest : List Row) → PassesWithoutSyscall own → AllPlain rest → AllPlain (spell_passes own rest)
  passes-plain (Passes.ended a end_row) rest w h = spelled-plain a _ w (tt, h)
  passes-plain (Passes.repeated a repeat_row more) rest w h = spelled-plain a _ w.0 (tt, passes-plain more rest w.1 h)

halts-plain : (rest : List Row) → OnlyHalts rest → AllPlain rest
unfolding OnlyHalts AllPlain Plain
halts-plain [] h = tt
halts-plain (x ∷ rest) h = (rw h.0 tt, halts-plain rest h.1)

some-halts : (rest : List Row) → Halts rest → OnlyHalts rest
unfolding Halts OnlyHalts
some-halts [] h = tt
some-halts (x ∷ rest) h = h

row_plain : (p : Profile) (rows : List (List ℕ)) (m n : ℕ) → AllPlain (numbered m (tokens_of p rows)) → n < length rows → Plain (token_of p (row_at rows n))
unfolding numbered tokens_of AllPlain
row_plain p [] m n h low = absurd (omega arith)
row_plain p (row ∷ rows) m zero h low = h.0
row_plain p (row ∷ rows) m (suc n) h low = row_plain p rows (suc m) n h.1 (omega arith)

-- a trace whose reading has no SYSCALL Block has no SYSCALL row
pub none-in-rows : (p : Profile) (cells : List ℕ) (b : Block) → Trace p cells b → WithoutSyscall b → NoSyscallRows p cells
unfolding Trace Reading WordOf NoSyscallRows all_rows Plain NotSyscall
none-in-rows p cells b t w n low e =
    let (rest, spelled, halts) = t.1.0 in
    let plain : AllPlain (numbered 0 (tokens_of p (all_rows cells))) = rw spelled (spelled-plain b rest w (halts-plain rest (some-halts rest halts))) in
    let h : Plain (token_of p (row_at (all_rows cells) n)) = row_plain p (all_rows cells) 0 n plain (omega (arith, length-rows (length cells / 49) cells)) in
    rw e at h
