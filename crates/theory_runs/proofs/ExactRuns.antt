-- Over one small forest the proper runs of each node are exactly some lists of cycles.
use mathlib.Core.Path.{◌≡◌, ◌∙◌, refl, sym, ap}
use mathlib.Core.Bool.{Bool, true, false}
use mathlib.Core.List.{List, [], ◌∷◌}
use mathlib.Core.Logic.{◌⊎◌, inl, inr}
use Prim.Native.Nat.{ℕ, suc, ◌<◌}
use native.Mathlib.Omega.{arith}
use lib.ListN.{replicate}
use Rattle.field.specs.Cells.{cell_at}
use Rattle.groups.specs.Answer.{Answer, accepted, refused}
use Rattle.groups.specs.Batches.{is_batch, batch_at}
use Rattle.groups.specs.Words.{word_at}
use Rattle.groups.specs.declared.batch.BasicBlockNode.{BasicBlockNode}
use Rattle.groups.specs.declared.batch.OpBatch.{OpBatch}
use Rattle.rows.specs.declared.records.ids.MastNodeId.{MastNodeId}
use Rattle.rows.specs.declared.records.profile.Profile.{Profile}
use Rattle.rows.specs.declared.records.forest.MastNode.{MastNode}
use Rattle.rows.specs.declared.records.forest.NodeEntry.{NodeEntry}
use Rattle.rows.specs.records.Forests.{Forest, is_slot, node_id, node_of, node_at, opcode_at}
use Rattle.rows.specs.records.Profiles.{is_one_of}
use Rattle.theory_readings.specs.Tokens.{OneChild, split, call, syscall, dyn, dyncall, Kind, controls, control_opcodes, is_op_opcode}
use Rattle.theory_readings.proofs.Examples.{profile}
use Rattle.theory_runs.specs.Happened.{Ending, started, operated, respanned, repeated, finished, Cycle}
use Rattle.theory_runs.specs.ProperRuns.{Holds, HasOperations, HasOpcode, Child, ending_of, moved, InBlock, Run, RunPasses}

-- a StartNode cycle says forest, node and addresses of a run that begins with it
pub from_start : {p : Profile} {f h : Forest} {k : Kind} {id i : ℕ} {body : Bool} {a b g x y : ℕ} {cycles rest : List Cycle} → Run p f id body a b g ((h, started k i x y) ∷ cycles) rest → Run p h i body y x g ((h, started k i x y) ∷ cycles) rest
from_start (Run.block holds d) = Run.block holds d
from_start (Run.join holds d e) = Run.join holds d e
from_start (Run.one kind child d) = Run.one kind child d
from_start (Run.loop holds d) = Run.loop holds d

abbrev node_in : Answer NodeEntry → MastNode
node_in (accepted entry) = entry.node
node_in (refused n) = MastNode.External

one-node : (f : Forest) (id : ℕ) (node node' : MastNode) → Holds f id node → Holds f id node' → node ≡ node'
unfolding Holds
one-node f id node node' (x, h) (y, k) = ap node_in (sym h ∙ k)

-- the kind that a node starts as
abbrev kind_of : MastNode → Kind
kind_of (MastNode.Block block) = Kind.span
kind_of (MastNode.Join a b) = Kind.join
kind_of (MastNode.Split a b) = Kind.one split
kind_of (MastNode.Loop a) = Kind.loop
kind_of (MastNode.Call a) = Kind.one call
kind_of (MastNode.Syscall a) = Kind.one syscall
kind_of MastNode.Dyn = Kind.one dyn
kind_of MastNode.Dyncall = Kind.one dyncall
kind_of MastNode.External = Kind.span

child-kind : (kind : OneChild) (f : Forest) (id : ℕ) (g : Forest) (m : ℕ) (node : MastNode) → Holds f id node → Child kind f id g m → Kind.one kind ≡ kind_of node
unfolding Child
child-kind split f id g m node h (x, y, k, e, w) = ap kind_of (one-node f id (MastNode.Split x y) node k h)
child-kind call f id g m node h (x, k, e, w) = ap kind_of (one-node f id (MastNode.Call x) node k h)
child-kind syscall f id g m node h (x, k, e, w) = ap kind_of (one-node f id (MastNode.Syscall x) node k h)
child-kind dyn f id g m node h k = ap kind_of (one-node f id MastNode.Dyn node k h)
child-kind dyncall f id g m node h k = ap kind_of (one-node f id MastNode.Dyncall node k h)

-- a proper run begins with a StartNode of its node's kind
begins : {p : Profile} {f : Forest} {id : ℕ} {body : Bool} {a b g : ℕ} {cycles rest : List Cycle} (node : MastNode) → Holds f id node → Run p f id body a b g cycles rest → (l : List Cycle) × (cycles ≡ (f, started (kind_of node) id b a) ∷ l)
begins {f = f} {id = id} {a = a} {b = b} node h (Run.block {cycles = l} {block = block} k d) =
    (l, ap (λ kind. (f, started kind id b a) ∷ l) (ap kind_of (one-node f id (MastNode.Block block) node k h)))
begins {f = f} {id = id} {a = a} {b = b} node h (Run.join {cycles = l} {first = x} {second = y} k d e) =
    (l, ap (λ kind. (f, started kind id b a) ∷ l) (ap kind_of (one-node f id (MastNode.Join x y) node k h)))
begins {f = f} {id = id} {a = a} {b = b} node h (Run.one {child = child} {m = m} {cycles = l} kind k d) =
    (l, ap (λ kind. (f, started kind id b a) ∷ l) (child-kind kind f id child m node h k))
begins {f = f} {id = id} {a = a} {b = b} node h (Run.loop {cycles = l} {child = x} k d) =
    (l, ap (λ kind. (f, started kind id b a) ∷ l) (ap kind_of (one-node f id (MastNode.Loop x) node k h)))

-- so what holds of all runs that begin with it holds of all
by-start : {p : Profile} {f : Forest} {id : ℕ} {body : Bool} {a b g : ℕ} {cycles rest : List Cycle} (C : List Cycle → Type 0) (node : MastNode) → Holds f id node →
    ((l : List Cycle) → Run p f id body a b g ((f, started (kind_of node) id b a) ∷ l) rest → C ((f, started (kind_of node) id b a) ∷ l)) →
    Run p f id body a b g cycles rest → C cycles
by-start C node h then d = let (l, e) = begins node h d in rw e (then l (rw (← e) d))

-- what is behind the StartNode
block_start : {p : Profile} {f h : Forest} {id i : ℕ} {body : Bool} {a b g x y : ℕ} {cycles rest : List Cycle} (t : BasicBlockNode) → Holds f id (MastNode.Block t) →
    Run p f id body a b g ((h, started Kind.span i x y) ∷ cycles) rest → InBlock p f id t 0 0 body a b g cycles rest
block_start {f = f} {id = id} t h (Run.block {block = u} k d) =
    let e = one-node f id (MastNode.Block u) (MastNode.Block t) k h in let same : u ≡ t = cc in rw (← same) d

join-start : {p : Profile} {f h : Forest} {id i : ℕ} {body : Bool} {a b g x y : ℕ} {cycles rest : List Cycle} (m n : MastNodeId) → Holds f id (MastNode.Join m n) →
    Run p f id body a b g ((h, started Kind.join i x y) ∷ cycles) rest →
    (c : ℕ) × (d : ℕ) × (between : List Cycle) × Run p f m.0 false b c a cycles between × Run p f n.0 false b d a between ((f, finished Ending.FinishJoin id body b a g) ∷ rest)
join-start {f = f} {id = id} m n h (Run.join {c = c} {d = d} {between = l} {first = m'} {second = n'} k r r') =
    let e = one-node f id (MastNode.Join m' n') (MastNode.Join m n) k h in
    let i : m' ≡ m = cc in let j : n' ≡ n = cc in (c, d, l, rw (← i) r, rw (← j) r')

one-start : {p : Profile} {f h : Forest} {kind : OneChild} {id i : ℕ} {body : Bool} {a b g x y : ℕ} {cycles rest : List Cycle} → Run p f id body a b g ((h, started (Kind.one kind) i x y) ∷ cycles) rest →
    (child : Forest) × (m : ℕ) × (c : ℕ) × Child kind f id child m × Run p child m false b c a cycles ((f, finished (ending_of kind) id body b a g) ∷ rest)
one-start (Run.one {child = child} {m = m} {c = c} kind k d) = (child, m, c, k, d)

split-child : (f : Forest) (id : ℕ) (g : Forest) (m : ℕ) (x y : MastNodeId) → Holds f id (MastNode.Split x y) → Child split f id g m → (g ≡ f) × ((m ≡ x.0) ⊎ (m ≡ y.0))
unfolding Child
split-child f id g m x y h (x', y', k, e, w) =
    let z = one-node f id (MastNode.Split x' y') (MastNode.Split x y) k h in
    let i : x' ≡ x = cc in let j : y' ≡ y = cc in (e, rw (← i, ← j) w)

call-child : (f : Forest) (id : ℕ) (g : Forest) (m : ℕ) (x : MastNodeId) → Holds f id (MastNode.Call x) → Child call f id g m → (g ≡ f) × (m ≡ x.0)
unfolding Child
call-child f id g m x h (x', k, e, w) = let z = one-node f id (MastNode.Call x') (MastNode.Call x) k h in let i : x' ≡ x = cc in (e, w ∙ ap (λ (y : MastNodeId). y.0) i)

syscall-child : (f : Forest) (id : ℕ) (g : Forest) (m : ℕ) (x : MastNodeId) → Holds f id (MastNode.Syscall x) → Child syscall f id g m → (g ≡ f) × (m ≡ x.0)
unfolding Child
syscall-child f id g m x h (x', k, e, w) = let z = one-node f id (MastNode.Syscall x') (MastNode.Syscall x) k h in let i : x' ≡ x = cc in (e, w ∙ ap (λ (y : MastNodeId). y.0) i)

loop-start : {p : Profile} {f h : Forest} {id i : ℕ} {body : Bool} {a b g x y : ℕ} {cycles rest : List Cycle} (m : MastNodeId) → Holds f id (MastNode.Loop m) →
    Run p f id body a b g ((h, started Kind.loop i x y) ∷ cycles) rest → RunPasses p f id m.0 body a b g cycles rest
loop-start {f = f} {id = id} m h (Run.loop {child = m'} k d) =
    let e = one-node f id (MastNode.Loop m') (MastNode.Loop m) k h in let i : m' ≡ m = cc in rw (← i) d

-- a block, from operation `op` of a batch on
module _ (p : Profile) (f : Forest) (block : BasicBlockNode) (index : ℕ) (batch : OpBatch) (is : batch_at f.batches f.groups block index ≡ accepted batch) where
  size : (n : ℕ) → HasOperations f block index n → n ≡ batch.num_ops
  unfolding HasOperations
  size n (other, e, m) = let h : other ≡ batch = cc in sym m ∙ ap (λ (x : OpBatch). x.num_ops) h

  at-operation : {id op : ℕ} {body : Bool} {a x g : ℕ} {cycles rest tail : List Cycle} (opcode : ℕ) → op < batch.num_ops → opcode_at f.ops batch op ≡ accepted opcode →
      ((l : List Cycle) → InBlock p f id block index (suc op) body a x g l rest → l ≡ tail) →
      InBlock p f id block index op body a x g cycles rest → cycles ≡ (f, operated id index op opcode) ∷ tail
  unfolding HasOpcode
  at-operation {op = op} opcode h e then (InBlock.ended has most) = let k = size op has in absurd (omega arith)
  at-operation {id = id} {op = op} opcode h e then (InBlock.operation {cycles = l} opcode' (other, i, j) w d) =
      let k : opcode' ≡ opcode = cc in let m = then l d in cc
  at-operation {op = op} opcode h e then (InBlock.respan has more d) = let k = size op has in absurd (omega arith)

  at-respan : {id op : ℕ} {body : Bool} {a x g : ℕ} {cycles rest tail : List Cycle} → opcode_at f.ops batch op ≡ refused 6 → suc index < block.batches →
      ((l : List Cycle) → InBlock p f id block (suc index) 0 body a (moved p x) g l rest → l ≡ tail) →
      InBlock p f id block index op body a x g cycles rest → cycles ≡ (f, respanned id (suc index)) ∷ tail
  unfolding HasOpcode
  at-respan e most then (InBlock.ended has last) = absurd (omega arith)
  at-respan e most then (InBlock.operation opcode' (other, i, j) w d) = let z : ◌≡◌ {A = ℕ} 0 1 = cc in absurd (omega arith)
  at-respan {id = id} e most then (InBlock.respan {cycles = l} has more d) = ap (λ y. (f, respanned id (suc index)) ∷ y) (then l d)

  at-end : {id op : ℕ} {body : Bool} {a x g : ℕ} {cycles rest : List Cycle} → opcode_at f.ops batch op ≡ refused 6 → suc index ≡ block.batches →
      InBlock p f id block index op body a x g cycles rest → cycles ≡ (f, finished Ending.FinishBasicBlock id body x a g) ∷ rest
  unfolding HasOpcode
  at-end e last (InBlock.ended has most) = refl
  at-end e last (InBlock.operation opcode' (other, i, j) w d) = let z : ◌≡◌ {A = ℕ} 0 1 = cc in absurd (omega arith)
  at-end e last (InBlock.respan has more d) = absurd (omega arith)

-- 0 Join of 1 and 2; 1, 2, 3 equal blocks of one batch; 4 Split of 1 and 2; 5 Loop of 1; 6 Call of 1; 7 Syscall of 1; 8 a block of two
-- batches
unfoldable pub grove : (ops : List ℕ) → Forest
grove ops = record {
  nodes =
      3 ∷ 1 ∷ 2 ∷ 0 ∷ 0 ∷ 0
      ∷ 2 ∷ 0 ∷ 0 ∷ 1 ∷ 0 ∷ 1
      ∷ 2 ∷ 0 ∷ 0 ∷ 1 ∷ 0 ∷ 1
      ∷ 2 ∷ 0 ∷ 0 ∷ 1 ∷ 0 ∷ 1
      ∷ 4 ∷ 1 ∷ 2 ∷ 0 ∷ 0 ∷ 0
      ∷ 5 ∷ 1 ∷ 0 ∷ 0 ∷ 0 ∷ 0
      ∷ 6 ∷ 1 ∷ 0 ∷ 0 ∷ 0 ∷ 0
      ∷ 7 ∷ 1 ∷ 0 ∷ 0 ∷ 0 ∷ 0
      ∷ 2 ∷ 0 ∷ 0 ∷ 2 ∷ 0 ∷ 2
      ∷ [];
  digests = replicate 36 0;
  batches =
      1 ∷ 0 ∷ 2 ∷ 2 ∷ 2 ∷ 2 ∷ 2 ∷ 2 ∷ 2 ∷ 2 ∷ 2 ∷ 0
      ∷ 1 ∷ 0 ∷ 1 ∷ 1 ∷ 1 ∷ 1 ∷ 1 ∷ 1 ∷ 1 ∷ 1 ∷ 1 ∷ 2
      ∷ [];
  groups = 773 ∷ 0 ∷ 0 ∷ 0 ∷ 0 ∷ 0 ∷ 0 ∷ 0 ∷ 7 ∷ 0 ∷ 0 ∷ 0 ∷ 0 ∷ 0 ∷ 0 ∷ 0 ∷ [];
  ops = ops;
}

unfoldable pub forest : Forest
forest = grove (5 ∷ 6 ∷ 7 ∷ [])

-- the same but for an operation that no batch has
unfoldable pub other : Forest
other = grove (5 ∷ 6 ∷ 7 ∷ 8 ∷ [])

abbrev small : BasicBlockNode
small = record { total = 1; first_batch = 0; batches = 1 }

abbrev large : BasicBlockNode
large = record { total = 2; first_batch = 0; batches = 2 }

abbrev batch0 : OpBatch
batch0 = record { group_count = 1; num_ops = 2; first_op = 0; record_index = 0; low = (773, 0, 0, 0); high = (0, 0, 0, 0) }

abbrev batch1 : OpBatch
batch1 = record { group_count = 1; num_ops = 1; first_op = 2; record_index = 1; low = (7, 0, 0, 0); high = (0, 0, 0, 0) }

-- The cycles of a node at b under a: of a block of one batch
abbrev pub spanned : Forest → (id : ℕ) → (flag : Bool) → (a b g : ℕ) → List Cycle → List Cycle
spanned f id flag a b g rest =
    (f, started Kind.span id b a) ∷ (f, operated id 0 0 5) ∷ (f, operated id 0 1 6) ∷ (f, finished Ending.FinishBasicBlock id flag b a g) ∷ rest

-- of the block of two batches
abbrev pub respanning : Profile → (flag : Bool) → (a b g : ℕ) → List Cycle → List Cycle
respanning p flag a b g rest =
    (forest, started Kind.span 8 b a) ∷ (forest, operated 8 0 0 5) ∷ (forest, operated 8 0 1 6) ∷ (forest, respanned 8 1) ∷ (forest, operated 8 1 0 7)
    ∷ (forest, finished Ending.FinishBasicBlock 8 flag (moved p b) a g) ∷ rest

-- of the Join, its children at c and d
abbrev pub joining : (flag : Bool) → (a b g c d : ℕ) → List Cycle → List Cycle
joining flag a b g c d rest =
    (forest, started Kind.join 0 b a) ∷ spanned forest 1 false b c a (spanned forest 2 false b d a ((forest, finished Ending.FinishJoin 0 flag b a g) ∷ rest))

-- of a node with one child, m of h, at c
abbrev pub under : OneChild → Ending → (id : ℕ) → (h : Forest) → (m : ℕ) → (flag : Bool) → (a b g c : ℕ) → List Cycle → List Cycle
under kind ending id h m flag a b g c rest =
    (forest, started (Kind.one kind) id b a) ∷ spanned h m false b c a ((forest, finished ending id flag b a g) ∷ rest)

-- of the Loop behind its StartNode, its body at c and then at each of the others
unfoldable pub passing : (flag : Bool) → (a b g c : ℕ) → List ℕ → List Cycle → List Cycle
passing flag a b g c [] rest = spanned forest 1 true b c a ((forest, finished Ending.FinishLoop 5 flag b a g) ∷ rest)
passing flag a b g c (d ∷ others) rest = spanned forest 1 true b c a ((forest, repeated 5) ∷ passing flag a b g d others rest)

in_small : (p : Profile) {id : ℕ} {body : Bool} {a b g : ℕ} {cycles rest : List Cycle} → InBlock p forest id small 0 0 body a b g cycles rest →
    cycles ≡ (forest, operated id 0 0 5) ∷ (forest, operated id 0 1 6) ∷ (forest, finished Ending.FinishBasicBlock id body b a g) ∷ rest
unfolding grove forest batch_at is_batch opcode_at word_at cell_at
in_small p =
    at-operation p forest small 0 batch0 refl 5 (omega arith) refl (λ l.
    at-operation p forest small 0 batch0 refl 6 (omega arith) refl (λ m.
    at-end p forest small 0 batch0 refl refl refl))

in-large : (p : Profile) {id : ℕ} {body : Bool} {a b g : ℕ} {cycles rest : List Cycle} → InBlock p forest id large 0 0 body a b g cycles rest →
    cycles ≡
    (forest, operated id 0 0 5) ∷ (forest, operated id 0 1 6) ∷ (forest, respanned id 1) ∷ (forest, operated id 1 0 7)
    ∷ (forest, finished Ending.FinishBasicBlock id body (moved p b) a g) ∷ rest
unfolding grove forest batch_at is_batch opcode_at word_at cell_at
in-large p =
    at-operation p forest large 0 batch0 refl 5 (omega arith) refl (λ l.
    at-operation p forest large 0 batch0 refl 6 (omega arith) refl (λ m.
    at-respan p forest large 0 batch0 refl refl (omega arith) (λ n.
    at-operation p forest large 1 batch1 refl 7 (omega arith) refl (λ o.
    at-end p forest large 1 batch1 refl refl refl))))

-- what its slots hold
slots : Holds forest 0 (MastNode.Join (node_id 1) (node_id 2)) × Holds forest 1 (MastNode.Block small) × Holds forest 2 (MastNode.Block small) × Holds forest 3 (MastNode.Block small)
    × Holds forest 4 (MastNode.Split (node_id 1) (node_id 2)) × Holds forest 5 (MastNode.Loop (node_id 1)) × Holds forest 6 (MastNode.Call (node_id 1))
    × Holds forest 7 (MastNode.Syscall (node_id 1)) × Holds forest 8 (MastNode.Block large)
unfolding grove forest Holds node_at node_of is_slot word_at
slots = ((_, refl), (_, refl), (_, refl), (_, refl), (_, refl), (_, refl), (_, refl), (_, refl), (_, refl))

-- The proper runs of each node are exactly these lists.
pub small-exact : {p : Profile} {body : Bool} {a b g : ℕ} {cycles rest : List Cycle} (id : ℕ) → Holds forest id (MastNode.Block small) → Run p forest id body a b g cycles rest →
    cycles ≡ spanned forest id body a b g rest
small-exact {p} {body} {a} {b} {g} {rest = rest} id h =
    by-start (λ y. y ≡ spanned forest id body a b g rest) (MastNode.Block small) h (λ l d.
    ap (λ y. (forest, started Kind.span id b a) ∷ y) (in_small p (block_start small h d)))

pub large-exact : {p : Profile} {body : Bool} {a b g : ℕ} {cycles rest : List Cycle} → Run p forest 8 body a b g cycles rest →
    cycles ≡ respanning p body a b g rest
large-exact {p} {body} {a} {b} {g} {rest = rest} =
    by-start (λ y. y ≡ respanning p body a b g rest) (MastNode.Block large) slots.8 (λ l d.
    ap (λ y. (forest, started Kind.span 8 b a) ∷ y) (in-large p (block_start large slots.8 d)))

pub join-exact : {p : Profile} {body : Bool} {a b g : ℕ} {cycles rest : List Cycle} → Run p forest 0 body a b g cycles rest →
    (c : ℕ) × (d : ℕ) × (cycles ≡ joining body a b g c d rest)
join-exact {p} {body} {a} {b} {g} {rest = rest} =
    by-start (λ y. (c : ℕ) × (d : ℕ) × (y ≡ joining body a b g c d rest))
    (MastNode.Join (node_id 1) (node_id 2)) slots.0 (λ l r.
    let (c, d, between, r1, r2) = join-start (node_id 1) (node_id 2) slots.0 r in
    (c, d, ap (λ y. (forest, started Kind.join 0 b a) ∷ y) (small-exact 1 slots.1 r1 ∙ ap (spanned forest 1 false b c a) (small-exact 2 slots.2 r2))))

module _ (kind : OneChild) (id : ℕ) (Own : ℕ → Type 0) (own : (h : Forest) (m : ℕ) → Child kind forest id h m → (h ≡ forest) × Own m) (holds : (m : ℕ) → Own m → Holds forest m (MastNode.Block small)) where
  one-child : {p : Profile} {a b c m : ℕ} {h : Forest} {cycles rest : List Cycle} → (h ≡ forest) × Own m → Run p h m false b c a cycles rest →
      cycles ≡ spanned forest m false b c a rest
  one-child {p} {a} {b} {c} {m} {cycles = cycles} {rest = rest} (e, o) r =
      let r' : Run p forest m false b c a cycles rest = rw (← e) r in small-exact m (holds m o) r'

  one-exact : {p : Profile} {body : Bool} {a b g : ℕ} {l rest : List Cycle} → Run p forest id body a b g ((forest, started (Kind.one kind) id b a) ∷ l) rest →
      (m : ℕ) × (c : ℕ) × Own m × ((forest, started (Kind.one kind) id b a) ∷ l ≡ under kind (ending_of kind) id forest m body a b g c rest)
  one-exact {a = a} {b = b} r =
      let (h, m, c, k, r') = one-start r in
      let o = own h m k in
      (m, c, o.1, ap (λ y. (forest, started (Kind.one kind) id b a) ∷ y) (one-child o r'))

pub split-exact : {p : Profile} {body : Bool} {a b g : ℕ} {cycles rest : List Cycle} → Run p forest 4 body a b g cycles rest →
    (m : ℕ) × (c : ℕ) × ((m ≡ 1) ⊎ (m ≡ 2)) × (cycles ≡ under split Ending.FinishSplit 4 forest m body a b g c rest)
unfolding ending_of
split-exact {body = body} {a} {b} {g} {rest = rest} =
    by-start (λ y. (m : ℕ) × (c : ℕ) × ((m ≡ 1) ⊎ (m ≡ 2)) × (y ≡ under split Ending.FinishSplit 4 forest m body a b g c rest)) (MastNode.Split (node_id 1) (node_id 2)) slots.4 (λ l.
    one-exact split 4 (λ m. (m ≡ 1) ⊎ (m ≡ 2)) (λ h m. split-child forest 4 h m (node_id 1) (node_id 2) slots.4) small-12)
  where
    small-12 : (m : ℕ) → (m ≡ 1) ⊎ (m ≡ 2) → Holds forest m (MastNode.Block small)
    small-12 m (inl e) = rw e slots.1
    small-12 m (inr e) = rw e slots.2

pub call-exact : {p : Profile} {body : Bool} {a b g : ℕ} {cycles rest : List Cycle} → Run p forest 6 body a b g cycles rest →
    (m : ℕ) × (c : ℕ) × (m ≡ 1) × (cycles ≡ under call Ending.FinishCall 6 forest m body a b g c rest)
unfolding ending_of
call-exact {body = body} {a} {b} {g} {rest = rest} =
    by-start (λ y. (m : ℕ) × (c : ℕ) × (m ≡ 1) × (y ≡ under call Ending.FinishCall 6 forest m body a b g c rest)) (MastNode.Call (node_id 1)) slots.6 (λ l.
    one-exact call 6 (λ m. m ≡ 1) (λ h m. call-child forest 6 h m (node_id 1) slots.6) (λ m e. rw e slots.1))

pub syscall-exact : {p : Profile} {body : Bool} {a b g : ℕ} {cycles rest : List Cycle} → Run p forest 7 body a b g cycles rest →
    (m : ℕ) × (c : ℕ) × (m ≡ 1) × (cycles ≡ under syscall Ending.FinishCall 7 forest m body a b g c rest)
unfolding ending_of
syscall-exact {body = body} {a} {b} {g} {rest = rest} =
    by-start (λ y. (m : ℕ) × (c : ℕ) × (m ≡ 1) × (y ≡ under syscall Ending.FinishCall 7 forest m body a b g c rest)) (MastNode.Syscall (node_id 1)) slots.7 (λ l.
    one-exact syscall 7 (λ m. m ≡ 1) (λ h m. syscall-child forest 7 h m (node_id 1) slots.7) (λ m e. rw e slots.1))

passes-exact : {p : Profile} {body : Bool} {a b g : ℕ} {cycles rest : List Cycle} → RunPasses p forest 5 1 body a b g cycles rest →
    (c : ℕ) × (others : List ℕ) × (cycles ≡ passing body a b g c others rest)
unfolding passing
passes-exact (RunPasses.ended {c = c} r) = (c, [], small-exact 1 slots.1 r)
passes-exact (RunPasses.again {a = a} {b = b} {c = c} r d) =
    let (e, others, k) = passes-exact d in (c, e ∷ others, small-exact 1 slots.1 r ∙ ap (λ y. spanned forest 1 true b c a ((forest, repeated 5) ∷ y)) k)

pub loop-exact : {p : Profile} {body : Bool} {a b g : ℕ} {cycles rest : List Cycle} → Run p forest 5 body a b g cycles rest →
    (c : ℕ) × (others : List ℕ) × (cycles ≡ (forest, started Kind.loop 5 b a) ∷ passing body a b g c others rest)
loop-exact {body = body} {a} {b} {g} {rest = rest} =
    by-start (λ y. (c : ℕ) × (others : List ℕ) × (y ≡ (forest, started Kind.loop 5 b a) ∷ passing body a b g c others rest)) (MastNode.Loop (node_id 1)) slots.5 (λ l r.
    let (c, others, e) = passes-exact (loop-start (node_id 1) slots.5 r) in (c, others, ap (λ y. (forest, started Kind.loop 5 b a) ∷ y) e))

-- And these lists are proper runs.
pub small-proper : {body : Bool} {a b g : ℕ} {rest : List Cycle} (id : ℕ) → Holds forest id (MastNode.Block small) → Run profile forest id body a b g (spanned forest id body a b g rest) rest
unfolding grove forest HasOperations HasOpcode batch_at is_batch opcode_at word_at is_op_opcode control_opcodes controls is_one_of
small-proper id h = Run.block {block = small} h (InBlock.operation 5 (_, refl, refl) refl (InBlock.operation 6 (_, refl, refl) refl (InBlock.ended (_, refl, refl) refl)))

pub large-proper : {body : Bool} {a b g : ℕ} {rest : List Cycle} → Run profile forest 8 body a b g (respanning profile body a b g rest) rest
unfolding grove forest HasOperations HasOpcode batch_at is_batch opcode_at word_at is_op_opcode control_opcodes controls is_one_of
large-proper =
    Run.block {block = large} slots.8 (InBlock.operation 5 (_, refl, refl) refl (InBlock.operation 6 (_, refl, refl) refl
    (InBlock.respan {index = 0} (_, refl, refl) (omega arith) (InBlock.operation 7 (_, refl, refl) refl (InBlock.ended (_, refl, refl) refl)))))

pub join-proper : {body : Bool} {a b g c d : ℕ} {rest : List Cycle} → Run profile forest 0 body a b g (joining body a b g c d rest) rest
join-proper = Run.join {first = node_id 1} {second = node_id 2} slots.0 (small-proper 1 slots.1) (small-proper 2 slots.2)

pub split-proper : {body : Bool} {a b g c m : ℕ} {rest : List Cycle} → (m ≡ 1) ⊎ (m ≡ 2) → Run profile forest 4 body a b g (under split Ending.FinishSplit 4 forest m body a b g c rest) rest
unfolding Child ending_of
split-proper (inl e) = Run.one split (node_id 1, node_id 2, slots.4, refl, inl e) (small-proper _ (rw e slots.1))
split-proper (inr e) = Run.one split (node_id 1, node_id 2, slots.4, refl, inr e) (small-proper _ (rw e slots.2))

pub call-proper : {body : Bool} {a b g c : ℕ} {rest : List Cycle} → Run profile forest 6 body a b g (under call Ending.FinishCall 6 forest 1 body a b g c rest) rest
unfolding Child ending_of
call-proper = Run.one call (node_id 1, slots.6, refl, refl) (small-proper 1 slots.1)

pub syscall-proper : {body : Bool} {a b g c : ℕ} {rest : List Cycle} → Run profile forest 7 body a b g (under syscall Ending.FinishCall 7 forest 1 body a b g c rest) rest
unfolding Child ending_of
syscall-proper = Run.one syscall (node_id 1, slots.7, refl, refl) (small-proper 1 slots.1)

passes-proper : {body : Bool} {a b g : ℕ} {rest : List Cycle} (c : ℕ) (others : List ℕ) → RunPasses profile forest 5 1 body a b g (passing body a b g c others rest) rest
unfolding passing
passes-proper c [] = RunPasses.ended (small-proper 1 slots.1)
passes-proper c (d ∷ others) = RunPasses.again (small-proper 1 slots.1) (passes-proper d others)

pub loop-proper : {body : Bool} {a b g : ℕ} {rest : List Cycle} (c : ℕ) (others : List ℕ) → Run profile forest 5 body a b g ((forest, started Kind.loop 5 b a) ∷ passing body a b g c others rest) rest
loop-proper c others = Run.loop {child = node_id 1} slots.5 (passes-proper c others)
