-- Document 01's paragraph on proper runs, as a relation on the cycles that happened, and the nesting that ran as a tree.
use Rattle.std.specs.Prelude.{◌≡◌, Bool, true, false, List, [], ◌∷◌, ◌⊎◌, ℕ, suc, ◌+◌, ◌%◌, ◌<◌}
use Rattle.field.specs.Modulus.{P}
use Rattle.groups.specs.Answer.{accepted}
use Rattle.groups.specs.Batches.{batch_at}
use Rattle.groups.specs.declared.word.Word.{Word}
use Rattle.groups.specs.declared.batch.BasicBlockNode.{BasicBlockNode}
use Rattle.groups.specs.declared.batch.OpBatch.{OpBatch}
use Rattle.rows.specs.declared.records.ids.MastNodeId.{MastNodeId}
use Rattle.rows.specs.declared.records.profile.Profile.{Profile}
use Rattle.rows.specs.declared.records.forest.MastNode.{MastNode}
use Rattle.rows.specs.records.Forests.{Forest, node_at, node_entry, opcode_at}
use Rattle.theory_readings.specs.Tokens.{OneChild, split, call, syscall, dyn, dyncall, Kind, is_op_opcode}
use Rattle.theory_readings.specs.Readings as readings
use Rattle.theory_runs.specs.Happened.{Ending, Did, started, operated, respanned, repeated, finished, Cycle}

-- slot id of a forest holds the node
unfoldable pub Holds : Forest → (id : ℕ) → MastNode → Type 0
Holds f id node = (digest : Word) × (node_at f.nodes f.digests id ≡ node_entry node digest)

-- batch `index` of a block has n operations
unfoldable pub HasOperations : Forest → BasicBlockNode → (index n : ℕ) → Type 0
HasOperations f block index n = (batch : OpBatch) × (batch_at f.batches f.groups block index ≡ accepted batch) × (batch.num_ops ≡ n)

-- operation `op` of batch `index` of a block has the opcode
unfoldable pub HasOpcode : Forest → BasicBlockNode → (index op opcode : ℕ) → Type 0
HasOpcode f block index op opcode =
    (batch : OpBatch) × (batch_at f.batches f.groups block index ≡ accepted batch) × (opcode_at f.ops batch op ≡ accepted opcode)

-- the node m of the forest g may run as the one child of the node id of f: "Split: one child; .. Call: the callee; Dyn: some node"; "each
-- node one forest, shared by its children except a Dyn's"
unfoldable pub Child : OneChild → (f : Forest) → (id : ℕ) → (g : Forest) → (m : ℕ) → Type 0
Child split f id g m =
    (first : MastNodeId) × (second : MastNodeId) × Holds f id (MastNode.Split first second) × (g ≡ f) × ((m ≡ first.0) ⊎ (m ≡ second.0))
Child call f id g m = (callee : MastNodeId) × Holds f id (MastNode.Call callee) × (g ≡ f) × (m ≡ callee.0)
Child syscall f id g m = (callee : MastNodeId) × Holds f id (MastNode.Syscall callee) × (g ≡ f) × (m ≡ callee.0)
Child dyn f id g m = Holds f id MastNode.Dyn
Child dyncall f id g m = Holds f id MastNode.Dyncall

-- the finish cycle of such a node
unfoldable pub ending_of : OneChild → Ending
ending_of split = Ending.FinishSplit
ending_of call = Ending.FinishCall
ending_of syscall = Ending.FinishCall
ending_of dyn = Ending.FinishDyn
ending_of dyncall = Ending.FinishDyn

-- the block addresses of the LOOP starts: "no two LOOP starts got the same block address"
unfoldable pub with_loop : Did → List ℕ → List ℕ
with_loop (started Kind.span id b a) l = l
with_loop (started Kind.join id b a) l = l
with_loop (started Kind.loop id b a) l = b ∷ l
with_loop (started (Kind.one kind) id b a) l = l
with_loop (operated id i j opcode) l = l
with_loop (respanned id i) l = l
with_loop (repeated id) l = l
with_loop (finished ending id flag b a g) l = l
with_loop Did.nothing l = l

unfoldable pub loop_starts : List Cycle → List ℕ
loop_starts [] = []
loop_starts (c ∷ cycles) = with_loop c.1 (loop_starts cycles)

-- "moved on by the step for each Respan", modulo p
abbrev pub moved : Profile → ℕ → ℕ
moved p address = (address + p.step) % P

module _ (p : Profile) where
  -- a Block behind its StartNode, from operation `op` of batch `index` on: "an operation cycle for each operation, all with an op's opcode,
  -- and a Respan before each batch but the first". Its address has come to x, its parent's is a, and that one's parent's g; `body` says
  -- whether it runs here as a loop's body. The cycles are those up to its finish cycle, in front of a rest
  pub data InBlock (f : Forest) (id : ℕ) (block : BasicBlockNode) : (index op : ℕ) → (body : Bool) → (a x g : ℕ) → List Cycle → List Cycle → Type 0 where
    ended : {index op : ℕ} {body : Bool} {a x g : ℕ} {rest : List Cycle} →
        HasOperations f block index op → suc index ≡ block.batches →
        InBlock f id block index op body a x g ((f, finished Ending.FinishBasicBlock id body x a g) ∷ rest) rest
    operation : {index op : ℕ} {body : Bool} {a x g : ℕ} {cycles rest : List Cycle} →
        (opcode : ℕ) → HasOpcode f block index op opcode → is_op_opcode p opcode ≡ true →
        InBlock f id block index (suc op) body a x g cycles rest →
        InBlock f id block index op body a x g ((f, operated id index op opcode) ∷ cycles) rest
    respan : {index op : ℕ} {body : Bool} {a x g : ℕ} {cycles rest : List Cycle} →
        HasOperations f block index op → suc index < block.batches →
        InBlock f id block (suc index) 0 body a (moved p x) g cycles rest →
        InBlock f id block index op body a x g ((f, respanned id (suc index)) ∷ cycles) rest

  -- "A proper run of a node under parent address a, its own address b", in front of a rest of cycles; g is the parent's parent's address.
  -- "The loop-body flag is set exactly in the finish cycles of nodes run here as a loop's body"
  mutual
    pub data Run : (f : Forest) → (id : ℕ) → (body : Bool) → (a b g : ℕ) → List Cycle → List Cycle → Type 0 where
      block : {f : Forest} {id : ℕ} {body : Bool} {a b g : ℕ} {cycles rest : List Cycle} {block : BasicBlockNode} →
          Holds f id (MastNode.Block block) → InBlock f id block 0 0 body a b g cycles rest →
          Run f id body a b g ((f, started Kind.span id b a) ∷ cycles) rest
      -- "Join: first, second"; "all children under b; then the finish cycle, its entry giving b .., a, and the parent's parent"
      join : {f : Forest} {id : ℕ} {body : Bool} {a b g c d : ℕ} {cycles between rest : List Cycle} {first second : MastNodeId} →
          Holds f id (MastNode.Join first second) → Run f first.0 false b c a cycles between →
          Run f second.0 false b d a between ((f, finished Ending.FinishJoin id body b a g) ∷ rest) →
          Run f id body a b g ((f, started Kind.join id b a) ∷ cycles) rest
      one : {f child : Forest} {id m : ℕ} {body : Bool} {a b g c : ℕ} {cycles rest : List Cycle} →
          (kind : OneChild) → Child kind f id child m →
          Run child m false b c a cycles ((f, finished (ending_of kind) id body b a g) ∷ rest) →
          Run f id body a b g ((f, started (Kind.one kind) id b a) ∷ cycles) rest
      loop : {f : Forest} {id : ℕ} {body : Bool} {a b g : ℕ} {cycles rest : List Cycle} {child : MastNodeId} →
          Holds f id (MastNode.Loop child) → RunPasses f id child.0 body a b g cycles rest →
          Run f id body a b g ((f, started Kind.loop id b a) ∷ cycles) rest

    -- "Loop: the body, any number of times FinishLoop with condition one and the body, its finish cycle being FinishLoop with zero"
    pub data RunPasses : (f : Forest) → (id child : ℕ) → (body : Bool) → (a b g : ℕ) → List Cycle → List Cycle → Type 0 where
      ended : {f : Forest} {id child : ℕ} {body : Bool} {a b g c : ℕ} {cycles rest : List Cycle} →
          Run f child true b c a cycles ((f, finished Ending.FinishLoop id body b a g) ∷ rest) →
          RunPasses f id child body a b g cycles rest
      again : {f : Forest} {id child : ℕ} {body : Bool} {a b g c : ℕ} {cycles between rest : List Cycle} →
          Run f child true b c a cycles ((f, repeated id) ∷ between) → RunPasses f id child body a b g between rest →
          RunPasses f id child body a b g cycles rest

  -- "The nesting that ran is a tree as in a reading, cycle n .. being row n": the tree of a run that begins with cycle n, and the number of
  -- the cycle behind it
  unfoldable pub ops_from : {f : Forest} {id : ℕ} {block : BasicBlockNode} {index op : ℕ} {body : Bool} {a x g : ℕ} {cycles rest : List Cycle} → (n : ℕ) → InBlock f id block index op body a x g cycles rest → readings.Ops × ℕ
  ops_from n (InBlock.ended size most) = (readings.Ops.ended n, suc n)
  ops_from n (InBlock.operation opcode has is d) = let x = ops_from (suc n) d in (readings.Ops.op n opcode x.0, x.1)
  ops_from n (InBlock.respan size more d) = let x = ops_from (suc n) d in (readings.Ops.respan n x.0, x.1)

  unfoldable mutual
    pub tree_from : {f : Forest} {id : ℕ} {body : Bool} {a b g : ℕ} {cycles rest : List Cycle} → (n : ℕ) → Run f id body a b g cycles rest → readings.Block × ℕ
    tree_from n (Run.block holds d) = let x = ops_from (suc n) d in (readings.Block.span n x.0, x.1)
    tree_from n (Run.join holds d e) =
        let x = tree_from (suc n) d in let y = tree_from x.1 e in (readings.Block.join n x.0 y.0 y.1, suc y.1)
    tree_from n (Run.one kind child d) = let x = tree_from (suc n) d in (readings.Block.one kind n x.0 x.1, suc x.1)
    tree_from n (Run.loop holds d) = let x = passes_from (suc n) d in (readings.Block.loop n x.0, x.1)

    pub passes_from : {f : Forest} {id child : ℕ} {body : Bool} {a b g : ℕ} {cycles rest : List Cycle} → (n : ℕ) → RunPasses f id child body a b g cycles rest → readings.Passes × ℕ
    passes_from n (RunPasses.ended d) = let x = tree_from n d in (readings.Passes.ended x.0 x.1, suc x.1)
    passes_from n (RunPasses.again d e) =
        let x = tree_from n d in let y = passes_from (suc x.1) e in (readings.Passes.repeated x.0 x.1 y.0, y.1)
