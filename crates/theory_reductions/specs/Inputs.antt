-- The inputs of the calls with each of their cells read: "A cell from p up to 2^64 − 1 is now read as that number less p, everywhere a cell comes
-- in" (N2). Numbers that are no cells (kinds, ids, counts, opcodes, positions, clk, ctx, depths) are as they were.
use Rattle.std.specs.Prelude.{Bool, ◌&&◌, ◌||◌, List, [], ◌∷◌, ◌++◌, ℕ, zero, suc, ◌/◌, ◌%◌, leb, ltb, eqb, length, take, drop, get_or}
use Rattle.field.specs.Cells.{read, reduced}
use Rattle.groups.specs.Answer.{pick}
use Rattle.groups.specs.Words.{read_word}
use Rattle.rows.specs.declared.records.state.SystemState.{SystemState}
use Rattle.rows.specs.declared.records.state.StackState.{StackState}
use Rattle.rows.specs.declared.records.continuation.StoredValues.{StoredValues}
use Rattle.rows.specs.records.Forests.{Forest}
use Rattle.rows.specs.records.Addresses.{Queues, read_state}
use Rattle.rows.specs.records.Captured.{read_captured}
use Rattle.rows.specs.records.Built.{read_system, read_stack}
use Rattle.rows.specs.declared.cycles.tracer.CoreTraceGenerationTracer.{CoreTraceGenerationTracer}

-- WHAT IS LENT

-- digests and groups are cells: "also in batch groups"
unfoldable pub read_forest : Forest → Forest
read_forest f = record {
  nodes = f.nodes;
  digests = reduced f.digests;
  batches = f.batches;
  groups = reduced f.groups;
  ops = f.ops;
}

unfoldable pub read_queues : Queues → Queues
read_queues q = record { addresses = reduced q.addresses; parents = reduced q.parents; ends = reduced q.ends }

-- WHAT A CALL IS GIVEN

unfoldable pub read_system_state : SystemState → SystemState
read_system_state s = record { clk = s.clk; ctx = s.ctx; fn_hash = read_word s.fn_hash }

unfoldable pub read_stack_state : StackState → StackState
read_stack_state k = record {
  stack_top = reduced k.stack_top;
  stack_depth = k.stack_depth;
  overflow_addr = read k.overflow_addr;
}

unfoldable pub read_values : StoredValues → StoredValues
read_values v = record {
  continuation = v.continuation;
  is_loop_body = v.is_loop_body;
  captured = read_captured v.captured;
}

-- the tracer with its captured values, its address state and its built cells read
unfoldable pub read_tracer : CoreTraceGenerationTracer → CoreTraceGenerationTracer
read_tracer t = record {
  refusal = t.refusal;
  row_write_index = t.row_write_index;
  continuation = t.continuation;
  is_loop_body = t.is_loop_body;
  captured = read_captured t.captured;
  decoder_state = read_state t.decoder_state;
  at = t.at;
  system_cols = read_system t.system_cols;
  stack_cols = read_stack t.stack_cols;
}

-- CALL RECORDS

-- numbers of a list whose places are cells read, the others as they are; the list begins at place i
unfoldable pub read_places : (is_cell : ℕ → Bool) → (i : ℕ) → List ℕ → List ℕ
read_places is_cell i [] = []
read_places is_cell i (x ∷ l) = pick (is_cell i) (read x) x ∷ read_places is_cell (suc i) l

-- of a storing: numbers 8 to 11 the callee word, 14 the next overflow address
abbrev pub storing_cell : ℕ → Bool
storing_cell i = (leb 8 i && ltb i 12) || eqb i 14

-- of a finish: numbers 4 to 7 fn_hash, 8 to 23 the top of the stack, 25 the overflow address, 26 to 31 the cells of the helper registers
abbrev pub finish_cell : ℕ → Bool
finish_cell i = (leb 4 i && ltb i 24) || leb 25 i

-- number 0 is 0: a storing; else a finish
unfoldable pub read_record : List ℕ → List ℕ
read_record r = read_places (pick (eqb (get_or r 0 0) 0) storing_cell finish_cell) 0 r

-- the first n records, and what stands behind them as it is
unfoldable pub read_records : (n : ℕ) → List ℕ → List ℕ
read_records zero records = records
read_records (suc n) records = read_record (take 32 records) ++ read_records n (drop 32 records)

-- all whole records of a list
abbrev pub read_all_records : List ℕ → List ℕ
read_all_records records = read_records (length records / 32) records

-- TALLIES

-- a tally (N9): the address of a place is a cell, its count a plain number
abbrev pub tally_cell : ℕ → Bool
tally_cell i = eqb (i % 2) 0

unfoldable pub read_tally : List ℕ → List ℕ
read_tally tally = read_places tally_cell 0 tally
