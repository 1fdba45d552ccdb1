-- Document 01: "Built values: clk + 1 (never wrapped), ctx, fn_hash; top 16 (stored last first), depth, overflow address, depth − 16."
use Rattle.std.specs.Prelude.{List, [], ◌∷◌, ◌++◌, ℕ, ◌+◌, ◌-◌, get_or}
use Rattle.field.specs.Cells.{read, cell_at}
use Rattle.groups.specs.Words.{read_word}
use Rattle.rows.specs.declared.records.state.SystemState.{SystemState}
use Rattle.rows.specs.declared.records.state.StackState.{StackState}
use Rattle.rows.specs.declared.records.state.SystemCols.{SystemCols}
use Rattle.rows.specs.declared.records.state.StackCols.{StackCols}
use Rattle.rows.specs.records.DecoderRows.{word_cells}

-- "Every cell that a call writes is reduced" (N2); clk + 1 and ctx are below p by themselves
unfoldable pub built_system : SystemState → SystemCols
built_system system = record { clk = system.clk.0 + 1; ctx = system.ctx.0; fn_hash = read_word system.fn_hash }

-- the last of the stored top comes first
abbrev pub reversed16 : List ℕ → List ℕ
reversed16 t =
    get_or t 15 0 ∷ get_or t 14 0 ∷ get_or t 13 0 ∷ get_or t 12 0 ∷ get_or t 11 0 ∷ get_or t 10 0 ∷ get_or t 9 0 ∷ get_or t 8 0
    ∷ get_or t 7 0 ∷ get_or t 6 0 ∷ get_or t 5 0 ∷ get_or t 4 0 ∷ get_or t 3 0 ∷ get_or t 2 0 ∷ get_or t 1 0 ∷ get_or t 0 0 ∷ []

-- the first 16 of a list, each read as a cell
abbrev pub read16 : List ℕ → List ℕ
read16 t =
    cell_at t 0 ∷ cell_at t 1 ∷ cell_at t 2 ∷ cell_at t 3 ∷ cell_at t 4 ∷ cell_at t 5 ∷ cell_at t 6 ∷ cell_at t 7
    ∷ cell_at t 8 ∷ cell_at t 9 ∷ cell_at t 10 ∷ cell_at t 11 ∷ cell_at t 12 ∷ cell_at t 13 ∷ cell_at t 14 ∷ cell_at t 15 ∷ []

unfoldable pub built_stack : StackState → StackCols
built_stack stack = record {
  top = read16 (reversed16 stack.stack_top);
  b0 = stack.stack_depth;
  b1 = read stack.overflow_addr;
  h0 = stack.stack_depth - 16;
}

-- the cells before any row: "zero in its first"
unfoldable pub no_system : SystemCols
no_system = record { clk = 0; ctx = 0; fn_hash = (0, 0, 0, 0) }

unfoldable pub no_stack : StackCols
no_stack = record { top = 0 ∷ 0 ∷ 0 ∷ 0 ∷ 0 ∷ 0 ∷ 0 ∷ 0 ∷ 0 ∷ 0 ∷ 0 ∷ 0 ∷ 0 ∷ 0 ∷ 0 ∷ 0 ∷ []; b0 = 0; b1 = 0; h0 = 0 }

-- built cells as they come in
unfoldable pub read_system : SystemCols → SystemCols
read_system s = record { clk = read s.clk; ctx = read s.ctx; fn_hash = read_word s.fn_hash }

unfoldable pub read_stack : StackCols → StackCols
read_stack k = record { top = read16 k.top; b0 = read k.b0; b1 = read k.b1; h0 = read k.h0 }

-- "clk, ctx, fn_hash (4)"
unfoldable pub system_cells : SystemCols → List ℕ
system_cells s = s.clk ∷ s.ctx ∷ word_cells s.fn_hash

-- the first 16 of a list, 0 past its end
abbrev pub cells16 : List ℕ → List ℕ
cells16 t =
    get_or t 0 0 ∷ get_or t 1 0 ∷ get_or t 2 0 ∷ get_or t 3 0 ∷ get_or t 4 0 ∷ get_or t 5 0 ∷ get_or t 6 0 ∷ get_or t 7 0
    ∷ get_or t 8 0 ∷ get_or t 9 0 ∷ get_or t 10 0 ∷ get_or t 11 0 ∷ get_or t 12 0 ∷ get_or t 13 0 ∷ get_or t 14 0 ∷ get_or t 15 0 ∷ []

-- "stack top (16), b0, b1, helper"
unfoldable pub stack_cells : StackCols → List ℕ
stack_cells k = cells16 k.top ++ (k.b0 ∷ k.b1 ∷ k.h0 ∷ [])
