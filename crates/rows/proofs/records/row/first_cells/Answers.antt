-- `row::first_cells` meets its contract.
use mathlib.Core.Path.{◌≡◌}
use mathlib.Core.List.{◌++◌, [], ◌∷◌}
use Prim.Native.Nat.{ℕ, ◌/◌, ◌%◌}
use native.Mathlib.Omega.{arith}
use Rattle.field.specs.Modulus.{P}
use Rattle.field.specs.Cells.{reduced}
use Rattle.field.proofs.CellLaws.{read_small}
use Rattle.groups.specs.Words.{read_word}
use Rattle.groups.specs.declared.word.Word.{Word}
use Rattle.rows.specs.declared.records.decoder_row.DecoderRow.{DecoderRow}
use Rattle.rows.specs.declared.records.state.SystemCols.{SystemCols}
use Rattle.rows.specs.records.Built.{system_cells, read_system}
use Rattle.rows.specs.records.DecoderRows.{decoder_cells, extra0, extra1}
use Rattle.rows.proofs.records.row.first_cells.Goals as goal

-- the op bits are below p
bits-read : (op : ℕ) → (op % 2 % P ≡ op % 2) × (op / 2 % 2 % P ≡ op / 2 % 2) × (op / 4 % 2 % P ≡ op / 4 % 2) × (op / 8 % 2 % P ≡ op / 8 % 2)
    × (op / 16 % 2 % P ≡ op / 16 % 2) × (op / 32 % 2 % P ≡ op / 32 % 2) × (op / 64 % 2 % P ≡ op / 64 % 2)
bits-read op =
    (read_small (op % 2) (omega arith), read_small (op / 2 % 2) (omega arith), read_small (op / 4 % 2) (omega arith), read_small (op / 8 % 2) (omega arith), read_small (op / 16 % 2) (omega arith), read_small (op / 32 % 2) (omega arith), read_small (op / 64 % 2) (omega arith))

-- the cells of what was read
all_read : (system s : SystemCols) (d : DecoderRow) (h g : Word) (op addr within count index f0 f1 f2 e0 x0 e1 x1 : ℕ) →
    op ≡ d.opcode → s ≡ read_system system → h ≡ read_word d.hasher_state_first_word → g ≡ read_word d.hasher_state_second_word →
    addr ≡ d.addr % P → within ≡ d.in_basic_block % P → count ≡ d.group_count % P → index ≡ d.op_index % P →
    f0 ≡ d.op_batch_flags.0 % P → f1 ≡ d.op_batch_flags.1 % P → f2 ≡ d.op_batch_flags.2 % P →
    e0 ≡ extra0 op → x0 ≡ e0 % P → e1 ≡ extra1 op → x1 ≡ e1 % P →
    s.clk ∷ s.ctx ∷ s.fn_hash.0 ∷ s.fn_hash.1 ∷ s.fn_hash.2 ∷ s.fn_hash.3 ∷ addr
    ∷ op % 2 ∷ op / 2 % 2 ∷ op / 4 % 2 ∷ op / 8 % 2 ∷ op / 16 % 2 ∷ op / 32 % 2 ∷ op / 64 % 2
    ∷ h.0 ∷ h.1 ∷ h.2 ∷ h.3 ∷ g.0 ∷ g.1 ∷ g.2 ∷ g.3 ∷ within ∷ count ∷ index ∷ f0 ∷ f1 ∷ f2 ∷ x0 ∷ x1 ∷ []
    ≡ reduced (system_cells system ++ decoder_cells d)
unfolding system_cells decoder_cells reduced read_system
all_read system s d h g op addr within count index f0 f1 f2 e0 x0 e1 x1 eo es eh eg ea ew ec ei ef0 ef1 ef2 e0e x0e e1e x1e =
    let (b0, b1, b2, b3, b4, b5, b6) = bits-read op in
    rw (x1e, e1e, x0e, e0e, ef2, ef1, ef0, ei, ec, ew, ea, eg, eh, es, ← eo, b0, b1, b2, b3, b4, b5, b6)

pub returns : goal.returns
returns c = all_read _ _ _ _ _ _ _ _ _ _ _ _ _ _ _ _ _ c.from-op.ensures c.read-s.ensures c.read_word-h.ensures c.read_word-g.ensures
    c.reduce.ensures c.reduce-2.ensures c.reduce-3.ensures c.reduce-4.ensures c.reduce-5.ensures c.reduce-6.ensures c.reduce-7.ensures
    c.extra_0.ensures c.reduce-8.ensures c.extra_1.ensures c.reduce-9.ensures
