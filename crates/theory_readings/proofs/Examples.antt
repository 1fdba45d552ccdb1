-- Examples: the listing of document 01's C10 as a trace, one with a SYSCALL row, and one of each refusal.
use mathlib.Core.Path.{◌≡◌, refl}
use mathlib.Core.Bool.{Bool, true, false}
use mathlib.Core.List.{List, [], ◌∷◌, ◌++◌, map}
use Prim.Native.Nat.{ℕ, ◌+◌, ◌/◌, ◌%◌}
use native.Mathlib.Omega.{arith}
use lib.ListN.{length, take, set, replicate}
use Rattle.field.specs.Modulus.{P}
use Rattle.rows.specs.declared.records.profile.Profile.{Profile}
use Rattle.field.specs.Bounds.{any_from}
use Rattle.field.specs.Cells.{cell_at, reduced}
use Rattle.rows.specs.records.Profiles.{opcodes, is_one_of, two_equal, profile_wrong, lacks_bits}
use Rattle.rows.specs.records.Buffers.{rows_of, flat, opcode_of, low_bits, buffer_wrong}
use Rattle.groups.specs.Answer.{first_of}
use Rattle.theory_readings.specs.Tokens.{split, syscall, Kind, Token, start, end, halt, controls, token_beside, control_token, control_opcodes, is_op_opcode, op_token, all_bits, token_of, tokens_of}
use Rattle.theory_readings.specs.Readings.{Ops, Block, Passes, numbered, spell_ops, spell, depths_of_ops, depths_of, program_rows, depth_list, passes_in, end_row_of, asks_of, asks, all_rows, Trace}
use Rattle.theory_readings.specs.Answers.{ReaderAnswer, accepted, refused, reader_refusal, row_asked}
use Rattle.theory_readings.specs.ways.Parser.{give, passes_with, ops_with, close, enter, opening, at_repeat, step, parse, WordAnswer, word_of, no_word_at, too_deep_at, if_halt, after_halt, after_block, word_answer, read_word, is_met, first_wrong, answer_of_cells, answer_of_word, unless_bad_input, answer}
use Rattle.theory_readings.proofs.AcceptedTraces.{accepts-traces}

-- opcodes of the Miden VM documentation's decoder chapter, as in the vectors of `rows`, and a step of 2
abbrev pub profile : Profile
profile = record {
  span = 86;
  respan = 120;
  join = 87;
  split = 84;
  loop_op = 85;
  repeat = 116;
  call = 108;
  syscall = 104;
  dyn_op = 88;
  dyncall = 92;
  push = 91;
  end = 112;
  halt = 124;
  step = 2;
}

-- a row by its opcode, in_span, address, h4 and count; its other cells are 0
unfoldable pub row : (opcode in_span addr h4 group_count : ℕ) → List ℕ
row opcode in_span addr h4 group_count =
    (0 ∷ 0 ∷ 0 ∷ 0 ∷ 0 ∷ 0 ∷ addr
    ∷ opcode % 2 ∷ opcode / 2 % 2 ∷ opcode / 4 % 2 ∷ opcode / 8 % 2 ∷ opcode / 16 % 2 ∷ opcode / 32 % 2 ∷ opcode / 64
    ∷ 0 ∷ 0 ∷ 0 ∷ 0 ∷ h4 ∷ 0 ∷ 0 ∷ 0 ∷ in_span ∷ group_count ∷ [])
    ++ replicate 25 0

-- C10: a loop of two passes, each with one operation
unfoldable pub listing : List (List ℕ)
listing =
    row 85 0 0 0 2
    ∷ row 86 0 1 0 1
    ∷ row 5 1 3 0 0
    ∷ row 112 0 3 1 0
    ∷ row 116 0 1 1 0
    ∷ row 86 0 1 0 1
    ∷ row 5 1 5 0 0
    ∷ row 112 0 5 1 0
    ∷ row 112 0 1 0 0
    ∷ row 124 0 0 0 0
    ∷ []

unfoldable pub reading : Block
reading =
    Block.loop 0
    (Passes.repeated (Block.span 1 (Ops.op 2 5 (Ops.ended 3))) 4
    (Passes.ended (Block.span 5 (Ops.op 6 5 (Ops.ended 7))) 8))

-- a buffer is read, with as many depth numbers as rows
abbrev pub read_rows : List (List ℕ) → ReaderAnswer
read_rows rows = answer profile (flat rows) (length rows)

pub listing-read : read_rows listing ≡ accepted reading
unfolding answer unless_bad_input answer_of_word answer_of_cells first_wrong is_met asks asks_of passes_in end_row_of row_asked read_word word_answer after_block after_halt if_halt parse step give close ops_with passes_with opening enter at_repeat numbered all_rows tokens_of token_of all_bits control_token op_token is_op_opcode control_opcodes controls token_beside reader_refusal flat rows_of first_of any_from cell_at reduced profile_wrong opcodes two_equal is_one_of lacks_bits buffer_wrong opcode_of low_bits listing row reading
listing-read = refl

-- so it is a trace, with 9 program rows and these depths
pub listing-trace : Trace profile (flat listing) reading
unfolding flat listing row
listing-trace = (accepts-traces profile (flat listing) 10 reading (omega arith)).0 listing-read

pub listing-depths : (program_rows reading ≡ 9) × (depth_list 10 reading ≡ 1 ∷ 2 ∷ 2 ∷ 2 ∷ 1 ∷ 2 ∷ 2 ∷ 2 ∷ 1 ∷ 0 ∷ [])
unfolding program_rows depth_list depths_of depths_of_ops spell spell_ops reading
listing-depths = (refl, refl)

-- "Archived traces with SYSCALL rows are still read" (N8): a SYSCALL around a block of one operation
unfoldable pub archived : List (List ℕ)
archived = row 104 0 0 0 0 ∷ row 86 0 1 0 1 ∷ row 5 1 3 0 0 ∷ row 112 0 3 0 0 ∷ row 112 0 1 0 0 ∷ row 124 0 0 0 0 ∷ []

unfoldable pub archived_reading : Block
archived_reading = Block.one syscall 0 (Block.span 1 (Ops.op 2 5 (Ops.ended 3))) 4

archived-read : read_rows archived ≡ accepted archived_reading
unfolding answer unless_bad_input answer_of_word answer_of_cells first_wrong is_met asks asks_of passes_in end_row_of row_asked read_word word_answer after_block after_halt if_halt parse step give close ops_with passes_with opening enter at_repeat numbered all_rows tokens_of token_of all_bits control_token op_token is_op_opcode control_opcodes controls token_beside reader_refusal flat rows_of first_of any_from cell_at reduced profile_wrong opcodes two_equal is_one_of lacks_bits buffer_wrong opcode_of low_bits archived row archived_reading
archived-read = refl

pub archived-trace : Trace profile (flat archived) archived_reading
unfolding flat archived row
archived-trace = (accepts-traces profile (flat archived) 6 archived_reading (omega arith)).0 archived-read

-- the listing with another row
abbrev pub but : (n : ℕ) → List ℕ → List (List ℕ)
but n cells = set listing n cells

-- no rows; no HALT; a row behind HALT; in_span 2; a bit cell of 2; RESPAN for REPEAT
pub no_words :
    (read_rows [] ≡ refused 12 0)
    × (read_rows (take 9 listing) ≡ refused 12 9)
    × (read_rows (listing ++ (row 5 1 0 0 0 ∷ [])) ≡ refused 12 10)
    × (read_rows (but 2 (row 5 2 3 0 0)) ≡ refused 12 2)
    × (read_rows (but 7 (set (row 112 0 5 1 0) 8 2)) ≡ refused 12 7)
    × (read_rows (but 4 (row 120 0 1 1 0)) ≡ refused 12 4)
unfolding answer unless_bad_input answer_of_word answer_of_cells first_wrong is_met asks asks_of passes_in end_row_of row_asked read_word word_answer after_block after_halt if_halt parse step give close ops_with passes_with opening enter at_repeat numbered all_rows tokens_of token_of all_bits control_token op_token is_op_opcode control_opcodes controls token_beside reader_refusal flat rows_of first_of any_from cell_at reduced profile_wrong opcodes two_equal is_one_of lacks_bits buffer_wrong opcode_of low_bits listing row
no_words = (refl, refl, refl, refl, refl, refl)

-- a count one short and one more; h4 of 0 and of 2 in a body's END, of 1 in another; a flag and a count wrong: the lower row
pub wrong-cells :
    (read_rows (but 0 (row 85 0 0 0 1)) ≡ refused 13 0)
    × (read_rows (but 0 (row 85 0 0 0 3)) ≡ refused 13 0)
    × (read_rows (but 3 (row 112 0 3 0 0)) ≡ refused 13 3)
    × (read_rows (but 7 (row 112 0 5 2 0)) ≡ refused 13 7)
    × (read_rows (but 8 (row 112 0 1 1 0)) ≡ refused 13 8)
    × (read_rows (set (but 7 (row 112 0 5 2 0)) 0 (row 85 0 0 0 1)) ≡ refused 13 0)
unfolding answer unless_bad_input answer_of_word answer_of_cells first_wrong is_met asks asks_of passes_in end_row_of row_asked read_word word_answer after_block after_halt if_halt parse step give close ops_with passes_with opening enter at_repeat numbered all_rows tokens_of token_of all_bits control_token op_token is_op_opcode control_opcodes controls token_beside reader_refusal flat rows_of first_of any_from cell_at reduced profile_wrong opcodes two_equal is_one_of lacks_bits buffer_wrong opcode_of low_bits listing row
wrong-cells = (refl, refl, refl, refl, refl, refl)

-- rows with each number p more
abbrev pub raised : List (List ℕ) → List (List ℕ)
raised rows = map (map (λ (x : ℕ). x + P)) rows

-- "the reading of a trace is that of its reduced cells": the listing with each number p more; a count, a flag and a bit that are wrong reduced
pub unreduced :
    (read_rows (raised listing) ≡ accepted reading)
    × (read_rows (but 0 (row 85 0 0 0 (P + 1))) ≡ refused 13 0)
    × (read_rows (but 7 (row 112 0 5 P 0)) ≡ refused 13 7)
    × (read_rows (but 7 (set (row 112 0 5 1 0) 8 (P + 2))) ≡ refused 12 7)
unfolding answer unless_bad_input answer_of_word answer_of_cells first_wrong is_met asks asks_of passes_in end_row_of row_asked read_word word_answer after_block after_halt if_halt parse step give close ops_with passes_with opening enter at_repeat numbered all_rows tokens_of token_of all_bits control_token op_token is_op_opcode control_opcodes controls token_beside reader_refusal flat rows_of first_of any_from cell_at reduced profile_wrong opcodes two_equal is_one_of lacks_bits buffer_wrong opcode_of low_bits listing row reading
unreduced = (refl, refl, refl, refl)

-- a step of 0; a partial last row; a depth number too few
pub bad-inputs :
    (answer (record {
      span = 86;
      respan = 120;
      join = 87;
      split = 84;
      loop_op = 85;
      repeat = 116;
      call = 108;
      syscall = 104;
      dyn_op = 88;
      dyncall = 92;
      push = 91;
      end = 112;
      halt = 124;
      step = 0;
    }) (flat listing) 10 ≡ refused 2 0)
    × (answer profile (flat listing ++ (0 ∷ [])) 11 ≡ refused 11 0)
    × (answer profile (flat listing) 9 ≡ refused 11 0)
unfolding answer unless_bad_input answer_of_word answer_of_cells first_wrong is_met asks asks_of passes_in end_row_of row_asked read_word word_answer after_block after_halt if_halt parse step give close ops_with passes_with opening enter at_repeat numbered all_rows tokens_of token_of all_bits control_token op_token is_op_opcode control_opcodes controls token_beside reader_refusal flat rows_of first_of any_from cell_at reduced profile_wrong opcodes two_equal is_one_of lacks_bits buffer_wrong opcode_of low_bits listing row
bad-inputs = (refl, refl, refl)

-- n blocks of one child around a SPAN
abbrev pub around : (n : ℕ) → List Token
around n = replicate n (start (Kind.one split)) ++ (start Kind.span ∷ end ∷ (replicate n end ++ (halt ∷ [])))

-- 64 deep is a word; 65 deep is not, at the row that starts the block 65 deep
abbrev pub is_word : WordAnswer → Bool
is_word (word_of b) = true
is_word (no_word_at n) = false
is_word (too_deep_at n) = false

pub deep-words : (is_word (read_word (around 63)) ≡ true) × (read_word (around 64) ≡ too_deep_at 64)
unfolding read_word word_answer after_block after_halt if_halt parse step give close ops_with opening enter numbered
deep-words = (refl, refl)
