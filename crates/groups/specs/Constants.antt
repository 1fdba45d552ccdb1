-- The numbers of the documents that have names: the width of a row, its columns, the limit of rows, the refusals. `src/constants.rt` has the
-- same for the code. They stand here since `groups` is the lowest layer that refuses.
use Rattle.std.specs.Prelude.{ℕ}

-- THE ROW: "49 cells in the documentation's order"

abbrev pub row_width : ℕ
row_width = 49

-- "over 2^24 rows" is refused with 11
abbrev pub most_rows : ℕ
most_rows = 16777216

-- the cells of so many rows
abbrev pub most_cells : ℕ
most_cells = 822083584

-- COLUMNS that a definition names; of several columns the first

-- decoder: addr
abbrev pub addr_column : ℕ
addr_column = 6

-- seven op bits, lowest first
abbrev pub op_bits_column : ℕ
op_bits_column = 7

-- the hasher cells h0 to h7
abbrev pub hasher_column : ℕ
hasher_column = 14

-- h4: the loop-body flag of an END
abbrev pub h4_column : ℕ
h4_column = 18

-- in_span
abbrev pub in_span_column : ℕ
in_span_column = 22

-- group_count, which is a LOOP row's count
abbrev pub count_column : ℕ
count_column = 23

-- stack: the top 16 cells
abbrev pub stack_column : ℕ
stack_column = 30

-- b0: the depth
abbrev pub b0_column : ℕ
b0_column = 46

-- the helper, behind b0 and b1
abbrev pub helper_column : ℕ
helper_column = 48

-- REFUSALS: "Refusals from the input"

-- "operation opcode ≥ 128" (of cells: none since N2)
abbrev pub big_opcode : ℕ
big_opcode = 1

-- "profile: opcode ≥ 128, two equal, HALT without bits 5 and 6, step 0 or ≥ p"
abbrev pub bad_profile : ℕ
bad_profile = 2

-- "no such node"
abbrev pub no_such_node : ℕ
no_such_node = 3

-- "wrong node kind"
abbrev pub wrong_node_kind : ℕ
wrong_node_kind = 4

-- "no such batch"
abbrev pub no_such_batch : ℕ
no_such_batch = 5

-- "operation past the batch's or in no group, index above 8 in it, or falling starts"
abbrev pub no_such_operation : ℕ
no_such_operation = 6

-- "group count"
abbrev pub bad_group_count : ℕ
bad_group_count = 7

-- "consumed exceeds total"
abbrev pub over_total : ℕ
over_total = 8

-- "helper value ≥ 2^32"
abbrev pub big_helper_value : ℕ
big_helper_value = 9

-- "stack state's depth below 16"
abbrev pub low_depth : ℕ
low_depth = 10

-- "lengths: …"
abbrev pub bad_length : ℕ
bad_length = 11

-- "no word of the grammar"
abbrev pub no_word_of_grammar : ℕ
no_word_of_grammar = 12

-- "flag or count wrong"
abbrev pub wrong_flag_or_count : ℕ
wrong_flag_or_count = 13

-- "LOOP without body END"
abbrev pub no_body_end : ℕ
no_body_end = 14

-- "block 65 deep"
abbrev pub block65_deep : ℕ
block65_deep = 15

-- REFUSALS: "Refusals from the state"

-- "20 address, 21 parent, 22 end queue empty"
abbrev pub address_queue_empty : ℕ
address_queue_empty = 20

abbrev pub parent_queue_empty : ℕ
parent_queue_empty = 21

abbrev pub end_queue_empty : ℕ
end_queue_empty = 22

-- "nothing stored, or a captured value absent"
abbrev pub stored_absent : ℕ
stored_absent = 23

-- "no row left in the fragment"
abbrev pub no_row_left : ℕ
no_row_left = 24

-- "a fragment but the last is not full, or the last is empty"
abbrev pub fragment_not_full : ℕ
fragment_not_full = 25

-- "no fragment"
abbrev pub no_fragments : ℕ
no_fragments = 26

-- REFUSALS of the change requests; 30, 33 and 34 are still to come

-- "the lent index has fewer than three numbers for each block" (N1)
abbrev pub short_index : ℕ
short_index = 27

-- "the lent text buffer is too short" (N3)
abbrev pub short_text : ℕ
short_text = 28

-- "a text read is none that the writer gives" (N3)
abbrev pub no_dump : ℕ
no_dump = 29

-- "StartNode of a SYSCALL node" (N8)
abbrev pub syscall_start : ℕ
syscall_start = 31

-- "it would need a 257th address or a count above 2^24" (N9)
abbrev pub tally_full : ℕ
tally_full = 32
