-- The refusals of the code by their numbers, which `Constants` has with the documents' words, and what an answer of the code tells.
-- Document 01: "When an answer is an enum, a definition provides this paper's number and values for each of the enum's cases."
use Rattle.std.specs.Prelude.{ℕ, Option, Some, None, Result, Ok, Err}
use Rattle.groups.specs.Answer.{Answer, accepted, refused}
use Rattle.groups.specs.Constants.{big_opcode, bad_profile, no_such_node, wrong_node_kind, no_such_batch, no_such_operation, bad_group_count, over_total, big_helper_value, low_depth, bad_length, no_word_of_grammar, wrong_flag_or_count, no_body_end, block65_deep, address_queue_empty, parent_queue_empty, end_queue_empty, stored_absent, no_row_left, fragment_not_full, no_fragments, short_index, short_text, no_dump, syscall_start, tally_full}
use Rattle.groups.specs.declared.refusal.Refusal.{Refusal}

-- the number of a refusal
abbrev pub number_of : Refusal → ℕ
number_of Refusal.BigOpcode = big_opcode
number_of Refusal.BadProfile = bad_profile
number_of Refusal.NoSuchNode = no_such_node
number_of Refusal.WrongNodeKind = wrong_node_kind
number_of Refusal.NoSuchBatch = no_such_batch
number_of Refusal.NoSuchOperation = no_such_operation
number_of Refusal.BadGroupCount = bad_group_count
number_of Refusal.OverTotal = over_total
number_of Refusal.BigHelperValue = big_helper_value
number_of Refusal.LowDepth = low_depth
number_of Refusal.BadLength = bad_length
number_of Refusal.NoWordOfGrammar = no_word_of_grammar
number_of Refusal.WrongFlagOrCount = wrong_flag_or_count
number_of Refusal.NoBodyEnd = no_body_end
number_of Refusal.Block65Deep = block65_deep
number_of Refusal.AddressQueueEmpty = address_queue_empty
number_of Refusal.ParentQueueEmpty = parent_queue_empty
number_of Refusal.EndQueueEmpty = end_queue_empty
number_of Refusal.StoredAbsent = stored_absent
number_of Refusal.NoRowLeft = no_row_left
number_of Refusal.FragmentNotFull = fragment_not_full
number_of Refusal.NoFragments = no_fragments
number_of Refusal.ShortIndex = short_index
number_of Refusal.ShortText = short_text
number_of Refusal.NoDump = no_dump
number_of Refusal.SyscallStart = syscall_start
number_of Refusal.TallyFull = tally_full

-- the number and the values of an answer
abbrev pub told : {A : Type 0} → Result A Refusal → Answer A
told (Ok a) = accepted a
told (Err r) = refused (number_of r)

-- the same of an answer that is refused in one way only
abbrev pub told_or : {A : Type 0} → (number : ℕ) → Option A → Answer A
told_or number (Some a) = accepted a
told_or number None = refused number
