-- Document 01: "Cases C1 to C10 form one table with one theorem over the definitions".
use Rattle.std.specs.Prelude.{◌≡◌, Bool, false, List, [], ◌∷◌, ℕ}
use Prim.Native.String.{String}
use Rattle.field.specs.Inverse.{inverse_of}
use Rattle.groups.specs.Answer.{Answer, accepted, refused, and_then}
use Rattle.groups.specs.Constants.{bad_group_count, over_total}
use Rattle.groups.specs.Flags.{batch_flags}
use Rattle.groups.specs.Contexts.{context_at_op}
use Rattle.groups.specs.declared.helpers.OperationHelperRegisters.TheVariants.{U32Split}
use Rattle.groups.specs.Helpers.{six, helpers_answer}
use Rattle.rows.specs.declared.records.profile.Profile.{Profile}
use Rattle.rows.specs.passes.Passes.{multiplied, loop_without_body}
use Rattle.theory_cases.specs.Listing.{text_lines, listing}
use Rattle.theory_cases.specs.LoopRun.{profile, loop_trace}

-- a case by its name: what the definitions compute, and what document 01 expects
pub data Entry : Type 1 where
  case : (name : String) → {A : Type 0} → (computed expected : A) → Entry

-- the groups left after a PUSH (91) in a block of one batch: the operations PUSH and 5 in group 0, and group 1, which PUSH pushes
unfoldable pub left_after_push : (total : ℕ) → Answer ℕ
left_after_push total =
    and_then
    (context_at_op 91 (record { total = total; first_batch = 0; batches = 1 })
    (2 ∷ 0 ∷ 2 ∷ 2 ∷ 2 ∷ 2 ∷ 2 ∷ 2 ∷ 2 ∷ 2 ∷ 2 ∷ 0 ∷ [])
    (731 ∷ 9 ∷ 0 ∷ 0 ∷ 0 ∷ 0 ∷ 0 ∷ 0 ∷ [])
    0
    1)
    (λ op. accepted op.context.group_count_in_block)

-- the second pass on one row, and whether it refuses it with 14
unfoldable pub on_one_row : Profile → (row : List ℕ) → List (List ℕ) × Bool
on_one_row p row = (multiplied p (row ∷ []), loop_without_body p (row ∷ []))

unfoldable pub table : List Entry
table =
    case "C1: inverse of 2" (inverse_of 2) 9223372034707292161
    ∷ case "C2: U32Split lo 65538, hi 4294967295" (helpers_answer (U32Split 65538 4294967295)) (accepted (six 2 1 65535 65535 0 0))
    ∷ case "C3: hi 4294967294: fifth is 1" (helpers_answer (U32Split 65538 4294967294)) (accepted (six 2 1 65534 65535 1 0))
    ∷ case "C4: count 8" (batch_flags 8) (accepted (1, 0, 0))
    ∷ case "C5: count 9" (batch_flags 9) (accepted (1, 0, 0))
    ∷ case "C6: count 7" (batch_flags 7) (refused bad_group_count)
    ∷ case "C7: a PUSH before, group 0, batch 0, total 2" (left_after_push 2) (accepted 0)
    ∷ case "C8: total 1" (left_after_push 1) (refused over_total)
    ∷ case "C9: one row, whatever it holds: multiplicities unchanged" on_one_row (λ p row. (row ∷ [], false))
    ∷ case "C10: the listing" (listing profile loop_trace)
    (text_lines
    ("row op addr count"
    ∷ "0 LOOP 0 2"
    ∷ "1 SPAN 1 1"
    ∷ "2 5 3 0"
    ∷ "3 END 3 0"
    ∷ "4 REPEAT 1 0"
    ∷ "5 SPAN 1 1"
    ∷ "6 5 5 0"
    ∷ "7 END 5 0"
    ∷ "8 END 1 0"
    ∷ "9 HALT 0 0"
    ∷ []))
    ∷ []

-- what is computed is what is expected
unfoldable pub Agrees : Entry → Type 0
Agrees (case name computed expected) = computed ≡ expected

unfoldable pub AllAgree : List Entry → Type 0
AllAgree [] = Unit {0}
AllAgree (entry ∷ entries) = Agrees entry × AllAgree entries
