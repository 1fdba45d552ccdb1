-- Document 01, C10: "Fields: row, name or opcode, addr, count". The listing of a trace, as bytes.
use Rattle.std.specs.Prelude.{List, [], ◌∷◌, ◌++◌, ℕ, suc, eqb}
use Prim.Native.String.{String}
use Rattle.groups.specs.Answer.{pick}
use Rattle.rows.specs.declared.records.profile.Profile.{Profile}
use Rattle.rows.specs.records.Buffers.{addr_of, opcode_of}
use Rattle.theory_readings.specs.Tokens.{count_of}
use Rattle.theory_readings.specs.Readings.{all_rows}
use Rattle.theory_dumps.specs.Numerals.{decimal}
use Rattle.theory_dumps.specs.Dumps.{bytes}

-- texts, each as a line: a newline behind it
unfoldable pub text_lines : List String → List ℕ
text_lines [] = []
text_lines (text ∷ texts) = bytes text ++ (10 ∷ text_lines texts)

-- the names of the control rows beside their opcodes: all of the profile's other than PUSH, which is an op
unfoldable pub names : Profile → List (ℕ × String)
names p =
    (p.span, "SPAN")
    ∷ (p.respan, "RESPAN")
    ∷ (p.join, "JOIN")
    ∷ (p.split, "SPLIT")
    ∷ (p.loop_op, "LOOP")
    ∷ (p.repeat, "REPEAT")
    ∷ (p.call, "CALL")
    ∷ (p.syscall, "SYSCALL")
    ∷ (p.dyn_op, "DYN")
    ∷ (p.dyncall, "DYNCALL")
    ∷ (p.end, "END")
    ∷ (p.halt, "HALT")
    ∷ []

-- "name or opcode"
unfoldable pub name_beside : (opcode : ℕ) → List (ℕ × String) → List ℕ
name_beside opcode [] = decimal opcode
name_beside opcode (x ∷ l) = pick (eqb opcode x.0) (bytes x.1) (name_beside opcode l)

-- a row's line: a space between its fields, and a newline
unfoldable pub row_line : Profile → (number : ℕ) → (row : List ℕ) → List ℕ
row_line p number row =
    decimal number ++ (32 ∷ name_beside (opcode_of row) (names p)) ++ (32 ∷ decimal (addr_of row)) ++ (32 ∷ decimal (count_of row)) ++ (10 ∷ [])

-- the lines of rows, the first of which has the given number
unfoldable pub row_lines : Profile → (number : ℕ) → (rows : List (List ℕ)) → List ℕ
row_lines p number [] = []
row_lines p number (row ∷ rows) = row_line p number row ++ row_lines p (suc number) rows

-- the header, and a line for each row of a trace
unfoldable pub listing : Profile → (cells : List ℕ) → List ℕ
listing p cells = bytes "row op addr count\n" ++ row_lines p 0 (all_rows cells)
