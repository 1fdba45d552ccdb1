-- Document 01: "A profile (added by design) gives 13 opcodes .. and the address step".
use Rattle.std.specs.Prelude.{Bool, false, not, ◌&&◌, ◌||◌, List, [], ◌∷◌, ℕ, ◌/◌, ◌%◌, leb, eqb}
use Rattle.field.specs.Modulus.{P}
use Rattle.field.specs.Bounds.{any_from}
use Rattle.rows.specs.declared.records.profile.Profile.{Profile}

-- "13 opcodes (SPAN, RESPAN, JOIN, SPLIT, LOOP, REPEAT, CALL, SYSCALL, DYN, DYNCALL, PUSH, END, HALT)"
unfoldable pub opcodes : Profile → List ℕ
opcodes p =
    p.span ∷ p.respan ∷ p.join ∷ p.split ∷ p.loop_op ∷ p.repeat ∷ p.call ∷ p.syscall ∷ p.dyn_op ∷ p.dyncall
    ∷ p.push ∷ p.end ∷ p.halt ∷ []

-- x is one of the numbers
unfoldable pub is_one_of : ℕ → List ℕ → Bool
is_one_of x [] = false
is_one_of x (y ∷ ys) = eqb x y || is_one_of x ys

-- "two equal"
unfoldable pub two_equal : List ℕ → Bool
two_equal [] = false
two_equal (x ∷ xs) = is_one_of x xs || two_equal xs

-- "HALT without bits 5 and 6": it lacks one of them
unfoldable pub lacks_bits : ℕ → Bool
lacks_bits halt = not (eqb (halt / 32 % 2) 1 && eqb (halt / 64 % 2) 1)

-- Refusal 2: "profile: opcode ≥ 128, two equal, HALT without bits 5 and 6, step 0 or ≥ p"
unfoldable pub profile_wrong : Profile → Bool
profile_wrong p =
    any_from 128 (opcodes p) || (two_equal (opcodes p) || (lacks_bits p.halt || (eqb p.step 0 || leb P p.step)))
