-- Change request N1: which block of an index encloses a row, whoever made the numbers.
use Rattle.std.specs.Prelude.{Bool, ◌&&◌, List, [], ◌∷◌, ℕ, suc, ◌%◌, leb, eqb, length}
use Rattle.std.proofs.Math.Option.{Option, none, some}
use Rattle.groups.specs.Answer.{Answer, accepted, refused, pick}
use Rattle.groups.specs.Constants.{bad_length}

-- "whose start and END rows enclose it, both included"
unfoldable pub encloses : (start end row : ℕ) → Bool
encloses start end row = leb start row && leb row end

-- the later of two places, where there is one
unfoldable pub later : (second first : Option ℕ) → Option ℕ
later (some k) first = some k
later none first = first

-- "the place .. of the last block whose start and END rows enclose it .. or none", where the first three numbers are those of place k
unfoldable pub last_from : (k : ℕ) → (numbers : List ℕ) → (row : ℕ) → Option ℕ
last_from k (start ∷ end ∷ around ∷ more) row = later (last_from (suc k) more row) (pick (encloses start end row) (some k) none)
last_from k (start ∷ end ∷ []) row = none
last_from k (start ∷ []) row = none
last_from k [] row = none

-- "(no multiple of three: 11)"; "the place, from 0"
unfoldable pub enclosing : (numbers : List ℕ) → (row : ℕ) → Answer (Option ℕ)
enclosing numbers row = pick (eqb (length numbers % 3) 0) (accepted (last_from 0 numbers row)) (refused bad_length)
