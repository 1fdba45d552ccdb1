-- A way to make the index: one scan of the rows with the places of the open blocks. What the index is does not mention it (Indexes.antt);
-- that it makes the index is a theorem (proofs/Scanned.antt).
use Rattle.std.specs.Prelude.{List, [], ◌∷◌, ◌++◌, ℕ, suc, pred, ◌+◌, ◌<◌, length, get_or, set}
use Rattle.theory_readings.specs.Tokens.{Token, start, repeat, end, halt, nothing}
use Rattle.theory_readings.specs.Readings.{Row}

-- what a row does to the open blocks
pub data Change : Type 0 where
  begins ends stays : Change

unfoldable pub change_of : Token → Change
change_of (start kind) = begins
change_of end = ends
change_of (Token.op opcode) = stays
change_of Token.respan = stays
change_of repeat = stays
change_of halt = stays
change_of nothing = stays

-- the start row of the innermost open block, or the row itself where none is open; an open block is known by where its three numbers begin
unfoldable pub around : (made stack : List ℕ) → (row : ℕ) → ℕ
around made [] row = row
around made (at ∷ stack) row = get_or made at 0

-- END of the innermost open block
unfoldable pub ended : (made stack : List ℕ) → (row : ℕ) → List ℕ
ended made [] row = made
ended made (at ∷ stack) row = set made (at + 1) row

unfoldable pub closed : (stack : List ℕ) → List ℕ
closed [] = []
closed (at ∷ stack) = stack

-- the numbers made behind a row
unfoldable pub made_behind : (row : ℕ) → Change → (made stack : List ℕ) → List ℕ
unfolding around ended
made_behind row begins made stack = made ++ (row ∷ 0 ∷ around made stack row ∷ [])
made_behind row ends made stack = ended made stack row
made_behind row stays made stack = made

-- the open blocks behind it
unfoldable pub open_behind : Change → (made stack : List ℕ) → List ℕ
unfolding closed
open_behind begins made stack = length made ∷ stack
open_behind ends made stack = closed stack
open_behind stays made stack = stack

-- the numbers made behind all rows
unfoldable pub index_scan : List Row → (made stack : List ℕ) → List ℕ
unfolding change_of made_behind open_behind
index_scan [] made stack = made
index_scan (x ∷ rows) made stack = index_scan rows (made_behind x.0 (change_of x.1) made stack) (open_behind (change_of x.1) made stack)

-- the number of start rows
unfoldable pub one_if_begins : Change → ℕ
one_if_begins begins = 1
one_if_begins ends = 0
one_if_begins stays = 0

unfoldable pub starts : List Row → ℕ
unfolding change_of one_if_begins
starts [] = 0
starts (x ∷ rows) = one_if_begins (change_of x.1) + starts rows

-- fewer than 64 blocks are open before a start row, at least one before an END row, where n are
unfoldable pub FitsRow : (n : ℕ) → Change → Type 0
FitsRow n begins = n < 64
FitsRow n ends = 0 < n
FitsRow n stays = Unit {0}

-- how many are open behind a row
unfoldable pub open_count : (n : ℕ) → Change → ℕ
open_count n begins = suc n
open_count n ends = pred n
open_count n stays = n

unfoldable pub Fits : (n : ℕ) → List Row → Type 0
unfolding change_of FitsRow open_count
Fits n [] = Unit {0}
Fits n (x ∷ rows) = FitsRow n (change_of x.1) × Fits (open_count n (change_of x.1)) rows
