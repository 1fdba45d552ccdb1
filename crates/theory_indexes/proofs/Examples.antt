-- Examples: the index of document 01's C10 and the block of each of its rows; numbers from anybody.
use mathlib.Core.Path.{◌≡◌, refl}
use mathlib.Core.List.{List, [], ◌∷◌, map}
use mathlib.Core.Option.{none, some}
use Prim.Native.Nat.{ℕ}
use Rattle.groups.specs.Answer.{accepted, refused}
use Rattle.theory_readings.specs.Readings.{end_row_of}
use Rattle.theory_readings.proofs.Examples.{reading}
use Rattle.theory_indexes.specs.Indexes.{start_row, end_of_passes, blocks_in, index_of, index, places_of_ops, places_of, innermost}
use Rattle.theory_indexes.specs.Enclosing.{encloses, later, last_from, enclosing}

-- C10: the loop and its two bodies
abbrev pub listing_index : List ℕ
listing_index = 0 ∷ 8 ∷ 0 ∷ 1 ∷ 3 ∷ 0 ∷ 5 ∷ 7 ∷ 0 ∷ []

pub listing-index : (index reading ≡ listing_index) × (blocks_in reading ≡ 3)
unfolding index index_of start_row end_of_passes end_row_of blocks_in reading
listing-index = (refl, refl)

abbrev pub row_numbers : List ℕ
row_numbers = 0 ∷ 1 ∷ 2 ∷ 3 ∷ 4 ∷ 5 ∷ 6 ∷ 7 ∷ 8 ∷ 9 ∷ 10 ∷ []

-- its ten rows, and one past the end
pub listing-places :
    map (innermost reading) row_numbers
    ≡ some 0 ∷ some 1 ∷ some 1 ∷ some 1 ∷ some 0 ∷ some 2 ∷ some 2 ∷ some 2 ∷ some 0 ∷ none ∷ none ∷ []
unfolding innermost places_of places_of_ops blocks_in reading
listing-places = refl

pub listing-found : map (enclosing listing_index) row_numbers ≡ map (λ row. accepted (innermost reading row)) row_numbers
unfolding enclosing last_from later encloses innermost places_of places_of_ops blocks_in reading
listing-found = refl

-- no numbers; no multiple of three; blocks that overlap, the last one counts; an END row before the start row
pub any-numbers :
    (enclosing [] 0 ≡ accepted none)
    × (enclosing (0 ∷ 8 ∷ []) 0 ≡ refused 11)
    × (enclosing (0 ∷ 8 ∷ 0 ∷ 1 ∷ []) 0 ≡ refused 11)
    × (enclosing (0 ∷ 5 ∷ 0 ∷ 3 ∷ 8 ∷ 9 ∷ []) 5 ≡ accepted (some 1))
    × (enclosing (3 ∷ 8 ∷ 9 ∷ 0 ∷ 5 ∷ 0 ∷ []) 5 ≡ accepted (some 1))
    × (enclosing (5 ∷ 3 ∷ 0 ∷ []) 4 ≡ accepted none)
unfolding enclosing last_from later encloses
any-numbers = (refl, refl, refl, refl, refl, refl)
