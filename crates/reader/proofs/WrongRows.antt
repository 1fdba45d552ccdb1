-- The lowest wrong row of a part: what its cells have wrong in front of what follows.
use mathlib.Core.Path.{◌≡◌, ◌∙◌, refl, sym, ap}
use mathlib.Core.Bool.{Bool, true, false}
use mathlib.Core.List.{List, [], ◌∷◌}
use mathlib.Core.Option.{Option, none, some}
use Prim.Native.Nat.{ℕ}
use lib.Dec.{eqb}
use Rattle.field.specs.Cells.{cell_at}
use Rattle.groups.specs.Answer.{pick}
use Rattle.theory_readings.specs.Readings.{Block, Ask, flag, count, asks_of, row_at}
use Rattle.theory_readings.specs.Answers.{row_asked}
use Rattle.theory_readings.specs.ways.Parser.{is_met, or_else, first_wrong}
use Rattle.theory_readings.proofs.LowestRow.{asks_append, wrong-append}
use Rattle.reader.specs.ways.Parts.{wrong_unless}

else-none : (a : Option ℕ) → or_else a none ≡ a
else-none none = refl
else-none (some n) = refl

pub else-assoc : (a b c : Option ℕ) → or_else (or_else a b) c ≡ or_else a (or_else b c)
else-assoc none b c = refl
else-assoc (some n) b c = refl

unless-row : (t : Bool) (row : ℕ) (o : Option ℕ) → pick t o (some row) ≡ or_else (wrong_unless t row) o
unfolding wrong_unless
unless-row true row o = refl
unless-row false row o = refl

module _ (rows : List (List ℕ)) where
  -- one ask in front of others
  flag-wrong : (row value : ℕ) (rest : List Ask) → first_wrong rows (flag row value ∷ rest) ≡ or_else (wrong_unless (eqb (cell_at (row_at rows row) 18) value) row) (first_wrong rows rest)
  unfolding first_wrong is_met row_asked
  flag-wrong row value rest = unless-row (eqb (cell_at (row_at rows row) 18) value) row (first_wrong rows rest)

  pub count-wrong : (row value : ℕ) (rest : List Ask) → first_wrong rows (count row value ∷ rest) ≡ or_else (wrong_unless (eqb (cell_at (row_at rows row) 23) value) row) (first_wrong rows rest)
  unfolding first_wrong is_met row_asked
  count-wrong row value rest = unless-row (eqb (cell_at (row_at rows row) 23) value) row (first_wrong rows rest)

  pub flag-alone : (row value : ℕ) → wrong_unless (eqb (cell_at (row_at rows row) 18) value) row ≡ first_wrong rows (flag row value ∷ [])
  unfolding first_wrong
  flag-alone row value = sym (flag-wrong row value [] ∙ else-none (wrong_unless (eqb (cell_at (row_at rows row) 18) value) row))

  -- a tree's asks in front of others
  pub block-wrong : (b : Block) (g : ℕ) (o : Option ℕ) (rest : List Ask) → o ≡ first_wrong rows (asks_of g b []) → first_wrong rows (asks_of g b rest) ≡ or_else o (first_wrong rows rest)
  block-wrong b g o rest e =
      ap (first_wrong rows) (asks_append b g [] rest) ∙ wrong-append rows (asks_of g b []) rest ∙ ap (λ x. or_else x (first_wrong rows rest)) (sym e)
