-- Runs of the same calls: cut into fragments of another size, in one fragment, and with other system and stack states.
use Rattle.std.specs.Prelude.{◌≡◌, List, [], ◌∷◌, ◌++◌, ℕ, suc}
use Rattle.rows.specs.declared.records.profile.Profile.{Profile}
use Rattle.rows.specs.records.Addresses.{Queues}
use Rattle.rows.specs.declared.records.address_state.Cursor.{Cursor}
use Rattle.theory_runs.specs.Calls.{Call, store, finish, Fragment, AllAccepted, final_states, counts_of, OneSize}

-- the calls of some fragments, one after another
unfoldable pub all_calls : List Fragment → List Call
all_calls [] = []
all_calls (fragment ∷ fragments) = fragment.calls ++ all_calls fragments

-- N11: "one proper run, cut by two sizes": these calls, cut between calls into fragments that all have this size with only the last one short,
-- where "no call refuses". The cells that the fragments held before are free
pub record Cut (p : Profile) (q : Queues) (calls : List Call) (size : ℕ) (fragments : List Fragment) (here : Cursor) : Type 0 where
  pub calls_are : all_calls fragments ≡ calls
  pub accepted : AllAccepted p q fragments here
  pub one_size : OneSize size fragments (counts_of (final_states p q fragments here))

-- the same calls in one fragment
abbrev pub in_one : List Fragment → (cells : List ℕ) → List Fragment
in_one fragments cells = record { calls = all_calls fragments; cells = cells } ∷ []

-- how many cycles there are among some calls
unfoldable pub cycles_among : List Call → ℕ
cycles_among [] = 0
cycles_among (store values ∷ calls) = cycles_among calls
cycles_among (finish i ∷ calls) = suc (cycles_among calls)

-- the same calls but for the system and stack states of their cycles
unfoldable pub AlikeCalls : List Call → List Call → Type 0
AlikeCalls [] [] = Unit {0}
AlikeCalls [] (c ∷ m) = ⊥
AlikeCalls (c ∷ l) [] = ⊥
AlikeCalls (store v ∷ l) (store w ∷ m) = (v ≡ w) × AlikeCalls l m
AlikeCalls (store v ∷ l) (finish j ∷ m) = ⊥
AlikeCalls (finish i ∷ l) (store w ∷ m) = ⊥
AlikeCalls (finish i ∷ l) (finish j ∷ m) = (i.forest ≡ j.forest) × (i.registers ≡ j.registers) × AlikeCalls l m

unfoldable pub AlikeFragments : List Fragment → List Fragment → Type 0
AlikeFragments [] [] = Unit {0}
AlikeFragments [] (g ∷ m) = ⊥
AlikeFragments (f ∷ l) [] = ⊥
AlikeFragments (f ∷ l) (g ∷ m) = AlikeCalls f.calls g.calls × AlikeFragments l m
