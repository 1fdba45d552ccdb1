-- What a number tells of a row's kind, by a table and by a list of kinds that are kept, for the private functions of `kept.rt`.
use Rattle.std.specs.Prelude.{◌≡◌, List, ℕ, ◌<◌, length, get_or}
use Rattle.rows.specs.declared.records.profile.Profile.{Profile}
use Rattle.reader.specs.KeptKinds.{unknown_kind, KindTable, TellsKind, KeptKinds}

-- whatever the profile, if the table is its
abbrev pub TellsByTable : (table cells : List ℕ) → (row n : ℕ) → Type 0
TellsByTable table cells row n = (p : Profile) → KindTable p table → TellsKind p cells row n

-- whatever the profile, if table and list are its
abbrev pub TellsKept : (table kinds cells : List ℕ) → (row n : ℕ) → Type 0
TellsKept table kinds cells row n = (p : Profile) → KeptKinds p cells table kinds → TellsKind p cells row n

-- a list that tells nothing
abbrev pub KeepsNothing : (kinds : List ℕ) → Type 0
KeepsNothing kinds = (row : ℕ) → row < length kinds → get_or kinds row 0 ≡ unknown_kind
