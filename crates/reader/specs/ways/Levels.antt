-- The depth of a row and the open blocks behind it, where c blocks are open before it.
use Rattle.std.specs.Prelude.{ℕ, ◌+◌, ◌-◌}
use Rattle.reader.specs.declared.token.RowKind.{RowKind}
use Rattle.reader.specs.declared.token.RowKind.TheVariants.{Span, Join, One, Loop, Op, Respan, Repeat, End, Halt, Nothing}

-- a start row belongs to its block
unfoldable pub level_at : RowKind → (c : ℕ) → ℕ
level_at Span c = c + 1
level_at Join c = c + 1
level_at One c = c + 1
level_at Loop c = c + 1
level_at Op c = c
level_at Respan c = c
level_at Repeat c = c
level_at End c = c
level_at Halt c = c
level_at Nothing c = c

-- and so does END
unfoldable pub level_behind : RowKind → (c : ℕ) → ℕ
level_behind Span c = c
level_behind Join c = c
level_behind One c = c
level_behind Loop c = c
level_behind Op c = c
level_behind Respan c = c
level_behind Repeat c = c
level_behind End c = c - 1
level_behind Halt c = c
level_behind Nothing c = c
