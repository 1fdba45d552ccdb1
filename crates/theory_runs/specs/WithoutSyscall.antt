-- Change request N8: "the theorem about traces we write covers runs without it". What it is to have no SYSCALL: of cycles, of a tree, of rows.
use Rattle.std.specs.Prelude.{◌≡◌, List, [], ◌∷◌, ℕ, ◌/◌, ◌<◌, length}
use Rattle.groups.specs.Constants.{row_width}
use Rattle.rows.specs.declared.records.profile.Profile.{Profile}
use Rattle.theory_readings.specs.Tokens.{syscall, Kind, start, token_of}
use Rattle.theory_readings.specs.Readings.{Block, Passes, row_at, all_rows}
use Rattle.theory_runs.specs.Happened.{started, Cycle}

-- no cycle starts a SYSCALL node
unfoldable pub NoSyscallStarts : List Cycle → Type 0
NoSyscallStarts [] = Unit {0}
NoSyscallStarts (c ∷ cycles) = ((id address parent : ℕ) → ¬ (c.1 ≡ started (Kind.one syscall) id address parent)) × NoSyscallStarts cycles

-- a tree without a SYSCALL Block
unfoldable mutual
  pub WithoutSyscall : Block → Type 0
  WithoutSyscall (Block.span row ops) = Unit {0}
  WithoutSyscall (Block.join row a b end_row) = WithoutSyscall a × WithoutSyscall b
  WithoutSyscall (Block.one kind row a end_row) = ¬ (kind ≡ syscall) × WithoutSyscall a
  WithoutSyscall (Block.loop row passes) = PassesWithoutSyscall passes

  pub PassesWithoutSyscall : Passes → Type 0
  PassesWithoutSyscall (Passes.ended a end_row) = WithoutSyscall a
  PassesWithoutSyscall (Passes.repeated a repeat_row passes) = WithoutSyscall a × PassesWithoutSyscall passes

-- no row of a buffer is a SYSCALL row
unfoldable pub NoSyscallRows : Profile → (cells : List ℕ) → Type 0
NoSyscallRows p cells = (n : ℕ) → n < length cells / row_width → ¬ (token_of p (row_at (all_rows cells) n) ≡ start (Kind.one syscall))
