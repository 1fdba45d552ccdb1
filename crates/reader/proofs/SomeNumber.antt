-- A refusal's number is not 0, which tells that there is none.
use mathlib.Core.Path.{◌≡◌}
use native.Mathlib.Omega.{arith}
use Rattle.groups.specs.Refusals.{number_of}
use Rattle.groups.specs.declared.refusal.Refusal.{Refusal}

pub some-number : (r : Refusal) → number_of r ≡ 0 → ⊥
some-number Refusal.BigOpcode e = absurd (omega arith)
some-number Refusal.BadProfile e = absurd (omega arith)
some-number Refusal.NoSuchNode e = absurd (omega arith)
some-number Refusal.WrongNodeKind e = absurd (omega arith)
some-number Refusal.NoSuchBatch e = absurd (omega arith)
some-number Refusal.NoSuchOperation e = absurd (omega arith)
some-number Refusal.BadGroupCount e = absurd (omega arith)
some-number Refusal.OverTotal e = absurd (omega arith)
some-number Refusal.BigHelperValue e = absurd (omega arith)
some-number Refusal.LowDepth e = absurd (omega arith)
some-number Refusal.BadLength e = absurd (omega arith)
some-number Refusal.NoWordOfGrammar e = absurd (omega arith)
some-number Refusal.WrongFlagOrCount e = absurd (omega arith)
some-number Refusal.NoBodyEnd e = absurd (omega arith)
some-number Refusal.Block65Deep e = absurd (omega arith)
some-number Refusal.AddressQueueEmpty e = absurd (omega arith)
some-number Refusal.ParentQueueEmpty e = absurd (omega arith)
some-number Refusal.EndQueueEmpty e = absurd (omega arith)
some-number Refusal.StoredAbsent e = absurd (omega arith)
some-number Refusal.NoRowLeft e = absurd (omega arith)
some-number Refusal.FragmentNotFull e = absurd (omega arith)
some-number Refusal.NoFragments e = absurd (omega arith)
some-number Refusal.ShortIndex e = absurd (omega arith)
some-number Refusal.ShortText e = absurd (omega arith)
some-number Refusal.NoDump e = absurd (omega arith)
some-number Refusal.SyscallStart e = absurd (omega arith)
some-number Refusal.TallyFull e = absurd (omega arith)
