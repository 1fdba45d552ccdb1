-- Document 01: "Batch flags by count capped at 8: 8: 1,0,0; 4: 0,1,0; 2: 0,0,1; 1: 0,1,1. Counts 0, 3, 5, 6, 7 are refused."
use Rattle.std.specs.Prelude.{ℕ, leb, eqb}
use Rattle.groups.specs.Answer.{Answer, accepted, refused, pick}
use Rattle.groups.specs.Constants.{bad_group_count}
use Rattle.groups.specs.declared.flags.BatchFlags.{BatchFlags}

-- the flags of a count up to 8. Refusal 7: "group count"
unfoldable pub flags_up_to8 : ℕ → Answer BatchFlags
flags_up_to8 count =
    pick (eqb count 8) (accepted (1, 0, 0))
    (pick (eqb count 4) (accepted (0, 1, 0))
    (pick (eqb count 2) (accepted (0, 0, 1))
    (pick (eqb count 1) (accepted (0, 1, 1)) (refused bad_group_count))))

-- the flags by the count capped at 8
unfoldable pub batch_flags : ℕ → Answer BatchFlags
batch_flags count = flags_up_to8 (pick (leb 8 count) 8 count)
