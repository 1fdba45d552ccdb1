-- The number and the values of what a look-up answers.
use Rattle.std.specs.Prelude.{ℕ, Option as Answered, Some, None, Result, Ok, Err}
use Rattle.std.proofs.Math.Option.{Option, none, some}
use Rattle.groups.specs.Answer.{Answer, accepted, refused}
use Rattle.groups.specs.Refusals.{number_of}
use Rattle.groups.specs.declared.refusal.Refusal.{Refusal}

abbrev pub told_enclosing : Result (Answered ℕ) Refusal → Answer (Option ℕ)
told_enclosing (Ok (Some place)) = accepted (some place)
told_enclosing (Ok None) = accepted none
told_enclosing (Err refusal) = refused (number_of refusal)
