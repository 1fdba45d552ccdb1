-- What a test picks, where both are the same or go one step on.
use mathlib.Core.Path.{◌≡◌, refl, ap}
use mathlib.Core.Bool.{Bool, true, false}
use Rattle.groups.specs.Answer.{pick}

pub pick_same : {A : Type 0} (t : Bool) (x : A) → x ≡ pick t x x
pick_same true x = refl
pick_same false x = refl

pub pick-step : {A : Type 0} (t : Bool) (g : A → A) (x y z : A) → x ≡ pick t y z → pick t (g x) x ≡ pick t (g y) z
pick-step true g x y z e = ap g e
pick-step false g x y z e = e
