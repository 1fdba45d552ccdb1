-- How many blocks are open, by the machine and by counting; why it stops.
use mathlib.Core.Path.{◌≡◌, refl}
use mathlib.Core.List.{List, [], ◌∷◌}
use Prim.Native.Nat.{ℕ, zero, suc, pred, ◌+◌, ◌≤◌, ◌<◌}
use native.Mathlib.Omega.{arith}
use Rattle.theory_readings.specs.Tokens.{Kind, Token, start, repeat, end, halt, nothing}
use Rattle.theory_readings.specs.Readings.{Ops, Block}
use Rattle.theory_readings.specs.Answers.{open_after, Within64}
use Rattle.theory_readings.specs.ways.Parser.{Open, first, second, child, body, Full, both, only, ran, Live, need, inside, full, fails, deeper, State, live, whole, stop, give, ops_with, close, enter, opening, at_repeat, step}
use Rattle.theory_readings.proofs.Soundness.{FitOpen, Fit, fit-step}
use Rattle.theory_readings.proofs.Reached.{Reach, here, next}

-- how many more blocks may open
unfoldable pub budget : Live → ℕ
budget (need d s) = d
budget (inside d s n i) = d
budget (full d s f) = d

-- what a row does to it
abbrev Moves : ℕ → Token → ℕ → State → Type 0
Moves L (start k) d (live l) = d ≡ suc (budget l)
Moves L end d (live l) = (budget l ≡ suc d) × (suc d ≤ L)
Moves L (Token.op o) d (live l) = budget l ≡ d
Moves L Token.respan d (live l) = budget l ≡ d
Moves L repeat d (live l) = budget l ≡ d
Moves L halt d (live l) = budget l ≡ d
Moves L nothing d (live l) = budget l ≡ d
Moves L (start k) d (whole b) = Unit {0}
Moves L end d (whole b) = Unit {0}
Moves L (Token.op o) d (whole b) = Unit {0}
Moves L Token.respan d (whole b) = Unit {0}
Moves L repeat d (whole b) = Unit {0}
Moves L halt d (whole b) = Unit {0}
Moves L nothing d (whole b) = Unit {0}
Moves L (start k) d (stop a) = Unit {0}
Moves L end d (stop a) = Unit {0}
Moves L (Token.op o) d (stop a) = Unit {0}
Moves L Token.respan d (stop a) = Unit {0}
Moves L repeat d (stop a) = Unit {0}
Moves L halt d (stop a) = Unit {0}
Moves L nothing d (stop a) = Unit {0}

fit-le : (L d : ℕ) (s : List Open) → FitOpen L d s → d ≤ L
fit-le L d [] f = omega arith
fit-le L d (first n ∷ s) f = omega (arith, fit-le L (suc d) s f)
fit-le L d (second n a ∷ s) f = omega (arith, fit-le L (suc d) s f.1)
fit-le L d (child k n ∷ s) f = omega (arith, fit-le L (suc d) s f)
fit-le L d (body n t ∷ s) f = omega (arith, fit-le L (suc d) s f.1)

moves-give : (L d : ℕ) (s : List Open) (b : Block) → suc d ≤ L → Moves L end d (give (suc d) s b)
unfolding give budget
moves-give L d [] b h = tt
moves-give L d (first n ∷ s) b h = (refl, h)
moves-give L d (second n a ∷ s) b h = (refl, h)
moves-give L d (child k n ∷ s) b h = (refl, h)
moves-give L d (body n t ∷ s) b h = (refl, h)

moves-opening : (L d : ℕ) (s : List Open) (m : ℕ) (k : Kind) → Moves L (start k) d (opening d s m k)
unfolding opening enter budget
moves-opening L zero s m k = tt
moves-opening L (suc d) s m Kind.span = refl
moves-opening L (suc d) s m Kind.join = refl
moves-opening L (suc d) s m Kind.loop = refl
moves-opening L (suc d) s m (Kind.one k) = refl

moves-at_repeat : (L d : ℕ) (s : List Open) (f : Full) (m : ℕ) → Moves L repeat d (at_repeat d s f m)
unfolding at_repeat budget
moves-at_repeat L d s (both n a b) m = tt
moves-at_repeat L d s (only k n b) m = tt
moves-at_repeat L d s (ran n t b) m = refl

moves-step : (L : ℕ) (l : Live) (m : ℕ) (t : Token) → Fit L (live l) → Moves L t (budget l) (step l m t)
unfolding step budget
moves-step L (need d s) m (start k) h = moves-opening L d s m k
moves-step L (need d s) m (Token.op o) h = tt
moves-step L (need d s) m Token.respan h = tt
moves-step L (need d s) m repeat h = tt
moves-step L (need d s) m end h = tt
moves-step L (need d s) m halt h = tt
moves-step L (need d s) m nothing h = tt
moves-step L (inside d s n i) m (start k) h = tt
moves-step L (inside d s n i) m (Token.op o) h = refl
moves-step L (inside d s n i) m Token.respan h = refl
moves-step L (inside d s n i) m repeat h = tt
moves-step L (inside d s n i) m end h = moves-give L d s (Block.span n (ops_with i (Ops.ended m))) (fit-le L (suc d) s h)
moves-step L (inside d s n i) m halt h = tt
moves-step L (inside d s n i) m nothing h = tt
moves-step L (full d s f) m (start k) h = tt
moves-step L (full d s f) m (Token.op o) h = tt
moves-step L (full d s f) m Token.respan h = tt
moves-step L (full d s f) m repeat h = moves-at_repeat L d s f m
moves-step L (full d s f) m end h = moves-give L d s (close f m) (fit-le L (suc d) s h.1)
moves-step L (full d s f) m halt h = tt
moves-step L (full d s f) m nothing h = tt

-- one row of the count
abbrev Shift : Token → ℕ → ℕ → Type 0
Shift (start k) c c' = (c < 64) × (c' ≡ suc c)
Shift end c c' = c' ≡ pred c
Shift (Token.op o) c c' = c' ≡ c
Shift Token.respan c c' = c' ≡ c
Shift repeat c c' = c' ≡ c
Shift halt c c' = c' ≡ c
Shift nothing c c' = c' ≡ c

shift : (t : Token) (l : Live) (c d : ℕ) → c + d ≡ 64 → Moves 64 t d (live l) → (c' : ℕ) × Shift t c c' × (c' + budget l ≡ 64)
shift (start k) l c d e h = (suc c, (omega arith, refl), omega arith)
shift end l c d e h = (pred c, refl, omega arith)
shift (Token.op o) l c d e h = (c, refl, omega arith)
shift Token.respan l c d e h = (c, refl, omega arith)
shift repeat l c d e h = (c, refl, omega arith)
shift halt l c d e h = (c, refl, omega arith)
shift nothing l c d e h = (c, refl, omega arith)

counted : (t : Token) (p : List Token) (c c' n : ℕ) → Shift t c c' → Within64 c' p × (open_after c' p + n ≡ 64) → Within64 c (t ∷ p) × (open_after c (t ∷ p) + n ≡ 64)
unfolding Within64 open_after
counted (start k) p c c' n s h = let y = rw s.1 at h in ((s.0, y.0), y.1)
counted end p c c' n s h = rw s at h
counted (Token.op o) p c c' n s h = rw s at h
counted Token.respan p c c' n s h = rw s at h
counted repeat p c c' n s h = rw s at h
counted halt p c c' n s h = rw s at h
counted nothing p c c' n s h = rw s at h

pub reach-count : {l l' : Live} {n m : ℕ} {p : List Token} → Reach l n p l' m → (c : ℕ) → Fit 64 (live l) → c + budget l ≡ 64 → Within64 c p × (open_after c p + budget l' ≡ 64)
unfolding Within64 open_after
reach-count here c f e = (tt, e)
reach-count (next {l = l} {k = k} {l' = l'} {n = n} {t = t} {p = p} e r) c f h =
    let x = shift t k c (budget l) h (rw e at (moves-step 64 l n t f)) in
    counted t p c x.0 (budget l') x.1 (reach-count r x.0 (rw e at (fit-step 64 l n t f)) x.2)

abbrev pub NotStart : Token → Type 0
NotStart (start k) = ⊥
NotStart (Token.op o) = Unit {0}
NotStart Token.respan = Unit {0}
NotStart repeat = Unit {0}
NotStart end = Unit {0}
NotStart halt = Unit {0}
NotStart nothing = Unit {0}

-- why the machine stops, and where
abbrev pub Stops : Live → ℕ → Token → State → Type 0
Stops l m t (live k) = Unit {0}
Stops l m t (whole b) = NotStart t
Stops l m t (stop (fails n)) = n ≡ m
Stops l m t (stop (deeper n)) = (n ≡ m) × (s : List Open) × (l ≡ need 0 s) × ((k : Kind) × (t ≡ start k))

stops-give : (l : Live) (m : ℕ) (t : Token) (d : ℕ) (s : List Open) (b : Block) → NotStart t → Stops l m t (give d s b)
unfolding give
stops-give l m t d [] b h = h
stops-give l m t d (first n ∷ s) b h = tt
stops-give l m t d (second n a ∷ s) b h = tt
stops-give l m t d (child k n ∷ s) b h = tt
stops-give l m t d (body n i ∷ s) b h = tt

stops-opening : (d : ℕ) (s : List Open) (m : ℕ) (k : Kind) → Stops (need d s) m (start k) (opening d s m k)
unfolding opening enter
stops-opening zero s m k = (refl, s, refl, (k, refl))
stops-opening (suc d) s m k = tt

stops-at_repeat : (l : Live) (d : ℕ) (s : List Open) (f : Full) (m : ℕ) → Stops l m repeat (at_repeat d s f m)
unfolding at_repeat
stops-at_repeat l d s (both n a b) m = refl
stops-at_repeat l d s (only k n b) m = refl
stops-at_repeat l d s (ran n t b) m = tt

pub stops : (l : Live) (m : ℕ) (t : Token) → Stops l m t (step l m t)
unfolding step
stops (need d s) m (start k) = stops-opening d s m k
stops (need d s) m (Token.op o) = refl
stops (need d s) m Token.respan = refl
stops (need d s) m repeat = refl
stops (need d s) m end = refl
stops (need d s) m halt = refl
stops (need d s) m nothing = refl
stops (inside d s n i) m (start k) = refl
stops (inside d s n i) m (Token.op o) = tt
stops (inside d s n i) m Token.respan = tt
stops (inside d s n i) m repeat = refl
stops (inside d s n i) m end = stops-give (inside d s n i) m end (suc d) s (Block.span n (ops_with i (Ops.ended m))) tt
stops (inside d s n i) m halt = refl
stops (inside d s n i) m nothing = refl
stops (full d s f) m (start k) = refl
stops (full d s f) m (Token.op o) = refl
stops (full d s f) m Token.respan = refl
stops (full d s f) m repeat = stops-at_repeat (full d s f) d s f m
stops (full d s f) m end = stops-give (full d s f) m end (suc d) s (close f m) tt
stops (full d s f) m halt = refl
stops (full d s f) m nothing = refl
