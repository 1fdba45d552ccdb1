-- What the machine answers is a tree that spells the rows, at most as deep as allowed.
use mathlib.Core.Path.{◌≡◌, refl}
use mathlib.Core.List.{List, [], ◌∷◌}
use Prim.Native.Nat.{ℕ, zero, suc, ◌≤◌}
use native.Mathlib.Omega.{arith}
use Rattle.theory_readings.specs.Tokens.{Kind, Token, start, repeat, end, halt, nothing}
use Rattle.theory_readings.specs.Readings.{Ops, Block, Passes, Row, spell, depth_of, depth_of_passes}
use Rattle.theory_readings.specs.ways.Parser.{PassesRead, no_pass, pass, Open, first, second, child, body, Full, both, only, ran, Live, need, inside, full, State, live, whole, stop, give, passes_with, ops_with, close, enter, opening, at_repeat, step, done, parse}
use Rattle.theory_readings.proofs.ReadSoFar.{before_open, before, HasRead, step-read}

-- no part is deeper than its place allows, L being the root's
abbrev pub FitPasses : ℕ → PassesRead → Type 0
FitPasses d no_pass = Unit {0}
FitPasses d (pass t b m) = FitPasses d t × (depth_of b ≤ d)

abbrev pub FitOpen : ℕ → ℕ → List Open → Type 0
FitOpen L d [] = d ≡ L
FitOpen L d (first n ∷ s) = FitOpen L (suc d) s
FitOpen L d (second n a ∷ s) = (depth_of a ≤ d) × FitOpen L (suc d) s
FitOpen L d (child k n ∷ s) = FitOpen L (suc d) s
FitOpen L d (body n t ∷ s) = FitPasses d t × FitOpen L (suc d) s

abbrev pub FitFull : ℕ → Full → Type 0
FitFull d (both n a b) = (depth_of a ≤ d) × (depth_of b ≤ d)
FitFull d (only k n b) = depth_of b ≤ d
FitFull d (ran n t b) = FitPasses d t × (depth_of b ≤ d)

abbrev pub Fit : ℕ → State → Type 0
Fit L (live (need d s)) = FitOpen L d s
Fit L (live (inside d s n i)) = FitOpen L (suc d) s
Fit L (live (full d s f)) = FitFull d f × FitOpen L (suc d) s
Fit L (whole b) = depth_of b ≤ L
Fit L (stop a) = Unit {0}

fit-give : (L d : ℕ) (s : List Open) (b : Block) → FitOpen L d s → depth_of b ≤ d → Fit L (give d s b)
unfolding give
fit-give L d [] b f h = omega arith
fit-give L d (first n ∷ s) b f h = (h, f)
fit-give L d (second n a ∷ s) b f h = ((f.0, h), f.1)
fit-give L d (child k n ∷ s) b f h = (h, f)
fit-give L d (body n t ∷ s) b f h = ((f.0, h), f.1)

fit-passes_with : (d : ℕ) (t : PassesRead) (p : Passes) → FitPasses d t → depth_of_passes p ≤ d → depth_of_passes (passes_with t p) ≤ d
unfolding passes_with depth_of
fit-passes_with d no_pass p f h = h
fit-passes_with d (pass t b m) p f h = fit-passes_with d t (Passes.repeated b m p) f.0 (omega arith)

fit-close : (d : ℕ) (f : Full) (e : ℕ) → FitFull d f → depth_of (close f e) ≤ suc d
unfolding close depth_of
fit-close d (both n a b) e h = omega arith
fit-close d (only k n b) e h = omega arith
fit-close d (ran n t b) e h = omega (arith, fit-passes_with d t (Passes.ended b e) h.0 h.1)

fit-opening : (L d : ℕ) (s : List Open) (m : ℕ) (k : Kind) → FitOpen L d s → Fit L (opening d s m k)
unfolding opening enter
fit-opening L zero s m k f = tt
fit-opening L (suc d) s m Kind.span f = f
fit-opening L (suc d) s m Kind.join f = f
fit-opening L (suc d) s m Kind.loop f = (tt, f)
fit-opening L (suc d) s m (Kind.one k) f = f

fit-at_repeat : (L d : ℕ) (s : List Open) (f : Full) (m : ℕ) → FitFull d f → FitOpen L (suc d) s → Fit L (at_repeat d s f m)
unfolding at_repeat
fit-at_repeat L d s (both n a b) m f g = tt
fit-at_repeat L d s (only k n b) m f g = tt
fit-at_repeat L d s (ran n t b) m f g = (f, g)

pub fit-step : (L : ℕ) (l : Live) (m : ℕ) (t : Token) → Fit L (live l) → Fit L (step l m t)
unfolding step depth_of
fit-step L (need d s) m (start k) f = fit-opening L d s m k f
fit-step L (need d s) m (Token.op o) f = tt
fit-step L (need d s) m Token.respan f = tt
fit-step L (need d s) m repeat f = tt
fit-step L (need d s) m end f = tt
fit-step L (need d s) m halt f = tt
fit-step L (need d s) m nothing f = tt
fit-step L (inside d s n i) m (start k) f = tt
fit-step L (inside d s n i) m (Token.op o) f = f
fit-step L (inside d s n i) m Token.respan f = f
fit-step L (inside d s n i) m repeat f = tt
fit-step L (inside d s n i) m end f = fit-give L (suc d) s (Block.span n (ops_with i (Ops.ended m))) f (omega arith)
fit-step L (inside d s n i) m halt f = tt
fit-step L (inside d s n i) m nothing f = tt
fit-step L (full d s f) m (start k) h = tt
fit-step L (full d s f) m (Token.op o) h = tt
fit-step L (full d s f) m Token.respan h = tt
fit-step L (full d s f) m repeat h = fit-at_repeat L d s f m h.0 h.1
fit-step L (full d s f) m end h = fit-give L (suc d) s (close f m) h.1 (fit-close d f m h.0)
fit-step L (full d s f) m halt h = tt
fit-step L (full d s f) m nothing h = tt

-- what the machine answers is a tree that spells the rows
pub sound : (r : List Row) (σ : State) (L : ℕ) (x : List Row) (b : Block) (q : List Row) → Fit L σ → HasRead σ r x → parse r σ ≡ done b q → (x ≡ spell b q) × (depth_of b ≤ L)
unfolding parse
sound [] (stop a) L x b q f w e = absurd (let z : ◌≡◌ {A = ℕ} 0 1 = cc in omega arith)
sound [] (whole c) L x b q f w e = let p : c ≡ b = cc in let u : q ≡ [] = cc in (cc, rw (← p) f)
sound [] (live l) L x b q f w e = absurd (let z : ◌≡◌ {A = ℕ} 0 1 = cc in omega arith)
sound (y ∷ r) (stop a) L x b q f w e = absurd (let z : ◌≡◌ {A = ℕ} 0 1 = cc in omega arith)
sound (y ∷ r) (whole c) L x b q f w e = let p : c ≡ b = cc in let u : q ≡ (y ∷ r) = cc in (cc, rw (← p) f)
sound (y ∷ r) (live l) L x b q f w e = sound r (step l y.0 y.1) L x b q (fit-step L l y.0 y.1 f) (rw (← w) (step-read l y.0 y.1 r)) e

pub parse-sound : (d : ℕ) (r : List Row) (b : Block) (q : List Row) → parse r (live (need d [])) ≡ done b q → (r ≡ spell b q) × (depth_of b ≤ d)
unfolding before before_open
parse-sound d r b q e = sound r (live (need d [])) d r b q refl refl e
