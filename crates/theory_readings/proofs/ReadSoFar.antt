-- The rows that the machine has read, from its state.
use mathlib.Core.Path.{◌≡◌, refl, ap}
use mathlib.Core.List.{List, [], ◌∷◌}
use Prim.Native.Nat.{ℕ, zero, suc}
use Rattle.theory_readings.specs.Tokens.{Kind, Token, start, repeat, end, halt, nothing}
use Rattle.theory_readings.specs.Readings.{Ops, Block, Passes, Row, spell_ops, spell, spell_passes}
use Rattle.theory_readings.specs.ways.Parser.{PassesRead, no_pass, pass, OpsRead, no_op, Open, first, second, child, body, Full, both, only, ran, Live, need, inside, full, State, live, whole, stop, give, passes_with, ops_with, close, enter, opening, at_repeat, step}

-- the rows read so far, in front of r
unfoldable pub before_passes : PassesRead → List Row → List Row
before_passes no_pass r = r
before_passes (pass t b m) r = before_passes t (spell b ((m, repeat) ∷ r))

unfoldable pub before_ops : OpsRead → List Row → List Row
before_ops no_op r = r
before_ops (OpsRead.op i n c) r = before_ops i ((n, Token.op c) ∷ r)
before_ops (OpsRead.respan i n) r = before_ops i ((n, Token.respan) ∷ r)

unfoldable pub before_open : List Open → List Row → List Row
unfolding before_passes
before_open [] r = r
before_open (first n ∷ s) r = before_open s ((n, start Kind.join) ∷ r)
before_open (second n a ∷ s) r = before_open s ((n, start Kind.join) ∷ spell a r)
before_open (child k n ∷ s) r = before_open s ((n, start (Kind.one k)) ∷ r)
before_open (body n t ∷ s) r = before_open s ((n, start Kind.loop) ∷ before_passes t r)

unfoldable pub before_full : Full → List Row → List Row
unfolding before_passes
before_full (both n a b) r = (n, start Kind.join) ∷ spell a (spell b r)
before_full (only k n b) r = (n, start (Kind.one k)) ∷ spell b r
before_full (ran n t b) r = (n, start Kind.loop) ∷ before_passes t (spell b r)

unfoldable pub before : Live → List Row → List Row
unfolding before_open before_full before_ops
before (need d s) r = before_open s r
before (inside d s n i) r = before_open s ((n, start Kind.span) ∷ before_ops i r)
before (full d s f) r = before_open s (before_full f r)

pub spell-passes_with : (t : PassesRead) (p : Passes) (r : List Row) → spell_passes (passes_with t p) r ≡ before_passes t (spell_passes p r)
unfolding passes_with before_passes spell
spell-passes_with no_pass p r = refl
spell-passes_with (pass t b m) p r = spell-passes_with t (Passes.repeated b m p) r

pub spell-ops_with : (i : OpsRead) (o : Ops) (r : List Row) → spell_ops (ops_with i o) r ≡ before_ops i (spell_ops o r)
unfolding ops_with before_ops spell_ops
spell-ops_with no_op o r = refl
spell-ops_with (OpsRead.op i n c) o r = spell-ops_with i (Ops.op n c o) r
spell-ops_with (OpsRead.respan i n) o r = spell-ops_with i (Ops.respan n o) r

pub spell-close : (f : Full) (e : ℕ) (r : List Row) → spell (close f e) r ≡ before_full f ((e, end) ∷ r)
unfolding close spell before_full
spell-close (both n a b) e r = refl
spell-close (only k n b) e r = refl
spell-close (ran n t b) e r = ap (λ x. (n, start Kind.loop) ∷ x) (spell-passes_with t (Passes.ended b e) r)

-- a state that has not stopped has read the rows x in front of r
abbrev pub HasRead : State → List Row → List Row → Type 0
HasRead (live l) r x = before l r ≡ x
HasRead (whole b) r x = spell b r ≡ x
HasRead (stop a) r x = Unit {0}

pub give-read : (d : ℕ) (s : List Open) (b : Block) (r : List Row) → HasRead (give d s b) r (before_open s (spell b r))
unfolding give before before_open before_full
give-read d [] b r = refl
give-read d (first n ∷ s) b r = refl
give-read d (second n a ∷ s) b r = refl
give-read d (child k n ∷ s) b r = refl
give-read d (body n t ∷ s) b r = refl

opening-read : (d : ℕ) (s : List Open) (m : ℕ) (k : Kind) (r : List Row) → HasRead (opening d s m k) r (before_open s ((m, start k) ∷ r))
unfolding opening enter before before_open before_ops before_passes
opening-read zero s m k r = tt
opening-read (suc d) s m Kind.span r = refl
opening-read (suc d) s m Kind.join r = refl
opening-read (suc d) s m Kind.loop r = refl
opening-read (suc d) s m (Kind.one k) r = refl

at_repeat-read : (d : ℕ) (s : List Open) (f : Full) (m : ℕ) (r : List Row) → HasRead (at_repeat d s f m) r (before_open s (before_full f ((m, repeat) ∷ r)))
unfolding at_repeat before before_open before_full before_passes
at_repeat-read d s (both n a b) m r = tt
at_repeat-read d s (only k n b) m r = tt
at_repeat-read d s (ran n t b) m r = refl

pub step-read : (l : Live) (m : ℕ) (t : Token) (r : List Row) → HasRead (step l m t) r (before l ((m, t) ∷ r))
unfolding step before before_ops spell spell_ops
step-read (need d s) m (start k) r = opening-read d s m k r
step-read (need d s) m (Token.op o) r = tt
step-read (need d s) m Token.respan r = tt
step-read (need d s) m repeat r = tt
step-read (need d s) m end r = tt
step-read (need d s) m halt r = tt
step-read (need d s) m nothing r = tt
step-read (inside d s n i) m (start k) r = tt
step-read (inside d s n i) m (Token.op o) r = refl
step-read (inside d s n i) m Token.respan r = refl
step-read (inside d s n i) m repeat r = tt
step-read (inside d s n i) m end r = rw (spell-ops_with i (Ops.ended m) r) at (give-read (suc d) s (Block.span n (ops_with i (Ops.ended m))) r)
step-read (inside d s n i) m halt r = tt
step-read (inside d s n i) m nothing r = tt
step-read (full d s f) m (start k) r = tt
step-read (full d s f) m (Token.op o) r = tt
step-read (full d s f) m Token.respan r = tt
step-read (full d s f) m repeat r = at_repeat-read d s f m r
step-read (full d s f) m end r = rw (spell-close f m r) at (give-read (suc d) s (close f m) r)
step-read (full d s f) m halt r = tt
step-read (full d s f) m nothing r = tt
