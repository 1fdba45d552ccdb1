-- Where the machine goes on, some word does; where it fails, none.
use mathlib.Core.Path.{◌≡◌, ◌∙◌, refl, ap}
use mathlib.Core.List.{List, [], ◌∷◌, ◌++◌, append_assoc, append-nil}
use Prim.Native.Nat.{ℕ, zero, suc, ◌≤◌}
use native.Mathlib.Omega.{arith}
use Rattle.theory_readings.specs.Tokens.{Kind, Token, start, repeat, end, halt, nothing}
use Rattle.theory_readings.specs.Readings.{Ops, Block, Passes, Row, numbered, spell_ops, spell, OnlyHalts, Halts, WordOf, depth_of}
use Rattle.theory_readings.specs.Answers.{Begins}
use Rattle.theory_readings.specs.ways.Parser.{Open, first, second, child, body, Full, both, only, ran, Live, need, inside, full, fails, deeper, State, live, whole, stop, give, passes_with, ops_with, close, enter, opening, at_repeat, step, done, failed, unfinished, parse}
use Rattle.theory_readings.proofs.Parses.{parse-stop, parse-done}
use Rattle.theory_readings.proofs.ReadSoFar.{before_ops, before_open, before_full, before, spell-passes_with, spell-ops_with, spell-close}
use Rattle.theory_readings.proofs.Reached.{Reach, here, next, reach-read, reach-parse}

-- every state goes on to some word
abbrev Closes : List Row → Type 0
Closes x = (b : Block) × (h : List Row) × (x ≡ spell b h) × Halts h

closes-give : (s : List Open) (b : Block) (m : ℕ) → (z : List Token) × Closes (before_open s (spell b (numbered m z)))
unfolding before_open numbered spell spell_ops Halts OnlyHalts
closes-give [] b m = (halt ∷ [], (b, (m, halt) ∷ [], refl, (refl, tt)))
closes-give (first n ∷ s) b m =
    let x = closes-give s (Block.join n b (Block.span m (Ops.ended (suc m))) (suc (suc m))) (suc (suc (suc m))) in
    (start Kind.span ∷ end ∷ end ∷ x.0, x.1)
closes-give (second n a ∷ s) b m =
    let x = closes-give s (Block.join n a b m) (suc m) in (end ∷ x.0, x.1)
closes-give (child k n ∷ s) b m =
    let x = closes-give s (Block.one k n b m) (suc m) in (end ∷ x.0, x.1)
closes-give (body n t ∷ s) b m =
    let x = closes-give s (Block.loop n (passes_with t (Passes.ended b m))) (suc m) in (end ∷ x.0, rw (spell-passes_with t (Passes.ended b m) (numbered (suc m) x.0)) at x.1)

closes : (l : Live) (m : ℕ) → (z : List Token) × Closes (before l (numbered m z))
unfolding before before_open numbered spell spell_ops before_ops before_full
closes (need d s) m = let x = closes-give s (Block.span m (Ops.ended (suc m))) (suc (suc m)) in (start Kind.span ∷ end ∷ x.0, x.1)
closes (inside d s n i) m =
    let x = closes-give s (Block.span n (ops_with i (Ops.ended m))) (suc m) in
    (end ∷ x.0, rw (spell-ops_with i (Ops.ended m) (numbered (suc m) x.0)) at x.1)
closes (full d s f) m =
    let x = closes-give s (close f m) (suc m) in
    (end ∷ x.0, rw (spell-close f m (numbered (suc m) x.0)) at x.1)

pub begins : {l : Live} {m d : ℕ} {p : List Token} → Reach (need d []) 0 p l m → Begins p
unfolding Begins WordOf before before_open
begins {l} {m} {d} {p} r =
    let x = closes l m in
    (x.0, (x.1.0, (x.1.1, reach-read r x.0 ∙ x.1.2, x.1.3)))

-- where one more block may open, a state does the same, unless it lacked it
up : Live → Live
up (need d s) = need (suc d) s
up (inside d s n i) = inside (suc d) s n i
up (full d s f) = full (suc d) s f

abbrev Up : State → State → Type 0
Up (live l) σ = σ ≡ live (up l)
Up (whole b) σ = σ ≡ whole b
Up (stop (fails n)) σ = σ ≡ stop (fails n)
Up (stop (deeper n)) σ = Unit {0}

up-give : (d : ℕ) (s : List Open) (b : Block) → Up (give d s b) (give (suc d) s b)
unfolding give up
up-give d [] b = refl
up-give d (first n ∷ s) b = refl
up-give d (second n a ∷ s) b = refl
up-give d (child k n ∷ s) b = refl
up-give d (body n t ∷ s) b = refl

up-opening : (d : ℕ) (s : List Open) (m : ℕ) (k : Kind) → Up (opening d s m k) (opening (suc d) s m k)
unfolding opening enter up
up-opening zero s m k = tt
up-opening (suc d) s m Kind.span = refl
up-opening (suc d) s m Kind.join = refl
up-opening (suc d) s m Kind.loop = refl
up-opening (suc d) s m (Kind.one k) = refl

up-at_repeat : (d : ℕ) (s : List Open) (f : Full) (m : ℕ) → Up (at_repeat d s f m) (at_repeat (suc d) s f m)
unfolding at_repeat up
up-at_repeat d s (both n a b) m = refl
up-at_repeat d s (only k n b) m = refl
up-at_repeat d s (ran n t b) m = refl

up_step : (l : Live) (m : ℕ) (t : Token) → Up (step l m t) (step (up l) m t)
unfolding step up
up_step (need d s) m (start k) = up-opening d s m k
up_step (need d s) m (Token.op o) = refl
up_step (need d s) m Token.respan = refl
up_step (need d s) m repeat = refl
up_step (need d s) m end = refl
up_step (need d s) m halt = refl
up_step (need d s) m nothing = refl
up_step (inside d s n i) m (start k) = refl
up_step (inside d s n i) m (Token.op o) = refl
up_step (inside d s n i) m Token.respan = refl
up_step (inside d s n i) m repeat = refl
up_step (inside d s n i) m end = up-give (suc d) s (Block.span n (ops_with i (Ops.ended m)))
up_step (inside d s n i) m halt = refl
up_step (inside d s n i) m nothing = refl
up_step (full d s f) m (start k) = refl
up_step (full d s f) m (Token.op o) = refl
up_step (full d s f) m Token.respan = refl
up_step (full d s f) m repeat = up-at_repeat d s f m
up_step (full d s f) m end = up-give (suc d) s (close f m)
up_step (full d s f) m halt = refl
up_step (full d s f) m nothing = refl

up-reach : {l l' : Live} {n m : ℕ} {p : List Token} → Reach l n p l' m → Reach (up l) n p (up l') m
up-reach here = here
up-reach (next {l = l} {n = n} {t = t} e r) = next (rw e at (up_step l n t)) (up-reach r)

-- no word goes on where the machine fails, since it would also with any depth allowed
ups : (k d : ℕ) (p : List Token) (l : Live) (n m : ℕ) (t : Token) → Reach (need d []) 0 p l m → step l m t ≡ stop (fails n) →
    (D : ℕ) × (l' : Live) × (k ≤ D) × Reach (need D []) 0 p l' m × (step l' m t ≡ stop (fails n))
unfolding up
ups zero d p l n m t r e = (d, l, omega arith, r, e)
ups (suc k) d p l n m t r e =
    let x = ups k d p l n m t r e in
    (suc x.0, up x.1, omega (arith, x.2), up-reach x.3, rw x.4 at (up_step x.1 m t))

ups-reach : (k d : ℕ) (p : List Token) (l : Live) (m : ℕ) → Reach (need d []) 0 p l m → (D : ℕ) × (l' : Live) × (k ≤ D) × Reach (need D []) 0 p l' m
unfolding up
ups-reach zero d p l m r = (d, l, omega arith, r)
ups-reach (suc k) d p l m r = let x = ups-reach k d p l m r in (suc x.0, up x.1, omega (arith, x.2), up-reach x.3)

-- rows at whose end the machine waits are no word
pub not_yet : {l : Live} {m d : ℕ} {p : List Token} → Reach (need d []) 0 p l m → (b : Block) → ¬ WordOf p b
unfolding WordOf parse numbered
not_yet {l} {m} {d} {p} r b x =
    let h : List Row = x.0 in
    let y = ups-reach (depth_of b) d p l m r in
    let u : parse (numbered 0 p) (live (need y.0 [])) ≡ unfinished = rw append-nil at (reach-parse y.3 []) in
    let v : parse (spell b h) (live (need y.0 [])) ≡ done b h = parse-done b y.0 h y.2 in
    let w : ◌≡◌ {A = ℕ} 0 1 = cc (x.1, u, v) in
    omega arith

parse-fails : (p z : List Token) (t : Token) (D : ℕ) (l : Live) (n m : ℕ) → Reach (need D []) 0 p l m → step l m t ≡ stop (fails n) → parse (numbered 0 (p ++ (t ∷ z))) (live (need D [])) ≡ failed (fails n)
unfolding parse numbered
parse-fails p z t D l n m r e = reach-parse r (t ∷ z) ∙ ap (λ σ. parse (numbered (suc m) z) σ) e ∙ parse-stop (numbered (suc m) z) (fails n)

pub no_word : {l : Live} {m d : ℕ} {p : List Token} (n : ℕ) (t : Token) → Reach (need d []) 0 p l m → step l m t ≡ stop (fails n) → ¬ Begins (p ++ (t ∷ []))
unfolding Begins WordOf
no_word {l} {m} {d} {p} n t r e x =
    let z : List Token = x.0 in
    let b : Block = x.1.0 in
    let h : List Row = x.1.1.0 in
    let y = ups (depth_of b) d p l n m t r e in
    let f : numbered 0 (p ++ (t ∷ z)) ≡ spell b h = rw append_assoc at x.1.1.1 in
    let u : parse (numbered 0 (p ++ (t ∷ z))) (live (need y.0 [])) ≡ failed (fails n) = parse-fails p z t y.0 y.1 n m y.3 y.4 in
    let v : parse (spell b h) (live (need y.0 [])) ≡ done b h = parse-done b y.0 h y.2 in
    let w : ◌≡◌ {A = ℕ} 0 1 = cc (f, u, v) in
    omega arith

pub reach-snoc : {l l' : Live} {n m : ℕ} {p : List Token} (k : Live) (t : Token) → Reach l n p l' m → step l' m t ≡ live k → Reach l n (p ++ (t ∷ [])) k (suc m)
reach-snoc k t here e = next e here
reach-snoc k t (next f r) e = next f (reach-snoc k t r e)

-- a block that is too deep is one that the grammar goes on with
pub begins-deeper : {d m : ℕ} {p : List Token} {s : List Open} (k : Kind) → Reach (need d []) 0 p (need 0 s) m → Begins (p ++ (start k ∷ []))
unfolding up step opening
begins-deeper {d} {m} {p} {s} k r = begins (reach-snoc (enter 0 s m k) (start k) (up-reach r) refl)
