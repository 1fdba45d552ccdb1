-- From one state of the machine to another.
use mathlib.Core.Path.{◌≡◌, ◌∙◌, refl, sym, ap}
use mathlib.Core.List.{List, [], ◌∷◌, ◌++◌}
use Prim.Native.Nat.{ℕ, suc, ◌+◌}
use native.Mathlib.Omega.{arith}
use lib.ListN.{length}
use Rattle.theory_readings.specs.Tokens.{Token}
use Rattle.theory_readings.specs.Readings.{numbered}
use Rattle.theory_readings.specs.ways.Parser.{Live, State, live, whole, stop, step, Parsed, done, failed, unfinished, parse}
use Rattle.theory_readings.proofs.Parses.{parse-whole, parse-stop}
use Rattle.theory_readings.proofs.ReadSoFar.{before, step-read}

-- the tokens p, as rows n up to m, lead from one state to another
pub data Reach : Live → ℕ → List Token → Live → ℕ → Type 0 where
  here : {l : Live} {n : ℕ} → Reach l n [] l n
  next : {l k l' : Live} {n m : ℕ} {t : Token} {p : List Token} → step l n t ≡ live k → Reach k (suc n) p l' m → Reach l n (t ∷ p) l' m

pub reach-read : {l l' : Live} {n m : ℕ} {p : List Token} → Reach l n p l' m → (z : List Token) → before l (numbered n (p ++ z)) ≡ before l' (numbered m z)
unfolding numbered
reach-read here z = refl
reach-read (next {l = l} {n = n} {t = t} {p = p} e r) z =
    sym (rw e at (step-read l n t (numbered (suc n) (p ++ z)))) ∙ reach-read r z

pub reach-parse : {l l' : Live} {n m : ℕ} {p : List Token} → Reach l n p l' m → (z : List Token) → parse (numbered n (p ++ z)) (live l) ≡ parse (numbered m z) (live l')
unfolding numbered parse
reach-parse here z = refl
reach-parse (next {n = n} {p = p} e r) z = ap (λ σ. parse (numbered (suc n) (p ++ z)) σ) e ∙ reach-parse r z

pub reach-length : {l l' : Live} {n m : ℕ} {p : List Token} → Reach l n p l' m → m ≡ n + length p
reach-length here = omega arith
reach-length (next e r) = omega (arith, reach-length r)

-- how the machine ends, by its answer
abbrev pub Ends : Live → ℕ → List Token → Parsed → Type 0
Ends l n w unfinished = (l' : Live) × (m : ℕ) × Reach l n w l' m
Ends l n w (failed a) = (p : List Token) × (t : Token) × (q : List Token) × (l' : Live) × (m : ℕ) × (w ≡ p ++ (t ∷ q)) × Reach l n p l' m × (step l' m t ≡ stop a)
Ends l n w (done b r) = (p : List Token) × (t : Token) × (q : List Token) × (l' : Live) × (m : ℕ) × (w ≡ p ++ (t ∷ q)) × Reach l n p l' m × (step l' m t ≡ whole b) × (r ≡ numbered (suc m) q)

ends-cons : (l k : Live) (n : ℕ) (t : Token) (w : List Token) (a : Parsed) → step l n t ≡ live k → Ends k (suc n) w a → Ends l n (t ∷ w) a
ends-cons l k n t w unfinished e (l', m, r) = (l', m, next e r)
ends-cons l k n t w (failed a) e x = (t ∷ x.0, x.1, x.2, x.3, x.4, ap (λ y. t ∷ y) x.5, next e x.6, x.7)
ends-cons l k n t w (done b r) e x = (t ∷ x.0, x.1, x.2, x.3, x.4, ap (λ y. t ∷ y) x.5, next e x.6, x.7, x.8)

ends-go : (l : Live) (n : ℕ) (t : Token) (w : List Token) (σ : State) → step l n t ≡ σ → ((k : Live) → Ends k (suc n) w (parse (numbered (suc n) w) (live k))) → Ends l n (t ∷ w) (parse (numbered (suc n) w) σ)
ends-go l n t w (live k) e ih = ends-cons l k n t w (parse (numbered (suc n) w) (live k)) e (ih k)
ends-go l n t w (whole b) e ih = rw parse-whole ([], t, w, l, n, refl, here, e, refl)
ends-go l n t w (stop a) e ih = rw parse-stop ([], t, w, l, n, refl, here, e)

pub ends : (w : List Token) (l : Live) (n : ℕ) → Ends l n w (parse (numbered n w) (live l))
unfolding parse numbered
ends [] l n = (l, n, here)
ends (t ∷ w) l n = ends-go l n t w (step l n t) refl (λ k. ends w k (suc n))
