-- A tree that is read from numbered rows has its asks in the order of the rows.
use mathlib.Core.Path.{◌≡◌, sym, ap}
use mathlib.Core.List.{List, [], ◌∷◌, nil≢cons, head-eq_of_cons-eq, tail-eq_of_cons-eq}
use Prim.Native.Nat.{ℕ, suc, ◌≤◌, ◌<◌}
use native.Mathlib.Omega.{arith}
use Rattle.theory_readings.specs.Tokens.{Kind, Token, start, repeat, end}
use Rattle.theory_readings.specs.Readings.{Ops, Block, Passes, Row, numbered, spell_ops, spell, spell_passes, Ask, flag, end_row_of, asks_of, asks_of_passes}
use Rattle.theory_readings.specs.Answers.{row_asked}

-- each ask's row is n or above, and above those before it
unfoldable pub Ascending : ℕ → List Ask → Type 0
unfolding row_asked
Ascending n [] = Unit {0}
Ascending n (a ∷ r) = (n ≤ row_asked a) × Ascending (suc (row_asked a)) r

asc-less : (n m : ℕ) (r : List Ask) → n ≤ m → Ascending m r → Ascending n r
unfolding Ascending
asc-less n m [] h a = tt
asc-less n m (x ∷ r) h a = (omega arith, a.1)

uncons : (n : ℕ) (w : List Token) (k : ℕ) (t : Token) (q : List Row) → numbered n w ≡ (k, t) ∷ q → (v : List Token) × (k ≡ n) × (numbered (suc n) v ≡ q)
unfolding numbered
uncons n [] k t q e = absurd (nil≢cons e)
uncons n (u ∷ w) k t q e = (w, sym (ap (λ (x : Row). x.0) (head-eq_of_cons-eq e)), tail-eq_of_cons-eq e)

-- the rows q behind a tree are numbered from m, and what it asks stands from n up to m
abbrev Behind : ℕ → List Row → (List Ask → List Ask) → Type 0
Behind n q f = (m : ℕ) × (v : List Token) × (numbered m v ≡ q) × (n < m) × ((r : List Ask) → Ascending m r → Ascending n (f r))

ops-asks : (o : Ops) (n : ℕ) (w : List Token) (q : List Row) (g : ℕ) → numbered n w ≡ spell_ops o q → Behind n q (λ r. flag (end_row_of o) g ∷ r)
unfolding spell_ops end_row_of Ascending row_asked
ops-asks (Ops.ended e) n w q g h =
    let x = uncons n w e end q h in
    let k = x.1 in
    (suc n, x.0, x.2, omega arith, λ r a. (omega arith, asc-less (suc e) (suc n) r (omega arith) a))
ops-asks (Ops.op i c o) n w q g h =
    let x = uncons n w i (Token.op c) (spell_ops o q) h in
    let y = ops-asks o (suc n) x.0 q g x.2 in
    (y.0, y.1, y.2, omega (arith, y.3), λ r a. let z = y.4 r a in (omega (arith, z.0), z.1))
ops-asks (Ops.respan i o) n w q g h =
    let x = uncons n w i Token.respan (spell_ops o q) h in
    let y = ops-asks o (suc n) x.0 q g x.2 in
    (y.0, y.1, y.2, omega (arith, y.3), λ r a. let z = y.4 r a in (omega (arith, z.0), z.1))

-- END at row n
at-end : (n : ℕ) (w : List Token) (e : ℕ) (q : List Row) (g : ℕ) → numbered n w ≡ (e, end) ∷ q → Behind n q (λ r. flag e g ∷ r)
unfolding Ascending row_asked
at-end n w e q g h =
    let x = uncons n w e end q h in
    let k = x.1 in
    (suc n, x.0, x.2, omega arith, λ r a. (omega arith, asc-less (suc e) (suc n) r (omega arith) a))

mutual
  unfolding spell asks_of Ascending row_asked

  pub block-asks : (b : Block) (n : ℕ) (w : List Token) (q : List Row) (g : ℕ) → numbered n w ≡ spell b q → Behind n q (asks_of g b)
  block-asks (Block.span i o) n w q g h =
      let x = uncons n w i (start Kind.span) (spell_ops o q) h in
      let y = ops-asks o (suc n) x.0 q g x.2 in
      (y.0, y.1, y.2, omega (arith, y.3), λ r a. asc-less n (suc n) (flag (end_row_of o) g ∷ r) (omega arith) (y.4 r a))
  block-asks (Block.join i a b e) n w q g h =
      let x = uncons n w i (start Kind.join) _ h in
      let y = block-asks a (suc n) x.0 _ 0 x.2 in
      let z = block-asks b y.0 y.1 _ 0 y.2 in
      let u = at-end z.0 z.1 e q g z.2 in
      (u.0, u.1, u.2, omega (arith, y.3, z.3, u.3), λ r v. asc-less n (suc n) (asks_of 0 a (asks_of 0 b (flag e g ∷ r))) (omega arith) (y.4 (asks_of 0 b (flag e g ∷ r)) (z.4 (flag e g ∷ r) (u.4 r v))))
  block-asks (Block.one k i a e) n w q g h =
      let x = uncons n w i (start (Kind.one k)) _ h in
      let y = block-asks a (suc n) x.0 _ 0 x.2 in
      let u = at-end y.0 y.1 e q g y.2 in
      (u.0, u.1, u.2, omega (arith, y.3, u.3), λ r v. asc-less n (suc n) (asks_of 0 a (flag e g ∷ r)) (omega arith) (y.4 (flag e g ∷ r) (u.4 r v)))
  block-asks (Block.loop i p) n w q g h =
      let x = uncons n w i (start Kind.loop) _ h in
      let k = x.1 in
      let y = passes-asks p (suc n) x.0 q g x.2 in
      (y.0, y.1, y.2, omega (arith, y.3), λ r v. (omega arith, asc-less (suc i) (suc n) (asks_of_passes g p r) (omega arith) (y.4 r v)))

  pub passes-asks : (p : Passes) (n : ℕ) (w : List Token) (q : List Row) (g : ℕ) → numbered n w ≡ spell_passes p q → Behind n q (asks_of_passes g p)
  passes-asks (Passes.ended b e) n w q g h =
      let y = block-asks b n w _ 1 h in
      let u = at-end y.0 y.1 e q g y.2 in
      (u.0, u.1, u.2, omega (arith, y.3, u.3), λ r v. y.4 (flag e g ∷ r) (u.4 r v))
  passes-asks (Passes.repeated b i p) n w q g h =
      let y = block-asks b n w _ 1 h in
      let x = uncons y.0 y.1 i repeat _ y.2 in
      let z = passes-asks p (suc y.0) x.0 q g x.2 in
      (z.0, z.1, z.2, omega (arith, y.3, z.3), λ r v. y.4 (asks_of_passes g p r) (asc-less y.0 (suc y.0) (asks_of_passes g p r) (omega arith) (z.4 r v)))
