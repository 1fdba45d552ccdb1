-- On the index of a reading, the last block that encloses a row is the row's innermost block.
use mathlib.Core.Path.{◌≡◌, ◌∙◌, refl, ap, subst}
use mathlib.Core.Bool.{Bool, true, false, ◌&&◌}
use mathlib.Core.List.{List, [], ◌∷◌}
use mathlib.Core.Logic.{◌⊎◌, inl, inr}
use mathlib.Core.Option.{Option, none, some}
use Prim.Native.Nat.{ℕ, zero, suc, ◌+◌, ◌≤◌, ◌<◌}
use native.Mathlib.Omega.{arith}
use borrow.Author.Tests.{le-leb, lt-leb}
use lib.Dec.{leb}
use lib.ListN.{get_elem?}
use Rattle.theory_readings.specs.Tokens.{Token}
use Rattle.theory_readings.specs.Readings.{Ops, Block, Passes, WordOf, end_row_of}
use Rattle.theory_indexes.specs.Indexes.{start_row, end_of_passes, end_of, blocks_in, blocks_in_passes, index_of, index_of_passes, index, places_of_ops, places_of, places_of_passes, innermost}
use Rattle.theory_indexes.specs.Enclosing.{encloses, later, last_from}
use Rattle.theory_indexes.proofs.RowsOfBlocks.{SpansOps, Spans, SpansPasses, ops-le, spans-lt, passes-lt, word-spans}

-- ONE BLOCK

-- the row x stands before s or behind e
abbrev Outside : (s e x : ℕ) → Type 0
Outside s e x = (x < s) ⊎ (e < x)

shrinks : (s e x s' e' : ℕ) → Outside s e x → s ≤ s' → e' ≤ e → Outside s' e' x
shrinks s e x s' e' (inl h) f g = inl (omega arith)
shrinks s e x s' e' (inr h) f g = inr (omega arith)

and-false : (t : Bool) → (t && false) ≡ false
and-false true = refl
and-false false = refl

not-enclosed : (s e x : ℕ) → Outside s e x → encloses s e x ≡ false
unfolding encloses
not-enclosed s e x (inl h) = rw (lt-leb s x h) refl
not-enclosed s e x (inr h) = rw (lt-leb x e h) (and-false (leb s x))

enclosed : (s e x : ℕ) → s ≤ x → x ≤ e → encloses s e x ≡ true
unfolding encloses
enclosed s e x h i = rw (le-leb s x h, le-leb x e i) refl

later-none : (y : Option ℕ) → later y none ≡ y
unfolding later
later-none none = refl
later-none (some j) = refl

passed : (s e n k : ℕ) (more : List ℕ) (x : ℕ) → Outside s e x → last_from k (s ∷ e ∷ n ∷ more) x ≡ last_from (suc k) more x
unfolding last_from
passed s e n k more x o = rw (not-enclosed s e x o) (later-none (last_from (suc k) more x))

entry : (s e n k : ℕ) (more : List ℕ) (x : ℕ) → s ≤ x → x ≤ e → last_from k (s ∷ e ∷ n ∷ more) x ≡ later (last_from (suc k) more x) (some k)
unfolding last_from
entry s e n k more x h i = rw (enclosed s e x h i) refl

own : (y : Option ℕ) (k : ℕ) → y ≡ none → later y (some k) ≡ some k
unfolding later
own y k e = rw e refl

under : (y : Option ℕ) (k : ℕ) → (j : ℕ) × (y ≡ some j) → later y (some k) ≡ y
unfolding later
under y k (j, e) = rw e refl

some-later : (y : Option ℕ) (k : ℕ) → (j : ℕ) × (later y (some k) ≡ some j)
unfolding later
some-later none k = (k, refl)
some-later (some j) k = (j, refl)

some-entry : (s e n k : ℕ) (more : List ℕ) (x : ℕ) → s ≤ x → x ≤ e → (j : ℕ) × (last_from k (s ∷ e ∷ n ∷ more) x ≡ some j)
some-entry s e n k more x h i =
    let y = some-later (last_from (suc k) more x) k in
    (y.0, entry s e n k more x h i ∙ y.1)

-- ROWS OUTSIDE

mutual
  unfolding Spans index_of index_of_passes blocks_in blocks_in_passes start_row end_of end_of_passes

  outside-block : (b : Block) (n k : ℕ) (rest : List ℕ) (x : ℕ) → Spans b → Outside (start_row b) (end_of b) x → last_from k (index_of n b rest) x ≡ last_from (k + blocks_in b) rest x
  outside-block (Block.span row o) n k rest x p out =
      let i : suc k ≡ k + 1 = omega arith in
      passed row (end_row_of o) n k rest x out ∙ ap (λ j. last_from j rest x) i
  outside-block (Block.join row a b e) n k rest x (f, p, g, q, h) out =
      let i : suc k + blocks_in a + blocks_in b ≡ k + suc (blocks_in a + blocks_in b) = omega arith in
      passed row e n k (index_of row a (index_of row b rest)) x out
      ∙ outside-block a row (suc k) (index_of row b rest) x p (shrinks row e x (start_row a) (end_of a) out (omega arith) (omega (arith, spans-lt b q)))
      ∙ outside-block b row (suc k + blocks_in a) rest x q (shrinks row e x (start_row b) (end_of b) out (omega (arith, spans-lt a p)) (omega arith))
      ∙ ap (λ j. last_from j rest x) i
  outside-block (Block.one c row a e) n k rest x (f, p, h) out =
      let i : suc k + blocks_in a ≡ k + suc (blocks_in a) = omega arith in
      passed row e n k (index_of row a rest) x out
      ∙ outside-block a row (suc k) rest x p (shrinks row e x (start_row a) (end_of a) out (omega arith) (omega arith))
      ∙ ap (λ j. last_from j rest x) i
  outside-block (Block.loop row q) n k rest x p out =
      let i : suc k + blocks_in_passes q ≡ k + suc (blocks_in_passes q) = omega arith in
      passed row (end_of_passes q) n k (index_of_passes row q rest) x out
      ∙ outside-passes q row row (suc k) rest x p (shrinks row (end_of_passes q) x (suc row) (end_of_passes q) out (omega arith) (omega arith))
      ∙ ap (λ j. last_from j rest x) i

  outside-passes : (q : Passes) (m n k : ℕ) (rest : List ℕ) (x : ℕ) → SpansPasses m q → Outside (suc m) (end_of_passes q) x → last_from k (index_of_passes n q rest) x ≡ last_from (k + blocks_in_passes q) rest x
  outside-passes (Passes.ended a e) m n k rest x (f, p, h) out =
      outside-block a n k rest x p (shrinks (suc m) e x (start_row a) (end_of a) out (omega arith) (omega arith))
  outside-passes (Passes.repeated a r q) m n k rest x (f, p, h, g) out =
      let i : k + blocks_in a + blocks_in_passes q ≡ k + (blocks_in a + blocks_in_passes q) = omega arith in
      outside-block a n k (index_of_passes n q rest) x p (shrinks (suc m) (end_of_passes q) x (start_row a) (end_of a) out (omega arith) (omega (arith, passes-lt q r g)))
      ∙ outside-passes q r n (k + blocks_in a) rest x g (shrinks (suc m) (end_of_passes q) x (suc r) (end_of_passes q) out (omega (arith, spans-lt a p)) (omega arith))
      ∙ ap (λ j. last_from j rest x) i

some_of : (b : Block) (n k : ℕ) (rest : List ℕ) (x : ℕ) → start_row b ≤ x → x ≤ end_of b → (j : ℕ) × (last_from k (index_of n b rest) x ≡ some j)
unfolding index_of start_row end_of
some_of (Block.span row o) n k rest x h i = some-entry row (end_row_of o) n k rest x h i
some_of (Block.join row a b e) n k rest x h i = some-entry row e n k (index_of row a (index_of row b rest)) x h i
some_of (Block.one c row a e) n k rest x h i = some-entry row e n k (index_of row a rest) x h i
some_of (Block.loop row q) n k rest x h i = some-entry row (end_of_passes q) n k (index_of_passes row q rest) x h i

-- ROWS INSIDE

-- f finds these places at the rows from s on, and none behind them
unfoldable Agrees : (s : ℕ) → (places : List ℕ) → (f : ℕ → Option ℕ) → Type 0
Agrees s [] f = (x : ℕ) → s ≤ x → f x ≡ none
Agrees s (k ∷ places) f = (f s ≡ some k) × Agrees (suc s) places f

moved : (s s' : ℕ) (places : List ℕ) (f : ℕ → Option ℕ) → s ≡ s' → Agrees s places f → Agrees s' places f
moved s s' places f e h = subst (λ (y : ℕ). Agrees y places f) e h

ops-agree : (o : Ops) (s k : ℕ) (places : List ℕ) (f : ℕ → Option ℕ) → SpansOps s o → ((x : ℕ) → s ≤ x → x ≤ end_row_of o → f x ≡ some k) → Agrees (suc (end_row_of o)) places f → Agrees s (places_of_ops k o places) f
unfolding SpansOps places_of_ops end_row_of Agrees
ops-agree (Ops.ended e) s k places f p eq more = (eq s (omega arith) (omega arith), moved (suc e) (suc s) places f (ap suc p) more)
ops-agree (Ops.op row c o) s k places f p eq more =
    (eq s (omega arith) (omega (arith, ops-le o (suc s) p)), ops-agree o (suc s) k places f p (λ x h i. eq x (omega arith) i) more)
ops-agree (Ops.respan row o) s k places f p eq more =
    (eq s (omega arith) (omega (arith, ops-le o (suc s) p)), ops-agree o (suc s) k places f p (λ x h i. eq x (omega arith) i) more)

-- the rows of a block at place k: nothing in the rest encloses them
mutual
  unfolding Spans index_of index_of_passes blocks_in blocks_in_passes places_of places_of_passes start_row end_of end_of_passes Agrees

  block-agrees : (b : Block) (n k : ℕ) (rest places : List ℕ) (f : ℕ → Option ℕ) → Spans b
      → ((x : ℕ) → start_row b ≤ x → x ≤ end_of b → f x ≡ last_from k (index_of n b rest) x)
      → ((x : ℕ) → start_row b ≤ x → x ≤ end_of b → last_from (k + blocks_in b) rest x ≡ none)
      → Agrees (suc (end_of b)) places f → Agrees (start_row b) (places_of k b places) f
  block-agrees (Block.span row o) n k rest places f p eq clear more =
      let l = ops-le o (suc row) p in
      let z : suc k ≡ k + 1 = omega arith in
      let all : (x : ℕ) → row ≤ x → x ≤ end_row_of o → f x ≡ some k = λ x h i. eq x h i ∙ entry row (end_row_of o) n k rest x h i ∙ own (last_from (suc k) rest x) k (ap (λ y. last_from y rest x) z ∙ clear x h i) in
      (all row (omega arith) (omega arith), ops-agree o (suc row) k places f p (λ x h i. all x (omega arith) i) more)
  block-agrees (Block.join row a b e) n k rest places f (s, p, t, q, u) eq clear more =
      let la = spans-lt a p in
      let lb = spans-lt b q in
      let i : suc k + blocks_in a + blocks_in b ≡ k + suc (blocks_in a + blocks_in b) = omega arith in
      let inner : ℕ → Option ℕ = λ x. last_from (suc k) (index_of row a (index_of row b rest)) x in
      let at : (x : ℕ) → row ≤ x → x ≤ e → f x ≡ later (inner x) (some k) = λ x h j. eq x h j ∙ entry row e n k (index_of row a (index_of row b rest)) x h j in
      let free : (x : ℕ) → row ≤ x → x ≤ e → last_from (suc k + blocks_in a + blocks_in b) rest x ≡ none = λ x h j. ap (λ y. last_from y rest x) i ∙ clear x h j in
      let past-a : (x : ℕ) → Outside (start_row a) (end_of a) x → inner x ≡ last_from (suc k + blocks_in a) (index_of row b rest) x = λ x o. outside-block a row (suc k) (index_of row b rest) x p o in
      let past-b : (x : ℕ) → Outside (start_row b) (end_of b) x → last_from (suc k + blocks_in a) (index_of row b rest) x ≡ last_from (suc k + blocks_in a + blocks_in b) rest x = λ x o. outside-block b row (suc k + blocks_in a) rest x q o in
      let end_row : f e ≡ some k = at e (omega arith) (omega arith) ∙ own (inner e) k (past-a e (inr (omega arith)) ∙ past-b e (inr (omega arith)) ∙ free e (omega arith) (omega arith)) in
      let of-b : (x : ℕ) → start_row b ≤ x → x ≤ end_of b → f x ≡ last_from (suc k + blocks_in a) (index_of row b rest) x =
      λ x h j.
      let y = some_of b row (suc k + blocks_in a) rest x h j in
      let z = past-a x (inr (omega arith)) in
      at x (omega arith) (omega arith) ∙ under (inner x) k (y.0, z ∙ y.1) ∙ z in
      let b-agrees = block-agrees b row (suc k + blocks_in a) rest (k ∷ places) f q of-b (λ x h j. free x (omega arith) (omega arith)) (moved e (suc (end_of b)) (k ∷ places) f u (end_row, more)) in
      let a-agrees = block-agrees a row (suc k) (index_of row b rest) (places_of (suc k + blocks_in a) b (k ∷ places)) f p
      (λ x h j. at x (omega arith) (omega arith) ∙ under (inner x) k (some_of a row (suc k) (index_of row b rest) x h j))
      (λ x h j. past-b x (inl (omega arith)) ∙ free x (omega arith) (omega arith))
      (moved (start_row b) (suc (end_of a)) (places_of (suc k + blocks_in a) b (k ∷ places)) f t b-agrees) in
      let start-row : f row ≡ some k = at row (omega arith) (omega arith) ∙ own (inner row) k (past-a row (inl (omega arith)) ∙ past-b row (inl (omega arith)) ∙ free row (omega arith) (omega arith)) in
      (start-row, moved (start_row a) (suc row) (places_of (suc k) a (places_of (suc k + blocks_in a) b (k ∷ places))) f s a-agrees)
  block-agrees (Block.one c row a e) n k rest places f (s, p, u) eq clear more =
      let la = spans-lt a p in
      let i : suc k + blocks_in a ≡ k + suc (blocks_in a) = omega arith in
      let inner : ℕ → Option ℕ = λ x. last_from (suc k) (index_of row a rest) x in
      let at : (x : ℕ) → row ≤ x → x ≤ e → f x ≡ later (inner x) (some k) = λ x h j. eq x h j ∙ entry row e n k (index_of row a rest) x h j in
      let free : (x : ℕ) → row ≤ x → x ≤ e → last_from (suc k + blocks_in a) rest x ≡ none = λ x h j. ap (λ y. last_from y rest x) i ∙ clear x h j in
      let own_row : (x : ℕ) → row ≤ x → x ≤ e → Outside (start_row a) (end_of a) x → f x ≡ some k =
      λ x h j o. at x h j ∙ own (inner x) k (outside-block a row (suc k) rest x p o ∙ free x h j) in
      let a-agrees = block-agrees a row (suc k) rest (k ∷ places) f p
      (λ x h j. at x (omega arith) (omega arith) ∙ under (inner x) k (some_of a row (suc k) rest x h j))
      (λ x h j. free x (omega arith) (omega arith))
      (moved e (suc (end_of a)) (k ∷ places) f u (own_row e (omega arith) (omega arith) (inr (omega arith)), more)) in
      (own_row row (omega arith) (omega arith) (inl (omega arith)), moved (start_row a) (suc row) (places_of (suc k) a (k ∷ places)) f s a-agrees)
  block-agrees (Block.loop row q) n k rest places f p eq clear more =
      let l = passes-lt q row p in
      let i : suc k + blocks_in_passes q ≡ k + suc (blocks_in_passes q) = omega arith in
      let at : (x : ℕ) → row ≤ x → x ≤ end_of_passes q → f x ≡ later (last_from (suc k) (index_of_passes row q rest) x) (some k) =
      λ x h j. eq x h j ∙ entry row (end_of_passes q) n k (index_of_passes row q rest) x h j in
      let free : (x : ℕ) → row ≤ x → x ≤ end_of_passes q → last_from (suc k + blocks_in_passes q) rest x ≡ none = λ x h j. ap (λ y. last_from y rest x) i ∙ clear x h j in (
        at row (omega arith) (omega arith) ∙ own (last_from (suc k) (index_of_passes row q rest) row) k (outside-passes q row row (suc k) rest row p (inl (omega arith)) ∙ free row (omega arith) (omega arith)),
        passes-agree q row row k (suc k) rest places f p (λ x h j. at x (omega arith) j) (λ x h j. free x (omega arith) j) more,
      )

  -- the passes behind row m of a loop at place k, their first block at place j
  passes-agree : (q : Passes) (m n k j : ℕ) (rest places : List ℕ) (f : ℕ → Option ℕ) → SpansPasses m q
      → ((x : ℕ) → m < x → x ≤ end_of_passes q → f x ≡ later (last_from j (index_of_passes n q rest) x) (some k))
      → ((x : ℕ) → m < x → x ≤ end_of_passes q → last_from (j + blocks_in_passes q) rest x ≡ none)
      → Agrees (suc (end_of_passes q)) places f → Agrees (suc m) (places_of_passes k j q places) f
  passes-agree (Passes.ended a e) m n k j rest places f (s, p, u) eq clear more =
      let la = spans-lt a p in
      let end_row : f e ≡ some k = eq e (omega arith) (omega arith) ∙ own (last_from j (index_of n a rest) e) k (outside-block a n j rest e p (inr (omega arith)) ∙ clear e (omega arith) (omega arith)) in
      moved (start_row a) (suc m) (places_of j a (k ∷ places)) f s
      (block-agrees a n j rest (k ∷ places) f p
      (λ x h i. eq x (omega arith) (omega arith) ∙ under (last_from j (index_of n a rest) x) k (some_of a n j rest x h i))
      (λ x h i. clear x (omega arith) (omega arith))
      (moved e (suc (end_of a)) (k ∷ places) f u (end_row, more)))
  passes-agree (Passes.repeated a r q) m n k j rest places f (s, p, u, g) eq clear more =
      let la = spans-lt a p in
      let lq = passes-lt q r g in
      let i : j + blocks_in a + blocks_in_passes q ≡ j + (blocks_in a + blocks_in_passes q) = omega arith in
      let inner : ℕ → Option ℕ = λ x. last_from j (index_of n a (index_of_passes n q rest)) x in
      let free : (x : ℕ) → m < x → x ≤ end_of_passes q → last_from (j + blocks_in a + blocks_in_passes q) rest x ≡ none = λ x h o. ap (λ y. last_from y rest x) i ∙ clear x h o in
      let past-a : (x : ℕ) → end_of a < x → inner x ≡ last_from (j + blocks_in a) (index_of_passes n q rest) x = λ x h. outside-block a n j (index_of_passes n q rest) x p (inr h) in
      let before-q : (x : ℕ) → x ≤ r → last_from (j + blocks_in a) (index_of_passes n q rest) x ≡ last_from (j + blocks_in a + blocks_in_passes q) rest x = λ x h. outside-passes q r n (j + blocks_in a) rest x g (inl (omega arith)) in
      let repeat-row : f r ≡ some k = eq r (omega arith) (omega arith) ∙ own (inner r) k (past-a r (omega arith) ∙ before-q r (omega arith) ∙ free r (omega arith) (omega arith)) in
      let q-agrees = passes-agree q r n k (j + blocks_in a) rest places f g
      (λ x h o. eq x (omega arith) o ∙ ap (λ y. later y (some k)) (past-a x (omega arith)))
      (λ x h o. free x (omega arith) o)
      more in
      moved (start_row a) (suc m) (places_of j a (k ∷ places_of_passes k (j + blocks_in a) q places)) f s
      (block-agrees a n j (index_of_passes n q rest) (k ∷ places_of_passes k (j + blocks_in a) q places) f p
      (λ x h o. eq x (omega arith) (omega arith) ∙ under (inner x) k (some_of a n j (index_of_passes n q rest) x h o))
      (λ x h o. before-q x (omega arith) ∙ free x (omega arith) (omega arith))
      (moved r (suc (end_of a)) (k ∷ places_of_passes k (j + blocks_in a) q places) f u (repeat-row, q-agrees)))

-- THE READING

agrees_at : (places : List ℕ) (s : ℕ) (f : ℕ → Option ℕ) → Agrees s places f → (i : ℕ) → f (s + i) ≡ get_elem? places i
unfolding Agrees
agrees_at [] s f h i = h (s + i) (omega arith)
agrees_at (k ∷ places) s f h zero = let e : s + 0 ≡ s = omega arith in rw e h.0
agrees_at (k ∷ places) s f h (suc i) = let e : s + suc i ≡ suc s + i = omega arith in rw e (agrees_at places (suc s) f h.1 i)

-- "On a built index that must be, for each program row, its innermost block, and none for HALT rows."
pub innermost-found : (w : List Token) (b : Block) → WordOf w b → (row : ℕ) → last_from 0 (index b) row ≡ innermost b row
unfolding index innermost last_from Agrees
innermost-found w b h row =
    let (z, p) = word-spans w b h in
    let f : ℕ → Option ℕ = λ x. last_from 0 (index_of (start_row b) b []) x in
    let agrees = moved (start_row b) 0 (places_of 0 b []) f z
    (block-agrees b (start_row b) 0 [] [] f p (λ x i j. refl) (λ x i j. refl) (λ x i. outside-block b (start_row b) 0 [] x p (inr (omega arith)))) in
    let e : 0 + row ≡ row = omega arith in
    rw e at (agrees_at (places_of 0 b []) 0 f agrees row)
