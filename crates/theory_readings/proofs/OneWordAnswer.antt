-- Two right answers of the word are one.
use mathlib.Core.Path.{◌≡◌, ◌∙◌, refl, sym, ap}
use mathlib.Core.List.{List, [], ◌∷◌, ◌++◌, append_assoc, append-nil, head-eq_of_cons-eq, tail-eq_of_cons-eq}
use mathlib.Core.Logic.{◌↔◌}
use Prim.Native.Nat.{ℕ, suc, pred, ◌+◌, ◌≤◌, ◌<◌}
use native.Mathlib.Omega.{arith}
use native.Mathlib.Decide.{dec_lt}
use lib.ListN.{length, length-append}
use Rattle.theory_readings.specs.Tokens.{Kind, Token, start, repeat, end, halt, nothing}
use Rattle.theory_readings.specs.Readings.{Ops, Block, Passes, Row, spell_ops, spell, spell_passes, OnlyHalts, Halts, WordOf, depth_of, depth_of_passes}
use Rattle.theory_readings.specs.Answers.{Begins, open_after, Within64, Stuck, NoWordAt, TooDeepAt, WordWithin}
use Rattle.theory_readings.specs.ways.Parser.{need, live, parse, WordAnswer, word_of, no_word_at, too_deep_at, if_halt, after_halt, after_block, word_answer, read_word}
use Rattle.theory_readings.proofs.Parses.{parse-done}
use Rattle.theory_readings.proofs.WordAnswers.{Says, halts-only, read_word-says}
use Rattle.theory_readings.proofs.SpelledRows.{tokens, tokens-numbered}

-- a whole word is answered by its tree
after-halt-whole : (b : Block) (h : List Row) → OnlyHalts h → after_halt b h ≡ word_of b
unfolding after_halt OnlyHalts if_halt
after-halt-whole b [] f = refl
after-halt-whole b (x ∷ h) f = rw f.0 (after-halt-whole b h f.1)

after-block-whole : (b : Block) (e : ℕ) (h : List Row) → Halts h → after_block b e h ≡ word_of b
unfolding after_block Halts if_halt
after-block-whole b e [] f = absurd f
after-block-whole b e (x ∷ h) f = rw f.0 (after-halt-whole b h f.1)

pub read_word-whole : (w : List Token) (b : Block) → WordWithin w b → read_word w ≡ word_of b
unfolding read_word WordWithin WordOf word_answer
read_word-whole w b ((h, e, f), d) =
    ap (λ r. word_answer (length w) (parse r (live (need 64 [])))) e ∙ ap (word_answer (length w)) (parse-done b 64 h d) ∙ after-block-whole b (length w) h f

-- the rows of a tree at most 64 deep start no block 65 deep
within-ops : (o : Ops) (c : ℕ) (r : List Row) → Within64 c (tokens r) → Within64 (suc c) (tokens (spell_ops o r))
unfolding Within64 tokens spell_ops
within-ops (Ops.ended e) c r h = h
within-ops (Ops.op n k o) c r h = within-ops o c r h
within-ops (Ops.respan n o) c r h = within-ops o c r h

mutual
  unfolding Within64 tokens spell depth_of

  within_block : (b : Block) (c : ℕ) (r : List Row) → c + depth_of b ≤ 64 → Within64 c (tokens r) → Within64 c (tokens (spell b r))
  within_block (Block.span n o) c r d h = (omega arith, within-ops o c r h)
  within_block (Block.join n a b e) c r d h = (omega arith, within_block a (suc c) _ (omega arith) (within_block b (suc c) _ (omega arith) h))
  within_block (Block.one k n a e) c r d h = (omega arith, within_block a (suc c) _ (omega arith) h)
  within_block (Block.loop n p) c r d h = (omega arith, within-passes p c r (omega arith) h)

  within-passes : (p : Passes) (c : ℕ) (r : List Row) → suc c + depth_of_passes p ≤ 64 → Within64 c (tokens r) → Within64 (suc c) (tokens (spell_passes p r))
  within-passes (Passes.ended b e) c r d h = within_block b (suc c) _ (omega arith) h
  within-passes (Passes.repeated b m p) c r d h = within_block b (suc c) _ (omega arith) (within-passes p c r (omega arith) h)

within-halts : (h : List Row) (c : ℕ) → OnlyHalts h → Within64 c (tokens h)
unfolding Within64 tokens OnlyHalts
within-halts [] c f = tt
within-halts (x ∷ h) c f = rw f.0 (within-halts h c f.1)

pub within_word : (w : List Token) (b : Block) → WordWithin w b → Within64 0 w
unfolding WordWithin WordOf Halts OnlyHalts
within_word w b ((h, e, f), d) =
    let x : Within64 0 (tokens (spell b h)) = within_block b 0 h (omega arith) (within-halts h 0 (halts-only h f)) in
    rw (← e, tokens-numbered w 0) at x

-- two ways to cut one list
cut : (p q p' q' : List Token) → p ++ q ≡ p' ++ q' → length p < length p' → (t : Token) × (c : List Token) × (d : List Token) × (q ≡ t ∷ d) × (p' ≡ p ++ (t ∷ c))
cut [] q [] q' e h = absurd (omega arith)
cut [] q (t ∷ p') q' e h = (t, p', p' ++ q', e, refl)
cut (u ∷ p) q [] q' e h = absurd (omega arith)
cut (u ∷ p) q (t ∷ p') q' e h =
    let x = cut p q p' q' (tail-eq_of_cons-eq e) (omega arith) in
    (x.0, x.1, x.2, x.3, cc (head-eq_of_cons-eq e, x.4))

begins-less : (p c : List Token) → Begins (p ++ c) → Begins p
unfolding Begins
begins-less p c x = (c ++ x.0, rw append_assoc at x.1)

-- where no word goes on, nothing longer begins one
stuck-longer : (p q p' q' : List Token) → p ++ q ≡ p' ++ q' → Stuck p q → length p < length p' → ¬ Begins p'
unfolding Stuck
stuck-longer p q p' q' e h l x =
    let (t, c, d, f, g) = cut p q p' q' e l in
    let i : Stuck p (t ∷ d) = rw f at h in
    i (begins-less (p ++ (t ∷ [])) c (rw append_assoc (rw g at x)))

stuck-no-word : (w p q : List Token) (b : Block) → w ≡ p ++ q → Stuck p q → ¬ WordWithin w b
unfolding Stuck WordWithin Begins
stuck-no-word w p [] b e h x = h b (rw (e, append-nil p) at x.0)
stuck-no-word w p (t ∷ q) b e h x = h (q, (b, rw append_assoc (rw e at x.0)))

within-at : (p : List Token) (c : ℕ) (k : Kind) (r : List Token) → Within64 c (p ++ (start k ∷ r)) → open_after c p < 64
unfolding Within64 open_after
within-at [] c k r h = h.0
within-at (start j ∷ p) c k r h = within-at p (suc c) k r h.1
within-at (Token.op o ∷ p) c k r h = within-at p c k r h
within-at (Token.respan ∷ p) c k r h = within-at p c k r h
within-at (repeat ∷ p) c k r h = within-at p c k r h
within-at (end ∷ p) c k r h = within-at p (pred c) k r h
within-at (halt ∷ p) c k r h = within-at p c k r h
within-at (nothing ∷ p) c k r h = within-at p c k r h

-- two right answers are one
whole-no_word : (w : List Token) (b : Block) (n : ℕ) → Says w (word_of b) → Says w (no_word_at n) → ⊥
unfolding NoWordAt
whole-no_word w b n x (p, q, e, f, g, s, h) = stuck-no-word w p q b e h x

whole-too_deep : (w : List Token) (b : Block) (n : ℕ) → Says w (word_of b) → Says w (too_deep_at n) → ⊥
unfolding TooDeepAt
whole-too_deep w b n x (p, k, q, e, f, g, s, h) =
    let y : Within64 0 (p ++ (start k ∷ q)) = rw e at (within_word w b x) in
    omega (arith, within-at p 0 k q y)

no_word-too_deep : (w : List Token) (m n : ℕ) → Says w (no_word_at m) → Says w (too_deep_at n) → ⊥
unfolding NoWordAt TooDeepAt
no_word-too_deep w m n (p, q, e, f, g, s, h) (p', k, q', e', f', g', s', h') = elim (dec_lt n m) [
  | yes l ↦
      (let (t, c, d, i, j) = cut p' (start k ∷ q') p q (sym e' ∙ e) (omega arith) in
      let u : start k ≡ t = cc in
      let y : Within64 0 (p' ++ (start k ∷ c)) = rw (j, ← u) at s in
      omega (arith, within-at p' 0 k c y))
  | no l ↦
      stuck-longer p q (p' ++ (start k ∷ [])) q' (rw append_assoc (sym e ∙ e')) h (omega (arith, length-append p' (start k ∷ []))) g'
]

no_word-no_word : (w : List Token) (m n : ℕ) → Says w (no_word_at m) → Says w (no_word_at n) → ¬ (m < n)
unfolding NoWordAt
no_word-no_word w m n (p, q, e, f, g, s, h) (p', q', e', f', g', s', h') l =
    stuck-longer p q p' q' (sym e ∙ e') h (omega arith) g'

too_deep-too_deep : (w : List Token) (m n : ℕ) → Says w (too_deep_at m) → Says w (too_deep_at n) → ¬ (m < n)
unfolding TooDeepAt
too_deep-too_deep w m n (p, k, q, e, f, g, s, h) (p', k', q', e', f', g', s', h') l =
    let (t, c, d, i, j) = cut p (start k ∷ q) p' (start k' ∷ q') (sym e ∙ e') (omega arith) in
    let u : start k ≡ t = cc in
    let y : Within64 0 (p ++ (start k ∷ c)) = rw (j, ← u) at s' in
    omega (arith, within-at p 0 k c y)

pub one-word-answer : (w : List Token) (o o' : WordAnswer) → Says w o → Says w o' → o ≡ o'
one-word-answer w (word_of b) (word_of c) x y = sym (read_word-whole w b x) ∙ read_word-whole w c y
one-word-answer w (word_of b) (no_word_at n) x y = absurd (whole-no_word w b n x y)
one-word-answer w (word_of b) (too_deep_at n) x y = absurd (whole-too_deep w b n x y)
one-word-answer w (no_word_at m) (word_of c) x y = absurd (whole-no_word w c m y x)
one-word-answer w (no_word_at m) (no_word_at n) x y = ap no_word_at (omega (arith, no_word-no_word w m n x y, no_word-no_word w n m y x))
one-word-answer w (no_word_at m) (too_deep_at n) x y = absurd (no_word-too_deep w m n x y)
one-word-answer w (too_deep_at m) (word_of c) x y = absurd (whole-too_deep w c m y x)
one-word-answer w (too_deep_at m) (no_word_at n) x y = absurd (no_word-too_deep w n m y x)
one-word-answer w (too_deep_at m) (too_deep_at n) x y = ap too_deep_at (omega (arith, too_deep-too_deep w m n x y, too_deep-too_deep w n m y x))

-- the machine answers exactly what is right
pub read_word-exact : (w : List Token) (o : WordAnswer) → (read_word w ≡ o) ↔ Says w o
read_word-exact w o = (λ e. rw e at (read_word-says w), λ h. one-word-answer w (read_word w) o (read_word-says w) h)
