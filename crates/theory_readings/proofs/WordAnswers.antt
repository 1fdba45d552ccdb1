-- The machine answers what is right of the word.
use mathlib.Core.Path.{◌≡◌, ◌∙◌, refl, sym}
use mathlib.Core.List.{List, [], ◌∷◌, ◌++◌, append_assoc, append-nil}
use Prim.Native.Nat.{ℕ, suc, pred, ◌≤◌}
use native.Mathlib.Omega.{arith}
use lib.ListN.{length, length-append}
use Rattle.theory_readings.specs.Tokens.{Token, start, repeat, end, halt, nothing}
use Rattle.theory_readings.specs.Readings.{Block, Row, numbered, spell, OnlyHalts, Halts, WordOf, depth_of}
use Rattle.theory_readings.specs.Answers.{Begins, Within64, Stuck, NoWordAt, TooDeepAt, WordWithin}
use Rattle.theory_readings.specs.ways.Parser.{Live, need, fails, deeper, live, whole, step, Parsed, done, failed, unfinished, parse, WordAnswer, word_of, no_word_at, too_deep_at, if_halt, after_halt, after_block, word_answer, read_word}
use Rattle.theory_readings.proofs.OneReading.{one-tree}
use Rattle.theory_readings.proofs.ReadSoFar.{before_open, before, step-read}
use Rattle.theory_readings.proofs.Soundness.{parse-sound}
use Rattle.theory_readings.proofs.Reached.{Reach, reach-read, reach-length, Ends, ends}
use Rattle.theory_readings.proofs.WordsGoOn.{begins, not_yet, no_word, begins-deeper}
use Rattle.theory_readings.proofs.OpenBlocks.{budget, reach-count, NotStart, stops}

-- the answer is right for the word
abbrev pub Says : List Token → WordAnswer → Type 0
Says w (word_of b) = WordWithin w b
Says w (no_word_at n) = NoWordAt w n
Says w (too_deep_at n) = TooDeepAt w n

within-snoc : (p : List Token) (c : ℕ) (t : Token) → Within64 c p → NotStart t → Within64 c (p ++ (t ∷ []))
unfolding Within64
within-snoc [] c (start k) h n = absurd n
within-snoc [] c (Token.op o) h n = tt
within-snoc [] c Token.respan h n = tt
within-snoc [] c repeat h n = tt
within-snoc [] c end h n = tt
within-snoc [] c halt h n = tt
within-snoc [] c nothing h n = tt
within-snoc (start k ∷ p) c t h n = (h.0, within-snoc p (suc c) t h.1 n)
within-snoc (Token.op o ∷ p) c t h n = within-snoc p c t h n
within-snoc (Token.respan ∷ p) c t h n = within-snoc p c t h n
within-snoc (repeat ∷ p) c t h n = within-snoc p c t h n
within-snoc (end ∷ p) c t h n = within-snoc p (pred c) t h n
within-snoc (halt ∷ p) c t h n = within-snoc p c t h n
within-snoc (nothing ∷ p) c t h n = within-snoc p c t h n

only-halts-snoc : (g : List Row) (n : ℕ) → OnlyHalts g → OnlyHalts (g ++ ((n, halt) ∷ []))
unfolding OnlyHalts
only-halts-snoc [] n h = (refl, tt)
only-halts-snoc (x ∷ g) n h = (h.0, only-halts-snoc g n h.1)

halts-snoc : (g : List Row) (n : ℕ) → OnlyHalts g → Halts (g ++ ((n, halt) ∷ []))
unfolding OnlyHalts Halts
halts-snoc [] n h = (refl, tt)
halts-snoc (x ∷ g) n h = (h.0, only-halts-snoc g n h.1)

pub halts-only : (g : List Row) → Halts g → OnlyHalts g
unfolding OnlyHalts Halts
halts-only [] h = absurd h
halts-only (x ∷ g) h = h

halt-at : (g : List Row) (x : Row) (r : List Row) → OnlyHalts (g ++ (x ∷ r)) → x.1 ≡ halt
unfolding OnlyHalts
halt-at [] x r h = h.0
halt-at (y ∷ g) x r h = halt-at g x r h.1

-- the tokens u are those of the tree b and of the rows g, whatever follows
abbrev Behind : List Token → Block → List Row → ℕ → Type 0
Behind u b g n = (z : List Token) → numbered 0 (u ++ z) ≡ spell b (g ++ numbered n z)

behind-snoc : (u : List Token) (b : Block) (g : List Row) (n : ℕ) (t : Token) → Behind u b g n → Behind (u ++ (t ∷ [])) b (g ++ ((n, t) ∷ [])) (suc n)
unfolding numbered
behind-snoc u b g n t h z = rw (append_assoc u (t ∷ []) z, append_assoc g ((n, t) ∷ []) (numbered (suc n) z)) (h (t ∷ z))

behind-begins : (u : List Token) (b : Block) (g : List Row) (n : ℕ) → Behind u b g n → OnlyHalts g → Begins u
unfolding Begins WordOf numbered
behind-begins u b g n h f = (halt ∷ [], (b, (g ++ ((n, halt) ∷ []), h (halt ∷ []), halts-snoc g n f)))

behind-stuck : (u : List Token) (b : Block) (g : List Row) (n : ℕ) (t : Token) → Behind u b g n → ¬ (t ≡ halt) → ¬ Begins (u ++ (t ∷ []))
unfolding Begins WordOf numbered
behind-stuck u b g n t h no' x =
    let (z, (c, (k, e, f))) = x in
    let y = one-tree b c (g ++ ((n, t) ∷ numbered (suc n) z)) k (sym (h (t ∷ z)) ∙ (rw append_assoc at e)) in
    no' (halt-at g (n, t) (numbered (suc n) z) (rw y.1 (halts-only k f)))

abbrev NotHalt : Token → Type 0
NotHalt halt = ⊥
NotHalt (start k) = Unit {0}
NotHalt (Token.op o) = Unit {0}
NotHalt Token.respan = Unit {0}
NotHalt repeat = Unit {0}
NotHalt end = Unit {0}
NotHalt nothing = Unit {0}

-- a row behind the Block that is no HALT
stuck-says : (u q : List Token) (b : Block) (g : List Row) (n : ℕ) (t : Token) → Behind u b g n → n ≡ length u → OnlyHalts g → Within64 0 u → ¬ (t ≡ halt) → Says (u ++ (t ∷ q)) (no_word_at n)
unfolding NoWordAt Stuck
stuck-says u q b g n t h e f s no' = (u, t ∷ q, refl, e, behind-begins u b g n h f, s, behind-stuck u b g n t h no')

no-halt : (t : Token) → NotHalt t → ¬ (t ≡ halt)
no-halt (start k) h e = let z : ◌≡◌ {A = ℕ} 0 1 = cc in omega arith
no-halt (Token.op o) h e = let z : ◌≡◌ {A = ℕ} 0 1 = cc in omega arith
no-halt Token.respan h e = let z : ◌≡◌ {A = ℕ} 0 1 = cc in omega arith
no-halt repeat h e = let z : ◌≡◌ {A = ℕ} 0 1 = cc in omega arith
no-halt end h e = let z : ◌≡◌ {A = ℕ} 0 1 = cc in omega arith
no-halt halt h e = absurd h
no-halt nothing h e = let z : ◌≡◌ {A = ℕ} 0 1 = cc in omega arith

after-halt-says : (q u : List Token) (b : Block) (g : List Row) (n : ℕ) → Behind u b g n → n ≡ length u → Halts g → Within64 0 u → depth_of b ≤ 64 → Says (u ++ q) (after_halt b (numbered n q))
unfolding NoWordAt WordWithin WordOf numbered after_halt if_halt
after-halt-says [] u b g n h e f s d = ((g, rw (append-nil g) at (h []), f), d)
after-halt-says (halt ∷ q) u b g n h e f s d =
    rw append_assoc at (after-halt-says q (u ++ (halt ∷ [])) b (g ++ ((n, halt) ∷ [])) (suc n) (behind-snoc u b g n halt h) (omega (arith, length-append u (halt ∷ []))) (halts-snoc g n (halts-only g f)) (within-snoc u 0 halt s tt) d)
after-halt-says (start k ∷ q) u b g n h e f s d = stuck-says u q b g n (start k) h e (halts-only g f) s (no-halt (start k) tt)
after-halt-says (Token.op o ∷ q) u b g n h e f s d = stuck-says u q b g n (Token.op o) h e (halts-only g f) s (no-halt (Token.op o) tt)
after-halt-says (Token.respan ∷ q) u b g n h e f s d = stuck-says u q b g n Token.respan h e (halts-only g f) s (no-halt Token.respan tt)
after-halt-says (repeat ∷ q) u b g n h e f s d = stuck-says u q b g n repeat h e (halts-only g f) s (no-halt repeat tt)
after-halt-says (end ∷ q) u b g n h e f s d = stuck-says u q b g n end h e (halts-only g f) s (no-halt end tt)
after-halt-says (nothing ∷ q) u b g n h e f s d = stuck-says u q b g n nothing h e (halts-only g f) s (no-halt nothing tt)

after-block-says : (q u : List Token) (b : Block) (n : ℕ) → Behind u b [] n → n ≡ length u → Within64 0 u → depth_of b ≤ 64 → Says (u ++ q) (after_block b (length (u ++ q)) (numbered n q))
unfolding NoWordAt WordWithin WordOf numbered after_block if_halt Stuck Halts OnlyHalts
after-block-says [] u b n h e s d =
    rw append-nil (u, [], sym (append-nil u), refl, behind-begins u b [] n h tt, s, λ c x. rw (← (one-tree b c [] x.0 (sym (rw (append-nil u) at (h [])) ∙ x.1)).1) at x.2)
after-block-says (halt ∷ q) u b n h e s d =
    rw append_assoc at (after-halt-says q (u ++ (halt ∷ [])) b ((n, halt) ∷ []) (suc n) (behind-snoc u b [] n halt h) (omega (arith, length-append u (halt ∷ []))) (refl, tt) (within-snoc u 0 halt s tt) d)
after-block-says (start k ∷ q) u b n h e s d = stuck-says u q b [] n (start k) h e tt s (no-halt (start k) tt)
after-block-says (Token.op o ∷ q) u b n h e s d = stuck-says u q b [] n (Token.op o) h e tt s (no-halt (Token.op o) tt)
after-block-says (Token.respan ∷ q) u b n h e s d = stuck-says u q b [] n Token.respan h e tt s (no-halt Token.respan tt)
after-block-says (repeat ∷ q) u b n h e s d = stuck-says u q b [] n repeat h e tt s (no-halt repeat tt)
after-block-says (end ∷ q) u b n h e s d = stuck-says u q b [] n end h e tt s (no-halt end tt)
after-block-says (nothing ∷ q) u b n h e s d = stuck-says u q b [] n nothing h e tt s (no-halt nothing tt)

behind : (p : List Token) (t : Token) (l : Live) (m : ℕ) (b : Block) → Reach (need 64 []) 0 p l m → step l m t ≡ whole b → Behind (p ++ (t ∷ [])) b [] (suc m)
unfolding numbered before before_open
behind p t l m b r e z = rw append_assoc (reach-read r (t ∷ z) ∙ sym (rw e at (step-read l m t (numbered (suc m) z))))

says-go : (w : List Token) (a : Parsed) → parse (numbered 0 w) (live (need 64 [])) ≡ a → Ends (need 64 []) 0 w a → Says w (word_answer (length w) a)
unfolding NoWordAt TooDeepAt WordWithin word_answer Stuck budget
says-go w unfinished h (l, m, r) = (w, [], sym (append-nil w), refl, begins r, (reach-count r 0 refl refl).0, not_yet r)
says-go w (failed (fails n)) h (p, t, q, l, m, e, r, f) =
    let k : n ≡ m = rw f at (stops l m t) in
    (p, t ∷ q, e, omega (arith, reach-length r), begins r, (reach-count r 0 refl refl).0, no_word n t r f)
says-go w (failed (deeper n)) h (p, t, q, l, m, e, r, f) =
    let (i, s, u, (k, v)) = rw f at (stops l m t) in
    let r' : Reach (need 64 []) 0 p (need 0 s) m = rw u at r in
    let c = reach-count r' 0 refl refl in
    (p, k, q, rw v at e, omega (arith, reach-length r), begins-deeper k r', c.0, omega (arith, c.1))
says-go w (done b g) h (p, t, q, l, m, e, r, f, i) =
    let d : depth_of b ≤ 64 = (parse-sound 64 (numbered 0 w) b g h).1 in
    let y = after-block-says q (p ++ (t ∷ [])) b (suc m) (behind p t l m b r f) (omega (arith, reach-length r, length-append p (t ∷ []))) (within-snoc p 0 t (reach-count r 0 refl refl).0 (rw f at (stops l m t))) d in
    let v : w ≡ (p ++ (t ∷ [])) ++ q = e ∙ sym (append_assoc p (t ∷ []) q) in
    rw (v, i) y

pub read_word-says : (w : List Token) → Says w (read_word w)
unfolding read_word
read_word-says w = says-go w (parse (numbered 0 w) (live (need 64 []))) refl (ends w (need 64 []) 0)
