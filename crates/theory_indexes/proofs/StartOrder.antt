-- The blocks of an index stand "in the order of its start rows", and a start row belongs to the block that it starts.
use mathlib.Core.Path.{◌≡◌, ◌∙◌, refl, sym, ap}
use mathlib.Core.List.{List, [], ◌∷◌}
use mathlib.Core.Option.{none, some}
use Prim.Native.Nat.{ℕ, zero, suc, ◌+◌, ◌*◌, ◌≤◌, ◌<◌}
use native.Mathlib.Omega.{arith}
use borrow.Author.Tests.{le-leb, lt-leb}
use lib.ListN.{length, get_or}
use Rattle.theory_readings.specs.Tokens.{Token}
use Rattle.theory_readings.specs.Readings.{Block, Passes, WordOf, end_row_of}
use Rattle.theory_indexes.specs.Indexes.{start_row, end_of_passes, end_of, blocks_in, index_of, index_of_passes, index, innermost}
use Rattle.theory_indexes.specs.Enclosing.{encloses, later, last_from}
use Rattle.theory_indexes.proofs.IndexLists.{index-length}
use Rattle.theory_indexes.proofs.Innermost.{innermost-found}
use Rattle.theory_indexes.proofs.RowsOfBlocks.{Spans, SpansPasses, ops-le, spans-lt, passes-lt, word-spans}

-- the start rows rise, from s on, and each END row stands behind its start row
unfoldable pub Rising : (s : ℕ) → (numbers : List ℕ) → Type 0
Rising s (start ∷ end ∷ around ∷ more) = (s ≤ start) × (start < end) × Rising (suc start) more
Rising s (start ∷ end ∷ []) = Unit {0}
Rising s (start ∷ []) = Unit {0}
Rising s [] = Unit {0}

sooner : (l : List ℕ) (s s' : ℕ) → s' ≤ s → Rising s l → Rising s' l
unfolding Rising
sooner (start ∷ end ∷ around ∷ more) s s' h r = (omega arith, r.1, r.2)
sooner (start ∷ end ∷ []) s s' h r = tt
sooner (start ∷ []) s s' h r = tt
sooner [] s s' h r = tt

mutual
  unfolding Rising Spans index_of start_row end_of end_of_passes

  block-rises : (b : Block) (n s : ℕ) (rest : List ℕ) → Spans b → s ≤ start_row b → Rising (end_of b) rest → Rising s (index_of n b rest)
  block-rises (Block.span row o) n s rest p h r = (h, ops-le o (suc row) p, sooner rest (end_row_of o) (suc row) (ops-le o (suc row) p) r)
  block-rises (Block.join row a b e) n s rest (f, p, g, q, u) h r =
      (h, omega (arith, spans-lt a p, spans-lt b q), block-rises a row (suc row) _ p (omega arith) (block-rises b row (end_of a) rest q (omega arith) (sooner rest e (end_of b) (omega arith) r)))
  block-rises (Block.one c row a e) n s rest (f, p, u) h r =
      (h, omega (arith, spans-lt a p), block-rises a row (suc row) rest p (omega arith) (sooner rest e (end_of a) (omega arith) r))
  block-rises (Block.loop row q) n s rest p h r = (h, passes-lt q row p, passes-rise q row row (suc row) rest p (omega arith) r)

  passes-rise : (q : Passes) (m n s : ℕ) (rest : List ℕ) → SpansPasses m q → s ≤ suc m → Rising (end_of_passes q) rest → Rising s (index_of_passes n q rest)
  passes-rise (Passes.ended a e) m n s rest (f, p, u) h r = block-rises a n s rest p (omega arith) (sooner rest e (end_of a) (omega arith) r)
  passes-rise (Passes.repeated a k q) m n s rest (f, p, u, g) h r =
      block-rises a n s _ p (omega arith) (passes-rise q k n (end_of a) rest g (omega arith) r)

pub starts-rise : (w : List Token) (b : Block) → WordOf w b → Rising 0 (index b)
unfolding Rising index
starts-rise w b h = block-rises b (start_row b) 0 [] (word-spans w b h).1 (omega arith) tt

-- no block of rising start rows encloses a row before them
before-all : (l : List ℕ) (s k x : ℕ) → Rising s l → x < s → last_from k l x ≡ none
unfolding Rising last_from encloses later
before-all (start ∷ end ∷ around ∷ more) s k x (h, i, r) b = rw (before-all more (suc start) (suc k) x r (omega arith), lt-leb start x (omega arith)) refl
before-all (start ∷ end ∷ []) s k x r b = refl
before-all (start ∷ []) s k x r b = refl
before-all [] s k x r b = refl

own-from : (i : ℕ) (l : List ℕ) (s k : ℕ) → Rising s l → 3 * i + 2 < length l → last_from k l (get_or l (3 * i) 0) ≡ some (k + i)
unfolding Rising last_from encloses later
own-from i [] s k r h = absurd (omega arith)
own-from i (start ∷ []) s k r h = absurd (omega arith)
own-from i (start ∷ end ∷ []) s k r h = absurd (omega arith)
own-from zero (start ∷ end ∷ around ∷ more) s k (a, b, r) h =
    let e : k + 0 ≡ k = omega arith in
    rw (before-all more (suc start) (suc k) start r (omega arith), le-leb start start (omega arith), le-leb start end (omega arith), e) refl
own-from (suc i) (start ∷ end ∷ around ∷ more) s k (a, b, r) h =
    let e : 3 * suc i ≡ suc (suc (suc (3 * i))) = omega arith in
    let f : k + suc i ≡ suc k + i = omega arith in
    rw (e, f, own-from i more (suc start) (suc k) r (omega arith)) refl

-- the start row that stands at place k is the row of the block at place k
pub own-place : (w : List Token) (b : Block) → WordOf w b → (k : ℕ) → k < blocks_in b → innermost b (get_or (index b) (3 * k) 0) ≡ some k
unfolding index
own-place w b h k l =
    let e : 0 + k ≡ k = omega arith in
    sym (innermost-found w b h (get_or (index b) (3 * k) 0)) ∙ own-from k (index b) 0 0 (starts-rise w b h) (omega (arith, index-length b (start_row b) [])) ∙ ap some e
