-- One scan of a word's rows makes the index of its tree; its start rows are the blocks; no more than 64 blocks are open.
use mathlib.Core.Path.{◌≡◌, ◌∙◌, refl, sym, ap}
use mathlib.Core.List.{List, [], ◌∷◌, ◌++◌, append_assoc}
use Prim.Native.Nat.{ℕ, suc, ◌+◌, ◌≤◌}
use native.Mathlib.Omega.{arith}
use native.Mathlib.Numerals.{add-one}
use lib.ListN.{length, set}
use lib.Seq.{get_or-append_seam}
use Rattle.theory_readings.specs.Tokens.{Token, repeat, end}
use Rattle.theory_readings.specs.Readings.{Ops, Block, Passes, Row, numbered, spell_ops, spell, spell_passes, OnlyHalts, WordOf, depth_of, depth_of_passes, end_row_of}
use Rattle.theory_readings.proofs.WordAnswers.{halts-only}
use Rattle.theory_indexes.specs.Indexes.{start_row, end_of_passes, blocks_in, blocks_in_passes, index_of, index_of_passes, index}
use Rattle.theory_indexes.specs.ways.IndexScan.{around, index_scan, starts, Fits}
use Rattle.theory_indexes.proofs.IndexLists.{index-append}

-- THE INDEX

-- the numbers of an open block, and of those in it so far
abbrev opened : (made : List ℕ) (s n : ℕ) (x : List ℕ) → List ℕ
opened made s n x = made ++ (s ∷ 0 ∷ n ∷ x)

-- a block in it is given its start row
named : (made : List ℕ) (s n : ℕ) (x stack : List ℕ) (row : ℕ) → around (opened made s n x) (length made ∷ stack) row ≡ s
unfolding around
named made s n x stack row = get_or-append_seam made s (0 ∷ n ∷ x) 0

set-second : (made : List ℕ) (s y e : ℕ) (x : List ℕ) → set (made ++ (s ∷ y ∷ x)) (suc (length made)) e ≡ made ++ (s ∷ e ∷ x)
set-second [] s y e x = refl
set-second (a ∷ made) s y e x = ap (λ l. a ∷ l) (set-second made s y e x)

closes : (made : List ℕ) (s n e : ℕ) (x stack : List ℕ) (r : List Row) → index_scan ((e, end) ∷ r) (opened made s n x) (length made ∷ stack) ≡ index_scan r (made ++ (s ∷ e ∷ n ∷ x)) stack
unfolding index_scan
closes made s n e x stack r = rw (add-one (length made)) (ap (λ l. index_scan r l stack) (set-second made s 0 e (n ∷ x)))

scans-ops : (o : Ops) (made : List ℕ) (s n : ℕ) (stack : List ℕ) (r : List Row) → index_scan (spell_ops o r) (opened made s n []) (length made ∷ stack) ≡ index_scan r (made ++ (s ∷ end_row_of o ∷ n ∷ [])) stack
unfolding index_scan spell_ops end_row_of
scans-ops (Ops.ended e) made s n stack r = closes made s n e [] stack r
scans-ops (Ops.op row c o) made s n stack r = scans-ops o made s n stack r
scans-ops (Ops.respan row o) made s n stack r = scans-ops o made s n stack r

-- what a block in an open one adds
adds : (a : Block) (made : List ℕ) (s n : ℕ) (x stack : List ℕ) (r : List Row)
    → index_scan (spell a r) (opened made s n x) (length made ∷ stack) ≡ index_scan r (opened made s n x ++ index_of s a []) (length made ∷ stack)
    → index_scan (spell a r) (opened made s n x) (length made ∷ stack) ≡ index_scan r (opened made s n (x ++ index_of s a [])) (length made ∷ stack)
adds a made s n x stack r h = h ∙ ap (λ l. index_scan r l (length made ∷ stack)) (append_assoc made (s ∷ 0 ∷ n ∷ x) (index_of s a []))

mutual
  unfolding index_scan spell spell_passes index_of start_row end_of_passes

  pub scans : (b : Block) (n : ℕ) (made stack : List ℕ) (r : List Row) → around made stack (start_row b) ≡ n → index_scan (spell b r) made stack ≡ index_scan r (made ++ index_of n b []) stack
  scans (Block.span row o) n made stack r h =
      ap (λ y. index_scan (spell_ops o r) (opened made row y []) (length made ∷ stack)) h ∙ scans-ops o made row n stack r
  scans (Block.join row a b e) n made stack r h =
      ap (λ y. index_scan (spell a (spell b ((e, end) ∷ r))) (opened made row y []) (length made ∷ stack)) h
      ∙ adds a made row n [] stack _ (scans a row (opened made row n []) (length made ∷ stack) _ (named made row n [] stack (start_row a)))
      ∙ adds b made row n (index_of row a []) stack _ (scans b row (opened made row n (index_of row a [])) (length made ∷ stack) _ (named made row n (index_of row a []) stack (start_row b)))
      ∙ closes made row n e (index_of row a [] ++ index_of row b []) stack r
      ∙ ap (λ y. index_scan r (made ++ (row ∷ e ∷ n ∷ y)) stack) (sym (index-append a row [] (index_of row b [])))
  scans (Block.one k row a e) n made stack r h =
      ap (λ y. index_scan (spell a ((e, end) ∷ r)) (opened made row y []) (length made ∷ stack)) h
      ∙ adds a made row n [] stack _ (scans a row (opened made row n []) (length made ∷ stack) _ (named made row n [] stack (start_row a)))
      ∙ closes made row n e (index_of row a []) stack r
  scans (Block.loop row q) n made stack r h =
      ap (λ y. index_scan (spell_passes q r) (opened made row y []) (length made ∷ stack)) h ∙ scans-passes q made row n [] stack r

  pub scans-passes : (q : Passes) (made : List ℕ) (s n : ℕ) (x stack : List ℕ) (r : List Row) → index_scan (spell_passes q r) (opened made s n x) (length made ∷ stack) ≡ index_scan r (made ++ (s ∷ end_of_passes q ∷ n ∷ (x ++ index_of_passes s q []))) stack
  scans-passes (Passes.ended a e) made s n x stack r =
      adds a made s n x stack _ (scans a s (opened made s n x) (length made ∷ stack) _ (named made s n x stack (start_row a)))
      ∙ closes made s n e (x ++ index_of s a []) stack r
  scans-passes (Passes.repeated a m q) made s n x stack r =
      adds a made s n x stack _ (scans a s (opened made s n x) (length made ∷ stack) _ (named made s n x stack (start_row a)))
      ∙ scans-passes q made s n (x ++ index_of s a []) stack r
      ∙ ap (λ y. index_scan r (made ++ (s ∷ end_of_passes q ∷ n ∷ y)) stack)
      (append_assoc x (index_of s a []) (index_of_passes s q []) ∙ ap (λ y. x ++ y) (sym (index-append a s [] (index_of_passes s q []))))

-- HALT rows add nothing
scans-halts : (h : List Row) (made stack : List ℕ) → OnlyHalts h → index_scan h made stack ≡ made
unfolding index_scan OnlyHalts
scans-halts [] made stack f = refl
scans-halts (x ∷ h) made stack f = rw f.0 (scans-halts h made stack f.1)

pub scanned : (w : List Token) (b : Block) → WordOf w b → index_scan (numbered 0 w) [] [] ≡ index b
unfolding WordOf index around
scanned w b (rest, e, h) =
    ap (λ r. index_scan r [] []) e ∙ scans b (start_row b) [] [] rest refl ∙ scans-halts rest (index_of (start_row b) b []) [] (halts-only rest h)

-- THE NUMBER OF BLOCKS

starts-ops : (o : Ops) (r : List Row) → starts (spell_ops o r) ≡ starts r
unfolding starts spell_ops
starts-ops (Ops.ended e) r = omega arith
starts-ops (Ops.op row c o) r = omega (arith, starts-ops o r)
starts-ops (Ops.respan row o) r = omega (arith, starts-ops o r)

mutual
  unfolding starts spell blocks_in

  starts-block : (b : Block) (r : List Row) → starts (spell b r) ≡ blocks_in b + starts r
  starts-block (Block.span row o) r = omega (arith, starts-ops o r)
  starts-block (Block.join row a b e) r = omega (arith, starts-block a (spell b ((e, end) ∷ r)), starts-block b ((e, end) ∷ r))
  starts-block (Block.one k row a e) r = omega (arith, starts-block a ((e, end) ∷ r))
  starts-block (Block.loop row q) r = omega (arith, starts-passes q r)

  starts-passes : (q : Passes) (r : List Row) → starts (spell_passes q r) ≡ blocks_in_passes q + starts r
  starts-passes (Passes.ended a e) r = omega (arith, starts-block a ((e, end) ∷ r))
  starts-passes (Passes.repeated a m q) r = omega (arith, starts-block a ((m, repeat) ∷ spell_passes q r), starts-passes q r)

starts-halts : (h : List Row) → OnlyHalts h → starts h ≡ 0
unfolding starts OnlyHalts
starts-halts [] f = refl
starts-halts (x ∷ h) f = rw f.0 (omega (arith, starts-halts h f.1))

-- the blocks of a reading are its start rows
pub blocks-starts : (w : List Token) (b : Block) → WordOf w b → starts (numbered 0 w) ≡ blocks_in b
unfolding WordOf
blocks-starts w b (rest, e, h) = ap starts e ∙ omega (arith, starts-block b rest, starts-halts rest (halts-only rest h))

-- OPEN BLOCKS

fits-ops : (o : Ops) (n : ℕ) (r : List Row) → Fits n r → Fits (suc n) (spell_ops o r)
unfolding Fits spell_ops
fits-ops (Ops.ended e) n r f = (omega arith, f)
fits-ops (Ops.op row c o) n r f = (tt, fits-ops o n r f)
fits-ops (Ops.respan row o) n r f = (tt, fits-ops o n r f)

mutual
  unfolding Fits spell depth_of

  fits-block : (b : Block) (n : ℕ) (r : List Row) → n + depth_of b ≤ 64 → Fits n r → Fits n (spell b r)
  fits-block (Block.span row o) n r h f = (omega arith, fits-ops o n r f)
  fits-block (Block.join row a b e) n r h f =
      (omega arith, fits-block a (suc n) _ (omega arith) (fits-block b (suc n) _ (omega arith) (omega arith, f)))
  fits-block (Block.one k row a e) n r h f = (omega arith, fits-block a (suc n) _ (omega arith) (omega arith, f))
  fits-block (Block.loop row q) n r h f = (omega arith, fits-passes q n r (omega arith) f)

  fits-passes : (q : Passes) (n : ℕ) (r : List Row) → suc n + depth_of_passes q ≤ 64 → Fits n r → Fits (suc n) (spell_passes q r)
  fits-passes (Passes.ended a e) n r h f = fits-block a (suc n) _ h (omega arith, f)
  fits-passes (Passes.repeated a m q) n r h f = fits-block a (suc n) _ (omega arith) (tt, fits-passes q n r (omega arith) f)

fits-halts : (h : List Row) (n : ℕ) → OnlyHalts h → Fits n h
unfolding Fits OnlyHalts
fits-halts [] n f = tt
fits-halts (x ∷ h) n f = rw f.0 (tt, fits-halts h n f.1)

pub fits : (w : List Token) (b : Block) → WordOf w b → depth_of b ≤ 64 → Fits 0 (numbered 0 w)
unfolding WordOf
fits w b (rest, e, h) d = rw e (fits-block b 0 rest (omega arith) (fits-halts rest 0 (halts-only rest h)))
