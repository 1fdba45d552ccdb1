-- The first ask that the cells do not meet is that of the lowest wrong row.
use mathlib.Core.Path.{◌≡◌, ◌∙◌, refl, ap}
use mathlib.Core.Bool.{Bool, true, false}
use mathlib.Core.List.Memᴰ
use mathlib.Core.List.{List, [], ◌∷◌, ◌++◌, Memᴰ}
use mathlib.Core.Logic.{⊎_elim}
use mathlib.Core.Option.{Option, none, some}
use Prim.Native.Nat.{ℕ, suc, ◌≤◌, ◌<◌}
use native.Mathlib.Omega.{arith}
use borrow.Author.Tests.{eqb-true, eqb-false}
use Rattle.groups.specs.Answer.{pick}
use Rattle.rows.specs.records.Buffers.{h4_of}
use Rattle.theory_readings.specs.Tokens.{count_of}
use Rattle.theory_readings.specs.Readings.{Block, Passes, Ask, flag, count, passes_in, asks_of, asks_of_passes, row_at, Meets, AllMet}
use Rattle.theory_readings.specs.Answers.{row_asked, LowestWrong}
use Rattle.theory_readings.specs.ways.Parser.{is_met, or_else, first_wrong}
use Rattle.theory_readings.proofs.AskOrder.{Ascending}

-- the test decides
met : (rows : List (List ℕ)) (a : Ask) → is_met rows a ≡ true → Meets rows a
unfolding is_met Meets
met rows (flag row value) e = eqb-true (h4_of (row_at rows row)) value e
met rows (count row value) e = eqb-true (count_of (row_at rows row)) value e

not-met : (rows : List (List ℕ)) (a : Ask) → is_met rows a ≡ false → ¬ Meets rows a
unfolding is_met Meets
not-met rows (flag row value) e = eqb-false (h4_of (row_at rows row)) value e
not-met rows (count row value) e = eqb-false (count_of (row_at rows row)) value e

-- an ask behind others has a higher row
asked-from : (l : List Ask) (n : ℕ) (a : Ask) → Ascending n l → Memᴰ a l → n ≤ row_asked a
unfolding Ascending
asked-from [] n a h m = absurd (Memᴰ.not-nil m)
asked-from (x ∷ l) n a h m =
    ⊎_elim (λ e. rw e h.0) (λ k. omega (arith, asked-from l (suc (row_asked x)) a h.1 k, h.0)) (Memᴰ.cases_cons m)

-- what is found is right: nothing where all is met, else the lowest wrong row
abbrev pub Found : (rows : List (List ℕ)) → List Ask → Option ℕ → Type 0
Found rows l none = AllMet rows l
Found rows l (some n) = LowestWrong rows l n

found-met : (rows : List (List ℕ)) (a : Ask) (l : List Ask) (o : Option ℕ) → Meets rows a → Found rows l o → Found rows (a ∷ l) o
unfolding AllMet LowestWrong
found-met rows a l none h f = λ b m. ⊎_elim (λ e. rw e h) (λ k. f b k) (Memᴰ.cases_cons m)
found-met rows a l (some n) h f = (
  (f.0.0, Memᴰ.tail f.0.1, f.0.2, f.0.3),
  λ b m k. ⊎_elim (λ e. rw e h) (λ u. f.1 b u k) (Memᴰ.cases_cons m),
)

found-wrong : (rows : List (List ℕ)) (a : Ask) (l : List Ask) (n : ℕ) → Ascending n (a ∷ l) → ¬ Meets rows a → LowestWrong rows (a ∷ l) (row_asked a)
unfolding Ascending LowestWrong
found-wrong rows a l n h w = (
  (a, Memᴰ.head refl, refl, w),
  λ b m k. ⊎_elim (λ e. absurd (omega (arith, ap row_asked e))) (λ u. absurd (omega (arith, asked-from l (suc (row_asked a)) b h.1 u))) (Memᴰ.cases_cons m),
)

found-next : (rows : List (List ℕ)) (a : Ask) (l : List Ask) (n : ℕ) (t : Bool) (o : Option ℕ) → Ascending n (a ∷ l) → is_met rows a ≡ t → Found rows l o →
    Found rows (a ∷ l) (pick t o (some (row_asked a)))
found-next rows a l n true o h e f = found-met rows a l o (met rows a e) f
found-next rows a l n false o h e f = found-wrong rows a l n h (not-met rows a e)

pub found : (rows : List (List ℕ)) (l : List Ask) (n : ℕ) → Ascending n l → Found rows l (first_wrong rows l)
unfolding first_wrong Ascending AllMet
found rows [] n h = λ b m. absurd (Memᴰ.not-nil m)
found rows (a ∷ l) n h = found-next rows a l n (is_met rows a) (first_wrong rows l) h refl (found rows l (suc (row_asked a)) h.1)

-- only one is right
not_lower : (rows : List (List ℕ)) (l : List Ask) (m n : ℕ) → LowestWrong rows l m → LowestWrong rows l n → ¬ (m < n)
unfolding LowestWrong
not_lower rows l m n f g k = f.0.3 (g.1 f.0.0 f.0.1 (omega (arith, f.0.2)))

not-both : (rows : List (List ℕ)) (l : List Ask) (n : ℕ) → AllMet rows l → LowestWrong rows l n → ⊥
unfolding LowestWrong AllMet
not-both rows l n f g = g.0.3 (f g.0.0 g.0.1)

pub one_found : (rows : List (List ℕ)) (l : List Ask) (o o' : Option ℕ) → Found rows l o → Found rows l o' → o ≡ o'
one_found rows l none none f g = refl
one_found rows l none (some n) f g = absurd (not-both rows l n f g)
one_found rows l (some m) none f g = absurd (not-both rows l m g f)
one_found rows l (some m) (some n) f g = ap some (omega (arith, not_lower rows l m n f g, not_lower rows l n m g f))

-- what a tree asks in front of two lists
mutual
  unfolding asks_of

  pub asks_append : (b : Block) (g : ℕ) (x r : List Ask) → asks_of g b (x ++ r) ≡ asks_of g b x ++ r
  asks_append (Block.span n o) g x r = refl
  asks_append (Block.join n a b e) g x r =
      ap (asks_of 0 a) (asks_append b 0 (flag e g ∷ x) r) ∙ asks_append a 0 (asks_of 0 b (flag e g ∷ x)) r
  asks_append (Block.one k n a e) g x r = asks_append a 0 (flag e g ∷ x) r
  asks_append (Block.loop n p) g x r = ap (λ y. count n (passes_in p) ∷ y) (asks_passes-append p g x r)

  pub asks_passes-append : (p : Passes) (g : ℕ) (x r : List Ask) → asks_of_passes g p (x ++ r) ≡ asks_of_passes g p x ++ r
  asks_passes-append (Passes.ended a e) g x r = asks_append a 1 (flag e g ∷ x) r
  asks_passes-append (Passes.repeated a m p) g x r =
      ap (asks_of 1 a) (asks_passes-append p g x r) ∙ asks_append a 1 (asks_of_passes g p x) r

-- what is wrong in two lists is wrong in the first, or else in the second
else-pick : (t : Bool) (n : ℕ) (x y z : Option ℕ) → x ≡ or_else y z → pick t x (some n) ≡ or_else (pick t y (some n)) z
else-pick true n x y z e = e
else-pick false n x y z e = refl

pub wrong-append : (rows : List (List ℕ)) (l r : List Ask) → first_wrong rows (l ++ r) ≡ or_else (first_wrong rows l) (first_wrong rows r)
unfolding first_wrong
wrong-append rows [] r = refl
wrong-append rows (a ∷ l) r = else-pick (is_met rows a) (row_asked a) _ _ _ (wrong-append rows l r)
