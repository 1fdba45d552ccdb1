-- A table of counts, its keys in order: one more for a key, and the flagged ENDs row by row.
use mathlib.Core.Path.{◌≡◌, refl, sym, ◌∙◌, ap}
use mathlib.Core.Bool.{true, false}
use mathlib.Core.List.{List}
use Prim.Native.Nat.{ℕ, zero, suc, ◌+◌, ◌≤◌, ◌<◌}
use native.Mathlib.Omega.{arith}
use native.Mathlib.Decide.{ℕ_discrete}
use lib.ListN.{length, get_or, set, replicate}
use lib.Seq.{get_or-set_same, get_or-set_other}
use Rattle.rows.specs.ways.Order.{hit, occurrences, Ordered, Lower}
use Rattle.rows.proofs.records.Occurrences.{hit_same, hit_other}
use Rattle.rows.proofs.sorted.Search.{lower-unique, found_inside, found-is}
use Rattle.rows.specs.declared.records.profile.Profile.{Profile}
use Rattle.rows.specs.passes.Passes.{flagged_end}
use Rattle.rows.specs.records.Buffers.{buffer_row}
use Rattle.rows.specs.ways.LoopCounts.{next_addr, ends_in, Tallied, Bumped}
use Rattle.rows.proofs.passes.RowsFrom.{ends_more, ends-one}

module _ (keys counts : List ℕ) (x at : ℕ) (place : Lower keys x at) where
  module _ (fits : at < length counts) where
    plus : List ℕ
    plus = set counts at (get_or counts at 0 + 1)

    plus-more : (count : ℕ → ℕ) → Tallied keys counts count → (y r : ℕ) → Lower keys y r → r < length keys → get_or keys r 0 ≡ y → x ≡ get_or keys at 0 → Dec (r ≡ at) → get_or plus r 0 ≡ count y + hit x y
    unfolding plus
    plus-more count t y r u l e f (yes d) =
        let s : x ≡ y = f ∙ ap (λ k. get_or keys k 0) (sym d) ∙ e in
        rw (d, get_or-set_same counts at (get_or counts at 0 + 1) 0 fits, hit_same x y s) (rw d at (ap (λ n. n + 1) (t y r u l e)))
    plus-more count t y r u l e f (no d) =
        rw (get_or-set_other counts at r (get_or counts at 0 + 1) 0 d, hit_other x y (λ s. d (lower-unique keys y r at u (rw s at place)))) (omega (arith, t y r u l e))

    plus-small : (p : ℕ) → Dec (p ≡ at) → get_or plus p 0 ≤ get_or counts p 0 + 1
    unfolding plus
    plus-small p (yes d) = rw (d, get_or-set_same counts at (get_or counts at 0 + 1) 0 fits) (omega arith)
    plus-small p (no d) = rw (get_or-set_other counts at p (get_or counts at 0 + 1) 0 d) (omega arith)

    -- x is a key, at its place
    pub bump-there : get_or keys at 0 ≡ x → Bumped keys x counts (set counts at (get_or counts at 0 + 1))
    unfolding plus
    bump-there f = record {
      more = λ count t y r u l e. plus-more count t y r u l e (sym f) (ℕ_discrete r at);
      small = λ p. plus-small p (ℕ_discrete p at);
    }

  -- x is no key
  pub bump-missing : (at < length keys → get_or keys at 0 ≡ x → ⊥) → Bumped keys x counts counts
  bump-missing n = record {
    more = λ count t y r u l e.
        rw (hit_other x y (λ s. let d : r ≡ at = lower-unique keys y r at u (rw s at place) in n (omega arith) (rw (← d, s) e))) (omega (arith, t y r u l e));
    small = λ p. omega arith;
  }

-- what is found under a key
pub count-found : (keys counts : List ℕ) (x at : ℕ) → Ordered keys → Lower keys x at → 0 < occurrences x keys → (count : ℕ → ℕ) → Tallied keys counts count → get_or counts at 0 ≡ count x
count-found keys counts x at o u s count t = t x at u (found_inside keys x at o u s) (found-is keys x at o u s)

-- no counts yet
abbrev pub zeros : (n : ℕ) → List ℕ
zeros n = replicate n 0

pub zero-at : (n r : ℕ) → get_or (zeros n) r 0 ≡ 0
zero-at zero r = refl
zero-at (suc n) zero = refl
zero-at (suc n) (suc r) = zero-at n r

pub tally-none : (p : Profile) (c : List ℕ) (keys : List ℕ) (n : ℕ) → Tallied keys (zeros n) (ends_in p (0 + 1) c)
tally-none p c keys n x r u l e = zero-at n r ∙ sym (ends-one p x c)

module _ (p : Profile) (c : List ℕ) (i : ℕ) (keys counts : List ℕ) where
  -- row i is a flagged END, and its address counted
  pub tally-more : (new : List ℕ) → flagged_end p (buffer_row i c) ≡ true → Bumped keys (next_addr i c) counts new → Tallied keys counts (ends_in p (i + 1) c) → Tallied keys new (ends_in p (i + 1 + 1) c)
  unfolding hit
  tally-more new f b t x r u l e = b.more (ends_in p (i + 1) c) t x r u l e ∙ sym (rw f at (ends_more p x i c))

  -- row i is none
  pub tally-skip : flagged_end p (buffer_row i c) ≡ false → Tallied keys counts (ends_in p (i + 1) c) → Tallied keys counts (ends_in p (i + 1 + 1) c)
  tally-skip f t x r u l e = omega (arith, t x r u l e, rw f at (ends_more p x i c))
