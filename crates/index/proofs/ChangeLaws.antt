-- What a row does to the open blocks, by its kind; and the start rows from a row on.
use mathlib.Core.Path.{◌≡◌, ◌∙◌, refl, sym}
use mathlib.Core.List.{List, [], ◌∷◌}
use types.Run.{OneOf}
use Prim.Native.Nat.{ℕ, ◌+◌, ◌≤◌, ◌<◌}
use native.Mathlib.Omega.{arith}
use lib.ListN.{length}
use Rattle.theory_readings.specs.Tokens.{Kind, Token, start, repeat, end, halt, nothing}
use Rattle.reader.specs.Rows.{row_kind_of, token_in}
use Rattle.reader.specs.ways.FromRow.{rows_from}
use Rattle.reader.specs.declared.token.RowKind.{RowKind}
use Rattle.reader.specs.declared.token.RowKind.TheVariants.{End}
use Rattle.reader.proofs.RowTokens.{tag, among, rows-cons, rows_none}
use Rattle.theory_indexes.specs.ways.IndexScan.{Change, begins, ends, stays, change_of, one_if_begins, starts}

began : (t : Token) → OneOf (0 ∷ 1 ∷ 2 ∷ 3 ∷ []) (tag (row_kind_of t)) → begins ≡ change_of t
unfolding change_of row_kind_of
began (start kind) h = refl
began (Token.op o) h = absurd (among 0 (1 ∷ 2 ∷ 3 ∷ []) 4 h)
began Token.respan h = absurd (among 0 (1 ∷ 2 ∷ 3 ∷ []) 5 h)
began repeat h = absurd (among 0 (1 ∷ 2 ∷ 3 ∷ []) 6 h)
began end h = absurd (among 0 (1 ∷ 2 ∷ 3 ∷ []) 7 h)
began halt h = absurd (among 0 (1 ∷ 2 ∷ 3 ∷ []) 8 h)
began nothing h = absurd (among 0 (1 ∷ 2 ∷ 3 ∷ []) 9 h)

stayed : (t : Token) → OneOf (4 ∷ 5 ∷ 6 ∷ 8 ∷ 9 ∷ []) (tag (row_kind_of t)) → stays ≡ change_of t
unfolding change_of row_kind_of
stayed (start Kind.span) h = absurd (among 4 (5 ∷ 6 ∷ 8 ∷ 9 ∷ []) 0 h)
stayed (start Kind.join) h = absurd (among 4 (5 ∷ 6 ∷ 8 ∷ 9 ∷ []) 1 h)
stayed (start (Kind.one k)) h = absurd (among 4 (5 ∷ 6 ∷ 8 ∷ 9 ∷ []) 2 h)
stayed (start Kind.loop) h = absurd (among 4 (5 ∷ 6 ∷ 8 ∷ 9 ∷ []) 3 h)
stayed (Token.op o) h = refl
stayed Token.respan h = refl
stayed repeat h = refl
stayed end h = absurd (among 4 (5 ∷ 6 ∷ 8 ∷ 9 ∷ []) 7 h)
stayed halt h = refl
stayed nothing h = refl

ended : (t : Token) → row_kind_of t ≡ End → ends ≡ change_of t
unfolding change_of row_kind_of
ended (start Kind.span) h = cc
ended (start Kind.join) h = cc
ended (start (Kind.one k)) h = cc
ended (start Kind.loop) h = cc
ended (Token.op o) h = cc
ended Token.respan h = cc
ended repeat h = cc
ended end h = refl
ended halt h = cc
ended nothing h = cc

module _ (t : Token) (k : RowKind) (e : k ≡ row_kind_of t) where
  pub begins-by : OneOf (0 ∷ 1 ∷ 2 ∷ 3 ∷ []) (tag k) → begins ≡ change_of t
  begins-by h = began t (rw e at h)

  pub ends_by : k ≡ End → ends ≡ change_of t
  ends_by h = ended t (sym e ∙ h)

  pub stays_by : OneOf (4 ∷ 5 ∷ 6 ∷ 8 ∷ 9 ∷ []) (tag k) → stays ≡ change_of t
  stays_by h = stayed t (rw e at h)

-- the start rows from a row on
pub starts-cons : (w : List Token) (i : ℕ) (c : Change) → i < length w → c ≡ change_of (token_in w i) → starts (rows_from w i) ≡ one_if_begins c + starts (rows_from w (i + 1))
unfolding starts
starts-cons w i c h e = rw (rows-cons w i h, e) refl

pub starts_none : (w : List Token) (i : ℕ) → length w ≤ i → starts (rows_from w i) ≡ 0
unfolding starts
starts_none w i h = rw (rows_none w i h) refl

pub at_most : (c : Change) → one_if_begins c ≤ 1
unfolding one_if_begins
at_most begins = omega arith
at_most ends = omega arith
at_most stays = omega arith
