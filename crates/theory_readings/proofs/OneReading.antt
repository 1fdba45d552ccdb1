-- A trace has exactly one reading.
use mathlib.Core.Path.{◌≡◌, ◌∙◌, sym}
use mathlib.Core.List.{List, []}
use Prim.Native.Nat.{ℕ, max}
use native.Mathlib.Omega.{arith}
use Rattle.rows.specs.declared.records.profile.Profile.{Profile}
use Rattle.theory_readings.specs.Tokens.{Token, tokens_of}
use Rattle.theory_readings.specs.Readings.{Block, Row, spell, WordOf, depth_of, Reading, all_rows, Trace}
use Rattle.theory_readings.specs.ways.Parser.{need, live, done, parse}
use Rattle.theory_readings.proofs.Parses.{parse-done}

-- what two trees spell, whatever follows, is equal only if the trees are, and what follows
pub one-tree : (b b' : Block) (r r' : List Row) → spell b r ≡ spell b' r' → (b ≡ b') × (r ≡ r')
one-tree b b' r r' e =
    let d : ℕ = max (depth_of b) (depth_of b') in
    let p : parse (spell b r) (live (need d [])) ≡ done b r = parse-done b d r (omega arith) in
    let q : parse (spell b' r') (live (need d [])) ≡ done b' r' = parse-done b' d r' (omega arith) in
    let s : done b r ≡ done b' r' = cc in
    (cc, cc)

pub one_word : (w : List Token) (b b' : Block) → WordOf w b → WordOf w b' → b ≡ b'
unfolding WordOf
one_word w b b' x y = (one-tree b b' x.0 y.0 (sym x.1 ∙ y.1)).0

-- a trace has exactly one reading
pub one_reading : (p : Profile) (cells : List ℕ) (b b' : Block) → Trace p cells b → Trace p cells b' → b ≡ b'
unfolding Trace Reading
one_reading p cells b b' x y = one_word (tokens_of p (all_rows cells)) b b' x.1.0 y.1.0
