-- The nesting is a function of the calls: two proper derivations of one list of cycles give one tree.
use mathlib.Core.Path.{◌≡◌, ◌∙◌, sym}
use mathlib.Core.Bool.{Bool}
use mathlib.Core.List.{List, []}
use Prim.Native.Nat.{ℕ}
use Rattle.rows.specs.declared.records.profile.Profile.{Profile}
use Rattle.rows.specs.records.Forests.{Forest}
use Rattle.rows.specs.records.Addresses.{Queues}
use Rattle.rows.specs.declared.records.address_state.Cursor.{Cursor}
use Rattle.theory_readings.proofs.OneReading.{one-tree}
use Rattle.theory_runs.specs.Calls.{Fragment}
use Rattle.theory_runs.specs.Happened.{Cycle}
use Rattle.theory_runs.specs.ProperRuns.{Run, tree_from}
use Rattle.theory_runs.specs.Finished.{Runs, nesting}
use Rattle.theory_runs.proofs.Spelled.{at, rows_from, run-spell}

pub one-tree-ran : (p : Profile) {f f' : Forest} {id id' : ℕ} {body body' : Bool} {a a' b b' g g' : ℕ} {cycles rest rest' : List Cycle} (n : ℕ) (d : Run p f id body a b g cycles rest) (d' : Run p f' id' body' a' b' g' cycles rest') →
    (tree_from p n d).0 ≡ (tree_from p n d').0
one-tree-ran p {a = a} {a' = a'} {g = g} {g' = g'} {rest = rest} {rest' = rest'} n d d' =
    (one-tree (tree_from p n d).0 (tree_from p n d').0 (rows_from p [] (tree_from p n d).1 rest (at a g)) (rows_from p [] (tree_from p n d').1 rest' (at a' g'))
    (sym (run-spell p [] n (at 0 0) d) ∙ run-spell p [] n (at 0 0) d')).0

pub one-nesting : {p : Profile} {q : Queues} {size size' : ℕ} {fragments : List Fragment} {here : Cursor} (runs : Runs p q size fragments here) (runs' : Runs p q size' fragments here) → nesting runs ≡ nesting runs'
one-nesting {p} runs runs' = one-tree-ran p 0 runs.proper runs'.proper
