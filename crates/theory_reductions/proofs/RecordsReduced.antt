-- A call record whose cells are read encodes the call that it encoded, and so do all records of a list.
use mathlib.Core.Path.{◌≡◌, ◌∙◌, refl, sym, ap}
use mathlib.Core.Bool.{Bool, true, false}
use mathlib.Core.List.{List, [], ◌∷◌, ◌++◌}
use Prim.Native.Nat.{ℕ, zero, suc, ◌+◌, ◌*◌, ◌%◌, ◌≤◌, ◌<◌}
use native.Mathlib.Omega.{arith}
use lib.Dec.{eqb}
use lib.ListN.{length, take, drop, get_or, length-append, length-take, length-drop}
use lib.Seq.{take_at, drop_at, drop-drop}
use Rattle.field.specs.Modulus.{P}
use Rattle.field.specs.Cells.{read, cell_at}
use Rattle.field.proofs.CellLaws.{read_twice}
use Rattle.groups.specs.Answer.{pick}
use Rattle.groups.specs.Words.{word_at}
use Rattle.rows.specs.records.CallRecords.{condition_in, callee_in, info_in, resume_in, respan_in, continuation_on, continuation_in, names_nothing, stored_in_record, system_in, stack_in, registers_in, finish_in, recorded_storing, call_in, record_at}
use Rattle.theory_reductions.specs.Inputs.{read_places, storing_cell, finish_cell, read_record, read_records}

-- ONE PLACE

zero-read : (t : Bool) → 0 ≡ pick t (read 0) 0
zero-read true = refl
zero-read false = refl

pub place_read : (is_cell : ℕ → Bool) (l : List ℕ) (i k : ℕ) → get_or (read_places is_cell i l) k 0 ≡ pick (is_cell (i + k)) (read (get_or l k 0)) (get_or l k 0)
unfolding read_places
place_read is_cell [] i k = zero-read (is_cell (i + k))
place_read is_cell (x ∷ l) i zero = let e : i + 0 ≡ i = omega arith in rw e
place_read is_cell (x ∷ l) i (suc k) = let e : i + suc k ≡ suc i + k = omega arith in rw e (place_read is_cell l (suc i) k)

pub places-length : (is_cell : ℕ → Bool) (l : List ℕ) (i : ℕ) → length (read_places is_cell i l) ≡ length l
unfolding read_places
places-length is_cell [] i = refl
places-length is_cell (x ∷ l) i = ap suc (places-length is_cell l (suc i))

-- a cell that is read or not is read as the same
picked : (t : Bool) (x : ℕ) → pick t (read x) x % P ≡ x % P
picked true x = read_twice x
picked false x = refl

module _ (is_cell : ℕ → Bool) (r : List ℕ) where
  abbrev given : List ℕ
  given = read_places is_cell 0 r

  pub cell_same : (k : ℕ) → cell_at given k ≡ cell_at r k
  unfolding cell_at
  cell_same k = rw (place_read is_cell r 0 k) (picked (is_cell (0 + k)) (get_or r k 0))

  word_same : (i : ℕ) → word_at given i ≡ word_at r i
  unfolding word_at
  word_same i = rw (cell_same i, cell_same (i + 1), cell_same (i + 2), cell_same (i + 3))

-- A STORING

module _ (r : List ℕ) where
  abbrev stored : List ℕ
  stored = read_places storing_cell 0 r

  continuation-same : continuation_in stored ≡ continuation_in r
  unfolding continuation_in continuation_on resume_in respan_in
  continuation-same = rw (place_read storing_cell r 0 1, place_read storing_cell r 0 2, place_read storing_cell r 0 3, place_read storing_cell r 0 4)

  nothing-same : names_nothing stored ≡ names_nothing r
  unfolding names_nothing
  nothing-same = rw (place_read storing_cell r 0 5, place_read storing_cell r 0 6, place_read storing_cell r 0 7, place_read storing_cell r 0 12)

  condition-same : condition_in stored ≡ condition_in r
  unfolding condition_in
  condition-same = rw (place_read storing_cell r 0 6)

  callee_same : callee_in stored ≡ callee_in r
  unfolding callee_in
  callee_same = rw (place_read storing_cell r 0 7, word_same storing_cell r 8)

  info-same : info_in stored ≡ info_in r
  unfolding info_in
  info-same = rw (place_read storing_cell r 0 12, place_read storing_cell r 0 13, cell_same storing_cell r 14)

  stored_same : stored_in_record stored ≡ stored_in_record r
  unfolding stored_in_record
  stored_same = rw (continuation-same, info-same, nothing-same, condition-same, callee_same, place_read storing_cell r 0 5)

-- A FINISH

module _ (r : List ℕ) where
  abbrev finished : List ℕ
  finished = read_places finish_cell 0 r

  system-same : system_in finished ≡ system_in r
  unfolding system_in
  system-same = rw (place_read finish_cell r 0 2, place_read finish_cell r 0 3, word_same finish_cell r 4)

  registers-same : registers_in finished ≡ registers_in r
  unfolding registers_in
  registers-same = rw (place_read finish_cell r 0 0, word_same finish_cell r 26, word_same finish_cell r 30)

  stack_same : (depth : ℕ) → stack_in finished depth ≡ stack_in r depth
  unfolding stack_in
  stack_same depth = simp (cell_same finish_cell r)

  finish-same : finish_in finished ≡ finish_in r
  unfolding finish_in
  finish-same = rw (system-same, registers-same, place_read finish_cell r 0 24, place_read finish_cell r 0 1) (simp stack_same)

-- A RECORD

by_first : (is_storing : Bool) (r : List ℕ) →
    pick is_storing (recorded_storing (stored_in_record (read_places (pick is_storing storing_cell finish_cell) 0 r))) (finish_in (read_places (pick is_storing storing_cell finish_cell) 0 r))
    ≡ pick is_storing (recorded_storing (stored_in_record r)) (finish_in r)
by_first true r = ap recorded_storing (stored_same r)
by_first false r = finish-same r

-- number 0 is a cell of neither
first-same : (is_storing : Bool) (r : List ℕ) → get_or (read_places (pick is_storing storing_cell finish_cell) 0 r) 0 0 ≡ get_or r 0 0
first-same true r = place_read storing_cell r 0 0
first-same false r = place_read finish_cell r 0 0

-- the call that a record encodes
pub call-reduced : (r : List ℕ) → call_in (read_record r) ≡ call_in r
unfolding call_in read_record
call-reduced r = rw (first-same (eqb (get_or r 0 0) 0) r) (by_first (eqb (get_or r 0 0) 0) r)

-- ALL RECORDS

record-length : (r : List ℕ) → length (read_record r) ≡ length r
unfolding read_record
record-length r = places-length (pick (eqb (get_or r 0 0) 0) storing_cell finish_cell) r 0

first-length : (records : List ℕ) → 32 ≤ length records → length (read_record (take 32 records)) ≡ 32
first-length records h = rw (record-length (take 32 records)) (simp length-take (omega arith))

pub records-length : (n : ℕ) (records : List ℕ) → 32 * n ≤ length records → length (read_records n records) ≡ length records
unfolding read_records
records-length zero records h = refl
records-length (suc n) records h =
    omega (arith, length-append (read_record (take 32 records)) (read_records n (drop 32 records)), first-length records (omega arith), records-length n (drop 32 records) (simp length-drop (omega arith)), length-drop 32 records)

-- record k of the list
pub record-reduced : (n k : ℕ) (records : List ℕ) → k < n → 32 * n ≤ length records → record_at (read_records n records) k ≡ read_record (record_at records k)
unfolding read_records record_at
record-reduced zero k records less h = absurd (omega arith)
record-reduced (suc n) zero records less h = take_at (read_record (take 32 records)) (read_records n (drop 32 records)) 32 (first-length records (omega arith))
record-reduced (suc n) (suc k) records less h =
    let more : List ℕ = read_records n (drop 32 records) in
    let e : 32 * suc k ≡ 32 + 32 * k = omega arith in
    let behind : drop (32 + 32 * k) (read_record (take 32 records) ++ more) ≡ drop (32 * k) more =
    sym (drop-drop (32 * k) 32 (read_record (take 32 records) ++ more)) ∙ ap (drop (32 * k)) (drop_at (read_record (take 32 records)) more 32 (first-length records (omega arith))) in
    rw (e, behind) (record-reduced n k (drop 32 records) (omega arith) (simp length-drop (omega arith)) ∙ ap (λ (l : List ℕ). read_record (take 32 l)) (drop-drop (32 * k) 32 records))
