-- The second pass, part by part: LOOP rows are taken some at a time, their successors' addresses are the keys of a table, and the table
-- holds the number of body ENDs of each.
use Rattle.std.specs.Prelude.{◌≡◌, Bool, true, List, ◌++◌, ℕ, ◌+◌, ◌-◌, ◌*◌, ◌≤◌, ◌<◌, eqb, length, take, drop, get_or}
use Rattle.groups.specs.Constants.{row_width, count_column}
use Rattle.rows.specs.ways.Order.{hit, occurrences, Ordered, Lower}
use Rattle.rows.specs.declared.records.profile.Profile.{Profile}
use Rattle.rows.specs.records.Buffers.{rows_of, buffer_row, flat, addr_of, opcode_of}
use Rattle.rows.specs.passes.Passes.{body_ends, with_counts, any_without_body}

-- of the first `rows` rows those from i on
unfoldable pub rows_from : (rows i : ℕ) → (buffer : List ℕ) → List (List ℕ)
rows_from rows i buffer = rows_of (rows - i) (drop (row_width * i) buffer)

-- a LOOP row
abbrev pub is_loop : Profile → List ℕ → Bool
is_loop p row = eqb (opcode_of row) p.loop_op

-- the address of the row behind row i
abbrev pub next_addr : (i : ℕ) → (buffer : List ℕ) → ℕ
next_addr i buffer = addr_of (buffer_row (i + 1) buffer)

-- the number of body ENDs by the LOOP successor's address
abbrev pub ends_in : Profile → (rows : ℕ) → (buffer : List ℕ) → ℕ → ℕ
ends_in p rows buffer = λ addr. body_ends p addr (rows_of rows buffer)

-- whether the count of a LOOP row from i on, but the last, comes to 0
abbrev pub lacks_from : Profile → (count : ℕ → ℕ) → (rows i : ℕ) → (buffer : List ℕ) → Bool
lacks_from p count rows i buffer = any_without_body p count (rows_from rows i buffer)

-- the buffer once the LOOP rows from i on have got their counts
unfoldable pub counted_from : Profile → (count : ℕ → ℕ) → (rows i : ℕ) → (buffer : List ℕ) → List ℕ
counted_from p count rows i buffer = take (row_width * i) buffer ++ flat (with_counts p count (rows_from rows i buffer)) ++ drop (row_width * rows) buffer

-- two buffers that differ in no cell before a row's group_count
pub record Alike (a b : List ℕ) : Type 0 where
  pub size : length a ≡ length b
  pub cells : (i k : ℕ) → k < count_column → get_or a (row_width * i + k) 0 ≡ get_or b (row_width * i + k) 0

-- the count of each key stands at the key's first place
abbrev pub Tallied : (keys counts : List ℕ) → (count : ℕ → ℕ) → Type 0
Tallied keys counts count = (x r : ℕ) → Lower keys x r → r < length keys → get_or keys r 0 ≡ x → get_or counts r 0 ≡ count x

-- counts with one more for the key x
pub record Bumped (keys : List ℕ) (x : ℕ) (old new : List ℕ) : Type 0 where
  pub more : (count : ℕ → ℕ) → Tallied keys old count → Tallied keys new (λ y. count y + hit x y)
  pub small : (p : ℕ) → get_or new p 0 ≤ get_or old p 0 + 1

-- the successors' addresses of the LOOP rows from `from` to `next` are keys
abbrev pub Held : Profile → (buffer : List ℕ) → (from next : ℕ) → (keys : List ℕ) → Type 0
Held p buffer from next keys = (j : ℕ) → from ≤ j → j < next → is_loop p (buffer_row j buffer) ≡ true → 0 < occurrences (next_addr j buffer) keys

-- LOOP rows taken from the row `from` on: `next` is behind the last of them, and `count` keys are in front of `keys`
pub record Took (p : Profile) (buffer : List ℕ) (rows from : ℕ) (keys : List ℕ) (count next : ℕ) : Type 0 where
  pub few : count ≤ 4096
  pub onward : from < next
  pub within : next < rows
  pub held : Held p buffer from next (take count keys)

-- a table that answers for the LOOP rows from `from` to `next`
pub record Table (p : Profile) (buffer : List ℕ) (rows from next : ℕ) (keys counts : List ℕ) : Type 0 where
  pub order : Ordered keys
  pub held : Held p buffer from next keys
  pub tallied : Tallied keys counts (ends_in p rows buffer)
