-- What it takes to fill the ten tables of a file, and what they hold then.
use Rattle.std.specs.Prelude.{◌≡◌, ℕ, ◌-◌, ◌<◌, ◌≤◌, List, [], length, get_or}
use Rattle.std.proofs.lemmas.List.Edits.{sets as stored}
use Rattle.layout.specs.Rows.{joined}
use Rattle.b3d_spec_plain_rows.specs.Rows.{file_rows}

-- what `store_tables` asks of a file s, the row counts and the lengths `rooms` of the ten tables
pub record Fillable (s counts rooms : List ℕ) : Type 0 where
  -- places in the file fit a word
  pub small : length s < 0x100000000
  -- each count is that of the file's rows
  pub rows : (k : ℕ) → 1 ≤ k → k ≤ 10 → get_or counts (k - 1) 0 ≡ length (file_rows k s)
  -- each table has room for its rows
  pub room : (k : ℕ) → 1 ≤ k → k ≤ 10 → length (joined (file_rows k s)) ≤ get_or rooms (k - 1) 0

-- what `store_tables` promises of the ten tables before and after it
pub record Filled (s : List ℕ) (before after : List (List ℕ)) : Type 0 where
  -- table k holds its rows, then what stood there
  pub table : (k : ℕ) → 1 ≤ k → k ≤ 10 → get_or after (k - 1) [] ≡ stored (get_or before (k - 1) []) 0 (joined (file_rows k s))
