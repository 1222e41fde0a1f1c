-- The next rows of a table in two files.
use Rattle.std.specs.Prelude.{◌≡◌, ℕ, ◌+◌, ◌≤◌, Bool, List, length}
use Rattle.shared_output.proofs.PartLaws.{Both}
use Rattle.shared_put_or_count.specs.Emits.{Emits}
use Rattle.b3d_rows_nodes.specs.declared.RowCursor.{RowCursor}
use Rattle.b3d_rows.specs.NextRow.{rows_from, RowCursorAt}
use Rattle.b3d_compare_spec.specs.Changes.{table_changes}
use Rattle.b3d_compare_spec.specs.List.{list_bytes}
use Rattle.b3d_compare_next_rows.specs.declared.Turn.{Turn}

-- the entries of the rows from two places on, the first of them row r
unfoldable pub bytes_from : ℕ → List ℕ → List ℕ → ℕ → RowCursor → RowCursor → List ℕ
bytes_from k a b r x y = list_bytes (table_changes k a b r (rows_from k a x) (rows_from k b y))

-- n rows of each were passed: places x and y became x' and y', the rows p and q, into which words may have been read, p' and q'
pub record Onward (k : ℕ) (a b : List ℕ) (x y x' y' : RowCursor) (p q p' q' : List ℕ) (n : ℕ) : Type 0 where
  -- at least one
  pub some : 1 ≤ n
  -- both are places of their files
  pub first_at : RowCursorAt k a x'
  pub second_at : RowCursorAt k b y'
  -- n rows fewer are to come
  pub first_on : length (rows_from k a x) ≡ n + length (rows_from k a x')
  pub second_on : length (rows_from k b y) ≡ n + length (rows_from k b y')
  -- the rows to read into are as long as they were
  pub first_kept : length p' ≡ length p
  pub second_kept : length q' ≡ length q

-- the entries of some rows of both were put or counted from `at` on, and the places moved past these rows
pub record PutTurn (k r : ℕ) (a b : List ℕ) (x y : RowCursor) (p q p' q' : List ℕ) (wet : Bool) (xs : List ℕ) (at : ℕ) (ys : List ℕ) (t : Turn) : Type 0 where
  -- the rows that were passed
  pub on : Onward k a b x y t.first t.second p q p' q' t.rows
  -- their entries
  pub here : List ℕ
  -- these come first of what was to come
  pub is : Both (bytes_from k a b r x y) here (bytes_from k a b (r + t.rows) t.first t.second)
  -- and were put, or counted
  pub put : Emits wet here xs at ys t.next
