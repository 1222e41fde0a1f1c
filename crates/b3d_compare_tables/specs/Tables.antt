-- Two tables row by row.
use Rattle.std.specs.Prelude.{◌≡◌, ℕ, ◌<◌, ◌≤◌, List, [], length}
use Rattle.b3d_spec_plain_rows.specs.Flat.{flat_at}
use Rattle.b3d_spec_plain_rows.specs.Rows.{file_rows}
use Rattle.b3d_rows_nodes.specs.NextNode.{Shallow}
use Rattle.b3d_compare_spec.specs.Changes.{table_changes}
use Rattle.b3d_compare_spec.specs.List.{list_bytes}

-- a file whose table k has this number of rows, and whose nodes nest at most 16 deep
pub record Comparable (k rows : ℕ) (s : List ℕ) : Type 0 where
  -- the table is one of the ten
  pub low : 1 ≤ k
  pub high : k ≤ 10
  -- the file has its header and its version, and places of four bytes
  pub long : 12 ≤ length s
  pub small : length s < 0x100000000
  -- no node lies deeper
  pub deep : Shallow 0 [] (flat_at s 12)
  -- the number of its rows
  pub count : length (file_rows k s) ≡ rows

-- the entries of table k of two files
unfoldable pub table_bytes : ℕ → List ℕ → List ℕ → List ℕ
table_bytes k a b = list_bytes (table_changes k a b 0 (file_rows k a) (file_rows k b))
