-- How many bytes rows of lent tables add to the size of the shortest file.
use Rattle.std.specs.Prelude.{◌≡◌, ℕ, ◌+◌, ◌*◌, ◌≤◌, List, [], ◌∷◌, get_or, eqb}
use Rattle.wire.specs.Test.{if}
use Rattle.b3d_spec.specs.Rules.{vertex_words, key_words, row_limit, highest_vertex_flags, most_sets, largest_set, highest_key_flags}
use Rattle.b3d_spec.specs.Tables.{node_width, mesh_width, key_list_width}
use Rattle.b3d_spec.specs.Columns as columns

-- what f gives for each row, added up
unfoldable pub sum : (List ℕ → ℕ) → List (List ℕ) → ℕ
sum f [] = 0
sum f (r ∷ rs) = f r + sum f rs

-- the length of the name of row r and `more` bytes
unfoldable pub named_bytes : ℕ → List ℕ → ℕ
named_bytes more r = get_or r columns.name_length 0 + more

-- the bytes of a NODE with row r without its MESH, weights and KEYS: header, text, zero, ten words; the header of a BONE; an ANIM
unfoldable pub node_bytes : List ℕ → ℕ
node_bytes r = get_or r columns.name_length 0 + 49 + if (eqb (get_or r columns.node_kind 0) 2) 8 0 + if (eqb (get_or r columns.node_anim 0) 1) 20 0

-- the bytes of a MESH with row r without its TRIS: header, brush; a VRTS: header, three numbers, vertices
unfoldable pub mesh_bytes : List ℕ → ℕ
mesh_bytes r = 32 + get_or r columns.mesh_vertices 0 * (4 * vertex_words (get_or r columns.mesh_flags 0) (get_or r columns.mesh_sets 0) (get_or r columns.mesh_set_size 0))

-- the bytes of a KEYS with row r: header, flags, keys
unfoldable pub list_bytes : List ℕ → ℕ
list_bytes r = 12 + get_or r columns.key_list_keys 0 * (4 * key_words (get_or r columns.key_list_flags 0))

-- the bytes that row r of table k adds: a node, a mesh, a key list, or in other tables a name and `more` bytes
unfoldable pub row_bytes : ℕ → ℕ → List ℕ → ℕ
row_bytes k more r = if (eqb k 3) (node_bytes r) (if (eqb k 4) (mesh_bytes r) (if (eqb k 9) (list_bytes r) (named_bytes more r)))

-- the bytes that rows of table k add
unfoldable pub rows_bytes : ℕ → ℕ → List (List ℕ) → ℕ
rows_bytes k more rs = sum (row_bytes k more) rs

-- the numbers of row r of table k are in the ranges that its size asks
pub record Sizable (k : ℕ) (r : List ℕ) : Type 0 where
  -- flags of a mesh
  pub flags : k ≡ 4 → get_or r columns.mesh_flags 0 ≤ highest_vertex_flags
  -- texture sets of a mesh
  pub sets : k ≡ 4 → get_or r columns.mesh_sets 0 ≤ most_sets
  -- the size of its texture sets
  pub size : k ≡ 4 → get_or r columns.mesh_set_size 0 ≤ largest_set
  -- flags of a key list
  pub keys : k ≡ 9 → get_or r columns.key_list_flags 0 ≤ highest_key_flags

-- more bytes than any row adds: a mesh counts fewer than 2^32 vertices, of 168 bytes at most
abbrev pub row_most : ℕ
row_most = 0x10000000000

-- no table adds more bytes than this
abbrev pub table_most : ℕ
table_most = row_limit * row_most

-- what a function that sizes a row promises of its answer r, w being the bytes that the row adds
pub record RowAdds (w r : ℕ) : Type 0 where
  -- it is the row's bytes
  pub is : r ≡ w
  -- it is not above the bound for a row
  pub low : r ≤ row_most

-- w is the width of the rows of table k, where that is 3, 4 or 9
pub record Wide (k w : ℕ) : Type 0 where
  -- the words of a node row
  pub nodes : k ≡ 3 → w ≡ node_width
  -- the words of a mesh row
  pub meshes : k ≡ 4 → w ≡ mesh_width
  -- the words of a key list's row
  pub lists : k ≡ 9 → w ≡ key_list_width

-- what a function that sizes rows promises of its answer r, w being the bytes that they add
pub record RowsAdd (most w r : ℕ) : Type 0 where
  -- it is the rows' bytes
  pub is : r ≡ w
  -- it is at most `most`
  pub low : r ≤ most
