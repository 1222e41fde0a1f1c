-- What it takes to fill the six tables of a mesh, and what they hold then.
use Rattle.std.specs.Prelude.{◌≡◌, ℕ, ◌<◌, ◌≤◌, List, length}
use Rattle.std.proofs.lemmas.List.Edits.{sets as stored}
use Rattle.layout.specs.Rows.{joined}
use Rattle.cal3d_spec.specs.Tables.{mesh_rows}
use Rattle.cal3d_mesh_plain_spec.specs.Plain.{plain_mesh, mesh_end}
use Rattle.cal3d_mesh_fill.specs.declared.Place.{Place}

-- no more rows of each table come before a place than bytes do
pub record PlaceFit (m : Place) : Type 0 where
  pub vertices : m.vertices ≤ m.at
  pub maps : m.maps ≤ m.at
  pub influences : m.influences ≤ m.at
  pub springs : m.springs ≤ m.at
  pub faces : m.faces ≤ m.at

-- the words of table k, from the bytes of the file s
abbrev pub file_words : ℕ → List ℕ → List ℕ
file_words k s = joined (mesh_rows k (plain_mesh s))

-- the mesh stands whole in the file s, and tables of l1 to l6 words have room for its rows
pub record MeshFit (s : List ℕ) (l1 l2 l3 l4 l5 l6 : ℕ) : Type 0 where
  -- the file's length is a number of four bytes
  pub small : length s < 0x100000000
  -- the file has a header
  pub head : 12 ≤ length s
  -- the mesh ends in it
  pub within : mesh_end s ≤ length s
  -- room in table 1
  pub room1 : length (file_words 1 s) ≤ l1
  -- room in table 2
  pub room2 : length (file_words 2 s) ≤ l2
  -- room in table 3
  pub room3 : length (file_words 3 s) ≤ l3
  -- room in table 4
  pub room4 : length (file_words 4 s) ≤ l4
  -- room in table 5
  pub room5 : length (file_words 5 s) ≤ l5
  -- room in table 6
  pub room6 : length (file_words 6 s) ≤ l6

-- each of the tables t1 to t6 then has its rows, and after them what stood there: u1 to u6
pub record MeshFilled (s t1 t2 t3 t4 t5 t6 u1 u2 u3 u4 u5 u6 : List ℕ) : Type 0 where
  -- table 1
  pub rows1 : u1 ≡ stored t1 0 (file_words 1 s)
  -- table 2
  pub rows2 : u2 ≡ stored t2 0 (file_words 2 s)
  -- table 3
  pub rows3 : u3 ≡ stored t3 0 (file_words 3 s)
  -- table 4
  pub rows4 : u4 ≡ stored t4 0 (file_words 4 s)
  -- table 5
  pub rows5 : u5 ≡ stored t5 0 (file_words 5 s)
  -- table 6
  pub rows6 : u6 ≡ stored t6 0 (file_words 6 s)
