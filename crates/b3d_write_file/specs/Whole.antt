-- Tables that are those of a scene, and what the functions that write its file promise.
use Rattle.std.specs.Prelude.{◌≡◌, ℕ, ◌/◌, ◌<◌, ◌≤◌, List, [], ◌++◌, map, length}
use Rattle.std.proofs.Math.Option.{none}
use Rattle.layout.specs.Rules.{NONE}
use Rattle.layout.specs.Lists.{All}
use Rattle.shared_output.specs.Writing.{Room, Put}
use Rattle.b3d_spec.specs.Encode.{node_chunks, texture_chunks, brush_chunks}
use Rattle.b3d_spec.specs.Rebuild.{Rows, texture_from, brush_from, node_names}
use Rattle.b3d_spec.specs.Rules.{levels, most_slots}
use Rattle.b3d_spec.specs.Scene.{Forest, Scene}
use Rattle.b3d_spec.specs.Tables.{start, forest_rows, node_tables, texture_width, brush_width}
use Rattle.b3d_spec.specs.Tags.{write_chunks}
use Rattle.b3d_spec.specs.Fitting.{FitNodes, OneRoot, Stands}
use Rattle.b3d_write_row_runs.specs.Lent.{rows_in}
use Rattle.b3d_write_materials.specs.Lists.{textures_bytes, brushes_bytes}
use Rattle.b3d_write_materials.specs.Named.{NamesThere}

-- ---- the nodes

-- R are the rows of the nodes f, beside b brushes, with names in ns
pub record OfNodes (ns : List ℕ) (R : Rows) (b : ℕ) (f : Forest) : Type 0 where
  -- each of tables 3 to 10 has just their rows
  pub rows : All (λ k. R k ≡ forest_rows k f NONE start) node_tables
  -- they keep the rules
  pub fits : FitNodes levels b none f
  -- there is at most one root
  pub root : OneRoot f
  -- their names are in ns
  pub names : All (Stands ns) (node_names f [])

-- ---- textures, brushes and nodes

-- the TEXS and BRUS of the rows of tables 1 and 2, with names in ns
unfoldable pub lists_bytes : List ℕ → ℕ → List ℕ → List ℕ → List ℕ
lists_bytes ns slots t₁ t₂ = textures_bytes ns (rows_in texture_width t₁) ++ brushes_bytes ns slots (rows_in brush_width t₂)

-- the chunks inside the BB3D of a scene t: TEXS, BRUS and NODE
unfoldable pub all_bytes : Scene → List ℕ
all_bytes t = write_chunks (texture_chunks t.textures (brush_chunks t.slots t.brushes (node_chunks t.nodes)))

-- table 2 and the rows R of the tables after it are those of a scene t, with names in ns
pub record OfRest (ns t₂ : List ℕ) (R : Rows) (slots : ℕ) (t : Scene) : Type 0 where
  -- table 2 has its brushes
  pub brushes : map (brush_from ns slots) (rows_in brush_width t₂) ≡ t.brushes
  -- their names are in ns
  pub there : NamesThere ns (rows_in brush_width t₂)
  -- n_texs is at most 8
  pub few : slots ≤ most_slots
  -- n_texs is the scene's
  pub slots_are : t.slots ≡ slots
  -- R are the rows of its nodes
  pub nodes : OfNodes ns R (length t₂ / brush_width) t.nodes

-- all ten tables are those of a scene t, with names in ns
pub record OfAll (ns t₁ t₂ : List ℕ) (R : Rows) (slots : ℕ) (t : Scene) : Type 0 where
  -- table 1 has its textures
  pub textures : map (texture_from ns) (rows_in texture_width t₁) ≡ t.textures
  -- their names are in ns
  pub there : NamesThere ns (rows_in texture_width t₁)
  -- the other tables are the scene's too
  pub rest : OfRest ns t₂ R slots t

-- the version and all ten tables are those of a scene t, with names in ns
pub record OfScene (ns t₁ t₂ : List ℕ) (R : Rows) (version slots : ℕ) (t : Scene) : Type 0 where
  -- the version is the scene's
  pub version_is : t.version ≡ version
  -- the tables are the scene's
  pub all : OfAll ns t₁ t₂ R slots t

-- ---- what is asked, and what is left

-- what a function that writes asks: there is something that `Is` holds of, and room for it
pub record Some {A : Type 0} (Is : A → Type 0) (w : A → List ℕ) (out : List ℕ) : Type 0 where
  -- that which is written
  pub value : A
  -- `Is` holds of it
  pub is : Is value
  -- its bytes w have room in the output
  pub room : Room (w value) out

-- what a function that writes promises of the output before it (out) and after it (put) and of the size
pub record Each {A : Type 0} (Is : A → Type 0) (w : A → List ℕ) (out put : List ℕ) (size : ℕ) : Type 0 where
  -- the size fits a word
  pub small : size < 4294967296
  -- of whatever `Is` holds of and has room, the bytes w are written, and `size` is their length
  pub bytes : (a : A) → Is a → Room (w a) out → Put (w a) out put size
