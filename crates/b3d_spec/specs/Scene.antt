-- A scene: what an accepted file holds, as a tree. Numbers are the file's 32-bit words; NONE is 0xFFFFFFFF.
use Rattle.std.specs.Prelude.{ℕ, List}
use Rattle.layout.specs.Parts.{Name}

-- a texture: its name, and seven words: flags, blend, position x y, scale x y, rotation
pub record Texture : Type 0 where
  pub name : Name
  pub words : List ℕ

-- a brush: its name, seven words, red green blue alpha, shininess, blend, fx, and then its n_texs texture ids
pub record Brush : Type 0 where
  pub name : Name
  pub words : List ℕ
  pub ids : List ℕ

-- a TRIS: its brush id, and three vertex ids for each triangle
pub record TriangleSet : Type 0 where
  pub brush : ℕ
  pub triangles : List (List ℕ)

-- a MESH: its brush id, the fixed data of its VRTS, its vertices and its TRIS. A vertex is its words in the file: those that flags, sets and set size say are
-- there
pub record Mesh : Type 0 where
  pub brush : ℕ
  pub flags : ℕ
  pub sets : ℕ
  pub size : ℕ
  pub vertices : List (List ℕ)
  pub triangle_sets : List TriangleSet

-- what a node is (01, table 3)
pub data Kind : Type 0 where
  -- kind 0: neither MESH nor BONE
  pivot : Kind
  -- kind 1: its MESH
  mesh : Mesh → Kind
  -- kind 2: the weights of its BONE, a vertex id and a weight each
  bone : List (List ℕ) → Kind

-- a KEYS: its flags and its keys. A key is its words in the file
pub record Keys : Type 0 where
  pub flags : ℕ
  pub items : List (List ℕ)

-- the ANIM of a node
pub data Anim : Type 0 where
  -- there is no ANIM
  no_anim : Anim
  -- its three values: flags, frames, fps
  anim : List ℕ → Anim

-- a node without its children: name, ten words (position, scale, rotation), kind, KEYS and ANIM
pub record Data : Type 0 where
  pub name : Name
  pub words : List ℕ
  pub kind : Kind
  pub keys : List Keys
  pub anim : Anim

-- nodes in file order
pub data Forest : Type 0 where
  -- no node
  no_nodes : Forest
  -- the first node, its children, its later siblings
  node : Data → Forest → Forest → Forest

-- what an accepted file holds; `slots`: n_texs, the texture ids of a brush, 0 where there is no brush; `nodes`: the root, if there is one
pub record Scene : Type 0 where
  pub version : ℕ
  pub textures : List Texture
  pub slots : ℕ
  pub brushes : List Brush
  pub nodes : Forest
