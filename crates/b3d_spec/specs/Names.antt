-- A scene with its names changed: name places left out, or each name empty.
use Rattle.std.specs.Prelude.{ℕ, List, [], ◌∷◌, map, drop, leb}
use Rattle.wire.specs.Test.{if}
use Rattle.layout.specs.Parts.{Name}
use Rattle.b3d_spec.specs.Scene.{Texture, Brush, Data, Forest, no_nodes, node, Scene}

-- a scene and its parts with each name changed by f
module _ (f : Name → Name) where
  -- texture t with its name changed
  abbrev pub rename_texture : Texture → Texture
  rename_texture t = record { name = f t.name; words = t.words }

  -- brush b with its name changed
  abbrev pub rename_brush : Brush → Brush
  rename_brush b = record { name = f b.name; words = b.words; ids = b.ids }

  -- a node's data d with its name changed
  abbrev pub rename_data : Data → Data
  rename_data d = record { name = f d.name; words = d.words; kind = d.kind; keys = d.keys; anim = d.anim }

  -- the nodes with each name changed
  abbrev pub rename_forest : Forest → Forest
  rename_forest no_nodes = no_nodes
  rename_forest (node d g h) = node (rename_data d) (rename_forest g) (rename_forest h)

  -- scene t with each name changed
  unfoldable pub rename : Scene → Scene
  rename t =
      record {
        version = t.version;
        textures = map rename_texture t.textures;
        slots = t.slots;
        brushes = map rename_brush t.brushes;
        nodes = rename_forest t.nodes;
      }

-- name n with its place left out
abbrev pub bare_name : Name → Name
bare_name n = record { place = 0; bytes = n.bytes }

-- the empty name for each name
abbrev pub no_name : Name → Name
no_name n = record { place = 0; bytes = [] }

-- scene t, name places aside
unfoldable pub without_places : Scene → Scene
without_places t = rename bare_name t

-- scene t with every name empty
unfoldable pub cleared : Scene → Scene
cleared t = rename no_name t

-- ---- the same in rows

-- the rows rs of table k, each changed by g where it begins with a name: in tables 1 to 3
unfoldable pub named : (List ℕ → List ℕ) → ℕ → List (List ℕ) → List (List ℕ)
named g k rs = if (leb k 3) (map g rs) rs

-- row r with 0 for its name's place
unfoldable pub unplaced : List ℕ → List ℕ
unplaced r = 0 ∷ drop 1 r

-- row r with 0 for its name's place and length
unfoldable pub unnamed : List ℕ → List ℕ
unnamed r = 0 ∷ 0 ∷ drop 2 r

-- row r without its name's place and length
unfoldable pub name_off : List ℕ → List ℕ
name_off r = drop 2 r
