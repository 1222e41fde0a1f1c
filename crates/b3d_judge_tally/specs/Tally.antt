-- What a part of a scene adds to the row counts and to the size of the copy.
use Rattle.std.specs.Prelude.{ℕ, zero, suc, ◌≤◌, ◌+◌, ◌*◌, List, [], ◌∷◌, length}
use Rattle.b3d_spec.specs.Scene.{Texture, Brush, TriangleSet, Mesh, Kind, pivot, mesh, bone, Keys, Anim, no_anim, anim, Data, Forest, no_nodes, node, Scene}
use Rattle.b3d_spec.specs.Rules.{vertex_words, key_words}
use Rattle.b3d_spec.specs.Parse.{Animation, Inner}
use Rattle.b3d_spec.specs.Tables.{rows}
use Rattle.b3d_spec.specs.Answers.{copy}
use Rattle.b3d_judge_tally.specs.declared.Tally.{Tally}

-- ---- tallies of rows; a chunk's bytes are its header, its fixed data and its items, names being empty

-- 0 rows and 0 bytes
unfoldable pub no_tally : Tally
no_tally = record { textures = 0; brushes = 0; nodes = 0; meshes = 0; vertices = 0; sets = 0; triangles = 0; weights = 0; lists = 0; keys = 0; copy = 0 }

-- n bytes of the copy, and no row
unfoldable pub bytes_tally : ℕ → Tally
bytes_tally n = record { textures = 0; brushes = 0; nodes = 0; meshes = 0; vertices = 0; sets = 0; triangles = 0; weights = 0; lists = 0; keys = 0; copy = n }

-- TEXS of n textures: header; for each the zero of a text, seven words. None without a texture
unfoldable pub texs_of : ℕ → Tally
texs_of zero = no_tally
texs_of (suc n) =
    record {
      textures = suc n;
      brushes = 0;
      nodes = 0;
      meshes = 0;
      vertices = 0;
      sets = 0;
      triangles = 0;
      weights = 0;
      lists = 0;
      keys = 0;
      copy = 8 + suc n * 29;
    }

-- BRUS of n brushes: header, n_texs; for each the zero of a text, seven words, `slots` ids. None without a brush
unfoldable pub brus_of : ℕ → ℕ → Tally
brus_of slots zero = no_tally
brus_of slots (suc n) =
    record {
      textures = 0;
      brushes = suc n;
      nodes = 0;
      meshes = 0;
      vertices = 0;
      sets = 0;
      triangles = 0;
      weights = 0;
      lists = 0;
      keys = 0;
      copy = 12 + suc n * (29 + 4 * slots);
    }

-- NODE without the chunks inside it: header, the zero of a text, ten words
unfoldable pub head_tally : Tally
head_tally = record { textures = 0; brushes = 0; nodes = 1; meshes = 0; vertices = 0; sets = 0; triangles = 0; weights = 0; lists = 0; keys = 0; copy = 49 }

-- MESH without its TRIS: header, brush; VRTS: header, three numbers, n vertices of `words` words
unfoldable pub vertices_tally : ℕ → ℕ → Tally
vertices_tally n words =
    record {
      textures = 0;
      brushes = 0;
      nodes = 0;
      meshes = 1;
      vertices = n;
      sets = 0;
      triangles = 0;
      weights = 0;
      lists = 0;
      keys = 0;
      copy = 32 + n * (4 * words);
    }

-- TRIS of n triangles: header, brush, three words a triangle
unfoldable pub triangles_tally : ℕ → Tally
triangles_tally n =
    record { textures = 0; brushes = 0; nodes = 0; meshes = 0; vertices = 0; sets = 1; triangles = n; weights = 0; lists = 0; keys = 0; copy = 12 + n * 12 }

-- BONE of n weights: header, two words a weight
unfoldable pub weights_tally : ℕ → Tally
weights_tally n =
    record { textures = 0; brushes = 0; nodes = 0; meshes = 0; vertices = 0; sets = 0; triangles = 0; weights = n; lists = 0; keys = 0; copy = 8 + n * 8 }

-- KEYS of n keys: header, flags, `words` words a key
unfoldable pub keys_tally : ℕ → ℕ → Tally
keys_tally n words =
    record {
      textures = 0;
      brushes = 0;
      nodes = 0;
      meshes = 0;
      vertices = 0;
      sets = 0;
      triangles = 0;
      weights = 0;
      lists = 1;
      keys = n;
      copy = 12 + n * (4 * words);
    }

-- the sum of the tallies a and b, count by count
unfoldable pub plus : Tally → Tally → Tally
plus a b =
    record {
      textures = a.textures + b.textures;
      brushes = a.brushes + b.brushes;
      nodes = a.nodes + b.nodes;
      meshes = a.meshes + b.meshes;
      vertices = a.vertices + b.vertices;
      sets = a.sets + b.sets;
      triangles = a.triangles + b.triangles;
      weights = a.weights + b.weights;
      lists = a.lists + b.lists;
      keys = a.keys + b.keys;
      copy = a.copy + b.copy;
    }

-- ---- tallies of the parts of a scene

-- what the key list k adds
unfoldable pub list_tally : Keys → Tally
list_tally k = keys_tally (length k.items) (key_words k.flags)

-- what key lists add together
unfoldable pub lists_tally : List Keys → Tally
lists_tally [] = no_tally
lists_tally (k ∷ l) = plus (list_tally k) (lists_tally l)

-- what an ANIM adds: header and three words, no row; nothing where there is none
unfoldable pub anim_tally : Anim → Tally
anim_tally no_anim = no_tally
anim_tally (anim ws) = bytes_tally 20

-- what the KEYS and ANIM of a node add
unfoldable pub animation_tally : Animation → Tally
animation_tally m = plus (lists_tally m.keys) (anim_tally m.anim)

-- what a BONE with the weights ws adds
unfoldable pub bone_tally : List (List ℕ) → Tally
bone_tally ws = weights_tally (length ws)

-- what the triangle set x adds
unfoldable pub set_tally : TriangleSet → Tally
set_tally x = triangles_tally (length x.triangles)

-- what triangle sets add together
unfoldable pub sets_tally : List TriangleSet → Tally
sets_tally [] = no_tally
sets_tally (x ∷ l) = plus (set_tally x) (sets_tally l)

-- what the mesh m adds
unfoldable pub mesh_tally : Mesh → Tally
mesh_tally m = plus (vertices_tally (length m.vertices) (vertex_words m.flags m.sets m.size)) (sets_tally m.triangle_sets)

-- what a node's kind adds; nothing for a pivot
unfoldable pub kind_tally : Kind → Tally
kind_tally pivot = no_tally
kind_tally (mesh m) = mesh_tally m
kind_tally (bone ws) = bone_tally ws

-- what a node with data d adds, without the nodes below it
unfoldable pub data_tally : Data → Tally
data_tally d = plus (plus head_tally (kind_tally d.kind)) (plus (lists_tally d.keys) (anim_tally d.anim))

-- what the nodes of a forest add, at all depths
unfoldable pub forest_tally : Forest → Tally
forest_tally no_nodes = no_tally
forest_tally (node d f g) = plus (plus (data_tally d) (forest_tally f)) (forest_tally g)

-- what a node with the nodes below it adds
unfoldable pub inner_tally : Inner → Tally
inner_tally x = plus (data_tally x.self) (forest_tally x.below)

-- what textures add; without one there is no TEXS
unfoldable pub texs_tally : List Texture → Tally
texs_tally l = texs_of (length l)

-- what brushes with `slots` texture ids each add; without one there is no BRUS
unfoldable pub brus_tally : ℕ → List Brush → Tally
brus_tally slots l = brus_of slots (length l)

-- what a scene adds up to: BB3D's header and version, TEXS, BRUS, NODE
unfoldable pub scene_tally : Scene → Tally
scene_tally t = plus (plus (plus (bytes_tally 12) (texs_tally t.textures)) (brus_tally t.slots t.brushes)) (forest_tally t.nodes)

-- the ten row counts of scene t, and the size of its copy
abbrev pub tally_of : Scene → Tally
tally_of t = record {
  textures = length (rows 1 t);
  brushes = length (rows 2 t);
  nodes = length (rows 3 t);
  meshes = length (rows 4 t);
  vertices = length (rows 5 t);
  sets = length (rows 6 t);
  triangles = length (rows 7 t);
  weights = length (rows 8 t);
  lists = length (rows 9 t);
  keys = length (rows 10 t);
  copy = length (copy t);
}

-- ---- bounds

-- a tally t of at most n bytes of a file
pub record Within (t : Tally) (n : ℕ) : Type 0 where
  -- a row takes at least four bytes of a file, so there are at most n / 4 rows
  pub rows : 4 * (t.textures + t.brushes + t.nodes + t.meshes + t.vertices + t.sets + t.triangles + t.weights + t.lists + t.keys) ≤ n
  -- the copy is no longer than what was read
  pub copy : t.copy ≤ n
