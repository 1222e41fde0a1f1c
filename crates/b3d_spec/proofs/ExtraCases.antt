-- Worked files beside the starred ones, for what no law says and no starred file shows: a file with rows in all ten tables, and
-- refusals. Their lengths are counted here, so that only the contents are written out.
use mathlib.Core.Path.{◌≡◌, refl}
use Prim.Native.Nat.{ℕ, zero, suc, ◌*◌}
use mathlib.Core.List.{List, [], ◌∷◌, ◌++◌, map}
use lib.ListN.{length, replicate, take, drop, get_or}
use Rattle.layout.specs.Result.{Result, accept, reject}
use Rattle.layout.specs.Rules.{NONE}
use Rattle.layout.specs.Write.{write_words}
use Rattle.b3d_spec.specs.Colours.{coloured, passes}
use Rattle.b3d_spec.specs.declared.Mode.TheVariants.{Strict}
use Rattle.b3d_spec.specs.declared.Tag.{Tag}
use Rattle.b3d_spec.specs.declared.Tag.TheVariants.{BB3D, TEXS, BRUS, NODE, MESH, VRTS, TRIS, BONE, KEYS, ANIM}
use Rattle.b3d_spec.specs.Tags.{code}
use Rattle.b3d_spec.specs.Tables.{tables}
use Rattle.b3d_spec.specs.Scene.{Scene}
use Rattle.b3d_spec.specs.WellFormed.{fits}
use Rattle.b3d_spec.specs.Rebuild.{Lent, cut, lent_rows, has_counted_rows, name_from, texture_from, brush_from, owned_by, keys_from, anim_from, kind_from, data_from, off, groups, walk, tree, assembled, same, same_rows, node_names, names, stands, sound, rebuild}
use Rattle.b3d_spec.specs.Answers.{judge, read_answer, read_table, shortest, write, clear_output}
use Rattle.b3d_spec.proofs.Computing.{computing}
use Rattle.b3d_spec.proofs.Cases.{zeros}

-- ---- the parts of a file

-- words as bytes
abbrev pub ws : List ℕ → List ℕ
ws l = write_words l []

abbrev pub part : Tag → List ℕ → List ℕ
part t b = ws (code t ∷ length b ∷ []) ++ b

abbrev pub file : List ℕ → List ℕ
file b = part BB3D (ws (1 ∷ []) ++ b)

-- a node with this name, its ten floats 0, and then these chunks
abbrev pub a_node : List ℕ → List ℕ → List ℕ
a_node name b = part NODE (name ++ zeros 41 ++ b)

-- a mesh without a brush: a VRTS of plain vertices, a TRIS without a brush
abbrev a_mesh : List ℕ → List ℕ → List ℕ
a_mesh vertices ids = part MESH (ws (NONE ∷ []) ++ part VRTS (zeros 12 ++ ws vertices) ++ part TRIS (ws (NONE ∷ ids)))

-- ---- rows in all ten tables

-- one texture with this name
abbrev textures : List ℕ → List ℕ
textures name = part TEXS (name ++ 0 ∷ ws (1 ∷ 2 ∷ 3 ∷ 4 ∷ 5 ∷ 6 ∷ 7 ∷ []))

-- one brush without a name, with one texture
abbrev brushes : List ℕ
brushes = part BRUS (ws (1 ∷ []) ++ 0 ∷ ws (11 ∷ 12 ∷ 13 ∷ 14 ∷ 15 ∷ 16 ∷ 17 ∷ 0 ∷ []))

-- a vertex with a normal and one set of two; a triangle
abbrev kind : List ℕ
kind = part MESH (ws (0 ∷ []) ++ part VRTS (ws (1 ∷ 1 ∷ 2 ∷ 1 ∷ 2 ∷ 3 ∷ 4 ∷ 5 ∷ 6 ∷ 7 ∷ 8 ∷ [])) ++ part TRIS (ws (NONE ∷ 0 ∷ 0 ∷ 0 ∷ [])))

-- a frame and its rotation
abbrev keys : List ℕ
keys = part KEYS (ws (4 ∷ 5 ∷ 1 ∷ 2 ∷ 3 ∷ 4 ∷ []))

abbrev pub anim : List ℕ
anim = part ANIM (ws (9 ∷ 10 ∷ 11 ∷ []))

-- a bone with one weight; a bone without, and in it a mesh without vertices and a KEYS without keys
abbrev children : List ℕ
children = a_node [] (part BONE (ws (0 ∷ 6 ∷ []))) ++ a_node [] (part BONE [] ++ a_node [] (a_mesh [] [] ++ part KEYS (ws (0 ∷ []))))

-- the names are "t" and "r"; ANIM stands before KEYS
pub full : List ℕ
full = file (textures (116 ∷ []) ++ brushes ++ a_node (114 ∷ []) (kind ++ anim ++ keys ++ children))

-- no names, KEYS before ANIM
pub full-copy : List ℕ
full-copy = file (textures [] ++ brushes ++ a_node [] (kind ++ keys ++ anim ++ children))

pub full-read : read_answer Strict (λ k. 84) full ≡ record { number = 0; place = 0; version = 1; n_texs = 1; counts = 1 ∷ 1 ∷ 4 ∷ 2 ∷ 1 ∷ 2 ∷ 1 ∷ 1 ∷ 2 ∷ 1 ∷ [] }
unfolding computing full
full-read = refl

-- words of a node: name place and length, parent; ten zeros; then kind, first, count, ANIM and how many nodes are below it
abbrev node_words : List ℕ → List ℕ → List ℕ
node_words name kind = name ++ zeros 10 ++ kind

pub full-tables : map (λ k. read_table Strict k (λ j. 84) full []) tables
    ≡ (20 ∷ 1 ∷ 1 ∷ 2 ∷ 3 ∷ 4 ∷ 5 ∷ 6 ∷ 7 ∷ [])
    ∷ (62 ∷ 0 ∷ 11 ∷ 12 ∷ 13 ∷ 14 ∷ 15 ∷ 16 ∷ 17 ∷ 0 ∷ replicate 7 NONE)
    ∷ (node_words (103 ∷ 1 ∷ NONE ∷ []) (1 ∷ 0 ∷ 1 ∷ 1 ∷ 9 ∷ 10 ∷ 11 ∷ 3 ∷ []) ++ node_words (293 ∷ 0 ∷ 0 ∷ []) (2 ∷ 0 ∷ 1 ∷ zeros 5)
    ++ node_words (358 ∷ 0 ∷ 0 ∷ []) (2 ∷ 1 ∷ 0 ∷ zeros 4 ++ (1 ∷ [])) ++ node_words (415 ∷ 0 ∷ 2 ∷ []) (1 ∷ 1 ∷ 1 ∷ zeros 5))
    ∷ (0 ∷ 0 ∷ 1 ∷ 1 ∷ 2 ∷ 0 ∷ 1 ∷ 0 ∷ 1 ∷ 3 ∷ NONE ∷ 0 ∷ 0 ∷ 0 ∷ 1 ∷ 0 ∷ 1 ∷ 1 ∷ [])
    ∷ ((1 ∷ 2 ∷ 3 ∷ 4 ∷ 5 ∷ 6 ∷ zeros 4) ++ (7 ∷ 8 ∷ zeros 30))
    ∷ (0 ∷ NONE ∷ 0 ∷ 1 ∷ 1 ∷ NONE ∷ 1 ∷ 0 ∷ [])
    ∷ zeros 3
    ∷ (0 ∷ 6 ∷ [])
    ∷ (0 ∷ 4 ∷ 0 ∷ 1 ∷ 3 ∷ 0 ∷ 1 ∷ 0 ∷ [])
    ∷ ((5 ∷ zeros 6) ++ (1 ∷ 2 ∷ 3 ∷ 4 ∷ []))
    ∷ []
unfolding computing full
full-tables = refl

pub full-cleared : clear_output full (zeros (length full-copy)) ≡ full-copy
unfolding computing full full-copy
full-cleared = refl

-- ---- brushes with an empty layer

-- one brush without a name: n_texs, and then its texture ids
abbrev a_brush : List ℕ → List ℕ
a_brush slots = part BRUS (ws (take 1 slots) ++ zeros 29 ++ ws (drop 1 slots))

-- the first of two layers is empty
pub layers : List ℕ
layers = file (textures [] ++ a_brush (2 ∷ NONE ∷ 0 ∷ []))

abbrev brush_words : List ℕ → List ℕ
brush_words slots = (61 ∷ 0 ∷ zeros 7) ++ slots

pub layers_read : read_table Strict 2 (λ j. 80) layers [] ≡ brush_words (NONE ∷ 0 ∷ replicate 6 NONE)
unfolding computing layers
layers_read = refl

pub layers_cleared : clear_output layers (zeros (length layers)) ≡ layers
unfolding computing layers
layers_cleared = refl

-- the tables of such a file, with these slots
abbrev lent : List ℕ → Lent
lent slots = record {
  version = 1;
  slots = 2;
  count = λ k. get_or (0 ∷ 1 ∷ 1 ∷ []) k 0;
  words = λ k. get_or ([] ∷ (20 ∷ 0 ∷ 1 ∷ 2 ∷ 3 ∷ 4 ∷ 5 ∷ 6 ∷ 7 ∷ []) ∷ brush_words slots ∷ []) k [];
}

-- the writer: a slot below n_texs may be NONE or name a texture, those from n_texs on must be NONE
pub layers_written : map (λ slots. write Strict (lent slots) (zeros 61) 200) (
    (NONE ∷ 0 ∷ replicate 6 NONE)
    ∷ (NONE ∷ 1 ∷ replicate 6 NONE)
    ∷ (NONE ∷ 0xFFFFFFFE ∷ replicate 6 NONE)
    ∷ (NONE ∷ 0 ∷ 0 ∷ replicate 5 NONE)
    ∷ [])
    ≡ accept layers ∷ reject 12 0 ∷ reject 12 0 ∷ reject 12 0 ∷ []
unfolding computing write shortest rebuild coloured passes cut lent_rows has_counted_rows name_from texture_from brush_from walk tree assembled same same_rows node_names names stands sound fits layers
layers_written = refl

-- ---- how many nodes are below a node

-- three nodes, each in the one before
pub branch : List ℕ
branch = file (a_node [] (a_node [] (a_node [] [])))

pub branch_read : read_table Strict 3 (λ j. 84) branch []
    ≡ node_words (20 ∷ 0 ∷ NONE ∷ []) (zeros 7 ++ (2 ∷ [])) ++ node_words (69 ∷ 0 ∷ 0 ∷ []) (zeros 7 ++ (1 ∷ [])) ++ node_words (118 ∷ 0 ∷ 1 ∷ []) (zeros 8)
unfolding computing branch
branch_read = refl

-- the tables of such a file, with these words for how many are below
abbrev below : ℕ → ℕ → ℕ → Lent
below a b c = record {
  version = 1;
  slots = 0;
  count = λ k. get_or (0 ∷ 0 ∷ 0 ∷ 3 ∷ []) k 0;
  words = λ k. get_or ([] ∷ [] ∷ [] ∷ (node_words (20 ∷ 0 ∷ NONE ∷ []) (zeros 7 ++ (a ∷ [])) ++ node_words (69 ∷ 0 ∷ 0 ∷ []) (zeros 7 ++ (b ∷ [])) ++ node_words (118 ∷ 0 ∷ 1 ∷ []) (zeros 7 ++ (c ∷ []))) ∷ []) k [];
}

-- the writer: 12 where the children alone are counted, where the node itself is, or where it is any other number
pub branch_written : map (λ T. write Strict T (zeros 118) 200) (below 2 1 0 ∷ below 1 1 0 ∷ below 3 2 1 ∷ below 2 0 0 ∷ below 2 1 1 ∷ []) ≡ accept branch ∷ reject 12 0 ∷ reject 12 0 ∷ reject 12 0 ∷ reject 12 0 ∷ []
unfolding computing write shortest rebuild coloured passes cut lent_rows has_counted_rows name_from data_from kind_from keys_from anim_from owned_by off groups walk tree assembled same same_rows node_names names stands sound fits branch
branch_written = refl

-- ---- refusals

-- a mesh of one vertex
abbrev one : List ℕ
one = a_mesh (zeros 3) []

-- so many nodes one in the other, and this in the last
unfoldable pub deep : ℕ → List ℕ → List ℕ
deep zero b = b
deep (suc n) b = a_node [] (deep n b)

pub refusals : List (List ℕ × Result Scene)
refusals =
    -- a length that is not the file's
    (ws (code BB3D ∷ 5 ∷ 1 ∷ []), reject 2 4)
    -- TRIS before VRTS
    ∷ (file (a_node [] (part MESH (ws (NONE ∷ []) ++ part TRIS (ws (NONE ∷ []))))), reject 4 73)
    -- an ANIM of 13 bytes
    ∷ (file (a_node [] (part ANIM (zeros 13))), reject 5 69)
    -- a triangle that is cut and whose ids name nothing
    ∷ (file (a_node [] (a_mesh [] (9 ∷ 9 ∷ []))), reject 5 105)
    -- a texture id: past the textures; -2, behind a layer left empty
    ∷ (file (textures [] ++ a_brush (1 ∷ 1 ∷ [])), reject 7 90)
    ∷ (file (textures [] ++ a_brush (2 ∷ NONE ∷ 0xFFFFFFFE ∷ [])), reject 7 94)
    -- a vertex id of -1, of a triangle and of a weight
    ∷ (file (a_node [] (a_mesh (zeros 3) (0 ∷ 0 ∷ NONE ∷ []))), reject 7 125)
    ∷ (file (a_node [] (one ++ a_node [] (part BONE (ws (NONE ∷ 0 ∷ []))))), reject 7 174)
    -- the id is one of another mesh
    ∷ (file (a_node [] (one ++ a_node [] (a_mesh [] (zeros 3)))), reject 7 210)
    -- a bone: of the root; past the root's mesh; of another mesh than the root's
    ∷ (file (a_node [] (part BONE (zeros 8))), reject 7 69)
    ∷ (file (a_node [] (one ++ a_node [] (part BONE (ws (1 ∷ 0 ∷ []))))), reject 7 174)
    ∷ (file (a_node [] (a_mesh [] [] ++ a_node [] (one ++ a_node [] (part BONE (zeros 8))))), reject 7 267)
    -- the 17th level
    ∷ (file (deep 17 []), reject 9 796)
    -- at a header 3, 4, 9: a second TEXS whose length passes the end; a NODE in a MESH at the 16th level; a 17th level whose length passes the end
    ∷ (file (part TEXS [] ++ ws (code TEXS ∷ 9 ∷ [])), reject 3 20)
    ∷ (file (deep 16 (part MESH (ws (NONE ∷ []) ++ part NODE []))), reject 4 808)
    ∷ (file (deep 16 (ws (code NODE ∷ 1 ∷ []))), reject 3 796)
    -- in reading order: a brush id that names nothing, then a MESH without VRTS; a cut KEYS, then a flag out of range
    ∷ (file (a_node [] (part MESH (ws (0 ∷ [])))), reject 7 69)
    ∷ (file (a_node [] (part KEYS (1 ∷ []) ++ part KEYS (ws (8 ∷ [])))), reject 5 69)
    -- 9 sets; a set size of 5
    ∷ (file (a_node [] (part MESH (ws (NONE ∷ []) ++ part VRTS (ws (0 ∷ 9 ∷ 0 ∷ []))))), reject 6 85)
    ∷ (file (a_node [] (part MESH (ws (NONE ∷ []) ++ part VRTS (ws (0 ∷ 0 ∷ 5 ∷ []))))), reject 6 89)
    ∷ []

pub refused : map (λ (c : List ℕ × Result Scene). judge Strict c.0) refusals ≡ map (λ (c : List ℕ × Result Scene). c.1) refusals
unfolding computing refusals deep
refused = refl

-- ---- bones

-- a mesh of so many vertices
abbrev pub mesh_of : ℕ → List ℕ
mesh_of n = a_mesh (zeros (3 * n)) []

-- a node with a bone that names this vertex
abbrev pub a_bone : ℕ → List ℕ
a_bone id = a_node [] (part BONE (ws (id ∷ 0 ∷ [])))

-- a room with a mesh of one vertex and an ANIM; in it a door with a mesh of two, these chunks, and what is below it; and what is beside it
abbrev pub room : List ℕ → List ℕ → List ℕ → List ℕ
room moves below beside = file (a_node [] (mesh_of 1 ++ anim ++ a_node [] (mesh_of 2 ++ moves ++ below) ++ beside))

-- a root with this mesh and without an ANIM, and what is below it
abbrev still-root : ℕ → List ℕ → List ℕ
still-root n below = file (a_node [] (mesh_of n ++ below))

-- each file, and the number and place of its answer
pub bones : List (List ℕ × (ℕ × ℕ))
bones =
    -- below the door its mesh counts, beside it the room's
    (room anim (a_bone 1) (a_bone 0), (0, 0))
    ∷ (room anim (a_bone 2) [], (7, 331))
    ∷ (room anim [] (a_bone 1), (7, 331))
    -- ANIM after KEYS, and before
    ∷ (room (part KEYS (zeros 4) ++ anim) (a_bone 1) [], (0, 0))
    ∷ (room (anim ++ part KEYS (zeros 4)) (a_bone 1) [], (0, 0))
    -- an ANIM of a pivot: no vertex is right, and no weight names one
    ∷ (still-root 1 (a_node [] (anim ++ a_bone 0)), (7, 243))
    ∷ (still-root 1 (a_node [] (anim ++ a_node [] (part BONE []))), (0, 0))
    -- an ANIM two levels up, and a mesh without one between
    ∷ (still-root 1 (a_node [] (mesh_of 2 ++ anim ++ a_node [] (mesh_of 3 ++ a_bone 1))), (0, 0))
    ∷ (still-root 1 (a_node [] (mesh_of 2 ++ anim ++ a_node [] (mesh_of 3 ++ a_bone 2))), (7, 440))
    -- no ANIM: the root's mesh, not that of a node between
    ∷ (still-root 2 (a_node [] (mesh_of 1 ++ a_bone 1)), (0, 0))
    ∷ (still-root 1 (a_node [] (mesh_of 2 ++ a_bone 1)), (7, 291))
    -- a bone's own ANIM is not for itself, but for the bones below it
    ∷ (still-root 1 (a_node [] (part BONE (zeros 8) ++ anim)), (0, 0))
    ∷ (still-root 1 (a_node [] (part BONE (zeros 8) ++ anim ++ a_bone 0)), (7, 259))
    ∷ []

abbrev numbered : Result Scene → ℕ × ℕ
numbered (accept t) = (0, 0)
numbered (reject n p) = (n, p)

pub bones-judged : map (λ (c : List ℕ × (ℕ × ℕ)). numbered (judge Strict c.0)) bones ≡ map (λ (c : List ℕ × (ℕ × ℕ)). c.1) bones
unfolding computing bones
bones-judged = refl
