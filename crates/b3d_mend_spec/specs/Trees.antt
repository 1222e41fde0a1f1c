-- What becomes of a MESH, of a NODE and of a file, from their bytes alone and without refusals: each chunk in its turn, as the mending read takes them.
use Rattle.std.specs.Prelude.{ℕ, zero, suc, ◌+◌, Bool, true, false, List, [], ◌∷◌, ◌++◌, length, drop}
use Rattle.std.proofs.Math.Option.{Option, none}
use Rattle.wire.specs.Bytes.{bytes}
use Rattle.wire.specs.Test.{if}
use Rattle.layout.specs.Chunks.{done, stop, chunk}
use Rattle.layout.specs.Result.{Result, accept, reject}
use Rattle.layout.specs.Parts.{Name, Step, words_of, row, number, named}
use Rattle.layout.specs.Write.{write_words, write_text}
use Rattle.b3d_spec.specs.declared.Mode.TheVariants.{Lenient}
use Rattle.b3d_spec.specs.Parse.{Vertices, read_vertices, read_textures}
use Rattle.b3d_spec.specs.Rules.{mesh_head, node_row, bone_limit, bone_limit_from, levels, header, file_head}
use Rattle.b3d_spec.specs.Scene.{Texture, Brush, Mesh}
use Rattle.b3d_spec.specs.Tags.{code, is, Chunks}
use Rattle.b3d_spec.specs.declared.Tag.TheVariants.{BB3D, TEXS, BRUS, NODE, MESH, VRTS, BONE, KEYS, ANIM}
use Rattle.b3d_mend_spec.specs.Edits.{Edit, keep, after, file_length}
use Rattle.b3d_mend_spec.specs.Mend.{Mended, mend_brushes, mend_mesh}
use Rattle.b3d_mend_spec.specs.Pieces.{pieces, chunks_of, woven}
use Rattle.b3d_mend_spec.specs.Walks.{word_edits, tris_edits, bone_edits, brus_edits}

-- ---- meshes

-- how many vertices a VRTS that was read has; 0 where it is refused
unfoldable pub vertices_of : Result Vertices → ℕ
vertices_of (accept v) = length v.items
vertices_of (reject n p) = 0

-- the bodies of TRIS chunks to the end, in a file with this number of `brushes` and a mesh with this number of `vertices`
unfoldable pub set_bodies : ℕ → ℕ → Chunks → List (List Edit)
set_bodies brushes vertices done = []
set_bodies brushes vertices (stop n p) = []
set_bodies brushes vertices (chunk t p b r) = tris_edits brushes vertices b ∷ set_bodies brushes vertices r

-- the bodies of the chunks inside a MESH: a VRTS as it stands, if it comes first, then TRIS
unfoldable pub mesh_bodies : ℕ → Chunks → List (List Edit)
mesh_bodies brushes done = []
mesh_bodies brushes (stop n p) = []
mesh_bodies brushes (chunk t p b r) =
    let first = (keep b ∷ []) ∷ set_bodies brushes (vertices_of (read_vertices Lenient p b)) r in
    if (is t VRTS) first (set_bodies brushes 0 (chunk t p b r))

-- the body b of a MESH whose header is at p, its brush id being -1 or below `brushes`
unfoldable pub mesh_edits : ℕ → ℕ → List ℕ → List Edit
mesh_edits brushes p b =
    word_edits (mesh_head brushes) (words_of 1 b) ++ woven (pieces (p + 8 + 4) (drop 4 b)) (mesh_bodies brushes (chunks_of (pieces (p + 8 + 4) (drop 4 b))))

-- ---- nodes

-- how many vertices a mesh has as it is mended; 0 where it is refused
unfoldable pub own_of : Result (Mended Mesh) → ℕ
own_of (accept m) = length m.value.vertices
own_of (reject n p) = 0

-- the bodies of NODE chunks to the end, each by `one`
unfoldable pub node_bodies : (ℕ → List ℕ → List Edit) → Chunks → List (List Edit)
node_bodies one done = []
node_bodies one (stop n p) = []
node_bodies one (chunk t p b r) = one p b ∷ node_bodies one r

-- the bodies of KEYS and ANIM as they stand, then of nodes by `one`, which depend on whether there was an ANIM (`moved` so far)
unfoldable pub move_bodies : (Bool → ℕ → List ℕ → List Edit) → Bool → Chunks → List (List Edit)
move_bodies one moved done = []
move_bodies one moved (stop n p) = []
move_bodies one moved (chunk t p b r) =
    let k = (keep b ∷ []) ∷ move_bodies one moved r in
    let a = (keep b ∷ []) ∷ move_bodies one true r in
    if (is t KEYS) k (if (is t ANIM) a (node_bodies (one moved) (chunk t p b r)))

-- the bodies of the chunks inside a NODE: a MESH or a BONE, if it comes first, then the others; the nodes, by `one`, depend on the node's own vertices too
unfoldable pub kind_bodies : ℕ → ℕ → (ℕ → Bool → ℕ → List ℕ → List Edit) → Chunks → List (List Edit)
kind_bodies brushes vertices one done = []
kind_bodies brushes vertices one (stop n p) = []
kind_bodies brushes vertices one (chunk t p b r) =
    let m = mesh_edits brushes p b ∷ move_bodies (one (own_of (mend_mesh brushes p b))) false r in
    let w = bone_edits vertices b ∷ move_bodies (one 0) false r in
    if (is t MESH) m (if (is t BONE) w (move_bodies (one 0) false (chunk t p b r)))

-- a NODE by its text and words that were read, then the chunks inside it; nothing where these are refused
unfoldable pub node_of : ℕ → ℕ → (ℕ → Bool → ℕ → List ℕ → List Edit) → Result (Step (Name × List ℕ)) → List Edit
node_of brushes vertices one (accept h) =
    keep (write_text h.value.0.bytes (write_words h.value.1 [])) ∷ woven (pieces h.place h.left) (kind_bodies brushes vertices one (chunks_of (pieces h.place h.left)))
node_of brushes vertices one (reject n p) = []

-- the body b of a NODE whose header is at p, with l levels left; `above`: how many vertices its bones may name, none for the root
unfoldable pub node_edits : ℕ → ℕ → Option ℕ → ℕ → List ℕ → List Edit
node_edits zero brushes above p b = []
node_edits (suc l) brushes above p b = node_of brushes (bone_limit above) (λ own moved. node_edits l brushes (bone_limit_from above moved own)) (named node_row (p + 8) b)

-- ---- the file

-- how many textures a TEXS that was read has; 0 where it is refused
unfoldable pub textures_of : Result (List Texture) → ℕ
textures_of (accept l) = length l
textures_of (reject n p) = 0

-- how many brushes a BRUS has as it is mended; 0 where it is refused
unfoldable pub brushes_of : Result (Mended (ℕ × List Brush)) → ℕ
brushes_of (accept m) = length m.value.1
brushes_of (reject n p) = 0

-- the body of the root NODE, if it comes first
unfoldable pub root_bodies : ℕ → Chunks → List (List Edit)
root_bodies brushes done = []
root_bodies brushes (stop n p) = []
root_bodies brushes (chunk t p b r) = if (is t NODE) (node_edits levels brushes none p b ∷ []) []

-- the bodies of a BRUS, if it comes first, and then of the root, in a file with this number of `textures`
unfoldable pub brus_bodies : ℕ → Chunks → List (List Edit)
brus_bodies textures done = []
brus_bodies textures (stop n p) = []
brus_bodies textures (chunk t p b r) =
    let first = brus_edits textures p b ∷ root_bodies (brushes_of (mend_brushes textures p b)) r in
    if (is t BRUS) first (root_bodies 0 (chunk t p b r))

-- the bodies of the chunks inside a BB3D: a TEXS as it stands, if it comes first, then a BRUS and the root
unfoldable pub texs_bodies : Chunks → List (List Edit)
texs_bodies done = []
texs_bodies (stop n p) = []
texs_bodies (chunk t p b r) =
    let first = (keep b ∷ []) ∷ brus_bodies (textures_of (read_textures p b)) r in
    if (is t TEXS) first (brus_bodies 0 (chunk t p b r))

-- BB3D's body by its version that was read; nothing where that is refused
unfoldable pub body_of : Result (Step (List ℕ)) → List Edit
body_of (accept h) = keep (bytes (number h 0) []) ∷ woven (pieces h.place h.left) (texs_bodies (chunks_of (pieces h.place h.left)))
body_of (reject n p) = []

-- a file by its header that was read; nothing where that is refused
unfoldable pub file_of : Result (Step (List ℕ)) → List Edit
file_of (accept h) =
    let x = body_of (row file_head h.place h.left) in
    keep (bytes (code BB3D) []) ∷ file_length (number h 1) (length h.left) (length (after x)) ∷ x
file_of (reject n p) = []

-- what becomes of the bytes of the file s
unfoldable pub file_edits : List ℕ → List Edit
file_edits s = file_of (row header 0 s)
