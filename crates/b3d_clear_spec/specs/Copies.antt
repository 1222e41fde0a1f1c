-- What the chunks of a file become in the copy, from their bytes alone: names and unknown chunks are left out; a chunk that holds only numbers stays as it
-- is. Chunks of one tag are taken in file order, wherever they stand among others.
use Rattle.std.specs.Prelude.{ℕ, zero, suc, ◌+◌, List, [], ◌∷◌, ◌++◌, length, replicate}
use Rattle.wire.specs.Test.{if}
use Rattle.wire.specs.Bytes.{bytes, word_at}
use Rattle.wire.specs.Cursors.{left}
use Rattle.wire.specs.declared.Cursor.{Cursor}
use Rattle.layout.specs.Chunks.{done, stop, chunk}
use Rattle.layout.specs.Result.{Result, accept, reject}
use Rattle.layout.specs.Parts.{Name, Step, row, number, named}
use Rattle.layout.specs.Rules.{any}
use Rattle.layout.specs.Write.{write_words}
use Rattle.b3d_spec.specs.Rules.{brushes_head, node_row, levels}
use Rattle.b3d_spec.specs.Tags.{Chunks, split, code, is}
use Rattle.b3d_spec.specs.declared.Tag.{Tag}
use Rattle.b3d_spec.specs.declared.Tag.TheVariants.{BB3D, TEXS, BRUS, NODE, MESH, VRTS, TRIS, BONE, KEYS, ANIM}

-- a chunk of these letters with the body b
abbrev pub chunk_of : ℕ → List ℕ → List ℕ
chunk_of letters b = bytes letters (bytes (length b) b)

-- what `one` makes of each chunk of tag k, by its header's place and its body, one after the other
unfoldable pub each : Tag → (ℕ → List ℕ → List ℕ) → Chunks → List ℕ
each k one done = []
each k one (stop n p) = []
each k one (chunk t p b r) = if (is t k) (one p b ++ each k one r) (each k one r)

-- the chunks that stand one after the other from the cursor c on
abbrev pub chunks_at : List ℕ → Cursor → Chunks
chunks_at s c = split c.at (left c s)

-- a chunk of tag k with the body b, whatever its place p
abbrev pub as_is : Tag → ℕ → List ℕ → List ℕ
as_is k p b = chunk_of (code k) b

-- ---- meshes

-- each VRTS and then each TRIS of the chunks cs, as they are
abbrev pub in_mesh : Chunks → List ℕ
in_mesh cs = each VRTS (as_is VRTS) cs ++ each TRIS (as_is TRIS) cs

-- a MESH by its fixed data: the brush, and the chunks inside; empty where the brush is cut
unfoldable pub mesh_of : Result (Step (List ℕ)) → List ℕ
mesh_of (accept h) = chunk_of (code MESH) (bytes (number h 0) (in_mesh (split h.place h.left)))
mesh_of (reject n p) = []

-- what the MESH with header place p and body b becomes
unfoldable pub mesh_copy : ℕ → List ℕ → List ℕ
mesh_copy p b = mesh_of (row (any ∷ []) (p + 8) b)

-- ---- items that are a text and words

-- an empty text, and the words ws
abbrev pub unnamed : List ℕ → List ℕ
unnamed ws = 0 ∷ write_words ws []

-- the item without its name, then what `rest` makes of what follows; empty where the item is not all there
unfoldable pub item_of : (ℕ → List ℕ → List ℕ) → Result (Step (Name × List ℕ)) → List ℕ
item_of rest (accept x) = unnamed x.value.1 ++ rest x.place x.left
item_of rest (reject n p) = []

-- the items of a text and `words` words in s, which begins at place p, without their names, up to the first that is not all there; at most f items
unfoldable pub unnamed_in : ℕ → ℕ → ℕ → List ℕ → List ℕ
unnamed_in zero words p s = []
unnamed_in (suc f) words p s = item_of (unnamed_in f words) (named (replicate words any) p s)

-- the items of a text and `words` words in s without their names, up to the first that is not all there; an item has at least one byte, so there are no more
-- items than bytes
unfoldable pub unnamed_items : ℕ → ℕ → List ℕ → List ℕ
unnamed_items words p s = unnamed_in (length s) words p s

-- w, if the first list has bytes for an item; else nothing
unfoldable pub if_any : List ℕ → List ℕ → List ℕ
if_any [] w = []
if_any (c ∷ s) w = w

-- what the TEXS with header place p and body b becomes; nothing where it has no item
unfoldable pub texs_copy : ℕ → List ℕ → List ℕ
texs_copy p b = if_any b (chunk_of (code TEXS) (unnamed_items 7 (p + 8) b))

-- a BRUS by its fixed data; nothing where n_texs is cut or out of range, or it has no item
unfoldable pub brus_of : Result (Step (List ℕ)) → List ℕ
brus_of (accept h) = if_any h.left (chunk_of (code BRUS) (bytes (number h 0) (unnamed_items (7 + number h 0) h.place h.left)))
brus_of (reject n p) = []

-- what the BRUS with header place p and body b becomes
unfoldable pub brus_copy : ℕ → List ℕ → List ℕ
brus_copy p b = brus_of (row brushes_head (p + 8) b)

-- ---- by its tag: what a chunk that is no NODE becomes

-- what a chunk becomes, by its tag, header's place and body; a NODE is taken as it is
abbrev pub part_copy : Tag → ℕ → List ℕ → List ℕ
part_copy BB3D = as_is BB3D
part_copy TEXS = texs_copy
part_copy BRUS = brus_copy
part_copy NODE = as_is NODE
part_copy MESH = mesh_copy
part_copy VRTS = as_is VRTS
part_copy TRIS = as_is TRIS
part_copy BONE = as_is BONE
part_copy KEYS = as_is KEYS
part_copy ANIM = as_is ANIM

-- ---- nodes: the kind, KEYS, ANIM, the nodes below

-- what the chunks cs inside a NODE become, but for the nodes below: each MESH, BONE, KEYS, ANIM, in this order
abbrev pub in_node : Chunks → List ℕ
in_node cs = each MESH mesh_copy cs ++ (each BONE (as_is BONE) cs ++ (each KEYS (as_is KEYS) cs ++ each ANIM (as_is ANIM) cs))

-- the body of a NODE without the nodes below it: an empty name, its words ws, and the chunks cs inside
abbrev pub own_copy : List ℕ → Chunks → List ℕ
own_copy ws cs = unnamed ws ++ in_node cs

-- a NODE by its text and words, the nodes below it as `one` makes them; nothing where text or words are cut
unfoldable pub node_of : (ℕ → List ℕ → List ℕ) → Result (Step (Name × List ℕ)) → List ℕ
node_of one (accept x) = chunk_of (code NODE) (own_copy x.value.1 (split x.place x.left) ++ each NODE one (split x.place x.left))
node_of one (reject n p) = []

-- what the NODE with header place p and body b becomes, with l levels left; nothing where none is left
unfoldable pub node_copy : ℕ → ℕ → List ℕ → List ℕ
node_copy zero p b = []
node_copy (suc l) p b = node_of (node_copy l) (named node_row (p + 8) b)

-- ---- the file

-- what the chunks cs inside BB3D become: each TEXS, BRUS, NODE, in this order
abbrev pub in_file : Chunks → List ℕ
in_file cs = each TEXS texs_copy cs ++ (each BRUS brus_copy cs ++ each NODE (node_copy levels) cs)

-- what the file s becomes, for an accepted file what 01 calls the copy: BB3D's header, its version, and the chunks inside
abbrev pub file_copy : List ℕ → List ℕ
file_copy s = chunk_of (code BB3D) (bytes (word_at s 8) (in_file (chunks_at s (record { at = 12; end = length s }))))
