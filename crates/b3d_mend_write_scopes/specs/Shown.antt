-- What a walk over a file shows of its mending, in the mended file or in the report, by the tag of each chunk and the scope that it stands in: on any
-- bytes, whatever chunks stand where.
use Rattle.std.specs.Prelude.{ℕ, zero, suc, ◌+◌, Bool, true, false, List, [], ◌∷◌, ◌++◌, length, drop, get_or}
use Rattle.wire.specs.Bytes.{bytes}
use Rattle.wire.specs.Test.{if}
use Rattle.layout.specs.Chunks.{done, stop, chunk}
use Rattle.layout.specs.Result.{Result, accept, reject}
use Rattle.layout.specs.Parts.{Name, Step, words_of, named}
use Rattle.layout.specs.Write.{write_words, write_text}
use Rattle.b3d_spec.specs.declared.Mode.TheVariants.{Lenient}
use Rattle.b3d_spec.specs.Parse.{read_vertices, read_textures, read_brushes}
use Rattle.b3d_spec.specs.Rules.{mesh_head, node_row}
use Rattle.b3d_spec.specs.Scene.{Brush}
use Rattle.b3d_spec.specs.Tags.{code, Chunks}
use Rattle.b3d_spec.specs.declared.Tag.{Tag}
use Rattle.b3d_spec.specs.declared.Tag.TheVariants.{BB3D, TEXS, BRUS, NODE, MESH, VRTS, TRIS, BONE, KEYS, ANIM}
use Rattle.b3d_mend_spec.specs.Edits.{keep, spare_out, file_length}
use Rattle.b3d_mend_spec.specs.Pieces.{Pieces, none_left, spare, past, other, known, pieces, chunks_of}
use Rattle.b3d_mend_spec.specs.Trees.{vertices_of, textures_of}
use Rattle.b3d_mend_spec.specs.Walks.{word_edits, tris_edits, bone_edits, brus_edits}
use Rattle.b3d_mend_write_spec.specs.Shown.{shown}
use Rattle.b3d_mend_judge_items.specs.Lax.{every}
use Rattle.b3d_mend_write_scopes.specs.declared.Scope.{Scope}

-- what a chunk's body shows, and what it counts: textures, brushes or vertices
pub record ChunkShown : Type 0 where
  pub bytes : List ℕ
  pub count : ℕ

abbrev pub walked : List ℕ → ℕ → ChunkShown
walked b n = record { bytes = b; count = n }

-- ---- scopes

-- behind a chunk of this tag with this count
unfoldable pub next_scope : Scope → Tag → ℕ → Scope
next_scope c BB3D n = c
next_scope c TEXS n = record { textures = n; brushes = c.brushes; top = c.top; root = c.root; bones = c.bones; own = c.own; told = c.told }
next_scope c BRUS n = record { textures = c.textures; brushes = n; top = c.top; root = c.root; bones = c.bones; own = c.own; told = c.told }
next_scope c NODE n = c
next_scope c MESH n =
    record { textures = c.textures; brushes = c.brushes; top = c.top; root = c.root; bones = c.bones; own = n; told = if c.root n c.told }
next_scope c VRTS n = record { textures = c.textures; brushes = c.brushes; top = c.top; root = c.root; bones = c.bones; own = n; told = c.told }
next_scope c TRIS n = c
next_scope c BONE n = c
next_scope c KEYS n = c
next_scope c ANIM n = record { textures = c.textures; brushes = c.brushes; top = c.top; root = c.root; bones = c.bones; own = c.own; told = c.own }

-- inside a NODE, inside a MESH
unfoldable pub node_scope : Scope → Scope
node_scope c = record { textures = c.textures; brushes = c.brushes; top = false; root = c.top; bones = c.told; own = 0; told = c.told }

unfoldable pub mesh_scope : Scope → Scope
mesh_scope c = record { textures = c.textures; brushes = c.brushes; top = false; root = false; bones = c.bones; own = 0; told = c.told }

-- ---- the chunks inside a chunk

-- what their bodies show, and the vertices of the mesh among them
pub record BodiesShown : Type 0 where
  pub bodies : List (List ℕ)
  pub own : ℕ

unfoldable pub walk_chunks : (Scope → Tag → ℕ → List ℕ → ChunkShown) → Scope → Chunks → BodiesShown
walk_chunks one c done = record { bodies = []; own = c.own }
walk_chunks one c (stop n p) = record { bodies = []; own = c.own }
walk_chunks one c (chunk t p b r) =
    let w = one c t p b in
    let x = walk_chunks one (next_scope c t w.count) r in
    record { bodies = w.bytes ∷ x.bodies; own = x.own }

-- a body that shows x, behind the chunk's header in the file
unfoldable pub headed : Bool → Tag → List ℕ → List ℕ
headed true t x = x
headed false t x = bytes (code t) (bytes (length x) x)

-- all of it, each known chunk's body as the next of the list says
unfoldable pub shown_pieces : Bool → Pieces → List (List ℕ) → List ℕ
shown_pieces report none_left xs = []
shown_pieces report (spare p s) xs = shown report p (spare_out s ∷ [])
shown_pieces report (past p s) xs = shown report p (keep s ∷ [])
shown_pieces report (other o r) xs = shown report 0 (keep o ∷ []) ++ shown_pieces report r xs
shown_pieces report (known t p b r) [] = []
shown_pieces report (known t p b r) (x ∷ xs) = headed report t x ++ shown_pieces report r xs

-- the chunks from place p on
unfoldable pub walk_inside : Bool → (Scope → Tag → ℕ → List ℕ → ChunkShown) → Scope → ℕ → List ℕ → ChunkShown
walk_inside report one c p s = let x = walk_chunks one c (chunks_of (pieces p s)) in walked (shown_pieces report (pieces p s) x.bodies) x.own

-- ---- chunks by their tags

unfoldable pub brush_count : Result (ℕ × List Brush) → ℕ
brush_count (accept x) = length x.1
brush_count (reject n p) = 0

-- a chunk that holds no chunks, with its header at p
unfoldable pub walk_leaf : Bool → Scope → Tag → ℕ → List ℕ → ChunkShown
walk_leaf report c TEXS p b = walked (shown report (p + 8) (keep b ∷ [])) (textures_of (read_textures p b))
walk_leaf report c BRUS p b = walked (shown report (p + 8) (brus_edits c.textures p b)) (brush_count (read_brushes Lenient every p b))
walk_leaf report c VRTS p b = walked (shown report (p + 8) (keep b ∷ [])) (vertices_of (read_vertices Lenient p b))
walk_leaf report c TRIS p b = walked (shown report (p + 8) (tris_edits c.brushes c.own b)) 0
walk_leaf report c BONE p b = walked (shown report (p + 8) (bone_edits c.bones b)) 0
walk_leaf report c BB3D p b = walked (shown report (p + 8) (keep b ∷ [])) 0
walk_leaf report c NODE p b = walked (shown report (p + 8) (keep b ∷ [])) 0
walk_leaf report c MESH p b = walked (shown report (p + 8) (keep b ∷ [])) 0
walk_leaf report c KEYS p b = walked (shown report (p + 8) (keep b ∷ [])) 0
walk_leaf report c ANIM p b = walked (shown report (p + 8) (keep b ∷ [])) 0

-- a NODE by its text and words, then the chunks inside
unfoldable pub walk_node : Bool → (Scope → Tag → ℕ → List ℕ → ChunkShown) → Scope → ℕ → List ℕ → Result (Step (Name × List ℕ)) → List ℕ
walk_node report one c p b (accept h) =
    shown report p (keep (write_text h.value.0.bytes (write_words h.value.1 [])) ∷ [])
    ++ (walk_inside report one (node_scope c) h.place h.left).bytes
walk_node report one c p b (reject n q) = shown report p (keep b ∷ [])

-- a chunk with its header at p, with the levels of chunks that are left
unfoldable pub walk_chunk : Bool → ℕ → Scope → Tag → ℕ → List ℕ → ChunkShown
walk_chunk report zero c t p b = walk_leaf report c t p b
walk_chunk report (suc l) c NODE p b = walked (walk_node report (walk_chunk report l) c (p + 8) b (named node_row (p + 8) b)) 0
walk_chunk report (suc l) c MESH p b =
    let x = walk_inside report (walk_chunk report l) (mesh_scope c) (p + 8 + 4) (drop 4 b) in
    walked (shown report (p + 8) (word_edits (mesh_head c.brushes) (words_of 1 b)) ++ x.bytes) x.count
walk_chunk report (suc l) c BB3D p b = walk_leaf report c BB3D p b
walk_chunk report (suc l) c TEXS p b = walk_leaf report c TEXS p b
walk_chunk report (suc l) c BRUS p b = walk_leaf report c BRUS p b
walk_chunk report (suc l) c VRTS p b = walk_leaf report c VRTS p b
walk_chunk report (suc l) c TRIS p b = walk_leaf report c TRIS p b
walk_chunk report (suc l) c BONE p b = walk_leaf report c BONE p b
walk_chunk report (suc l) c KEYS p b = walk_leaf report c KEYS p b
walk_chunk report (suc l) c ANIM p b = walk_leaf report c ANIM p b

-- ---- the file

-- BB3D, 16 levels of NODE, MESH
abbrev pub walk_levels : ℕ
walk_levels = 17

abbrev pub file_scope : Scope
file_scope = record { textures = 0; brushes = 0; top = true; root = false; bones = 0; own = 0; told = 0 }

-- the first three numbers
abbrev pub number_of : ℕ → List ℕ → ℕ
number_of i s = get_or (words_of 3 s) i 0

-- all that follows the version
unfoldable pub walk_body : Bool → List ℕ → List ℕ
walk_body report s = (walk_inside report (walk_chunk report walk_levels) file_scope 12 (drop 12 s)).bytes

-- the letters, the length, the version, the chunks; `size` is that of the mended file's chunks
unfoldable pub walk_file : Bool → ℕ → List ℕ → List ℕ
walk_file report size s =
    shown report 0 (keep (bytes (code BB3D) []) ∷ file_length (number_of 1 s) (length (drop 8 s)) (4 + size) ∷ keep (bytes (number_of 2 s) []) ∷ [])
    ++ walk_body report s
