-- The mending read. It goes as `parse` does, with the same refusals in the same order; but an id that may be -1 and names nothing is set
-- to -1, an item with another id that names nothing is taken out, 1 to 7 spare bytes are left out, and BB3D ends where the file does.
-- Each part gives what the mended file holds there, and what becomes of the bytes.
use Rattle.std.specs.Prelude.{ℕ, zero, suc, ◌+◌, Bool, true, false, ◌&&◌, List, [], ◌∷◌, ◌++◌, length, take, drop, get_or, eqb}
use Rattle.std.proofs.Math.Option.{Option, none}
use Rattle.wire.specs.Bytes.{bytes}
use Rattle.wire.specs.Test.{if}
use Rattle.layout.specs.Chunks.{done, stop, chunk, ended}
use Rattle.layout.specs.Result.{Result, accept, reject, check, ◌>>=◌}
use Rattle.layout.specs.Parts.{Name, Step, text, words, row, number, named, items}
use Rattle.layout.specs.Rules.{Rule, any, up_to, exactly, names, names_or_none, unit, NONE, holds, refusal}
use Rattle.layout.specs.Write.{write_words, write_text}
use Rattle.layout.specs.Rows.{size_fits}
use Rattle.layout.specs.Refusals as refusals
use Rattle.b3d_spec.specs.declared.Mode.TheVariants.{Lenient}
use Rattle.b3d_spec.specs.Nesting.{start, order}
use Rattle.b3d_spec.specs.Parse.{read_textures, Vertices, no_vertices, read_vertices, read_keys, read_anim, Animation, Inner, slots_of}
use Rattle.b3d_spec.specs.Rules.{brush_row, brush_ids, node_row, triangle_row, weight_row, bone_limit, bone_limit_below, levels, header, file_head, brushes_head, mesh_head, triangles_head}
use Rattle.b3d_spec.specs.Scene.{Texture, Brush, TriangleSet, Mesh, Kind, pivot, mesh, bone, Keys, Anim, no_anim, anim, Data, Forest, no_nodes, node, Scene}
use Rattle.b3d_spec.specs.Tags.{code, is, Chunks}
use Rattle.b3d_spec.specs.declared.Tag.{Tag}
use Rattle.b3d_spec.specs.declared.Tag.TheVariants.{BB3D, TEXS, BRUS, NODE, MESH, VRTS, BONE, KEYS, ANIM}
use Rattle.b3d_mend_spec.specs.Edits.{Edit, keep, after, file_length, id_set, item_out}
use Rattle.b3d_mend_spec.specs.Pieces.{pieces, chunks_of, woven}

-- a part as it is mended: what the mended file holds there, and what becomes of the bytes
pub record Mended (A : Type 0) : Type 0 where
  pub value : A
  pub edits : List Edit

-- ---- numbers

-- a number under this rule is an id that may be -1
abbrev pub may_be_none : Rule → Bool
may_be_none any = false
may_be_none (up_to m) = false
may_be_none (exactly m) = false
may_be_none (names n) = false
may_be_none (names_or_none n) = true
may_be_none unit = false

-- the number w at place p against its rule r: an id that may be -1 and names nothing is set to -1, another number that breaks its rule is refused
unfoldable pub mend_word : Rule → ℕ → ℕ → Result (Mended ℕ)
mend_word r p w =
    if (holds r w) (accept (record { value = w; edits = keep (bytes w []) ∷ [] }))
    (if (may_be_none r) (accept (record { value = NONE; edits = id_set w NONE ∷ [] })) (reject (refusal r) p))

-- the number v before the numbers x
unfoldable pub and_words : Mended ℕ → Mended (List ℕ) → Mended (List ℕ)
and_words v x = record { value = v.value ∷ x.value; edits = v.edits ++ x.edits }

-- the words ws from place p on against their rules, in file order (there is a word for each rule)
unfoldable pub mend_words : List Rule → ℕ → List ℕ → Result (Mended (List ℕ))
mend_words [] p ws = accept (record { value = []; edits = [] })
mend_words (r ∷ rs) p [] = accept (record { value = []; edits = [] })
mend_words (r ∷ rs) p (w ∷ ws) = do
  v ← mend_word r p w
  x ← mend_words rs (p + 4) ws
  accept (and_words v x)

-- a word for each rule of rs, at place p: first that all are there, 5 at p if not, then each against its rule
unfoldable pub mend_row : List Rule → ℕ → List ℕ → Result (Step (Mended (List ℕ)))
mend_row rs p s = do
  x ← words p (length rs) p s
  v ← mend_words rs p x.value
  accept (record { value = v; place = x.place; left = x.left })

-- a name with the bytes cs at place p, before the words v
unfoldable pub with_name : ℕ → List ℕ → Mended (List ℕ) → Mended (Name × List ℕ)
with_name p cs v = record { value = (record { place = p; bytes = cs }, v.value); edits = keep (write_text cs []) ∷ v.edits }

-- a text at place p, then a word for each rule of rs: first that all are there, 5 at p if not, then each against its rule
unfoldable pub mend_named : List Rule → ℕ → List ℕ → Result (Step (Mended (Name × List ℕ)))
mend_named rs p s = do
  n ← text p p s
  x ← words p (length rs) n.place n.left
  v ← mend_words rs n.place x.value
  accept (record { value = with_name p n.value v; place = x.place; left = x.left })

-- ---- items

-- each word of ws keeps its rule
unfoldable pub all_hold : List Rule → List ℕ → Bool
all_hold [] ws = true
all_hold (r ∷ rs) [] = true
all_hold (r ∷ rs) (w ∷ ws) = holds r w && all_hold rs ws

-- a triangle or a weight of the words ws: it stays as it is (true), or is taken out (false)
unfoldable pub stays : Bool → List ℕ → Mended (List (List ℕ))
stays true ws = record { value = ws ∷ []; edits = keep (write_words ws []) ∷ [] }
stays false ws = record { value = []; edits = item_out (write_words ws []) ∷ [] }

-- a triangle or a weight at place p: 5 at p where it is cut; taken out where a word breaks its rule of rs
unfoldable pub mend_item : List Rule → ℕ → List ℕ → Result (Step (Mended (List (List ℕ))))
mend_item rs p s = do
  x ← words p (length rs) p s
  accept (record { value = stays (all_hold rs x.value) x.value; place = x.place; left = x.left })

-- items that were mended, one after the other
unfoldable pub gathered : {A : Type 0} → List (Mended (List A)) → Mended (List A)
gathered [] = record { value = []; edits = [] }
gathered (x ∷ l) = record { value = x.value ++ (gathered l).value; edits = x.edits ++ (gathered l).edits }

-- items by `item` from place p to the end of s, as they are mended
unfoldable pub mend_items : {A : Type 0} → (ℕ → List ℕ → Result (Step (Mended (List A)))) → ℕ → List ℕ → Result (Mended (List A))
mend_items item p s = do
  l ← items item p s
  accept (gathered l)

-- ---- chunks that hold items only

-- a chunk whose header is at p with nothing to mend in its body b, as it is read by `read`
unfoldable pub as_read : {A : Type 0} → (ℕ → List ℕ → Result A) → ℕ → List ℕ → Result (Mended A)
as_read read p b = do
  v ← read p b
  accept (record { value = v; edits = keep b ∷ [] })

-- a brush of its name and words as they were mended, as a list of one
unfoldable pub one_brush : Step (Mended (Name × List ℕ)) → Step (Mended (List Brush))
one_brush x =
    record {
      value = record { value = record { name = x.value.value.0; words = take 7 x.value.value.1; ids = drop 7 x.value.value.1 } ∷ []; edits = x.value.edits };
      place = x.place;
      left = x.left;
    }

-- a brush at place p: a text, seven words and `slots` texture ids, each set to -1 unless it is -1 or below `textures`
unfoldable pub mend_brush : ℕ → ℕ → ℕ → List ℕ → Result (Step (Mended (List Brush)))
mend_brush slots textures p s = do
  x ← mend_named (brush_row Lenient ++ brush_ids slots textures) p s
  accept (one_brush x)

-- the body b of a BRUS whose header is at p: n_texs, and the brushes to the end
unfoldable pub mend_brushes : ℕ → ℕ → List ℕ → Result (Mended (ℕ × List Brush))
mend_brushes textures p b = do
  h ← row brushes_head (p + 8) b
  l ← mend_items (mend_brush (number h 0) textures) h.place h.left
  accept (record { value = (number h 0, l.value); edits = keep (bytes (number h 0) []) ∷ l.edits })

-- the body b of a TRIS whose header is at p: its brush id, set to -1 where it names nothing, and its triangles, those with a bad vertex id taken out
unfoldable pub mend_triangles : ℕ → ℕ → ℕ → List ℕ → Result (Mended TriangleSet)
mend_triangles brushes vertices p b = do
  h ← mend_row (triangles_head brushes) (p + 8) b
  l ← mend_items (mend_item (triangle_row vertices)) h.place h.left
  accept (record { value = record { brush = get_or h.value.value 0 0; triangles = l.value }; edits = h.value.edits ++ l.edits })

-- the body b of a BONE whose header is at p: its weights, those with a bad vertex id taken out
unfoldable pub mend_bone : ℕ → ℕ → List ℕ → Result (Mended (List (List ℕ)))
mend_bone vertices p b = mend_items (mend_item (weight_row vertices)) (p + 8) b

-- ---- chunks among others

-- what was found among chunks: its value, what becomes of the bodies of its chunks, and the chunks after it
pub record Taken (A : Type 0) : Type 0 where
  pub value : A
  pub bodies : List (List Edit)
  pub rest : Chunks

-- f of what was mended in one chunk, x, before the chunks r
unfoldable pub found : {A B : Type 0} → (A → B) → Mended A → Chunks → Taken B
found f x r = record { value = f x.value; bodies = x.edits ∷ []; rest = r }

-- the value a, found in no chunk, before the chunks r
abbrev pub nothing : {A : Type 0} → A → Chunks → Taken A
nothing a r = record { value = a; bodies = []; rest = r }

-- the first chunk, mended by `one`, if its tag is k; else `a`, and the chunk is left
unfoldable pub mend_one : {A : Type 0} → Tag → A → (ℕ → List ℕ → Result (Mended A)) → Chunks → Result (Taken A)
mend_one k a one done = accept (nothing a done)
mend_one k a one (stop n p) = reject n p
mend_one {A} k a one (chunk t p b r) =
    let it : Result (Taken A) = one p b >>= λ x. accept (found (λ (v : A). v) x r) in
    if (is t k) it (accept (nothing a (chunk t p b r)))

-- ---- meshes

-- TRIS chunks to the end, in a mesh with this number of `vertices`: the triangle sets, and what becomes of the bodies
unfoldable pub mend_sets : ℕ → ℕ → Chunks → Result (List TriangleSet × List (List Edit))
mend_sets brushes vertices done = accept ([], [])
mend_sets brushes vertices (stop n p) = reject n p
mend_sets brushes vertices (chunk t p b r) = do
  x ← mend_triangles brushes vertices p b
  l ← mend_sets brushes vertices r
  accept (x.value ∷ l.0, x.edits ∷ l.1)

-- a mesh of its brush id b, what its VRTS holds, and its triangle sets
unfoldable pub mesh_of : ℕ → Vertices → List TriangleSet → Mesh
mesh_of b v l = record { brush = b; flags = v.flags; sets = v.sets; size = v.size; vertices = v.items; triangle_sets = l }

-- the body b of a MESH whose header is at p: its brush id, set to -1 where it names nothing, one VRTS, then one or more TRIS
unfoldable pub mend_mesh : ℕ → ℕ → List ℕ → Result (Mended Mesh)
mend_mesh brushes p b = do
  h ← mend_row (mesh_head brushes) (p + 8) b
  v ← mend_one VRTS no_vertices (as_read (read_vertices Lenient)) (order MESH p start (chunks_of (pieces h.place h.left)))
  l ← mend_sets brushes (length v.value.items) v.rest
  accept (record { value = mesh_of (get_or h.value.value 0 0) v.value l.0; edits = h.value.edits ++ woven (pieces h.place h.left) (v.bodies ++ l.1) })

-- ---- nodes

-- a MESH or a BONE, if it comes first; else the node is a pivot, and the chunks are left
unfoldable pub mend_kind : ℕ → ℕ → Chunks → Result (Taken Kind)
mend_kind brushes vertices done = accept (nothing pivot done)
mend_kind brushes vertices (stop n p) = reject n p
mend_kind brushes vertices (chunk t p b r) =
    let m = mend_mesh brushes p b >>= λ x. accept (found mesh x r) in
    let w = mend_bone vertices p b >>= λ x. accept (found bone x r) in
    let neither = if (is t BONE) w (accept (nothing pivot (chunk t p b r))) in
    if (is t MESH) m neither

-- what was found in x, with the KEYS k before its own
unfoldable pub with_keys : Mended Keys → Taken Animation → Taken Animation
with_keys k x = record { value = record { keys = k.value ∷ x.value.keys; anim = x.value.anim }; bodies = k.edits ∷ x.bodies; rest = x.rest }

-- what was found in x, with what becomes of the body of the ANIM a before its own; the value of the ANIM is in x already
unfoldable pub with_anim : Mended (List ℕ) → Taken Animation → Taken Animation
with_anim a x = record { value = x.value; bodies = a.edits ∷ x.bodies; rest = x.rest }

-- KEYS and ANIM, in any mix; `seen` is the ANIM read so far
unfoldable pub mend_moves : Anim → Chunks → Result (Taken Animation)
mend_moves seen done = accept (nothing (record { keys = []; anim = seen }) done)
mend_moves seen (stop n p) = reject n p
mend_moves seen (chunk t p b r) =
    let k = as_read read_keys p b >>= λ x. mend_moves seen r >>= λ l. accept (with_keys x l) in
    let a = as_read read_anim p b >>= λ x. mend_moves (anim x.value) r >>= λ l. accept (with_anim x l) in
    let neither = if (is t ANIM) a (accept (nothing (record { keys = []; anim = seen }) (chunk t p b r))) in
    if (is t KEYS) k neither

-- NODE chunks to the end, each by `one`
unfoldable pub mend_nodes : (ℕ → List ℕ → Result (Mended Inner)) → Chunks → Result (Forest × List (List Edit))
mend_nodes one done = accept (no_nodes, [])
mend_nodes one (stop n p) = reject n p
mend_nodes one (chunk t p b r) = do
  x ← one p b
  l ← mend_nodes one r
  accept (node x.value.self x.value.below l.0, x.edits ∷ l.1)

-- a node's data, of its name and words, its kind, and its KEYS and ANIM
unfoldable pub data_of : Name × List ℕ → Kind → Animation → Data
data_of h k m = record { name = h.0; words = h.1; kind = k; keys = m.keys; anim = m.anim }

-- the body b of a NODE whose header is at p, with l levels left: 9 at p with none. `above`: how many vertices its bones may name, none for the root
unfoldable pub mend_node : ℕ → ℕ → Option ℕ → ℕ → List ℕ → Result (Mended Inner)
mend_node zero brushes above p b = reject refusals.too_deep p
mend_node (suc l) brushes above p b = do
  h ← named node_row (p + 8) b
  k ← mend_kind brushes (bone_limit above) (order NODE p start (chunks_of (pieces h.place h.left)))
  m ← mend_moves no_anim k.rest
  f ← mend_nodes (mend_node l brushes (bone_limit_below above (data_of h.value k.value m.value))) m.rest
  accept (record {
    value = record { self = data_of h.value k.value m.value; below = f.0 };
    edits = keep (write_text h.value.0.bytes (write_words h.value.1 [])) ∷ woven (pieces h.place h.left) (k.bodies ++ (m.bodies ++ f.1));
  })

-- the body b of the root NODE whose header is at p, with the nodes below it
unfoldable pub mend_root : ℕ → ℕ → List ℕ → Result (Mended Forest)
mend_root brushes p b = do
  x ← mend_node levels brushes none p b
  accept (record { value = node x.value.self x.value.below no_nodes; edits = x.edits })

-- ---- the file

-- a scene of its version, textures, n_texs and brushes, and nodes; n_texs is 0 if there is no brush
unfoldable pub scene_of : ℕ → List Texture → ℕ × List Brush → Forest → Scene
scene_of v t u n = record { version = v; textures = t; slots = slots_of u.0 u.1; brushes = u.1; nodes = n }

-- the body b of BB3D, at place p: the version, at most one each of TEXS, BRUS, NODE, in that order
unfoldable pub mend_body : ℕ → List ℕ → Result (Mended Scene)
mend_body p b = do
  h ← row file_head p b
  t ← mend_one TEXS [] (as_read read_textures) (order BB3D 0 start (chunks_of (pieces h.place h.left)))
  u ← mend_one BRUS (0, []) (mend_brushes (length t.value)) t.rest
  n ← mend_one NODE no_nodes (mend_root (length u.value.1)) u.rest
  ended n.rest
      (record {
        value = scene_of (number h 0) t.value u.value n.value;
        edits = keep (bytes (number h 0) []) ∷ woven (pieces h.place h.left) (t.bodies ++ (u.bodies ++ n.bodies));
      })

-- the file s as it is mended, or its first fault 1 to 9 of another kind than the four: a BB3D that ends where the file does, whatever its length says
unfoldable pub mend_file : List ℕ → Result (Mended Scene)
mend_file s = do
  _ ← check (size_fits (length s)) refusals.file_size 0
  h ← row header 0 s
  _ ← check (eqb (number h 0) (code BB3D)) refusals.first_tag 0
  x ← mend_body h.place h.left
  accept (record { value = x.value; edits = keep (bytes (code BB3D) []) ∷ file_length (number h 1) (length h.left) (length (after x.edits)) ∷ x.edits })
