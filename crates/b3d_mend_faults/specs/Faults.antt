-- The faults of a file that 01 numbers 1 to 9, in 01's order. A fault that the mender mends is listed and passed; the list ends at the first
-- fault of another kind. The reading goes as `parse` does, step by step, and keeps only what later checks need: how many textures, brushes and
-- vertices there are, and which nodes have an ANIM.
use Rattle.std.specs.Prelude.{ℕ, zero, suc, ◌+◌, Bool, true, false, List, [], ◌∷◌, ◌++◌, length, eqb}
use Rattle.std.proofs.Math.Option.{Option, none, some}
use Rattle.wire.specs.Test.{if}
use Rattle.layout.specs.Result.{Result, accept, reject, check}
use Rattle.layout.specs.Parts.{Step, text, words, row, number, named}
use Rattle.layout.specs.Rows.{size_fits}
use Rattle.layout.specs.Rules.{Rule, holds, refusal}
use Rattle.layout.specs.Refusals as refusals
use Rattle.b3d_spec.specs.declared.Mode.TheVariants.{Lenient}
use Rattle.b3d_spec.specs.declared.Tag.{Tag}
use Rattle.b3d_spec.specs.declared.Tag.TheVariants.{BB3D, TEXS, BRUS, NODE, MESH, VRTS, BONE, KEYS, ANIM}
use Rattle.b3d_spec.specs.Nesting.{nesting, Reached, start, required_between, end, next}
use Rattle.b3d_spec.specs.Parse.{read_textures, read_vertices, read_keys, read_anim}
use Rattle.b3d_spec.specs.Rules.{brush_row, brush_ids, node_row, triangle_row, weight_row, bone_limit, bone_limit_from, levels, header, file_head, brushes_head, mesh_head, triangles_head}
use Rattle.b3d_spec.specs.Tags.{code, is}
use Rattle.b3d_mend_spec.specs.Mend.{may_be_none}
use Rattle.b3d_mend_spec.specs.Pieces.{Pieces, none_left, spare, past, other as unknown, known, pieces}

-- ---- faults

-- a fault of a file
pub data Fault : Type 0 where
  -- one of the four that are mended: which of them, 1 to 4, and 01's number and place
  mendable : ℕ → ℕ → ℕ → Fault
  -- a fault of another kind: 01's number and place
  other : ℕ → ℕ → Fault

-- what reading a part of a file gives: a value, behind the faults that were found
pub data FaultReading (A : Type 0) : Type 0 where
  -- a value, and no fault
  gives : A → FaultReading A
  -- a fault of another kind, its number and place: nothing behind it is read
  ends : ℕ → ℕ → FaultReading A
  -- one of the four, which of them, its number and place, and then what reading gives behind it
  passes : ℕ → ℕ → ℕ → FaultReading A → FaultReading A

-- `m >>= f` reads on by `f` from the value of `m`, behind the faults of `m`
abbrev pub ◌>>=◌ : {A B : Type 0} → FaultReading A → (A → FaultReading B) → FaultReading B
◌>>=◌ (gives a) f = f a
◌>>=◌ (ends n p) f = ends n p
◌>>=◌ (passes k n p m) f = passes k n p (m >>= f)

infixl 10 ◌>>=◌
-- the faults of a reading, in order
unfoldable pub listed : {A : Type 0} → FaultReading A → List Fault
listed (gives a) = []
listed (ends n p) = other n p ∷ []
listed (passes k n p m) = mendable k n p ∷ listed m

-- a reading `o` in which nothing is mended: its refusal is of another kind
unfoldable pub plainly : {A : Type 0} → Result A → FaultReading A
plainly (accept a) = gives a
plainly (reject n p) = ends n p

-- ---- numbers

-- the number w at place p of fixed data or of a brush, against its rule r: an id that may be -1 and names nothing is one of the four
unfoldable pub number_fault : Rule → ℕ → ℕ → FaultReading (Unit {0})
number_fault r p w = if (holds r w) (gives tt) (if (may_be_none r) (passes 2 (refusal r) p (gives tt)) (ends (refusal r) p))

-- the number w at place p of a triangle or a weight, against its rule r: an id that names nothing is one of the four
unfoldable pub item_fault : Rule → ℕ → ℕ → FaultReading (Unit {0})
item_fault r p w = if (holds r w) (gives tt) (passes 3 (refusal r) p (gives tt))

-- the words ws from place p on, in file order, each by `one` against its rule; the value is `a`
unfoldable pub number_faults : {A : Type 0} → (Rule → ℕ → ℕ → FaultReading (Unit {0})) → List Rule → ℕ → List ℕ → A → FaultReading A
number_faults one [] p ws a = gives a
number_faults one (r ∷ rs) p [] a = gives a
number_faults one (r ∷ rs) p (w ∷ ws) a = do
  _ ← one r p w
  number_faults one rs (p + 4) ws a

-- a word for each rule of rs, at place p: first that all are there, then each number by `one`
unfoldable pub row_faults : (Rule → ℕ → ℕ → FaultReading (Unit {0})) → List Rule → ℕ → List ℕ → FaultReading (Step (List ℕ))
row_faults one rs p s = do
  x ← plainly (words p (length rs) p s)
  number_faults one rs p x.value x

-- a brush at place p: a text, then a word for each rule of rs
unfoldable pub brush_faults : List Rule → ℕ → List ℕ → FaultReading (Step (List ℕ))
brush_faults rs p s = do
  n ← plainly (text p p s)
  x ← plainly (words p (length rs) n.place n.left)
  number_faults number_fault rs n.place x.value x

-- items by `item` to the end of the bytes, at most f of them; the value is how many there are
unfoldable pub item_faults_in : {A : Type 0} → ℕ → (ℕ → List ℕ → FaultReading (Step A)) → ℕ → List ℕ → FaultReading ℕ
item_faults_in zero item p [] = gives 0
item_faults_in zero item p (c ∷ s) = ends 5 p
item_faults_in (suc f) item p [] = gives 0
item_faults_in (suc f) item p (c ∷ s) = do
  x ← item p (c ∷ s)
  n ← item_faults_in f item x.place x.left
  gives (suc n)

-- items by `item` to the end of the bytes; an item has at least one byte
unfoldable pub item_faults : {A : Type 0} → (ℕ → List ℕ → FaultReading (Step A)) → ℕ → List ℕ → FaultReading ℕ
item_faults item p s = item_faults_in (length s) item p s

-- ---- chunks that hold items only

-- a TEXS whose header is at p; the value is how many textures it has
unfoldable pub texture_faults : ℕ → List ℕ → FaultReading ℕ
texture_faults p b = do
  l ← plainly (read_textures p b)
  gives (length l)

-- a BRUS whose header is at p, in a file with `textures` textures; the value is how many brushes it has
unfoldable pub brushes_faults : ℕ → ℕ → List ℕ → FaultReading ℕ
brushes_faults textures p b = do
  h ← plainly (row brushes_head (p + 8) b)
  item_faults (brush_faults (brush_row Lenient ++ brush_ids (number h 0) textures)) h.place h.left

-- a VRTS whose header is at p; the value is how many vertices it has
unfoldable pub vertex_faults : ℕ → List ℕ → FaultReading ℕ
vertex_faults p b = do
  v ← plainly (read_vertices Lenient p b)
  gives (length v.items)

-- a TRIS whose header is at p, whose ids name one of `brushes` brushes and of `vertices` vertices; the value is how many triangles it has
unfoldable pub triangle_faults : ℕ → ℕ → ℕ → List ℕ → FaultReading ℕ
triangle_faults brushes vertices p b = do
  h ← row_faults number_fault (triangles_head brushes) (p + 8) b
  item_faults (row_faults item_fault (triangle_row vertices)) h.place h.left

-- a BONE whose header is at p, whose ids name one of `vertices` vertices; the value is how many weights it has
unfoldable pub bone_faults : ℕ → ℕ → List ℕ → FaultReading ℕ
bone_faults vertices p b = item_faults (row_faults item_fault (weight_row vertices)) (p + 8) b

-- ---- the chunks inside a BB3D, a NODE or a MESH

-- the known chunks inside a chunk, one after the other, and the faults of their headers
pub data ChunkFaults : Type 0 where
  -- no chunk more
  finished : ChunkFaults
  -- a fault of another kind, its number and place: nothing behind it is read
  refused : ℕ → ℕ → ChunkFaults
  -- 1 to 7 spare bytes at this place, and then what is found behind them
  spare_at : ℕ → ChunkFaults → ChunkFaults
  -- a chunk, its tag, the place of its header, its body, and then what is found behind it
  chunk_at : Tag → ℕ → List ℕ → ChunkFaults → ChunkFaults

-- the known chunks among pieces: of 3's two kinds, 1 to 7 bytes that are left are one of the four, a length that passes the end is not
unfoldable pub found : Pieces → ChunkFaults
found none_left = finished
found (spare p s) = spare_at p finished
found (past p s) = refused refusals.cut_chunk p
found (unknown o r) = found r
found (known t p b r) = chunk_at t p b (found r)

-- goes on by `go` if a chunk at p may stand there, else 4 at p
unfoldable pub onward_from : Option Reached → ℕ → (Reached → ChunkFaults) → ChunkFaults
onward_from none p go = refused refusals.nesting p
onward_from (some r) p go = go r

-- the chunks inside a chunk of tag k whose header is at `head`, after chunks that came to r: 4 at the first that may not stand where it does, 8
-- at `head` where one that must stand is missing, behind spare bytes too
unfoldable pub in_order : Tag → ℕ → Reached → ChunkFaults → ChunkFaults
in_order k head r finished = if (required_between (nesting k) r.turn end) (refused refusals.no_vrts_or_tris head) finished
in_order k head r (refused n p) = refused n p
in_order k head r (spare_at p l) = spare_at p (in_order k head r l)
in_order k head r (chunk_at t p b l) = onward_from (next (nesting k) (nesting k) r t) p (λ q. chunk_at t p b (in_order k head q l))

-- the chunks of the bytes s from place p on, inside a chunk of tag k whose header is at `head`
unfoldable pub within : Tag → ℕ → ℕ → List ℕ → ChunkFaults
within k head p s = in_order k head start (found (pieces p s))

-- ---- what is read of them

-- what was read of chunks: a value, and the chunks behind it
pub record FoundPart (A : Type 0) : Type 0 where
  pub value : A
  pub rest : ChunkFaults

-- the value a, before the chunks r
abbrev pub part : {A : Type 0} → A → ChunkFaults → FoundPart A
part a r = record { value = a; rest = r }

-- the first chunk, by `one`, if its tag is k; else the value is `a`
unfoldable pub one_faults : {A : Type 0} → Tag → A → (ℕ → List ℕ → FaultReading A) → ChunkFaults → FaultReading (FoundPart A)
one_faults k a one finished = gives (part a finished)
one_faults k a one (refused n p) = ends n p
one_faults k a one (spare_at p l) = passes 4 3 p (one_faults k a one l)
one_faults {A} k a one (chunk_at t p b r) =
    let it : FaultReading (FoundPart A) = one p b >>= λ x. gives (part x r) in
    if (is t k) it (gives (part a (chunk_at t p b r)))

-- TRIS chunks to the end, whose ids name one of `brushes` brushes and of `vertices` vertices
unfoldable pub set_faults : ℕ → ℕ → ChunkFaults → FaultReading (Unit {0})
set_faults brushes vertices finished = gives tt
set_faults brushes vertices (refused n p) = ends n p
set_faults brushes vertices (spare_at p l) = passes 4 3 p (set_faults brushes vertices l)
set_faults brushes vertices (chunk_at t p b r) = do
  _ ← triangle_faults brushes vertices p b
  set_faults brushes vertices r

-- a MESH whose header is at p, in a file with `brushes` brushes; the value is how many vertices it has
unfoldable pub mesh_faults : ℕ → ℕ → List ℕ → FaultReading ℕ
mesh_faults brushes p b = do
  h ← row_faults number_fault (mesh_head brushes) (p + 8) b
  v ← one_faults VRTS 0 vertex_faults (within MESH p h.place h.left)
  _ ← set_faults brushes v.value v.rest
  gives v.value

-- a MESH or a BONE, if it comes first, in a file with this number of `brushes`, where a bone may name this number of `vertices`; the value is how many
-- vertices the node has of its own, 0 without a MESH
unfoldable pub kind_faults : ℕ → ℕ → ChunkFaults → FaultReading (FoundPart ℕ)
kind_faults brushes vertices finished = gives (part 0 finished)
kind_faults brushes vertices (refused n p) = ends n p
kind_faults brushes vertices (spare_at p l) = passes 4 3 p (kind_faults brushes vertices l)
kind_faults brushes vertices (chunk_at t p b r) =
    let m : FaultReading (FoundPart ℕ) = mesh_faults brushes p b >>= λ n. gives (part n r) in
    let w : FaultReading (FoundPart ℕ) = bone_faults vertices p b >>= λ n. gives (part 0 r) in
    let neither = if (is t BONE) w (gives (part 0 (chunk_at t p b r))) in
    if (is t MESH) m neither

-- KEYS and ANIM, in any mix; the value is whether there was an ANIM, one that was `seen` before counting too
unfoldable pub move_faults : Bool → ChunkFaults → FaultReading (FoundPart Bool)
move_faults seen finished = gives (part seen finished)
move_faults seen (refused n p) = ends n p
move_faults seen (spare_at p l) = passes 4 3 p (move_faults seen l)
move_faults seen (chunk_at t p b r) =
    let k = plainly (read_keys p b) >>= λ x. move_faults seen r in
    let a = plainly (read_anim p b) >>= λ x. move_faults true r in
    let neither = if (is t ANIM) a (gives (part seen (chunk_at t p b r))) in
    if (is t KEYS) k neither

-- NODE chunks to the end, each by `one`
unfoldable pub nodes_faults : (ℕ → List ℕ → FaultReading (Unit {0})) → ChunkFaults → FaultReading (Unit {0})
nodes_faults one finished = gives tt
nodes_faults one (refused n p) = ends n p
nodes_faults one (spare_at p l) = passes 4 3 p (nodes_faults one l)
nodes_faults one (chunk_at t p b r) = do
  _ ← one p b
  nodes_faults one r

-- a NODE whose header is at p, with l levels left, in a file with this number of `brushes`; `above`: how many vertices its bones may name, none for the root
unfoldable pub node_faults : ℕ → ℕ → Option ℕ → ℕ → List ℕ → FaultReading (Unit {0})
node_faults zero brushes above p b = ends 9 p
node_faults (suc l) brushes above p b = do
  h ← plainly (named node_row (p + 8) b)
  k ← kind_faults brushes (bone_limit above) (within NODE p h.place h.left)
  m ← move_faults false k.rest
  nodes_faults (node_faults l brushes (bone_limit_from above m.value k.value)) m.rest

-- ---- the file

-- the faults of headers that are left behind the root
unfoldable pub end_faults : ChunkFaults → FaultReading (Unit {0})
end_faults finished = gives tt
end_faults (refused n p) = ends n p
end_faults (spare_at p l) = passes 4 3 p (end_faults l)
end_faults (chunk_at t p b r) = end_faults r

-- the body b of BB3D, at place p
unfoldable pub body_faults : ℕ → List ℕ → FaultReading (Unit {0})
body_faults p b = do
  h ← plainly (row file_head p b)
  t ← one_faults TEXS 0 texture_faults (within BB3D 0 h.place h.left)
  u ← one_faults BRUS 0 (brushes_faults t.value) t.rest
  n ← one_faults NODE tt (node_faults levels u.value none) u.rest
  end_faults n.rest

-- whether BB3D's length is right: a wrong one is one of the four, and BB3D's end is then the file's
unfoldable pub length_fault : Bool → FaultReading (Unit {0})
length_fault true = gives tt
length_fault false = passes 1 2 4 (gives tt)

-- a file s: its size, its first tag, BB3D's length, and then BB3D's body up to the end of the file
unfoldable pub file_faults : List ℕ → FaultReading (Unit {0})
file_faults s = do
  _ ← plainly (check (size_fits (length s)) refusals.file_size 0)
  h ← plainly (row header 0 s)
  _ ← plainly (check (eqb (number h 0) (code BB3D)) refusals.first_tag 0)
  _ ← length_fault (eqb (number h 1) (length h.left))
  body_faults h.place h.left

-- the faults of a file s in 01's order, up to the first that is not mended
unfoldable pub faults : List ℕ → List Fault
faults s = listed (file_faults s)
