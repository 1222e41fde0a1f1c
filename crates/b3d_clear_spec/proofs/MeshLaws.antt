-- A MESH that was read becomes what the copy has of it.
use mathlib.Core.Path.{◌≡◌, refl, ap, ap₂, sym, ◌∙◌}
use Prim.Native.Nat.{ℕ, ◌+◌, ◌-◌}
use mathlib.Core.List.{List, [], ◌∷◌, ◌++◌, append-nil}
use lib.ListN.{length, replicate, length-replicate}
use Rattle.wire.specs.Test.{if}
use Rattle.wire.specs.Bytes.{bytes, AllBytes}
use Rattle.layout.specs.Chunks.{done, chunk}
use Rattle.layout.specs.Result.{accept}
use Rattle.layout.specs.Parts.{Step, words, row, number}
use Rattle.layout.specs.Rules.{Rule, any}
use Rattle.layout.specs.Write.{write_chunks as write_chunks_of}
use Rattle.layout.proofs.ChunkLaws.{Of, split-fine}
use Rattle.layout.proofs.ResultLaws.{by_got, got_inj}
use Rattle.layout.proofs.PartLaws.{row_fine}
use Rattle.layout.proofs.StepLaws.{judged-any, judged_got}
use Rattle.b3d_spec.specs.declared.Mode.TheVariants.{Lenient}
use Rattle.b3d_spec.specs.declared.Tag.TheVariants.{MESH, VRTS, TRIS}
use Rattle.b3d_spec.specs.Encode.{write_vertices, write_mesh}
use Rattle.b3d_spec.specs.Nesting.{inside}
use Rattle.b3d_spec.specs.Parse.{read_one, Vertices, no_vertices, read_vertices, read_triangles, read_sets, read_mesh}
use Rattle.b3d_spec.specs.Rules.{mesh_head}
use Rattle.b3d_spec.specs.Scene.{TriangleSet, Mesh}
use Rattle.b3d_spec.specs.Tags.{Chunks, split, tag_of, code}
use Rattle.b3d_spec_chunk_places.proofs.MeshChunkLaws.{ByShape, shape_read}
use Rattle.b3d_clear_spec.specs.Copies.{chunk_of, each, as_is, in_mesh, mesh_of, mesh_copy}
use Rattle.b3d_clear_spec.proofs.LeafLaws.{write_shape, vertices_exact, triangles_exact}
use Rattle.b3d_clear_spec.proofs.PartLaws.{sets_bytes, sets-written}

-- fixed data that keeps its rules is read the same where it is not looked at
pub row_plain : (rs : List Rule) (p : ℕ) (s : List ℕ) (x : Step (List ℕ)) → row rs p s ≡ accept x → row (replicate (length rs) any) p s ≡ accept x
unfolding row
row_plain rs p s x e =
    by_got (words p (length rs) p s) _ e (λ y ey e₁.
    rw (length-replicate (length rs) any, ey) (judged-any (length rs) p y.value y ∙ ap accept (judged_got rs p y.value y x e₁)))

-- ---- TRIS

-- chunks among which are no VRTS, and these sets
record Sets (cs : Chunks) (l : List TriangleSet) : Type 0 where
  shapes : each VRTS (as_is VRTS) cs ≡ []
  sets : each TRIS (as_is TRIS) cs ≡ sets_bytes l

-- in chunks of bytes
abbrev Copied : Chunks → List TriangleSet → Type 0
Copied cs l = (n : ℕ) → Of n cs → Sets cs l

none_copied : Copied done []
unfolding each sets_bytes
none_copied n h = record { shapes = refl; sets = refl }

set_before : (brushes vertices p : ℕ) (b : List ℕ) (r : Chunks) (x : TriangleSet) (l : List TriangleSet) → read_triangles brushes vertices p b ≡ accept x → Copied r l → Copied (chunk TRIS p b r) (x ∷ l)
unfolding each sets_bytes if
set_before brushes vertices p b r x l e more n h =
    let rest = more (n - (8 + length b)) h.2 in
    record { shapes = rest.shapes; sets = ap₂ (λ (y z : List ℕ). chunk_of (code TRIS) y ++ z) (sym (triangles_exact p b h.0 brushes vertices x e)) rest.sets }

-- ---- VRTS, then TRIS

abbrev MeshShape : Chunks → Vertices → List TriangleSet → Type 0
MeshShape cs v l = (n : ℕ) → Of n cs → in_mesh cs ≡ chunk_of (code VRTS) (write_shape v) ++ sets_bytes l

shape-then : (x y z w : List ℕ) → x ≡ y → z ≡ [] → (x ++ z) ++ w ≡ y ++ w
shape-then x y z w e f = ap₂ (λ (k l : List ℕ). (k ++ l) ++ w) e f ∙ ap (λ (k : List ℕ). k ++ w) (append-nil y)

shape_before : (p : ℕ) (b : List ℕ) (r : Chunks) (v : Vertices) (l : List TriangleSet) → read_vertices Lenient p b ≡ accept v → Copied r l → MeshShape (chunk VRTS p b r) v l
unfolding each if
shape_before p b r v l e more n h =
    let rest = more (n - (8 + length b)) h.2 in
    shape-then (chunk_of (code VRTS) b) (chunk_of (code VRTS) (write_shape v)) (each VRTS (as_is VRTS) r) (each TRIS (as_is TRIS) r) (ap (chunk_of (code VRTS)) (sym (vertices_exact p b h.0 v e))) rest.shapes
    ∙ ap (λ (y : List ℕ). chunk_of (code VRTS) (write_shape v) ++ y) rest.sets

copied : (brushes : ℕ) → ByShape Lenient brushes Copied MeshShape
copied brushes = record { none = none_copied; sets = set_before brushes; shape = shape_before }

pub mesh_copied : (brushes p : ℕ) (b : List ℕ) (m : Mesh) → AllBytes b → read_mesh Lenient brushes p b ≡ accept m → mesh_copy p b ≡ chunk_of (code MESH) (write_mesh m)
unfolding read_mesh inside mesh_copy mesh_of write_mesh write_vertices write_chunks_of
mesh_copied brushes p b m all e =
    by_got (row (mesh_head brushes) (p + 8) b) _ e (λ h eh e₁.
    by_got (read_one VRTS no_vertices (read_vertices Lenient) (inside MESH p h.place h.left)) _ e₁ (λ v ev e₂.
    by_got (read_sets brushes (length v.value.items) v.rest) _ e₂ (λ l el e₃.
    let fine = row_fine (mesh_head brushes) (p + 8) b h all eh in
    let inner = shape_read Lenient brushes Copied MeshShape (copied brushes) p (split h.place h.left) v ev l el (length h.left) (split-fine tag_of h.place h.left fine.bytes) in
    ap mesh_of (row_plain (mesh_head brushes) (p + 8) b h eh)
    ∙ ap (λ (y : List ℕ). chunk_of (code MESH) (bytes (number h 0) y)) (inner ∙ ap (λ (y : List ℕ). chunk_of (code VRTS) (write_shape v.value) ++ y) (sym (sets-written l)))
    ∙ ap (λ (x : Mesh). chunk_of (code MESH) (write_mesh x)) (got_inj e₃))))
