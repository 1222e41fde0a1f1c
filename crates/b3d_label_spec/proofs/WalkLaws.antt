-- Accepted files: what the walk finds is what the reader's definition reads. Steps of the walk beside those of `Parse`, from VRTS to the file.
use Prim.Native.Nat.{ℕ, ◌+◌, ◌*◌, ◌/◌, ◌%◌, ◌<◌, ◌≤◌}
use native.Mathlib.Omega.{arith}
use native.Mathlib.Nat.{div-add-mod', mod-lt}
use mathlib.Core.Bool.{true}
use mathlib.Core.Option.{Option, none}
use mathlib.Core.Path.{◌≡◌, refl, ap, sym, subst, ◌∙◌}
use mathlib.Core.List.{List}
use lib.ListN.{length, replicate, length-replicate}
use lib.Dec.{eqb, leb, eqb→eq, le→leb}
use lib.Seq.{take-length}
use mir.Facts.{eqb_no}
use borrow.Author.Tests.{eq-eqb}
use Rattle.wire.specs.Test.{if}
use Rattle.layout.specs.Chunks.{done, stop, chunk}
use Rattle.layout.specs.Result.{Result, accept, check, ◌>>=◌}
use Rattle.layout.specs.Parts.{Name, Step, text, words, row, number, named, items}
use Rattle.layout.specs.Rules.{Rule, any}
use Rattle.layout.proofs.ResultLaws.{by_got, by-check, check-yes, by_test, bad_got, got_inj}
use Rattle.layout.proofs.StepLaws.{judged_got, judged-any, any-whole, any-cut, length-items-of}
use Rattle.layout.proofs.HeldLaws.{words_count}
use Rattle.layout.specs.Rows.{size_fits}
use Rattle.b3d_spec.specs.declared.Mode.TheVariants.{Lenient}
use Rattle.b3d_spec.specs.declared.Tag.TheVariants.{BB3D, NODE, MESH, VRTS}
use Rattle.b3d_spec.specs.Tags.{code, Chunks, Found as FoundIn, split}
use Rattle.b3d_spec.specs.Scene.{Texture, Brush, TriangleSet, Mesh, Kind, Data, Forest, no_nodes, node, Scene}
use Rattle.b3d_spec.specs.Rules.{node_row, mesh_head, vertices_head, vertex_row, vertex_words, file_head, header, levels, own_vertices}
use Rattle.b3d_spec.specs.Nesting.{start, next, onward, order, inside}
use Rattle.b3d_spec.specs.Parse.{read_one, Vertices, no_vertices, read_vertices, read_sets, read_mesh, a_mesh, a_bone, read_bone, read_kind, read_animation, Inner, read_below, read_nodes, read_node, read_root, read_body, parse}
use Rattle.b3d_spec.proofs.Files.EntryLaws.{◌▸◌, by-entry}
use Rattle.b3d_spec_chunk_places.proofs.MeshChunkLaws.{ByShape, shape_read}
use Rattle.b3d_spec_chunk_places.proofs.FileChunkLaws.{ByChunks, body-read}
use Rattle.b3d_label_spec.specs.Walk.{Refused, first_with, vrts_vertices, mesh_vertices, root_vertices, Printed, root_in, file_in, label_walk}

-- fixed data that was read is all there
row_free : (rs : List Rule) (n p : ℕ) (s : List ℕ) (x : Step (List ℕ)) → length rs ≡ n → row rs p s ≡ accept x → row (replicate n any) p s ≡ accept x
unfolding row
row_free rs n p s x l e =
    by_got (words p (length rs) p s) _ e (λ y ey e₁.
    let f : words p n p s ≡ accept y = ap (λ (k : ℕ). words p k p s) (sym l) ∙ ey in
    rw (length-replicate n any, f) (judged-any n p y.value y ∙ ap accept (judged_got rs p y.value y x e₁)))

-- ---- VRTS

-- items that are not looked at fill what they were read from
module _ (n : ℕ) (pos : 0 < n) (p : ℕ) (s : List ℕ) (l : List (List ℕ)) (e : items (row (replicate n any)) p s ≡ accept l) where
  fill : (eqb (length s % (4 * n)) 0 ≡ true) × (length s / (4 * n) ≡ length l)
  fill =
      let size = 4 * n in
      let d : length s / size * size + length s % size ≡ length s = div-add-mod' (length s) size in
      let m : length s % size < size = mod-lt (length s) (omega arith) in
      by_test (eqb (length s % size) 0)
      (λ t. let z = eqb→eq (length s % size) 0 t in
      let a = any-whole n pos (length s / size) p s (omega arith) in
      (eq-eqb (length s % size) 0 z, sym (length-items-of (length s / size) n s) ∙ ap (λ (x : List (List ℕ)). length x) (got_inj (sym a ∙ e))))
      (λ t. let z = eqb_no {a = length s % size} {b = 0} t in
      bad_got (sym (any-cut n pos (length s / size) (length s % size) p s (omega arith) (omega arith) m) ∙ e))

some_words : (f s z : ℕ) → 0 < vertex_words f s z
unfolding vertex_words
some_words f s z = omega arith

vertices-same : (p : ℕ) (b : List ℕ) (v : Vertices) → read_vertices Lenient p b ≡ accept v → vrts_vertices (p + 8) b ≡ accept (length v.items)
unfolding read_vertices vrts_vertices check
vertices-same p b v e =
    by_got (row vertices_head (p + 8) b) _ e (λ h eh e₁.
    by_got (items (row (vertex_row Lenient (number h 0) (number h 1) (number h 2))) h.place h.left) _ e₁ (λ l el e₂.
    let w = vertex_words (number h 0) (number h 1) (number h 2) in
    let f = fill w (some_words (number h 0) (number h 1) (number h 2)) h.place h.left l el in
    rw (eh, f.0, f.1) (ap (λ (x : Vertices). accept (length x.items)) (got_inj e₂))))

-- ---- MESH

-- the first chunk of a MESH that was read is its VRTS
abbrev AtShape : Chunks → Vertices → List TriangleSet → Type 0
AtShape cs v l = (first_with (code VRTS) cs >>= λ x. vrts_vertices x.0 x.1) ≡ accept (length v.items)

at-shape : (brushes : ℕ) → ByShape Lenient brushes (λ cs l. Unit {0}) AtShape
unfolding first_with if
at-shape brushes = record { none = tt; sets = λ vertices p b r x l e h. tt; shape = λ p b r v l e h. vertices-same p b v e }

mesh-same : (brushes p : ℕ) (b : List ℕ) (m : Mesh) → read_mesh Lenient brushes p b ≡ accept m → mesh_vertices (p + 8) b ≡ accept (length m.vertices)
unfolding read_mesh mesh_vertices inside
mesh-same brushes p b m e =
    by_got (row (mesh_head brushes) (p + 8) b) _ e (λ h eh e₁.
    by_got (read_one VRTS no_vertices (read_vertices Lenient) (order MESH p start (split h.place h.left))) _ e₁ (λ v ev e₂.
    by_got (read_sets brushes (length v.value.items) v.rest) _ e₂ (λ l el e₃.
    rw (row_free (mesh_head brushes) 1 (p + 8) b h refl eh)
    (shape_read Lenient brushes (λ cs l. Unit {0}) AtShape (at-shape brushes) p (split h.place h.left) v ev l el ∙ ap (λ (x : Mesh). accept (length x.vertices)) (got_inj e₃)))))

-- ---- a root

-- the first known chunk of a node that was read
kind-same : (brushes vertices head : ℕ) (cs : Chunks) (k : FoundIn Kind) → read_kind Lenient brushes vertices (order NODE head start cs) ≡ accept k
    → root_vertices cs ≡ accept (own_vertices k.value)
unfolding order onward next read_kind a_mesh a_bone if root_vertices
kind-same brushes vertices head done k e = ap (λ (x : FoundIn Kind). accept (own_vertices x.value)) (got_inj e)
kind-same brushes vertices head (stop n p) k e = bad_got e
kind-same brushes vertices head (chunk t p b r) k e =
    by-entry NODE head start p b r (λ u o. read_kind Lenient brushes vertices o ≡ accept k → root_vertices (chunk u p b r) ≡ accept (own_vertices k.value)) (λ u e. bad_got e)
    ((λ e. by_got (read_mesh Lenient brushes p b) _ e (λ m em e₁. mesh-same brushes p b m em ∙ ap (λ (x : FoundIn Kind). accept (own_vertices x.value)) (got_inj e₁)))
    ▸ (λ e. by_got (read_bone vertices p b) _ e (λ ws ew e₁. ap (λ (x : FoundIn Kind). accept (own_vertices x.value)) (got_inj e₁)))
    ▸ (λ e. ap (λ (x : FoundIn Kind). accept (own_vertices x.value)) (got_inj e))
    ▸ (λ e. ap (λ (x : FoundIn Kind). accept (own_vertices x.value)) (got_inj e))
    ▸ (λ e. ap (λ (x : FoundIn Kind). accept (own_vertices x.value)) (got_inj e)) ▸ tt) t e

-- what the label has of a node
abbrev pub printed_of : Data → Printed
printed_of d = record { name = d.name; vertices = own_vertices d.kind }

-- o is what the label has of a node, which has ten numbers
pub record OfRoot (o : Result Printed) (d : Data) : Type 0 where
  pub is : o ≡ accept (printed_of d)
  pub ten : length d.words ≡ 10

-- of the first node, where there is one; refused where there is none
abbrev pub Tells : Result Printed → Forest → Type 0
Tells o no_nodes = Refused o
Tells o (node d f g) = OfRoot o d

named-long : (rs : List Rule) (p : ℕ) (s : List ℕ) (x : Step (Name × List ℕ)) → named rs p s ≡ accept x → length x.value.1 ≡ length rs
unfolding named
named-long rs p s x e =
    by_got (text p p s) _ e (λ n en e₁. by_got (words p (length rs) n.place n.left) _ e₁ (λ y ey e₂.
    ap (λ (z : Step (Name × List ℕ)). length z.value.1) (sym (judged_got rs n.place y.value _ x e₂)) ∙ words_count p (length rs) n.place n.left y ey))

below_self : (one : Option ℕ → ℕ → List ℕ → Result Inner) (above : Option ℕ) (d : Data) (cs : Chunks) (x : Inner) → read_below one above d cs ≡ accept x → d ≡ x.self
unfolding read_below
below_self one above d cs x e = by_got (read_nodes (one _) cs) _ e (λ f ef e₁. ap (λ (y : Inner). y.self) (got_inj e₁))

node-same : (brushes p : ℕ) (b : List ℕ) (x : Inner) → read_node Lenient levels brushes none p b ≡ accept x → OfRoot (root_in (p + 8) b) x.self
unfolding read_node root_in inside
node-same brushes p b x e =
    by_got (named node_row (p + 8) b) _ e (λ h eh e₁.
    by_got (read_kind Lenient brushes 0 (order NODE p start (split h.place h.left))) _ e₁ (λ k ek e₂.
    by_got (read_animation _ k.rest) _ e₂ (λ m em e₃.
    subst (OfRoot (root_in (p + 8) b)) (below_self _ none _ m.rest x e₃)
    (record { is = rw (eh, kind-same brushes 0 p (split h.place h.left) k ek); ten = named-long node_row (p + 8) b h eh }))))

root-same : (brushes p : ℕ) (b : List ℕ) (f : Forest) → read_root Lenient brushes p b ≡ accept f → Tells (root_in (p + 8) b) f
unfolding read_root
root-same brushes p b f e = by_got (read_node Lenient levels brushes none p b) _ e (λ x ex e₁. subst (Tells (root_in (p + 8) b)) (got_inj e₁) (node-same brushes p b x ex))

-- ---- the chunks of a file: TEXS and BRUS are stepped over, then comes the root

-- the walk from chunks on to the first NODE
abbrev to_root : Chunks → Result Printed
to_root cs = first_with (code NODE) cs >>= λ x. root_in x.0 x.1

-- that walk tells the nodes
abbrev AtRoot : Chunks → List Texture → ℕ → List Brush → Forest → Type 0
AtRoot cs ts slots bs f = Tells (to_root cs) f

to-root : ByChunks Lenient AtRoot
unfolding first_with if
to-root = record {
  none = (14, 0, refl);
  root = root-same;
  brus = λ textures p b r f v e h. h;
  texs = λ p b r slots bs f l e h. h;
}

body_same : (p : ℕ) (b : List ℕ) (t : Scene) → read_body Lenient p b ≡ accept t → Tells (file_in p b) t.nodes
unfolding read_body file_in
body_same p b t e =
    by_got (row file_head p b) _ e (λ h eh _.
    rw (row_free file_head 1 p b h refl eh) (body-read Lenient AtRoot to-root p b t e h eh).chunks)

-- the label of an accepted file is that of its first node
pub walk_same : (s : List ℕ) (t : Scene) → parse Lenient s ≡ accept t → Tells (label_walk s) t.nodes
unfolding parse label_walk
walk_same s t e =
    by-check (size_fits (length s)) 1 0 _ e (λ _ e₁.
    by_got (row header 0 s) _ e₁ (λ h eh e₂.
    by-check (eqb (number h 0) (code BB3D)) 2 0 _ e₂ (λ b e₃.
    by-check (eqb (number h 1) (length h.left)) 2 4 _ e₃ (λ l e₄.
    let n : number h 1 ≡ length h.left = eqb→eq (number h 1) (length h.left) l in
    let le : number h 1 ≤ length h.left = omega arith in
    rw (eh, check-yes (eqb (number h 0) (code BB3D)) 2 0 b, check-yes (leb (number h 1) (length h.left)) 3 0 (le→leb _ _ le), n, take-length h.left)
    (body_same h.place h.left t e₄)))))
