-- The reader beside the faults: it refuses at the first of them.
use mathlib.Core.Path.{◌≡◌, refl, ap, ap₂, sym, ◌∙◌, subst}
use Prim.Native.Nat.{ℕ, zero, suc, ◌+◌}
use mathlib.Core.Bool.{Bool, true, false}
use mathlib.Core.Option.{Option, none}
use mathlib.Core.List.{List, [], ◌∷◌, ◌++◌}
use lib.ListN.{length}
use lib.Dec.{eqb}
use Rattle.wire.specs.Test.{if}
use Rattle.layout.specs.Result.{Result, reject, check}
use Rattle.layout.specs.Parts.{Step, text, words, judged, row, number, named, items}
use Rattle.layout.specs.Rows.{size_fits}
use Rattle.layout.specs.Rules.{Rule, holds, refusal}
use Rattle.b3d_spec.specs.declared.Mode.TheVariants.{Lenient}
use Rattle.b3d_spec.specs.declared.Tag.{Tag}
use Rattle.b3d_spec.specs.declared.Tag.TheVariants.{BB3D, TEXS, BRUS, NODE, MESH, VRTS, BONE, KEYS, ANIM}
use Rattle.b3d_spec.specs.Nesting.{inside}
use Rattle.b3d_spec.specs.Parse.{read_one, read_textures, read_brush, read_brushes, Vertices, no_vertices, read_vertices, read_triangles, read_sets, read_mesh, read_bone, read_keys, read_anim, a_mesh, a_bone, read_kind, with_keys, read_animation, Inner, read_nodes, read_below, read_node, read_root, read_body, parse}
use Rattle.b3d_spec.specs.Rules.{brush_row, brush_ids, node_row, triangle_row, weight_row, animated, bone_limit, bone_limit_from, bone_limit_below, levels, header, file_head, brushes_head, mesh_head, triangles_head}
use Rattle.b3d_spec.specs.Scene.{Brush, Mesh, Anim, no_anim, anim, Data, no_nodes}
use Rattle.b3d_spec.specs.Tags.{code, is, Chunks, Found}
use Rattle.b3d_mend_spec.specs.Mend.{may_be_none}
use Rattle.b3d_mend_faults.specs.Faults.{Fault, FaultReading, gives, number_fault, item_fault, number_faults, row_faults, brush_faults, item_faults, texture_faults, brushes_faults, vertex_faults, triangle_faults, bone_faults, ChunkFaults, finished, refused, spare_at, chunk_at, within, FoundPart, one_faults, set_faults, mesh_faults, kind_faults, move_faults, nodes_faults, node_faults, body_faults, length_fault, file_faults}
use Rattle.b3d_mend_faults.proofs.AgreeLaws.{Agrees, Values, Any, bind_agrees, more_agrees, weak_agrees, same_agrees, plain_agrees, if_agrees, either_agrees, moved, At}
use Rattle.b3d_mend_faults.proofs.SharedLaws.{items_agree, Own, Moving, seen, inside_seen, end_agrees}

-- ---- numbers

-- a number is refused where it does not keep its rule
abbrev Refused : (Rule → ℕ → ℕ → FaultReading (Unit {0})) → Type 0
Refused one = (r : Rule) (p w : ℕ) → Agrees false Any (one r p w) (check (holds r w) (refusal r) p)

checked : (b : Bool) (n p : ℕ) (m : FaultReading (Unit {0})) → Agrees {B = Unit {0}} false Any m (reject n p) → Agrees false Any (if b (gives tt) m) (check b n p)
unfolding check if
checked true n p m h = tt
checked false n p m h = h

number_read : Refused number_fault
unfolding number_fault
number_read r p w = checked (holds r w) (refusal r) p (if (may_be_none r) _ _) (either_agrees false Any (may_be_none r) _ _ (reject (refusal r) p) refl refl)

item-read : Refused item_fault
unfolding item_fault
item-read r p w = checked (holds r w) (refusal r) p _ refl

module _ (one : Rule → ℕ → ℕ → FaultReading (Unit {0})) (ok : Refused one) where
  numbers-read : {A B : Type 0} (R : A → B → Type 0) (rs : List Rule) (p : ℕ) (ws : List ℕ) (a : A) (b : B) → R a b → Agrees false (Values R) (number_faults one rs p ws a) (judged rs p ws b)
  unfolding number_faults judged
  numbers-read R [] p ws a b h = h
  numbers-read R (r ∷ rs) p [] a b h = h
  numbers-read R (r ∷ rs) p (w ∷ ws) a b h = bind_agrees false Any (Values R) (one r p w) (check (holds r w) (refusal r) p) _ _ (ok r p w) (λ l u v t. numbers-read R rs (p + 4) ws a b h)

  row_read : (rs : List Rule) (p : ℕ) (s : List ℕ) → Agrees false At (row_faults one rs p s) (row rs p s)
  unfolding row_faults row
  row_read rs p s = same_agrees false At (words p (length rs) p s) _ _ (λ x e. numbers-read (At []) rs p x.value x x (refl, refl))

brush-read : (rs : List Rule) (p : ℕ) (s : List ℕ) → Agrees false At (brush_faults rs p s) (named rs p s)
unfolding brush_faults named
brush-read rs p s =
    same_agrees false At (text p p s) _ _ (λ n e.
    same_agrees false At (words p (length rs) n.place n.left) _ _ (λ x e₁. numbers-read number_fault number_read (At []) rs n.place x.value x _ (refl, refl)))

-- ---- chunks that hold items only

-- n items
abbrev Many : {B : Type 0} → ℕ → List B → Type 0
Many n l = n ≡ length l

-- items that leave off where they do in the file
module _ {A B : Type 0} (item : ℕ → List ℕ → FaultReading (Step A)) (read : ℕ → List ℕ → Result (Step B)) (one : (p : ℕ) (s : List ℕ) → Agrees false At (item p s) (read p s)) where
  many_read : (p : ℕ) (s : List ℕ) → Agrees false (Values Many) (item_faults item p s) (items read p s)
  many_read =
      items_agree false item read (λ p s l y. Unit {0}) (λ p s l. Many) (λ p. refl) (λ p s f g y n l u e. ap suc e) (λ p s. weak_agrees false At _ (item p s) (read p s) (one p s) (λ l x y e h. (h, tt)))

textures-read : (p : ℕ) (b : List ℕ) → Agrees false (Values Many) (texture_faults p b) (read_textures p b)
unfolding texture_faults
textures-read p b = plain_agrees false (Values Many) (λ l. length l) (read_textures p b) (λ l. refl)

vertices-read : (p : ℕ) (b : List ℕ) → Agrees false (λ (l : List Fault) (n : ℕ) (v : Vertices). n ≡ length v.items) (vertex_faults p b) (read_vertices Lenient p b)
unfolding vertex_faults
vertices-read p b = plain_agrees false _ (λ (v : Vertices). length v.items) (read_vertices Lenient p b) (λ v. refl)

-- n brushes
abbrev Brushes : ℕ → ℕ × List Brush → Type 0
Brushes n v = n ≡ length v.1

brushes-read : (textures p : ℕ) (b : List ℕ) → Agrees false (Values Brushes) (brushes_faults textures p b) (read_brushes Lenient textures p b)
unfolding brushes_faults read_brushes read_brush
brushes-read textures p b =
    same_agrees false (Values Brushes) (row brushes_head (p + 8) b) _ _ (λ h e.
    let rs = brush_row Lenient ++ brush_ids (number h 0) textures in
    more_agrees false (Values Many) (Values Brushes) (item_faults (brush_faults rs) h.place h.left) (items (read_brush Lenient (number h 0) textures) h.place h.left) _
    (many_read (brush_faults rs) (read_brush Lenient (number h 0) textures) (λ q s. more_agrees false At At (brush_faults rs q s) (named rs q s) _ (brush-read rs q s) (λ f x y e. e)) h.place h.left)
    (λ f n l e. e))

triangles-read : (brushes vertices p : ℕ) (b : List ℕ) → Agrees false Any (triangle_faults brushes vertices p b) (read_triangles brushes vertices p b)
unfolding triangle_faults read_triangles
triangles-read brushes vertices p b =
    bind_agrees false At Any (row_faults number_fault (triangles_head brushes) (p + 8) b) (row (triangles_head brushes) (p + 8) b) _ _ (row_read number_fault number_read (triangles_head brushes) (p + 8) b) (λ l x y h.
    let m = item_faults (row_faults item_fault (triangle_row vertices)) x.place x.left in
    more_agrees false (Values Many) Any m (items (row (triangle_row vertices)) y.place y.left) _
    (moved false (Values Many) m (items (row (triangle_row vertices))) x.place y.place x.left y.left h.0 h.1
    (many_read (row_faults item_fault (triangle_row vertices)) (row (triangle_row vertices)) (row_read item_fault item-read (triangle_row vertices)) x.place x.left))
    (λ f n l e. tt))

bone-read : (vertices p : ℕ) (b : List ℕ) → Agrees false (Values Many) (bone_faults vertices p b) (read_bone vertices p b)
unfolding bone_faults read_bone
bone-read vertices p b = many_read (row_faults item_fault (weight_row vertices)) (row (weight_row vertices)) (row_read item_fault item-read (weight_row vertices)) (p + 8) b

-- ---- chunks among others

-- a value, and the same chunks after it
abbrev Beside : {A B : Type 0} → (A → B → Type 0) → List Fault → FoundPart A → Found B → Type 0
Beside R l x y = R x.value y.value × (y.rest ≡ seen false x.rest)

module _ {A B : Type 0} (k : Tag) (a : A) (b : B) (one : ℕ → List ℕ → FaultReading A) (read : ℕ → List ℕ → Result B) (R : A → B → Type 0) (absent : R a b)
    (h : (p : ℕ) (s : List ℕ) → Agrees false (Values R) (one p s) (read p s)) where
  one_of : (l : ChunkFaults) → Agrees false (Beside R) (one_faults k a one l) (read_one k b read (seen false l))
  unfolding one_faults read_one
  one_of finished = (absent, refl)
  one_of (refused n p) = refl
  one_of (spare_at p l) = refl
  one_of (chunk_at t p s r) =
      if_agrees false (Beside R) (is t k) _ _ _ _ (bind_agrees false (Values R) (Beside R) (one p s) (read p s) _ _ (h p s) (λ l x y e. (e, refl))) (absent, refl)

  one-read : (l : ChunkFaults) (c : Chunks) → c ≡ seen false l → Agrees false (Beside R) (one_faults k a one l) (read_one k b read c)
  one-read l c e = subst (λ (z : Chunks). Agrees false (Beside R) (one_faults k a one l) (read_one k b read z)) (sym e) (one_of l)

sets_of : (brushes vertices : ℕ) (l : ChunkFaults) → Agrees false Any (set_faults brushes vertices l) (read_sets brushes vertices (seen false l))
unfolding set_faults read_sets
sets_of brushes vertices finished = tt
sets_of brushes vertices (refused n p) = refl
sets_of brushes vertices (spare_at p l) = refl
sets_of brushes vertices (chunk_at t p s r) =
    bind_agrees false Any Any (triangle_faults brushes vertices p s) (read_triangles brushes vertices p s) _ _ (triangles-read brushes vertices p s) (λ f x y u.
    more_agrees false Any Any (set_faults brushes vertices r) (read_sets brushes vertices (seen false r)) _ (sets_of brushes vertices r) (λ f i l v. tt))

sets-read : (brushes n m : ℕ) (l : ChunkFaults) (c : Chunks) → n ≡ m → c ≡ seen false l → Agrees false Any (set_faults brushes n l) (read_sets brushes m c)
sets-read brushes n m l c e f =
    subst (λ (z : Chunks). Agrees false Any (set_faults brushes n l) (read_sets brushes m z)) (sym f)
    (subst (λ (i : ℕ). Agrees false Any (set_faults brushes n l) (read_sets brushes i (seen false l))) e (sets_of brushes n l))

-- a mesh with n vertices
abbrev Corners : ℕ → Mesh → Type 0
Corners n m = n ≡ length m.vertices

mesh-read : (brushes p : ℕ) (b : List ℕ) → Agrees false (Values Corners) (mesh_faults brushes p b) (read_mesh Lenient brushes p b)
unfolding mesh_faults read_mesh
mesh-read brushes p b =
    bind_agrees false At (Values Corners) (row_faults number_fault (mesh_head brushes) (p + 8) b) (row (mesh_head brushes) (p + 8) b) _ _ (row_read number_fault number_read (mesh_head brushes) (p + 8) b) (λ l x y h.
    bind_agrees false (Beside (λ (n : ℕ) (v : Vertices). n ≡ length v.items)) (Values Corners) (one_faults VRTS 0 vertex_faults (within MESH p x.place x.left)) (read_one VRTS no_vertices (read_vertices Lenient) (inside MESH p y.place y.left)) _ _
    (one-read VRTS 0 no_vertices vertex_faults (read_vertices Lenient) _ refl vertices-read (within MESH p x.place x.left) (inside MESH p y.place y.left)
    (ap₂ (inside MESH p) h.0 h.1 ∙ inside_seen MESH p x.place x.left)) (λ f v w g.
    bind_agrees false Any (Values Corners) (set_faults brushes v.value v.rest) (read_sets brushes (length w.value.items) w.rest) _ _
    (sets-read brushes v.value (length w.value.items) v.rest w.rest g.0 g.1) (λ i u m t. g.0)))

kind-of : (brushes vertices : ℕ) (l : ChunkFaults) → Agrees false (Beside Own) (kind_faults brushes vertices l) (read_kind Lenient brushes vertices (seen false l))
unfolding kind_faults read_kind a_mesh a_bone
kind-of brushes vertices finished = (refl, refl)
kind-of brushes vertices (refused n p) = refl
kind-of brushes vertices (spare_at p l) = refl
kind-of brushes vertices (chunk_at t p s r) =
    if_agrees false (Beside Own) (is t MESH) _ _ _ _ (bind_agrees false (Values Corners) (Beside Own) (mesh_faults brushes p s) (read_mesh Lenient brushes p s) _ _ (mesh-read brushes p s) (λ l n m e. (e, refl)))
    (if_agrees false (Beside Own) (is t BONE) _ _ _ _ (bind_agrees false (Values Many) (Beside Own) (bone_faults vertices p s) (read_bone vertices p s) _ _ (bone-read vertices p s) (λ l n m e. (refl, refl)))
    (refl, refl))

moves_of : (b : Bool) (before : Anim) → b ≡ animated before → (l : ChunkFaults) → Agrees false (Beside Moving) (move_faults b l) (read_animation before (seen false l))
unfolding move_faults read_animation with_keys
moves_of b before e finished = (e, refl)
moves_of b before e (refused n p) = refl
moves_of b before e (spare_at p l) = refl
moves_of b before e (chunk_at t p s r) =
    if_agrees false (Beside Moving) (is t KEYS) _ _ _ _
    (same_agrees false (Beside Moving) (read_keys p s) _ _ (λ k ek. more_agrees false (Beside Moving) (Beside Moving) (move_faults b r) (read_animation before (seen false r)) _ (moves_of b before e r) (λ l x y h. h)))
    (if_agrees false (Beside Moving) (is t ANIM) _ _ _ _ (same_agrees false (Beside Moving) (read_anim p s) _ _ (λ ws ew. moves_of true (anim ws) refl r)) (e, refl))

-- ---- nodes

module _ (one : ℕ → List ℕ → FaultReading (Unit {0})) (read : ℕ → List ℕ → Result Inner) (h : (p : ℕ) (s : List ℕ) → Agrees false Any (one p s) (read p s)) where
  nodes-of : (l : ChunkFaults) → Agrees false Any (nodes_faults one l) (read_nodes read (seen false l))
  unfolding nodes_faults read_nodes
  nodes-of finished = tt
  nodes-of (refused n p) = refl
  nodes-of (spare_at p l) = refl
  nodes-of (chunk_at t p s r) =
      bind_agrees false Any Any (one p s) (read p s) _ _ (h p s) (λ f x y u. more_agrees false Any Any (nodes_faults one r) (read_nodes read (seen false r)) _ (nodes-of r) (λ g i l v. tt))

node-read : (l brushes : ℕ) (above : Option ℕ) (p : ℕ) (b : List ℕ) → Agrees false Any (node_faults l brushes above p b) (read_node Lenient l brushes above p b)
unfolding node_faults read_node read_below
node-read zero brushes above p b = refl
node-read (suc l) brushes above p b =
    same_agrees false Any (named node_row (p + 8) b) _ _ (λ h eh.
    let w = within NODE p h.place h.left in
    bind_agrees false (Beside Own) Any (kind_faults brushes (bone_limit above) w) (read_kind Lenient brushes (bone_limit above) (inside NODE p h.place h.left)) _ _
    (subst (λ (z : Chunks). Agrees false (Beside Own) (kind_faults brushes (bone_limit above) w) (read_kind Lenient brushes (bone_limit above) z)) (sym (inside_seen NODE p h.place h.left))
    (kind-of brushes (bone_limit above) w)) (λ lk k k' g.
    bind_agrees false (Beside Moving) Any (move_faults false k.rest) (read_animation no_anim k'.rest) _ _
    (subst (λ (z : Chunks). Agrees false (Beside Moving) (move_faults false k.rest) (read_animation no_anim z)) (sym g.1) (moves_of false no_anim refl k.rest)) (λ lm m m' i.
    let told = bone_limit_from above m.value k.value in
    let d : Data = record { name = h.value.0; words = h.value.1; kind = k'.value; keys = m'.value.keys; anim = m'.value.anim } in
    let et : told ≡ bone_limit_below above d = ap₂ (bone_limit_from above) i.0 g.0 in
    more_agrees false Any Any (nodes_faults (node_faults l brushes told) m.rest) (read_nodes (read_node Lenient l brushes (bone_limit_below above d)) m'.rest) _
    (subst (λ (z : Chunks). Agrees false Any (nodes_faults (node_faults l brushes told) m.rest) (read_nodes (read_node Lenient l brushes (bone_limit_below above d)) z)) (sym i.1)
    (subst (λ (o : Option ℕ). Agrees false Any (nodes_faults (node_faults l brushes told) m.rest) (read_nodes (read_node Lenient l brushes o) (seen false m.rest))) et
    (nodes-of (node_faults l brushes told) (read_node Lenient l brushes told) (node-read l brushes told) m.rest)))
    (λ l u f t. tt))))

-- ---- the file

body-read : (p : ℕ) (b : List ℕ) → Agrees false Any (body_faults p b) (read_body Lenient p b)
unfolding body_faults read_body read_root
body-read p b =
    same_agrees false Any (row file_head p b) _ _ (λ h eh.
    let w = within BB3D 0 h.place h.left in
    bind_agrees false (Beside Many) Any (one_faults TEXS 0 texture_faults w) (read_one TEXS [] read_textures (inside BB3D 0 h.place h.left)) _ _
    (one-read TEXS 0 [] texture_faults read_textures Many refl textures-read w (inside BB3D 0 h.place h.left) (inside_seen BB3D 0 h.place h.left)) (λ lt t t' gt.
    bind_agrees false (Beside Brushes) Any (one_faults BRUS 0 (brushes_faults t.value) t.rest) (read_one BRUS (0, []) (read_brushes Lenient (length t'.value)) t'.rest) _ _
    (one-read BRUS 0 (0, []) (brushes_faults t.value) (read_brushes Lenient (length t'.value)) Brushes refl
    (subst (λ (n : ℕ). (q : ℕ) (s : List ℕ) → Agrees false (Values Brushes) (brushes_faults t.value q s) (read_brushes Lenient n q s)) gt.0 (brushes-read t.value)) t.rest t'.rest gt.1) (λ lu u u' gu.
    bind_agrees false (Beside (Any [])) Any (one_faults NODE tt (node_faults levels u.value none) u.rest) (read_one NODE no_nodes (read_root Lenient (length u'.value.1)) u'.rest) _ _
    (one-read NODE tt no_nodes (node_faults levels u.value none) (read_root Lenient (length u'.value.1)) (Any []) tt
    (subst (λ (n : ℕ). (q : ℕ) (s : List ℕ) → Agrees false Any (node_faults levels u.value none q s) (read_root Lenient n q s)) gu.0
    (λ q s. more_agrees false Any Any (node_faults levels u.value none q s) (read_node Lenient levels u.value none q s) _ (node-read levels u.value none q s) (λ l i j v. tt))) u.rest u'.rest gu.1) (λ ln n n' gn.
    end_agrees false n.rest n'.rest _ gn.1))))

length-read : (b : Bool) → Agrees false Any (length_fault b) (check b 2 4)
unfolding length_fault check
length-read true = tt
length-read false = refl

pub file-read : (s : List ℕ) → Agrees false Any (file_faults s) (parse Lenient s)
unfolding file_faults parse
file-read s =
    same_agrees false Any (check (size_fits (length s)) 1 0) _ _ (λ u eu.
    same_agrees false Any (row header 0 s) _ _ (λ h eh.
    same_agrees false Any (check (eqb (number h 0) (code BB3D)) 2 0) _ _ (λ v ev.
    bind_agrees false Any Any (length_fault (eqb (number h 1) (length h.left))) (check (eqb (number h 1) (length h.left)) 2 4) _ _ (length-read (eqb (number h 1) (length h.left))) (λ l x y t.
    body-read h.place h.left))))
