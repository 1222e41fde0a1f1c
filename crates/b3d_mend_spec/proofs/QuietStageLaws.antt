-- What is found among chunks, beside its mending: meshes, nodes, and the file.
use mathlib.Core.Path.{◌≡◌, refl, ap, ap₂, sym, ◌∙◌, subst}
use mathlib.Core.Logic.{inl, inr}
use Prim.Native.Nat.{ℕ, zero, suc, ◌+◌}
use mathlib.Core.Option.{Option, none}
use mathlib.Core.List.{List, [], ◌∷◌, ◌++◌}
use lib.ListN.{length, get_or}
use Rattle.wire.specs.Bytes.{bytes}
use Rattle.layout.specs.Chunks.{done, stop, chunk}
use Rattle.layout.specs.Result.{Result, accept, reject, ◌>>=◌}
use Rattle.layout.specs.Parts.{Step, row, named}
use Rattle.layout.specs.Rules.{Rule}
use Rattle.layout.specs.Write.{write_words, write_text}
use Rattle.layout.proofs.AllLaws.{All, all_append}
use Rattle.layout.proofs.PartLaws.{words_append, row_fine, named-fine}
use Rattle.b3d_spec.specs.declared.Mode.TheVariants.{Lenient}
use Rattle.b3d_spec.specs.Nesting.{inside}
use Rattle.b3d_spec.specs.Parse.{read_one, Vertices, no_vertices, read_vertices, read_triangles, read_sets, read_mesh, read_bone, read_keys, read_anim, a_mesh, a_bone, read_kind, Animation, with_keys as with_keys_read, read_animation, Inner, read_nodes, read_below, read_node, read_root}
use Rattle.b3d_spec.specs.Rules.{mesh_head, node_row, bone_limit, bone_limit_below, levels}
use Rattle.b3d_spec.specs.Scene.{TriangleSet, Mesh, Kind, pivot, mesh, bone, Keys, Anim, no_anim, anim, Forest, no_nodes, node}
use Rattle.b3d_spec.specs.Tags.{is, Chunks, Found}
use Rattle.b3d_spec.specs.declared.Tag.{Tag}
use Rattle.b3d_spec.specs.declared.Tag.TheVariants.{NODE, MESH, VRTS, BONE, KEYS, ANIM}
use Rattle.b3d_mend_spec.specs.Edits.{Edit, after}
use Rattle.b3d_mend_spec.specs.Mend.{Mended, mend_row, as_read, mend_triangles, mend_bone, Taken, found, nothing, mend_one, mend_sets, mesh_of, mend_mesh, mend_kind, with_keys, with_anim, mend_moves, mend_nodes, data_of, mend_node, mend_root}
use Rattle.b3d_mend_spec.specs.Pieces.{pieces, woven}
use Rattle.b3d_mend_spec.proofs.AgreeLaws.{Beside, bind_beside, bind_beside-eq, same_beside, moved, if-beside}
use Rattle.b3d_mend_spec.proofs.EditLaws.{Quiet, keep_quiet}
use Rattle.b3d_mend_spec.proofs.LeafLaws.{plain, row_exact, named_exact}
use Rattle.b3d_mend_spec.proofs.NodeLaws.{bare_inner, node-mend, named_joins}
use Rattle.b3d_mend_spec.proofs.PieceLaws.{Fine, FineC, within}
use Rattle.b3d_mend_spec.proofs.QuietLeafLaws.{Left, Leaves, with_length, vertices_leave, keys_leave, anim_leave, triangles_leave, bone_leave, Alike, within-alike, inside-fine, Hush, inside_quiet}
use Rattle.b3d_mend_spec.proofs.QuietPartLaws.{Same, SameStep, row-beside}
use Rattle.b3d_mend_spec.proofs.StageLaws.{left-fine, mesh-mend}

-- ---- something, and the chunks after it

pub record Both {A : Type 0} (cs : Chunks) (v : Found A) (x : Taken A) : Type 0 where
  pub value_same : x.value ≡ v.value
  pub fine : FineC v.rest
  pub alike : Alike v.rest x.rest
  pub hush : (ys : List (List Edit)) → Hush v.rest ys → Hush cs (x.bodies ++ ys)

-- nothing found
none_both : {A : Type 0} (a : A) (cs c : Chunks) → FineC cs → Alike cs c → Both {A = A} cs (record { value = a; rest = cs }) (nothing a c)
none_both a cs c f h = record { value_same = refl; fine = f; alike = h; hush = λ ys k. k }

module _ {A : Type 0} (k : Tag) (a : A) (read : ℕ → List ℕ → Result A) (one : ℕ → List ℕ → Result (Mended A)) (leaves : Leaves read one) where
  one-here : (t : Tag) (p : ℕ) (b : List ℕ) (r z : Chunks) → FineC (chunk t p b r) → Alike r z → Beside (Both (chunk t p b r)) (read_one k a read (chunk t p b r)) (mend_one k a one (chunk t p b z))
  unfolding read_one mend_one found
  one-here t p b r z f h =
      if-beside (Both (chunk t p b r)) (is t k) _ _ _ _
      (λ u. bind_beside (Left b) (Both (chunk t p b r)) (read p b) (one p b) _ _ (leaves p b f.0) (λ v m l.
      record { value_same = l.0; fine = f.1; alike = h; hush = λ ys q. (l.1, l.2, q) }))
      (none_both a (chunk t p b r) (chunk t p b z) f (z, refl, h))

  pub one-beside : (cs c : Chunks) → FineC cs → Alike cs c → Beside (Both cs) (read_one k a read cs) (mend_one k a one c)
  unfolding read_one mend_one
  one-beside done c f h = subst (λ (z : Chunks). Beside (Both done) (read_one k a read done) (mend_one k a one z)) (sym h) (none_both a done done tt refl)
  one-beside (stop n p) c f h = elim h [ inl i ↦ inl i | inr e ↦ inr (ap (mend_one k a one) e) ]
  one-beside (chunk t p b r) c f h =
      subst (λ (z : Chunks). Beside (Both (chunk t p b r)) (read_one k a read (chunk t p b r)) (mend_one k a one z)) (sym h.1) (one-here t p b r h.0 f h.2)

-- ---- TRIS

abbrev SetsSame : Chunks → List TriangleSet → List TriangleSet × List (List Edit) → Type 0
SetsSame cs l x = (x.0 ≡ l) × Hush cs x.1

sets-beside : (brushes vertices : ℕ) (cs c : Chunks) → FineC cs → Alike cs c → Beside (SetsSame cs) (read_sets brushes vertices cs) (mend_sets brushes vertices c)
unfolding read_sets mend_sets
sets-beside brushes vertices done c f h = subst (λ (z : Chunks). Beside (SetsSame done) (read_sets brushes vertices done) (mend_sets brushes vertices z)) (sym h) (refl, tt)
sets-beside brushes vertices (stop n p) c f h = elim h [ inl i ↦ inl i | inr e ↦ inr (ap (mend_sets brushes vertices) e) ]
sets-beside brushes vertices (chunk t p b r) c f h =
    subst (λ (z : Chunks). Beside (SetsSame (chunk t p b r)) (read_sets brushes vertices (chunk t p b r)) (mend_sets brushes vertices z)) (sym h.1)
    (bind_beside (Left b) (SetsSame (chunk t p b r)) (read_triangles brushes vertices p b) (mend_triangles brushes vertices p b) _ _ (triangles_leave brushes vertices p b f.0) (λ v m g.
    bind_beside (SetsSame r) (SetsSame (chunk t p b r)) (read_sets brushes vertices r) (mend_sets brushes vertices h.0) _ _ (sets-beside brushes vertices r h.0 f.1 h.2) (λ l x k.
    (ap₂ ◌∷◌ g.0 k.0, (g.1, g.2, k.1)))))

-- ---- MESH

-- what is left after fixed data
pub row-left : (rs : List Rule) (p : ℕ) (b : List ℕ) (x : Step (List ℕ)) → Fine b → row rs p b ≡ accept x → Fine x.left
row-left rs p b x f e =
    left-fine (write_words x.value []) x.left b (sym (words_append x.value x.left) ∙ row_exact rs p b x f.0 e) (row_fine rs p b x f.0 e).bytes f.1

-- what is inside, at q: as it is read, and as it is mended
abbrev mesh_read : ℕ → ℕ → ℕ → List ℕ → List ℕ → Result Mesh
mesh_read brushes p q s ws =
    read_one VRTS no_vertices (read_vertices Lenient) (inside MESH p q s) >>= λ v. read_sets brushes (length v.value.items) v.rest >>= λ l.
    accept (record { brush = get_or ws 0 0; flags = v.value.flags; sets = v.value.sets; size = v.value.size; vertices = v.value.items; triangle_sets = l })

abbrev mesh_mend : ℕ → ℕ → ℕ → List ℕ → Mended (List ℕ) → Result (Mended Mesh)
mesh_mend brushes p q s m =
    mend_one VRTS no_vertices (as_read (read_vertices Lenient)) (within MESH p q s) >>= λ v. mend_sets brushes (length v.value.items) v.rest >>= λ l.
    accept (record { value = mesh_of (get_or m.value 0 0) v.value l.0; edits = m.edits ++ woven (pieces q s) (v.bodies ++ l.1) })

mesh-same : (ws vs : List ℕ) (v w : Vertices) (l m : List TriangleSet) → ws ≡ vs → w ≡ v → m ≡ l → mesh_of (get_or ws 0 0) w m ≡ mesh_of (get_or vs 0 0) v l
mesh-same ws vs v w l m e f g = cc (e, f, g)

mesh-at : (brushes p q : ℕ) (s ws : List ℕ) (m : Mended (List ℕ)) → Fine s → Same ws m → Beside Same (mesh_read brushes p q s ws) (mesh_mend brushes p q s m)
unfolding mesh_of
mesh-at brushes p q s ws m f h =
    let cs = inside MESH p q s in
    let c = within MESH p q s in
    bind_beside (Both cs) Same (read_one VRTS no_vertices (read_vertices Lenient) cs) (mend_one VRTS no_vertices (as_read (read_vertices Lenient)) c) _ _
    (one-beside VRTS no_vertices (read_vertices Lenient) (as_read (read_vertices Lenient)) vertices_leave cs c (inside-fine MESH p q s f) (within-alike MESH p q s))
    (λ v w g.
    bind_beside (SetsSame v.rest) Same (read_sets brushes (length v.value.items) v.rest) (mend_sets brushes (length w.value.items) w.rest) _ _
    (subst (λ (u : Vertices). Beside (SetsSame v.rest) (read_sets brushes (length v.value.items) v.rest) (mend_sets brushes (length u.items) w.rest)) (sym g.value_same)
    (sets-beside brushes (length v.value.items) v.rest w.rest g.fine g.alike))
    (λ l z k. (
      mesh-same m.value ws v.value w.value l z.0 h.0 g.value_same k.0,
      all_append Quiet m.edits (woven (pieces q s) (w.bodies ++ z.1)) h.1 (inside_quiet MESH p q s (w.bodies ++ z.1) (g.hush z.1 k.1)),
    )))

mesh-beside : (brushes p : ℕ) (b : List ℕ) → Fine b → Beside Same (read_mesh Lenient brushes p b) (mend_mesh brushes p b)
unfolding read_mesh mend_mesh
mesh-beside brushes p b f =
    bind_beside-eq SameStep Same (row (mesh_head brushes) (p + 8) b) (mend_row (mesh_head brushes) (p + 8) b) _ _ (row-beside (mesh_head brushes) (p + 8) b) (λ x y ex ey h.
    moved Same (mesh_read brushes p x.place x.left x.value) (λ q s. mesh_mend brushes p q s y.value) x.place y.place x.left y.left h.1 h.2
    (mesh-at brushes p x.place x.left x.value y.value (row-left (mesh_head brushes) (p + 8) b x f ex) h.0))

pub mesh_leave : (brushes : ℕ) → Leaves (read_mesh Lenient brushes) (mend_mesh brushes)
mesh_leave brushes = with_length plain (read_mesh Lenient brushes) (mend_mesh brushes) (mesh-mend brushes) (mesh-beside brushes)

-- ---- a MESH or a BONE

kind-valid : (brushes vertices : ℕ) (t : Tag) (p : ℕ) (b : List ℕ) (r z : Chunks) → FineC (chunk t p b r) → Alike r z
    → Beside (Both (chunk t p b r)) (read_kind Lenient brushes vertices (chunk t p b r)) (mend_kind brushes vertices (chunk t p b z))
unfolding read_kind a_mesh a_bone mend_kind found
kind-valid brushes vertices t p b r z f h =
    if-beside (Both (chunk t p b r)) (is t MESH) _ _ _ _
    (λ u. bind_beside (Left b) (Both (chunk t p b r)) (read_mesh Lenient brushes p b) (mend_mesh brushes p b) _ _ (mesh_leave brushes p b f.0) (λ v m l.
    record { value_same = ap mesh l.0; fine = f.1; alike = h; hush = λ ys q. (l.1, l.2, q) }))
    (if-beside (Both (chunk t p b r)) (is t BONE) _ _ _ _
    (λ u. bind_beside (Left b) (Both (chunk t p b r)) (read_bone vertices p b) (mend_bone vertices p b) _ _ (bone_leave vertices p b f.0) (λ v m l.
    record { value_same = ap bone l.0; fine = f.1; alike = h; hush = λ ys q. (l.1, l.2, q) }))
    (none_both pivot (chunk t p b r) (chunk t p b z) f (z, refl, h)))

kind-beside : (brushes vertices : ℕ) (cs c : Chunks) → FineC cs → Alike cs c → Beside (Both cs) (read_kind Lenient brushes vertices cs) (mend_kind brushes vertices c)
unfolding read_kind mend_kind
kind-beside brushes vertices done c f h = subst (λ (z : Chunks). Beside (Both done) (read_kind Lenient brushes vertices done) (mend_kind brushes vertices z)) (sym h) (none_both pivot done done tt refl)
kind-beside brushes vertices (stop n p) c f h = elim h [ inl i ↦ inl i | inr e ↦ inr (ap (mend_kind brushes vertices) e) ]
kind-beside brushes vertices (chunk t p b r) c f h =
    subst (λ (z : Chunks). Beside (Both (chunk t p b r)) (read_kind Lenient brushes vertices (chunk t p b r)) (mend_kind brushes vertices z)) (sym h.1) (kind-valid brushes vertices t p b r h.0 f h.2)

-- ---- KEYS and ANIM

moves-here : (seen : Anim) (t : Tag) (p : ℕ) (b : List ℕ) (r z : Chunks) → FineC (chunk t p b r) → Alike r z
    → ((s : Anim) → Beside (Both r) (read_animation s r) (mend_moves s z)) → Beside (Both (chunk t p b r)) (read_animation seen (chunk t p b r)) (mend_moves seen (chunk t p b z))
unfolding read_animation with_keys_read mend_moves with_keys with_anim
moves-here seen t p b r z f h go =
    if-beside (Both (chunk t p b r)) (is t KEYS) _ _ _ _
    (λ u. bind_beside (Left b) (Both (chunk t p b r)) (read_keys p b) (as_read read_keys p b) _ _ (keys_leave p b f.0) (λ v m l.
    bind_beside (Both r) (Both (chunk t p b r)) (read_animation seen r) (mend_moves seen z) _ _ (go seen) (λ w x k.
    record {
      value_same = ap₂ (λ (i : Keys) (j : Animation). record { keys = i ∷ j.keys; anim = j.anim }) l.0 k.value_same;
      fine = k.fine;
      alike = k.alike;
      hush = λ ys q. (l.1, l.2, k.hush ys q);
    })))
    (if-beside (Both (chunk t p b r)) (is t ANIM) _ _ _ _
    (λ u. bind_beside (Left b) (Both (chunk t p b r)) (read_anim p b) (as_read read_anim p b) _ _ (anim_leave p b f.0) (λ v m l.
    anim-more (read_animation (anim v) r) (mend_moves (anim m.value) z) m l.1 l.2
    (subst (λ (s : List ℕ). Beside (Both r) (read_animation (anim v) r) (mend_moves (anim s) z)) (sym l.0) (go (anim v)))))
    (none_both (record { keys = []; anim = seen }) (chunk t p b r) (chunk t p b z) f (z, refl, h)))
  where
    anim-more : (o : Result (Found Animation)) (q : Result (Taken Animation)) (m : Mended (List ℕ)) → All Quiet m.edits → length b ≡ length (after m.edits) → Beside (Both r) o q
        → Beside (Both (chunk t p b r)) o (q >>= λ x. accept (record { value = x.value; bodies = m.edits ∷ x.bodies; rest = x.rest }))
    anim-more (accept w) (accept x) m a e k = record { value_same = k.value_same; fine = k.fine; alike = k.alike; hush = λ ys q. (a, e, k.hush ys q) }
    anim-more (accept w) (reject n i) m a e k = absurd k
    anim-more (reject n i) q m a e k = elim k [ inl j ↦ inl j | inr g ↦ inr (ap (λ (x : Result (Taken Animation)). x >>= λ y. accept (record { value = y.value; bodies = m.edits ∷ y.bodies; rest = y.rest })) g) ]

moves-beside : (seen : Anim) (cs c : Chunks) → FineC cs → Alike cs c → Beside (Both cs) (read_animation seen cs) (mend_moves seen c)
unfolding read_animation mend_moves
moves-beside seen done c f h = subst (λ (z : Chunks). Beside (Both done) (read_animation seen done) (mend_moves seen z)) (sym h) (none_both (record { keys = []; anim = seen }) done done tt refl)
moves-beside seen (stop n p) c f h = elim h [ inl i ↦ inl i | inr e ↦ inr (ap (mend_moves seen) e) ]
moves-beside seen (chunk t p b r) c f h =
    subst (λ (z : Chunks). Beside (Both (chunk t p b r)) (read_animation seen (chunk t p b r)) (mend_moves seen z)) (sym h.1)
    (moves-here seen t p b r h.0 f h.2 (λ s. moves-beside s r h.0 f.1 h.2))

-- ---- nodes

abbrev NodesSame : Chunks → Forest → Forest × List (List Edit) → Type 0
NodesSame cs l x = (x.0 ≡ l) × Hush cs x.1

nodes-beside : (read : ℕ → List ℕ → Result Inner) (one : ℕ → List ℕ → Result (Mended Inner)) → Leaves read one → (cs c : Chunks) → FineC cs → Alike cs c → Beside (NodesSame cs) (read_nodes read cs) (mend_nodes one c)
unfolding read_nodes mend_nodes
nodes-beside read one leaves done c f h = subst (λ (z : Chunks). Beside (NodesSame done) (read_nodes read done) (mend_nodes one z)) (sym h) (refl, tt)
nodes-beside read one leaves (stop n p) c f h = elim h [ inl i ↦ inl i | inr e ↦ inr (ap (mend_nodes one) e) ]
nodes-beside read one leaves (chunk t p b r) c f h =
    subst (λ (z : Chunks). Beside (NodesSame (chunk t p b r)) (read_nodes read (chunk t p b r)) (mend_nodes one z)) (sym h.1)
    (bind_beside (Left b) (NodesSame (chunk t p b r)) (read p b) (one p b) _ _ (leaves p b f.0) (λ v m g.
    bind_beside (NodesSame r) (NodesSame (chunk t p b r)) (read_nodes read r) (mend_nodes one h.0) _ _ (nodes-beside read one leaves r h.0 f.1 h.2) (λ l x k.
    (ap₂ (λ (i : Inner) (j : Forest). node i.self i.below j) g.0 k.0, (g.1, g.2, k.1)))))

module _ (l brushes : ℕ) (below : (above : Option ℕ) → Leaves (read_node Lenient l brushes above) (mend_node l brushes above)) where
  node-valid : (above : Option ℕ) (p : ℕ) (b : List ℕ) → Fine b → Beside Same (read_node Lenient (suc l) brushes above p b) (mend_node (suc l) brushes above p b)
  unfolding read_node read_below mend_node data_of
  node-valid above p b f =
      same_beside Same (named node_row (p + 8) b) _ _ (λ h eh.
      let fl : Fine h.left = left-fine (write_text h.value.0.bytes (write_words h.value.1 [])) h.left b
      (sym (named_joins h.value.0.bytes h.value.1 h.left) ∙ named_exact node_row (p + 8) b h f.0 eh) (named-fine node_row (p + 8) b h f.0 eh).bytes f.1 in
      let cs = inside NODE p h.place h.left in
      let c = within NODE p h.place h.left in
      bind_beside (Both cs) Same (read_kind Lenient brushes (bone_limit above) cs) (mend_kind brushes (bone_limit above) c) _ _
      (kind-beside brushes (bone_limit above) cs c (inside-fine NODE p h.place h.left fl) (within-alike NODE p h.place h.left)) (λ k k' g.
      bind_beside (Both k.rest) Same (read_animation no_anim k.rest) (mend_moves no_anim k'.rest) _ _ (moves-beside no_anim k.rest k'.rest g.fine g.alike) (λ m m' i.
      let told = bone_limit_below above (data_of h.value k.value m.value) in
      let told' = bone_limit_below above (data_of h.value k'.value m'.value) in
      let et : told' ≡ told = ap₂ (λ (x : Kind) (y : Animation). bone_limit_below above (data_of h.value x y)) g.value_same i.value_same in
      bind_beside (NodesSame m.rest) Same (read_nodes (read_node Lenient l brushes told) m.rest) (mend_nodes (mend_node l brushes told') m'.rest) _ _
      (subst (λ (o : Option ℕ). Beside (NodesSame m.rest) (read_nodes (read_node Lenient l brushes told) m.rest) (mend_nodes (mend_node l brushes o) m'.rest)) (sym et)
      (nodes-beside (read_node Lenient l brushes told) (mend_node l brushes told) (below told) m.rest m'.rest i.fine i.alike)) (λ n n' j. (
        cc (g.value_same, i.value_same, j.0),
        (keep_quiet _, inside_quiet NODE p h.place h.left (k'.bodies ++ (m'.bodies ++ n'.1)) (g.hush (m'.bodies ++ n'.1) (i.hush n'.1 j.1))),
      )))))

pub node_leave : (l brushes : ℕ) (above : Option ℕ) → Leaves (read_node Lenient l brushes above) (mend_node l brushes above)
unfolding read_node mend_node
node_leave zero brushes above p b f = inr refl
node_leave (suc l) brushes above p b f = with_length bare_inner (read_node Lenient (suc l) brushes above) (mend_node (suc l) brushes above) (node-mend (suc l) brushes above) (node-valid l brushes (node_leave l brushes) above) p b f

pub root_leave : (brushes : ℕ) → Leaves (read_root Lenient brushes) (mend_root brushes)
unfolding read_root mend_root
root_leave brushes p b f =
    bind_beside (Left b) (Left b) (read_node Lenient levels brushes none p b) (mend_node levels brushes none p b) _ _ (node_leave levels brushes none p b f) (λ v m h.
    (ap (λ (i : Inner). node i.self i.below no_nodes) h.0, h.1, h.2))
