-- Where the mending read gives a value, the walk over a MESH or a NODE gives its edits.
use mathlib.Core.Path.{◌≡◌, refl, ap, ap₂, sym, ◌∙◌, subst}
use Prim.Native.Nat.{ℕ, zero, suc, ◌+◌}
use native.Mathlib.Omega.{arith}
use mathlib.Core.Bool.{Bool, false}
use mathlib.Core.Option.{Option, none}
use mathlib.Core.List.{List, [], ◌∷◌, ◌++◌}
use lib.ListN.{length, drop}
use Rattle.layout.specs.Chunks.{done, stop, chunk}
use Rattle.layout.specs.Result.{Result, accept}
use Rattle.layout.specs.Parts.{Step, words, named}
use Rattle.layout.specs.Write.{write_words, write_text}
use Rattle.layout.proofs.PartLaws.{named-fine}
use Rattle.layout.proofs.ResultLaws.{by_got, by-if, if_yes, if_no, bad_got, got_inj}
use Rattle.layout.proofs.StepLaws.{words-enough}
use Rattle.b3d_spec.specs.declared.Mode.TheVariants.{Lenient}
use Rattle.b3d_spec.specs.Nesting.{start}
use Rattle.b3d_spec.specs.Parse.{Vertices, no_vertices, read_vertices, read_keys, read_anim, Animation, Inner, read_node}
use Rattle.b3d_spec.specs.Rules.{mesh_head, node_row, bone_limit, animated, bone_limit_from, bone_limit_below, own_vertices}
use Rattle.b3d_spec.specs.Scene.{TriangleSet, Mesh, Kind, Anim, no_anim, anim, Forest}
use Rattle.b3d_spec.specs.Tags.{is, Chunks}
use Rattle.b3d_spec.specs.declared.Tag.TheVariants.{NODE, MESH, VRTS, BONE, KEYS, ANIM}
use Rattle.b3d_mend_spec.specs.Edits.{Edit, keep, before}
use Rattle.b3d_mend_spec.specs.Mend.{Mended, mend_words, mend_row, as_read, mend_triangles, Taken, found, mend_one, mend_sets, mend_mesh, mend_bone, mend_kind, with_keys, with_anim, mend_moves, mend_nodes, data_of, mend_node}
use Rattle.b3d_mend_spec.specs.Pieces.{pieces, chunks_of, woven}
use Rattle.b3d_mend_spec.specs.Trees.{vertices_of, set_bodies, mesh_bodies, mesh_edits, own_of, node_bodies, move_bodies, kind_bodies, node_of, node_edits}
use Rattle.b3d_mend_spec.specs.Walks.{word_edits}
use Rattle.b3d_mend_spec.proofs.LeafLaws.{plain, vertices-mend, named_exact}
use Rattle.b3d_mend_spec.proofs.NodeLaws.{named_joins, nodes_stage, node-mend}
use Rattle.b3d_mend_spec.proofs.PartLaws.{row-good}
use Rattle.b3d_mend_spec.proofs.PieceLaws.{Fine, FineC, within, within-fine, order-kept}
use Rattle.b3d_mend_spec.proofs.StageLaws.{one_stage, sets_stage, kind_stage, moves_stage, left-fine}
use Rattle.b3d_mend_spec.proofs.StepLaws.{left_in}
use Rattle.b3d_mend_spec.proofs.WalkLaws.{word-edits, tris-edits, bone-edits}

set-bodies : (brushes vertices : ℕ) (cs : Chunks) (x : List TriangleSet × List (List Edit)) → mend_sets brushes vertices cs ≡ accept x → x.1 ≡ set_bodies brushes vertices cs
unfolding mend_sets set_bodies
set-bodies brushes vertices done x e = ap (λ (z : List TriangleSet × List (List Edit)). z.1) (sym (got_inj e))
set-bodies brushes vertices (stop n p) x e = bad_got e
set-bodies brushes vertices (chunk t p b r) x e =
    by_got (mend_triangles brushes vertices p b) _ e (λ m em e₁.
    by_got (mend_sets brushes vertices r) _ e₁ (λ l el e₂.
    ap (λ (z : List TriangleSet × List (List Edit)). z.1) (sym (got_inj e₂)) ∙ ap₂ ◌∷◌ (tris-edits brushes vertices p b m em) (set-bodies brushes vertices r l el)))

mesh-bodies : (brushes : ℕ) (cs : Chunks) (v : Taken Vertices) (l : List TriangleSet × List (List Edit)) → mend_one VRTS no_vertices (as_read (read_vertices Lenient)) cs ≡ accept v
    → mend_sets brushes (length v.value.items) v.rest ≡ accept l → v.bodies ++ l.1 ≡ mesh_bodies brushes cs
unfolding mend_one found as_read mesh_bodies set_bodies vertices_of
mesh-bodies brushes done v l ev el =
    let q = sym (got_inj ev) in
    ap₂ ◌++◌ (ap (λ (z : Taken Vertices). z.bodies) q) (set-bodies brushes (length v.value.items) v.rest l el ∙ ap (λ (z : Taken Vertices). set_bodies brushes (length z.value.items) z.rest) q ∙ none brushes)
  where
    none : (brushes : ℕ) → set_bodies brushes 0 done ≡ []
    none brushes = refl
mesh-bodies brushes (stop n p) v l ev el = bad_got ev
mesh-bodies brushes (chunk t p b r) v l ev el =
    by-if (is t VRTS) _ _ ev
    (λ u e₁. by_got (as_read (read_vertices Lenient) p b) _ e₁ (λ m em e₂. by_got (read_vertices Lenient p b) _ em (λ w ew e₃.
    let q = sym (got_inj e₂) in
    let k = sym (got_inj e₃) in
    ap₂ ◌++◌ (ap (λ (z : Taken Vertices). z.bodies) q ∙ ap (λ (z : Mended Vertices). z.edits ∷ []) k)
    (set-bodies brushes (length v.value.items) v.rest l el
    ∙ ap (λ (z : Taken Vertices). set_bodies brushes (length z.value.items) z.rest) q
    ∙ ap (λ (z : Mended Vertices). set_bodies brushes (length z.value.items) r) k
    ∙ ap (λ (o : Result Vertices). set_bodies brushes (vertices_of o) r) (sym ew))
    ∙ sym (if_yes (is t VRTS) _ _ u))))
    (λ u e₁.
    let q = sym (got_inj e₁) in
    ap₂ ◌++◌ (ap (λ (z : Taken Vertices). z.bodies) q)
    (set-bodies brushes (length v.value.items) v.rest l el ∙ ap (λ (z : Taken Vertices). set_bodies brushes (length z.value.items) z.rest) q)
    ∙ sym (if_no (is t VRTS) _ _ u))

pub mesh-edits : (brushes p : ℕ) (b : List ℕ) (m : Mended Mesh) → Fine b → mend_mesh brushes p b ≡ accept m → m.edits ≡ mesh_edits brushes p b
unfolding mend_mesh mend_row mesh_edits
mesh-edits brushes p b m f e =
    by_got (mend_row (mesh_head brushes) (p + 8) b) _ e (λ h eh e₁.
    let g = row-good (mesh_head brushes) (p + 8) b h f.0 eh in
    let fl = left-fine (before h.value.edits) h.left b g.given g.bytes f.1 in
    let cs = within MESH p h.place h.left in
    by_got (mend_one VRTS no_vertices (as_read (read_vertices Lenient)) cs) _ e₁ (λ v ev e₂.
    by_got (mend_sets brushes (length v.value.items) v.rest) _ e₂ (λ l el e₃.
    by_got (words (p + 8) 1 (p + 8) b) _ eh (λ y ey e₄.
    by_got (mend_words (mesh_head brushes) (p + 8) y.value) _ e₄ (λ w ew e₅.
    let st = one_stage plain VRTS no_vertices (read_vertices Lenient) (as_read (read_vertices Lenient)) (λ q c n k. vertices-mend q c n k.0) cs v (within-fine MESH p h.place h.left fl) ev in
    let se = sets_stage brushes (length v.value.items) v.rest l st.rest-fine el in
    let kept = order-kept MESH p start (chunks_of (pieces h.place h.left)) (v.bodies ++ l.1) (st.fill l.1 se.fill) in
    let whole = got_inj (sym ey ∙ words-enough (p + 8) 1 (p + 8) b (omega (arith, left_in (p + 8) 1 (p + 8) b y ey))) in
    let q = sym (got_inj e₅) in
    let ep : h.place ≡ p + 8 + 4 = ap (λ (z : Step (Mended (List ℕ))). z.place) q ∙ ap (λ (z : Step (List ℕ)). z.place) whole in
    let eleft : h.left ≡ drop 4 b = ap (λ (z : Step (Mended (List ℕ))). z.left) q ∙ ap (λ (z : Step (List ℕ)). z.left) whole in
    let bodies : v.bodies ++ l.1 ≡ mesh_bodies brushes (chunks_of (pieces h.place h.left)) = mesh-bodies brushes cs v l ev el ∙ ap (mesh_bodies brushes) kept.same in
    ap (λ (z : Mended Mesh). z.edits) (sym (got_inj e₃))
    ∙ ap₂ ◌++◌ (ap (λ (z : Step (Mended (List ℕ))). z.value.edits) q ∙ word-edits (mesh_head brushes) (p + 8) y.value w ew ∙ ap (λ (z : Step (List ℕ)). word_edits (mesh_head brushes) z.value) whole)
    (ap (woven (pieces h.place h.left)) bodies
    ∙ ap₂ (λ (i : ℕ) (s : List ℕ). woven (pieces i s) (mesh_bodies brushes (chunks_of (pieces i s)))) ep eleft))))))

-- ---- nodes

node-bodies : (fix : ℕ → List ℕ → Result (Mended Inner)) (one : ℕ → List ℕ → List Edit) → ((p : ℕ) (b : List ℕ) (m : Mended Inner) → Fine b → fix p b ≡ accept m → m.edits ≡ one p b)
    → (cs : Chunks) (x : Forest × List (List Edit)) → FineC cs → mend_nodes fix cs ≡ accept x → x.1 ≡ node_bodies one cs
unfolding mend_nodes node_bodies
node-bodies fix one h done x f e = ap (λ (z : Forest × List (List Edit)). z.1) (sym (got_inj e))
node-bodies fix one h (stop n p) x f e = bad_got e
node-bodies fix one h (chunk t p b r) x f e =
    by_got (fix p b) _ e (λ m em e₁.
    by_got (mend_nodes fix r) _ e₁ (λ l el e₂.
    ap (λ (z : Forest × List (List Edit)). z.1) (sym (got_inj e₂)) ∙ ap₂ ◌∷◌ (h p b m f.0 em) (node-bodies fix one h r l f.1 el)))

pub read-edits : {A : Type 0} (read : ℕ → List ℕ → Result A) (p : ℕ) (b : List ℕ) (m : Mended A) → as_read read p b ≡ accept m → m.edits ≡ keep b ∷ []
unfolding as_read
read-edits read p b m e = by_got (read p b) _ e (λ v ev e₁. ap (λ (z : Mended _). z.edits) (sym (got_inj e₁)))

module _ (one : Bool → ℕ → List ℕ → List Edit) where
  -- what comes after the moves found is the walk over what is left
  abbrev Moved : Anim → Chunks → Taken Animation → Type 0
  Moved seen cs v = (n : List (List Edit)) → n ≡ node_bodies (one (animated v.value.anim)) v.rest → v.bodies ++ n ≡ move_bodies one (animated seen) cs

  move-bodies : (seen : Anim) (cs : Chunks) (v : Taken Animation) → mend_moves seen cs ≡ accept v → Moved seen cs v
  unfolding mend_moves with_keys with_anim move_bodies node_bodies
  move-bodies seen done v e = subst (Moved seen done) (got_inj e) (λ n h. h)
  move-bodies seen (stop i p) v e = bad_got e
  move-bodies seen (chunk t p b r) v e =
      by-if (is t KEYS) _ _ e
      (λ u e₁. by_got (as_read read_keys p b) _ e₁ (λ m em e₂. by_got (mend_moves seen r) _ e₂ (λ l el e₃.
      subst (Moved seen (chunk t p b r)) (got_inj e₃) (λ n h.
      ap₂ ◌∷◌ (read-edits read_keys p b m em) (move-bodies seen r l el n h) ∙ sym (if_yes (is t KEYS) _ _ u)))))
      (λ u e₁. by-if (is t ANIM) _ _ e₁
      (λ w e₂. by_got (as_read read_anim p b) _ e₂ (λ m em e₃. by_got (mend_moves (anim m.value) r) _ e₃ (λ l el e₄.
      subst (Moved seen (chunk t p b r)) (got_inj e₄) (λ n h.
      ap₂ ◌∷◌ (read-edits read_anim p b m em) (move-bodies (anim m.value) r l el n h) ∙ sym (if_yes (is t ANIM) _ _ w) ∙ sym (if_no (is t KEYS) _ _ u)))))
      (λ w e₂. subst (Moved seen (chunk t p b r)) (got_inj e₂) (λ n h. h ∙ sym (if_no (is t ANIM) _ _ w) ∙ sym (if_no (is t KEYS) _ _ u))))

module _ (brushes vertices : ℕ) (one : ℕ → Bool → ℕ → List ℕ → List Edit) where
  abbrev KindMended : Chunks → Taken Kind → Type 0
  KindMended cs k = (n : List (List Edit)) → n ≡ move_bodies (one (own_vertices k.value)) false k.rest → k.bodies ++ n ≡ kind_bodies brushes vertices one cs

  kind-bodies : (cs : Chunks) (k : Taken Kind) → FineC cs → mend_kind brushes vertices cs ≡ accept k → KindMended cs k
  unfolding mend_kind found kind_bodies move_bodies own_of
  kind-bodies done k f e = subst (KindMended done) (got_inj e) (λ n h. h)
  kind-bodies (stop i p) k f e = bad_got e
  kind-bodies (chunk t p b r) k f e =
      by-if (is t MESH) _ _ e
      (λ u e₁. by_got (mend_mesh brushes p b) _ e₁ (λ m em e₂.
      subst (KindMended (chunk t p b r)) (got_inj e₂) (λ n h.
      ap₂ ◌∷◌ (mesh-edits brushes p b m f.0 em) (h ∙ ap (λ (o : Result (Mended Mesh)). move_bodies (one (own_of o)) false r) (sym em)) ∙ sym (if_yes (is t MESH) _ _ u))))
      (λ u e₁. by-if (is t BONE) _ _ e₁
      (λ w e₂. by_got (mend_bone vertices p b) _ e₂ (λ m em e₃.
      subst (KindMended (chunk t p b r)) (got_inj e₃) (λ n h. ap₂ ◌∷◌ (bone-edits vertices p b m em) h ∙ sym (if_yes (is t BONE) _ _ w) ∙ sym (if_no (is t MESH) _ _ u))))
      (λ w e₂. subst (KindMended (chunk t p b r)) (got_inj e₂) (λ n h. h ∙ sym (if_no (is t BONE) _ _ w) ∙ sym (if_no (is t MESH) _ _ u))))

abbrev Walked : ℕ → ℕ → Option ℕ → Type 0
Walked l brushes above = (p : ℕ) (b : List ℕ) (m : Mended Inner) → Fine b → mend_node l brushes above p b ≡ accept m → m.edits ≡ node_edits l brushes above p b

module _ (l brushes : ℕ) (below : (above : Option ℕ) → Walked l brushes above) where
  node-walked : (above : Option ℕ) → Walked (suc l) brushes above
  unfolding mend_node node_edits node_of data_of
  node-walked above p b m f e =
      by_got (named node_row (p + 8) b) _ e (λ h eh e₁.
      let nm = h.value.0.bytes in
      let ws = h.value.1 in
      let fl = left-fine (write_text nm (write_words ws [])) h.left b (sym (named_joins nm ws h.left) ∙ named_exact node_row (p + 8) b h f.0 eh) (named-fine node_row (p + 8) b h f.0 eh).bytes f.1 in
      let cs = within NODE p h.place h.left in
      by_got (mend_kind brushes (bone_limit above) cs) _ e₁ (λ k ek e₂.
      by_got (mend_moves no_anim k.rest) _ e₂ (λ v ev e₃.
      let told = bone_limit_below above (data_of h.value k.value v.value) in
      by_got (mend_nodes (mend_node l brushes told) v.rest) _ e₃ (λ n en e₄.
      let sk = kind_stage brushes (bone_limit above) cs k (within-fine NODE p h.place h.left fl) ek in
      let sm = moves_stage no_anim k.rest v sk.rest-fine ev in
      let sn = nodes_stage (read_node Lenient l brushes told) (mend_node l brushes told) (node-mend l brushes told) v.rest n sm.rest-fine en in
      let xs = k.bodies ++ (v.bodies ++ n.1) in
      let kept = order-kept NODE p start (chunks_of (pieces h.place h.left)) xs (sk.fill (v.bodies ++ n.1) (sm.fill n.1 sn.fill)) in
      let one : ℕ → Bool → ℕ → List ℕ → List Edit = (λ own moved. node_edits l brushes (bone_limit_from above moved own)) in
      let en₁ : n.1 ≡ node_bodies (one (own_vertices k.value) (animated v.value.anim)) v.rest =
      node-bodies (mend_node l brushes told) (node_edits l brushes told) (below told) v.rest n sm.rest-fine en in
      let em : v.bodies ++ n.1 ≡ move_bodies (one (own_vertices k.value)) false k.rest = move-bodies (one (own_vertices k.value)) no_anim k.rest v ev n.1 en₁ ∙ still_false (one (own_vertices k.value)) k.rest in
      let ex : xs ≡ kind_bodies brushes (bone_limit above) one (chunks_of (pieces h.place h.left)) =
      kind-bodies brushes (bone_limit above) one cs k (within-fine NODE p h.place h.left fl) ek (v.bodies ++ n.1) em ∙ ap (kind_bodies brushes (bone_limit above) one) kept.same in
      ap (λ (z : Mended Inner). z.edits) (sym (got_inj e₄))
      ∙ ap (λ (z : List (List Edit)). keep (write_text nm (write_words ws [])) ∷ woven (pieces h.place h.left) z) ex
      ∙ sym (ap (node_of brushes (bone_limit above) one) eh)))))
    where
      still_false : (one : Bool → ℕ → List ℕ → List Edit) (cs : Chunks) → move_bodies one (animated no_anim) cs ≡ move_bodies one false cs
      still_false one cs = refl

-- what becomes of a node and those below it is what the walk over its bytes says
pub node-edits : (l brushes : ℕ) (above : Option ℕ) → Walked l brushes above
unfolding mend_node
node-edits zero brushes above p b m f e = bad_got e
node-edits (suc l) brushes above p b m f e = node-walked l brushes (node-edits l brushes) above p b m f e
