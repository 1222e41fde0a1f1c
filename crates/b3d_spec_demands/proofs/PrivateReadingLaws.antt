-- What is read of a stretch is read of the same without some of what is private, names aside.
use mathlib.Core.Path.{◌≡◌, refl, ap, ap₂, sym, ◌∙◌, subst}
use Prim.Native.Nat.{ℕ, zero, suc, ◌+◌, ◌*◌}
use native.Mathlib.Omega.{arith}
use mathlib.Core.Option.{Option}
use mathlib.Core.List.{List, [], ◌∷◌, ◌++◌, map}
use lib.ListN.{length, take, drop, get_or, length-append, length-replicate}
use Rattle.wire.specs.Bytes.{bytes, IsWord}
use Rattle.wire.specs.Test.{if}
use Rattle.wire.proofs.WordLaws.{word_bytes}
use Rattle.layout.specs.Result.{Result, accept, ◌>>=◌}
use Rattle.layout.specs.Parts.{Name, Step, words, row, number, named, items_in, items}
use Rattle.layout.specs.Rules.{Rule}
use Rattle.layout.proofs.ResultLaws.{by_got, bad_got, got_inj}
use Rattle.layout.proofs.StepLaws.{judged_got, Shrinks, row_shrinks, named_shrinks}
use Rattle.layout.proofs.ListLaws.{map-id}
use Rattle.b3d_spec.specs.declared.Mode.TheVariants.{Lenient}
use Rattle.b3d_spec.specs.Names.{rename_texture, rename_brush, rename_data, rename_forest, no_name}
use Rattle.b3d_spec.specs.Nesting.{inside}
use Rattle.b3d_spec.specs.Parse.{read_one, read_texture, read_textures, read_brush, read_brushes, Vertices, no_vertices, read_vertices, read_triangles, read_sets, read_mesh, read_bone, read_keys, filled, read_anim, a_mesh, a_bone, read_kind, Animation as Moving, with_keys, read_animation, Inner, read_nodes, read_below, read_node}
use Rattle.b3d_spec.specs.Rules.{texture_row, brushes_head, brush_row, brush_ids, node_row, mesh_head, vertices_head, vertex_row, triangles_head, triangle_row, weight_row, keys_head, key_row, anim_row, bone_limit, bone_limit_below, texture_id}
use Rattle.b3d_spec.specs.Scene.{Texture, Brush, TriangleSet, Mesh, Kind, mesh, bone, Keys, Anim, no_anim, anim, Data, Forest, no_nodes, node}
use Rattle.b3d_spec.specs.declared.Tag.TheVariants.{TEXS, BRUS, NODE, MESH, VRTS}
use Rattle.b3d_spec.specs.Tags.{Chunks, Found}
use Rattle.b3d_spec_demands.specs.Private.{body_of, chunks_in, items_of, Without, same, mesh as mesh-body, node as node-body, textures, brushes, item}
use Rattle.b3d_spec_demands.proofs.ReadingPairLaws.{Follows, follow-then, follow_bind, follow_got, follow-map, Beside, row_twice, head-follow, head_twice, Named, named_twice, named_two, Lists, items_twice, items_two}
use Rattle.b3d_spec_demands.proofs.PrivateSplitLaws.{Short, split-rel}
use Rattle.b3d_spec_demands.proofs.PrivateShapeLaws.{Sets, s_end, s_cut, s_one, AlikeMesh, v_cut, v_one, meshed, Nodes, n_end, n_cut, n_one, AlikeAnimation, m_nodes, m_keys, m_anim, m_after, Inside, i_moves, i_mesh, i_bone, noded}

-- ---- the same body at two places

abbrev itself : List ℕ → List ℕ
itself w = w

rows_twice : (rs : List Rule) (p q : ℕ) (s : List ℕ) → Follows ◌≡◌ (items (row rs) p s) (items (row rs) q s)
rows_twice rs p q s = follow-map (Lists itself (row rs)) ◌≡◌ (λ l m e. sym (map-id l) ∙ e ∙ map-id m) (items_twice itself (row rs) (row_twice rs) p q s)

-- a head, then items by it
module _ {A : Type 0} (rs : List Rule) (rows : List ℕ → List Rule) (build : List ℕ → List (List ℕ) → A) where
  abbrev headed : ℕ → List ℕ → Result A
  headed p b = row rs p b >>= λ h. items (row (rows h.value)) h.place h.left >>= λ l. accept (build h.value l)

  headed_twice : (p q : ℕ) (b : List ℕ) → Follows ◌≡◌ (headed p b) (headed q b)
  headed_twice p q b =
      follow_bind (Beside itself ◌≡◌) ◌≡◌ (row rs p b) (row rs q b) _ _ (row_twice rs p q b) (λ h k e.
      subst (λ (w : List ℕ). Follows ◌≡◌ (items (row (rows h.value)) h.place h.left >>= λ l. accept (build h.value l)) (items (row (rows w)) k.place k.left >>= λ l. accept (build w l))) e.0
      (subst (λ (w : List ℕ). Follows ◌≡◌ (items (row (rows h.value)) h.place h.left >>= λ l. accept (build h.value l)) (items (row (rows h.value)) k.place w >>= λ l. accept (build h.value l))) e.1
      (follow_bind ◌≡◌ ◌≡◌ (items (row (rows h.value)) h.place h.left) (items (row (rows h.value)) k.place h.left) _ _ (rows_twice (rows h.value) h.place k.place h.left)
      (λ l m el. follow_got ◌≡◌ _ _ (ap (build h.value) el)))))

vertices_twice : (p q : ℕ) (b : List ℕ) → Follows ◌≡◌ (read_vertices Lenient p b) (read_vertices Lenient q b)
unfolding read_vertices
vertices_twice p q b =
    headed_twice vertices_head (λ v. (vertex_row Lenient) (get_or v 0 0) (get_or v 1 0) (get_or v 2 0)) (λ v l. record { flags = get_or v 0 0; sets = get_or v 1 0; size = get_or v 2 0; items = l }) (p + 8) (q + 8) b

triangles_twice : (b n p q : ℕ) (s : List ℕ) → Follows ◌≡◌ (read_triangles b n p s) (read_triangles b n q s)
unfolding read_triangles
triangles_twice b n p q s = headed_twice (triangles_head b) (λ v. triangle_row n) (λ v l. record { brush = get_or v 0 0; triangles = l }) (p + 8) (q + 8) s

keys_twice : (p q : ℕ) (b : List ℕ) → Follows ◌≡◌ (read_keys p b) (read_keys q b)
unfolding read_keys
keys_twice p q b = headed_twice keys_head (λ v. key_row (get_or v 0 0)) (λ v l. record { flags = get_or v 0 0; items = l }) (p + 8) (q + 8) b

bone_twice : (n p q : ℕ) (b : List ℕ) → Follows ◌≡◌ (read_bone n p b) (read_bone n q b)
unfolding read_bone
bone_twice n p q b = rows_twice (weight_row n) (p + 8) (q + 8) b

filled_twice : (i j : ℕ) (l ws vs : List ℕ) → ws ≡ vs → Follows ◌≡◌ (filled i l ws) (filled j l vs)
unfolding filled
filled_twice i j [] ws vs e = follow_got ◌≡◌ ws vs e
filled_twice i j (c ∷ l) ws vs e = λ x f. bad_got f

anim_twice : (p q : ℕ) (b : List ℕ) → Follows ◌≡◌ (read_anim p b) (read_anim q b)
unfolding read_anim
anim_twice p q b =
    follow_bind (Beside itself ◌≡◌) ◌≡◌ (row anim_row (p + 8) b) (row anim_row (q + 8) b) _ _ (row_twice anim_row (p + 8) (q + 8) b)
    (λ x y e. subst (λ (l : List ℕ). Follows ◌≡◌ (filled (p + 8) x.left x.value) (filled (q + 8) l y.value)) e.1 (filled_twice (p + 8) (q + 8) x.left x.value y.value e.0))

-- ---- MESH

sets-follow : {cs ds : Chunks} → Sets cs ds → (br n : ℕ) → Follows ◌≡◌ (read_sets br n cs) (read_sets br n ds)
unfolding read_sets
sets-follow s_end br n = follow_got ◌≡◌ [] [] refl
sets-follow s_cut br n = λ x e. bad_got e
sets-follow (s_one {p = p} {q = q} {b = b} {c = c} e y) br n =
    follow_bind ◌≡◌ ◌≡◌ (read_triangles br n p b) (read_triangles br n q c) _ _ (subst (λ (z : List ℕ). Follows ◌≡◌ (read_triangles br n p b) (read_triangles br n q z)) e (triangles_twice br n p q b)) (λ x x' ex.
    follow_bind ◌≡◌ ◌≡◌ _ _ _ _ (sets-follow y br n) (λ l l' el. follow_got ◌≡◌ _ _ (ap₂ ◌∷◌ ex el)))

abbrev Verts : Found Vertices → Found Vertices → Type 0
Verts x y = (x.value ≡ y.value) × Sets x.rest y.rest

vertices-follow : {cs ds : Chunks} → AlikeMesh cs ds → Follows Verts (read_one VRTS no_vertices (read_vertices Lenient) cs) (read_one VRTS no_vertices (read_vertices Lenient) ds)
unfolding read_one if
vertices-follow v_cut = λ x e. bad_got e
vertices-follow (v_one {p = p} {q = q} {b = b} {c = c} e z) =
    follow_bind ◌≡◌ Verts (read_vertices Lenient p b) (read_vertices Lenient q c) _ _ (subst (λ (w : List ℕ). Follows ◌≡◌ (read_vertices Lenient p b) (read_vertices Lenient q w)) e (vertices_twice p q b)) (λ x y k. follow_got Verts _ _ (k, z))

mesh-head : {b c : List ℕ} → Without (body_of MESH) b c → (br p q : ℕ) → Follows (Beside itself (Without (chunks_in MESH))) (row (mesh_head br) p b) (row (mesh_head br) q c)
mesh-head {b} same br p q = head_twice (Without (chunks_in MESH)) (λ z. same) (mesh_head br) p q b
mesh-head (mesh-body {r = r} {q = k} w l z) br p q = head-follow (Without (chunks_in MESH)) (mesh_head br) p q w r k l z

mesh-follow : {b c : List ℕ} → Without (body_of MESH) b c → Short b → (br p q : ℕ) → Follows ◌≡◌ (read_mesh Lenient br p b) (read_mesh Lenient br q c)
unfolding read_mesh inside
mesh-follow {b} {c} s hb br p q =
    follow-then (Beside itself (Without (chunks_in MESH))) ◌≡◌ (row (mesh_head br) (p + 8) b) (row (mesh_head br) (q + 8) c) _ _ (mesh-head s br (p + 8) (q + 8)) (λ h k eh i.
    let lh = row_shrinks (mesh_head br) (omega arith) (p + 8) b h eh in
    follow_bind Verts ◌≡◌ (read_one VRTS no_vertices (read_vertices Lenient) (inside MESH p h.place h.left)) (read_one VRTS no_vertices (read_vertices Lenient) (inside MESH q k.place k.left)) _ _
    (vertices-follow (meshed (split-rel i.1 h.place k.place (omega arith)) p q)) (λ v w j.
    follow_bind ◌≡◌ ◌≡◌ (read_sets br (length v.value.items) v.rest) (read_sets br (length w.value.items) w.rest) _ _
    (subst (λ (n : ℕ). Follows ◌≡◌ (read_sets br (length v.value.items) v.rest) (read_sets br n w.rest)) (ap (λ (z : Vertices). length z.items) j.0) (sets-follow j.1 br (length v.value.items))) (λ l m o.
    follow_got ◌≡◌ _ _ (the_same h k v w l m i.0 j.0 o))))
  where
    the_same : (h k : Step (List ℕ)) (v w : Found Vertices) (l m : List TriangleSet) → h.value ≡ k.value → v.value ≡ w.value → l ≡ m
        → ◌≡◌ {A = Mesh} (record { brush = number h 0; flags = v.value.flags; sets = v.value.sets; size = v.value.size; vertices = v.value.items; triangle_sets = l })
        (record { brush = number k 0; flags = w.value.flags; sets = w.value.sets; size = w.value.size; vertices = w.value.items; triangle_sets = m })
    the_same h k v w l m a b o = λ i. record { brush = get_or (a i) 0 0; flags = (b i).flags; sets = (b i).sets; size = (b i).size; vertices = (b i).items; triangle_sets = o i }

-- ---- NODE

abbrev Kinds : Found Kind → Found Kind → Type 0
Kinds x y = (x.value ≡ y.value) × AlikeAnimation x.rest y.rest

pivot-follow : {cs ds : Chunks} → AlikeAnimation cs ds → (br n : ℕ) → Follows Kinds (read_kind Lenient br n cs) (read_kind Lenient br n ds)
unfolding read_kind if
pivot-follow (m_nodes n_end) br n = follow_got Kinds _ _ (refl, m_nodes n_end)
pivot-follow (m_nodes n_cut) br n = λ x e. bad_got e
pivot-follow (m_nodes (n_one a b c)) br n = follow_got Kinds _ _ (refl, m_nodes (n_one a b c))
pivot-follow (m_keys e z) br n = follow_got Kinds _ _ (refl, m_keys e z)
pivot-follow (m_anim e z) br n = follow_got Kinds _ _ (refl, m_anim e z)
pivot-follow (m_after z) br n = follow_got Kinds _ _ (refl, m_after z)

kind-follow : {cs ds : Chunks} → Inside cs ds → (br n : ℕ) → Follows Kinds (read_kind Lenient br n cs) (read_kind Lenient br n ds)
unfolding read_kind if a_mesh a_bone
kind-follow (i_moves z) br n = pivot-follow z br n
kind-follow (i_mesh {p = p} {q = q} {b = b} {c = c} x i z) br n =
    follow_bind ◌≡◌ Kinds (read_mesh Lenient br p b) (read_mesh Lenient br q c) _ _ (mesh-follow x i br p q) (λ m o e. follow_got Kinds _ _ (ap mesh e, z))
kind-follow (i_bone {p = p} {q = q} {b = b} {c = c} e z) br n =
    follow_bind ◌≡◌ Kinds (read_bone n p b) (read_bone n q c) _ _ (subst (λ (w : List ℕ). Follows ◌≡◌ (read_bone n p b) (read_bone n q w)) e (bone_twice n p q b)) (λ m o k. follow_got Kinds _ _ (ap bone k, z))

abbrev Moved : Found Moving → Found Moving → Type 0
Moved x y = (x.value ≡ y.value) × Nodes x.rest y.rest

with_same : (x y : Keys) (l m : Found Moving) → x ≡ y → Moved l m → Moved (with_keys x l) (with_keys y m)
unfolding with_keys
with_same x y l m e h = ((λ i. record { keys = e i ∷ (h.0 i).keys; anim = (h.0 i).anim }), h.1)

moves-follow : {cs ds : Chunks} → AlikeAnimation cs ds → (seen : Anim) → Follows Moved (read_animation seen cs) (read_animation seen ds)
unfolding read_animation if
moves-follow (m_nodes n_end) seen = follow_got Moved _ _ (refl, n_end)
moves-follow (m_nodes n_cut) seen = λ x e. bad_got e
moves-follow (m_nodes (n_one a b c)) seen = follow_got Moved _ _ (refl, n_one a b c)
moves-follow (m_keys {p = p} {q = q} {b = b} {c = c} e z) seen =
    follow_bind ◌≡◌ Moved (read_keys p b) (read_keys q c) _ _ (subst (λ (w : List ℕ). Follows ◌≡◌ (read_keys p b) (read_keys q w)) e (keys_twice p q b)) (λ x y k.
    follow_bind Moved Moved _ _ _ _ (moves-follow z seen) (λ l m h. follow_got Moved _ _ (with_same x y l m k h)))
moves-follow (m_anim {p = p} {q = q} {b = b} {c = c} {r = r} {s = s} e z) seen =
    follow_bind ◌≡◌ Moved (read_anim p b) (read_anim q c) _ _ (subst (λ (w : List ℕ). Follows ◌≡◌ (read_anim p b) (read_anim q w)) e (anim_twice p q b)) (λ x y k.
    subst (λ (w : List ℕ). Follows Moved (read_animation (anim x) r) (read_animation (anim w) s)) k (moves-follow z (anim x)))
moves-follow (m_after {p = p} {p' = p'} {q = q} {a = a} {b = b} {r = r} {ds = ds} z) seen = λ x e.
    by_got (read_anim p a) _ e (λ ws ew e₁.
    by_got (read_keys p' b) _ e₁ (λ k ek e₂.
    by_got (read_animation (anim ws) r) _ e₂ (λ l el e₃.
    let i = keys_twice p' q b k ek in
    let h = moves-follow z seen l (ap (λ (o : Result (List ℕ)). o >>= λ vs. read_animation (anim vs) r) ew ∙ el) in
    record {
      value = with_keys i.value h.value;
      is = rw (i.is, h.is);
      holds = subst (λ (y : Found Moving). Moved y (with_keys i.value h.value)) (got_inj e₃) (with_same k i.value l h.value i.holds h.holds);
    })))

-- names aside
abbrev pub Bodies : Inner → Inner → Type 0
Bodies x y = (rename_data no_name x.self ≡ rename_data no_name y.self) × (rename_forest no_name x.below ≡ rename_forest no_name y.below)

abbrev pub Forests : Forest → Forest → Type 0
Forests f g = rename_forest no_name f ≡ rename_forest no_name g

nodes-follow : (one two : ℕ → List ℕ → Result Inner) → ((b c : List ℕ) → Without (body_of NODE) b c → Short b → (p q : ℕ) → Follows Bodies (one p b) (two q c))
    → {cs ds : Chunks} → Nodes cs ds → Follows Forests (read_nodes one cs) (read_nodes two ds)
unfolding read_nodes
nodes-follow one two h n_end = follow_got Forests no_nodes no_nodes refl
nodes-follow one two h n_cut = λ x e. bad_got e
nodes-follow one two h (n_one {p = p} {q = q} {b = b} {c = c} x i z) =
    follow_bind Bodies Forests (one p b) (two q c) _ _ (h b c x i p q) (λ x y k.
    follow_bind Forests Forests _ _ _ _ (nodes-follow one two h z) (λ l m o. follow_got Forests _ _ (λ i. node (k.0 i) (k.1 i) (o i))))

node-head : {b c : List ℕ} → Without (body_of NODE) b c → (p q : ℕ) → Follows (Named (Without (chunks_in NODE))) (named node_row p b) (named node_row q c)
node-head {b} same p q = named_twice (Without (chunks_in NODE)) node_row p q b (λ z. same)
node-head (node-body {r = r} {q = k} n m w hn hm le l z) p q = named_two (Without (chunks_in NODE)) node_row p q n m w r k hn hm l z

same_bones : (above : Option ℕ) (d e : Data) → rename_data no_name d ≡ rename_data no_name e → bone_limit_below above d ≡ bone_limit_below above e
same_bones above d e h = ap (λ (x : Data). bone_limit_below above x) h

pub node-follow : (l br : ℕ) (above : Option ℕ) (b c : List ℕ) → Without (body_of NODE) b c → Short b → (p q : ℕ) → Follows Bodies (read_node Lenient l br above p b) (read_node Lenient l br above q c)
unfolding read_node read_below inside
node-follow zero br above b c s hb p q = λ x e. bad_got e
node-follow (suc l) br above b c s hb p q =
    follow-then (Named (Without (chunks_in NODE))) Bodies (named node_row (p + 8) b) (named node_row (q + 8) c) _ _ (node-head s (p + 8) (q + 8)) (λ h g eh i.
    let lh = named_shrinks node_row (p + 8) b h eh in
    follow_bind Kinds Bodies (read_kind Lenient br (bone_limit above) (inside NODE p h.place h.left)) (read_kind Lenient br (bone_limit above) (inside NODE q g.place g.left)) _ _
    (kind-follow (noded (split-rel i.1 h.place g.place (omega arith)) p q) br (bone_limit above)) (λ k j o.
    follow_bind Moved Bodies (read_animation no_anim k.rest) (read_animation no_anim j.rest) _ _ (moves-follow o.1 no_anim) (λ m n u.
    let d : Data = record { name = h.value.0; words = h.value.1; kind = k.value; keys = m.value.keys; anim = m.value.anim } in
    let d' : Data = record { name = g.value.0; words = g.value.1; kind = j.value; keys = n.value.keys; anim = n.value.anim } in
    let ed : rename_data no_name d ≡ rename_data no_name d' = λ t. record { name = record { place = 0; bytes = [] }; words = i.0 t; kind = o.0 t; keys = (u.0 t).keys; anim = (u.0 t).anim } in
    follow_bind Forests Bodies (read_nodes (read_node Lenient l br (bone_limit_below above d)) m.rest) (read_nodes (read_node Lenient l br (bone_limit_below above d')) n.rest) _ _
    (nodes-follow (read_node Lenient l br (bone_limit_below above d)) (read_node Lenient l br (bone_limit_below above d'))
    (λ b₁ c₁ s₁ x₁ p₁ q₁. subst (λ (w : Option ℕ). Follows Bodies (read_node Lenient l br (bone_limit_below above d) p₁ b₁) (read_node Lenient l br w q₁ c₁)) (same_bones above d d' ed) (node-follow l br (bone_limit_below above d) b₁ c₁ s₁ x₁ p₁ q₁)) u.1)
    (λ f₁ g₁ h₁. follow_got Bodies _ _ (ed, h₁)))))

-- ---- TEXS and BRUS

-- items of a text and words
module _ {A B : Type 0} (g : A → B) (rs : List Rule) (build : Name × List ℕ → A) (law : (x y : Name × List ℕ) → x.1 ≡ y.1 → g (build x) ≡ g (build y)) where
  abbrev read : ℕ → List ℕ → Result (Step A)
  read p s = named rs p s >>= λ x. accept (record { value = build x.value; place = x.place; left = x.left })

  shrinks : Shrinks read
  shrinks p s x e = by_got (named rs p s) _ e (λ y ey e₁. let n = named_shrinks rs p s y ey in let q = ap (λ (v : Step A). length v.left) (got_inj e₁) in omega arith)

  built : (L : List ℕ → List ℕ → Type 0) (p q : ℕ) (s v : List ℕ) → Follows (Named L) (named rs p s) (named rs q v) → Follows (Beside g L) (read p s) (read q v)
  built L p q s v h = follow_bind (Named L) (Beside g L) (named rs p s) (named rs q v) _ _ h (λ x y k. follow_got (Beside g L) _ _ (law x.value y.value k.0, k.1))

  named-items : {z : ℕ} {b c : List ℕ} → Without (items_of z) b c → z ≡ 4 * length rs → (p q : ℕ) → Follows (Lists g read) (items read p b) (items read q c)
  named-items {z} {b} same e p q = items_twice g read (λ p q s. built ◌≡◌ p q s s (named_twice ◌≡◌ rs p q s (λ w. refl))) p q b
  named-items (item {r = r} {q = k} n m w hn hm le l y) e p q =
      items_two g read shrinks n m w r k p q
      (built (λ (a b : List ℕ). (a ≡ r) × (b ≡ k)) p q _ _ (named_two (λ (a b : List ℕ). (a ≡ r) × (b ≡ k)) rs p q n m w r k hn hm (l ∙ e) (refl, refl)))
      (λ i j. named-items y e i j)

abbrev pub Textures : List Texture → List Texture → Type 0
Textures l m = map (rename_texture no_name) l ≡ map (rename_texture no_name) m

pub textures-follow : {b c : List ℕ} → Without (body_of TEXS) b c → (p q : ℕ) → Follows Textures (read_textures p b) (read_textures q c)
unfolding read_textures read_texture
textures-follow {b} same p q =
    named-items (rename_texture no_name) texture_row (λ x. record { name = x.0; words = x.1 }) (λ x y e i. record { name = record { place = 0; bytes = [] }; words = e i }) {z = 28} same refl (p + 8) (q + 8)
textures-follow {b} {c} (textures y) p q =
    named-items (rename_texture no_name) texture_row (λ x. record { name = x.0; words = x.1 }) (λ x y e i. record { name = record { place = 0; bytes = [] }; words = e i }) y refl (p + 8) (q + 8)

abbrev pub Brushes : List Brush → List Brush → Type 0
Brushes l m = map (rename_brush no_name) l ≡ map (rename_brush no_name) m

-- brushes of n slots beside t textures
brush-items : (n t : ℕ) {b c : List ℕ} → Without (items_of (28 + 4 * n)) b c → (p q : ℕ) → Follows Brushes (items (read_brush Lenient n t) p b) (items (read_brush Lenient n t) q c)
unfolding read_brush
brush-items n t {b} {c} y p q =
    named-items (rename_brush no_name) (brush_row Lenient ++ brush_ids n t) (λ x. record { name = x.0; words = take 7 x.1; ids = drop 7 x.1 })
    (λ x y e i. record { name = record { place = 0; bytes = [] }; words = take 7 (e i); ids = drop 7 (e i) }) y (omega (arith, length-append (brush_row Lenient) (brush_ids n t), length-replicate n (texture_id t))) p q

abbrev pub AlikeBrushes : ℕ × List Brush → ℕ × List Brush → Type 0
AlikeBrushes x y = (x.0 ≡ y.0) × Brushes x.1 y.1

slots-is : (z p : ℕ) (b : List ℕ) (x : Step (List ℕ)) → IsWord z → row brushes_head p (bytes z b) ≡ accept x → (number x 0 ≡ z) × (x.left ≡ b)
unfolding row words
slots-is z p b x w e = let i = judged_got brushes_head p _ _ x e in (ap (λ (y : Step (List ℕ)). number y 0) (sym i) ∙ word_bytes z w, ap (λ (y : Step (List ℕ)). y.left) (sym i))

-- with heads that say the same
brushes-behind : (t : ℕ) (h k : Step (List ℕ)) → number h 0 ≡ number k 0 → Without (items_of (28 + 4 * number h 0)) h.left k.left
    → Follows AlikeBrushes (items (read_brush Lenient (number h 0) t) h.place h.left >>= λ l. accept (number h 0, l)) (items (read_brush Lenient (number k 0) t) k.place k.left >>= λ l. accept (number k 0, l))
brushes-behind t h k e y =
    subst (λ (n : ℕ). Follows AlikeBrushes (items (read_brush Lenient (number h 0) t) h.place h.left >>= λ l. accept (number h 0, l)) (items (read_brush Lenient n t) k.place k.left >>= λ l. accept (n, l))) e
    (follow_bind Brushes AlikeBrushes (items (read_brush Lenient (number h 0) t) h.place h.left) (items (read_brush Lenient (number h 0) t) k.place k.left) _ _ (brush-items (number h 0) t y h.place k.place)
    (λ l m o. follow_got AlikeBrushes _ _ (refl, o)))

pub brushes-follow : {b c : List ℕ} → Without (body_of BRUS) b c → (t p q : ℕ) → Follows AlikeBrushes (read_brushes Lenient t p b) (read_brushes Lenient t q c)
unfolding read_brushes
brushes-follow {b} same t p q =
    follow_bind (Beside itself ◌≡◌) AlikeBrushes (row brushes_head (p + 8) b) (row brushes_head (q + 8) b) _ _ (row_twice brushes_head (p + 8) (q + 8) b) (λ h k e.
    brushes-behind t h k (ap (λ (w : List ℕ). get_or w 0 0) e.0) (subst (Without (items_of (28 + 4 * number h 0)) h.left) e.1 same))
brushes-follow (brushes {b = b} {c = c} z w y) t p q =
    follow-then (Beside itself (λ (l m : List ℕ). (l ≡ b) × (m ≡ c))) AlikeBrushes (row brushes_head (p + 8) (bytes z b)) (row brushes_head (q + 8) (bytes z c)) _ _
    (head-follow (λ (l m : List ℕ). (l ≡ b) × (m ≡ c)) brushes_head (p + 8) (q + 8) (bytes z []) b c refl (refl, refl)) (λ h k eh i.
    brushes-behind t h k (ap (λ (l : List ℕ). get_or l 0 0) i.0) (rw ((slots-is z (p + 8) b h w eh).0, i.1.0, i.1.1) y))

none_of : (x : ℕ × List Brush) (read : ℕ → List ℕ → Result (Step Brush)) (m i : ℕ) → (items_in 0 read i [] >>= λ l. accept (m, l)) ≡ accept x → x.1 ≡ []
unfolding items_in
none_of x read m i e = ap (λ (y : ℕ × List Brush). y.1) (sym (got_inj e))

-- a BRUS without items
pub brushes-none : (n t p : ℕ) (x : ℕ × List Brush) → IsWord n → read_brushes Lenient t p (bytes n []) ≡ accept x → x.1 ≡ []
unfolding read_brushes items
brushes-none n t p x w e =
    by_got (row brushes_head (p + 8) (bytes n [])) _ e (λ h eh e₁.
    let i = slots-is n (p + 8) [] h w eh in
    none_left (read_brush Lenient (number h 0) t) (number h 0) h.place h.left i.1 e₁)
  where
    none_left : (read : ℕ → List ℕ → Result (Step Brush)) (m i : ℕ) (s : List ℕ) → s ≡ [] → (items_in (length s) read i s >>= λ l. accept (m, l)) ≡ accept x → x.1 ≡ []
    none_left read m i s es f = none_of x read m i (subst (λ (z : List ℕ). (items_in (length z) read i z >>= λ l. accept (m, l)) ≡ accept x) es f)
