-- The size of lent tables is that of the shortest file of their scene.
use mathlib.Core.Path.{◌≡◌, refl, ap, ap₂, sym, ◌∙◌}
use Prim.Native.Nat.{ℕ, zero, suc, ◌+◌, ◌*◌}
use native.Mathlib.Omega.{arith}
use mathlib.Core.Option.{Option, none, some}
use mathlib.Core.List.{List, [], ◌∷◌, ◌++◌, map}
use lib.ListN.{length, get_or, length-append, length-map}
use lib.Seq.{get_or-append-add}
use lib.Dec.{eqb, leb→le}
use borrow.Author.Tests.{ne_eqb}
use Rattle.wire.specs.Test.{if}
use Rattle.layout.specs.Rules.{NONE}
use Rattle.layout.proofs.AllLaws.{All, all_map, all_append}
use Rattle.layout.specs.Rows.{name_cells}
use Rattle.b3d_spec.specs.declared.Mode.{Mode}
use Rattle.b3d_spec.specs.declared.Counts.{Counts}
use Rattle.b3d_spec.specs.Encode.{encode}
use Rattle.b3d_spec.specs.Rebuild.{Lent, lent_rows, rebuild}
use Rattle.b3d_spec.specs.Rules.{bone_limit_below, bone_limit, levels}
use Rattle.b3d_spec.specs.Scene.{Texture, Brush, TriangleSet, Kind, pivot, mesh, bone, Keys, Anim, no_anim, anim, Data, Forest, no_nodes, node, Scene}
use Rattle.b3d_spec.specs.Sizes.{texture_size, texs_size, brush_size, brus_size, sets_size, kind_size, keys_size, anim_size, nodes_size, size_of}
use Rattle.b3d_spec.specs.Tables.{start, texture_row, brush_row, kind_cells, anim_cells, node_row, mesh_row, triangle_rows, list_rows, meshes_of, weights_of, mesh_rows, own_rows, with_node, with_forest, forest_rows, rows, tables, node_tables, nodes_in}
use Rattle.b3d_spec.proofs.WellFormedLaws.{FitKind, FitKeys, FitNodes, WellFormed}
use Rattle.b3d_spec.proofs.Laws.{file-length}
use Rattle.b3d_spec.proofs.Rows.RebuildLaws.{Holds, rebuild-fine, held_rows}
use Rattle.b3d_spec.proofs.Rows.RowPartLaws.{sets-length}
use Rattle.b3d_spec.proofs.Rows.WordCountLaws.{any-words}
use Rattle.b3d_write_row_size.specs.RowSize.{sum, named_bytes, node_bytes, mesh_bytes, list_bytes, row_bytes, rows_bytes, Sizable}
use Rattle.b3d_write_size.specs.LentSize.{around, lists_bytes, nodes_bytes, lent_size}

-- ---- sums

sum-append : (f : List ℕ → ℕ) (a b : List (List ℕ)) → sum f (a ++ b) ≡ sum f a + sum f b
unfolding sum
sum-append f [] b = omega arith
sum-append f (x ∷ a) b = omega (arith, sum-append f a b)

-- ---- textures and brushes

texture_sum : (l : List Texture) → sum (named_bytes 29) (map texture_row l) ≡ texture_size l
unfolding sum named_bytes texture_row name_cells
texture_sum [] = refl
texture_sum (t ∷ l) = omega (arith, texture_sum l)

some-rows : (n bytes : ℕ) → around (suc n) bytes ≡ bytes
unfolding around if
some-rows n bytes = rw (ne_eqb (suc n) 0 (λ e. omega arith))

texs_sum : (l : List Texture) → around (length l) 8 + sum (named_bytes 29) (map texture_row l) ≡ texs_size l
unfolding around if sum
texs_sum [] = refl
texs_sum (t ∷ l) = ap₂ ◌+◌ (some-rows (length l) 8) (texture_sum (t ∷ l))

brush-sum : (slots : ℕ) (l : List Brush) → sum (named_bytes (29 + 4 * slots)) (map brush_row l) ≡ brush_size slots l
unfolding sum named_bytes brush_row name_cells
brush-sum slots [] = refl
brush-sum slots (b ∷ l) = omega (arith, brush-sum slots l)

brus_sum : (slots : ℕ) (l : List Brush) → around (length l) 12 + sum (named_bytes (29 + 4 * slots)) (map brush_row l) ≡ brus_size slots l
unfolding around if sum
brus_sum slots [] = refl
brus_sum slots (b ∷ l) = ap₂ ◌+◌ (some-rows (length l) 12) (brush-sum slots (b ∷ l))

-- ---- nodes

sets-sum : (l : List TriangleSet) → sets_size l ≡ 12 * length l + 12 * length (triangle_rows l)
unfolding triangle_rows
sets-sum [] = refl
sets-sum (x ∷ l) = omega (arith, sets-sum l, length-append x.triangles (triangle_rows l))

lists_sum : (i k : ℕ) (l : List Keys) → sum list_bytes (list_rows i k l) ≡ keys_size l
unfolding sum list_rows list_bytes
lists_sum i k [] = refl
lists_sum i k (x ∷ l) = omega (arith, lists_sum i (k + length x.items) l)

-- what the rows of nodes add
abbrev Parts : (ℕ → List (List ℕ)) → ℕ
Parts R = sum node_bytes (R 3) + sum mesh_bytes (R 4) + 12 * length (R 6) + 12 * length (R 7) + 8 * length (R 8) + sum list_bytes (R 9)

-- kind and ANIM stand behind a node's name, parent and ten words
node-sum : (d : Data) (p below : ℕ) (n : Counts) → length d.words ≡ 10
    → node_bytes (node_row d p below n) ≡ length d.name.bytes + 49 + if (eqb (get_or (kind_cells d.kind n ++ (anim_cells d.anim ++ (below ∷ []))) 0 0) 2) 8 0 + if (eqb (get_or (kind_cells d.kind n ++ (anim_cells d.anim ++ (below ∷ []))) 3 0) 1) 20 0
unfolding node_bytes node_row name_cells
node-sum d p below n e =
    let cells = kind_cells d.kind n ++ (anim_cells d.anim ++ (below ∷ [])) in
    let at : (i : ℕ) → get_or (d.words ++ cells) (10 + i) 0 ≡ get_or cells i 0 = λ i. rw (← e) (get_or-append-add d.words cells i 0) in
    ap₂ (λ (a b : ℕ). length d.name.bytes + 49 + if (eqb a 2) 8 0 + if (eqb b 1) 20 0) (at 0) (at 3)

kind-anim : (k : Kind) (a : Anim) (below : ℕ) (n : Counts) → if (eqb (get_or (kind_cells k n ++ (anim_cells a ++ (below ∷ []))) 0 0) 2) 8 0 + if (eqb (get_or (kind_cells k n ++ (anim_cells a ++ (below ∷ []))) 3 0) 1) 20 0
    + sum mesh_bytes (mesh_rows 4 (meshes_of k) n) + 12 * length (mesh_rows 6 (meshes_of k) n) + 12 * length (mesh_rows 7 (meshes_of k) n) + 8 * length (weights_of k) ≡ kind_size k + anim_size a
unfolding if kind_cells anim_cells sum mesh_rows meshes_of weights_of mesh_bytes mesh_row
kind-anim pivot no_anim below n = refl
kind-anim pivot (anim ws) below n = refl
kind-anim (mesh m) no_anim below n = omega (arith, sets-sum m.triangle_sets, sets-length n.meshes n.triangles m.triangle_sets)
kind-anim (mesh m) (anim ws) below n = omega (arith, sets-sum m.triangle_sets, sets-length n.meshes n.triangles m.triangle_sets)
kind-anim (bone ws) no_anim below n = omega arith
kind-anim (bone ws) (anim vs) below n = omega arith

own-sum : (d : Data) (p below : ℕ) (n : Counts) → length d.words ≡ 10 → 49 + length d.name.bytes + kind_size d.kind + keys_size d.keys + anim_size d.anim ≡ Parts (λ k. own_rows k d p below n)
unfolding sum own_rows if
own-sum d p below n e = omega (arith, node-sum d p below n e, kind-anim d.kind d.anim below n, lists_sum n.nodes n.keys d.keys)

-- rows one run after the other
parts-append : (a b : ℕ → List (List ℕ)) → Parts (λ k. a k ++ b k) ≡ Parts a + Parts b
parts-append a b =
    omega (arith, sum-append node_bytes (a 3) (b 3), sum-append mesh_bytes (a 4) (b 4), length-append (a 6) (b 6), length-append (a 7) (b 7), length-append (a 8) (b 8), sum-append list_bytes (a 9) (b 9))

nodes-sum : (l b : ℕ) (above : Option ℕ) (t : Forest) (p : ℕ) (n : Counts) → FitNodes l b above t → nodes_size t ≡ Parts (λ k. forest_rows k t p n)
unfolding forest_rows sum
nodes-sum l b above no_nodes p n f = refl
nodes-sum zero b above (node d ch sib) p n f = absurd f
nodes-sum (suc l) b above (node d ch sib) p n f =
    let m = with_node d n in
    let q = with_forest ch m in
    omega (
      arith,
      own-sum d p (nodes_in ch) n (any-words 10 d.words f.0.words),
      nodes-sum l b (bone_limit_below above d) ch n.nodes m f.1,
      nodes-sum (suc l) b above sib p q f.2,
      parts-append (λ k. own_rows k d p (nodes_in ch) n) (λ k. forest_rows k ch n.nodes m ++ forest_rows k sib p q),
      parts-append (λ k. forest_rows k ch n.nodes m) (λ k. forest_rows k sib p q),
    )

-- ---- the whole

-- the rows of lent tables, each table's with its count, are those of their scene
scene-sum : (T : Lent) (t : Scene) → WellFormed t → T.slots ≡ t.slots → All (λ k. T.count k ≡ length (rows k t)) tables → All (λ k. lent_rows T k ≡ rows k t) tables → lent_size T ≡ size_of t
unfolding lent_size lists_bytes nodes_bytes rows_bytes row_bytes size_of tables node_tables rows if
scene-sum T t f es c r =
    let c₆ = c.1.1.1.1.1 in
    let r₃ = r.1.1 in
    rw (r.0, r.1.0, r₃.0, r₃.1.0, r₃.1.1.1.1.1.1.0, c.0, c.1.0, c₆.0, c₆.1.0, c₆.1.1.0, es)
    (omega (arith, texs t.textures, brus t.slots t.brushes, nodes-sum levels (length t.brushes) none t.nodes NONE start f.nodes))
  where
    texs : (l : List Texture) → around (length (map texture_row l)) 8 + sum (named_bytes 29) (map texture_row l) ≡ texs_size l
    texs l = ap (λ (n : ℕ). around n 8 + sum (named_bytes 29) (map texture_row l)) (length-map l texture_row) ∙ texs_sum l

    brus : (slots : ℕ) (l : List Brush) → around (length (map brush_row l)) 12 + sum (named_bytes (29 + 4 * slots)) (map brush_row l) ≡ brus_size slots l
    brus slots l = ap (λ (n : ℕ). around n 12 + sum (named_bytes (29 + 4 * slots)) (map brush_row l)) (length-map l brush_row) ∙ brus_sum slots l

-- sound tables: their size is that of the shortest file
pub lent-size : (mode : Mode) (T : Lent) (ns : List ℕ) (t : Scene) → rebuild mode T ns ≡ some t → lent_size T ≡ length (encode t)
lent-size mode T ns t e =
    let f = rebuild-fine mode ns T t e in
    scene-sum T t f.0 f.1.slots (all_map (Holds T t) _ (λ k h. h.many) tables f.1.held) (held_rows T t f.0 f.1.held) ∙ sym (file-length t f.0)

-- ---- rows that can be added up

mesh_sizable : (b c : ℕ) (k : Kind) (n : Counts) → FitKind b c k → All (Sizable 4) (mesh_rows 4 (meshes_of k) n)
unfolding mesh_rows meshes_of if mesh_row
mesh_sizable b c pivot n h = tt
mesh_sizable b c (mesh m) n h = (
  record {
    flags = λ e. leb→le m.flags 3 h.head.1;
    sets = λ e. leb→le m.sets 8 h.head.2.1;
    size = λ e. leb→le m.size 4 h.head.2.2.1;
    keys = λ e. absurd (omega arith);
  },
  tt,
)
mesh_sizable b c (bone ws) n h = tt

lists_sizable : (i k : ℕ) (l : List Keys) → All FitKeys l → All (Sizable 9) (list_rows i k l)
unfolding list_rows
lists_sizable i k [] h = tt
lists_sizable i k (x ∷ l) h = (
  record { flags = λ e. absurd (omega arith); sets = λ e. absurd (omega arith); size = λ e. absurd (omega arith); keys = λ e. leb→le x.flags 7 h.0.0.1 },
  lists_sizable i (k + length x.items) l h.1,
)

pub nodes_sizable : (l b : ℕ) (above : Option ℕ) (t : Forest) (p : ℕ) (n : Counts) → FitNodes l b above t → All (Sizable 4) (forest_rows 4 t p n) × All (Sizable 9) (forest_rows 9 t p n)
unfolding forest_rows own_rows if
nodes_sizable l b above no_nodes p n f = (tt, tt)
nodes_sizable zero b above (node d ch sib) p n f = absurd f
nodes_sizable (suc l) b above (node d ch sib) p n f =
    let m = with_node d n in
    let q = with_forest ch m in
    let x = nodes_sizable l b (bone_limit_below above d) ch n.nodes m f.1 in
    let y = nodes_sizable (suc l) b above sib p q f.2 in (
      all_append (Sizable 4) (mesh_rows 4 (meshes_of d.kind) n) _ (mesh_sizable b (bone_limit above) d.kind n f.0.kind) (all_append (Sizable 4) (forest_rows 4 ch n.nodes m) _ x.0 y.0),
      all_append (Sizable 9) (list_rows n.nodes n.keys d.keys) _ (lists_sizable n.nodes n.keys d.keys f.0.keys) (all_append (Sizable 9) (forest_rows 9 ch n.nodes m) _ x.1 y.1),
    )
