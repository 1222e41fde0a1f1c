-- Tables 4 to 7 have rows of each MESH: laws of `put_one`, and of the loop of `store_meshes`.
use Rattle.std.specs.Prelude.{Some, None}
use Rattle.std.specs.Prelude as std
use Rattle.b3d_chunk_walk.specs.declared.FlatChunk.{FlatChunk}
use mathlib.Core.Path.{◌≡◌, refl, ap, sym, subst, ◌∙◌}
use Prim.Native.Nat.{ℕ, ◌+◌, ◌-◌, ◌*◌, ◌<◌, ◌≤◌}
use native.Mathlib.Omega.{arith}
use mathlib.Core.Bool.{Bool, true, false, not}
use mathlib.Core.List.{List}
use mir.Syntax.{w64}
use mir.Val.{Fits}
use lib.ListN.{length}
use lib.Seq.{sets as stored}
use lib.Dec.{T}
use Rattle.wire.specs.Cursors.{left}
use Rattle.wire.specs.declared.Cursor.{Cursor}
use Rattle.layout.proofs.ResultLaws.{if_yes, if_no}
use Rattle.b3d_spec.specs.declared.Counts.{Counts}
use Rattle.b3d_spec.specs.declared.Tag.{Tag}
use Rattle.b3d_spec.specs.declared.Tag.TheVariants.{NODE, MESH}
use Rattle.layout.specs.Rows.{joined}
use Rattle.b3d_spec.specs.Tables.{start, triangle_rows}
use Rattle.b3d_spec.specs.Tags.{is}
use Rattle.b3d_spec_plain_rows.specs.Plain.{plain_mesh, mesh_of}
use Rattle.b3d_spec_plain_rows.specs.Rows.{counted, file_rows}
use Rattle.b3d_chunk_walk.specs.Walks.{BodyAt, ChunkIs, Steps}
use Rattle.b3d_chunk_walk.proofs.CountLaws.{tag_same, counted-nodes, counted-meshes, counted-vertices, counted-sets, counted-triangles}
use Rattle.b3d_chunk_walk.proofs.TableLaws.{TableLeft, Any, any-counts, table_start, table_done, table_chunk, table_other, table_room, table_own}
use Rattle.b3d_read_mesh_rows.specs.Meshes.{vertices_in, mesh_cells, MeshPut}
use Rattle.b3d_read_triangle_rows.specs.Sets.{triangles_in, sets_in, triangle_count, SetsPut}
use Rattle.b3d_read_triangle_rows.specs.declared.After.{After}
use Rattle.b3d_read_mesh_rows.specs.declared.Added.{Added}
use Rattle.b3d_read_meshes.specs.Marks.{MeshMarksFit, MeshRoom, MeshStored}
use Rattle.b3d_read_meshes.specs.declared.MeshMarks.{MeshMarks}
use Rattle.b3d_read_meshes.proofs.TableLaws.{meshes, vertices, sets, triangles}

-- ---- one MESH

-- marks that fit at a place fit at each behind it
marks-later : (m : MeshMarks) (i j : ℕ) → i ≤ j → MeshMarksFit i m → MeshMarksFit j m
marks-later m i j le f = record {
  nodes = omega (arith, f.nodes);
  meshes = omega (arith, f.meshes);
  vertices = omega (arith, f.vertices);
  sets = omega (arith, f.sets);
  triangles = omega (arith, f.triangles);
  words4 = omega (arith, f.words4);
  words6 = omega (arith, f.words6);
}

module _ (s : List ℕ) (p : ℕ) (b : Cursor) (y : BodyAt s p b) (small : length s < 0x100000000) (m : MeshMarks) (f : MeshMarksFit p m) where
  before : p + 8 ≤ length s
  before = omega (arith, y.head, y.room, y.within)

  pub one-meshes : m.meshes < 0x100000000
  one-meshes = omega (arith, f.meshes, before)

  pub one-node : (node : ℕ) → node ≡ m.nodes - 1 → node < 0x100000000
  one-node node e = omega (arith, f.nodes, before)

  pub one-vertices : m.vertices < 0x100000000
  one-vertices = omega (arith, f.vertices, before)

  pub one-sets : m.sets < 0x100000000
  one-sets = omega (arith, f.sets, before)

  pub one-triangles : m.triangles ≤ p
  one-triangles = f.triangles

  pub one-words : m.to6 ≤ 4 * p
  one-words = f.words6

  pub next-mesh : Fits w64 (m.meshes + 1)
  next-mesh = record { fits = omega (arith, f.meshes, before) }

  pub next_word : Fits w64 (m.to4 + 9)
  next_word = record { fits = omega (arith, f.words4, before) }

  module _ (node : ℕ) (en : node ≡ m.nodes - 1) (t4 u4 : List ℕ) (a : Added) (h4 : MeshPut s p b node m.vertices m.sets m.to4 t4 u4 a) where
    pub next-vertices : Fits w64 (m.vertices + a.vertices)
    next-vertices = record { fits = omega (arith, f.vertices, h4.few_vertices, before, y.within) }

    pub next-sets : Fits w64 (m.sets + a.sets)
    next-sets = record { fits = omega (arith, f.sets, h4.few_sets, before, y.within) }

    pub one-stored : (t5 t6 t7 u5 u6 u7 : List ℕ) (n5 n7 : ℕ) (c : After) → u5 ≡ stored t5 m.to5 (joined (vertices_in p (left b s))) → n5 ≡ m.to5 + length (joined (vertices_in p (left b s)))
        → u7 ≡ stored t7 m.to7 (joined (triangles_in p (left b s))) → n7 ≡ m.to7 + length (joined (triangles_in p (left b s)))
        → SetsPut s p b m.meshes m.triangles m.to6 t6 u6 c
        → (r : MeshMarks) → r ≡ record {
          nodes = m.nodes;
          meshes = m.meshes + 1;
          vertices = m.vertices + a.vertices;
          sets = m.sets + a.sets;
          triangles = c.first;
          to4 = m.to4 + 9;
          to5 = n5;
          to6 = c.base;
          to7 = n7;
        }
        → MeshStored s p b m t4 t5 t6 t7 u4 u5 u6 u7 r
    one-stored t5 t6 t7 u5 u6 u7 n5 n7 c e5 f5 e7 f7 h6 r er =
        rw er
        (record {
          rows4 = h4.stores ∙ ap (λ (i : ℕ). stored t4 m.to4 (mesh_cells i m.vertices m.sets (plain_mesh p (left b s)))) en;
          rows5 = e5;
          rows6 = h6.stores;
          rows7 = e7;
          nodes = refl;
          meshes = refl;
          vertices = ap (λ (i : ℕ). m.vertices + i) h4.vertices_are;
          sets = ap (λ (i : ℕ). m.sets + i) h4.sets_are;
          triangles = h6.first_is;
          next4 = refl;
          next5 = f5;
          next6 = h6.base_is;
          next7 = f7;
          fit = record {
            nodes = omega (arith, f.nodes, y.head, y.room);
            meshes = omega (arith, f.meshes, y.head, y.room);
            vertices = omega (arith, f.vertices, h4.few_vertices, y.head, y.room);
            sets = omega (arith, f.sets, h4.few_sets, y.head, y.room);
            triangles = h6.few;
            words4 = omega (arith, f.words4, y.head, y.room);
            words6 = h6.few_words;
          };
        })

module _ (s : List ℕ) (p : ℕ) (b : Cursor) (m : MeshMarks) (l4 l5 l6 l7 : ℕ) (k : MeshRoom s p b m l4 l5 l6 l7) where
  pub one-room4 : m.to4 + 9 ≤ l4
  one-room4 = k.room4

  pub one-room5 : m.to5 + length (joined (vertices_in p (left b s))) ≤ l5
  one-room5 = k.room5

  pub one-room6 : m.to6 + length (joined (sets_in p (left b s) m.meshes m.triangles)) ≤ l6
  one-room6 = k.room6

  pub one-room7 : m.to7 + length (joined (triangles_in p (left b s))) ≤ l7
  one-room7 = k.room7

pub ruleset one_laws =
    (one-meshes, one-node, one-vertices, one-sets, one-triangles, one-words, next-mesh, next_word, next-vertices, next-sets, one-stored, one-room4, one-room5, one-room6, one-room7)

-- ---- the loop

-- the counts at a place of the file
pub record Counted (m : MeshMarks) (n : Counts) : Type 0 where
  pub nodes : n.nodes ≡ m.nodes
  pub meshes : n.meshes ≡ m.meshes
  pub vertices : n.vertices ≡ m.vertices
  pub sets : n.sets ≡ m.sets
  pub triangles : n.triangles ≡ m.triangles

pub record MeshesLeft (s a4 a5 a6 a7 o4 o5 o6 o7 : List ℕ) (at : ℕ) (m : MeshMarks) : Type 0 where
  pub fit : MeshMarksFit at m
  pub left4 : TableLeft 4 (Counted m) s a4 o4 at m.to4
  pub left5 : TableLeft 5 Any s a5 o5 at m.to5
  pub left6 : TableLeft 6 (Counted m) s a6 o6 at m.to6
  pub left7 : TableLeft 7 Any s a7 o7 at m.to7

module _ (s a4 a5 a6 a7 : List ℕ) where
  pub meshes_start : 12 ≤ length s → length (joined (file_rows 4 s)) ≤ length a4 → length (joined (file_rows 5 s)) ≤ length a5 → length (joined (file_rows 6 s)) ≤ length a6 → length (joined (file_rows 7 s)) ≤ length a7
      → (m : MeshMarks) → m ≡ record { nodes = 0; meshes = 0; vertices = 0; sets = 0; triangles = 0; to4 = 0; to5 = 0; to6 = 0; to7 = 0 }
      → MeshesLeft s a4 a5 a6 a7 a4 a5 a6 a7 12 m
  unfolding start
  meshes_start h r4 r5 r6 r7 m e =
      rw e
      (record {
        fit = record { nodes = omega arith; meshes = omega arith; vertices = omega arith; sets = omega arith; triangles = omega arith; words4 = omega arith; words6 = omega arith };
        left4 = table_start meshes s a4 (Counted _) (record { nodes = refl; meshes = refl; vertices = refl; sets = refl; triangles = refl }) h r4;
        left5 = table_start vertices s a5 Any (any-counts start) h r5;
        left6 = table_start sets s a6 (Counted _) (record { nodes = refl; meshes = refl; vertices = refl; sets = refl; triangles = refl }) h r6;
        left7 = table_start triangles s a7 Any (any-counts start) h r7;
      })

  module _ (o4 o5 o6 o7 : List ℕ) (at : ℕ) (m : MeshMarks) (v : MeshesLeft s a4 a5 a6 a7 o4 o5 o6 o7 at m) where
    pub meshes_inside : at ≤ length s
    meshes_inside = v.left4.inside

    pub meshes_long4 : length o4 ≡ length a4
    meshes_long4 = v.left4.stores.long

    pub meshes_long5 : length o5 ≡ length a5
    meshes_long5 = v.left5.stores.long

    pub meshes_long6 : length o6 ≡ length a6
    meshes_long6 = v.left6.stores.long

    pub meshes_long7 : length o7 ≡ length a7
    meshes_long7 = v.left7.stores.long

    pub meshes_nodes : length s < 0x100000000 → Fits w64 (m.nodes + 1)
    meshes_nodes small = record { fits = omega (arith, v.fit.nodes, v.left4.inside) }

    module _ (r : std.Option FlatChunk) (x : Steps s at r) where
      module _ (w : r ≡ None) where
        pub meshes_done4 : o4 ≡ stored a4 0 (joined (file_rows 4 s))
        meshes_done4 = table_done meshes s a4 (Counted m) o4 at m.to4 v.left4 r x w

        pub meshes_done5 : o5 ≡ stored a5 0 (joined (file_rows 5 s))
        meshes_done5 = table_done vertices s a5 Any o5 at m.to5 v.left5 r x w

        pub meshes_done6 : o6 ≡ stored a6 0 (joined (file_rows 6 s))
        meshes_done6 = table_done sets s a6 (Counted m) o6 at m.to6 v.left6 r x w

        pub meshes_done7 : o7 ≡ stored a7 0 (joined (file_rows 7 s))
        meshes_done7 = table_done triangles s a7 Any o7 at m.to7 v.left7 r x w

      module _ (d : FlatChunk) (w : r ≡ Some d) where
        it : ChunkIs s at d.tag d.at d.body d.next
        it = table_chunk meshes s a4 (Counted m) o4 at m.to4 v.left4 r x d w

        pub meshes_less : length s - d.next < length s - at
        meshes_less = omega (arith, it.more, it.to)

        pub meshes_body : BodyAt s d.at d.body
        meshes_body = it.body

        fit_later : (j : ℕ) → at ≤ j → MeshMarksFit j m
        fit_later j le = marks-later m at j le v.fit

        pub meshes_fit : MeshMarksFit d.at m
        meshes_fit = fit_later d.at it.from

        module _ (ok : Bool) (eo : ok ≡ is d.tag MESH) where
          module _ (z : ok ≡ true) where
            is_mesh : T (is d.tag MESH)
            is_mesh = subst T (sym z ∙ eo) tt

            not_node : T (not (is d.tag NODE))
            not_node = subst (λ (y : Tag). T (not (is y NODE))) (sym (tag_same d.tag MESH is_mesh)) tt

            pub meshes_room : MeshRoom s d.at d.body m (length o4) (length o5) (length o6) (length o7)
            unfolding joined mesh_cells
            meshes_room = record {
              room4 = table_room meshes s a4 (Counted m) o4 at m.to4 v.left4 r x d w ok eo z;
              room5 = table_room vertices s a5 Any o5 at m.to5 v.left5 r x d w ok eo z;
              room6 = rw (v.left6.known.meshes, v.left6.known.triangles) at (table_room sets s a6 (Counted m) o6 at m.to6 v.left6 r x d w ok eo z);
              room7 = table_room triangles s a7 Any o7 at m.to7 v.left7 r x d w ok eo z;
            }

            module _ (u4 u5 u6 u7 : List ℕ) (g : MeshMarks) (h : MeshStored s d.at d.body m o4 o5 o6 o7 u4 u5 u6 u7 g) where
              triangles_more : length (triangle_rows (plain_mesh d.at (left d.body s)).triangle_sets) ≡ triangle_count d.at (left d.body s)
              unfolding plain_mesh mesh_of triangle_count
              triangles_more = refl

              counted_on : (n : Counts) → Counted m n → Counted g (counted d.tag d.at (left d.body s) n)
              counted_on n k = record {
                nodes = counted-nodes d.at (left d.body s) n d.tag ∙ if_no (is d.tag NODE) _ _ not_node ∙ k.nodes ∙ sym h.nodes;
                meshes = counted-meshes d.at (left d.body s) n d.tag ∙ if_yes (is d.tag MESH) _ _ is_mesh ∙ omega (arith, k.meshes, h.meshes);
                vertices = counted-vertices d.at (left d.body s) n d.tag ∙ if_yes (is d.tag MESH) _ _ is_mesh ∙ omega (arith, k.vertices, h.vertices);
                sets = counted-sets d.at (left d.body s) n d.tag ∙ if_yes (is d.tag MESH) _ _ is_mesh ∙ omega (arith, k.sets, h.sets);
                triangles = counted-triangles d.at (left d.body s) n d.tag ∙ if_yes (is d.tag MESH) _ _ is_mesh ∙ omega (arith, k.triangles, h.triangles, triangles_more);
              }

              fit_on : MeshMarksFit d.next g
              fit_on = marks-later g d.body.end d.next (it.past not_node) h.fit

              pub meshes_put : MeshesLeft s a4 a5 a6 a7 u4 u5 u6 u7 d.next g
              unfolding joined mesh_cells
              meshes_put = record {
                fit = fit_on;
                left4 = table_own meshes s a4 (Counted m) o4 at m.to4 v.left4 r x d w ok eo z (Counted g) (counted_on v.left4.counts v.left4.known) u4 g.to4 h.next4
                    (h.rows4 ∙ rw (v.left4.known.nodes, v.left4.known.vertices, v.left4.known.sets));
                left5 = table_own vertices s a5 Any o5 at m.to5 v.left5 r x d w ok eo z Any (any-counts _) u5 g.to5 h.next5 h.rows5;
                left6 = table_own sets s a6 (Counted m) o6 at m.to6 v.left6 r x d w ok eo z (Counted g) (counted_on v.left6.counts v.left6.known) u6 g.to6
                    (rw (v.left6.known.meshes, v.left6.known.triangles) h.next6) (rw (v.left6.known.meshes, v.left6.known.triangles) h.rows6);
                left7 = table_own triangles s a7 Any o7 at m.to7 v.left7 r x d w ok eo z Any (any-counts _) u7 g.to7 h.next7 h.rows7;
              }

          module _ (z : ok ≡ false) where
            not_mesh : T (not (is d.tag MESH))
            not_mesh = subst (λ (y : Bool). T (not y)) (sym z ∙ eo) tt

            -- nothing changes but the number of nodes
            passed : (g : MeshMarks) → ((n : Counts) → Counted m n → Counted g (counted d.tag d.at (left d.body s) n)) → MeshMarksFit d.next g → m.to4 ≡ g.to4 → m.to5 ≡ g.to5 → m.to6 ≡ g.to6 → m.to7 ≡ g.to7
                → MeshesLeft s a4 a5 a6 a7 o4 o5 o6 o7 d.next g
            passed g on fits e4 e5 e6 e7 = record {
              fit = fits;
              left4 = rw e4 at (table_other meshes s a4 (Counted m) o4 at m.to4 v.left4 r x d w ok eo (Counted g) (on v.left4.counts v.left4.known) z);
              left5 = rw e5 at (table_other vertices s a5 Any o5 at m.to5 v.left5 r x d w ok eo Any (any-counts _) z);
              left6 = rw e6 at (table_other sets s a6 (Counted m) o6 at m.to6 v.left6 r x d w ok eo (Counted g) (on v.left6.counts v.left6.known) z);
              left7 = rw e7 at (table_other triangles s a7 Any o7 at m.to7 v.left7 r x d w ok eo Any (any-counts _) z);
            }

            same : (n : Counts) (k : ℕ) → (counted d.tag d.at (left d.body s) n).nodes ≡ k → (g : MeshMarks) → k ≡ g.nodes → m.meshes ≡ g.meshes → m.vertices ≡ g.vertices → m.sets ≡ g.sets → m.triangles ≡ g.triangles
                → Counted m n → Counted g (counted d.tag d.at (left d.body s) n)
            same n k ek g e₁ e₂ e₃ e₄ e₅ c = record {
              nodes = ek ∙ e₁;
              meshes = counted-meshes d.at (left d.body s) n d.tag ∙ if_no (is d.tag MESH) _ _ not_mesh ∙ c.meshes ∙ e₂;
              vertices = counted-vertices d.at (left d.body s) n d.tag ∙ if_no (is d.tag MESH) _ _ not_mesh ∙ c.vertices ∙ e₃;
              sets = counted-sets d.at (left d.body s) n d.tag ∙ if_no (is d.tag MESH) _ _ not_mesh ∙ c.sets ∙ e₄;
              triangles = counted-triangles d.at (left d.body s) n d.tag ∙ if_no (is d.tag MESH) _ _ not_mesh ∙ c.triangles ∙ e₅;
            }

            module _ (node : Bool) (en : node ≡ is d.tag NODE) where
              pub meshes_node : node ≡ true → (g : MeshMarks)
                  → g ≡ record { nodes = m.nodes + 1; meshes = m.meshes; vertices = m.vertices; sets = m.sets; triangles = m.triangles; to4 = m.to4; to5 = m.to5; to6 = m.to6; to7 = m.to7 }
                  → MeshesLeft s a4 a5 a6 a7 o4 o5 o6 o7 d.next g
              meshes_node u g e =
                  let f = fit_later d.next (omega (arith, it.more)) in
                  rw e
                  (passed _
                  (λ n c. same n (m.nodes + 1) (counted-nodes d.at (left d.body s) n d.tag ∙ if_yes (is d.tag NODE) _ _ (subst T (sym u ∙ en) tt) ∙ ap (λ (k : ℕ). k + 1) c.nodes) _ refl refl refl refl refl c)
                  (record {
                    nodes = omega (arith, v.fit.nodes, it.more);
                    meshes = f.meshes;
                    vertices = f.vertices;
                    sets = f.sets;
                    triangles = f.triangles;
                    words4 = f.words4;
                    words6 = f.words6;
                  }) refl refl refl refl)

              pub meshes_other : node ≡ false → MeshesLeft s a4 a5 a6 a7 o4 o5 o6 o7 d.next m
              meshes_other u =
                  passed m
                  (λ n c. same n m.nodes (counted-nodes d.at (left d.body s) n d.tag ∙ if_no (is d.tag NODE) _ _ (subst (λ (y : Bool). T (not y)) (sym u ∙ en) tt) ∙ c.nodes) m refl refl refl refl refl c)
                  (fit_later d.next (omega (arith, it.more))) refl refl refl refl

pub ruleset meshes_laws = (meshes_start, meshes_inside, meshes_long4, meshes_long5, meshes_long6, meshes_long7, meshes_nodes, meshes_done4, meshes_done5, meshes_done6, meshes_done7, meshes_less, meshes_body, meshes_fit, meshes_room, meshes_put, meshes_node, meshes_other)
