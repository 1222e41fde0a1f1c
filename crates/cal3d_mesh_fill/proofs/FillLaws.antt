-- The submeshes one after the other: what each turn of `fill_mesh` stores in the six tables.
use Prim.Native.Nat.{ℕ, suc, ◌+◌, ◌-◌, ◌*◌, ◌<◌, ◌≤◌}
use native.Mathlib.Omega.{arith}
use mathlib.Core.Path.{◌≡◌, refl, ap, sym, subst, ◌∙◌}
use mathlib.Core.List.{List, [], ◌∷◌, ◌++◌}
use mir.Syntax.{w64}
use mir.Val.{Fits}
use lib.ListN.{length}
use lib.Seq.{sets}
use Rattle.wire.specs.Test.{if}
use Rattle.wire.specs.Bytes.{word_at}
use Rattle.layout.specs.Rows.{joined}
use Rattle.layout.proofs.ListLaws.{joined-append}
use Rattle.shared_table_words.proofs.StoreLaws.{Part, part-start, part-done, part_room, part-next}
use Rattle.cal3d_spec.specs.Meshes.{Vertex, Submesh}
use Rattle.cal3d_spec.specs.Tables.{submesh_rows, vertex_rows, vertices_of, mesh_rows}
use Rattle.cal3d_mesh_plain_spec.specs.declared.Shape.{Shape}
use Rattle.cal3d_mesh_plain_spec.specs.Plain.{entries_at, end_after, word_rows, shape_at, vertices_at, vertices_end, submesh_at, submesh_end, submeshes_at, submeshes_end, plain_mesh, mesh_end}
use Rattle.cal3d_mesh_plain_spec.specs.Rows.{map_rows, influence_rows, spring_rows, face_rows}
use Rattle.cal3d_mesh_plain_spec.proofs.EntryLaws.{end-grows}
use Rattle.cal3d_mesh_plain_spec.proofs.WidthLaws.{wide-length, rows-length, rows_words, vertices-wide, maps-wide, influences-wide, vertex-rows-wide, vertex-rows-length}
use Rattle.cal3d_mesh_vertex_rows.specs.declared.VertexMarks.{VertexMarks}
use Rattle.cal3d_mesh_vertex_rows.specs.Vertices.{VerticesFit, VerticesPut}
use Rattle.cal3d_mesh_vertex_rows.proofs.VerticesLaws.{vertices_grow, vertices-many}
use Rattle.cal3d_mesh_fill.specs.declared.Place.{Place}
use Rattle.cal3d_mesh_fill.specs.Fills.{PlaceFit, file_words, MeshFit, MeshFilled}
use Rattle.cal3d_mesh_fill.proofs.SubmeshLaws.{its_vertices, its_springs, its_faces, its_end, row_long, submesh_first, vertices-first, springs-first, faces-first, maps-append, influences-append, vertices-append}

-- ---- one submesh and those behind it

submeshes-first : (s : List ℕ) (n k p : ℕ) → n ≡ suc k → submeshes_at s n p ≡ submesh_at s p ∷ submeshes_at s k (submesh_end s p)
unfolding submeshes_at entries_at
submeshes-first s n k p e = rw e

submeshes-none : (s : List ℕ) (n p : ℕ) → n ≡ 0 → submeshes_at s n p ≡ []
unfolding submeshes_at entries_at
submeshes-none s n p e = rw e

end-first : (s : List ℕ) (n k p : ℕ) → n ≡ suc k → submeshes_end s n p ≡ submeshes_end s k (submesh_end s p)
unfolding submeshes_end end_after
end-first s n k p e = rw e

-- a submesh has 24 bytes at least
submesh_grows : (s : List ℕ) (p : ℕ) → p + 24 ≤ submesh_end s p
submesh_grows s p = omega (arith, its_end s p (shape_at s p) refl, vertices_grow s (shape_at s p) (shape_at s p).vertices (p + 24))

submeshes_grow : (s : List ℕ) (n p : ℕ) → p ≤ submeshes_end s n p
unfolding submeshes_end
submeshes_grow s n p = end-grows (submesh_end s) (λ q. let h = submesh_grows s q in omega arith) n p

-- ---- the words of each table from a list of submeshes

module _ (l : List Submesh) where
  abbrev pub words1 : ℕ → ℕ → ℕ → List ℕ
  words1 v g f = joined (submesh_rows v g f l)

  abbrev pub words2 : ℕ → ℕ → List ℕ
  words2 m i = joined (vertex_rows m i (vertices_of l))

  abbrev pub words3 : List ℕ
  words3 = joined (map_rows (vertices_of l))

  abbrev pub words4 : List ℕ
  words4 = joined (influence_rows (vertices_of l))

  abbrev pub words5 : List ℕ
  words5 = joined (spring_rows l)

  abbrev pub words6 : List ℕ
  words6 = joined (face_rows l)

module _ (s : List ℕ) where
  abbrev whole : List Submesh
  whole = submeshes_at s (word_at s 8) 12

  file1 : file_words 1 s ≡ words1 whole 0 0 0
  unfolding mesh_rows plain_mesh if
  file1 = refl

  file2 : file_words 2 s ≡ words2 whole 0 0
  unfolding mesh_rows plain_mesh if
  file2 = refl

  file3 : file_words 3 s ≡ words3 whole
  unfolding mesh_rows plain_mesh if map_rows
  file3 = refl

  file4 : file_words 4 s ≡ words4 whole
  unfolding mesh_rows plain_mesh if influence_rows
  file4 = refl

  file5 : file_words 5 s ≡ words5 whole
  unfolding mesh_rows plain_mesh if spring_rows
  file5 = refl

  file6 : file_words 6 s ≡ words6 whole
  unfolding mesh_rows plain_mesh if face_rows
  file6 = refl

  mesh-end : submeshes_end s (word_at s 8) 12 ≡ mesh_end s
  unfolding mesh_end
  mesh-end = refl

-- no submesh, no words
empty : Unit {0}
unfolding submesh_rows vertex_rows vertices_of map_rows influence_rows spring_rows face_rows joined
empty = tt

module _ (l : List Submesh) (e : l ≡ []) where
  none1 : (v g f : ℕ) → words1 l v g f ≡ []
  unfolding empty
  none1 v g f = rw e

  none2 : (m i : ℕ) → words2 l m i ≡ []
  unfolding empty
  none2 m i = rw e

  none3 : words3 l ≡ []
  unfolding empty
  none3 = rw e

  none4 : words4 l ≡ []
  unfolding empty
  none4 = rw e

  none5 : words5 l ≡ []
  unfolding empty
  none5 = rw e

  none6 : words6 l ≡ []
  unfolding empty
  none6 = rw e

-- of a submesh, and of those behind it
module _ (y : Submesh) (l : List Submesh) where
  more2 : (m i : ℕ) → words2 (y ∷ l) m i ≡ joined (vertex_rows m i y.vertices) ++ words2 l (m + length (map_rows y.vertices)) (i + length (influence_rows y.vertices))
  more2 m i =
      ap (λ (z : List Vertex). joined (vertex_rows m i z)) (vertices-first y l) ∙ ap joined (vertices-append m i y.vertices (vertices_of l))
      ∙ joined-append (vertex_rows m i y.vertices) (vertex_rows (m + length (map_rows y.vertices)) (i + length (influence_rows y.vertices)) (vertices_of l))

  more3 : words3 (y ∷ l) ≡ joined (map_rows y.vertices) ++ words3 l
  more3 = ap (λ (z : List Vertex). joined (map_rows z)) (vertices-first y l) ∙ ap joined (maps-append y.vertices (vertices_of l)) ∙ joined-append (map_rows y.vertices) (map_rows (vertices_of l))

  more4 : words4 (y ∷ l) ≡ joined (influence_rows y.vertices) ++ words4 l
  more4 = ap (λ (z : List Vertex). joined (influence_rows z)) (vertices-first y l) ∙ ap joined (influences-append y.vertices (vertices_of l)) ∙ joined-append (influence_rows y.vertices) (influence_rows (vertices_of l))

  more5 : words5 (y ∷ l) ≡ joined y.springs ++ words5 l
  more5 = ap joined (springs-first y l) ∙ joined-append y.springs (spring_rows l)

  more6 : words6 (y ∷ l) ≡ joined y.faces ++ words6 l
  more6 = ap joined (faces-first y l) ∙ joined-append y.faces (face_rows l)

-- ---- the loop

-- the rows of so many submeshes stand, up to a place; so many are left
pub record MeshLeft (s t1 t2 t3 t4 t5 t6 : List ℕ) (count : ℕ) (u1 u2 u3 u4 u5 u6 : List ℕ) (m : Place) (done : ℕ) : Type 0 where
  pub left : ℕ
  pub all : done + left ≡ count
  pub end : submeshes_end s left m.at ≡ mesh_end s
  pub within : mesh_end s ≤ length s
  pub fit : PlaceFit m
  pub before : done ≤ m.at
  pub part1 : Part t1 0 (file_words 1 s) u1 (9 * done) (words1 (submeshes_at s left m.at) m.vertices m.springs m.faces)
  pub part2 : Part t2 0 (file_words 2 s) u2 (12 * m.vertices) (words2 (submeshes_at s left m.at) m.maps m.influences)
  pub part3 : Part t3 0 (file_words 3 s) u3 (2 * m.maps) (words3 (submeshes_at s left m.at))
  pub part4 : Part t4 0 (file_words 4 s) u4 (2 * m.influences) (words4 (submeshes_at s left m.at))
  pub part5 : Part t5 0 (file_words 5 s) u5 (4 * m.springs) (words5 (submeshes_at s left m.at))
  pub part6 : Part t6 0 (file_words 6 s) u6 (3 * m.faces) (words6 (submeshes_at s left m.at))

pub turn-less : (count done : ℕ) → done < count → count - (done + 1) < count - done
turn-less count done h = omega arith

starts : (t words rest : List ℕ) → length words ≤ length t → words ≡ rest → Part t 0 words t 0 rest
starts t words rest h e = subst (λ (z : List ℕ). Part t 0 words t 0 z) e (part-start t 0 words (omega arith))

module _ (s t1 t2 t3 t4 t5 t6 : List ℕ) where
  abbrev start : Place
  start = record { at = 12; vertices = 0; maps = 0; influences = 0; springs = 0; faces = 0 }

  pub start-head : (l1 l2 l3 l4 l5 l6 : ℕ) → MeshFit s l1 l2 l3 l4 l5 l6 → 8 + 4 ≤ length s
  start-head l1 l2 l3 l4 l5 l6 f = f.head

  pub mesh-start : MeshFit s (length t1) (length t2) (length t3) (length t4) (length t5) (length t6) → (n : ℕ) → n ≡ word_at s 8 → (count : ℕ) → count ≡ n
      → MeshLeft s t1 t2 t3 t4 t5 t6 count t1 t2 t3 t4 t5 t6 start 0
  mesh-start f n en count ec = record {
    left = word_at s 8;
    all = omega arith;
    end = mesh-end s;
    within = f.within;
    fit = record { vertices = omega arith; maps = omega arith; influences = omega arith; springs = omega arith; faces = omega arith };
    before = omega arith;
    part1 = starts t1 (file_words 1 s) (words1 (whole s) 0 0 0) f.room1 (file1 s);
    part2 = starts t2 (file_words 2 s) (words2 (whole s) 0 0) f.room2 (file2 s);
    part3 = starts t3 (file_words 3 s) (words3 (whole s)) f.room3 (file3 s);
    part4 = starts t4 (file_words 4 s) (words4 (whole s)) f.room4 (file4 s);
    part5 = starts t5 (file_words 5 s) (words5 (whole s)) f.room5 (file5 s);
    part6 = starts t6 (file_words 6 s) (words6 (whole s)) f.room6 (file6 s);
  }

  module _ (count : ℕ) (u1 u2 u3 u4 u5 u6 : List ℕ) (m : Place) (done : ℕ) (v : MeshLeft s t1 t2 t3 t4 t5 t6 count u1 u2 u3 u4 u5 u6 m done) where
    pub mesh-done : count ≤ done → MeshFilled s t1 t2 t3 t4 t5 t6 u1 u2 u3 u4 u5 u6
    mesh-done h =
        let l = submeshes_at s v.left m.at in
        let e = submeshes-none s v.left m.at (omega (arith, v.all)) in
        record {
          rows1 = part-done v.part1 (none1 l e m.vertices m.springs m.faces);
          rows2 = part-done v.part2 (none2 l e m.maps m.influences);
          rows3 = part-done v.part3 (none3 l e);
          rows4 = part-done v.part4 (none4 l e);
          rows5 = part-done v.part5 (none5 l e);
          rows6 = part-done v.part6 (none6 l e);
        }

    module _ (h : done < count) where
      abbrev later : ℕ
      later = v.left - 1

      abbrev here : Submesh
      here = submesh_at s m.at

      abbrev others : List Submesh
      others = submeshes_at s later (submesh_end s m.at)

      less : v.left ≡ suc later
      less = omega (arith, v.all)

      split : submeshes_at s v.left m.at ≡ here ∷ others
      split = submeshes-first s v.left later m.at less

      ends : submeshes_end s later (submesh_end s m.at) ≡ mesh_end s
      ends = sym (end-first s v.left later m.at less) ∙ v.end

      inside : submesh_end s m.at ≤ length s
      inside = omega (arith, submeshes_grow s later (submesh_end s m.at), ends, v.within)

      pub turn-head : m.at + 24 ≤ length s
      turn-head = omega (arith, submesh_grows s m.at, inside)

      pub turn-fit : PlaceFit m
      turn-fit = v.fit

      abbrev row : List ℕ
      row = joined (submesh_rows m.vertices m.springs m.faces (here ∷ []))

      row_words : length row ≡ 9
      row_words = row_long s m.vertices m.springs m.faces m.at

      split1 : words1 (submeshes_at s v.left m.at) m.vertices m.springs m.faces
          ≡ row ++ words1 others (m.vertices + length here.vertices) (m.springs + length here.springs) (m.faces + length here.faces)
      split1 = ap (λ (l : List Submesh). words1 l m.vertices m.springs m.faces) split ∙ submesh_first here others m.vertices m.springs m.faces

      pub turn_submesh : 9 * done + 9 ≤ length u1
      turn_submesh = let r = part_room v.part1 row _ split1 in omega (arith, row_words)

      module _ (small : length s < 0x100000000) where
        pub fits_row : Fits w64 (9 * done)
        fits_row = record { fits = omega (arith, turn-head, v.before) }

        pub fits_next : Fits w64 (done + 1)
        fits_next = record { fits = omega (arith, turn-head, v.before) }

        pub fits_head : Fits w64 (m.at + 24)
        fits_head = record { fits = omega (arith, turn-head) }

      module _ (x : Shape) (ex : x ≡ shape_at s m.at) where
        abbrev own : List Vertex
        own = vertices_at s x x.vertices (m.at + 24)

        abbrev behind : ℕ
        behind = vertices_end s x x.vertices (m.at + 24)

        abbrev from : VertexMarks
        from = record { at = m.at + 24; maps = m.maps; influences = m.influences }

        upto : behind + 16 * x.springs + 12 * x.faces ≤ length s
        upto = omega (arith, inside, its_end s m.at x ex)

        split2 : words2 (submeshes_at s v.left m.at) m.maps m.influences
            ≡ joined (vertex_rows m.maps m.influences own) ++ words2 others (m.maps + length (map_rows own)) (m.influences + length (influence_rows own))
        split2 =
            ap (λ (l : List Submesh). words2 l m.maps m.influences) split ∙ more2 here others m.maps m.influences
            ∙ ap (λ (l : List Vertex). joined (vertex_rows m.maps m.influences l) ++ words2 others (m.maps + length (map_rows l)) (m.influences + length (influence_rows l))) (its_vertices s m.at x ex)

        split3 : words3 (submeshes_at s v.left m.at) ≡ joined (map_rows own) ++ words3 others
        split3 = ap words3 split ∙ more3 here others ∙ ap (λ (l : List Vertex). joined (map_rows l) ++ words3 others) (its_vertices s m.at x ex)

        split4 : words4 (submeshes_at s v.left m.at) ≡ joined (influence_rows own) ++ words4 others
        split4 = ap words4 split ∙ more4 here others ∙ ap (λ (l : List Vertex). joined (influence_rows l) ++ words4 others) (its_vertices s m.at x ex)

        split5 : words5 (submeshes_at s v.left m.at) ≡ joined (word_rows 4 s x.springs behind) ++ words5 others
        split5 = ap words5 split ∙ more5 here others ∙ ap (λ (l : List (List ℕ)). joined l ++ words5 others) (its_springs s m.at x ex)

        split6 : words6 (submeshes_at s v.left m.at) ≡ joined (word_rows 3 s x.faces (behind + 16 * x.springs)) ++ words6 others
        split6 = ap words6 split ∙ more6 here others ∙ ap (λ (l : List (List ℕ)). joined l ++ words6 others) (its_faces s m.at x ex)

        long2 : length (joined (vertex_rows m.maps m.influences own)) ≡ 12 * x.vertices
        long2 =
            let w = vertices-wide s x x.vertices (m.at + 24) in
            wide-length 12 (vertex_rows m.maps m.influences own) (vertex-rows-wide m.maps m.influences own w)
            ∙ ap (λ (n : ℕ). 12 * n) (vertex-rows-length m.maps m.influences own ∙ vertices-many s x x.vertices (m.at + 24))

        long3 : length (joined (map_rows own)) ≡ 2 * length (map_rows own)
        long3 = wide-length 2 (map_rows own) (maps-wide own (vertices-wide s x x.vertices (m.at + 24)))

        long4 : length (joined (influence_rows own)) ≡ 2 * length (influence_rows own)
        long4 = wide-length 2 (influence_rows own) (influences-wide own (vertices-wide s x x.vertices (m.at + 24)))

        pub turn_vertices : length s < 0x100000000 → VerticesFit s x from m.vertices (length u2) (length u3) (length u4)
        turn_vertices small =
            let r2 = part_room v.part2 (joined (vertex_rows m.maps m.influences own)) _ split2 in
            let r3 = part_room v.part3 (joined (map_rows own)) (words3 others) split3 in
            let r4 = part_room v.part4 (joined (influence_rows own)) (words4 others) split4 in
            record {
              small = small;
              within = omega (arith, upto);
              fit = record { maps = omega (arith, v.fit.maps); influences = omega (arith, v.fit.influences) };
              before = omega (arith, v.fit.vertices);
              vertices = omega (arith, long2);
              maps = omega (arith, long3);
              influences = omega (arith, long4);
            }

        module _ (w2 w3 w4 : List ℕ) (k : VertexMarks) (p : VerticesPut s x from m.vertices u2 u3 u4 w2 w3 w4 k) where
          pub turn-springs_in : k.at + 4 * (4 * x.springs) ≤ length s
          turn-springs_in = omega (arith, upto, p.to)

          pub turn-springs : 4 * m.springs + 4 * x.springs ≤ length u5
          turn-springs = let r = part_room v.part5 (joined (word_rows 4 s x.springs behind)) (words5 others) split5 in omega (arith, rows_words 4 s x.springs behind)

          pub turn-faces_in : k.at + 16 * x.springs + 4 * (3 * x.faces) ≤ length s
          turn-faces_in = omega (arith, upto, p.to)

          pub turn-faces : 3 * m.faces + 3 * x.faces ≤ length u6
          turn-faces =
              let r = part_room v.part6 (joined (word_rows 3 s x.faces (behind + 16 * x.springs))) (words6 others) split6 in
              omega (arith, rows_words 3 s x.faces (behind + 16 * x.springs))

          pub turn-few : m.vertices + x.vertices ≤ k.at
          turn-few = p.few

          grown : m.at + 24 ≤ k.at
          grown = omega (arith, p.to, vertices_grow s x x.vertices (m.at + 24))

          pub springs-before : m.springs ≤ k.at
          springs-before = omega (arith, grown, v.fit.springs)

          pub faces-before : m.faces ≤ k.at
          faces-before = omega (arith, grown, v.fit.faces)

          module _ (small : length s < 0x100000000) where
            pub fits-springs : Fits w64 (16 * x.springs)
            fits-springs = record { fits = omega (arith, upto) }

            pub fits-faces : Fits w64 (k.at + 16 * x.springs)
            fits-faces = record { fits = omega (arith, upto, p.to) }

            pub turn_end : k.at + 16 * x.springs + 12 * x.faces < 0x100000000
            turn_end = omega (arith, upto, p.to)

          place_is : (a : ℕ) → k.at + 16 * x.springs + 12 * x.faces ≡ a
              → ◌≡◌ {A = Place}
              (record { at = k.at + 16 * x.springs + 12 * x.faces; vertices = m.vertices + x.vertices; maps = k.maps; influences = k.influences; springs = m.springs + x.springs; faces = m.faces + x.faces })
              (record { at = a; vertices = m.vertices + x.vertices; maps = m.maps + length (map_rows own); influences = m.influences + length (influence_rows own); springs = m.springs + x.springs; faces = m.faces + x.faces })
          place_is a e = rw (e, p.maps_to, p.influences_to)

          counts : (a b c : ℕ) → a ≡ x.vertices → b ≡ x.springs → c ≡ x.faces
              → row ++ words1 others (m.vertices + a) (m.springs + b) (m.faces + c) ≡ row ++ words1 others (m.vertices + x.vertices) (m.springs + x.springs) (m.faces + x.faces)
          counts a b c e f g = rw (e, f, g)

          pub turn_next : (w1 w5 w6 : List ℕ) (r : Place)
              → w1 ≡ sets u1 (9 * done) (joined (submesh_rows m.vertices m.springs m.faces (submesh_at s m.at ∷ [])))
              → w5 ≡ sets u5 (4 * m.springs) (joined (word_rows 4 s x.springs k.at))
              → w6 ≡ sets u6 (3 * m.faces) (joined (word_rows 3 s x.faces (k.at + 16 * x.springs)))
              → r ≡ record {
                at = k.at + 16 * x.springs + 12 * x.faces;
                vertices = m.vertices + x.vertices;
                maps = k.maps;
                influences = k.influences;
                springs = m.springs + x.springs;
                faces = m.faces + x.faces;
              }
              → MeshLeft s t1 t2 t3 t4 t5 t6 count w1 w2 w3 w4 w5 w6 r (done + 1)
          turn_next w1 w5 w6 r e1 e5 e6 er =
              let c = its_end s m.at x ex in
              let to : k.at + 16 * x.springs + 12 * x.faces ≡ submesh_end s m.at = omega (arith, p.to) in
              let after : Place = record { at = submesh_end s m.at; vertices = m.vertices + x.vertices; maps = m.maps + length (map_rows own); influences = m.influences + length (influence_rows own); springs = m.springs + x.springs; faces = m.faces + x.faces } in
              let fr : r ≡ after = er ∙ place_is (submesh_end s m.at) to in
              let f5 : w5 ≡ sets u5 (4 * m.springs) (joined (word_rows 4 s x.springs behind)) = rw p.to at e5 in
              let f6 : w6 ≡ sets u6 (3 * m.faces) (joined (word_rows 3 s x.faces (behind + 16 * x.springs))) = rw p.to at e6 in
              let n2 = ap length (its_vertices s m.at x ex) ∙ vertices-many s x x.vertices (m.at + 24) in
              let n5 = ap length (its_springs s m.at x ex) ∙ rows-length 4 s x.springs behind in
              let n6 = ap length (its_faces s m.at x ex) ∙ rows-length 3 s x.faces (behind + 16 * x.springs) in
              subst (λ (z : Place). MeshLeft s t1 t2 t3 t4 t5 t6 count w1 w2 w3 w4 w5 w6 z (done + 1)) (sym fr)
              (record {
                left = later;
                all = omega (arith, v.all);
                end = ends;
                within = v.within;
                fit = record {
                  vertices = omega (arith, p.few);
                  maps = omega (arith, p.fit.maps, p.maps_to);
                  influences = omega (arith, p.fit.influences, p.influences_to);
                  springs = omega (arith, springs-before);
                  faces = omega (arith, faces-before);
                };
                before = omega (arith, v.before, submesh_grows s m.at);
                part1 = part-next v.part1 row (words1 others (m.vertices + x.vertices) (m.springs + x.springs) (m.faces + x.faces)) (split1 ∙ counts (length here.vertices) (length here.springs) (length here.faces) n2 n5 n6) w1 (9 * (done + 1)) e1 (omega (arith, row_words));
                part2 = part-next v.part2 (joined (vertex_rows m.maps m.influences own)) (words2 others (m.maps + length (map_rows own)) (m.influences + length (influence_rows own))) split2 w2 (12 * (m.vertices + x.vertices)) p.rows2 (omega (arith, long2));
                part3 = part-next v.part3 (joined (map_rows own)) (words3 others) split3 w3 (2 * (m.maps + length (map_rows own))) p.rows3 (omega (arith, long3));
                part4 = part-next v.part4 (joined (influence_rows own)) (words4 others) split4 w4 (2 * (m.influences + length (influence_rows own))) p.rows4 (omega (arith, long4));
                part5 = part-next v.part5 (joined (word_rows 4 s x.springs behind)) (words5 others) split5 w5 (4 * (m.springs + x.springs)) f5 (omega (arith, rows_words 4 s x.springs behind));
                part6 = part-next v.part6 (joined (word_rows 3 s x.faces (behind + 16 * x.springs))) (words6 others) split6 w6 (3 * (m.faces + x.faces)) f6 (omega (arith, rows_words 3 s x.faces (behind + 16 * x.springs)));
              })
