-- The vertices of a submesh one after the other: what each turn of `put_vertices` stores.
use Prim.Native.Nat.{ℕ, suc, ◌+◌, ◌-◌, ◌*◌, ◌<◌, ◌≤◌}
use native.Mathlib.Omega.{arith}
use mathlib.Core.Path.{◌≡◌, refl, ap, ap₂, sym, subst, ◌∙◌}
use mathlib.Core.List.{List, [], ◌∷◌, ◌++◌, append-nil}
use mir.Syntax.{w64}
use mir.Val.{Fits}
use lib.ListN.{length, length-append}
use lib.Seq.{sets}
use Rattle.wire.specs.Bytes.{word_at}
use Rattle.layout.specs.Rows.{joined}
use Rattle.layout.proofs.ListLaws.{joined-append}
use Rattle.shared_table_words.proofs.StoreLaws.{Part, part-start, part-long, part-done, part_room, part-next}
use Rattle.cal3d_spec.specs.Meshes.{Vertex}
use Rattle.cal3d_spec.specs.Tables.{vertex_rows}
use Rattle.cal3d_mesh_plain_spec.specs.declared.Shape.{Shape}
use Rattle.cal3d_mesh_plain_spec.specs.Plain.{entries_at, end_after, word_rows, influences_of, cloth_bytes, cloth_place, vertex_at, vertex_end, vertices_at, vertices_end}
use Rattle.cal3d_mesh_plain_spec.specs.Rows.{map_rows, influence_rows}
use Rattle.cal3d_mesh_plain_spec.proofs.EntryLaws.{entries-length, end-grows}
use Rattle.cal3d_mesh_plain_spec.proofs.WidthLaws.{wide-length, rows-length, rows_words, vertices-wide, maps-wide, influences-wide, vertex-rows-wide, vertex-rows-length}
use Rattle.cal3d_mesh_vertex_rows.proofs.VertexLaws.{row_long}
use Rattle.cal3d_mesh_vertex_rows.specs.declared.VertexMarks.{VertexMarks}
use Rattle.cal3d_mesh_vertex_rows.specs.Vertices.{VertexMarksFit, vertices_from, VerticesFit, VerticesPut}

-- ---- one vertex and those behind it

vertices-first : (s : List ℕ) (x : Shape) (n k p : ℕ) → n ≡ suc k → vertices_at s x n p ≡ vertex_at s x.springs x.maps p ∷ vertices_at s x k (vertex_end s x.springs x.maps p)
unfolding vertices_at entries_at
vertices-first s x n k p e = rw e

vertices-none : (s : List ℕ) (x : Shape) (n p : ℕ) → n ≡ 0 → vertices_at s x n p ≡ []
unfolding vertices_at entries_at
vertices-none s x n p e = rw e

end-first : (s : List ℕ) (x : Shape) (n k p : ℕ) → n ≡ suc k → vertices_end s x n p ≡ vertices_end s x k (vertex_end s x.springs x.maps p)
unfolding vertices_end end_after
end-first s x n k p e = rw e

end_none : (s : List ℕ) (x : Shape) (n p : ℕ) → n ≡ 0 → vertices_end s x n p ≡ p
unfolding vertices_end end_after
end_none s x n p e = rw e

vertex-grows : (s : List ℕ) (springs maps p : ℕ) → p ≤ vertex_end s springs maps p
unfolding vertex_end
vertex-grows s springs maps p = omega arith

pub vertices_grow : (s : List ℕ) (x : Shape) (n p : ℕ) → p ≤ vertices_end s x n p
unfolding vertices_end
vertices_grow s x n p = end-grows (vertex_end s x.springs x.maps) (vertex-grows s x.springs x.maps) n p

pub vertices-many : (s : List ℕ) (x : Shape) (n p : ℕ) → length (vertices_at s x n p) ≡ n
unfolding vertices_at
vertices-many s x n p = entries-length (vertex_at s x.springs x.maps) (vertex_end s x.springs x.maps) n p

vertex-ends : (s : List ℕ) (springs maps p : ℕ) → vertex_end s springs maps p ≡ cloth_place s maps p + cloth_bytes springs
unfolding vertex_end
vertex-ends s springs maps p = refl

-- the rows of a vertex, and of those behind it
module _ (y : Vertex) (l : List Vertex) where
  rows-first : (m i : ℕ) → joined (vertex_rows m i (y ∷ l)) ≡ joined (vertex_rows m i (y ∷ [])) ++ joined (vertex_rows (m + length y.maps) (i + length y.influences) l)
  unfolding vertex_rows joined
  rows-first m i =
      ap (λ (r : List ℕ). r ++ joined (vertex_rows (m + length y.maps) (i + length y.influences) l)) (sym (append-nil (y.numbers ++ (length y.influences ∷ y.cloth ∷ m ∷ i ∷ []))))

  maps-first : map_rows (y ∷ l) ≡ y.maps ++ map_rows l
  unfolding map_rows joined
  maps-first = refl

  influences-first : influence_rows (y ∷ l) ≡ y.influences ++ influence_rows l
  unfolding influence_rows joined
  influences-first = refl

no_rows : (m i : ℕ) → joined (vertex_rows m i []) ≡ []
unfolding vertex_rows joined
no_rows m i = refl

no-maps : map_rows [] ≡ []
unfolding map_rows joined
no-maps = refl

no-influences : influence_rows [] ≡ []
unfolding influence_rows joined
no-influences = refl

none-joined : joined {A = ℕ} [] ≡ []
unfolding joined
none-joined = refl

-- ---- the loop

-- of so many vertices the rows stand, up to the marks; so many are left
pub record VerticesLeft (s : List ℕ) (x : Shape) (from : VertexMarks) (first : ℕ) (vertices₀ maps₀ influences₀ vertices maps influences : List ℕ) (m : VertexMarks) (done : ℕ) : Type 0 where
  pub left : ℕ
  pub all : done + left ≡ x.vertices
  pub end : vertices_end s x left m.at ≡ vertices_end s x x.vertices from.at
  pub within : vertices_end s x x.vertices from.at ≤ length s
  pub fit : VertexMarksFit m
  pub before : first + done ≤ m.at
  pub part2 : Part vertices₀ (12 * first) (joined (vertex_rows from.maps from.influences (vertices_from s x from))) vertices (12 * (first + done)) (joined (vertex_rows m.maps m.influences (vertices_at s x left m.at)))
  pub part3 : Part maps₀ (2 * from.maps) (joined (map_rows (vertices_from s x from))) maps (2 * m.maps) (joined (map_rows (vertices_at s x left m.at)))
  pub part4 : Part influences₀ (2 * from.influences) (joined (influence_rows (vertices_from s x from))) influences (2 * m.influences) (joined (influence_rows (vertices_at s x left m.at)))
  pub maps_left : m.maps + length (map_rows (vertices_at s x left m.at)) ≡ from.maps + length (map_rows (vertices_from s x from))
  pub influences_left : m.influences + length (influence_rows (vertices_at s x left m.at)) ≡ from.influences + length (influence_rows (vertices_from s x from))

module _ (s : List ℕ) (x : Shape) (from : VertexMarks) (first : ℕ) (vertices₀ maps₀ influences₀ : List ℕ) where
  abbrev Left : List ℕ → List ℕ → List ℕ → VertexMarks → ℕ → Type 0
  Left vertices maps influences m done = VerticesLeft s x from first vertices₀ maps₀ influences₀ vertices maps influences m done

  pub vertices_start : VerticesFit s x from first (length vertices₀) (length maps₀) (length influences₀) → Left vertices₀ maps₀ influences₀ from 0
  vertices_start f =
      let y : 12 * first ≡ 12 * (first + 0) = omega arith in
      let l = vertices_from s x from in
      let w = vertices-wide s x x.vertices from.at in
      let l2 = wide-length 12 (vertex_rows from.maps from.influences l) (vertex-rows-wide from.maps from.influences l w) in
      let k2 = vertex-rows-length from.maps from.influences l in
      let n2 = vertices-many s x x.vertices from.at in
      let l3 = wide-length 2 (map_rows l) (maps-wide l w) in
      let l4 = wide-length 2 (influence_rows l) (influences-wide l w) in
      let all2 = joined (vertex_rows from.maps from.influences l) in
      record {
        left = x.vertices;
        all = omega arith;
        end = refl;
        within = f.within;
        fit = f.fit;
        before = omega (arith, f.before);
        part2 = subst (λ (z : ℕ). Part vertices₀ (12 * first) all2 vertices₀ z all2) y (part-start vertices₀ (12 * first) all2 (omega (arith, f.vertices)));
        part3 = part-start maps₀ (2 * from.maps) (joined (map_rows l)) (omega (arith, f.maps));
        part4 = part-start influences₀ (2 * from.influences) (joined (influence_rows l)) (omega (arith, f.influences));
        maps_left = refl;
        influences_left = refl;
      }

  module _ (vertices maps influences : List ℕ) (m : VertexMarks) (done : ℕ) (v : Left vertices maps influences m done) where
    pub vertices_done : x.vertices ≤ done → VerticesPut s x from first vertices₀ maps₀ influences₀ vertices maps influences m
    vertices_done h =
        let z : v.left ≡ 0 = omega (arith, v.all) in
        let e = vertices-none s x v.left m.at z in
        let a : map_rows (vertices_at s x v.left m.at) ≡ [] = ap map_rows e ∙ no-maps in
        let b : influence_rows (vertices_at s x v.left m.at) ≡ [] = ap influence_rows e ∙ no-influences in
        let n3 = ap length a in
        let n4 = ap length b in
        record {
          rows2 = part-done v.part2 (ap (λ (l : List Vertex). joined (vertex_rows m.maps m.influences l)) e ∙ no_rows m.maps m.influences);
          rows3 = part-done v.part3 (ap joined a ∙ none-joined);
          rows4 = part-done v.part4 (ap joined b ∙ none-joined);
          to = sym (end_none s x v.left m.at z) ∙ v.end;
          maps_to = omega (arith, v.maps_left);
          influences_to = omega (arith, v.influences_left);
          fit = v.fit;
          few = omega (arith, v.before, v.all);
        }

    module _ (h : done < x.vertices) where
      abbrev later : ℕ
      later = v.left - 1

      abbrev here : Vertex
      here = vertex_at s x.springs x.maps m.at

      abbrev next : ℕ
      next = vertex_end s x.springs x.maps m.at

      abbrev others : List Vertex
      others = vertices_at s x later next

      abbrev place : ℕ
      place = m.at + 32 + 8 * x.maps

      abbrev many : ℕ
      many = influences_of s x.maps m.at

      less : v.left ≡ suc later
      less = omega (arith, v.all)

      split : vertices_at s x v.left m.at ≡ here ∷ others
      split = vertices-first s x v.left later m.at less

      ends : vertices_end s x later next ≡ vertices_end s x x.vertices from.at
      ends = sym (end-first s x v.left later m.at less) ∙ v.end

      pub turn_room : cloth_place s x.maps m.at + cloth_bytes x.springs ≤ length s
      turn_room = omega (arith, vertex-ends s x.springs x.maps m.at, vertices_grow s x later next, ends, v.within)

      many_maps : length here.maps ≡ x.maps
      unfolding vertex_at
      many_maps = rows-length 2 s x.maps (m.at + 32)

      many_influences : length here.influences ≡ many
      unfolding vertex_at
      many_influences = rows-length 2 s many (place + 4)

      abbrev row : List ℕ
      row = joined (vertex_rows m.maps m.influences (here ∷ []))

      row_words : length row ≡ 12
      row_words = row_long s x.springs x.maps m.maps m.influences m.at

      split2 : joined (vertex_rows m.maps m.influences (vertices_at s x v.left m.at)) ≡ row ++ joined (vertex_rows (m.maps + x.maps) (m.influences + many) others)
      split2 =
          ap (λ (l : List Vertex). joined (vertex_rows m.maps m.influences l)) split ∙ rows-first here others m.maps m.influences
          ∙ ap₂ (λ (a b : ℕ). row ++ joined (vertex_rows (m.maps + a) (m.influences + b) others)) many_maps many_influences

      split3 : map_rows (vertices_at s x v.left m.at) ≡ word_rows 2 s x.maps (m.at + 32) ++ map_rows others
      unfolding vertex_at
      split3 = ap map_rows split ∙ maps-first here others

      split4 : influence_rows (vertices_at s x v.left m.at) ≡ word_rows 2 s many (place + 4) ++ influence_rows others
      unfolding vertex_at
      split4 = ap influence_rows split ∙ influences-first here others

      words3 : joined (map_rows (vertices_at s x v.left m.at)) ≡ joined (word_rows 2 s x.maps (m.at + 32)) ++ joined (map_rows others)
      words3 = ap joined split3 ∙ joined-append (word_rows 2 s x.maps (m.at + 32)) (map_rows others)

      words4 : joined (influence_rows (vertices_at s x v.left m.at)) ≡ joined (word_rows 2 s many (place + 4)) ++ joined (influence_rows others)
      words4 = ap joined split4 ∙ joined-append (word_rows 2 s many (place + 4)) (influence_rows others)

      pub turn_vertices : 12 * (first + done) + 12 ≤ length vertices
      turn_vertices = let r = part_room v.part2 row (joined (vertex_rows (m.maps + x.maps) (m.influences + many) others)) split2 in omega (arith, row_words)

      pub turn_maps : 2 * m.maps + 2 * x.maps ≤ length maps
      turn_maps = let r = part_room v.part3 (joined (word_rows 2 s x.maps (m.at + 32))) (joined (map_rows others)) words3 in omega (arith, rows_words 2 s x.maps (m.at + 32))

      pub turn_maps_in : m.at + 32 + 4 * (2 * x.maps) ≤ length s
      turn_maps_in = omega (arith, turn_room)

      pub turn_place : m.at + 32 + 8 * x.maps + 4 ≤ length s
      turn_place = omega (arith, turn_room)

      pub fit_maps : m.maps ≤ m.at
      fit_maps = v.fit.maps

      pub fit_influences : m.influences ≤ m.at
      fit_influences = v.fit.influences

      module _ (small : length s < 0x100000000) where
        pub fits_at : Fits w64 (m.at + 32)
        fits_at = record { fits = omega (arith, turn_room) }

        pub fits_maps : Fits w64 (8 * x.maps)
        fits_maps = record { fits = omega (arith, turn_room) }

        pub fits_place : Fits w64 (m.at + 32 + 8 * x.maps)
        fits_place = record { fits = omega (arith, turn_room) }

        pub fits_behind : Fits w64 (m.at + 32 + 8 * x.maps + 4)
        fits_behind = record { fits = omega (arith, turn_room) }

        pub fits_row : Fits w64 (first + done)
        fits_row = record { fits = omega (arith, turn_room, v.before) }

        pub fits_word : Fits w64 (12 * (first + done))
        fits_word = record { fits = omega (arith, turn_room, v.before) }

      module _ (k : ℕ) (ek : k ≡ word_at s (m.at + 32 + 8 * x.maps)) (n : ℕ) (en : n ≡ k) where
        pub turn_influences : 2 * m.influences + 2 * n ≤ length influences
        turn_influences = let r = part_room v.part4 (joined (word_rows 2 s many (place + 4))) (joined (influence_rows others)) words4 in omega (arith, rows_words 2 s many (place + 4))

        pub turn_influences_in : m.at + 32 + 8 * x.maps + 4 + 4 * (2 * n) ≤ length s
        turn_influences_in = omega (arith, turn_room)

        pub turn_end : length s < 0x100000000 → m.at + 32 + 8 * x.maps + 4 + 8 * n + cloth_bytes x.springs < 0x100000000
        turn_end small = omega (arith, turn_room)

        pub turn_next : (vertices₁ maps₁ influences₁ : List ℕ) (r : VertexMarks)
            → vertices₁ ≡ sets vertices (12 * (first + done)) (joined (vertex_rows m.maps m.influences (here ∷ [])))
            → maps₁ ≡ sets maps (2 * m.maps) (joined (word_rows 2 s x.maps (m.at + 32)))
            → influences₁ ≡ sets influences (2 * m.influences) (joined (word_rows 2 s n (m.at + 32 + 8 * x.maps + 4)))
            → r ≡ record { at = m.at + 32 + 8 * x.maps + 4 + 8 * n + cloth_bytes x.springs; maps = m.maps + x.maps; influences = m.influences + n }
            → Left vertices₁ maps₁ influences₁ r (done + 1)
        turn_next vertices₁ maps₁ influences₁ r e2 e3 e4 er =
            let e : n ≡ many = en ∙ ek in
            let f4 : influences₁ ≡ sets influences (2 * m.influences) (joined (word_rows 2 s many (place + 4))) = rw e at e4 in
            let g = vertex-ends s x.springs x.maps m.at in
            let fr : r ≡ record { at = next; maps = m.maps + x.maps; influences = m.influences + many } = er ∙ ap₂ (λ (a b : ℕ). record { at = a; maps = m.maps + x.maps; influences = m.influences + b }) (omega arith) e in
            let k3 = ap length split3 ∙ length-append (word_rows 2 s x.maps (m.at + 32)) (map_rows others) in
            let k4 = ap length split4 ∙ length-append (word_rows 2 s many (place + 4)) (influence_rows others) in
            let n3 = rows-length 2 s x.maps (m.at + 32) in
            let n4 = rows-length 2 s many (place + 4) in
            let w3 = rows_words 2 s x.maps (m.at + 32) in
            let w4 = rows_words 2 s many (place + 4) in
            subst (λ (z : VertexMarks). Left vertices₁ maps₁ influences₁ z (done + 1)) (sym fr)
            (record {
              left = later;
              all = omega (arith, v.all);
              end = ends;
              within = v.within;
              fit = record { maps = omega (arith, v.fit.maps); influences = omega (arith, v.fit.influences) };
              before = omega (arith, v.before);
              part2 = part-next v.part2 row (joined (vertex_rows (m.maps + x.maps) (m.influences + many) others)) split2 vertices₁ (12 * (first + (done + 1))) e2 (omega (arith, row_words));
              part3 = part-next v.part3 (joined (word_rows 2 s x.maps (m.at + 32))) (joined (map_rows others)) words3 maps₁ (2 * (m.maps + x.maps)) e3 (omega arith);
              part4 = part-next v.part4 (joined (word_rows 2 s many (place + 4))) (joined (influence_rows others)) words4 influences₁ (2 * (m.influences + many)) f4 (omega arith);
              maps_left = omega (arith, v.maps_left);
              influences_left = omega (arith, v.influences_left);
            })

pub ruleset turns = (
  vertices_start,
  part-long,
  vertices_done,
  turn_room,
  turn_vertices,
  turn_maps,
  turn_maps_in,
  turn_place,
  fit_maps,
  fit_influences,
  fits_at,
  fits_maps,
  fits_place,
  fits_behind,
  fits_row,
  fits_word,
  turn_influences,
  turn_influences_in,
  turn_end,
  turn_next,
)
