-- An accepted mesh is what its file's bytes say with no rule.
use Prim.Native.Nat.{ℕ, zero, suc, ◌+◌, ◌*◌, ◌≤◌}
use native.Mathlib.Omega.{arith}
use mathlib.Core.Path.{◌≡◌, refl, ap, ap₂, sym, subst, ◌∙◌}
use mathlib.Core.List.{List, [], ◌∷◌}
use lib.ListN.{length, get_or}
use lib.Seq.{take_all}
use lib.Dec.{leb, leb→le}
use mir.Facts.{and_yes}
use Rattle.wire.specs.Bytes.{word_at}
use Rattle.wire.specs.Cursors.{left}
use Rattle.layout.specs.Result.{accept}
use Rattle.layout.specs.Parts.{Step, row, number}
use Rattle.layout.specs.Rows.{size_fits}
use Rattle.layout.specs.Rules.{any}
use Rattle.layout.specs.Counted.{times, at_end}
use Rattle.layout.proofs.ResultLaws.{by_got, by-check, got_inj}
use Rattle.shared_table_words.specs.Words.{words_at}
use Rattle.cal3d_spec.specs.Rules.{named_bones, mesh_head, submesh_numbers, vertex_numbers, map_numbers, influences_head, influence_numbers, cloth_numbers, spring_numbers, face_numbers}
use Rattle.cal3d_spec.specs.Meshes.{Vertex, Submesh, Mesh, read_cloth, read_vertex, read_submesh, mesh_from, mesh}
use Rattle.cal3d_mesh_plain_spec.specs.declared.Shape.{Shape}
use Rattle.cal3d_mesh_plain_spec.specs.Plain.{word_rows, influences_place, influences_of, cloth_at, cloth_bytes, cloth_place, vertex_at, vertex_end, shape_at, vertices_at, vertices_end, springs_place, faces_place, submesh_at, submesh_end, submeshes_at, submeshes_end, plain_mesh, mesh_end}
use Rattle.cal3d_mesh_plain_spec.proofs.ReadingPlaceLaws.{after, Found, Finds, found-next, found_as, row_finds, times_finds, rows-find}

module _ (s : List ℕ) where
  cloth_finds : (springs : ℕ) → Finds s (read_cloth springs) (cloth_at s springs) (λ p. p + cloth_bytes springs)
  unfolding read_cloth cloth_at cloth_bytes words_at
  cloth_finds zero p x h e =
      let z : p ≡ p + 0 = omega arith in
      subst (λ (y : Step ℕ). Found s y 0 (p + 0)) (got_inj e) (record { is = refl; to = z; rest = ap (after s) z; within = omega arith })
  cloth_finds (suc springs) p x h e =
      by_got (row cloth_numbers p (after s p)) _ e (λ w ew e₁. let f = row_finds s cloth_numbers p w h ew in
      subst (λ (y : Step ℕ). Found s y (word_at s p) (p + 4)) (got_inj e₁)
      (found_as s w (words_at 1 s p) (p + 4) f (record { value = number w 0; place = w.place; left = w.left }) (word_at s p) (ap (λ (l : List ℕ). get_or l 0 0) f.is) refl refl))

  -- the number of influences
  influences-is : (maps p : ℕ) (k : Step (List ℕ)) (end : ℕ) → Found s k (words_at 1 s (influences_place maps p)) end → number k 0 ≡ influences_of s maps p
  unfolding words_at
  influences-is maps p k end f = ap (λ (l : List ℕ). get_or l 0 0) f.is

  vertex-is : (springs maps p : ℕ) (n : List ℕ) (m i : List (List ℕ)) (w : ℕ) → n ≡ words_at 8 s p → m ≡ word_rows 2 s maps (p + 32)
      → i ≡ word_rows 2 s (influences_of s maps p) (influences_place maps p + 4) → w ≡ cloth_at s springs (cloth_place s maps p)
      → record { numbers = n; maps = m; influences = i; cloth = w } ≡ vertex_at s springs maps p
  unfolding vertex_at
  vertex-is springs maps p n m i w a b c d = rw (a, b, c, d)

  vertex_finds : (bones vertices springs maps : ℕ) → Finds s (read_vertex bones vertices springs maps) (vertex_at s springs maps) (vertex_end s springs maps)
  unfolding read_vertex vertex_end
  vertex_finds bones vertices springs maps p y h e =
      by_got (row (vertex_numbers vertices) p (after s p)) _ e (λ x ex e₁.
      let fx = row_finds s (vertex_numbers vertices) p x h ex in
      by_got (times maps (row map_numbers) x.place x.left) _ e₁ (λ m em e₂.
      let fm = rows-find s map_numbers maps (p + 32) m fx.within (found-next s x _ _ fx (times maps (row map_numbers)) m em) in
      by_got (row influences_head m.place m.left) _ e₂ (λ k ek e₃.
      let fk = row_finds s influences_head (influences_place maps p) k fm.within (found-next s m _ _ fm (row influences_head) k ek) in
      by_got (times (number k 0) (row (influence_numbers bones)) k.place k.left) _ e₃ (λ i ei e₄.
      let n = influences-is maps p k _ fk in
      let fi = rows-find s (influence_numbers bones) (influences_of s maps p) (influences_place maps p + 4) i fk.within (found-next s k _ _ fk (times (influences_of s maps p) (row (influence_numbers bones))) i (rw n at ei)) in
      by_got (read_cloth springs i.place i.left) _ e₄ (λ w ew e₅.
      let fw = cloth_finds springs (cloth_place s maps p) w fi.within (found-next s i _ _ fi (read_cloth springs) w ew) in
      subst (λ (z : Step Vertex). Found s z (vertex_at s springs maps p) (cloth_place s maps p + cloth_bytes springs)) (got_inj e₅)
      (found_as s w _ _ fw _ (vertex_at s springs maps p) (vertex-is springs maps p _ _ _ _ fx.is fm.is fi.is fw.is) refl refl))))))

  -- the counts of a submesh
  shape_is : (p : ℕ) (x : Step (List ℕ)) (end : ℕ) → Found s x (words_at 6 s p) end → record { vertices = number x 1; faces = number x 2; springs = number x 4; maps = number x 5 } ≡ shape_at s p
  unfolding words_at shape_at
  shape_is p x end f =
      let a : p + 4 + 4 ≡ p + 8 = omega arith in
      let b : p + 8 + 4 + 4 ≡ p + 16 = omega arith in
      let c : p + 16 + 4 ≡ p + 20 = omega arith in
      rw (f.is, a, b, c)

  submesh_is : (p : ℕ) (n : List ℕ) (v : List Vertex) (g f : List (List ℕ)) → n ≡ words_at 6 s p → v ≡ vertices_at s (shape_at s p) (shape_at s p).vertices (p + 24)
      → g ≡ word_rows 4 s (shape_at s p).springs (springs_place s p) → f ≡ word_rows 3 s (shape_at s p).faces (faces_place s p)
      → record { numbers = n; vertices = v; springs = g; faces = f } ≡ submesh_at s p
  unfolding submesh_at
  submesh_is p n v g f a b c d = rw (a, b, c, d)

  vertices-find : (bones vertices : ℕ) (x : Shape) (n : ℕ) → Finds s (times n (read_vertex bones vertices x.springs x.maps)) (vertices_at s x n) (vertices_end s x n)
  unfolding vertices_at vertices_end
  vertices-find bones vertices x n = times_finds s (read_vertex bones vertices x.springs x.maps) (vertex_at s x.springs x.maps) (vertex_end s x.springs x.maps) (vertex_finds bones vertices x.springs x.maps) n

  submesh_finds : (bones : ℕ) → Finds s (read_submesh bones) (submesh_at s) (submesh_end s)
  unfolding read_submesh submesh_end
  submesh_finds bones p y h e =
      by_got (row submesh_numbers p (after s p)) _ e (λ x ex e₁.
      let fx = row_finds s submesh_numbers p x h ex in
      let c = shape_is p x _ fx in
      let nv : number x 1 ≡ (shape_at s p).vertices = ap (λ (z : Shape). z.vertices) c in
      let nf : number x 2 ≡ (shape_at s p).faces = ap (λ (z : Shape). z.faces) c in
      let ng : number x 4 ≡ (shape_at s p).springs = ap (λ (z : Shape). z.springs) c in
      let nm : number x 5 ≡ (shape_at s p).maps = ap (λ (z : Shape). z.maps) c in
      by_got (times (number x 1) (read_vertex bones (number x 1) (number x 4) (number x 5)) x.place x.left) _ e₁ (λ v ev e₂.
      let fv = vertices-find bones (shape_at s p).vertices (shape_at s p) (shape_at s p).vertices (p + 24) v fx.within
      (found-next s x _ _ fx (times (shape_at s p).vertices (read_vertex bones (shape_at s p).vertices (shape_at s p).springs (shape_at s p).maps)) v (rw (nv, ng, nm) at ev)) in
      by_got (times (number x 4) (row (spring_numbers (number x 1))) v.place v.left) _ e₂ (λ g eg e₃.
      let fg = rows-find s (spring_numbers (number x 1)) (shape_at s p).springs (springs_place s p) g fv.within (found-next s v _ _ fv (times (shape_at s p).springs (row (spring_numbers (number x 1)))) g (rw ng at eg)) in
      by_got (times (number x 2) (row (face_numbers (number x 1))) g.place g.left) _ e₃ (λ f ef e₄.
      let ff = rows-find s (face_numbers (number x 1)) (shape_at s p).faces (faces_place s p) f fg.within (found-next s g _ _ fg (times (shape_at s p).faces (row (face_numbers (number x 1)))) f (rw nf at ef)) in
      subst (λ (z : Step Submesh). Found s z (submesh_at s p) (faces_place s p + 12 * (shape_at s p).faces)) (got_inj e₄)
      (found_as s f _ _ ff _ (submesh_at s p) (submesh_is p _ _ _ _ fx.is fv.is fg.is ff.is) refl refl)))))

  head-is : (h : Step (List ℕ)) (end : ℕ) → Found s h (words_at 2 s 4) end → number h 1 ≡ word_at s 8
  unfolding words_at
  head-is h end f = ap (λ (l : List ℕ). get_or l 1 0) f.is

  mesh-is : (h : List ℕ) (l : List Submesh) → h ≡ words_at 2 s 4 → l ≡ submeshes_at s (word_at s 8) 12 → record { head = h; submeshes = l } ≡ plain_mesh s
  unfolding plain_mesh
  mesh-is h l a b = rw (a, b)

  submeshes-find : (bones n : ℕ) → Finds s (times n (read_submesh bones)) (submeshes_at s n) (submeshes_end s n)
  unfolding submeshes_at submeshes_end
  submeshes-find bones n = times_finds s (read_submesh bones) (submesh_at s) (submesh_end s) (submesh_finds bones) n

-- what a file that is accepted says, by its bytes alone
pub record Plainly (s : List ℕ) (t : Mesh) : Type 0 where
  pub is : plain_mesh s ≡ t
  pub within : mesh_end s ≤ length s
  pub small : length s ≤ 16777216
  pub head : 12 ≤ length s

module _ (s : List ℕ) (bones : ℕ) (t : Mesh) where
  from_four : (limit : ℕ) → 4 ≤ length s → mesh_from limit 4 (after s 4) ≡ accept t → (plain_mesh s ≡ t) × (mesh_end s ≤ length s)
  unfolding mesh_from mesh_end
  from_four limit f e =
      by_got (row mesh_head 4 (after s 4)) _ e (λ h eh e₁.
      let fh = row_finds s mesh_head 4 h f eh in
      by_got (times (number h 1) (read_submesh limit) h.place h.left) _ e₁ (λ l el e₂.
      let n = head-is s h _ fh in
      let fl = submeshes-find s limit (word_at s 8) 12 l fh.within (found-next s h _ _ fh (times (word_at s 8) (read_submesh limit)) l (rw n at el)) in
      by_got (at_end l.place l.left) _ e₂ (λ u eu e₃. (sym (mesh-is s _ _ fh.is fl.is) ∙ got_inj e₃, fl.within))))

  whole : after s 0 ≡ s
  unfolding left
  whole = take_all (length s) s (omega arith)

  pub mesh_plain : mesh bones s ≡ accept t → Plainly s t
  unfolding mesh
  mesh_plain e =
      by-check (size_fits (length s)) 1 0 _ e (λ z e₁.
      let (lo, hi) = and_yes (leb 12 (length s)) (leb (length s) 16777216) z in
      let low = leb→le 12 (length s) lo in
      let high = leb→le (length s) 16777216 hi in
      by_got (row (any ∷ []) 0 s) _ e₁ (λ m em e₂.
      let fm = row_finds s (any ∷ []) 0 m (omega arith) (ap (row (any ∷ []) 0) whole ∙ em) in
      by-check _ 2 0 _ e₂ (λ y e₃.
      let p = from_four (named_bones bones) (omega arith) (ap₂ (mesh_from (named_bones bones)) (sym fm.to) (sym fm.rest) ∙ e₃) in
      record { is = p.0; within = p.1; small = high; head = low })))
