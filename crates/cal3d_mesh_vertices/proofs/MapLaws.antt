-- The maps of vertices: so many as the submesh says for each of them.
use Prim.Native.Nat.{ℕ, zero, suc, ◌+◌, ◌*◌, ◌≤◌}
use native.Mathlib.Omega.{arith}
use native.Mathlib.Nat.{suc-mul, zero-mul}
use mathlib.Core.Path.{◌≡◌, refl, ap, sym, ◌∙◌}
use mathlib.Core.List.{List, [], ◌∷◌, map}
use lib.ListN.{length, length-append}
use Rattle.layout.specs.Result.{accept}
use Rattle.layout.specs.Parts.{Step, row}
use Rattle.layout.specs.Counted.{before, times}
use Rattle.layout.specs.Rows.{joined}
use Rattle.layout.proofs.ResultLaws.{by_got, got_inj}
use Rattle.layout.proofs.CountLaws.{times_none, times-length, times_got}
use Rattle.cal3d_spec.specs.Rules.{vertex_numbers, map_numbers, influences_head, influence_numbers}
use Rattle.cal3d_spec.specs.Meshes.{Vertex, read_cloth, read_vertex}
use Rattle.cal3d_mesh_vertices.specs.Vertices.{maps_in}

pub no-maps : maps_in [] ≡ 0
unfolding maps_in joined
no-maps = refl

pub more-maps : (x : Vertex) (l : List Vertex) → maps_in (x ∷ l) ≡ length x.maps + maps_in l
unfolding maps_in joined
more-maps x l = length-append x.maps (joined (map (λ (y : Vertex). y.maps) l))

module _ (bones vertices springs maps : ℕ) where
  vertex-maps : (p : ℕ) (s : List ℕ) (x : Step Vertex) → read_vertex bones vertices springs maps p s ≡ accept x → length x.value.maps ≡ maps
  unfolding read_vertex
  vertex-maps p s x e =
      by_got (row (vertex_numbers vertices) p s) _ e (λ y ey e₁.
      by_got (times maps (row map_numbers) y.place y.left) _ e₁ (λ m em e₂.
      by_got (row influences_head m.place m.left) _ e₂ (λ k ek e₃.
      by_got (times _ (row (influence_numbers bones)) k.place k.left) _ e₃ (λ i ei e₄.
      by_got (read_cloth springs i.place i.left) _ e₄ (λ w ew e₅.
      sym (ap (λ (z : Step Vertex). length z.value.maps) (got_inj e₅)) ∙ times-length (row map_numbers) maps y.place y.left m em)))))

  pub maps_are : (n p : ℕ) (s : List ℕ) (x : Step (List Vertex)) → times n (read_vertex bones vertices springs maps) p s ≡ accept x → maps_in x.value ≡ n * maps
  unfolding before
  maps_are zero p s x e =
      let v : [] ≡ x.value = ap (λ (y : Step (List Vertex)). y.value) (got_inj (sym (times_none (read_vertex bones vertices springs maps) p s) ∙ e)) in
      ap maps_in (sym v) ∙ no-maps ∙ sym (zero-mul maps)
  maps_are (suc n) p s x e =
      times_got (read_vertex bones vertices springs maps) n p s x e (λ y l ey el q.
      let v : y.value ∷ l.value ≡ x.value = ap (λ (z : Step (List Vertex)). z.value) q in
      let h = more-maps y.value l.value in
      let i = maps_are n y.place y.left l el in
      let k = vertex-maps p s y ey in
      let t : maps_in (y.value ∷ l.value) ≡ suc n * maps = omega (arith, suc-mul n maps) in
      ap maps_in (sym v) ∙ t)

-- vertices and maps take bytes
pub maps-fit : (n m : ℕ) → n + n * m ≤ n * (36 + m * 8)
maps-fit zero m = omega (arith, zero-mul m, zero-mul (36 + m * 8))
maps-fit (suc n) m = let i = maps-fit n m in omega (arith, suc-mul n m, suc-mul n (36 + m * 8))
