-- A vertex by its parts: what each step of `judge_vertex` says of it; and how the influences of vertices are counted.
use Rattle.std.specs.Prelude.{Ok, Err}
use Rattle.std.specs.Prelude as std
use Rattle.layout.specs.declared.Refusal.{Refusal}
use Prim.Native.Nat.{ℕ, ◌+◌, ◌*◌}
use native.Mathlib.Omega.{arith}
use mathlib.Core.Path.{◌≡◌, refl, ap, sym, ◌∙◌}
use mathlib.Core.List.{List, [], ◌∷◌, map}
use lib.ListN.{length, length-append}
use Rattle.wire.specs.Cursors.{Inside, left}
use Rattle.wire.specs.declared.Cursor.{Cursor}
use Rattle.layout.specs.Result.{Result, accept, reject, ◌>>=◌}
use Rattle.layout.specs.Parts.{Step, row, number}
use Rattle.layout.specs.Counted.{times}
use Rattle.layout.specs.Rows.{joined}
use Rattle.layout.proofs.ResultLaws.{by_got, got_inj, bind_bind, bind_cong}
use Rattle.layout.proofs.CountLaws.{Advances, moved_as, moved_on}
use Rattle.shared_counted_lists.specs.Runs.{Passes, Runs}
use Rattle.shared_counted_lists.specs.Sums.{summed_of, SumPasses, Sums}
use Rattle.shared_counted_lists.proofs.RunLaws.{Read, runs_bad, runs_place, runs_passed, runs_inside, runs_read}
use Rattle.shared_counted_lists.proofs.SumLaws.{Adds, SumRead, summed_bad, summed_place, summed_passed, summed_read}
use Rattle.cal3d_spec.specs.Rules.{vertex_numbers, map_numbers, influences_head, influence_numbers}
use Rattle.cal3d_spec.specs.Meshes.{Vertex, read_cloth, read_vertex}
use Rattle.cal3d_mesh_vertices.specs.Vertices.{read_mapped, read_influences, row_count, influence_count, influences_in}
use Rattle.cal3d_mesh_vertices.proofs.PartLaws.{mapped_moves, influences-moves, cloth-moves}

-- two readings, with both values
abbrev paired : {A B : Type 0} → Result (Step A) → (Step A → Result (Step B)) → Result (Step (A × B))
paired o t = o >>= λ x. t x >>= λ m. accept (record { value = (x.value, m.value); place = m.place; left = m.left })

-- and another reading behind them
pair_then : {A B C : Type 0} (o : Result (Step A)) (t : Step A → Result (Step B)) (k : A → B → ℕ → List ℕ → Result C)
    → (o >>= λ x. t x >>= λ m. k x.value m.value m.place m.left) ≡ (paired o t >>= λ y. k y.value.0 y.value.1 y.place y.left)
pair_then (reject n p) t k = refl
pair_then {A} {B} {C} (accept x) t k = go (t x)
  where
    go : (o : Result (Step B)) → (o >>= λ m. k x.value m.value m.place m.left) ≡ (paired (accept x) (λ _. o) >>= λ y. k y.value.0 y.value.1 y.place y.left)
    go (accept m) = refl
    go (reject n p) = refl

module _ (bones vertices springs maps p : ℕ) (s : List ℕ) where
  -- the vertex that these parts make
  abbrev made : (List ℕ × List (List ℕ)) → List (List ℕ) → Step ℕ → Step Vertex
  made x i w = record { value = record { numbers = x.0; maps = x.1; influences = i; cloth = w.value }; place = w.place; left = w.left }

  vertex-parts : read_vertex bones vertices springs maps p s
      ≡ (read_mapped vertices maps p s >>= λ y. read_influences bones y.place y.left >>= λ i. read_cloth springs i.place i.left >>= λ w. accept (made y.value i.value w))
  unfolding read_vertex read_mapped read_influences
  vertex-parts =
      pair_then (row (vertex_numbers vertices) p s) (λ x. times maps (row map_numbers) x.place x.left)
      (λ n m q r. row influences_head q r >>= λ k. times (number k 0) (row (influence_numbers bones)) k.place k.left >>= λ i. read_cloth springs i.place i.left >>= λ w. accept (made (n, m) i.value w))
      ∙ bind_cong (read_mapped vertices maps p s) (λ y _.
      sym (bind_bind (row influences_head y.place y.left) (λ k. times (number k 0) (row (influence_numbers bones)) k.place k.left) (λ i. read_cloth springs i.place i.left >>= λ w. accept (made y.value i.value w))))

-- where a vertex leaves off
pub vertex-moves : (bones vertices springs maps : ℕ) → Advances (read_vertex bones vertices springs maps)
vertex-moves bones vertices springs maps p s x e =
    by_got (read_mapped vertices maps p s) _ (sym (vertex-parts bones vertices springs maps p s) ∙ e) (λ y ey e₁.
    by_got (read_influences bones y.place y.left) _ e₁ (λ i ei e₂.
    by_got (read_cloth springs i.place i.left) _ e₂ (λ w ew e₃.
    let m = moved_on y i (mapped_moves vertices maps p s y ey) (influences-moves bones y.place y.left i ei) in
    let k = moved_on i w m (cloth-moves springs i.place i.left w ew) in
    let q = got_inj e₃ in
    moved_as w x k (cc) (cc))))

module _ (s : List ℕ) (c : Cursor) (bones vertices springs maps : ℕ) (inside : Inside c (length s)) (r : std.Result Cursor Refusal) (v : Runs (read_mapped vertices maps c.at (left c s)) c (32 + maps * 8) r) where
  parts : read_vertex bones vertices springs maps c.at (left c s)
      ≡ (read_mapped vertices maps c.at (left c s) >>= λ y. read_influences bones y.place y.left >>= λ i. read_cloth springs i.place i.left >>= λ w. accept (made bones vertices springs maps c.at (left c s) y.value i.value w))
  parts = vertex-parts bones vertices springs maps c.at (left c s)

  pub vertex_mapped : (e : Refusal) → r ≡ Err e → Sums influence_count (read_vertex bones vertices springs maps c.at (left c s)) c (36 + maps * 8) (Err e)
  vertex_mapped e w =
      record { is = rw (parts, runs_bad (read_mapped vertices maps c.at (left c s)) c (32 + maps * 8) r v e w); passes = runs_place (read_mapped vertices maps c.at (left c s)) c (32 + maps * 8) r v e w }

  module _ (n : Cursor) (w : r ≡ Ok n) where
    pub vertex-inside : Inside n (length s)
    vertex-inside = runs_inside (read_mapped vertices maps c.at (left c s)) c (32 + maps * 8) r v n w (length s) inside

    went : Passes c (32 + maps * 8) (Ok n)
    went = runs_passed (read_mapped vertices maps c.at (left c s)) c (32 + maps * 8) r v n w

    first : Read s (read_mapped vertices maps c.at (left c s)) c n
    first = runs_read (read_mapped vertices maps) (mapped_moves vertices maps) s c inside (32 + maps * 8) r v n w

    module _ (x : std.Result (ℕ × Cursor) Refusal) (u : Sums row_count (read_influences bones n.at (left n s)) n 4 x) where
      pub vertex-influences : (e : Refusal) → x ≡ Err e → Sums influence_count (read_vertex bones vertices springs maps c.at (left c s)) c (36 + maps * 8) (Err e)
      vertex-influences e z =
          let h = went in
          let k = summed_place row_count (read_influences bones n.at (left n s)) n 4 x u e z in
          record { is = rw (parts, first.is, summed_bad row_count n.end (read_influences bones n.at (left n s)) e (sym z ∙ u.is)); passes = omega arith }

      module _ (j : ℕ) (m : Cursor) (z : x ≡ Ok (j, m)) where
        went_on : SumPasses n 4 (Ok (j, m))
        went_on = summed_passed row_count (read_influences bones) (influences-moves bones) s n 4 x u j m z

        second : SumRead row_count s (read_influences bones n.at (left n s)) j m
        second = summed_read row_count (read_influences bones) (influences-moves bones) s n 4 x u j m z

        pub vertex-weighed : Inside m (length s)
        vertex-weighed = let i = vertex-inside in let h = went_on in record { before = h.1; within = omega arith }

        module _ (y : std.Result Cursor Refusal) (f : Runs (read_cloth springs m.at (left m s)) m 0 y) where
          pub vertex-cloth : (e : Refusal) → y ≡ Err e → Sums influence_count (read_vertex bones vertices springs maps c.at (left c s)) c (36 + maps * 8) (Err e)
          vertex-cloth e g =
              let h = went in
              let k = went_on in
              let l = runs_place (read_cloth springs m.at (left m s)) m 0 y f e g in
              record { is = rw (parts, first.is, second.is, runs_bad (read_cloth springs m.at (left m s)) m 0 y f e g); passes = omega arith }

          pub vertex-done : (next : Cursor) → y ≡ Ok next → Sums influence_count (read_vertex bones vertices springs maps c.at (left c s)) c (36 + maps * 8) (Ok (j, next))
          vertex-done next g =
              let h = went in
              let k = went_on in
              let l = runs_passed (read_cloth springs m.at (left m s)) m 0 y f next g in
              let t = runs_read (read_cloth springs) (cloth-moves springs) s m vertex-weighed 0 y f next g in
              let end : next.end ≡ c.end = l.2 ∙ k.2 ∙ h.2 in
              let whole : read_vertex bones vertices springs maps c.at (left c s) ≡ accept (made bones vertices springs maps c.at (left c s) first.value second.value (record { value = t.value; place = next.at; left = left next s })) = rw (parts, first.is, second.is, t.is) in
              record {
                is = ap (λ (i : ℕ). Ok (i, next)) second.many
                    ∙ ap (λ (i : ℕ). Ok (length second.value, record { at = next.at; end = i })) end
                    ∙ ap (summed_of influence_count c.end) (sym whole);
                passes = (omega arith, l.1, end);
              }

pub ruleset vertex = (vertex_mapped, vertex-inside, vertex-influences, vertex-weighed, vertex-cloth, vertex-done)

-- ---- counts of influences

pub no-influences : influences_in [] ≡ 0
unfolding influences_in joined
no-influences = refl

more-influences : (x : Vertex) (l : List Vertex) → influences_in (x ∷ l) ≡ length x.influences + influences_in l
unfolding influences_in joined
more-influences x l = length-append x.influences (joined (map (λ (y : Vertex). y.influences) l))

pub vertex_adds : (bones vertices springs maps : ℕ) → Adds (read_vertex bones vertices springs maps) influence_count influences_in
vertex_adds bones vertices springs maps = record { moves = vertex-moves bones vertices springs maps; one = more-influences }
