-- A law for each way through `judge_mesh`.
use Rattle.layout.specs.Refused.{refusal_at}
use Rattle.std.specs.Prelude.{Err, Some, None}
use Rattle.std.specs.Prelude as std
use Rattle.b3d_judge_tally.specs.declared.Tally.{Tally}
use Rattle.layout.specs.declared.Refusal.{Refusal}
use mathlib.Core.Path.{refl, ap, sym, subst, ◌≡◌, ◌∙◌}
use Prim.Native.Nat.{ℕ, ◌≤◌, ◌+◌}
use native.Mathlib.Omega.{arith}
use mathlib.Core.Bool.{Bool, true, false, not}
use mathlib.Core.List.{List}
use lib.ListN.{length}
use Rattle.wire.specs.Cursors.{Inside, left, number_at}
use Rattle.wire.specs.declared.Cursor.{Cursor}
use Rattle.layout.specs.Result.{Result, accept, reject, ◌>>=◌}
use Rattle.layout.specs.Rules.{holds}
use Rattle.b3d_spec.specs.declared.Mode.{Mode}
use Rattle.b3d_spec.specs.declared.Tag.TheVariants.{MESH, VRTS}
use Rattle.b3d_spec.specs.Tags.{Chunks, Found}
use Rattle.b3d_spec.specs.Scene.{TriangleSet}
use Rattle.b3d_spec.specs.Rules.{brush_id}
use Rattle.b3d_spec.specs.Nesting.{start, inside}
use Rattle.b3d_spec.specs.Parse.{read_one, Vertices, no_vertices, read_vertices, read_sets, read_mesh}
use Rattle.b3d_judge_tally.specs.Tally.{mesh_tally}
use Rattle.b3d_spec_chunk_places.specs.Places.{Body, rest_in, Among}
use Rattle.b3d_spec_chunk_places.proofs.HeadLaws.{head_cut, head-numbered, head-refused, head-kept, body-inside}
use Rattle.b3d_judge_mesh.specs.Answers.{read_after, read_inside, meshed, MeshedIn, Meshes}

-- a mesh's brush is not counted
brush_free : (mode : Mode) (brushes x y : ℕ) (cs : Chunks) → meshed (read_inside mode brushes x cs) ≡ meshed (read_inside mode brushes y cs)
unfolding read_inside read_after mesh_tally
brush_free mode brushes x y cs = go (read_one VRTS no_vertices (read_vertices mode) cs)
  where
    sets : (v : Vertices) (o : Result (List TriangleSet))
        → meshed (o >>= λ l. accept (record { brush = x; flags = v.flags; sets = v.sets; size = v.size; vertices = v.items; triangle_sets = l }))
        ≡ meshed (o >>= λ l. accept (record { brush = y; flags = v.flags; sets = v.sets; size = v.size; vertices = v.items; triangle_sets = l }))
    sets v (accept l) = refl
    sets v (reject n p) = refl

    go : (o : Result (Found Vertices)) → meshed (o >>= λ v. read_after brushes x (accept v.value) v.rest) ≡ meshed (o >>= λ v. read_after brushes y (accept v.value) v.rest)
    go (accept v) = sets v.value (read_sets brushes (length v.value.items) v.rest)
    go (reject n p) = refl

module _ (mode : Mode) (s : List ℕ) (at : ℕ) (body : Cursor) (g : Body at body (length s)) (brushes : ℕ) (r : std.Option (ℕ × Cursor)) (e : r ≡ number_at s body) where
  abbrev Right : std.Result (ℕ × Tally) Refusal → Type 0
  Right y = Meshes (read_mesh mode brushes at (left body s)) at body.end y

  pub mesh-inside : Inside body (length s)
  mesh-inside = body-inside s at body g

  pub mesh-cut : r ≡ None → Right (Err (refusal_at 5 body.at))
  unfolding read_mesh
  mesh-cut w = record { is = rw (head_cut s at body g r e (brush_id brushes) w); within = g.room }

  module _ (k : ℕ) (c : Cursor) (w : r ≡ Some (k, c)) (ok : Bool) (a : ok ≡ holds (brush_id brushes) k) where
    pub mesh-brush : not ok ≡ true → Right (Err (refusal_at 7 body.at))
    unfolding read_mesh
    mesh-brush h = record { is = rw (head-refused s at body g r e k c w (brush_id brushes) ok a h); within = g.room }

    pub mesh-among : Among at c (length s)
    mesh-among =
        let f = head-numbered s at body g r e k c w in
        record { head = omega (arith, g.head); room = omega arith; within = omega (arith, g.within); small = g.small }

    pub mesh_far : at + 12 ≤ c.at
    mesh_far = let f = head-numbered s at body g r e k c w in omega (arith, g.head)

    pub mesh-inner : not ok ≡ false → (j : std.Result (ℕ × Tally) Refusal) → Meshes (read_inside mode brushes 0 (rest_in s MESH at start c)) at c.end j → Right j
    unfolding read_mesh read_inside read_after rest_in inside
    mesh-inner h j hj =
        let f = head-numbered s at body g r e k c w in
        record {
          is = hj.is ∙ brush_free mode brushes 0 k (rest_in s MESH at start c) ∙ ap meshed (sym (opened h));
          within = subst (λ (q : ℕ). MeshedIn at q j) f.same hj.within;
        }
      where
        opened : not ok ≡ false → read_mesh mode brushes at (left body s) ≡ read_inside mode brushes k (rest_in s MESH at start c)
        opened h = rw (head-kept s at body g r e k c w (brush_id brushes) ok a h)

pub ruleset mesh_laws = (mesh-inside, mesh-cut, mesh-brush, mesh-among, mesh_far, mesh-inner)
