-- A law for each way through `lax_mesh`.
use Rattle.layout.specs.Refused.{refusal_at}
use Rattle.std.specs.Prelude.{Ok, Err, Some, None}
use Rattle.std.specs.Prelude as std
use Rattle.b3d_judge_tally.specs.declared.Tally.{Tally}
use Rattle.layout.specs.declared.Refusal.{Refusal}
use mathlib.Core.Path.{refl, ap, sym, ◌≡◌, ◌∙◌}
use Prim.Native.Nat.{ℕ, ◌≤◌, ◌+◌, ◌-◌}
use native.Mathlib.Omega.{arith}
use mathlib.Core.List.{List}
use lib.ListN.{length}
use Rattle.wire.specs.Cursors.{Inside, left, number_at}
use Rattle.wire.specs.declared.Cursor.{Cursor}
use Rattle.layout.specs.Result.{Result, accept, reject, ◌>>=◌}
use Rattle.layout.specs.Rules.{any}
use Rattle.b3d_spec.specs.declared.Mode.TheVariants.{Lenient}
use Rattle.b3d_spec.specs.declared.Tag.TheVariants.{MESH, VRTS}
use Rattle.b3d_spec.specs.Tags.{Chunks, Found}
use Rattle.b3d_spec.specs.Scene.{TriangleSet}
use Rattle.b3d_spec.specs.Nesting.{start, order}
use Rattle.b3d_spec.specs.Parse.{read_one, Vertices, no_vertices, read_vertices}
use Rattle.b3d_judge_tally.specs.Tally.{mesh_tally}
use Rattle.b3d_judge_tally.proofs.TallyLaws.{within_more}
use Rattle.b3d_spec_chunk_places.specs.Places.{Body, rest_in, Among}
use Rattle.b3d_spec_chunk_places.proofs.HeadLaws.{head_cut, head-numbered, head_got, body-inside}
use Rattle.b3d_judge_mesh.specs.Answers.{meshed, MeshedIn, Meshes}
use Rattle.b3d_mend_judge_items.specs.Lax.{lax_inside, lax_sets, lax_mesh}
use Rattle.b3d_mend_judge_items.specs.Trimmed.{Trimmed}
use Rattle.b3d_mend_judge_mesh.specs.Parts.{lax_after, lax_within}

-- a mesh's brush is not counted
brush_free : (x y : ℕ) (cs : Chunks) → meshed (lax_within x cs) ≡ meshed (lax_within y cs)
unfolding lax_within lax_after mesh_tally
brush_free x y cs = go (read_one VRTS no_vertices (read_vertices Lenient) cs)
  where
    sets : (v : Vertices) (o : Result (List TriangleSet))
        → meshed (o >>= λ l. accept (record { brush = x; flags = v.flags; sets = v.sets; size = v.size; vertices = v.items; triangle_sets = l }))
        ≡ meshed (o >>= λ l. accept (record { brush = y; flags = v.flags; sets = v.sets; size = v.size; vertices = v.items; triangle_sets = l }))
    sets v (accept l) = refl
    sets v (reject n p) = refl

    go : (o : Result (Found Vertices)) → meshed (o >>= λ v. lax_after x (accept v.value) v.rest) ≡ meshed (o >>= λ v. lax_after y (accept v.value) v.rest)
    go (accept v) = sets v.value (lax_sets (length v.value.items) v.rest)
    go (reject n p) = refl

-- the same answer in more bytes
wider : (from to more : ℕ) (j : std.Result (ℕ × Tally) Refusal) → to ≤ more → MeshedIn from to j → MeshedIn from more j
wider from to more (Ok (k, t)) le h = within_more (to - from) (more - from) h (omega arith)
wider from to more (Err e) le h = omega arith

module _ (s : List ℕ) (at : ℕ) (body : Cursor) (g : Body at body (length s)) (r : std.Option (ℕ × Cursor)) (e : r ≡ number_at s body) where
  abbrev Right : std.Result (ℕ × Tally) Refusal → Type 0
  Right y = Meshes (lax_mesh at (left body s)) at body.end y

  pub mesh-inside : Inside body (length s)
  mesh-inside = body-inside s at body g

  pub mesh-cut : r ≡ None → Right (Err (refusal_at 5 body.at))
  unfolding lax_mesh
  mesh-cut w = record { is = rw (head_cut s at body g r e any w); within = g.room }

  module _ (k : ℕ) (c : Cursor) (w : r ≡ Some (k, c)) where
    pub mesh-after : Inside c (length s)
    mesh-after = let f = head-numbered s at body g r e k c w in record { before = omega arith; within = omega (arith, g.within) }

    module _ (d : Cursor) (x : Trimmed s c d) where
      pub mesh-among : Among at d (length s)
      mesh-among =
          let f = head-numbered s at body g r e k c w in
          record { head = omega (arith, g.head, x.same); room = x.room; within = omega (arith, g.within, x.within); small = g.small }

      pub mesh_far : at + 12 ≤ d.at
      mesh_far = let f = head-numbered s at body g r e k c w in omega (arith, g.head, x.same)

      pub mesh-inner : (j : std.Result (ℕ × Tally) Refusal) → Meshes (lax_within 0 (rest_in s MESH at start d)) at d.end j → Right j
      unfolding lax_mesh lax_within lax_after lax_inside rest_in
      mesh-inner j hj =
          let f = head-numbered s at body g r e k c w in
          record {
            is = hj.is ∙ brush_free 0 k (rest_in s MESH at start d) ∙ ap meshed (sym opened);
            within = wider at d.end body.end j (omega (arith, x.within, f.same)) hj.within;
          }
        where
          opened : lax_mesh at (left body s) ≡ lax_within k (rest_in s MESH at start d)
          opened =
              rw (head_got s at body g r e k c w any refl)
              (ap (λ (cs : Chunks). lax_within k (order MESH at start cs)) (sym x.chunks))

pub ruleset mesh_laws = (mesh-inside, mesh-cut, mesh-after, mesh-among, mesh_far, mesh-inner)
