-- The lists of a submesh: what each step of `judge_lists` says of them.
use Rattle.std.specs.Prelude.{Ok, Err}
use Rattle.std.specs.Prelude as std
use Rattle.layout.specs.declared.Refusal.{Refusal}
use Prim.Native.Nat.{ℕ, ◌+◌, ◌-◌, ◌*◌, ◌≤◌}
use native.Mathlib.Omega.{arith}
use mathlib.Core.Path.{◌≡◌, ap, sym, ◌∙◌}
use mathlib.Core.List.{List, []}
use lib.ListN.{length}
use Rattle.wire.specs.Cursors.{Inside, left}
use Rattle.wire.specs.declared.Cursor.{Cursor}
use Rattle.layout.specs.Result.{accept}
use Rattle.layout.specs.Parts.{row}
use Rattle.layout.specs.Counted.{times}
use Rattle.layout.proofs.CountLaws.{row-moves, times-moves, times-length}
use Rattle.shared_ids.specs.Ids.{id_row}
use Rattle.shared_counted_lists.specs.Runs.{Passes, Runs}
use Rattle.shared_counted_lists.specs.Sums.{SumPasses, Sums}
use Rattle.shared_counted_lists.proofs.RunLaws.{Read, runs_bad, runs_place, runs_passed, runs_inside, runs_read}
use Rattle.shared_counted_lists.proofs.SumLaws.{SumRead, summed_bad, summed_place, summed_passed, summed_read}
use Rattle.cal3d_spec.specs.Rules.{spring_numbers, face_numbers}
use Rattle.cal3d_spec.specs.Meshes.{read_vertex}
use Rattle.cal3d_mesh_vertices.specs.Vertices.{maps_in, influences_in}
use Rattle.cal3d_mesh_vertices.proofs.VertexLaws.{vertex-moves}
use Rattle.cal3d_mesh_vertices.proofs.MapLaws.{maps_are, maps-fit}
use Rattle.cal3d_mesh_submesh_lists.specs.Contents.{contents_of, read_lists, contained_of, Contains}
use Rattle.cal3d_mesh_submesh_lists.specs.declared.Contents.{Contents}

-- counts one by one
pub same_contents : (v w m n i j g h f k : ℕ) → v ≡ w → m ≡ n → i ≡ j → g ≡ h → f ≡ k
    → ◌≡◌ {A = Contents} (record { vertices = v; maps = m; influences = i; springs = g; faces = f }) (record { vertices = w; maps = n; influences = j; springs = h; faces = k })
same_contents v w m n i j g h f k a b c d e = rw (a, b, c, d, e)

module _ (s : List ℕ) (c : Cursor) (bones vertices springs maps faces : ℕ) (inside : Inside c (length s)) (r : std.Result (ℕ × Cursor) Refusal)
    (v : Sums influences_in (times vertices (read_vertex bones vertices springs maps) c.at (left c s)) c (vertices * (36 + maps * 8)) r) where
  pub lists-vertices : (e : Refusal) → r ≡ Err e → Contains contents_of (read_lists bones vertices springs maps faces c.at (left c s)) c 0 (Err e)
  unfolding read_lists
  lists-vertices e w =
      record {
        is = rw (summed_bad influences_in c.end (times vertices (read_vertex bones vertices springs maps) c.at (left c s)) e (sym w ∙ v.is));
        passes = summed_place influences_in (times vertices (read_vertex bones vertices springs maps) c.at (left c s)) c (vertices * (36 + maps * 8)) r v e w;
      }

  module _ (j : ℕ) (n : Cursor) (w : r ≡ Ok (j, n)) where
    went : SumPasses c (vertices * (36 + maps * 8)) (Ok (j, n))
    went = summed_passed influences_in (times vertices (read_vertex bones vertices springs maps)) (times-moves (read_vertex bones vertices springs maps) (vertex-moves bones vertices springs maps) vertices) s c (vertices * (36 + maps * 8)) r v j n w

    first : SumRead influences_in s (times vertices (read_vertex bones vertices springs maps) c.at (left c s)) j n
    first = summed_read influences_in (times vertices (read_vertex bones vertices springs maps)) (times-moves (read_vertex bones vertices springs maps) (vertex-moves bones vertices springs maps) vertices) s c (vertices * (36 + maps * 8)) r v j n w

    pub lists-maps : vertices * maps ≤ n.end
    lists-maps = let h = went in let f = maps-fit vertices maps in omega arith

    pub lists_first : Inside n (length s)
    lists_first = let h = went in record { before = h.1; within = omega arith }

    module _ (x : std.Result Cursor Refusal) (u : Runs (times springs (row (id_row 2 (4 - 2) vertices)) n.at (left n s)) n (springs * (4 * 4)) x) where
      pub lists-springs : (e : Refusal) → x ≡ Err e → Contains contents_of (read_lists bones vertices springs maps faces c.at (left c s)) c 0 (Err e)
      unfolding read_lists
      lists-springs e z =
          let h = went in
          let k = runs_place (times springs (row (spring_numbers vertices)) n.at (left n s)) n (springs * 16) x u e z in
          record { is = rw (first.is, runs_bad (times springs (row (spring_numbers vertices)) n.at (left n s)) n (springs * 16) x u e z); passes = omega arith }

      module _ (m : Cursor) (z : x ≡ Ok m) where
        went_on : Passes n (springs * 16) (Ok m)
        went_on = runs_passed (times springs (row (spring_numbers vertices)) n.at (left n s)) n (springs * 16) x u m z

        second : Read s (times springs (row (spring_numbers vertices)) n.at (left n s)) n m
        second = runs_read (times springs (row (spring_numbers vertices))) (times-moves (row (spring_numbers vertices)) (row-moves (spring_numbers vertices)) springs) s n lists_first (springs * 16) x u m z

        pub lists-second : Inside m (length s)
        lists-second = runs_inside (times springs (row (spring_numbers vertices)) n.at (left n s)) n (springs * 16) x u m z (length s) lists_first

        module _ (y : std.Result Cursor Refusal) (f : Runs (times faces (row (id_row 3 (3 - 3) vertices)) m.at (left m s)) m (faces * (4 * 3)) y) where
          pub lists-faces : (e : Refusal) → y ≡ Err e → Contains contents_of (read_lists bones vertices springs maps faces c.at (left c s)) c 0 (Err e)
          unfolding read_lists
          lists-faces e g =
              let h = went in
              let k = went_on in
              let l = runs_place (times faces (row (face_numbers vertices)) m.at (left m s)) m (faces * 12) y f e g in
              record { is = rw (first.is, second.is, runs_bad (times faces (row (face_numbers vertices)) m.at (left m s)) m (faces * 12) y f e g); passes = omega arith }

          pub lists-done : (next : Cursor) → y ≡ Ok next
              → Contains contents_of (read_lists bones vertices springs maps faces c.at (left c s)) c 0 (Ok (record { vertices = vertices; maps = vertices * maps; influences = j; springs = springs; faces = faces }, next))
          unfolding read_lists contents_of
          lists-done next g =
              let h = went in
              let k = went_on in
              let l = runs_passed (times faces (row (face_numbers vertices)) m.at (left m s)) m (faces * 12) y f next g in
              let t = runs_read (times faces (row (face_numbers vertices))) (times-moves (row (face_numbers vertices)) (row-moves (face_numbers vertices)) faces) s m lists-second (faces * 12) y f next g in
              let end : next.end ≡ c.end = l.2 ∙ k.2 ∙ h.2 in
              let fit = maps-fit vertices maps in
              let same = same_contents vertices (length first.value) (vertices * maps) (maps_in first.value) j (influences_in first.value) springs (length second.value) faces (length t.value)
              (sym (times-length (read_vertex bones vertices springs maps) vertices c.at (left c s) _ first.is))
              (sym (maps_are bones vertices springs maps vertices c.at (left c s) _ first.is))
              first.many
              (sym (times-length (row (spring_numbers vertices)) springs n.at (left n s) _ second.is))
              (sym (times-length (row (face_numbers vertices)) faces m.at (left m s) _ t.is)) in
              let whole : read_lists bones vertices springs maps faces c.at (left c s)
              ≡ accept (record { value = record { numbers = []; vertices = first.value; springs = second.value; faces = t.value }; place = next.at; left = left next s }) = rw (first.is, second.is, t.is) in
              record {
                is = ap (λ (a : Contents). Ok (a, next)) same
                    ∙ ap (λ (i : ℕ). Ok (record { vertices = length first.value; maps = maps_in first.value; influences = influences_in first.value; springs = length second.value; faces = length t.value }, record { at = next.at; end = i })) end
                    ∙ ap (contained_of contents_of c.end) (sym whole);
                passes = record { vertices = omega arith; maps = omega arith; influences = omega arith; springs = omega arith; faces = omega arith; before = l.1; same = end };
              }

pub ruleset lists = (lists-vertices, lists_first, lists-springs, lists-second, lists-faces, lists-done)
