-- The two parts that the bodies of a VRTS and of a MESH are written by.
use mathlib.Core.Path.{◌≡◌, refl}
use Prim.Native.Nat.{ℕ, ◌+◌, ◌/◌, ◌≤◌}
use mathlib.Core.List.{List, [], map}
use lib.ListN.{length, take, drop, get_or}
use Rattle.layout.specs.Write.{write_words, write_items}
use Rattle.layout.proofs.PartLaws.{words_append}
use Rattle.shared_output.proofs.PartLaws.{Both, Begins, both-begins}
use Rattle.b3d_spec.specs.Mask.{present_words, vertex_mask}
use Rattle.b3d_check_spec.specs.CellCounts.{end_of}
use Rattle.b3d_write_row_runs.specs.Lent.{rows_in}
use Rattle.b3d_write_item_lists.specs.Runs.{sets_bytes}
use Rattle.b3d_write_mesh.specs.Mesh.{vertices_body, vertices_bytes, MeshThere, mesh_body}

module _ (ms : List ℕ) (i : ℕ) (vs : List (List ℕ)) where
  pub vertices-both : Both (vertices_body ms i vs) (write_words (take 3 (drop i ms)) [])
      (write_items write_words (map (present_words (vertex_mask (get_or ms i 0) (get_or ms (i + 1) 0) (get_or ms (i + 2) 0))) vs))
  unfolding vertices_body
  vertices-both = record { is = words_append (take 3 (drop i ms)) _ }

  pub vertices-begin : Begins (vertices_body ms i vs) (write_words (take 3 (drop i ms)) [])
  vertices-begin = both-begins vertices-both

-- the mesh row at word i, with so many vertices and sets
module _ (ms : List ℕ) (i : ℕ) (vs : List ℕ) (v : ℕ) (ss : List ℕ) (s : ℕ) (ts : List ℕ) (t count : ℕ) (e : count ≡ get_or ms (i + 6) 0) where
  pub mesh-begin : Begins (mesh_body ms i vs v ss s ts t) (vertices_bytes ms (i + 2) (take count (drop v (rows_in 42 vs))))
  unfolding mesh_body
  mesh-begin = rw e (both-begins (record { is = refl }))

  module _ (many : ℕ) (f : many ≡ get_or ms (i + 8) 0) where
    pub mesh-both : Both (mesh_body ms i vs v ss s ts t) (vertices_bytes ms (i + 2) (take count (drop v (rows_in 42 vs))))
        (sets_bytes (take many (drop s (rows_in 4 ss))) (drop t (rows_in 3 ts)))
    unfolding mesh_body
    mesh-both = rw (e, f) (record { is = refl })

pub mesh-end : (ms : List ℕ) (i : ℕ) (vs : List ℕ) (v : ℕ) (ss : List ℕ) (s : ℕ) (ts : List ℕ) (t many : ℕ) → MeshThere ms i vs v ss s ts t → many ≡ get_or ms (i + 8) 0
    → end_of t (take many (drop s (rows_in 4 ss))) ≤ length ts / 3
mesh-end ms i vs v ss s ts t many h f = rw f h.triangles
