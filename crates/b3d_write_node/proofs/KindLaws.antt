-- A node's kind: which chunk is written for it.
use mathlib.Core.Path.{◌≡◌, refl, ap, ◌∙◌}
use Prim.Native.Nat.{ℕ, ◌+◌, ◌*◌, ◌/◌, ◌^◌, ◌<◌, ◌≤◌}
use native.Mathlib.Nat.{add-zero}
use native.Mathlib.Omega.{arith}
use mathlib.Core.List.{List, [], ◌∷◌, ◌++◌}
use mir.Syntax.{w64}
use mir.Val.{Fits}
use lib.ListN.{length, take, drop, get_or}
use lib.Seq.{get_or-drop}
use borrow.Author.Tests.{ne_eqb}
use Rattle.wire.specs.Bytes.{bytes}
use Rattle.wire.specs.Test.{if}
use Rattle.layout.specs.Write.{Chunk, write_words, write_items, write_chunks}
use Rattle.shared_output.specs.Writing.{chunk}
use Rattle.shared_output.proofs.AppendLaws.{chunks-cons}
use Rattle.shared_output.proofs.PartLaws.{chunk-is}
use Rattle.b3d_spec.specs.Encode.{write_vertices, write_mesh, set_chunks, kind_chunks}
use Rattle.b3d_spec.specs.Rebuild.{mesh_from, kind_from}
use Rattle.b3d_spec.specs.Scene.{Mesh, Kind, pivot, mesh, bone}
use Rattle.b3d_spec.specs.Tags.{code}
use Rattle.b3d_spec.specs.declared.Counts.{Counts}
use Rattle.b3d_spec.specs.declared.Tag.{Tag}
use Rattle.b3d_spec.specs.declared.Tag.TheVariants.{MESH, VRTS, BONE}
use Rattle.b3d_write_row_runs.specs.Lent.{rows_in}
use Rattle.b3d_write_items.specs.Chunks.{bone_bytes}
use Rattle.b3d_write_item_lists.specs.Runs.{sets_bytes}
use Rattle.b3d_write_mesh.specs.Mesh.{vertices_body, vertices_bytes, MeshThere, mesh_body, mesh_bytes}
use Rattle.b3d_write_node.specs.Own.{table_rows, kind_bytes, KindThere}
use Rattle.b3d_write_row_runs.proofs.CellLaws.{rows_cell, three-words}

-- ---- a mesh

mesh-chunk : (m : Mesh) → write_chunks code (kind_chunks (mesh m) []) ≡ chunk (code MESH) (bytes m.brush []) (chunk (code VRTS) [] (write_vertices m) ++ write_chunks code (set_chunks m.triangle_sets))
unfolding write_chunks write_mesh
mesh-chunk m =
    chunk-is code MESH (bytes m.brush []) (write_chunks code (record { tag = VRTS; body = write_vertices m } ∷ set_chunks m.triangle_sets))
    ∙ ap (λ (l : List ℕ). chunk (code MESH) (bytes m.brush []) l)
    (chunks-cons code (record { tag = VRTS; body = write_vertices m }) (set_chunks m.triangle_sets)
    ∙ ap (λ (l : List ℕ). l ++ write_chunks code (set_chunks m.triangle_sets)) (chunk-is code VRTS [] (write_vertices m)))

-- x is the mesh row that begins at word i of ms
module _ (x ms : List ℕ) (i : ℕ) (cell : (j : ℕ) → j < 9 → get_or x j 0 ≡ get_or ms (i + j) 0) (h : i + 9 ≤ length ms) (vs ss ts : List (List ℕ)) where
  vertices-of : write_vertices (mesh_from x vs ss ts) ≡ vertices_body ms (i + 2) (take (get_or ms (i + 6) 0) vs)
  unfolding write_vertices mesh_from vertices_body
  vertices-of =
      let a : i + 2 + 1 ≡ i + 3 = omega arith in
      let b : i + 2 + 2 ≡ i + 4 = omega arith in
      rw (three-words ms (i + 2) (omega arith), a, b, cell 2 (omega arith), cell 3 (omega arith), cell 4 (omega arith), cell 6 (omega arith))

  mesh-of : write_chunks code (kind_chunks (mesh (mesh_from x vs ss ts)) [])
      ≡ chunk (code MESH) (bytes (get_or ms (i + 1) 0) []) (vertices_bytes ms (i + 2) (take (get_or ms (i + 6) 0) vs) ++ sets_bytes (take (get_or ms (i + 8) 0) ss) ts)
  unfolding mesh_from
  mesh-of = mesh-chunk (mesh_from x vs ss ts) ∙ rw (vertices-of, cell 1 (omega arith), cell 8 (omega arith))

-- ---- the chunk of a kind

module _ (ms vs ss ts ws : List ℕ) (n : Counts) (k c : ℕ) where
  pub kind-none : (k ≡ 1 → ⊥) → (k ≡ 2 → ⊥) → kind_bytes ms vs ss ts ws n k c ≡ []
  unfolding kind_bytes kind_from if write_chunks
  kind-none h g = rw (ne_eqb k 1 h, ne_eqb k 2 g)

  -- `many` is the count as the code has it
  module _ (many : ℕ) (f : many ≡ c) (e : k ≡ 2) where
    pub kind-bone : kind_bytes ms vs ss ts ws n k c ≡ bone_bytes (take many (drop n.weights (rows_in 2 ws)))
    unfolding kind_bytes kind_from table_rows if write_chunks
    kind-bone = rw (e, f) (chunk-is code BONE [] (write_items write_words (take c (drop n.weights (rows_in 2 ws)))))

    pub bone-there : KindThere ms vs ss ts ws n k c → n.weights + many ≤ length ws / 2
    bone-there h = rw f (h.bone e)

  module _ (h : KindThere ms vs ss ts ws n k c) (e : k ≡ 1) where
    pub mesh-there : MeshThere ms (9 * n.meshes) vs n.vertices ss n.sets ts n.triangles
    mesh-there = h.mesh e

    -- its first word is a place in the table, which has fewer than 2 ^ 63 bytes
    pub mesh-place : length ms * 4 < 2 ^ 63 → Fits w64 (9 * n.meshes)
    mesh-place l = record { fits = omega (arith, mesh-there.row) }

    pub kind-mesh : kind_bytes ms vs ss ts ws n k c ≡ mesh_bytes ms (9 * n.meshes) vs n.vertices ss n.sets ts n.triangles
    unfolding kind_bytes kind_from table_rows if mesh_body
    kind-mesh =
        let t = mesh-there.row in
        let first : get_or (drop n.meshes (rows_in 9 ms)) 0 [] ≡ get_or (rows_in 9 ms) n.meshes [] = get_or-drop n.meshes (rows_in 9 ms) 0 [] ∙ rw (add-zero n.meshes) in
        rw (e, first)
        (mesh-of (get_or (rows_in 9 ms) n.meshes []) ms (9 * n.meshes) (λ j l. rows_cell 9 ms n.meshes j (omega arith) l) t
        (drop n.vertices (rows_in 42 vs)) (drop n.sets (rows_in 4 ss)) (drop n.triangles (rows_in 3 ts)))

pub ruleset kind_laws = (kind-none, kind-bone, bone-there, mesh-there, mesh-place, kind-mesh)

-- the chunk of a kind before others
pub kind-append : (k : Kind) (r : List (Chunk Tag)) → write_chunks code (kind_chunks k r) ≡ write_chunks code (kind_chunks k []) ++ write_chunks code r
unfolding write_chunks
kind-append pivot r = refl
kind-append (mesh m) r = chunks-cons code (record { tag = MESH; body = write_mesh m }) r
kind-append (bone ws) r = chunks-cons code (record { tag = BONE; body = write_items write_words ws }) r
