-- What each of the tables 4 to 7 has of a chunk: the rows of a MESH, and no other.
use mathlib.Core.Path.{◌≡◌, refl}
use Prim.Native.Nat.{ℕ, ◌-◌}
use mathlib.Core.Bool.{not}
use mathlib.Core.List.{List, [], ◌∷◌}
use lib.Dec.{T}
use Rattle.wire.specs.Test.{if}
use Rattle.b3d_spec.specs.declared.Counts.{Counts}
use Rattle.b3d_spec.specs.declared.Tag.{Tag}
use Rattle.b3d_spec.specs.declared.Tag.TheVariants.{MESH}
use Rattle.b3d_spec.specs.Tables.{mesh_row, mesh_rows, vertex_rows}
use Rattle.b3d_spec.specs.Tags.{is}
use Rattle.b3d_spec.proofs.Files.TagCodeLaws.{by-tag}
use Rattle.b3d_spec_plain_rows.specs.Flat.{flat}
use Rattle.b3d_spec_plain_rows.specs.Plain.{plain_weights, plain_keys, plain_mesh, mesh_of}
use Rattle.b3d_spec_plain_rows.specs.Rows.{current, weight_rows, key_list_rows, chunk_rows, file_rows}
use Rattle.b3d_chunk_walk.proofs.TableLaws.{Owns, owns-rows}
use Rattle.b3d_read_item_rows.specs.Items.{shape_rows}
use Rattle.b3d_read_mesh_rows.specs.Meshes.{vertices_in, mesh_cells}
use Rattle.b3d_read_triangle_rows.specs.Sets.{triangles_in, sets_in}

-- a table without rows of weights and keys has none of another chunk
other : (k : ℕ) → ((b : List ℕ) → weight_rows k (plain_weights b) ≡ []) → ((i j : ℕ) (b : List ℕ) → key_list_rows k i j (plain_keys b) ≡ []) → (t : Tag) (p : ℕ) (b : List ℕ) (n : Counts) → T (not (is t MESH)) → chunk_rows k t p b n ≡ []
other k bones keys t p b n =
    by-tag (λ u. T (not (is u MESH)) → chunk_rows k u p b n ≡ [])
    (λ h. refl, λ h. refl, λ h. refl, λ h. refl, λ h. absurd h, λ h. refl, λ h. refl, λ h. bones b, λ h. keys (n.nodes - 1) n.keys b, λ h. refl) t

pub meshes : Owns 4 MESH (λ p b n. mesh_cells (n.nodes - 1) n.vertices n.sets (plain_mesh p b) ∷ [])
unfolding file_rows flat if mesh_rows mesh_row current mesh_cells weight_rows key_list_rows
meshes = owns-rows 4 MESH _ (λ s. refl) (λ p b n. refl) (other 4 (λ b. refl) (λ i j b. refl))

pub vertices : Owns 5 MESH (λ p b n. vertices_in p b)
unfolding file_rows flat if mesh_rows vertex_rows plain_mesh mesh_of vertices_in shape_rows weight_rows key_list_rows
vertices = owns-rows 5 MESH _ (λ s. refl) (λ p b n. refl) (other 5 (λ b. refl) (λ i j b. refl))

pub sets : Owns 6 MESH (λ p b n. sets_in p b n.meshes n.triangles)
unfolding file_rows flat if mesh_rows plain_mesh mesh_of current sets_in weight_rows key_list_rows
sets = owns-rows 6 MESH _ (λ s. refl) (λ p b n. refl) (other 6 (λ b. refl) (λ i j b. refl))

pub triangles : Owns 7 MESH (λ p b n. triangles_in p b)
unfolding file_rows flat if mesh_rows plain_mesh mesh_of triangles_in weight_rows key_list_rows
triangles = owns-rows 7 MESH _ (λ s. refl) (λ p b n. refl) (other 7 (λ b. refl) (λ i j b. refl))
