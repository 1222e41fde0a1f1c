-- The counts after a chunk, one by one; and a tag by its letters.
use mathlib.Core.Path.{◌≡◌, refl, ap, sym, ◌∙◌}
use Prim.Native.Nat.{ℕ, ◌+◌}
use mathlib.Core.Option.{some}
use mathlib.Core.List.{List}
use lib.ListN.{length}
use lib.Dec.{T, eqb→eq}
use Rattle.wire.specs.Test.{if}
use Rattle.b3d_spec.specs.declared.Counts.{Counts}
use Rattle.b3d_spec.specs.declared.Tag.{Tag}
use Rattle.b3d_spec.specs.declared.Tag.TheVariants.{NODE, MESH, BONE, KEYS}
use Rattle.b3d_spec.specs.Tables.{with_meshes, triangle_rows}
use Rattle.b3d_spec.specs.Tags.{code, tag_of, is}
use Rattle.b3d_spec.proofs.Files.TagCodeLaws.{by-tag, tag-code}
use Rattle.b3d_spec_plain_rows.specs.Plain.{plain_mesh, plain_weights, plain_keys}
use Rattle.b3d_spec_plain_rows.specs.Rows.{counted, add_node, add_weights, add_keys}

pub tag_same : (t k : Tag) → T (is t k) → t ≡ k
tag_same t k h = let e : some t ≡ some k = sym (tag-code t) ∙ ap tag_of (eqb→eq (code t) (code k) h) ∙ tag-code k in cc

counting : Unit {0}
unfolding add_node with_meshes add_weights add_keys if
counting = tt

module _ (p : ℕ) (b : List ℕ) (n : Counts) where
  pub counted-nodes : (t : Tag) → (counted t p b n).nodes ≡ if (is t NODE) (n.nodes + 1) n.nodes
  unfolding counting
  counted-nodes = by-tag (λ t. (counted t p b n).nodes ≡ if (is t NODE) (n.nodes + 1) n.nodes) (refl, refl, refl, refl, refl, refl, refl, refl, refl, refl)

  pub counted-meshes : (t : Tag) → (counted t p b n).meshes ≡ if (is t MESH) (n.meshes + 1) n.meshes
  unfolding counting
  counted-meshes = by-tag (λ t. (counted t p b n).meshes ≡ if (is t MESH) (n.meshes + 1) n.meshes) (refl, refl, refl, refl, refl, refl, refl, refl, refl, refl)

  pub counted-vertices : (t : Tag) → (counted t p b n).vertices ≡ if (is t MESH) (n.vertices + length (plain_mesh p b).vertices) n.vertices
  unfolding counting
  counted-vertices = by-tag (λ t. (counted t p b n).vertices ≡ if (is t MESH) (n.vertices + length (plain_mesh p b).vertices) n.vertices) (refl, refl, refl, refl, refl, refl, refl, refl, refl, refl)

  pub counted-sets : (t : Tag) → (counted t p b n).sets ≡ if (is t MESH) (n.sets + length (plain_mesh p b).triangle_sets) n.sets
  unfolding counting
  counted-sets = by-tag (λ t. (counted t p b n).sets ≡ if (is t MESH) (n.sets + length (plain_mesh p b).triangle_sets) n.sets) (refl, refl, refl, refl, refl, refl, refl, refl, refl, refl)

  pub counted-triangles : (t : Tag) → (counted t p b n).triangles ≡ if (is t MESH) (n.triangles + length (triangle_rows (plain_mesh p b).triangle_sets)) n.triangles
  unfolding counting
  counted-triangles = by-tag (λ t. (counted t p b n).triangles ≡ if (is t MESH) (n.triangles + length (triangle_rows (plain_mesh p b).triangle_sets)) n.triangles) (refl, refl, refl, refl, refl, refl, refl, refl, refl, refl)

  pub counted-weights : (t : Tag) → (counted t p b n).weights ≡ if (is t BONE) (n.weights + length (plain_weights b)) n.weights
  unfolding counting
  counted-weights = by-tag (λ t. (counted t p b n).weights ≡ if (is t BONE) (n.weights + length (plain_weights b)) n.weights) (refl, refl, refl, refl, refl, refl, refl, refl, refl, refl)

  pub counted-keys : (t : Tag) → (counted t p b n).keys ≡ if (is t KEYS) (n.keys + length (plain_keys b).items) n.keys
  unfolding counting
  counted-keys = by-tag (λ t. (counted t p b n).keys ≡ if (is t KEYS) (n.keys + length (plain_keys b).items) n.keys) (refl, refl, refl, refl, refl, refl, refl, refl, refl, refl)
