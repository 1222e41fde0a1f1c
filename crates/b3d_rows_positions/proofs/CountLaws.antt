-- Rows of a table after counts that are alike as far as the table's rows tell.
use mathlib.Core.Path.{◌≡◌, refl, ap, ap₂, sym, ◌∙◌}
use Prim.Native.Nat.{ℕ, ◌+◌}
use mathlib.Core.List.{List, ◌++◌}
use lib.ListN.{length}
use Rattle.wire.specs.Test.{if}
use Rattle.layout.proofs.ResultLaws.{by_test}
use Rattle.layout.specs.Chunks.{done, stop, chunk}
use Rattle.b3d_spec.specs.declared.Counts.{Counts}
use Rattle.b3d_spec.specs.declared.Tag.{Tag}
use Rattle.b3d_spec.specs.declared.Tag.TheVariants.{NODE, MESH, KEYS}
use Rattle.b3d_spec.specs.Tables.{triangle_rows}
use Rattle.b3d_spec.specs.Tags.{Chunks, is}
use Rattle.b3d_spec_plain_rows.specs.Plain.{plain_mesh, plain_keys}
use Rattle.b3d_spec_plain_rows.specs.Rows.{counted, chunk_rows, flat_rows}
use Rattle.b3d_chunk_walk.proofs.TableLaws.{Owns}
use Rattle.b3d_chunk_walk.proofs.CountLaws.{counted-nodes, counted-meshes, counted-vertices, counted-sets, counted-triangles, counted-keys}
use Rattle.b3d_read_meshes.proofs.TableLaws.{meshes, sets}
use Rattle.b3d_read_animation.proofs.TableLaws.{lists}

module _ {k : ℕ} {o : Tag} {f : ℕ → List ℕ → Counts → List (List ℕ)} (owns : Owns k o f) (R : Counts → Counts → Type 0)
    (same : (p : ℕ) (b : List ℕ) (n m : Counts) → R n m → f p b n ≡ f p b m)
    (keeps : (t : Tag) (p : ℕ) (b : List ℕ) (n m : Counts) → R n m → R (counted t p b n) (counted t p b m)) where
  alike-chunk : (t : Tag) (p : ℕ) (b : List ℕ) (n m : Counts) → R n m → chunk_rows k t p b n ≡ chunk_rows k t p b m
  alike-chunk t p b n m h =
      by_test (is t o)
      (λ y. owns.own t p b n y ∙ same p b n m h ∙ sym (owns.own t p b m y))
      (λ y. owns.other t p b n y ∙ sym (owns.other t p b m y))

  pub alike-rows : (cs : Chunks) (n m : Counts) → R n m → flat_rows k n cs ≡ flat_rows k m cs
  unfolding flat_rows
  alike-rows done n m h = refl
  alike-rows (stop i p) n m h = refl
  alike-rows (chunk t p b r) n m h = ap₂ ◌++◌ (alike-chunk t p b n m h) (alike-rows r (counted t p b n) (counted t p b m) (keeps t p b n m h))

-- ---- table 4

pub record Meshes (n m : Counts) : Type 0 where
  pub nodes : n.nodes ≡ m.nodes
  pub vertices : n.vertices ≡ m.vertices
  pub sets : n.sets ≡ m.sets

pub mesh-alike : (cs : Chunks) (n m : Counts) → Meshes n m → flat_rows 4 n cs ≡ flat_rows 4 m cs
mesh-alike =
    alike-rows meshes Meshes (λ p b n m h. rw (h.nodes, h.vertices, h.sets))
    (λ t p b n m h. record {
      nodes = counted-nodes p b n t ∙ ap (λ (i : ℕ). if (is t NODE) (i + 1) i) h.nodes ∙ sym (counted-nodes p b m t);
      vertices = counted-vertices p b n t ∙ ap (λ (i : ℕ). if (is t MESH) (i + length (plain_mesh p b).vertices) i) h.vertices ∙ sym (counted-vertices p b m t);
      sets = counted-sets p b n t ∙ ap (λ (i : ℕ). if (is t MESH) (i + length (plain_mesh p b).triangle_sets) i) h.sets ∙ sym (counted-sets p b m t);
    })

-- ---- table 6

pub record Sets (n m : Counts) : Type 0 where
  pub meshes : n.meshes ≡ m.meshes
  pub triangles : n.triangles ≡ m.triangles

pub set-alike : (cs : Chunks) (n m : Counts) → Sets n m → flat_rows 6 n cs ≡ flat_rows 6 m cs
set-alike =
    alike-rows sets Sets (λ p b n m h. rw (h.meshes, h.triangles))
    (λ t p b n m h. record {
      meshes = counted-meshes p b n t ∙ ap (λ (i : ℕ). if (is t MESH) (i + 1) i) h.meshes ∙ sym (counted-meshes p b m t);
      triangles = counted-triangles p b n t ∙ ap (λ (i : ℕ). if (is t MESH) (i + length (triangle_rows (plain_mesh p b).triangle_sets)) i) h.triangles ∙ sym (counted-triangles p b m t);
    })

-- ---- table 9

pub record Lists (n m : Counts) : Type 0 where
  pub nodes : n.nodes ≡ m.nodes
  pub keys : n.keys ≡ m.keys

pub list-alike : (cs : Chunks) (n m : Counts) → Lists n m → flat_rows 9 n cs ≡ flat_rows 9 m cs
list-alike =
    alike-rows lists Lists (λ p b n m h. rw (h.nodes, h.keys))
    (λ t p b n m h. record {
      nodes = counted-nodes p b n t ∙ ap (λ (i : ℕ). if (is t NODE) (i + 1) i) h.nodes ∙ sym (counted-nodes p b m t);
      keys = counted-keys p b n t ∙ ap (λ (i : ℕ). if (is t KEYS) (i + length (plain_keys b).items) i) h.keys ∙ sym (counted-keys p b m t);
    })
