-- What each of the tables 8 to 10 has of a chunk: the rows of a BONE or of a KEYS, and no other.
use mathlib.Core.Path.{◌≡◌, refl}
use Prim.Native.Nat.{ℕ, ◌-◌}
use mathlib.Core.Bool.{not}
use mathlib.Core.List.{List, [], ◌∷◌}
use lib.Dec.{T}
use Rattle.wire.specs.Test.{if}
use Rattle.b3d_spec.specs.declared.Counts.{Counts}
use Rattle.b3d_spec.specs.declared.Tag.{Tag}
use Rattle.b3d_spec.specs.declared.Tag.TheVariants.{BONE, KEYS}
use Rattle.b3d_spec.specs.Scene.{Mesh}
use Rattle.b3d_spec.specs.Tables.{mesh_rows}
use Rattle.b3d_spec.specs.Tags.{is}
use Rattle.b3d_spec.proofs.Files.TagCodeLaws.{by-tag}
use Rattle.b3d_spec_plain_rows.specs.Flat.{flat}
use Rattle.b3d_spec_plain_rows.specs.Plain.{whole, plain_weights, plain_keys, plain_mesh}
use Rattle.b3d_spec_plain_rows.specs.Rows.{current, weight_rows, list_row, key_list_rows, chunk_rows, file_rows}
use Rattle.b3d_chunk_walk.proofs.TableLaws.{Owns, owns-rows}
use Rattle.b3d_read_item_rows.specs.Items.{key_rows_of}

-- a table of key lists has no rows of another chunk
other : (k : ℕ) → ((m : Mesh) (n : Counts) → mesh_rows k (m ∷ []) n ≡ []) → ((b : List ℕ) → weight_rows k (plain_weights b) ≡ []) → (t : Tag) (p : ℕ) (b : List ℕ) (n : Counts) → T (not (is t KEYS)) → chunk_rows k t p b n ≡ []
other k meshes bones t p b n =
    by-tag (λ u. T (not (is u KEYS)) → chunk_rows k u p b n ≡ [])
    (λ h. refl, λ h. refl, λ h. refl, λ h. refl, λ h. meshes (plain_mesh p b) (current n), λ h. refl, λ h. refl, λ h. bones b, λ h. absurd h, λ h. refl) t

not-bones : (t : Tag) (p : ℕ) (b : List ℕ) (n : Counts) → T (not (is t BONE)) → chunk_rows 8 t p b n ≡ []
unfolding mesh_rows key_list_rows if
not-bones t p b n =
    by-tag (λ u. T (not (is u BONE)) → chunk_rows 8 u p b n ≡ [])
    (λ h. refl, λ h. refl, λ h. refl, λ h. refl, λ h. refl, λ h. refl, λ h. refl, λ h. absurd h, λ h. refl, λ h. refl) t

pub bones : Owns 8 BONE (λ p b n. whole 2 b)
unfolding file_rows flat if weight_rows plain_weights
bones = owns-rows 8 BONE _ (λ s. refl) (λ p b n. refl) not-bones

pub lists : Owns 9 KEYS (λ p b n. list_row (n.nodes - 1) n.keys (plain_keys b) ∷ [])
unfolding file_rows flat if mesh_rows weight_rows key_list_rows
lists = owns-rows 9 KEYS _ (λ s. refl) (λ p b n. refl) (other 9 (λ m n. refl) (λ b. refl))

pub keys : Owns 10 KEYS (λ p b n. key_rows_of b)
unfolding file_rows flat if mesh_rows weight_rows key_list_rows key_rows_of
keys = owns-rows 10 KEYS _ (λ s. refl) (λ p b n. refl) (other 10 (λ m n. refl) (λ b. refl))
