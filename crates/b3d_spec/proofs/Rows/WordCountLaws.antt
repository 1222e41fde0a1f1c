-- How many words the rows of a scene that fits have.
use mathlib.Core.Path.{◌≡◌, sym, ◌∙◌}
use Prim.Native.Nat.{ℕ}
use mathlib.Core.List.{List}
use lib.ListN.{length, replicate, length-replicate}
use lib.Dec.{leb→le}
use Rattle.layout.specs.Rules.{any}
use Rattle.layout.proofs.WellFormedLaws.{Fits}
use Rattle.layout.proofs.PartLaws.{length-fits}
use Rattle.b3d_spec.specs.declared.Mode.TheVariants.{Lenient}
use Rattle.b3d_spec.specs.Scene.{Mesh, Keys}
use Rattle.b3d_spec.specs.Rules.{texture_id, brush_ids, vertex_row, vertex_words, key_row, key_words}
use Rattle.b3d_spec.specs.Mask.{ones, vertex_mask, key_mask}
use Rattle.b3d_spec.proofs.WellFormedLaws.{FitMesh, FitKeys}
use Rattle.b3d_spec.proofs.Rows.MaskLaws.{vertex-words, key-words}

pub any-words : (n : ℕ) (ws : List ℕ) → Fits (replicate n any) ws → length ws ≡ n
any-words n ws h = length-fits (replicate n any) ws h ∙ length-replicate n any

pub ids-words : (slots textures : ℕ) (ws : List ℕ) → Fits (brush_ids slots textures) ws → length ws ≡ slots
ids-words slots textures ws h = length-fits (brush_ids slots textures) ws h ∙ length-replicate slots (texture_id textures)

-- a vertex and a key have the words that their masks have
pub vertex-ones : (n : ℕ) (m : Mesh) → FitMesh n m → (v : List ℕ) → Fits (vertex_row Lenient m.flags m.sets m.size) v → length v ≡ ones (vertex_mask m.flags m.sets m.size)
vertex-ones n m h v f =
    any-words (vertex_words m.flags m.sets m.size) v f
    ∙ sym (vertex-words m.flags m.sets m.size (leb→le m.flags 3 h.head.1) (leb→le m.sets 8 h.head.2.1) (leb→le m.size 4 h.head.2.2.1))

pub key-ones : (k : Keys) → FitKeys k → (v : List ℕ) → Fits (key_row k.flags) v → length v ≡ ones (key_mask k.flags)
key-ones k h v f = any-words (key_words k.flags) v f ∙ sym (key-words k.flags (leb→le k.flags 7 h.0.1))
