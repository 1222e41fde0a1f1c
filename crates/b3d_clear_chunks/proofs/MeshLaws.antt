-- A law for each way through `clear_mesh`.
use Rattle.std.specs.Prelude.{Some, None}
use Rattle.std.specs.Prelude as std
use mathlib.Core.Path.{◌≡◌, refl, ap, sym, subst}
use Prim.Native.Nat.{ℕ, ◌≤◌}
use mathlib.Core.List.{List}
use lib.ListN.{length}
use Rattle.wire.specs.Bytes.{bytes}
use Rattle.wire.specs.Cursors.{left, number_at}
use Rattle.wire.specs.declared.Cursor.{Cursor}
use Rattle.layout.specs.Rules.{any}
use Rattle.layout.specs.Rows.{most_bytes}
use Rattle.shared_output.specs.Writing.{Room, Put}
use Rattle.shared_output.proofs.PartLaws.{none-put}
use Rattle.b3d_spec.specs.Tags.{code}
use Rattle.b3d_spec.specs.declared.Tag.TheVariants.{MESH}
use Rattle.b3d_spec_chunk_places.specs.Places.{Body}
use Rattle.b3d_spec_chunk_places.proofs.HeadLaws.{head_cut, head_got}
use Rattle.b3d_clear_spec.specs.Copies.{chunk_of, chunks_at, in_mesh, mesh_of, mesh_copy}
use Rattle.b3d_clear_materials.proofs.ListLaws.{texs_inside, list_inside}

module _ (s : List ℕ) (at : ℕ) (b : Cursor) (body : Body at b (length s)) (out : List ℕ) (r : std.Option (ℕ × Cursor)) (e : r ≡ number_at s b) where
  pub mesh-cut : r ≡ None → Put (mesh_copy at (left b s)) out out 0
  unfolding mesh_copy mesh_of
  mesh-cut w = none-put (mesh_copy at (left b s)) out (ap mesh_of (head_cut s at b body r e any w))

  module _ (k : ℕ) (c : Cursor) (w : r ≡ Some (k, c)) where
    mesh-is : mesh_copy at (left b s) ≡ chunk_of (code MESH) (bytes k (in_mesh (chunks_at s c)))
    unfolding mesh_copy mesh_of
    mesh-is = ap mesh_of (head_got s at b body r e k c w any refl)

    pub mesh-small : length s ≤ most_bytes
    mesh-small = body.small

    pub mesh-room : Room (mesh_copy at (left b s)) out → Room (chunk_of (code MESH) (bytes k (in_mesh (chunks_at s c)))) out
    mesh-room q = subst (λ (x : List ℕ). Room x out) mesh-is q

    pub mesh-done : (ys : List ℕ) (n : ℕ) → Put (chunk_of (code MESH) (bytes k (in_mesh (chunks_at s c)))) out ys n → Put (mesh_copy at (left b s)) out ys n
    mesh-done ys n q = subst (λ (x : List ℕ). Put x out ys n) (sym mesh-is) q

pub ruleset mesh_laws = (texs_inside, mesh-cut, list_inside, mesh-small, mesh-room, mesh-done)
