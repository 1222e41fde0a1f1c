-- The vertices of a MESH: a law for each way through `store_vertices`.
use Rattle.std.specs.Prelude.{Some, None}
use Rattle.std.specs.Prelude as std
use Rattle.b3d_chunk_walk.specs.declared.Sought.{Sought}
use mathlib.Core.Path.{◌≡◌, refl, ap, sym, ◌∙◌}
use Prim.Native.Nat.{ℕ, ◌+◌, ◌≤◌}
use native.Mathlib.Omega.{arith}
use mathlib.Core.List.{List, []}
use lib.ListN.{length}
use lib.Seq.{sets}
use Rattle.wire.specs.Test.{if}
use Rattle.wire.specs.Cursors.{Inside, left}
use Rattle.wire.specs.declared.Cursor.{Cursor}
use Rattle.layout.proofs.ResultLaws.{if_no}
use Rattle.b3d_spec.specs.declared.Tag.TheVariants.{VRTS}
use Rattle.layout.specs.Rows.{joined}
use Rattle.b3d_spec.specs.Tags.{Chunks, is}
use Rattle.b3d_spec_plain_rows.specs.Plain.{plain_vertices, shape_of}
use Rattle.b3d_chunk_walk.specs.Walks.{BodyAt}
use Rattle.b3d_chunk_walk.specs.Seeks.{seek_of, ahead, Seeks, FirstWord}
use Rattle.b3d_chunk_walk.specs.declared.Headed.{Headed}
use Rattle.b3d_chunk_walk.proofs.SeekLaws.{sought_none, sought_is, sought_body, by_seek}
use Rattle.b3d_chunk_walk.proofs.MeshLaws.{mesh-inside, mesh-inner}
use Rattle.b3d_chunk_walk.proofs.FirstWordLaws.{word-inside}
use Rattle.b3d_read_mesh_rows.specs.Meshes.{vertices_in}
use Rattle.b3d_read_item_rows.specs.Items.{shape_rows}

pub shape_seek : (cs : Chunks) → shape_of cs ≡ shape_of (seek_of VRTS cs)
unfolding shape_of if
shape_seek cs =
    by_seek VRTS shape_of (λ n p. refl)
    (λ t p b r y. if_no (is t VRTS) (plain_vertices b) (shape_of r) y)
    cs

module _ (s : List ℕ) (p : ℕ) (b : Cursor) (y : BodyAt s p b) (h : Headed) (u : FirstWord s b h) (r : std.Option Sought) (x : Seeks s h.rest VRTS r) where
  shape_is : vertices_in p (left b s) ≡ shape_rows (shape_of (seek_of VRTS (ahead s h.rest)))
  unfolding vertices_in
  shape_is = ap (λ l. shape_rows (shape_of l)) (sym (mesh-inner s p b y h u)) ∙ ap shape_rows (shape_seek (ahead s h.rest))

  module _ (w : r ≡ None) where
    none : vertices_in p (left b s) ≡ []
    unfolding shape_of shape_rows
    none = shape_is ∙ ap (λ l. shape_rows (shape_of l)) (sought_none s h.rest VRTS r x w)

    pub none_end : (base : ℕ) → base ≡ base + length (joined (vertices_in p (left b s)))
    unfolding joined
    none_end base = rw none (omega arith)

    pub none-put : (base : ℕ) (out : List ℕ) → out ≡ sets out base (joined (vertices_in p (left b s)))
    unfolding joined
    none-put base out = rw none

  module _ (f : Sought) (w : r ≡ Some f) where
    some : vertices_in p (left b s) ≡ shape_rows (plain_vertices (left f.body s))
    unfolding shape_of if
    some = shape_is ∙ ap (λ l. shape_rows (shape_of l)) (sought_is s h.rest VRTS r x f w)

    pub shape_body : Inside f.body (length s)
    shape_body = sought_body s h.rest VRTS r x f w (length s) u.inside

    module _ (base : ℕ) (out : List ℕ) where
      pub shape-room : base + length (joined (vertices_in p (left b s))) ≤ length out → base + length (joined (shape_rows (plain_vertices (left f.body s)))) ≤ length out
      shape-room m = rw some at m

      pub shape-end : (to : ℕ) → to ≡ base + length (joined (shape_rows (plain_vertices (left f.body s)))) → to ≡ base + length (joined (vertices_in p (left b s)))
      shape-end to e = rw some e

      pub shape-put : (put : List ℕ) → put ≡ sets out base (joined (shape_rows (plain_vertices (left f.body s)))) → put ≡ sets out base (joined (vertices_in p (left b s)))
      shape-put put e = rw some e

pub ruleset mesh_laws = (mesh-inside, word-inside, none_end, none-put, shape_body, shape-room, shape-end, shape-put)
