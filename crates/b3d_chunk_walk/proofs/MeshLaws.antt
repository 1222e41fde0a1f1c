-- The chunks inside a MESH, as the code finds them.
use Rattle.std.specs.Prelude.{Some, None}
use Rattle.std.specs.Prelude as std
use Rattle.b3d_chunk_walk.specs.declared.Sought.{Sought}
use mathlib.Core.Path.{◌≡◌, refl, ap, ◌∙◌}
use Prim.Native.Nat.{ℕ, ◌+◌}
use native.Mathlib.Omega.{arith}
use mathlib.Core.List.{List, [], ◌∷◌}
use lib.ListN.{length, drop}
use Rattle.wire.specs.Test.{if}
use Rattle.wire.specs.Cursors.{Inside, left}
use Rattle.wire.specs.declared.Cursor.{Cursor}
use Rattle.layout.proofs.ResultLaws.{if_no}
use Rattle.b3d_spec.specs.declared.Tag.TheVariants.{TRIS}
use Rattle.b3d_spec.specs.Tags.{Chunks, split, is}
use Rattle.b3d_spec_plain_rows.specs.Plain.{plain_triangles, sets_of}
use Rattle.b3d_chunk_walk.specs.Walks.{BodyAt}
use Rattle.b3d_chunk_walk.specs.Seeks.{seek_of, ahead, inner, Seeks, FirstWord}
use Rattle.b3d_chunk_walk.specs.declared.Headed.{Headed}
use Rattle.b3d_chunk_walk.proofs.SeekLaws.{sought_none, sought_is, by_seek}

pub mesh-inside : (s : List ℕ) (p : ℕ) (b : Cursor) → BodyAt s p b → Inside b (length s)
mesh-inside s p b x = record { before = x.room; within = x.within }

pub mesh-inner : (s : List ℕ) (p : ℕ) (b : Cursor) → BodyAt s p b → (h : Headed) → FirstWord s b h → ahead s h.rest ≡ inner p (left b s)
mesh-inner s p b x h w = let e : b.at + 4 ≡ p + 12 = omega (arith, x.head) in w.chunks ∙ ap (λ (k : ℕ). split k (drop 4 (left b s))) e

-- the sets go by the TRIS alone
sets_seek : (cs : Chunks) → sets_of cs ≡ sets_of (seek_of TRIS cs)
unfolding sets_of if
sets_seek cs =
    by_seek TRIS sets_of (λ n p. refl)
    (λ t p b r y. if_no (is t TRIS) (plain_triangles b ∷ sets_of r) (sets_of r) y)
    cs

module _ (s : List ℕ) (c : Cursor) (r : std.Option Sought) (x : Seeks s c TRIS r) where
  pub no-set : r ≡ None → sets_of (ahead s c) ≡ []
  unfolding sets_of
  no-set w = sets_seek (ahead s c) ∙ ap sets_of (sought_none s c TRIS r x w)

  pub one_set : (f : Sought) → r ≡ Some f → sets_of (ahead s c) ≡ plain_triangles (left f.body s) ∷ sets_of (ahead s f.next)
  unfolding sets_of if
  one_set f w = sets_seek (ahead s c) ∙ ap sets_of (sought_is s c TRIS r x f w)
