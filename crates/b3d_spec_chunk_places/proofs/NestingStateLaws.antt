-- States of the nesting rule that are alike: what may follow is the same.
use mathlib.Core.Path.{refl, ap, ◌≡◌}
use Prim.Native.Nat.{ℕ}
use mathlib.Core.Bool.{true, false}
use mathlib.Core.Option.{Option}
use mathlib.Core.List.{List}
use Rattle.wire.specs.Test.{if}
use Rattle.wire.specs.declared.Cursor.{Cursor}
use Rattle.layout.specs.Chunks.{done, stop, chunk}
use Rattle.b3d_spec.specs.declared.Tag.{Tag}
use Rattle.b3d_spec.specs.declared.Tag.TheVariants.{BB3D, TEXS, BRUS, NODE, MESH, VRTS, TRIS, BONE, KEYS, ANIM}
use Rattle.b3d_spec.specs.Tags.{Chunks}
use Rattle.b3d_spec.specs.Nesting.{nesting, Reached, next, onward, order, reached_at}
use Rattle.b3d_spec_chunk_places.specs.Places.{rest_in}

kind-turn : (t : Tag) → next (nesting NODE) (nesting NODE) (reached_at 1 true) t ≡ next (nesting NODE) (nesting NODE) (reached_at 2 false) t
unfolding next if
kind-turn BB3D = refl
kind-turn TEXS = refl
kind-turn BRUS = refl
kind-turn NODE = refl
kind-turn MESH = refl
kind-turn VRTS = refl
kind-turn TRIS = refl
kind-turn BONE = refl
kind-turn KEYS = refl
kind-turn ANIM = refl

pub kind-order : (head : ℕ) (cs : Chunks) → order NODE head (reached_at 1 true) cs ≡ order NODE head (reached_at 2 false) cs
unfolding order if
kind-order head done = refl
kind-order head (stop n p) = refl
kind-order head (chunk t p b l) = ap (λ (o : Option Reached). onward o p (λ q. chunk t p b (order NODE head q l))) (kind-turn t)

-- after a MESH or a BONE it is as before KEYS
pub after-kind : (s : List ℕ) (head : ℕ) (c : Cursor) → rest_in s NODE head (reached_at 1 true) c ≡ rest_in s NODE head (reached_at 2 false) c
unfolding rest_in
after-kind s head c = kind-order head _
