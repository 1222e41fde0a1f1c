-- What holds at each of the ten tags holds at any. A tag's number gives the tag, and is a word.
use mathlib.Core.Path.{◌≡◌, refl}
use mathlib.Core.Option.{some}
use lib.Dec.{lit<}
use Rattle.wire.specs.Bytes.{IsWord}
use Rattle.wire.specs.Test.{if}
use Rattle.b3d_spec.specs.declared.Tag.{Tag}
use Rattle.b3d_spec.specs.declared.Tag.TheVariants.{BB3D, TEXS, BRUS, NODE, MESH, VRTS, TRIS, BONE, KEYS, ANIM}
use Rattle.b3d_spec.specs.Tags.{code, tag_of}

-- in the order of the list of tags
pub by-tag : (P : Tag → Type 0) → P BB3D × P TEXS × P BRUS × P NODE × P MESH × P VRTS × P TRIS × P BONE × P KEYS × P ANIM → (t : Tag) → P t
by-tag P h BB3D = h.0
by-tag P h TEXS = h.1
by-tag P h BRUS = h.2
by-tag P h NODE = h.3
by-tag P h MESH = h.4
by-tag P h VRTS = h.5
by-tag P h TRIS = h.6
by-tag P h BONE = h.7
by-tag P h KEYS = h.8
by-tag P h ANIM = h.9

pub tag-code : (t : Tag) → tag_of (code t) ≡ some t
unfolding tag_of if
tag-code = by-tag (λ t. tag_of (code t) ≡ some t) (refl, refl, refl, refl, refl, refl, refl, refl, refl, refl)

pub code-word : (t : Tag) → IsWord (code t)
code-word = by-tag (λ t. IsWord (code t)) (lit< tt, lit< tt, lit< tt, lit< tt, lit< tt, lit< tt, lit< tt, lit< tt, lit< tt, lit< tt)
