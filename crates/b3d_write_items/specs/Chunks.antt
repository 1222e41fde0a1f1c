-- The bytes of chunks whose items are words of a table as they are.
use Rattle.std.specs.Prelude.{ℕ, List, []}
use Rattle.wire.specs.Bytes.{bytes}
use Rattle.layout.specs.Write.{write_items, write_words}
use Rattle.shared_output.specs.Writing.{chunk}
use Rattle.b3d_spec.specs.Tags.{code}
use Rattle.b3d_spec.specs.declared.Tag.TheVariants.{TRIS, BONE, ANIM}

-- a TRIS of the brush b and the triangles ts
abbrev pub set_bytes : ℕ → List (List ℕ) → List ℕ
set_bytes b ts = chunk (code TRIS) (bytes b []) (write_items write_words ts)

-- a BONE of the weights ws
abbrev pub bone_bytes : List (List ℕ) → List ℕ
bone_bytes ws = chunk (code BONE) [] (write_items write_words ws)

-- an ANIM of the words ws
abbrev pub anim_bytes : List ℕ → List ℕ
anim_bytes ws = chunk (code ANIM) [] (write_words ws [])
