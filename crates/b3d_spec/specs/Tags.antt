-- The ten known tags, their four letters as a number, and the chunks that have them.
use Rattle.std.specs.Prelude.{ℕ, Bool, List, eqb}
use Rattle.std.proofs.Math.Option.{Option, none, some}
use Rattle.wire.specs.Test.{if}
use Rattle.b3d_spec.specs.declared.Tag.{Tag}
use Rattle.b3d_spec.specs.declared.Tag.TheVariants.{BB3D, TEXS, BRUS, NODE, MESH, VRTS, TRIS, BONE, KEYS, ANIM}
use Rattle.layout.specs.Chunks.{Chunks as ChunksOf, Found as FoundOf, split as split_of}
use Rattle.layout.specs.Write.{Chunk as ChunkOf, write_chunk as write_chunk_of, write_chunks as write_chunks_of}

-- the four letters of a tag as a number, the first one lowest
abbrev pub code : Tag → ℕ
code BB3D = 0x44334242
code TEXS = 0x53584554
code BRUS = 0x53555242
code NODE = 0x45444F4E
code MESH = 0x4853454D
code VRTS = 0x53545256
code TRIS = 0x53495254
code BONE = 0x454E4F42
code KEYS = 0x5359454B
code ANIM = 0x4D494E41

-- the number of a tag, that of BB3D 0, in the order of 01's list of known tags
abbrev pub tag_number : Tag → ℕ
tag_number BB3D = 0
tag_number TEXS = 1
tag_number BRUS = 2
tag_number NODE = 3
tag_number MESH = 4
tag_number VRTS = 5
tag_number TRIS = 6
tag_number BONE = 7
tag_number KEYS = 8
tag_number ANIM = 9

-- a and b are one tag
abbrev pub is : Tag → Tag → Bool
is a b = eqb (code a) (code b)

-- the known tag with the letters n, if there is one
unfoldable pub tag_of : ℕ → Option Tag
tag_of n =
    if (eqb n (code BB3D)) (some BB3D)
    (if (eqb n (code TEXS)) (some TEXS)
    (if (eqb n (code BRUS)) (some BRUS)
    (if (eqb n (code NODE)) (some NODE)
    (if (eqb n (code MESH)) (some MESH)
    (if (eqb n (code VRTS)) (some VRTS)
    (if (eqb n (code TRIS)) (some TRIS)
    (if (eqb n (code BONE)) (some BONE)
    (if (eqb n (code KEYS)) (some KEYS)
    (if (eqb n (code ANIM)) (some ANIM) none)))))))))

-- ---- the parts of layout at these tags

-- the chunks of these tags in a stretch of bytes
abbrev pub Chunks : Type 0
Chunks = ChunksOf Tag

-- what was found among chunks of these tags, and the chunks after it
abbrev pub Found : Type 0 → Type 0
Found A = FoundOf Tag A

-- the chunks of the bytes s from place p on; a chunk of another tag is passed over
abbrev pub split : ℕ → List ℕ → Chunks
split p s = split_of tag_of p s

-- a chunk of one of these tags, to be written
abbrev pub Chunk : Type 0
Chunk = ChunkOf Tag

-- a chunk of tag t with body b before r: tag, length, body
abbrev pub write_chunk : Tag → List ℕ → List ℕ → List ℕ
write_chunk t b r = write_chunk_of code t b r

-- the chunks of the list one after the other
abbrev pub write_chunks : List Chunk → List ℕ
write_chunks l = write_chunks_of code l
