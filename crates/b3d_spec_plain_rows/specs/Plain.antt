-- What the body of a chunk holds, on any bytes and with no rule: a number that is not there is 0, an item that is not all there is left out.
use Rattle.std.specs.Prelude.{ℕ, zero, suc, ◌+◌, ◌*◌, ◌/◌, List, [], ◌∷◌, length, drop, get_or, replicate}
use Rattle.wire.specs.Test.{if}
use Rattle.layout.specs.Chunks.{done, stop, chunk}
use Rattle.layout.specs.Result.{Result, accept, reject}
use Rattle.layout.specs.Parts.{Name, Step, named, words_of, items_of}
use Rattle.layout.specs.Rules.{any}
use Rattle.b3d_spec.specs.declared.Tag.TheVariants.{VRTS, TRIS}
use Rattle.b3d_spec.specs.Mask.{ones, vertex_mask, key_mask}
use Rattle.b3d_spec.specs.Parse.{Vertices, no_vertices}
use Rattle.b3d_spec.specs.Scene.{TriangleSet, Mesh, Keys}
use Rattle.b3d_spec.specs.Tags.{Chunks, split, is}

-- the items of n words of s that are all there; a cut item at the end is left out
unfoldable pub whole : ℕ → List ℕ → List (List ℕ)
whole n s = items_of (length s / (4 * n)) n s

-- ---- chunks of numbers

-- the flags of a KEYS with body b: its first number, 0 where that is not there
abbrev pub key_flags_of : List ℕ → ℕ
key_flags_of b = get_or (words_of 1 b) 0 0

-- a KEYS with body b: its flags and the keys behind them
unfoldable pub plain_keys : List ℕ → Keys
plain_keys b = record { flags = key_flags_of b; items = whole (ones (key_mask (key_flags_of b))) (drop 4 b) }

-- the weights of a BONE with body b, two words each
unfoldable pub plain_weights : List ℕ → List (List ℕ)
plain_weights b = whole 2 b

-- number i of the first three numbers of body b, from 0; 0 where it is not there
abbrev pub of_three : List ℕ → ℕ → ℕ
of_three b i = get_or (words_of 3 b) i 0

-- the three values of an ANIM with body b
unfoldable pub plain_anim : List ℕ → List ℕ
plain_anim b = of_three b 0 ∷ of_three b 1 ∷ of_three b 2 ∷ []

-- a VRTS with body b: flags, sets, set size and the vertices behind them
unfoldable pub plain_vertices : List ℕ → Vertices
plain_vertices b = record {
  flags = of_three b 0;
  sets = of_three b 1;
  size = of_three b 2;
  items = whole (ones (vertex_mask (of_three b 0) (of_three b 1) (of_three b 2))) (drop 12 b);
}

-- a TRIS with body b: its brush and the triangles behind it
unfoldable pub plain_triangles : List ℕ → TriangleSet
plain_triangles b = record { brush = get_or (words_of 1 b) 0 0; triangles = whole 3 (drop 4 b) }

-- ---- a MESH

-- the first VRTS among chunks; no vertices where there is none
unfoldable pub shape_of : Chunks → Vertices
shape_of done = no_vertices
shape_of (stop n p) = no_vertices
shape_of (chunk t p b r) = if (is t VRTS) (plain_vertices b) (shape_of r)

-- every TRIS among chunks, in their order
unfoldable pub sets_of : Chunks → List TriangleSet
sets_of done = []
sets_of (stop n p) = []
sets_of (chunk t p b r) = if (is t TRIS) (plain_triangles b ∷ sets_of r) (sets_of r)

-- a mesh of this brush, with the first VRTS and every TRIS of the chunks cs
unfoldable pub mesh_of : ℕ → Chunks → Mesh
mesh_of brush cs =
    let v = shape_of cs in
    record { brush = brush; flags = v.flags; sets = v.sets; size = v.size; vertices = v.items; triangle_sets = sets_of cs }

-- a MESH whose header is at p, with body b: the brush, and the chunks behind it
unfoldable pub plain_mesh : ℕ → List ℕ → Mesh
plain_mesh p b = mesh_of (get_or (words_of 1 b) 0 0) (split (p + 12) (drop 4 b))

-- ---- items that are a text and words

-- the named item that was read, then what `rest` gives behind it; nothing where it was refused
unfoldable pub next_item : (ℕ → List ℕ → List (Name × List ℕ)) → Result (Step (Name × List ℕ)) → List (Name × List ℕ)
next_item rest (accept x) = x.value ∷ rest x.place x.left
next_item rest (reject n p) = []

-- the items of a text and `words` words in s, which begins at place p, up to the first that is not all there; at most f items
unfoldable pub named_in : ℕ → ℕ → ℕ → List ℕ → List (Name × List ℕ)
named_in zero words p s = []
named_in (suc f) words p s = next_item (named_in f words) (named (replicate words any) p s)

-- the items of a text and `words` words in s, which begins at place p, up to the first that is not all there
unfoldable pub named_items : ℕ → ℕ → List ℕ → List (Name × List ℕ)
named_items words p s = named_in (length s) words p s
