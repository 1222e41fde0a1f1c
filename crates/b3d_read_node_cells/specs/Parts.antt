-- The last eight cells of a node's row, from the flat run behind its numbers.
use Rattle.std.specs.Prelude as std
use Rattle.b3d_chunk_walk.specs.declared.FlatChunk.{FlatChunk}
use Rattle.std.specs.Prelude.{◌≡◌, ℕ, not, List, [], ◌∷◌, ◌++◌, T, Some, None}
use Rattle.wire.specs.declared.Cursor.{Cursor}
use Rattle.b3d_spec.specs.declared.Counts.{Counts}
use Rattle.b3d_spec.specs.declared.Tag.{Tag}
use Rattle.b3d_spec.specs.declared.Tag.TheVariants.{NODE}
use Rattle.b3d_spec.specs.Scene.{pivot, no_anim}
use Rattle.b3d_spec.specs.Tables.{kind_cells, anim_cells}
use Rattle.b3d_spec.specs.Tags.{Chunks, is}
use Rattle.b3d_spec_plain_rows.specs.Flat.{flat_at}
use Rattle.b3d_spec_plain_rows.specs.Rows.{kind_of, anim_of}
use Rattle.b3d_chunk_walk.specs.Walks.{ChunkIs}

-- the counts that a node's row takes from what was read before it: `meshes` meshes and `weights` weights; the others are 0 here
unfoldable pub told : ℕ → ℕ → Counts
told meshes weights = record { nodes = 0; meshes = meshes; vertices = 0; sets = 0; triangles = 0; weights = weights; lists = 0; keys = 0 }

-- kind, first, count, the ANIM's four cells and the branch word `below`, for a node with the chunks cs behind its numbers and the counts n before it
unfoldable pub part_cells : Chunks → ℕ → Counts → List ℕ
part_cells cs below n = kind_cells (kind_of cs) n ++ (anim_cells (anim_of cs) ++ (below ∷ []))

-- ---- a node's own chunks

-- the flat run from place `at` on begins with a chunk that is no NODE, and goes on at place q
pub record OwnChunk (s : List ℕ) (at : ℕ) (t : Tag) (p : ℕ) (b : Cursor) (q : ℕ) : Type 0 where
  pub chunk : ChunkIs s at t p b q
  pub other : T (not (is t NODE))

-- a flat run cs that begins with no own chunk of a node: it says nothing of kind and ANIM
pub record OwnEnds (cs : Chunks) : Type 0 where
  pub kind : kind_of cs ≡ pivot
  pub anim : anim_of cs ≡ no_anim

abbrev pub OwnIs : List ℕ → ℕ → std.Option FlatChunk → Type 0
OwnIs s at (Some f) = OwnChunk s at f.tag f.at f.body f.next
OwnIs s at None = OwnEnds (flat_at s at)

-- what `own_next` promises of its answer r at place `at` of the file s
pub record OwnSteps (s : List ℕ) (at : ℕ) (r : std.Option FlatChunk) : Type 0 where
  -- r is the own chunk that the flat run begins with, or there is none
  pub is : OwnIs s at r
