-- What a walk over a chunk puts or counts, and answers.
use Rattle.std.specs.Prelude.{◌≡◌, ℕ, Bool, false, List}
use Rattle.b3d_spec.specs.declared.Tag.{Tag}
use Rattle.shared_put_or_count.specs.Emits.{Emits}
use Rattle.b3d_mend_write_scopes.specs.Shown.{ChunkShown, walk_leaf, file_scope}
use Rattle.b3d_mend_write_leaves.specs.declared.Walk.{Walk}

-- the count of a chunk that holds no chunks: the same in every scope
unfoldable pub leaf_count : Tag → ℕ → List ℕ → ℕ
leaf_count t p b = (walk_leaf false file_scope t p b).count

-- what w shows was put into xs from `at` on, which gave ys, or counted; r says where it ends, and what w counts
pub record Walks (wet : Bool) (w : ChunkShown) (xs : List ℕ) (at : ℕ) (ys : List ℕ) (r : Walk) : Type 0 where
  pub put : Emits wet w.bytes xs at ys r.at
  pub counted : r.count ≡ w.count
