-- The triangle sets of a MESH, and their triangles, as rows.
use Rattle.std.specs.Prelude.{◌≡◌, ℕ, ◌+◌, ◌*◌, ◌≤◌, List, length}
use Rattle.std.proofs.lemmas.List.Edits.{sets as stored}
use Rattle.wire.specs.Cursors.{left}
use Rattle.wire.specs.declared.Cursor.{Cursor}
use Rattle.layout.specs.Rows.{joined}
use Rattle.b3d_spec.specs.Tables.{set_rows, triangle_rows}
use Rattle.b3d_spec_plain_rows.specs.Plain.{sets_of}
use Rattle.b3d_chunk_walk.specs.Seeks.{inner}
use Rattle.b3d_read_triangle_rows.specs.declared.After.{After}

-- the rows of table 7 for a MESH with header place p and body b
unfoldable pub triangles_in : ℕ → List ℕ → List (List ℕ)
triangles_in p b = triangle_rows (sets_of (inner p b))

-- the rows of table 6 for a MESH with header place p and body b, which is mesh number i, its first triangle being number r
unfoldable pub sets_in : ℕ → List ℕ → ℕ → ℕ → List (List ℕ)
sets_in p b i r = set_rows i r (sets_of (inner p b))

-- how many triangles a MESH with header place p and body b has
unfoldable pub triangle_count : ℕ → List ℕ → ℕ
triangle_count p b = length (triangle_rows (sets_of (inner p b)))

-- what `put_sets` promises: of the table `out`, the table `put` after it, and its answer r
pub record SetsPut (s : List ℕ) (p : ℕ) (b : Cursor) (mesh first base : ℕ) (out put : List ℕ) (r : After) : Type 0 where
  -- the rows of the sets are stored from cell `base` on, and no other cell is changed
  pub stores : put ≡ stored out base (joined (sets_in p (left b s) mesh first))
  -- the cell behind them
  pub base_is : r.base ≡ base + length (joined (sets_in p (left b s) mesh first))
  -- the number of the next triangle
  pub first_is : r.first ≡ first + triangle_count p (left b s)
  -- that cell is at most four times the body's end
  pub few_words : r.base ≤ 4 * b.end
  -- that number is at most the body's end
  pub few : r.first ≤ b.end
