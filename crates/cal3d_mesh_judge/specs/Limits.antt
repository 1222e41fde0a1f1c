-- The row counts of a mesh, and the answer by them.
use Rattle.std.specs.Prelude.{ℕ, zero, suc, ◌+◌, List, [], ◌∷◌, leb}
use Rattle.wire.specs.Test.{if}
use Rattle.layout.specs.Result.{reject}
use Rattle.layout.specs.Refusals as refusals
use Rattle.cal3d_spec.specs.Answers.{mesh_answer}
use Rattle.cal3d_spec.specs.declared.MeshAnswer.{MeshAnswer}
use Rattle.cal3d_spec.specs.Tables.{most_rows}
use Rattle.cal3d_mesh_submesh_lists.specs.declared.Contents.{Contents}

-- the rows of the six tables of a mesh with this number of submeshes, whose other rows are t
abbrev pub row_counts : ℕ → Contents → List ℕ
row_counts submeshes t = submeshes ∷ t.vertices ∷ t.maps ∷ t.influences ∷ t.springs ∷ t.faces ∷ []

-- the first of tables k, k + 1, .. that has more rows than a table may have; 0 if there is none
unfoldable pub first_over : ℕ → List ℕ → ℕ
first_over k [] = 0
first_over k (n ∷ l) = if (leb n most_rows) (first_over (k + 1) l) k

-- the answer of an accepted file with this number of submeshes, whose other rows are t
abbrev pub accepted_as : ℕ → Contents → MeshAnswer
accepted_as submeshes t = record { number = 0; place = 0; head = 700 ∷ submeshes ∷ []; counts = row_counts submeshes t }

-- the answer by the first table with too many rows: 10 at that table, or accepted if it is 0
unfoldable pub over_as : ℕ → ℕ → Contents → MeshAnswer
over_as zero submeshes t = accepted_as submeshes t
over_as (suc k) submeshes t = mesh_answer (reject refusals.too_many_rows (suc k))

-- the answer of a file by its row counts
unfoldable pub limited_as : ℕ → Contents → MeshAnswer
limited_as submeshes t = over_as (first_over 1 (row_counts submeshes t)) submeshes t
