-- The words and the rules of rows that name vertices.
use Rattle.std.specs.Prelude.{ℕ, List}
use Rattle.layout.specs.Rules.{Rule}
use Rattle.b3d_spec.specs.Rules.{triangle_row, weight_row}
use Rattle.b3d_check_rows.specs.declared.Ids.{Ids}
use Rattle.b3d_check_rows.specs.declared.Ids.TheVariants.{Triangles, Weights}

-- the words of such a row: 3 of a triangle, 2 of a weight
abbrev pub id_width : Ids → ℕ
id_width Triangles = 3
id_width Weights = 2

-- the rules of such a row, whose vertices are below v
abbrev pub id_row : Ids → ℕ → List Rule
id_row Triangles v = triangle_row v
id_row Weights v = weight_row v
