-- The test of a row with its group of items, and the words of an item.
use Rattle.std.specs.Prelude.{ℕ, Bool, List}
use Rattle.b3d_spec.specs.Tables.{key_width, triangle_width}
use Rattle.b3d_check_spec.specs.Check.{set_valid, key_list_valid}
use Rattle.b3d_check_row_runs.specs.declared.Run.{Run}
use Rattle.b3d_check_row_runs.specs.declared.Run.TheVariants.{Keys, Triangles}

-- the words of an item: 11 of a key, 3 of a triangle
abbrev pub run_width : Run → ℕ
run_width Keys = key_width
run_width (Triangles brushes v mesh) = triangle_width

-- the test of a row with its items: that of a key list, or that of a triangle set of mesh number `mesh`, which has v vertices
abbrev pub run_test : Run → List ℕ → List (List ℕ) → Bool
run_test Keys = key_list_valid
run_test (Triangles brushes v mesh) = set_valid brushes v mesh
