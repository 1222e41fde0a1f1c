-- Lent tables cut to their counted rows: c₁ textures, c₂ brushes, and the rows that a counts.
use Rattle.std.specs.Prelude.{ℕ, ◌*◌, List, take}
use Rattle.b3d_spec.specs.Scene.{Scene}
use Rattle.b3d_spec.specs.Tables.{node_width, texture_width, brush_width, mesh_width, vertex_width, triangle_set_width, triangle_width, weight_width, key_list_width, key_width}
use Rattle.b3d_spec.specs.declared.Counts.{Counts}
use Rattle.b3d_write_node.specs.Own.{table_rows}
use Rattle.b3d_write_file.specs.Whole.{OfScene}

-- a scene has the version, n_texs and the counted rows of these tables, with names in ns
abbrev pub OfCounted : List ℕ → ℕ → ℕ → ℕ → ℕ → Counts → List ℕ → List ℕ → List ℕ → List ℕ → List ℕ → List ℕ → List ℕ → List ℕ → List ℕ
    → List ℕ → Scene → Type 0
OfCounted ns version slots c₁ c₂ a t₁ t₂ t₃ t₄ t₅ t₆ t₇ t₈ t₉ t₁₀ =
    OfScene ns (take (texture_width * c₁) t₁) (take (brush_width * c₂) t₂)
    (table_rows (take (node_width * a.nodes) t₃) (take (mesh_width * a.meshes) t₄) (take (vertex_width * a.vertices) t₅) (take (triangle_set_width * a.sets) t₆)
    (take (triangle_width * a.triangles) t₇) (take (weight_width * a.weights) t₈) (take (key_list_width * a.lists) t₉)
    (take (key_width * a.keys) t₁₀)) version slots
