-- Counts of lent tables as code has them, and that the counted rows of each table are there.
use Rattle.std.specs.Prelude.{ℕ, ◌*◌, ◌≤◌, Bool, ◌&&◌, List, get_or, leb}
use Rattle.b3d_spec.specs.Rules.{row_limit}
use Rattle.b3d_spec.specs.declared.Counts.{Counts}
use Rattle.b3d_spec.specs.Tables.{node_width, texture_width, brush_width, mesh_width, vertex_width, triangle_set_width, triangle_width, weight_width, key_list_width, key_width}
use Rattle.b3d_check_spec.specs.Rooms.{Limited, KindRoom, ListRoom}

-- the counts of tables 3 to 10 out of the ten counts
unfoldable pub part_counts : List ℕ → Counts
part_counts counts =
    record {
      nodes = get_or counts 2 0;
      meshes = get_or counts 3 0;
      vertices = get_or counts 4 0;
      sets = get_or counts 5 0;
      triangles = get_or counts 6 0;
      weights = get_or counts 7 0;
      lists = get_or counts 8 0;
      keys = get_or counts 9 0;
    }

-- c rows are no more than the row limit, and their words, w each, no more than l
unfoldable pub fits_in : ℕ → ℕ → ℕ → Bool
fits_in c w l = leb c row_limit && leb (w * c) l

-- the counted rows of each table are there and within the row limit: c₁ textures, c₂ brushes and the rows that a counts, in tables of l₁ to l₁₀ words
unfoldable pub rooms : ℕ → ℕ → Counts → ℕ → ℕ → ℕ → ℕ → ℕ → ℕ → ℕ → ℕ → ℕ → ℕ → Bool
rooms c₁ c₂ a l₁ l₂ l₃ l₄ l₅ l₆ l₇ l₈ l₉ l₁₀ =
    fits_in c₁ texture_width l₁
    && (fits_in c₂ brush_width l₂
    && (fits_in a.nodes node_width l₃
    && (fits_in a.meshes mesh_width l₄
    && (fits_in a.vertices vertex_width l₅
    && (fits_in a.sets triangle_set_width l₆
    && (fits_in a.triangles triangle_width l₇
    && (fits_in a.weights weight_width l₈
    && (fits_in a.lists key_list_width l₉
    && fits_in a.keys key_width l₁₀))))))))

-- the test `rooms` as facts
pub record Rooms (c₁ c₂ : ℕ) (a : Counts) (l₁ l₂ l₃ l₄ l₅ l₆ l₇ l₈ l₉ l₁₀ : ℕ) : Type 0 where
  -- the textures are within the row limit
  pub few₁ : c₁ ≤ row_limit
  -- the brushes are
  pub few₂ : c₂ ≤ row_limit
  -- the rows that a counts are
  pub limited : Limited a
  -- table 1 has its rows
  pub room₁ : texture_width * c₁ ≤ l₁
  -- table 2 has its rows
  pub room₂ : brush_width * c₂ ≤ l₂
  -- table 3 has its rows
  pub room₃ : node_width * a.nodes ≤ l₃
  -- tables 4 to 8 have their rows
  pub kinds : KindRoom a l₄ l₅ l₆ l₇ l₈
  -- tables 9 and 10 have their rows
  pub lists : ListRoom a l₉ l₁₀
