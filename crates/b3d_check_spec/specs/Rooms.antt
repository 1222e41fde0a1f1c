-- Counts and the tables that they count: no count is above the row limit, and a table has the words of its counted rows.
use Rattle.std.specs.Prelude.{ℕ, ◌*◌, ◌≤◌}
use Rattle.b3d_spec.specs.Rules.{row_limit}
use Rattle.b3d_spec.specs.declared.Counts.{Counts}
use Rattle.b3d_spec.specs.Tables.{mesh_width, vertex_width, triangle_set_width, triangle_width, weight_width, key_list_width, key_width}

-- no count of a is above the row limit
pub record Limited (a : Counts) : Type 0 where
  pub nodes : a.nodes ≤ row_limit
  pub meshes : a.meshes ≤ row_limit
  pub vertices : a.vertices ≤ row_limit
  pub sets : a.sets ≤ row_limit
  pub triangles : a.triangles ≤ row_limit
  pub weights : a.weights ≤ row_limit
  pub lists : a.lists ≤ row_limit
  pub keys : a.keys ≤ row_limit

-- tables 4 to 8, of words₄ to words₈ words, have the rows that a counts
pub record KindRoom (a : Counts) (words₄ words₅ words₆ words₇ words₈ : ℕ) : Type 0 where
  -- nine words for each mesh
  pub room₄ : mesh_width * a.meshes ≤ words₄
  -- 42 words for each vertex
  pub room₅ : vertex_width * a.vertices ≤ words₅
  -- four words for each triangle set
  pub room₆ : triangle_set_width * a.sets ≤ words₆
  -- three words for each triangle
  pub room₇ : triangle_width * a.triangles ≤ words₇
  -- two words for each weight
  pub room₈ : weight_width * a.weights ≤ words₈

-- tables 9 and 10, of words₉ and words₁₀ words, have the rows that a counts
pub record ListRoom (a : Counts) (words₉ words₁₀ : ℕ) : Type 0 where
  -- four words for each key list
  pub room₉ : key_list_width * a.lists ≤ words₉
  -- eleven words for each key
  pub room₁₀ : key_width * a.keys ≤ words₁₀
