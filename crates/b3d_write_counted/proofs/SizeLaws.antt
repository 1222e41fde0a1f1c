-- Tables cut to their counted rows are as long as those.
use Prim.Native.Nat.{ℕ, ◌*◌}
use mathlib.Core.List.{List}
use lib.ListN.{length, take}
use lib.Seq.{length-take-le}
use Rattle.b3d_spec.specs.Tables.{node_width}
use Rattle.b3d_spec.specs.declared.Counts.{Counts}
use Rattle.b3d_check_table_lengths.specs.LentRooms.{Rooms}
use Rattle.b3d_write_nodes.specs.Walk.{TablesSized}

pub are_sized : (c₁ c₂ l₁ l₂ : ℕ) (a : Counts) (t₃ t₄ t₅ t₆ t₇ t₈ t₉ t₁₀ : List ℕ) → Rooms c₁ c₂ a l₁ l₂ (length t₃) (length t₄) (length t₅) (length t₆) (length t₇) (length t₈) (length t₉) (length t₁₀)
    → TablesSized a (take (node_width * a.nodes) t₃) (take (9 * a.meshes) t₄) (take (42 * a.vertices) t₅) (take (4 * a.sets) t₆) (take (3 * a.triangles) t₇) (take (2 * a.weights) t₈) (take (4 * a.lists) t₉) (take (11 * a.keys) t₁₀)
are_sized c₁ c₂ l₁ l₂ a t₃ t₄ t₅ t₆ t₇ t₈ t₉ t₁₀ r =
    record {
      nodes = length-take-le (node_width * a.nodes) t₃ r.room₃;
      meshes = length-take-le (9 * a.meshes) t₄ r.kinds.room₄;
      vertices = length-take-le (42 * a.vertices) t₅ r.kinds.room₅;
      sets = length-take-le (4 * a.sets) t₆ r.kinds.room₆;
      triangles = length-take-le (3 * a.triangles) t₇ r.kinds.room₇;
      weights = length-take-le (2 * a.weights) t₈ r.kinds.room₈;
      lists = length-take-le (4 * a.lists) t₉ r.lists.room₉;
      keys = length-take-le (11 * a.keys) t₁₀ r.lists.room₁₀;
      limited = r.limited;
    }
