-- That no row is left over, in code as in the definition.
use mathlib.Core.Path.{◌≡◌}
use Prim.Native.Nat.{ℕ}
use mathlib.Core.List.{List}
use Rattle.wire.specs.Test.{if}
use Rattle.layout.proofs.TestLaws.{and_true}
use Rattle.b3d_spec.specs.Tables.{reached}
use Rattle.b3d_spec.specs.declared.Counts.{Counts}
use Rattle.b3d_spec.proofs.Rows.RowListLaws.{cut-length}
use Rattle.b3d_check_spec.specs.Check.{spent}
use Rattle.b3d_check_node_counts.specs.Parts.{part_rows}
use Rattle.b3d_check_node_counts.specs.Ended.{ended}

pub ended-spent : (n a : Counts) (t₄ t₅ t₆ t₇ t₈ t₉ t₁₀ : List ℕ) → ended n a ≡ spent (part_rows a t₄ t₅ t₆ t₇ t₈ t₉ t₁₀) n
unfolding ended spent reached part_rows if
ended-spent n a t₄ t₅ t₆ t₇ t₈ t₉ t₁₀ =
    rw (
      cut-length 9 a.meshes t₄,
      cut-length 42 a.vertices t₅,
      cut-length 4 a.sets t₆,
      cut-length 3 a.triangles t₇,
      cut-length 2 a.weights t₈,
      cut-length 4 a.lists t₉,
      cut-length 11 a.keys t₁₀,
      and_true,
    )
