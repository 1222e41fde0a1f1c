-- The colours of lent tables.
use Rattle.std.specs.Prelude.{ℕ, Bool, List, eqb}
use Rattle.wire.specs.Test.{if}
use Rattle.b3d_spec.specs.Colours.{passes}
use Rattle.b3d_spec.specs.Rebuild.{cut}
use Rattle.b3d_spec.specs.declared.Mode.{Mode}
use Rattle.b3d_spec.specs.Tables.{brush_width, vertex_width}

-- the mode accepts the colours of the first `brushes` rows of table 2 and the first `vertices` rows of table 5
unfoldable pub colours_part : Mode → ℕ → List ℕ → ℕ → List ℕ → Bool
colours_part mode brushes t₂ vertices t₅ = passes mode (λ k. if (eqb k 2) (cut brush_width brushes t₂) (cut vertex_width vertices t₅))
